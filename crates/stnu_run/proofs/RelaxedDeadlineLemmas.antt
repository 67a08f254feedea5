-- What `deadline` puts for a relaxed plan.
use Rattle.std.proofs.Common.{◌≡◌, ◌↔◌, ℕ, ℤ, ◌≤ℤ◌, ◌<ℤ◌, int_lt, Bool, true, false, ◌<◌, ◌≤◌, List, ◌++◌, Some, unsigned_abs, refl, sym, ap, ◌∙◌, subst, arith, inl, inr}
use Rattle.std.specs.Fmt.{signed_decimal}
use Rattle.std.specs.List.{position}
use Rattle.std.specs.Option.{option_map}
use Rattle.std.specs.Str.{bytes_eq}
use Rattle.std.proofs.lemmas.Bool.Decides.{nat_tests}
use Rattle.std.proofs.lemmas.Int.{ints}
use Rattle.std.proofs.lemmas.Option.{same_Some}
use Rattle.texts.specs.Lines.{lines}
use Rattle.net_model.specs.Limits.{most_number}
use Rattle.net_model.specs.Network.{HasPlanNumbers, IsPlan, IsPoint, Plan, point_named}
use Rattle.net_model.specs.declared.ids.PointId.{PointId}
use Rattle.net_model.proofs.EditLemmas.{point_within}
use Rattle.strategy_model.specs.Control.{IsControllable}
use Rattle.relaxation_laws.specs.Laws.{RelaxedAreControllable}
use Rattle.relaxation_laws.specs.Relaxations.{IsRelaxed}
use Rattle.relaxation_laws.proofs.RelaxationLemmas.{relaxed_with_bound}
use Rattle.cert_format.specs.CertificateWords.{printed_certificate}
use Rattle.deadline_search.specs.Answers.{IsAnswerOf}
use Rattle.deadline_search.specs.Deadlines.{IsDeadline, IsFull, highest, lowest}
use Rattle.deadline_search.specs.Goals.{IsGoalName, goal_bound}
use Rattle.deadline_search.specs.declared.answer.Deadline.{Deadline}
use Rattle.deadline_search.specs.declared.answer.Deadline.TheVariants.{Floor, Least, Never, NotControllable}
use Rattle.command_engine.specs.Endings.{end_number}
use Rattle.command_engine.specs.Inputs.{AnswersLineOrRefuses, last_before}
use Rattle.command_engine.specs.declared.endings.End.{End}
use Rattle.common_answers.specs.Faults.{refusing}
use Rattle.input_texts.specs.PlanInput.{in_notation, plan_in}
use Rattle.input_texts.proofs.PlanInputLemmas.{input_one, input_sound}
use Rattle.command_contracts.specs.Causes.{IsAnswer}
use Rattle.command_contracts.specs.Programs.{Defines, Program, PromiseHolds}
use Rattle.command_contracts.specs.Requests.{program_of_request, requested_by}
use Rattle.command_contracts.specs.declared.status.Status.{Status}
use Rattle.command_contracts.proofs.DecidedLemmas.{no_refusal_is_controllable}
use Rattle.deadline_command.specs.DeadlineAnswers.{at_lowest, deadline_answers, deadline_line, deadline_request, deadline_syntax, deadline_text, kept_text}
use Rattle.deadline_command.specs.DeadlinePromise.{DeadlinePromise, IsPromised, deadline_program}
use Rattle.deadline_command.specs.Points.{PlanPoints, bounds_limit_fault, goal_number, points_in}
use Rattle.deadline_command.specs.Words.{SayDeadline}
use Rattle.deadline_command.specs.declared.points.DeadlineWords.{DeadlineWords}
use Rattle.stnu_run.specs.DeadlineCertificates.{with_goal_between}
use Rattle.stnu_run.specs.RelaxedDeadlines.{IsDeadlineRun, PutsTightest, RelaxedDeadlinesAreNoGreater}
use Rattle.stnu_run.specs.RelaxedPlans.{BeginRelaxed}
use Rattle.stnu_run.proofs.DeadlineProofLemmas.{goal_sound, points_made, spare_of}
use Rattle.stnu_run.proofs.RelaxedPlanLemmas.{answer_by, no_answer}
use Rattle.stnu_run.proofs.PlanNumberLemmas.{declared_numbers}

-- the network of an input, its two points, and what is said of them
record AskedOf (said : DeadlineWords) (input : List ℕ) (query : PlanPoints) : Type 0 where
  rest : List (List ℕ)
  declared : (points_in said).declares (lines input) query rest
  plain : (plan_in (in_notation said.notation)).declares (lines input) query.net rest
  from : point_named query.net said.from ≡ Some query.from
  to : point_named query.net said.to ≡ Some query.to

asked_of : (said : DeadlineWords) (input : List ℕ) (query : PlanPoints) (rest : List (List ℕ)) → (points_in said).declares (lines input) query rest → AskedOf said input query
asked_of said input query rest declared =
    let made = points_made _ declared.value (point_named declared.value said.from) (point_named declared.value said.to) query declared.passes in
    record {
      rest = rest;
      declared = declared;
      plain = subst (λ (n : Plan). (plan_in (in_notation said.notation)).declares (lines input) n rest) made.2 declared.declared;
      from = subst (λ (n : Plan). point_named n said.from ≡ Some query.from) made.2 made.0;
      to = subst (λ (n : Plan). point_named n said.to ≡ Some query.to) made.2 made.1;
    }

-- ---- a number that is put, and by which query
record IsPutOf (said : DeadlineWords) (input : List ℕ) (most : ℤ) : Type 0 where
  query : PlanPoints
  asked : AskedOf said input query
  roomy : ¬ IsFull query.net
  controllable : IsControllable query.net
  promised : IsPromised query most

-- what begins as what is put of a controllable network
kept_by : (said : DeadlineWords) (input put more : List ℕ) (word : List ℕ) (end : End) → AnswersLineOrRefuses (points_in said) refusing (deadline_answers said) input put end → put ≡ kept_text said word more
    → (query : PlanPoints) × AskedOf said input query × (¬ IsFull query.net)
kept_by said input put more word end (inl (query, after, declared, inl puts)) same = (query, asked_of said input query after declared, puts.spare_capacity)
kept_by said input put more word end (inl (query, after, declared, inr puts)) same =
    absurd (no_refusal_is_controllable (bounds_limit_fault (goal_number said.notation (last_before after (lines input)))) (deadline_line said word ++ more) (sym puts.line ∙ same))
kept_by said input put more word end (inr (fault, first, puts)) same = absurd (no_refusal_is_controllable fault (deadline_line said word ++ more) (sym puts.0 ∙ same))

put_of : (said : DeadlineWords) (input put : List ℕ) (end : End) (most : ℤ) → DeadlinePromise said input put end → PutsTightest said most put → IsPutOf said input most
put_of said input put end most promise (inl (within, (more, same))) =
    let (query, asked, roomy) = kept_by said input put more (signed_decimal most) end promise.answers.answers same in
    record {
      query = query;
      asked = asked;
      roomy = roomy;
      controllable = promise.controllable (deadline_line said (signed_decimal most) ++ more) same query asked.rest asked.declared;
      promised = promise.tightest most more within same query asked.rest asked.declared;
    }
put_of said input put end most promise (inr (least, (more, same))) =
    let (query, asked, roomy) = kept_by said input put more at_lowest end promise.answers.answers same in
    record {
      query = query;
      asked = asked;
      roomy = roomy;
      controllable = promise.controllable (deadline_line said at_lowest ++ more) same query asked.rest asked.declared;
      promised = subst (IsPromised query) (sym least) (promise.at_most more same query asked.rest asked.declared);
    }

-- ---- points of the same names
named_alike : (net other : Plan) (name other_name : List ℕ) (point other_point : PointId) → net.points ≡ other.points → name ≡ other_name → point_named net name ≡ Some point
    → point_named other other_name ≡ Some other_point → point ≡ other_point
named_alike net other name other_name point other_point points names first second =
    same_Some point other_point
    (sym first ∙ (ap (λ (all : List (List ℕ)). option_map (λ k. let p : PointId = record { 0 = k } in p) (position (bytes_eq name) all)) points
    ∙ (ap (point_named other) names ∙ second)))

-- ---- deadlines of networks
no_greater : (less most : ℤ) → (most <ℤ less → ⊥) → less ≤ℤ most
no_greater less most never = by (int_lt most less) refl
  where
    by : (below : Bool) → int_lt most less ≡ below → less ≤ℤ most
    by true is = absurd (never (grind (arith, ints, nat_tests)))
    by false is = grind (arith, ints, nat_tests)

within_plan : (n : ℤ) → lowest ≤ℤ n → n ≤ℤ highest → unsigned_abs n ≤ most_number
within_plan n low high = omega (arith, ints, low, high)

module _ (controllable : RelaxedAreControllable) (query other : PlanPoints) (relaxed : IsRelaxed query.net other.net) (same_from : query.from ≡ other.from) (same_to : query.to ≡ other.to)
    (plan : IsPlan query.net) (numbers : HasPlanNumbers query.net)
    (from_inside : IsPoint query.net query.from) (to_inside : IsPoint query.net query.to) (roomy : ¬ IsFull query.net) (holds : IsControllable query.net) where
  -- a deadline of the network is one of what that is relaxed to
  deadline_kept : (name other_name : List ℕ) (most : ℤ) → IsGoalName query.net name → IsDeadline query.net (record { name = name; from = query.from; to = query.to }) most
      → IsDeadline other.net (record { name = other_name; from = other.from; to = other.to }) most
  deadline_kept name other_name most named is =
      let spare = spare_of query plan numbers from_inside to_inside roomy holds in
      let sound = goal_sound query.net plan numbers query.from query.to from_inside to_inside spare name named most is.from_lowest is.to_highest in
      record {
        from_lowest = is.from_lowest;
        to_highest = is.to_highest;
        kept = controllable (with_goal_between query name most) (with_goal_between other other_name most) sound
            (relaxed_with_bound query.net other.net relaxed (goal_bound (record { name = name; from = query.from; to = query.to }) most)
            (goal_bound (record { name = other_name; from = other.from; to = other.to }) most) (same_from, same_to, omega (arith, ints))) is.kept;
      }

  -- so what is answered for it is a number that is no greater
  answered : (other_said : DeadlineWords) (other_put : List ℕ) (most : ℤ) → IsPromised query most → (deadline : Deadline) → IsAnswerOf other.net other.from other.to deadline → other_put ≡ deadline_text other_said deadline
      → (less : ℤ) × (less ≤ℤ most) × PutsTightest other_said less other_put
  answered other_said other_put most promised (NotControllable refutation) is text =
      absurd (is.0 (controllable query.net other.net plan relaxed holds))
  answered other_said other_put most promised (Never name refutation) is text =
      absurd (is.says.none most (deadline_kept promised.name name most promised.named promised.tightest.deadline))
  answered other_said other_put most promised (Least name less proof refutation) is text =
      let also = is.says.tightest.deadline in
      let low = also.from_lowest in
      let high = also.to_highest in (
        less,
        no_greater less most (λ below. is.says.tightest.least most below (deadline_kept promised.name name most promised.named promised.tightest.deadline)),
        inl (within_plan less low high, (printed_certificate proof ++ printed_certificate refutation, text)),
      )
  answered other_said other_put most promised (Floor name proof) is text =
      (lowest, promised.tightest.deadline.from_lowest, inr (refl, (printed_certificate proof, text)))

-- ---- by the inputs
module _ (keeps : (said : DeadlineWords) → PromiseHolds (deadline_program said))
    (deadline_words : (words : List (List ℕ)) (said : DeadlineWords) → requested_by deadline_syntax deadline_request words ≡ Some said ↔ SayDeadline deadline_syntax said words)
    (controllable : RelaxedAreControllable) where
  -- what a defined run of `deadline` promises
  promise_of : (said : DeadlineWords) (input put : List ℕ) (status : Status) → IsDeadlineRun said input put status → (end : End) × (status ≡ record { 0 = end_number end }) × DeadlinePromise said input put end
  promise_of said input put status run =
      let (end, is, runs) = subst (λ (one : Program). Defines one input put status) (ap (program_of_request deadline_program) ((deadline_words run.asked said).1 run.say)) run.defined in
      (end, is, keeps said input put end runs)

  module _ (said other_said : DeadlineWords) (input other other_put : List ℕ) (same_from : said.from ≡ other_said.from) (same_to : said.to ≡ other_said.to)
      (begin : BeginRelaxed (in_notation said.notation) (in_notation other_said.notation) input other) (most : ℤ) (is : IsPutOf said input most) where
    answer_of : (query : PlanPoints) → AskedOf other_said other query → (deadline : Deadline) → IsAnswerOf query.net query.from query.to deadline → other_put ≡ deadline_text other_said deadline
        → (less : ℤ) × (less ≤ℤ most) × PutsTightest other_said less other_put
    answer_of query asked deadline answer text =
        let first = is.query in
        let net = input_one (in_notation said.notation) (lines input) begin.net first.net begin.rest is.asked.rest begin.declared is.asked.plain in
        let other_net = input_one (in_notation other_said.notation) (lines other) begin.other_net query.net begin.other_rest asked.rest begin.other_declared asked.plain in
        let relaxed : IsRelaxed first.net query.net = subst (λ (n : Plan). IsRelaxed n query.net) net (subst (λ (n : Plan). IsRelaxed begin.net n) other_net begin.relaxed) in
        let from = named_alike first.net query.net said.from other_said.from first.from query.from relaxed.points same_from is.asked.from asked.from in
        let to = named_alike first.net query.net said.to other_said.to first.to query.to relaxed.points same_to is.asked.to asked.to in
        let sound = input_sound (in_notation said.notation) (lines input) first.net is.asked.rest is.asked.plain in
        let numbers = declared_numbers (in_notation said.notation) (lines input) first.net is.asked.rest is.asked.plain in
        let from_inside = point_within first.net said.from first.from is.asked.from in
        let to_inside = point_within first.net said.to first.to is.asked.to in
        answered controllable first query relaxed from to sound numbers from_inside to_inside is.roomy is.controllable other_said other_put most is.promised deadline answer text

    puts_by : (end : End) → IsAnswer end → AnswersLineOrRefuses (points_in other_said) refusing (deadline_answers other_said) other other_put end → (less : ℤ) × (less ≤ℤ most) × PutsTightest other_said less other_put
    puts_by end answer (inl (query, after, declared, inl puts)) = answer_of query (asked_of other_said other query after declared) puts.deadline puts.is puts.text
    puts_by end answer (inl (query, after, declared, inr puts)) = absurd (no_answer (bounds_limit_fault (goal_number other_said.notation (last_before after (lines other)))) (subst (λ (e : End). IsAnswer e) puts.done answer))
    puts_by end answer (inr (fault, first, puts)) = absurd (no_answer fault (subst (λ (e : End). IsAnswer e) puts.1 answer))

  pub relaxed_deadlines_are_no_greater : RelaxedDeadlinesAreNoGreater
  relaxed_deadlines_are_no_greater said other_said input other put other_put status other_status run other_run same_from same_to begin most puts verdict =
      let (end, is, promise) = promise_of said input put status run in
      let (other_end, other_is, other_promise) = promise_of other_said other other_put other_status other_run in
      puts_by said other_said input other other_put same_from same_to begin most (put_of said input put end most promise puts) other_end (answer_by other_end other_status other_is verdict) other_promise.answers.answers
