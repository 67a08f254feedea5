-- The certificates that `deadline` puts are accepted by `judge`, each given the plan text of the network with the bound to which it belongs.
use Rattle.std.proofs.Common.{◌≡◌, ◌↔◌, ℕ, ℤ, pos, ◌-ℤ◌, ◌≤ℤ◌, ◌<◌, List, [], ◌++◌, length, Option, Some, None, Result, Ok, sym, ap, subst, arith, IsTrue, inl, inr}
use Rattle.std.proofs.lemmas.Int.{ints}
use Rattle.std.proofs.lemmas.Bool.{cases_lt}
use Rattle.texts.specs.Lines.{input_lines}
use Rattle.net_model.specs.EditedNetwork.{edited}
use Rattle.net_model.specs.Limits.{most_bounds}
use Rattle.net_model.specs.Names.{is_name}
use Rattle.net_model.specs.Network.{Plan, HasPlanNumbers, IsPlan, IsPoint, point_named}
use Rattle.net_model.specs.NetworkParts.{point_name}
use Rattle.net_model.specs.declared.edit.Edit.TheVariants.{AddBound}
use Rattle.net_model.specs.declared.ids.PointId.{PointId}
use Rattle.net_model.proofs.EditLemmas.{point_within}
use Rattle.net_model.proofs.EditSoundness.{law_edits_keep_sound}
use Rattle.cert_format.specs.CertificateWords.{printed_certificate}
use Rattle.cert_format.specs.declared.certificate.Certificate.{Certificate}
use Rattle.net_model.specs.ShownForm.{shown_form}
use Rattle.strategy_model.specs.Control.{IsControllable}
use Rattle.cert_checker.specs.Judgement.{judgement_of}
use Rattle.cert_checker.specs.declared.judgement.Claim.{Claim}
use Rattle.cert_checker.specs.declared.judgement.Claim.TheVariants as claim
use Rattle.cert_checker.specs.declared.judgement.Judgement.TheVariants.{Accepted}
use Rattle.deadline_search.specs.Answers.{IsAnswerOf}
use Rattle.deadline_search.specs.Deadlines.{IsFull, highest, lowest}
use Rattle.deadline_search.specs.Goals.{IsGoalName, with_goal}
use Rattle.deadline_search.specs.Trials.{IsGoalFor}
use Rattle.deadline_search.specs.declared.answer.Deadline.{Deadline}
use Rattle.deadline_search.specs.declared.answer.Deadline.TheVariants.{NotControllable, Never, Least, Floor}
use Rattle.deadline_search.proofs.GoalLemmas.{goal_added}
use Rattle.deadline_search.proofs.NameLemmas.{as_many_bounds, goal_named}
use Rattle.command_engine.specs.Inputs.{DeclaresWithinLimits, texts}
use Rattle.command_engine.specs.declared.endings.End.{End}
use Rattle.common_answers.specs.declared.faults.Fault.{Fault}
use Rattle.input_texts.specs.PlanInput.{in_notation}
use Rattle.input_texts.specs.declared.plan_input.Notation.TheVariants.{Text}
use Rattle.input_texts.specs.declared.proof_input.ProofKind.TheVariants.{Control}
use Rattle.input_texts.proofs.PlanInputLemmas.{input_sound}
use Rattle.command_contracts.specs.Programs.{Defines, Program, PromiseHolds}
use Rattle.command_contracts.specs.Requests.{program_of_request, requested_by}
use Rattle.judge_command.specs.JudgeAnswers.{judge_request, judge_syntax, judgement_line}
use Rattle.judge_command.specs.JudgePromise.{judge_program}
use Rattle.judge_command.specs.Words.{SayJudge}
use Rattle.judge_command.specs.declared.judge_question.Judge.{Judge}
use Rattle.deadline_command.specs.DeadlineAnswers.{deadline_answers, deadline_request, deadline_syntax}
use Rattle.deadline_command.specs.DeadlinePromise.{deadline_program}
use Rattle.deadline_command.specs.Points.{PlanPoints, points_by, points_in}
use Rattle.deadline_command.specs.Words.{SayDeadline}
use Rattle.deadline_command.specs.declared.points.DeadlineWords.{DeadlineWords}
use Rattle.stnu_run.specs.DefinedRuns.{DefinedRun}
use Rattle.stnu_run.specs.RunClaims.{HoldsOfDefinedRuns}
use Rattle.stnu_run.specs.PrintedCertificates.{judge_of}
use Rattle.stnu_run.specs.SessionCertificates.{IsAcceptedAs}
use Rattle.stnu_run.specs.DeadlineCertificates.{AreAccepted, DeadlinePutsAccepted, PutsAcceptedDeadline, with_goal_between}
use Rattle.stnu_run.proofs.PrintedPlanLemmas.{accepted_after_plan}
use Rattle.stnu_run.proofs.PlanNumberLemmas.{declared_numbers}

abbrev judging : Program
judging = judge_program (judge_of (in_notation Text) Control)

-- ---- the network with the bound of a goal
-- as many bounds have the names before the first one that is free
few_before : (net : Plan) → IsPlan net → (name : List ℕ) (named : IsGoalName net name) → named.place < 20001
few_before net plan name named =
    elim (cases_lt named.place 20001) [
      | inl below ↦ below
      | inr past ↦
          let many = as_many_bounds net 20001 (omega arith) (λ earlier below. named.first earlier (omega (arith, past, below))) in
          let few = plan.few_bounds in
          absurd (omega (arith, many, few))
    ]

module _ (net : Plan) (plan : IsPlan net) (numbers : HasPlanNumbers net) (from to : PointId) (from_inside : IsPoint net from) (to_inside : IsPoint net to) (spare : length net.bounds < most_bounds) (name : List ℕ) (named : IsGoalName net name) where
  is_named : IsTrue (is_name name)
  is_named = let few = few_before net plan name named in subst (λ (n : List ℕ). IsTrue (is_name n)) (sym named.is) (goal_named named.place (omega (arith, few)))

  for : IsGoalFor net (record { name = name; from = from; to = to })
  for = record { from_point = from_inside; to_point = to_inside; free = named.free; spare_capacity = spare }

  module _ (most : ℤ) (low : lowest ≤ℤ most) (high : most ≤ℤ highest) where
    added : edited net (AddBound name (point_name net.points from) (point_name net.points to) most) ≡ Ok (with_goal net (record { name = name; from = from; to = to }) most)
    added = goal_added net (record { name = name; from = from; to = to }) most plan for low high

    pub goal_sound : IsPlan (with_goal net (record { name = name; from = from; to = to }) most)
    goal_sound =
        (law_edits_keep_sound net (AddBound name (point_name net.points from) (point_name net.points to) most) (with_goal net (record { name = name; from = from; to = to }) most) added).sound plan
        (is_named, plan.points_named from.0 [] from_inside, plan.points_named to.0 [] to_inside)

    pub goal_numbers : HasPlanNumbers (with_goal net (record { name = name; from = from; to = to }) most)
    goal_numbers =
        (law_edits_keep_sound net (AddBound name (point_name net.points from) (point_name net.points to) most) (with_goal net (record { name = name; from = from; to = to }) most) added).numbers numbers

-- ---- its certificates
module _ (query : PlanPoints) (plan : IsPlan query.net) (numbers : HasPlanNumbers query.net) (from_inside : IsPoint query.net query.from) (to_inside : IsPoint query.net query.to) (roomy : ¬ IsFull query.net) where
  pub spare_of : IsControllable query.net → length query.net.bounds < most_bounds
  spare_of controllable =
      elim (cases_lt (length query.net.bounds) most_bounds) [
        | inl below ↦ below
        | inr past ↦ let few = plan.few_bounds in absurd (roomy (record { controllable = controllable; bounds = omega (arith, past, few) }))
      ]

  at_number : (name : List ℕ) → IsGoalName query.net name → IsControllable query.net → (most : ℤ) → lowest ≤ℤ most → most ≤ℤ highest → (cert : Certificate) (stated : Claim)
      → judgement_of (shown_form (with_goal_between query name most)) cert ≡ Accepted stated
      → IsAcceptedAs judging (with_goal_between query name most) (printed_certificate cert) (judgement_line (Accepted stated))
  at_number name named controllable most low high cert stated accepted fits =
      let spare = spare_of controllable in
      accepted_after_plan (with_goal_between query name most) (goal_sound query.net plan numbers query.from query.to from_inside to_inside spare name named most low high)
      (goal_numbers query.net plan numbers query.from query.to from_inside to_inside spare name named most low high) cert stated accepted fits

  answer_accepted : (deadline : Deadline) → IsAnswerOf query.net query.from query.to deadline → AreAccepted judging query deadline
  answer_accepted (NotControllable refutation) (never, refutes) = λ fits. accepted_after_plan query.net plan numbers refutation claim.NotControllable refutes.accepted fits
  answer_accepted (Never name refutation) has =
      at_number name has.named has.controllable highest (omega (arith, ints)) (omega (arith, ints)) refutation claim.NotControllable has.says.refuted.accepted
  answer_accepted (Least name most proof refutation) has =
      let deadline = has.says.tightest.deadline in
      let above = has.says.above_lowest in
      let high = deadline.to_highest in (
        at_number name has.named has.controllable most deadline.from_lowest deadline.to_highest proof claim.Controllable has.says.proved.accepted,
        at_number name has.named has.controllable (most -ℤ pos 1) (omega (arith, ints, above)) (omega (arith, ints, high)) refutation claim.NotControllable has.says.refuted.accepted,
      )
  answer_accepted (Floor name proof) has =
      at_number name has.named has.controllable lowest (omega (arith, ints)) (omega (arith, ints)) proof claim.Controllable has.says.proved.accepted

-- ---- by the input
pub points_made : (reported : ℕ) (net : Plan) (from to : Option PointId) (query : PlanPoints) → ◌≡◌ {A = Result PlanPoints Fault} (points_by reported net from to) (Ok query)
    → (from ≡ Some query.from) × (to ≡ Some query.to) × (net ≡ query.net)
points_made reported net None to query is = absurd (cc)
points_made reported net (Some from) None query is = absurd (cc)
points_made reported net (Some from) (Some to) query is =
    let same : record { net = net; from = from; to = to } ≡ query = cc in
    (ap (λ (q : PlanPoints). Some q.from) same, ap (λ (q : PlanPoints). Some q.to) same, ap (λ (q : PlanPoints). q.net) same)

puts_by : (said : DeadlineWords) (input put : List ℕ) (query : PlanPoints) → DeclaresWithinLimits (points_in said) (input_lines input) query → ¬ IsFull query.net → (number : ℕ) (end : End) → deadline_answers said query number put end
    → PutsAcceptedDeadline judging said query put
puts_by said input put query within roomy number end (inl puts) =
    let passes = within.declares.declared in
    let made = points_made _ passes.value (point_named passes.value said.from) (point_named passes.value said.to) query passes.passes in
    let all = texts (within.used ++ within.rest) in
    let sound = input_sound (in_notation said.notation) all passes.value (texts within.rest) passes.declared in
    let numbers = declared_numbers (in_notation said.notation) all passes.value (texts within.rest) passes.declared in
    let from = subst (λ (n : Plan). IsPoint n query.from) made.2 (point_within passes.value said.from query.from made.0) in
    let to = subst (λ (n : Plan). IsPoint n query.to) made.2 (point_within passes.value said.to query.to made.1) in
    record {
      deadline = puts.deadline;
      is = puts.is;
      text = puts.text;
      accepted = answer_accepted query (subst IsPlan made.2 sound) (subst HasPlanNumbers made.2 numbers) from to roomy puts.deadline puts.is;
    }
puts_by said input put query within roomy number end (inr full) = absurd (roomy full.full)

pub deadlines_are_accepted : ((said : DeadlineWords) → PromiseHolds (deadline_program said))
    → ((words : List (List ℕ)) (said : DeadlineWords) → requested_by deadline_syntax deadline_request words ≡ Some said ↔ SayDeadline deadline_syntax said words)
    → ((words : List (List ℕ)) (judge : Judge) → requested_by judge_syntax judge_request words ≡ Some judge ↔ SayJudge judge_syntax judge words)
    → HoldsOfDefinedRuns DeadlinePutsAccepted
deadlines_are_accepted keeps deadline_words judge_words words input put status defines program other asked judged said same say judges query within roomy =
    let (end, is, runs) = subst (λ (one : Program). Defines one input put status) (ap (program_of_request deadline_program) ((deadline_words asked said).1 say)) (subst (λ (ws : List (List ℕ)). DefinedRun ws input put status) same defines) in
    let answered = (keeps said input put end runs).answers.declared query within in
    subst (λ (one : Program). PutsAcceptedDeadline one said query put) (sym (ap (program_of_request judge_program) ((judge_words judged (judge_of (in_notation Text) Control)).1 judges)))
    (puts_by said input put query within roomy (length within.used) end answered)
