-- What `deadline` puts of a controllable network agrees with what `check` says of the network with the bound.
use Rattle.std.proofs.Common.{◌≡◌, ◌↔◌, ℕ, ℤ, ◌<◌, List, ◌++◌, Some, length, inl, inr, sym, ap, ◌∙◌, subst}
use Rattle.texts.specs.Lines.{lines}
use Rattle.net_model.specs.Limits.{most_bounds}
use Rattle.net_model.specs.Network.{HasPlanNumbers, IsPlan, IsPoint, Plan, point_named}
use Rattle.net_model.proofs.EditLemmas.{point_within}
use Rattle.strategy_model.specs.Control.{IsControllable}
use Rattle.deadline_search.specs.Deadlines.{IsFull, lowest}
use Rattle.deadline_search.specs.Goals.{IsGoalName}
use Rattle.command_engine.specs.Inputs.{last_before}
use Rattle.command_engine.specs.declared.endings.End.{End}
use Rattle.common_answers.specs.VerdictLines.{controllable_line}
use Rattle.input_texts.specs.PlanInput.{in_notation}
use Rattle.input_texts.specs.declared.plan_input.Notation.TheVariants.{Text}
use Rattle.input_texts.proofs.PlanInputLemmas.{input_sound}
use Rattle.command_contracts.specs.Programs.{Defines, Program, PromiseHolds}
use Rattle.command_contracts.specs.Requests.{program_of_request, requested_by}
use Rattle.command_contracts.proofs.DecidedLemmas.{no_refusal_is_controllable}
use Rattle.check_command.specs.CheckAnswers.{check_request, check_syntax}
use Rattle.check_command.specs.CheckPromise.{check_program}
use Rattle.check_command.specs.Words.{SayCheckFlags}
use Rattle.check_command.specs.declared.check_question.CheckFlags.{CheckFlags}
use Rattle.deadline_command.specs.DeadlineAnswers.{deadline_answers, deadline_request, deadline_syntax}
use Rattle.deadline_command.specs.DeadlinePromise.{DeadlinePromise, HasNoDeadline, IsPromised, deadline_program}
use Rattle.deadline_command.specs.Points.{PlanPoints, bounds_limit_fault, goal_number, points_in}
use Rattle.deadline_command.specs.Words.{SayDeadline}
use Rattle.deadline_command.specs.declared.points.DeadlineWords.{DeadlineWords}
use Rattle.stnu_run.specs.AcrossCommands.{ChecksBoundAs, DeadlineAgrees, DeadlineAgreesWithCheck, HasNoneByCheck, IsTightestByCheck, SaysControllable, SaysNotControllable}
use Rattle.stnu_run.specs.DeadlineCertificates.{with_goal_between}
use Rattle.stnu_run.specs.DefinedRuns.{DefinedRun}
use Rattle.stnu_run.specs.RunClaims.{HoldsOfDefinedRuns}
use Rattle.stnu_run.proofs.DeadlineProofLemmas.{goal_numbers, goal_sound, points_made, spare_of}
use Rattle.stnu_run.proofs.PlanNumberLemmas.{declared_numbers}
use Rattle.stnu_run.proofs.VerdictLemmas.{checking_is, plan_controllable, plan_refuted}

-- ---- the network with the bound at a number
module _ (flags : CheckFlags) (own : flags.form ≡ in_notation Text) (query : PlanPoints) (plan : IsPlan query.net) (numbers : HasPlanNumbers query.net) (from_inside : IsPoint query.net query.from) (to_inside : IsPoint query.net query.to)
    (spare : length query.net.bounds < most_bounds) where
  bound_controllable : (name : List ℕ) → IsGoalName query.net name → (most : ℤ) → IsControllable (with_goal_between query name most) → ChecksBoundAs flags (check_program flags) query SaysControllable name most
  bound_controllable name named most controllable low high =
      plan_controllable flags own (with_goal_between query name most) (goal_sound query.net plan numbers query.from query.to from_inside to_inside spare name named most low high)
      (goal_numbers query.net plan numbers query.from query.to from_inside to_inside spare name named most low high) controllable

  bound_refuted : (name : List ℕ) → IsGoalName query.net name → (most : ℤ) → ¬ IsControllable (with_goal_between query name most) → ChecksBoundAs flags (check_program flags) query SaysNotControllable name most
  bound_refuted name named most never low high =
      plan_refuted flags own (with_goal_between query name most) (goal_sound query.net plan numbers query.from query.to from_inside to_inside spare name named most low high)
      (goal_numbers query.net plan numbers query.from query.to from_inside to_inside spare name named most low high) never

  tightest_checked : (most : ℤ) → IsPromised query most → IsTightestByCheck flags (check_program flags) query most
  tightest_checked most promised =
      let tightest = promised.tightest in
      record {
        name = promised.name;
        named = promised.named;
        kept = λ other above low high. bound_controllable promised.name promised.named other (tightest.later other above high).kept low high;
        lower = λ other below low high.
            bound_refuted promised.name promised.named other (λ controllable. tightest.least other below (record { from_lowest = low; to_highest = high; kept = controllable })) low high;
      }

  none_checked : HasNoDeadline query → HasNoneByCheck flags (check_program flags) query
  none_checked none = record {
    name = none.name;
    named = none.named;
    never = λ most low high. bound_refuted none.name none.named most (λ controllable. none.none most (record { from_lowest = low; to_highest = high; kept = controllable })) low high;
  }

-- ---- of an input
module _ (flags : CheckFlags) (own : flags.form ≡ in_notation Text) (said : DeadlineWords) (input put more : List ℕ) (end : End) (same : put ≡ controllable_line ++ more) (promise : DeadlinePromise said input put end) where
  -- there is capacity for the bound
  spare_by : (query : PlanPoints) (number : ℕ) → deadline_answers said query number put end → ¬ IsFull query.net
  spare_by query number (inl puts) = puts.spare_capacity
  spare_by query number (inr full) = absurd (no_refusal_is_controllable (bounds_limit_fault (goal_number said.notation number)) more (sym full.line ∙ same))

  agrees_by : (query : PlanPoints) (rest : List (List ℕ)) (number : ℕ) → (points_in said).declares (lines input) query rest → deadline_answers said query number put end → DeadlineAgrees flags (check_program flags) said input put
  agrees_by query rest number declared answered =
      let made = points_made _ declared.value (point_named declared.value said.from) (point_named declared.value said.to) query declared.passes in
      let sound = subst IsPlan made.2 (input_sound (in_notation said.notation) (lines input) declared.value rest declared.declared) in
      let numbers = subst HasPlanNumbers made.2 (declared_numbers (in_notation said.notation) (lines input) declared.value rest declared.declared) in
      let from = subst (λ (n : Plan). IsPoint n query.from) made.2 (point_within declared.value said.from query.from made.0) in
      let to = subst (λ (n : Plan). IsPoint n query.to) made.2 (point_within declared.value said.to query.to made.1) in
      let spare = spare_of query sound numbers from to (spare_by query number answered) (promise.controllable more same query rest declared) in
      record {
        query = query;
        rest = rest;
        declared = declared;
        tightest = λ most others size is. tightest_checked flags own query sound numbers from to spare most (promise.tightest most others size is query rest declared);
        at_most = λ others is. tightest_checked flags own query sound numbers from to spare lowest (promise.at_most others is query rest declared);
        none = λ others is. none_checked flags own query sound numbers from to spare (promise.none others is query rest declared);
      }

  agrees : DeadlineAgrees flags (check_program flags) said input put
  agrees = elim promise.answers.answers [
    | inl (query, rest, declared, answered) ↦ agrees_by query rest (last_before rest (lines input)) declared answered
    | inr (fault, first, puts) ↦ absurd (no_refusal_is_controllable fault more (sym puts.0 ∙ same))
  ]

-- ---- by the words
pub deadlines_agree_with_check : ((said : DeadlineWords) → PromiseHolds (deadline_program said))
    → ((words : List (List ℕ)) (said : DeadlineWords) → requested_by deadline_syntax deadline_request words ≡ Some said ↔ SayDeadline deadline_syntax said words)
    → ((words : List (List ℕ)) (flags : CheckFlags) → requested_by check_syntax check_request words ≡ Some flags ↔ SayCheckFlags check_syntax flags words)
    → HoldsOfDefinedRuns DeadlineAgreesWithCheck
deadlines_agree_with_check keeps deadline_words check_words words input put status defines program other asked checked said flags named say also own more same =
    let (end, is, runs) = subst (λ (one : Program). Defines one input put status) (ap (program_of_request deadline_program) ((deadline_words asked said).1 say)) (subst (λ (ws : List (List ℕ)). DefinedRun ws input put status) named defines) in
    subst (λ (one : Program). DeadlineAgrees flags one said input put) (checking_is check_words other checked flags also)
    (agrees flags own said input put more end same (keeps said input put end runs))
