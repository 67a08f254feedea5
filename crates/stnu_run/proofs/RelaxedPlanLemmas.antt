-- What `check` puts for a relaxed plan.
use Rattle.std.proofs.Common.{◌≡◌, ◌↔◌, ◌⊎◌, ℕ, ◌≤◌, Bool, true, false, List, [], ◌++◌, Some, ap, ◌∙◌, subst, arith, inl, inr}
use Rattle.texts.specs.Lines.{lines}
use Rattle.net_model.specs.Network.{Plan}
use Rattle.strategy_model.specs.Control.{IsControllable}
use Rattle.relaxation_laws.specs.Laws.{RelaxedAreControllable}
use Rattle.cert_format.specs.CertificateWords.{printed_certificate}
use Rattle.plan_json.specs.declared.fault.JsonFault.TheVariants as json
use Rattle.net_model.specs.declared.fault.BuildFault.TheVariants as part
use Rattle.net_model.specs.declared.format.FormatKind.TheVariants.{NumberLimit}
use Rattle.command_engine.specs.Endings.{end_number}
use Rattle.command_engine.specs.Inputs.{AnswersOrRefuses}
use Rattle.command_engine.specs.declared.endings.End.{End}
use Rattle.command_engine.specs.declared.endings.End.TheVariants.{Done, Refused, Fault as FaultEnd, Limit, EventRefused}
use Rattle.common_answers.specs.Faults.{fault_end, refusing}
use Rattle.common_answers.specs.VerdictLines.{controllable_line}
use Rattle.common_answers.specs.declared.faults.Fault.{Fault}
use Rattle.common_answers.specs.declared.faults.Fault.TheVariants.{Format, Part, Document, DocumentTooLong, LineTooLong, InputTooMuch, Cells, DuplicatePlan, TooManyPlans}
use Rattle.input_texts.specs.PlanInput.{plan_in}
use Rattle.input_texts.proofs.PlanInputLemmas.{input_one, input_sound}
use Rattle.command_contracts.specs.Causes.{IsAnswer}
use Rattle.command_contracts.specs.Programs.{Defines, Program, PromiseHolds}
use Rattle.command_contracts.specs.Requests.{program_of_request, requested_by}
use Rattle.command_contracts.specs.declared.status.Status.{Status}
use Rattle.check_command.specs.CheckAnswers.{PutsYes, check_request, check_syntax, checked_plan}
use Rattle.check_command.specs.CheckPromise.{CheckPromise, PutsVerdict, check_program}
use Rattle.check_command.specs.Words.{SayCheckFlags}
use Rattle.check_command.specs.declared.check_question.CheckFlags.{CheckFlags}
use Rattle.check_command.proofs.CheckLemmas.{plan_there}
use Rattle.stnu_run.specs.RelaxedPlans.{IsCheckRun, IsOfVerdict, RelaxedPlansStayControllable}

-- ---- statuses
-- no refusal of an input ends a run as a verdict does
pub no_answer : (fault : Fault) → IsAnswer (fault_end fault) → ⊥
no_answer (Format number NumberLimit) is = is
no_answer (Format number kind) is = is
no_answer (Part number (part.Limit which place)) is = is
no_answer (Part number fault) is = is
no_answer (Document (json.NumberLimit member place)) is = is
no_answer (Document fault) is = is
no_answer (DocumentTooLong number) is = is
no_answer (LineTooLong number) is = is
no_answer (InputTooMuch number) is = is
no_answer (Cells number) is = is
no_answer (DuplicatePlan number) is = is
no_answer (TooManyPlans number) is = is

neither : (number n : ℕ) → n ≡ number → 2 ≤ number → (n ≡ 0) ⊎ (n ≡ 1) → ⊥
neither number n is above (inl none) = omega (arith, is, above, none)
neither number n is above (inr one) = omega (arith, is, above, one)

pub answer_by : (end : End) (status : Status) → status ≡ record { 0 = end_number end } → IsOfVerdict status → IsAnswer end
answer_by Done status is verdict = tt
answer_by Refused status is verdict = tt
answer_by FaultEnd status is verdict = neither 3 status.0 (ap (λ (s : Status). s.0) is) (omega arith) verdict
answer_by Limit status is verdict = neither 4 status.0 (ap (λ (s : Status). s.0) is) (omega arith) verdict
answer_by EventRefused status is verdict = neither 7 status.0 (ap (λ (s : Status). s.0) is) (omega arith) verdict

module _ (keeps : (flags : CheckFlags) → PromiseHolds (check_program flags))
    (check_words : (words : List (List ℕ)) (flags : CheckFlags) → requested_by check_syntax check_request words ≡ Some flags ↔ SayCheckFlags check_syntax flags words)
    (controllable : RelaxedAreControllable) where
  -- what a defined run of `check` promises
  promise_of : (flags : CheckFlags) (input put : List ℕ) (status : Status) → IsCheckRun flags input put status → (end : End) × (status ≡ record { 0 = end_number end }) × CheckPromise flags input put end
  promise_of flags input put status run =
      let (end, is, runs) = subst (λ (one : Program). Defines one input put status) (ap (program_of_request check_program) ((check_words run.asked flags).1 run.said)) run.defined in
      (end, is, keeps flags input put end runs)

  -- what is put of a controllable network
  yes_put : (proof : Bool) (net : Plan) (put : List ℕ) (end : End) → PutsYes proof net put end → (end ≡ Done) × ((more : List ℕ) × (put ≡ controllable_line ++ more))
  yes_put false net put end puts = (puts.1, ([], puts.0))
  yes_put true net put end (cert, proves, puts) = (puts.1, (printed_certificate cert, puts.0))

  -- a verdict of a controllable network is that it is
  decided : (flags : CheckFlags) (input put : List ℕ) (end : End) → AnswersOrRefuses (checked_plan flags) refusing (PutsVerdict flags) input put end
      → (net : Plan) (rest : List (List ℕ)) → (plan_in flags.form).declares (lines input) net rest
      → IsControllable net → IsAnswer end → (end ≡ Done) × ((more : List ℕ) × (put ≡ controllable_line ++ more))
  decided flags input put end (inl (other, after, is, inl (controls, kept))) net rest network holds answer = yes_put flags.proof other put end kept
  decided flags input put end (inl (other, after, is, inr (never, refuted))) net rest network holds answer =
      absurd (never (subst (λ (n : Plan). IsControllable n) (input_one flags.form (lines input) net other rest after network (plan_there flags (lines input) other after is)) holds))
  decided flags input put end (inr (fault, first, puts)) net rest network holds answer = absurd (no_answer fault (subst (λ (e : End). IsAnswer e) puts.1 answer))

  pub relaxed_plans_stay_controllable : RelaxedPlansStayControllable
  relaxed_plans_stay_controllable flags other_flags input other put other_put more status other_status run other_run begin same =
      let (end, is, promise) = promise_of flags input put status run in
      let (other_end, other_is, other_promise) = promise_of other_flags other other_put other_status other_run in
      let sound = input_sound flags.form (lines input) begin.net begin.rest begin.declared in
      let holds = controllable begin.net begin.other_net sound begin.relaxed (promise.controllable more same begin.net begin.rest begin.declared) in
      record {
        never = λ after refuted. other_promise.refutes after refuted begin.other_net begin.other_rest begin.other_declared holds;
        decided = λ verdict.
            let (done, first) = decided other_flags other other_put other_end other_promise.checks.answers begin.other_net begin.other_rest begin.other_declared holds (answer_by other_end other_status other_is verdict) in
            (ap (λ (s : Status). s.0) other_is ∙ ap end_number done, first);
      }
