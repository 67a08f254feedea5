-- Runs of `run` end by the causes in their input, if it keeps its promise.
use Rattle.std.proofs.Common.{◌≡◌, ◌⊎◌, inl, inr, ℕ, List, [], refl, sym, ◌∙◌}
use Rattle.texts.specs.Lines.{input_lines}
use Rattle.net_model.specs.Network.{Plan}
use Rattle.net_model.specs.ShownForm.{shown_form}
use Rattle.strategy_model.specs.Control.{IsControllable}
use Rattle.execution_model.specs.Streams.{Listing}
use Rattle.command_engine.specs.Inputs.{IsFirstRefusal}
use Rattle.command_engine.specs.declared.endings.End.{End}
use Rattle.command_engine.specs.declared.endings.End.TheVariants as ends
use Rattle.command_contracts.specs.Causes.{EndsByCause, IsAnswer}
use Rattle.event_phase.specs.Day.{IsWholeDay}
use Rattle.event_phase.specs.EventFaults.{HasEventFault}
use Rattle.event_phase.specs.ExecutionPromise.{PutsLast}
use Rattle.common_answers.specs.Faults.{fault_line}
use Rattle.input_texts.specs.PlanInput.{plan_in}
use Rattle.run_command.specs.RunPromise.{OpensExecution, RunPromise, plan_opens, run_causes}
use Rattle.run_command.specs.RunCommand.{RunForm}
use Rattle.common_answers.specs.declared.faults.Fault.{Fault}
use Rattle.command_contracts.proofs.CauseLemmas.{answers_as, only_by, DayCause, day_ends, fault_caused, refused_caused, whole_answers}

module _ (query : RunForm) (input put : List ℕ) (end : End) (promise : RunPromise query input put end) where
  abbrev RunCause : Type 0
  RunCause = (line : List ℕ) × (run_causes query).refused input end line × PutsLast line put

  run_refused : (other : End) (line : List ℕ) → (run_causes query).refused input other line → end ≡ other
  run_refused other line (inl is) = (promise.opens.refuses is.fault is.first).1 ∙ sym is.ends_so
  run_refused other line (inr is) = day_ends (plan_opens query) input put end promise.execution other line is

  run_day : DayCause (plan_opens query) input put end promise.execution → RunCause
  run_day (line, is, last) = (line, inr is, last)

  run_fault : (fault : Fault) × (IsFirstRefusal (plan_in query.form) (input_lines input) fault ⊎ HasEventFault (plan_opens query) (input_lines input) fault) → RunCause
  run_fault (fault, inl first) =
      let puts = promise.opens.refuses fault first in
      (fault_line fault, inl (record { fault = fault; first = first; ends_so = puts.1; reported = refl }), ([], puts.0))
  run_fault (fault, inr has) = run_day (fault_caused (plan_opens query) input put end promise.execution fault has)

  run_whole : (net : Plan) (day : IsControllable net → (listings : List Listing) × IsWholeDay (plan_opens query) (input_lines input) (shown_form net) listings) → OpensExecution net put end → IsAnswer end
  run_whole net day (inl (controllable, opened)) =
      let whole = day controllable in whole_answers (plan_opens query) input put end promise.execution (shown_form net) whole.0 whole.1
  run_whole net day (inr (never, (cert, accepted, puts))) = answers_as end ends.Refused puts.1 tt

  pub run_ends : EndsByCause (run_causes query) input put end
  run_ends = record {
    refused = run_refused;
    only = only_by {Cause = RunCause} end (λ is. run_day (refused_caused (plan_opens query) input put end promise.execution (promise.refused is))) (λ is. run_fault (promise.faults is));
    whole = λ whole. run_whole whole.0 whole.2 (promise.opens.declared whole.0 whole.1);
  }
