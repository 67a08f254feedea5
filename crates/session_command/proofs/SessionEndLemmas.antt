-- A run of `session` ends by the causes in its input, if it keeps its promise.
use Rattle.std.proofs.Common.{◌≡◌, ◌⊎◌, inl, inr, ℕ, List, [], refl, sym, ◌∙◌}
use Rattle.texts.specs.Lines.{input_lines}
use Rattle.net_model.specs.Network.{Plan}
use Rattle.execution_model.specs.Streams.{Listing}
use Rattle.command_engine.specs.Inputs.{IsFirstRefusal}
use Rattle.command_engine.specs.declared.endings.End.{End}
use Rattle.command_engine.specs.declared.endings.End.TheVariants as ends
use Rattle.command_contracts.specs.Causes.{EndsByCause, IsAnswer}
use Rattle.event_phase.specs.Day.{IsWholeDay}
use Rattle.event_phase.specs.EventFaults.{HasEventFault}
use Rattle.event_phase.specs.ExecutionPromise.{PutsLast}
use Rattle.common_answers.specs.Faults.{fault_line}
use Rattle.common_answers.specs.declared.faults.Fault.{Fault}
use Rattle.input_texts.specs.PlanInput.{plan_in}
use Rattle.input_texts.specs.declared.plan_input.PlanForm.{PlanForm}
use Rattle.session_command.specs.SessionPromise.{HasStepFault, IsWholeSession, SessionPromise, session_causes, session_opens}
use Rattle.command_contracts.proofs.CauseLemmas.{answers_as, only_by, DayCause, day_ends, fault_caused, refused_caused, whole_answers}

module _ (form : PlanForm) (input put : List ℕ) (end : End) (promise : SessionPromise form input put end) where
  abbrev SessionCause : Type 0
  SessionCause = (line : List ℕ) × (session_causes form).refused input end line × PutsLast line put

  session_refused : (other : End) (line : List ℕ) → (session_causes form).refused input other line → end ≡ other
  session_refused other line (inl is) = (promise.opens.refuses is.fault is.first).1 ∙ sym is.ends_so
  session_refused other line (inr (inl is)) = (promise.faulty is.fault is.has).1 ∙ sym is.ends_so
  session_refused other line (inr (inr is)) = day_ends (session_opens form) input put end promise.execution other line is

  session_day : DayCause (session_opens form) input put end promise.execution → SessionCause
  session_day (line, is, last) = (line, inr (inr is), last)

  session_fault : (fault : Fault) × (IsFirstRefusal (plan_in form) (input_lines input) fault ⊎ (HasStepFault form (input_lines input) fault ⊎ HasEventFault (session_opens form) (input_lines input) fault)) → SessionCause
  session_fault (fault, inl first) =
      let puts = promise.opens.refuses fault first in
      (fault_line fault, inl (record { fault = fault; first = first; ends_so = puts.1; reported = refl }), ([], puts.0))
  session_fault (fault, inr (inl has)) =
      let puts = promise.faulty fault has in
      (fault_line fault, inr (inl (record { fault = fault; has = has; ends_so = puts.1; reported = refl })), puts.0)
  session_fault (fault, inr (inr has)) = session_day (fault_caused (session_opens form) input put end promise.execution fault has)

  session_whole : IsWholeSession form (input_lines input) ⊎ ((net : Plan) × (listings : List Listing) × IsWholeDay (session_opens form) (input_lines input) net listings) → IsAnswer end
  session_whole (inl (first, net, steps, whole)) = answers_as end ends.Done (promise.closes first net steps whole).1 tt
  session_whole (inr (net, listings, whole)) = whole_answers (session_opens form) input put end promise.execution net listings whole

  pub session_ends : EndsByCause (session_causes form) input put end
  session_ends = record {
    refused = session_refused;
    only = only_by {Cause = SessionCause} end (λ is. session_day (refused_caused (session_opens form) input put end promise.execution (promise.refused is))) (λ is. session_fault (promise.faults is));
    whole = session_whole;
  }
