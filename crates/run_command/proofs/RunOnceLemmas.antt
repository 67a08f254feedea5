-- `run` gives at most one answer to a network: the execution begins in one way, or one refutation is put.
use Rattle.std.proofs.Common.{◌≡◌, ℕ, List, ap, sym, ◌∙◌}
use Rattle.net_model.specs.ShownForm.{shown_form}
use Rattle.cert_format.specs.declared.certificate.Certificate.{Certificate}
use Rattle.command_engine.specs.Single.{IsSingleAnswer}
use Rattle.command_engine.specs.declared.endings.End.{End}
use Rattle.command_engine.specs.declared.machines.Flow.{Flow}
use Rattle.command_engine.specs.declared.machines.Flow.TheVariants.{Finish}
use Rattle.verdicts.proofs.RefutationLemmas.{decided_once}
use Rattle.event_phase.specs.ExecutionStart.{BeginsExecutionBy}
use Rattle.event_phase.specs.EventRuns.{EventRun}
use Rattle.event_phase.proofs.OnceLemmas.{begins_once_by}
use Rattle.run_command.specs.RunCommand.{run_begins, EndsRefuted}

refuted_one : (cert : Certificate) (a b : List ℕ) (x y : Flow EventRun) → EndsRefuted cert a x → EndsRefuted cert b y → (a ≡ b) × (x ≡ y)
refuted_one cert a b x y (end, puts, is) (other, also, so) =
    let ending : End → Flow EventRun = λ e. Finish e in
    (puts.0 ∙ sym also.0, is ∙ (ap ending (puts.1 ∙ sym also.1) ∙ sym so))

pub run_begins_once : IsSingleAnswer run_begins
run_begins_once start net a b x y =
    decided_once {A = List ℕ × Flow EventRun} net (λ one. BeginsExecutionBy start.completion_order (shown_form net) one.0 one.1) (λ one cert. EndsRefuted cert one.0 one.1) (λ one other. (one.0 ≡ other.0) × (one.1 ≡ other.1))
    (λ one other begins also. begins_once_by start.completion_order (shown_form net) one.0 other.0 one.1 other.1 begins also) (λ one other cert ends also. refuted_one cert one.0 other.0 one.1 other.1 ends also) (a, x) (b, y)
