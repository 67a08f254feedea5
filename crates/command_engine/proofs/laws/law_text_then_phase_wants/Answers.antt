use Rattle.command_engine.proofs.PhaseLemmas.{wants_while_reading}
use Rattle.command_engine.proofs.laws.law_text_then_phase_wants.Goals as goal

pub returns : goal.returns
returns g c = λ none start text input untaken put pieces breaks.
    wants_while_reading g.B.Begin.begins g.T.Text.reader g.T.Fault.Refusal.refusing g.B.Phase.Command.machine none start text input untaken put pieces breaks
