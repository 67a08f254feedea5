use Rattle.command_engine.proofs.PhaseLemmas.{text_then_phase_single}
use Rattle.command_engine.proofs.laws.law_text_then_phase_is_single.Goals as goal

pub returns : goal.returns
returns g c = λ begins single. text_then_phase_single g.B.Begin.begins g.T.Text.reader g.T.Fault.Refusal.refusing g.B.Phase.Command.machine begins single
