use Rattle.texts.specs.Lines.{input_lines}
use Rattle.command_engine.specs.Runs.{begins}
use Rattle.command_engine.proofs.PhaseLemmas.{run_is}
use Rattle.command_engine.proofs.laws.law_text_then_phase_runs.Goals as goal

pub returns : goal.returns
returns g c = λ start text input put end runs.
    run_is g.B.Begin.begins g.T.Text.reader g.T.Fault.Refusal.refusing g.B.Phase.Command.machine start (begins text) (input_lines input) put end runs
