use Rattle.command_engine.proofs.SingleLemmas.{runs_same}
use Rattle.command_engine.proofs.laws.law_single_runs.Goals as goal

pub returns : goal.returns
returns g c = λ single start input a b x y one other. runs_same g.C.Command.machine single start input a b x y one other
