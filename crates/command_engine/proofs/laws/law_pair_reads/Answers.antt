use Rattle.command_engine.specs.Runs.{begins}
use Rattle.command_engine.proofs.PairLemmas.{law_pair_reads}
use Rattle.command_engine.proofs.laws.law_pair_reads.Goals as goal

pub returns : goal.returns
returns g c = λ first second lines. law_pair_reads g.A.Text.reader g.B.Text.reader second (begins first) lines
