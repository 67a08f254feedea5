use Rattle.command_engine.proofs.BytesLemmas.{bytes_exact}
use Rattle.command_engine.proofs.laws.law_bytes_are_exact.Goals as goal

pub returns : goal.returns
returns g c = λ start status before after ran. bytes_exact g.C.Command.machine start status before after ran
