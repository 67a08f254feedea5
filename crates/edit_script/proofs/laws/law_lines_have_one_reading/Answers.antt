use Rattle.edit_script.proofs.FaultLemmas.{one_reading}
use Rattle.edit_script.proofs.laws.law_lines_have_one_reading.Goals as goal

pub returns : goal.returns
returns c = λ line. one_reading line
