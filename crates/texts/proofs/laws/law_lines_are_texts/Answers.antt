use Rattle.texts.proofs.InputLemmas.{lines-texts}
use Rattle.texts.proofs.laws.law_lines_are_texts.Goals as goal

pub returns : goal.returns
returns c = lines-texts
