use Rattle.sectioned_texts.proofs.ReadingLemmas.{one_reading}
use Rattle.cert_format.specs.StrongGrammar.{strong_lines}
use Rattle.cert_format.proofs.StrongTextLemmas.{strong_lawful}
use Rattle.cert_format.proofs.laws.law_strong_lines_have_one_reading.Goals as goal

pub returns : goal.returns
returns c = λ lines. one_reading strong_lines strong_lawful lines
