use Rattle.sectioned_texts.proofs.ReadingLemmas.{one_reading}
use Rattle.cert_format.specs.CertificateGrammar.{certificate_lines}
use Rattle.cert_format.proofs.TextLemmas.{certificate_lawful}
use Rattle.cert_format.proofs.laws.law_lines_have_one_reading.Goals as goal

pub returns : goal.returns
returns c = λ lines. one_reading certificate_lines certificate_lawful lines
