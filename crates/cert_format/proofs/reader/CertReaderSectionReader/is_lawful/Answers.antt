use Rattle.cert_format.proofs.TextLemmas.{certificate_lawful}
use Rattle.cert_format.proofs.reader.CertReaderSectionReader.is_lawful.Goals as goal

pub returns : goal.returns
returns c = certificate_lawful
