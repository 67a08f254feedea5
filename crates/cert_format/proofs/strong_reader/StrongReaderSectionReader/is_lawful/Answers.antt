use Rattle.cert_format.proofs.StrongTextLemmas.{strong_lawful}
use Rattle.cert_format.proofs.strong_reader.StrongReaderSectionReader.is_lawful.Goals as goal

pub returns : goal.returns
returns c = strong_lawful
