use Rattle.input_texts.proofs.DocumentLemmas.{refused_so}
use Rattle.input_texts.proofs.laws.law_documents_are_refused_by_their_faults.Goals as goal

pub returns : goal.returns
returns c = refused_so
