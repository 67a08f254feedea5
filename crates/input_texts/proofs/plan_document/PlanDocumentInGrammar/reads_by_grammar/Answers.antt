use Rattle.input_texts.proofs.DocumentLemmas.{bytes_by}
use Rattle.input_texts.proofs.plan_document.PlanDocumentInGrammar.reads_by_grammar.Goals as goal

pub returns : goal.returns
returns c = λ past. bytes_by past
