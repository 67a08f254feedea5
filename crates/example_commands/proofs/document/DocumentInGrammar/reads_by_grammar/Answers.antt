use Rattle.example_commands.proofs.DocumentLemmas.{document_by}
use Rattle.example_commands.proofs.document.DocumentInGrammar.reads_by_grammar.Goals as goal

pub returns : goal.returns
returns c = λ past. document_by past
