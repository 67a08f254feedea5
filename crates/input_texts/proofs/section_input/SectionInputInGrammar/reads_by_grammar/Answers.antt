use Rattle.input_texts.proofs.SectionLemmas.{section_by}
use Rattle.input_texts.proofs.section_input.SectionInputInGrammar.reads_by_grammar.Goals as goal

pub returns : goal.returns
returns g c = λ past. section_by g.R.SectionReader.text c.is_lawful.ensures past
