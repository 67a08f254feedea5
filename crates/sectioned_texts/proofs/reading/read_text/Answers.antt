use Rattle.std.proofs.Common.{subst, Result}
use Rattle.net_model.specs.declared.format.FormatFault.{FormatFault}
use Rattle.sectioned_texts.specs.Reading.{SaysText}
use Rattle.sectioned_texts.proofs.ReadingLemmas.{grammar_read, answer_reads, answer_every_fault}
use Rattle.sectioned_texts.proofs.reading.read_text.Goals as goal

pub returns-clause-in_grammar : goal.returns-clause-in_grammar
returns-clause-in_grammar g c = (answer_reads g.R.SectionReader.text c.is_lawful.ensures c.args.bytes.now c.read_lines.result c.read_lines.ensures).0

pub returns-clause-first_fault : goal.returns-clause-first_fault
returns-clause-first_fault g c = (answer_reads g.R.SectionReader.text c.is_lawful.ensures c.args.bytes.now c.read_lines.result c.read_lines.ensures).1

pub returns-clause-every_text : goal.returns-clause-every_text
returns-clause-every_text g c value text =
    subst (λ (read : Result _ FormatFault). SaysText c.read_lines.result read) (grammar_read g.R.SectionReader.text c.is_lawful.ensures c.args.bytes.now value text) c.read_lines.ensures

pub returns-clause-every_fault : goal.returns-clause-every_fault
returns-clause-every_fault g c fault first = answer_every_fault g.R.SectionReader.text c.is_lawful.ensures c.args.bytes.now c.read_lines.result fault c.read_lines.ensures first
