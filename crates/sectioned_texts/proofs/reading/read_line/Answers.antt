use Rattle.sectioned_texts.proofs.ReadingLemmas.{answer_brings}
use Rattle.sectioned_texts.proofs.reading.read_line.Goals as goal

pub returns-clause-brings : goal.returns-clause-brings
returns-clause-brings g c = λ prefix is.
    answer_brings g.R.SectionReader.text c.is_lawful.ensures prefix c.args.line.now _ _ c.take_line.result c.take_line.ensures.said c.take_line.ensures.kept is
