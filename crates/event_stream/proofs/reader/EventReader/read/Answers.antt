use Rattle.event_stream.proofs.ReadLineLemmas.{grammar, every, fault, points}
use Rattle.event_stream.proofs.reader.EventReader.read.Goals as goal

pub returns-clause-grammar : goal.returns-clause-grammar
returns-clause-grammar c = grammar c.args.net.now c.args.line.now c.args.self.now c.read_words.result c.read_words.new.self c.read_words.ensures

pub returns-clause-reads : goal.returns-clause-reads
returns-clause-reads c = (c.read_words.ensures, every c.args.net.now c.args.line.now c.args.self.now c.read_words.result c.read_words.new.self c.read_words.ensures)

pub returns-clause-fault : goal.returns-clause-fault
returns-clause-fault c = fault c.args.net.now c.args.line.now c.args.self.now c.read_words.result c.read_words.new.self c.read_words.ensures

pub returns-clause-points : goal.returns-clause-points
returns-clause-points c = points c.args.net.now c.args.line.now c.args.self.now c.read_words.result c.read_words.new.self c.read_words.ensures
