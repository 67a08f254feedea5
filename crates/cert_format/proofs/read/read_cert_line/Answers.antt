use Rattle.cert_format.proofs.AloneLemmas.{alone_grammar, alone_fault, alone_every}
use Rattle.cert_format.proofs.read.read_cert_line.Goals as goal

pub returns-clause-grammar : goal.returns-clause-grammar
returns-clause-grammar c = alone_grammar c.args.line.now c.read_alone.result c.read_alone.ensures

pub returns-clause-every : goal.returns-clause-every
returns-clause-every c = λ said says. alone_every c.args.line.now c.read_alone.result said c.read_alone.ensures says

pub returns-clause-fault : goal.returns-clause-fault
returns-clause-fault c = alone_fault c.args.line.now c.read_alone.result c.read_alone.ensures
