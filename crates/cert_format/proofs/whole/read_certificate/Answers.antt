use Rattle.cert_format.proofs.TextLemmas.{answer_weights}
use Rattle.cert_format.proofs.whole.read_certificate.Goals as goal

pub returns-clause-weights : goal.returns-clause-weights
returns-clause-weights c = answer_weights c.args.bytes.now c.read_text.result c.read_text.ensures.in_grammar
