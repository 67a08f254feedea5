use Rattle.cert_format.proofs.StrongTextLemmas.{answer_weights}
use Rattle.cert_format.proofs.strong_whole.read_strong.Goals as goal

pub returns-clause-weights : goal.returns-clause-weights
returns-clause-weights c = answer_weights c.args.bytes.now c.read_text.result c.read_text.ensures.in_grammar
