use Rattle.std.proofs.Common.{rules, sym}
use Rattle.cert_checker.proofs.ScanLemmas.{stands_is}
use Rattle.cert_checker.proofs.least.LeastWeights.has_word_at_most.Goals as goal

pub returns : goal.returns
returns c = λ net first edges is small. rw (sym (stands_is net first edges c.args.self.now is c.args.edge.now small)) (search rules)
