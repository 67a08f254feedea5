use Rattle.cert_checker.proofs.FewLemmas.{none_words}
use Rattle.cert_checker.proofs.few.Few.none.Goals as goal

pub returns : goal.returns
returns c = none_words c.args.points c.new.result.items c.new.ensures.items
