use Rattle.cert_checker.proofs.FewLemmas.{row_long}
use Rattle.cert_checker.proofs.few.Few.len.Goals as goal

pub returns : goal.returns
returns c = row_long c.self.inside.points c.self.inside.starts.items c.args.self.now c.self.view_is c.self.invariant
