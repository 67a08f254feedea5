use Rattle.std.proofs.Common.{rules}
use Rattle.std.specs.Ordering.{nat_cmp}
use Rattle.std.proofs.lemmas.Fn.{always_returns_same}
use Rattle.cert_checker.specs.declared.few.Start.{Start}
use Rattle.cert_checker.proofs.FewLemmas.{searched}
use Rattle.cert_checker.proofs.few.place_of.Goals as goal

-- the closure compares a point with the one that is looked for
pub returns : goal.returns
returns c = λ points are.
    let facts = c.binary_search_by.ensures in
    let by_point = facts.position (λ (start : Start). nat_cmp start.from c.args.from) (always_returns_same _ _ _ (λ a r f called. search rules)) in
    searched c.args.from points c.args.starts.now are c.binary_search_by.result facts.bound by_point
