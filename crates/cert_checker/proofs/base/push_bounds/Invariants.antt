use Rattle.std.proofs.Common.{◌≡◌, ◌++◌, map, take}
use Rattle.cert_checker.specs.Tables.{base_of_bound}
use Rattle.cert_checker.proofs.base.push_bounds.Given as goal

abbrev pub invariant-loop-index : goal.invariant-loop-index
invariant-loop-index l = l.base.items ≡ l.fn.base.items ++ map base_of_bound (take l.index l.net.bounds)
