use Rattle.std.proofs.Common.{◌≡◌, ◌++◌, map, drop}
use Rattle.std.specs.List.{enumerate_from}
use Rattle.cert_checker.specs.Tables.{base_of_link}
use Rattle.cert_checker.proofs.base.push_links.Given as goal

abbrev pub invariant-loop-index : goal.invariant-loop-index
invariant-loop-index l = l.base.items ++ map (base_of_link l.net) (enumerate_from l.index (drop l.index l.net.links)) ≡ l.fn.base.items ++ map (base_of_link l.net) (enumerate_from 0 l.net.links)
