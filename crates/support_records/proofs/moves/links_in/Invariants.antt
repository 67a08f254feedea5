use Rattle.std.proofs.Common.{◌≡◌, map, take}
use Rattle.edit_laws.specs.EditNumbers.{link_in}
use Rattle.support_records.proofs.moves.links_in.Given as goal

abbrev pub invariant-loop-link : goal.invariant-loop-link
invariant-loop-link l = l.links.items ≡ map (link_in l.points.old.now l.edit l.points.new.now) (take l.link-index l.points.old.now.links)
