use Rattle.std.proofs.Common.{◌≡◌, ◌<◌, ◌≤◌, length, take}
use Rattle.std.specs.Vec.{vec_capacity}
use Rattle.std.specs.List.{All}
use Rattle.net_model.specs.declared.ids.LinkId.{LinkId}
use Rattle.desk_feeding.specs.Feedings.{have_links, links_to}
use Rattle.desk_feeding.proofs.feeders.links_of.Given as goal

abbrev pub invariant-loop-point : goal.invariant-loop-point
invariant-loop-point l = record {
  all : l.all ≡ have_links l.net (take l.point-index l.points);
  to : l.links.items ≡ links_to l.net (take l.point-index l.points);
  links : All (λ (link : LinkId). link.0 < length l.net.links) l.links.items;
  few : length l.links.items ≤ l.point-index;
  spare_capacity : vec_capacity l.links ≡ vec_capacity l.fn.links;
}
