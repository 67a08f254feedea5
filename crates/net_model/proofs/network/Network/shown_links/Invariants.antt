use Rattle.std.proofs.Common.{◌≡◌, map, take}
use Rattle.net_model.specs.ShownForm.{shown_link}
use Rattle.net_model.proofs.network.Network.shown_links.Given as goal

abbrev pub invariant-loop-link : goal.invariant-loop-link
invariant-loop-link l = l.links.items ≡ map (shown_link l.self) (take l.link-index l.self.links)
