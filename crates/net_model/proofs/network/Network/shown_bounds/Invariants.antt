use Rattle.std.proofs.Common.{◌≡◌, map, take}
use Rattle.net_model.specs.ShownForm.{shown_bound}
use Rattle.net_model.proofs.network.Network.shown_bounds.Given as goal

abbrev pub invariant-loop-bound : goal.invariant-loop-bound
invariant-loop-bound l = l.bounds.items ≡ map (shown_bound l.self) (take l.bound-index l.self.bounds)
