use Rattle.std.proofs.Common.{◌≡◌, ◌++◌, take}
use Rattle.net_model.proofs.declarations.Declared.push_points.Given as goal

abbrev pub invariant-loop-name : goal.invariant-loop-name
invariant-loop-name l = l.self ≡ record l.fn.self { points = l.fn.self.points ++ take l.name-index l.points }
