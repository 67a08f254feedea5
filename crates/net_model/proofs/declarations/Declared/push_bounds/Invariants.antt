use Rattle.std.proofs.Common.{◌≡◌, ◌++◌, take}
use Rattle.net_model.proofs.declarations.Declared.push_bounds.Given as goal

abbrev pub invariant-loop-bound : goal.invariant-loop-bound
invariant-loop-bound l = l.self ≡ record l.fn.self { bounds = l.fn.self.bounds ++ take l.bound-index l.bounds }
