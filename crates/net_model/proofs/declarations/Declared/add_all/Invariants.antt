use Rattle.std.proofs.Common.{◌≡◌, drop}
use Rattle.net_model.specs.BuiltNetwork.{with_parts}
use Rattle.net_model.proofs.declarations.Declared.add_all.Given as goal

abbrev pub invariant-loop-part : goal.invariant-loop-part
invariant-loop-part l = (l.place ≡ l.part-index) × (with_parts l.place l.self (drop l.part-index l.parts) ≡ with_parts 0 l.fn.self l.parts)
