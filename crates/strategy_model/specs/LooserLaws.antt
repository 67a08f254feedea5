-- What a network with looser bounds keeps (this project's own choice; that more schedules satisfy a network with fewer or looser
-- bounds is older than the field).
use Rattle.std.specs.Prelude.{◌≡◌, List, ◌≤ℤ◌}
use Rattle.std.specs.List.{AllZip}
use Rattle.net_model.specs.Network.{Plan}
use Rattle.net_model.specs.declared.part.Bound.{Bound}
use Rattle.strategy_model.specs.Control.{Controls}
use Rattle.strategy_model.specs.declared.tree.Tree.{Tree}

-- a bound between the same points, which allows at least as much
abbrev pub IsLoosened : Bound → Bound → Type 0
IsLoosened bound other = (bound.from ≡ other.from) × (bound.to ≡ other.to) × (bound.most ≤ℤ other.most)

-- a strategy that controls a network controls it with looser bounds in place of its own
abbrev pub LooserBoundsKeepControl : Type 0
LooserBoundsKeepControl =
    (strategy : Tree) (net : Plan) (bounds : List Bound) → AllZip IsLoosened net.bounds bounds → Controls strategy net
    → Controls strategy (record net { bounds = bounds })
