-- Relaxed networks: they ask no more of a strategy, and nature may do no more in them (this project's own choice).
use Rattle.std.specs.Prelude.{◌≡◌, ◌≤◌, ◌≤ℤ◌, List, Some, slice_get}
use Rattle.std.specs.List.{All, AllZip, Contains}
use Rattle.net_model.specs.Network.{Plan, bound_named, link_named}
use Rattle.net_model.specs.declared.edit.Edit.{Edit}
use Rattle.net_model.specs.declared.edit.Edit.TheVariants as edits
use Rattle.net_model.specs.declared.ids.BoundId.{BoundId}
use Rattle.net_model.specs.declared.ids.LinkId.{LinkId}
use Rattle.net_model.specs.declared.part.Bound.{Bound}
use Rattle.net_model.specs.declared.part.Link.{Link}
use Rattle.strategy_model.specs.LooserLaws.{IsLoosened}

-- a bound is implied by one of these: by one between the same points, with a number that is no greater
pub record IsImplied (bounds : List Bound) (bound : Bound) : Type 0 where
  pub implying : Bound
  pub among : Contains bounds implying
  pub loosened : IsLoosened implying bound

-- a link between the same points, of which each duration is one of the first
abbrev pub IsNarrowed : Link → Link → Type 0
IsNarrowed link other = (link.from ≡ other.from) × (link.to ≡ other.to) × (link.low ≤ℤ other.low) × (other.high ≤ℤ link.high)

-- A network is relaxed to another: that has the same points; each of its bounds is implied by one of the network, so bounds are as they were, loosened or
-- dropped; its links are the same, in the same order, with their intervals or narrower ones; and its delay is no greater.
pub record IsRelaxed (net other : Plan) : Type 0 where
  pub points : net.points ≡ other.points
  pub bounds : All (IsImplied net.bounds) other.bounds
  pub links : AllZip IsNarrowed net.links other.links
  pub delay : other.delay ≤ net.delay

-- the edits that relax a network: a bound is dropped; a bound gets a number that is no less; a link gets an interval within its own
abbrev pub Relaxes : Plan → Edit → Type 0
Relaxes net (edits.DropBound name) = Unit {0}
Relaxes net (edits.SetBound name most) =
    (id : BoundId) (bound : Bound) → bound_named net name ≡ Some id → slice_get net.bounds id.0 ≡ Some bound → bound.most ≤ℤ most
Relaxes net (edits.SetLink to low high) =
    (id : LinkId) (link : Link) → link_named net to ≡ Some id → slice_get net.links id.0 ≡ Some link → (link.low ≤ℤ low) × (high ≤ℤ link.high)
Relaxes net others = ⊥
