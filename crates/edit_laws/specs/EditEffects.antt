-- What an edit takes away of a network and what it brings, in words: what it drops, sets or adds, and what stands in both networks with
-- different numbers.
use Rattle.std.specs.Prelude.{◌≡◌, ◌≢◌, ◌↔◌, ◌⊎◌, ℕ, ℤ, pos, true, List, map, Ok, Option, Some, None, slice_get}
use Rattle.std.specs.List.{Contains}
use Rattle.net_model.specs.EditedNetwork.{edited}
use Rattle.net_model.specs.Network.{Plan, IsPlan}
use Rattle.net_model.specs.ShownForm.{shown_form}
use Rattle.net_model.specs.declared.edit.Edit.TheVariants as edits
use Rattle.net_model.specs.declared.edit.Edit.{Edit}
use Rattle.net_model.specs.declared.ids.BoundId.{BoundId}
use Rattle.net_model.specs.declared.ids.LinkId.{LinkId}
use Rattle.net_model.specs.declared.part.Bound.{Bound}
use Rattle.net_model.specs.declared.part.Link.{Link}
use Rattle.closure_model.specs.Derivations.{node_at, IsDerivationList, RestsOn}
use Rattle.closure_model.specs.declared.derivation.Item.{Item}
use Rattle.closure_model.specs.declared.derivation.Item.TheVariants as item
use Rattle.closure_model.specs.declared.derivation.Node.{Node}
use Rattle.closure_model.specs.declared.derivation.NodeId.{NodeId}
use Rattle.edit_laws.specs.KeptLists.{Following, place_at}
use Rattle.edit_laws.specs.KeptListLaws.{AreKept}
use Rattle.net_model.specs.NetworkParts.{point_name}
use Rattle.edit_laws.specs.EditNumbers.{renumbering, is_new_bound, is_new_link}

-- a bound without its number
abbrev pub unnumbered : Bound → Bound
unnumbered bound = record bound { most = pos 0 }

-- a link without its durations
abbrev pub unnumbered_link : Link → Link
unnumbered_link link = record link { low = pos 0; high = pos 0 }

-- a network has the parts of another: the same points, and bounds and links of the same names and ends, in the same order; its numbers
-- may differ
pub record HasPartsOf (net new : Plan) : Type 0 where
  pub points : new.points ≡ net.points
  pub bounds : map unnumbered new.bounds ≡ map unnumbered net.bounds
  pub links : map unnumbered_link new.links ≡ map unnumbered_link net.links

-- a network has the parts of what an edit makes of another: its points, and the names and ends of its bounds and links
pub record HasEditedParts (old : Plan) (edit : Edit) (new : Plan) : Type 0 where
  pub made : Plan
  pub accepted : edited old edit ≡ Ok made
  pub parts : HasPartsOf made new

-- an edit adds, drops or sets the bound of a name
abbrev pub AddsBound : Edit → List ℕ → Type 0
AddsBound edit name = (from to : List ℕ) × (most : ℤ) × (edit ≡ edits.AddBound name from to most)

-- an edit drops the bound of a name
abbrev pub DropsBound : Edit → List ℕ → Type 0
DropsBound edit name = edit ≡ edits.DropBound name

-- an edit sets the bound of a name
abbrev pub SetsBound : Edit → List ℕ → Type 0
SetsBound edit name = (most : ℤ) × (edit ≡ edits.SetBound name most)

-- an edit adds, drops or sets the link that ends in the point of a name
abbrev pub AddsLink : Edit → List ℕ → Type 0
AddsLink edit to = (from : List ℕ) × (low high : ℤ) × (edit ≡ edits.AddLink from low high to)

-- an edit drops the link that ends in the point of a name
abbrev pub DropsLink : Edit → List ℕ → Type 0
DropsLink edit to = edit ≡ edits.DropLink to

-- an edit sets the link that ends in the point of a name
abbrev pub SetsLink : Edit → List ℕ → Type 0
SetsLink edit to = (low high : ℤ) × (edit ≡ edits.SetLink to low high)

-- a bound stands in a network with another number: one of its name is there
abbrev pub DiffersIn : Plan → Bound → Type 0
DiffersIn net bound = (other : Bound) × Contains net.bounds other × (other.name ≡ bound.name) × (other.most ≢ bound.most)

-- a link of a network stands in another one with other durations: one that ends in a point of the same name is there
abbrev pub LinkDiffersIn : (of net : Plan) → Link → Type 0
LinkDiffersIn of net link = (other : Link) × Contains net.links other × (point_name net.points other.to ≡ point_name of.points link.to)
    × ¬ ((other.low ≡ link.low) × (other.high ≡ link.high))

-- an edit takes a bound of the old network away: it drops it or sets it, or the bound stands in the new network with another number
abbrev pub TakesBound : Edit → (new : Plan) → Bound → Type 0
TakesBound edit new bound = DropsBound edit bound.name ⊎ (SetsBound edit bound.name ⊎ DiffersIn new bound)

-- an edit brings a bound of the new network: it adds it or sets it, or the bound stands in the old network with another number
abbrev pub BringsBound : (old : Plan) → Edit → Bound → Type 0
BringsBound old edit bound = AddsBound edit bound.name ⊎ (SetsBound edit bound.name ⊎ DiffersIn old bound)

-- an edit takes a link of the old network away: it drops it or sets it, or the link stands in the new network with other durations
abbrev pub TakesLink : (old : Plan) → Edit → (new : Plan) → Link → Type 0
TakesLink old edit new link = DropsLink edit (point_name old.points link.to) ⊎ (SetsLink edit (point_name old.points link.to) ⊎ LinkDiffersIn old new link)

-- an edit brings a link of the new network: it adds it or sets it, or the link stands in the old network with other durations
abbrev pub BringsLink : (old : Plan) → Edit → (new : Plan) → Link → Type 0
BringsLink old edit new link = AddsLink edit (point_name new.points link.to) ⊎ (SetsLink edit (point_name new.points link.to) ⊎ LinkDiffersIn new old link)

-- an edit takes a bound or a link of the old network away
abbrev pub TakesItem : (old : Plan) → Edit → (new : Plan) → Item → Type 0
TakesItem old edit new (item.Bound id) = (bound : Bound) × (slice_get old.bounds id.0 ≡ Some bound) × TakesBound edit new bound
TakesItem old edit new (item.Link id) = (link : Link) × (slice_get old.links id.0 ≡ Some link) × TakesLink old edit new link

-- a node rests on a bound or a link that an edit takes away
abbrev pub RestsOnWhatGoes : (old : Plan) → Edit → (new : Plan) → List Node → NodeId → Type 0
RestsOnWhatGoes old edit new nodes id = (what : Item) × TakesItem old edit new what × RestsOn nodes id what

-- exactly the nodes that rest on a bound or a link that an edit takes away have no place among those that are kept
abbrev pub AreWithdrawn : (old : Plan) → Edit → (new : Plan) → List Node → List (Option NodeId) → Type 0
AreWithdrawn old edit new nodes places = (id : NodeId) (node : Node) → node_at nodes id ≡ Some node
    → ((place_at places id ≡ None) ↔ RestsOnWhatGoes old edit new nodes id)

-- The shown form of what an edit makes of a network has the parts of what it makes of the network's shown form.
abbrev pub ShownFormsFollowEdits : Type 0
ShownFormsFollowEdits = (old : Plan) (edit : Edit) (new : Plan) → edited old edit ≡ Ok new → HasEditedParts (shown_form old) edit (shown_form new)

-- Exactly the bounds that an edit takes away have no number in the new network.
abbrev pub EditsTakeBounds : Type 0
EditsTakeBounds =
    (old : Plan) (edit : Edit) (new : Plan) (id : BoundId) (bound : Bound) → IsPlan old → IsPlan new → HasEditedParts old edit new
    → slice_get old.bounds id.0 ≡ Some bound
    → (((renumbering old edit new).bounds id ≡ None) ↔ TakesBound edit new bound)

-- Exactly the links that an edit takes away have no number in the new network.
abbrev pub EditsTakeLinks : Type 0
EditsTakeLinks =
    (old : Plan) (edit : Edit) (new : Plan) (id : LinkId) (link : Link) → IsPlan old → IsPlan new → HasEditedParts old edit new
    → slice_get old.links id.0 ≡ Some link
    → (((renumbering old edit new).links id ≡ None) ↔ TakesLink old edit new link)

-- Exactly the bounds that an edit brings are new.
abbrev pub EditsBringBounds : Type 0
EditsBringBounds =
    (old : Plan) (edit : Edit) (new : Plan) (id : BoundId) (bound : Bound) → IsPlan old → IsPlan new → HasEditedParts old edit new
    → slice_get new.bounds id.0 ≡ Some bound
    → ((is_new_bound old edit new bound ≡ true) ↔ BringsBound old edit bound)

-- Exactly the links that an edit brings are new.
abbrev pub EditsBringLinks : Type 0
EditsBringLinks =
    (old : Plan) (edit : Edit) (new : Plan) (id : LinkId) (link : Link) → IsPlan old → IsPlan new → HasEditedParts old edit new
    → slice_get new.links id.0 ≡ Some link
    → ((is_new_link old edit new link ≡ true) ↔ BringsLink old edit new link)

-- Exactly the nodes that rest on a bound or a link that an edit takes away are not kept.
abbrev pub EditsWithdrawNodes : Type 0
EditsWithdrawNodes =
    (old : Plan) (edit : Edit) (new : Plan) (nodes : List Node) (after : Following) → IsPlan old → IsPlan new → HasEditedParts old edit new
    → IsDerivationList old nodes → AreKept (renumbering old edit new) nodes after → AreWithdrawn old edit new nodes after.places
