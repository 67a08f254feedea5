-- The nodes that are not kept are those that rest on a bound or a link that the edit takes away.
use Rattle.std.proofs.Common.{◌≡◌, List, Option, Some, None, refl, subst}
use Rattle.std.specs.Prelude.{slice_get}
use Rattle.net_model.specs.Network.{Plan, IsPlan}
use Rattle.net_model.specs.declared.edit.Edit.{Edit}
use Rattle.net_model.specs.declared.part.Bound.{Bound}
use Rattle.net_model.specs.declared.part.Edge.{Edge}
use Rattle.net_model.specs.declared.part.Link.{Link}
use Rattle.net_model.proofs.RuleLemmas.{lower_case_gives, cross_case_gives}
use Rattle.closure_model.specs.Derivations.{item_of, IsDerivationList}
use Rattle.closure_model.specs.declared.derivation.Item.{Item}
use Rattle.closure_model.specs.declared.derivation.Item.TheVariants as item
use Rattle.closure_model.specs.declared.derivation.Node.{Node}
use Rattle.closure_model.specs.declared.derivation.NodeId.{NodeId}
use Rattle.closure_model.specs.declared.derivation.Rule.{Rule}
use Rattle.closure_model.proofs.DerivedNodes.{Made, made_bound, made_link, made_no, made_up, made_low, made_cross, made_drop, made_at}
use Rattle.edit_laws.specs.KeptLists.{IsTakenAway, RestsOnTaken, place_at, IsKeptOrTaken}
use Rattle.edit_laws.specs.EditNumbers.{renumbering}
use Rattle.edit_laws.specs.EditEffects.{HasEditedParts, TakesItem, RestsOnWhatGoes, EditsWithdrawNodes}
use Rattle.edit_laws.proofs.TakenLemmas.{law_edits_take_bounds, law_edits_take_links}

-- a bound or a link that a network has
abbrev Stands : Plan → Item → Type 0
Stands net (item.Bound id) = (bound : Bound) × (slice_get net.bounds id.0 ≡ Some bound)
Stands net (item.Link id) = (link : Link) × (slice_get net.links id.0 ≡ Some link)

module _ (net : Plan) where
  -- what a node of a derivation list uses stands in the network
  used_stands : (nodes : List Node) (edge : Edge) (rule : Rule) (limit : _) (what : Item) → Made net nodes limit edge rule → item_of rule ≡ Some what → Stands net what
  used_stands nodes edge rule limit what (made_bound name bound declared gave) uses = let same : item.Bound name ≡ what = cc in subst (Stands net) same (bound, declared)
  used_stands nodes edge rule limit what (made_link name link declared gave) uses = let same : item.Link name ≡ what = cc in subst (Stands net) same (link, declared)
  used_stands nodes edge rule limit what (made_no first second one two read_one read_two gave) uses = absurd cc
  used_stands nodes edge rule limit what (made_up first second one two read_one read_two gave) uses = absurd cc
  used_stands nodes edge rule limit what (made_low name second two read_two gave) uses =
      let gives = lower_case_gives net name two edge gave in
      let same : item.Link name ≡ what = cc in subst (Stands net) same (gives.link, gives.declared)
  used_stands nodes edge rule limit what (made_cross name second two read_two gave) uses =
      let gives = cross_case_gives net name two edge gave in
      let same : item.Link name ≡ what = cc in subst (Stands net) same (gives.link, gives.declared)
  used_stands nodes edge rule limit what (made_drop premise one read_one gave) uses = absurd cc

module _ (old : Plan) (edit : Edit) (new : Plan) (before : IsPlan old) (after : IsPlan new) (has : HasEditedParts old edit new) where
  goes : (what : Item) → Stands old what → IsTakenAway (renumbering old edit new) what → TakesItem old edit new what
  goes (item.Bound id) (bound, here) taken = (bound, here, (law_edits_take_bounds old edit new id bound before after has here).0 taken)
  goes (item.Link id) (link, here) taken = (link, here, (law_edits_take_links old edit new id link before after has here).0 taken)

  taken_of : (what : Item) → TakesItem old edit new what → IsTakenAway (renumbering old edit new) what
  taken_of (item.Bound id) (bound, here, takes) = (law_edits_take_bounds old edit new id bound before after has here).1 takes
  taken_of (item.Link id) (link, here, takes) = (law_edits_take_links old edit new id link before after has here).1 takes

  module _ (nodes : List Node) (list : IsDerivationList old nodes) (id : NodeId) where
    rests_on_what_goes : RestsOnTaken (renumbering old edit new) nodes id → RestsOnWhatGoes old edit new nodes id
    rests_on_what_goes (what, taken, rests) =
        (what, goes what (used_stands old nodes rests.node.edge rests.node.rule rests.below.0 what (made_at old nodes list rests.below rests.node rests.here) rests.uses) taken, rests)

    rests_on_taken : RestsOnWhatGoes old edit new nodes id → RestsOnTaken (renumbering old edit new) nodes id
    rests_on_taken (what, takes, rests) = (what, taken_of what takes, rests)

pub law_edits_withdraw_nodes : EditsWithdrawNodes
law_edits_withdraw_nodes old edit new nodes following before after has list are id node here = (withdrawn, gone)
  where
    kept : IsKeptOrTaken (renumbering old edit new) nodes following.places following.kept id node (place_at following.places id)
    kept = are.each id node here

    withdrawn : place_at following.places id ≡ None → RestsOnWhatGoes old edit new nodes id
    withdrawn none = rests_on_what_goes old edit new before after has nodes list id (subst (IsKeptOrTaken (renumbering old edit new) nodes following.places following.kept id node) none kept)

    by : (o : Option NodeId) → IsKeptOrTaken (renumbering old edit new) nodes following.places following.kept id node o → RestsOnTaken (renumbering old edit new) nodes id → o ≡ None
    by None placed rests = refl
    by (Some place) placed rests = absurd (placed.free rests)

    gone : RestsOnWhatGoes old edit new nodes id → place_at following.places id ≡ None
    gone rests = by (place_at following.places id) kept (rests_on_taken old edit new before after has nodes list id rests)
