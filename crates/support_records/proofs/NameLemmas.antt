-- The numbers of a bound and of a link in an edited network, and of a link in the network before, by what was looked up.
use Rattle.std.proofs.Common.{◌≡◌, ℕ, true, false, List, [], Option, Some, None, ap, sym, ◌∙◌}
use Rattle.std.specs.Prelude.{slice_get, if◌then◌else◌}
use Rattle.std.specs.Option.{option_and_then}
use Rattle.std.proofs.lemmas.Option.{get_or_from_slice_get}
use Rattle.net_model.specs.Network.{Plan, point_named, bound_named, activation}
use Rattle.net_model.specs.declared.edit.Edit.{Edit}
use Rattle.net_model.specs.declared.ids.BoundId.{BoundId}
use Rattle.net_model.specs.declared.ids.LinkId.{LinkId}
use Rattle.net_model.specs.declared.ids.PointId.{PointId}
use Rattle.net_model.specs.declared.part.Bound.{Bound}
use Rattle.net_model.specs.declared.part.Link.{Link}
use Rattle.edit_laws.specs.KeptLists.{Renumbering}
use Rattle.edit_laws.specs.EditNumbers.{sets_bound, sets_link, point_in, is_same_bound, is_same_link, same_place, same_link_place, bound_in, link_in}
use Rattle.support_records.specs.NewNodes.{link_before}

module _ (old : Plan) (edit : Edit) (new : Plan) (link : Link) where
  abbrev at_point : PointId → Option LinkId
  at_point point = option_and_then (same_link_place old new link) (activation new point)

  module _ (name : List ℕ) (here : slice_get old.points link.to.0 ≡ Some name) where
    pub link_set : sets_link edit name ≡ true → None ≡ link_in old edit new link
    link_set is = sym (λ i. if (ap (sets_link edit) (get_or_from_slice_get old.points link.to.0 name [] here) ∙ is) i then None else option_and_then at_point (point_in old new link.to))

    pub link_unset : sets_link edit name ≡ false → (point : Option PointId) → point_in old new link.to ≡ point → option_and_then at_point point ≡ link_in old edit new link
    link_unset is point found = sym (λ i. if (ap (sets_link edit) (get_or_from_slice_get old.points link.to.0 name [] here) ∙ is) i then None else option_and_then at_point (found i))

    pub link_placed : sets_link edit name ≡ false → (point : PointId) → point_in old new link.to ≡ Some point → (place : Option LinkId) → activation new point ≡ place
        → option_and_then (same_link_place old new link) place ≡ link_in old edit new link
    link_placed is point found place ends = sym (ap (option_and_then (same_link_place old new link)) ends) ∙ link_unset is (Some point) found

    pub link_compared : sets_link edit name ≡ false → (point : PointId) → point_in old new link.to ≡ Some point → (place : LinkId) → activation new point ≡ Some place
        → (other : Option Link) → slice_get new.links place.0 ≡ other → option_and_then (λ (l : Link). if is_same_link old new link l then Some place else None) other ≡ link_in old edit new link
    link_compared is point found place ends other there =
        sym (ap (option_and_then (λ (l : Link). if is_same_link old new link l then Some place else None)) there) ∙ link_placed is point found (Some place) ends

module _ (old : Plan) (edit : Edit) (new : Plan) (bound : Bound) where
  pub bound_set : sets_bound edit bound.name ≡ true → None ≡ bound_in old edit new bound
  bound_set is = sym (λ i. if is i then None else option_and_then (same_place old new bound) (bound_named new bound.name))

  pub bound_unset : sets_bound edit bound.name ≡ false → (place : Option BoundId) → bound_named new bound.name ≡ place → option_and_then (same_place old new bound) place ≡ bound_in old edit new bound
  bound_unset is place found = sym (λ i. if is i then None else option_and_then (same_place old new bound) (found i))

  pub bound_compared : sets_bound edit bound.name ≡ false → (place : BoundId) → bound_named new bound.name ≡ Some place → (other : Option Bound) → slice_get new.bounds place.0 ≡ other
      → option_and_then (λ (b : Bound). if is_same_bound old new bound b then Some place else None) other ≡ bound_in old edit new bound
  bound_compared is place found other there = sym (ap (option_and_then (λ (b : Bound). if is_same_bound old new bound b then Some place else None)) there) ∙ bound_unset is (Some place) found

module _ (moves : Renumbering) (old new : Plan) (link : Link) where
  abbrev number_at : PointId → Option LinkId
  number_at point = option_and_then moves.links (activation old point)

  module _ (name : List ℕ) (here : slice_get new.points link.to.0 ≡ Some name) where
    pub before_named : (point : Option PointId) → point_named old name ≡ point → option_and_then number_at point ≡ link_before moves old new link
    before_named point found = sym (ap (option_and_then number_at) (ap (option_and_then (point_named old)) here ∙ found))

    pub before_placed : (point : PointId) → point_named old name ≡ Some point → (place : Option LinkId) → activation old point ≡ place → option_and_then moves.links place ≡ link_before moves old new link
    before_placed point found place ends = sym (ap (option_and_then moves.links) ends) ∙ before_named (Some point) found
