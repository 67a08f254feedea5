-- What an edit leaves of bounds and links: those that it does not drop stand in the edited network, under their names and between points
-- of the same names, and each that stands there stood before or is added.
use Rattle.std.proofs.Common.{◌≡◌, ◌≢◌, ◌==◌, ℕ, ℤ, ◌-◌, Bool, true, false, ◌⊎◌, inl, inr, List, [], ◌∷◌, ◌++◌, Some, refl, ap, sym, ◌∙◌, subst}
use Rattle.std.specs.Prelude.{slice_get, nat_lt, if◌then◌else◌}
use Rattle.std.specs.List.{remove}
use Rattle.std.specs.Option.{option_map}
use Rattle.std.proofs.lemmas.Bool.{eqb-true, eqb-false}
use Rattle.std.proofs.lemmas.Option.{slice_get-map, get_or_from_slice_get, slice_get_within}
use Rattle.net_model.specs.EditedNetwork.{closed_up, without_point, with_number, with_interval}
use Rattle.net_model.specs.Network.{Plan, IsPlan, IsPoint, IsBound, IsLink, point_named, activation}
use Rattle.net_model.specs.declared.edit.Edit.TheVariants as edits
use Rattle.net_model.specs.declared.edit.Edit.{Edit}
use Rattle.net_model.specs.declared.ids.BoundId.{BoundId}
use Rattle.net_model.specs.declared.ids.LinkId.{LinkId}
use Rattle.net_model.specs.declared.ids.PointId.{PointId}
use Rattle.net_model.specs.declared.part.Bound.{Bound}
use Rattle.net_model.specs.declared.part.Link.{Link}
use Rattle.net_model.proofs.AcceptedEdits.{Makes}
use Rattle.net_model.proofs.NetworkLemmas.{more_points}
use Rattle.closure_model.proofs.Nodes.{before_push}
use Rattle.closure_model.proofs.Slots.{set_same, set_other}
use Rattle.net_model.specs.NetworkParts.{point_name}
use Rattle.net_model.proofs.RuleLemmas.{two_steps}
use Rattle.edit_laws.proofs.ByNames.{named_at, bound_found, link_found}
use Rattle.edit_laws.proofs.Gaps.{stays_at, before_last}

-- a point of a network has the name that a point of another has
abbrev pub IsNamesake : (old net : Plan) → PointId → PointId → Type 0
IsNamesake old net point other = slice_get net.points other.0 ≡ slice_get old.points point.0

-- a bound of a network stands in another one: under its name and between points of the same names
pub record BoundStands (old net : Plan) (bound : Bound) : Type 0 where
  pub place : ℕ
  pub other : Bound
  pub there : slice_get net.bounds place ≡ Some other
  pub name : other.name ≡ bound.name
  pub from : IsNamesake old net bound.from other.from
  pub to : IsNamesake old net bound.to other.to

pub record LinkStands (old net : Plan) (link : Link) : Type 0 where
  pub place : ℕ
  pub other : Link
  pub there : slice_get net.links place ≡ Some other
  pub from : IsNamesake old net link.from other.from
  pub to : IsNamesake old net link.to other.to

-- ---- points
pub point_more : (old : Plan) (name : List ℕ) (point : PointId) → IsPoint old point → IsNamesake old (more_points old name) point point
point_more old name point inside = before_last old.points name point.0 inside

closed_is : (dropped point : PointId) → (closed_up dropped point).0 ≡ (if nat_lt dropped.0 point.0 then point.0 - 1 else point.0)
closed_is dropped point = by (nat_lt dropped.0 point.0) refl
  where
    by : (b : Bool) → nat_lt dropped.0 point.0 ≡ b → (if b then record { 0 = point.0 - 1 } else point).0 ≡ (if b then point.0 - 1 else point.0)
    by true is = refl
    by false is = refl

pub point_closes_up : (old : Plan) (dropped point : PointId) → point.0 ≢ dropped.0 → IsNamesake old (without_point old dropped) point (closed_up dropped point)
point_closes_up old dropped point apart = ap (slice_get (remove old.points dropped.0)) (closed_is dropped point) ∙ stays_at old.points dropped.0 point.0 apart

-- a point that has a name is the one that has it
pub named_as : (net : Plan) (point : PointId) (name : List ℕ) → IsPlan net → point_named net name ≡ Some point → point_name net.points point ≡ name
named_as net point name plan named = get_or_from_slice_get net.points point.0 name [] (named_at net plan name point named)

module _ (old : Plan) (plan : IsPlan old) where
  -- ---- bounds
  module _ (id : BoundId) (bound : Bound) (here : slice_get old.bounds id.0 ≡ Some bound) where
    pub bound_sound : IsBound old bound
    bound_sound = subst (IsBound old) (get_or_from_slice_get old.bounds id.0 bound bound here) (plan.bounds_sound id.0 bound (slice_get_within old.bounds id.0 bound here))

    same_bounds : (links : List Link) → BoundStands old (record old { links = links }) bound
    same_bounds links = record { place = id.0; other = bound; there = here; name = refl; from = refl; to = refl }

    without_bound : (k : ℕ) → id.0 ≢ k → BoundStands old (record old { bounds = remove old.bounds k }) bound
    without_bound k apart = record {
      place = if nat_lt k id.0 then id.0 - 1 else id.0;
      other = bound;
      there = stays_at old.bounds k id.0 apart ∙ here;
      name = refl;
      from = refl;
      to = refl;
    }

    renumbered_bound : (other : BoundId) (its : Bound) (most : ℤ) → slice_get old.bounds other.0 ≡ Some its → BoundStands old (with_number old other most its) bound
    renumbered_bound other its most at = by (id.0 == other.0) refl
      where
        by : (b : Bool) → id.0 == other.0 ≡ b → BoundStands old (with_number old other most its) bound
        by true same =
            let number : id.0 ≡ other.0 = eqb-true id.0 other.0 same in
            let both : Some its ≡ Some bound = sym at ∙ (ap (slice_get old.bounds) (sym number) ∙ here) in
            let is : its ≡ bound = cc in
            record {
              place = other.0;
              other = record its { most = most };
              there = set_same old.bounds other.0 its (record its { most = most }) at;
              name = ap (λ (b : Bound). b.name) is;
              from = ap (λ (b : Bound). slice_get old.points b.from.0) is;
              to = ap (λ (b : Bound). slice_get old.points b.to.0) is;
            }
        by false apart = record {
          place = id.0;
          other = bound;
          there = set_other old.bounds other.0 id.0 (record its { most = most }) (eqb-false id.0 other.0 apart) ∙ here;
          name = refl;
          from = refl;
          to = refl;
        }

    -- a bound that an edit does not drop stands in what the edit makes
    pub bound_stays : (edit : Edit) (made : Plan) → Makes old edit made → (edit ≡ edits.DropBound bound.name) ⊎ BoundStands old made bound
    bound_stays (edits.AddPoint name) made (not_taken, is) =
        inr (subst (λ (n : Plan). BoundStands old n bound) (sym is)
        (record { place = id.0; other = bound; there = here; name = refl; from = point_more old name bound.from bound_sound.from_point; to = point_more old name bound.to bound_sound.to_point }))
    bound_stays (edits.AddBound name from to most) made (added, named, not_taken, is) =
        inr (subst (λ (n : Plan). BoundStands old n bound) (sym is)
        (record { place = id.0; other = bound; there = before_push old.bounds added id.0 bound here; name = refl; from = refl; to = refl }))
    bound_stays (edits.AddLink from low high to) made (added, ends, not_taken, is) = inr (subst (λ (n : Plan). BoundStands old n bound) (sym is) (same_bounds (old.links ++ added ∷ [])))
    bound_stays (edits.DropPoint name) made (point, named, unused, is) =
        let free = unused.bounds id.0 bound here in
        inr (subst (λ (n : Plan). BoundStands old n bound) (sym is)
        (record {
          place = id.0;
          other = record bound { from = closed_up point bound.from; to = closed_up point bound.to };
          there = slice_get-map (λ (b : Bound). record b { from = closed_up point b.from; to = closed_up point b.to }) old.bounds id.0
              ∙ ap (option_map (λ (b : Bound). record b { from = closed_up point b.from; to = closed_up point b.to })) here;
          name = refl;
          from = point_closes_up old point bound.from free.0;
          to = point_closes_up old point bound.to free.1;
        }))
    bound_stays (edits.DropBound name) made (other, named, is) = by (id.0 == other.0) refl
      where
        by : (b : Bool) → id.0 == other.0 ≡ b → (edits.DropBound name ≡ edits.DropBound bound.name) ⊎ BoundStands old made bound
        by true same =
            let (its, at, its_name) = bound_found old plan name other named in
            let number : id.0 ≡ other.0 = eqb-true id.0 other.0 same in
            let both : Some its ≡ Some bound = sym at ∙ (ap (slice_get old.bounds) (sym number) ∙ here) in
            let one : its ≡ bound = cc in
            inl (ap edits.DropBound (sym its_name ∙ ap (λ (b : Bound). b.name) one))
        by false apart = inr (subst (λ (n : Plan). BoundStands old n bound) (sym is) (without_bound other.0 (eqb-false id.0 other.0 apart)))
    bound_stays (edits.SetBound name most) made (other, its, named, at, is) = inr (subst (λ (n : Plan). BoundStands old n bound) (sym is) (renumbered_bound other its most at))
    bound_stays (edits.DropLink to) made (other, named, is) = inr (subst (λ (n : Plan). BoundStands old n bound) (sym is) (same_bounds (remove old.links other.0)))
    bound_stays (edits.SetLink to low high) made (other, its, named, at, is) = inr (subst (λ (n : Plan). BoundStands old n bound) (sym is) (same_bounds (with_interval old other low high its).links))

  -- ---- links
  module _ (id : LinkId) (link : Link) (here : slice_get old.links id.0 ≡ Some link) where
    pub link_sound : IsLink old link
    link_sound = subst (IsLink old) (get_or_from_slice_get old.links id.0 link link here) (plan.links_sound id.0 link (slice_get_within old.links id.0 link here))

    same_links : (bounds : List Bound) → LinkStands old (record old { bounds = bounds }) link
    same_links bounds = record { place = id.0; other = link; there = here; from = refl; to = refl }

    without_link : (k : ℕ) → id.0 ≢ k → LinkStands old (record old { links = remove old.links k }) link
    without_link k apart = record {
      place = if nat_lt k id.0 then id.0 - 1 else id.0;
      other = link;
      there = stays_at old.links k id.0 apart ∙ here;
      from = refl;
      to = refl;
    }

    renumbered_link : (other : LinkId) (its : Link) (low high : ℤ) → slice_get old.links other.0 ≡ Some its → LinkStands old (with_interval old other low high its) link
    renumbered_link other its low high at = by (id.0 == other.0) refl
      where
        by : (b : Bool) → id.0 == other.0 ≡ b → LinkStands old (with_interval old other low high its) link
        by true same =
            let number : id.0 ≡ other.0 = eqb-true id.0 other.0 same in
            let both : Some its ≡ Some link = sym at ∙ (ap (slice_get old.links) (sym number) ∙ here) in
            let is : its ≡ link = cc in
            record {
              place = other.0;
              other = record its { low = low; high = high };
              there = set_same old.links other.0 its (record its { low = low; high = high }) at;
              from = ap (λ (l : Link). slice_get old.points l.from.0) is;
              to = ap (λ (l : Link). slice_get old.points l.to.0) is;
            }
        by false apart = record {
          place = id.0;
          other = link;
          there = set_other old.links other.0 id.0 (record its { low = low; high = high }) (eqb-false id.0 other.0 apart) ∙ here;
          from = refl;
          to = refl;
        }

    -- a link that an edit does not drop stands in what the edit makes
    pub link_stays : (edit : Edit) (made : Plan) → Makes old edit made → (edit ≡ edits.DropLink (point_name old.points link.to)) ⊎ LinkStands old made link
    link_stays (edits.AddPoint name) made (not_taken, is) =
        inr (subst (λ (n : Plan). LinkStands old n link) (sym is)
        (record { place = id.0; other = link; there = here; from = point_more old name link.from link_sound.from_point; to = point_more old name link.to link_sound.to_point }))
    link_stays (edits.AddBound name from to most) made (added, named, not_taken, is) = inr (subst (λ (n : Plan). LinkStands old n link) (sym is) (same_links (old.bounds ++ added ∷ [])))
    link_stays (edits.AddLink from low high to) made (added, ends, not_taken, is) =
        inr (subst (λ (n : Plan). LinkStands old n link) (sym is)
        (record { place = id.0; other = link; there = before_push old.links added id.0 link here; from = refl; to = refl }))
    link_stays (edits.DropPoint name) made (point, named, unused, is) =
        let free = unused.links id.0 link here in
        inr (subst (λ (n : Plan). LinkStands old n link) (sym is)
        (record {
          place = id.0;
          other = record link { from = closed_up point link.from; to = closed_up point link.to };
          there = slice_get-map (λ (l : Link). record l { from = closed_up point l.from; to = closed_up point l.to }) old.links id.0
              ∙ ap (option_map (λ (l : Link). record l { from = closed_up point l.from; to = closed_up point l.to })) here;
          from = point_closes_up old point link.from free.0;
          to = point_closes_up old point link.to free.1;
        }))
    link_stays (edits.DropBound name) made (other, named, is) = inr (subst (λ (n : Plan). LinkStands old n link) (sym is) (same_links (remove old.bounds other.0)))
    link_stays (edits.SetBound name most) made (other, its, named, at, is) = inr (subst (λ (n : Plan). LinkStands old n link) (sym is) (same_links (with_number old other most its).bounds))
    link_stays (edits.DropLink to) made (other, named, is) = by (id.0 == other.0) refl
      where
        by : (b : Bool) → id.0 == other.0 ≡ b → (edits.DropLink to ≡ edits.DropLink (point_name old.points link.to)) ⊎ LinkStands old made link
        by true same =
            let (point, point_is, ends) = two_steps (activation old) (point_named old to) other named in
            let (its, at, its_to) = link_found old plan point other ends in
            let number : id.0 ≡ other.0 = eqb-true id.0 other.0 same in
            let both : Some its ≡ Some link = sym at ∙ (ap (slice_get old.links) (sym number) ∙ here) in
            let one : its ≡ link = cc in
            let to_is : point ≡ link.to = sym its_to ∙ ap (λ (l : Link). l.to) one in
            inl (ap edits.DropLink (sym (named_as old point to plan point_is) ∙ ap (point_name old.points) to_is))
        by false apart = inr (subst (λ (n : Plan). LinkStands old n link) (sym is) (without_link other.0 (eqb-false id.0 other.0 apart)))
    link_stays (edits.SetLink to low high) made (other, its, named, at, is) = inr (subst (λ (n : Plan). LinkStands old n link) (sym is) (renumbered_link other its low high at))
