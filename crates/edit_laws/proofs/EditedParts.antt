-- What an edit leaves of bounds and links, seen from the edited network: each that stands there stood before or is added, and what is
-- dropped is gone.
use Rattle.std.proofs.Common.{◌≡◌, ◌≢◌, ◌==◌, ℕ, ℤ, Bool, true, false, ◌⊎◌, inl, inr, List, length, Some, refl, ap, sym, ◌∙◌}
use Rattle.std.specs.Prelude.{slice_get}
use Rattle.std.specs.List.{remove}
use Rattle.std.proofs.lemmas.Bool.{eqb-true, eqb-false}
use Rattle.std.proofs.lemmas.Option.{slice_get-map}
use Rattle.net_model.specs.EditedNetwork.{closed_up, with_number, with_interval}
use Rattle.net_model.specs.Network.{Plan, IsPlan, point_named, activation}
use Rattle.net_model.specs.declared.edit.Edit.TheVariants as edits
use Rattle.net_model.specs.declared.edit.Edit.{Edit}
use Rattle.net_model.specs.declared.ids.BoundId.{BoundId}
use Rattle.net_model.specs.declared.ids.LinkId.{LinkId}
use Rattle.net_model.specs.declared.ids.PointId.{PointId}
use Rattle.net_model.specs.declared.part.Bound.{Bound}
use Rattle.net_model.specs.declared.part.Link.{Link}
use Rattle.net_model.proofs.AcceptedEdits.{Makes}
use Rattle.closure_model.proofs.Nodes.{push_cases}
use Rattle.closure_model.proofs.Slots.{set_same, set_other, some_of_map}
use Rattle.net_model.specs.NetworkParts.{point_name}
use Rattle.net_model.proofs.RuleLemmas.{two_steps}
use Rattle.edit_laws.specs.EditEffects.{AddsBound, AddsLink}
use Rattle.edit_laws.proofs.ByNames.{at_named, bound_placed, link_placed}
use Rattle.edit_laws.proofs.Gaps.{stood_at}
use Rattle.edit_laws.proofs.LastingParts.{IsNamesake, link_sound, named_as, point_closes_up, point_more}

-- a bound of this name stood in a network
pub record BoundStood (old : Plan) (name : List ℕ) : Type 0 where
  pub place : ℕ
  pub was : Bound
  pub there : slice_get old.bounds place ≡ Some was
  pub named : was.name ≡ name

-- a link stood in a network that ended in the point of the name that the point of another has
pub record LinkStood (old net : Plan) (to : PointId) : Type 0 where
  pub place : ℕ
  pub was : Link
  pub there : slice_get old.links place ≡ Some was
  pub ends : IsNamesake old net was.to to

module _ (old : Plan) (plan : IsPlan old) where
  -- ---- bounds
  same_stood : (k : ℕ) (bound : Bound) → slice_get old.bounds k ≡ Some bound → BoundStood old bound.name
  same_stood k bound here = record { place = k; was = bound; there = here; named = refl }

  numbered_stood : (id : BoundId) (its : Bound) (most : ℤ) (k : ℕ) (bound : Bound) → slice_get old.bounds id.0 ≡ Some its → slice_get (with_number old id most its).bounds k ≡ Some bound → BoundStood old bound.name
  numbered_stood id its most k bound at here = by (k == id.0) refl
    where
      by : (b : Bool) → k == id.0 ≡ b → BoundStood old bound.name
      by true same =
          let number : k ≡ id.0 = eqb-true k id.0 same in
          let both : Some (record its { most = most }) ≡ Some bound = sym (set_same old.bounds id.0 its (record its { most = most }) at) ∙ (ap (slice_get (with_number old id most its).bounds) (sym number) ∙ here) in
          let is : record its { most = most } ≡ bound = cc in
          record { place = id.0; was = its; there = at; named = ap (λ (b : Bound). b.name) is }
      by false apart = same_stood k bound (sym (set_other old.bounds id.0 k (record its { most = most }) (eqb-false k id.0 apart)) ∙ here)

  pub bound_comes : (edit : Edit) (made : Plan) (k : ℕ) (bound : Bound) → Makes old edit made → slice_get made.bounds k ≡ Some bound → AddsBound edit bound.name ⊎ BoundStood old bound.name
  bound_comes (edits.AddPoint name) made k bound (not_taken, is) here = inr (same_stood k bound (ap (λ (n : Plan). slice_get n.bounds k) (sym is) ∙ here))
  bound_comes (edits.DropPoint name) made k bound (point, named, unused, is) here =
      let (was, there, closed) = some_of_map (λ (b : Bound). record b { from = closed_up point b.from; to = closed_up point b.to }) (slice_get old.bounds k) bound
      (sym (slice_get-map (λ (b : Bound). record b { from = closed_up point b.from; to = closed_up point b.to }) old.bounds k) ∙ (ap (λ (n : Plan). slice_get n.bounds k) (sym is) ∙ here)) in
      inr (record { place = k; was = was; there = there; named = ap (λ (b : Bound). b.name) closed })
  bound_comes (edits.AddBound name from to most) made k bound (added, named, not_taken, is) here = by (push_cases old.bounds added k bound (ap (λ (n : Plan). slice_get n.bounds k) (sym is) ∙ here))
    where
      by : (slice_get old.bounds k ≡ Some bound) ⊎ ((k ≡ length old.bounds) × (added ≡ bound)) → AddsBound (edits.AddBound name from to most) bound.name ⊎ BoundStood old bound.name
      by (inl stood) = inr (same_stood k bound stood)
      by (inr (last, same)) =
          let its : name ≡ bound.name = sym named ∙ ap (λ (b : Bound). b.name) same in
          inl (from, to, most, ap (λ (n : List ℕ). edits.AddBound n from to most) its)
  bound_comes (edits.DropBound name) made k bound (id, named, is) here =
      let (j, apart, stood) = stood_at old.bounds id.0 k bound (ap (λ (n : Plan). slice_get n.bounds k) (sym is) ∙ here) in inr (same_stood j bound stood)
  bound_comes (edits.SetBound name most) made k bound (id, its, named, at, is) here = inr (numbered_stood id its most k bound at (ap (λ (n : Plan). slice_get n.bounds k) (sym is) ∙ here))
  bound_comes (edits.AddLink from low high to) made k bound (added, ends, not_taken, is) here = inr (same_stood k bound (ap (λ (n : Plan). slice_get n.bounds k) (sym is) ∙ here))
  bound_comes (edits.DropLink to) made k bound (id, named, is) here = inr (same_stood k bound (ap (λ (n : Plan). slice_get n.bounds k) (sym is) ∙ here))
  bound_comes (edits.SetLink to low high) made k bound (id, its, named, at, is) here = inr (same_stood k bound (ap (λ (n : Plan). slice_get n.bounds k) (sym is) ∙ here))

  pub dropped_bound_gone : (name : List ℕ) (made : Plan) (k : ℕ) (bound : Bound) → Makes old (edits.DropBound name) made → slice_get made.bounds k ≡ Some bound → bound.name ≢ name
  dropped_bound_gone name made k bound (id, named, is) here same =
      let (j, apart, stood) = stood_at old.bounds id.0 k bound (ap (λ (n : Plan). slice_get n.bounds k) (sym is) ∙ here) in
      let this : BoundId = record { 0 = j } in
      let both : Some id ≡ Some this = sym named ∙ bound_placed old plan name this bound stood same in
      let one : id ≡ this = cc in
      apart (ap (λ (i : BoundId). i.0) (sym one))

  -- ---- links
  same_link_stood : (k : ℕ) (link : Link) (net : Plan) → net.points ≡ old.points → slice_get old.links k ≡ Some link → LinkStood old net link.to
  same_link_stood k link net points here = record { place = k; was = link; there = here; ends = ap (λ (ps : List (List ℕ)). slice_get ps link.to.0) points }

  interval_stood : (id : LinkId) (its : Link) (low high : ℤ) (k : ℕ) (link : Link) → slice_get old.links id.0 ≡ Some its → slice_get (with_interval old id low high its).links k ≡ Some link → LinkStood old old link.to
  interval_stood id its low high k link at here = by (k == id.0) refl
    where
      by : (b : Bool) → k == id.0 ≡ b → LinkStood old old link.to
      by true same =
          let number : k ≡ id.0 = eqb-true k id.0 same in
          let both : Some (record its { low = low; high = high }) ≡ Some link =
          sym (set_same old.links id.0 its (record its { low = low; high = high }) at) ∙ (ap (slice_get (with_interval old id low high its).links) (sym number) ∙ here) in
          let is : record its { low = low; high = high } ≡ link = cc in
          record { place = id.0; was = its; there = at; ends = ap (λ (l : Link). slice_get old.points l.to.0) (sym is) }
      by false apart = same_link_stood k link old refl (sym (set_other old.links id.0 k (record its { low = low; high = high }) (eqb-false k id.0 apart)) ∙ here)

  pub link_comes : (edit : Edit) (made : Plan) (k : ℕ) (link : Link) → Makes old edit made → slice_get made.links k ≡ Some link → AddsLink edit (point_name made.points link.to) ⊎ LinkStood old made link.to
  link_comes (edits.AddPoint name) made k link (not_taken, is) here =
      let stood : slice_get old.links k ≡ Some link = ap (λ (n : Plan). slice_get n.links k) (sym is) ∙ here in
      inr (record {
        place = k;
        was = link;
        there = stood;
        ends = ap (λ (n : Plan). slice_get n.points link.to.0) is ∙ point_more old name link.to (link_sound old plan (record { 0 = k }) link stood).to_point;
      })
  link_comes (edits.DropPoint name) made k link (point, named, unused, is) here =
      let (was, there, closed) = some_of_map (λ (l : Link). record l { from = closed_up point l.from; to = closed_up point l.to }) (slice_get old.links k) link
      (sym (slice_get-map (λ (l : Link). record l { from = closed_up point l.from; to = closed_up point l.to }) old.links k) ∙ (ap (λ (n : Plan). slice_get n.links k) (sym is) ∙ here)) in
      let free = unused.links k was there in
      inr (record {
        place = k;
        was = was;
        there = there;
        ends = ap (λ (n : Plan). slice_get n.points link.to.0) is
            ∙ (ap (λ (l : Link). slice_get (remove old.points point.0) l.to.0) (sym closed) ∙ point_closes_up old point was.to free.1);
      })
  link_comes (edits.AddBound name from to most) made k link (added, named, not_taken, is) here =
      inr (same_link_stood k link made (ap (λ (n : Plan). n.points) is) (ap (λ (n : Plan). slice_get n.links k) (sym is) ∙ here))
  link_comes (edits.DropBound name) made k link (id, named, is) here = inr (same_link_stood k link made (ap (λ (n : Plan). n.points) is) (ap (λ (n : Plan). slice_get n.links k) (sym is) ∙ here))
  link_comes (edits.SetBound name most) made k link (id, its, named, at, is) here =
      inr (same_link_stood k link made (ap (λ (n : Plan). n.points) is) (ap (λ (n : Plan). slice_get n.links k) (sym is) ∙ here))
  link_comes (edits.AddLink from low high to) made k link (added, named, not_taken, is) here = by (push_cases old.links added k link (ap (λ (n : Plan). slice_get n.links k) (sym is) ∙ here))
    where
      by : (slice_get old.links k ≡ Some link) ⊎ ((k ≡ length old.links) × (added ≡ link)) → AddsLink (edits.AddLink from low high to) (point_name made.points link.to) ⊎ LinkStood old made link.to
      by (inl stood) = inr (same_link_stood k link made (ap (λ (n : Plan). n.points) is) stood)
      by (inr (last, same)) =
          let its : to ≡ point_name made.points link.to =
          sym (named_as old added.to to plan named) ∙ (ap (λ (l : Link). point_name old.points l.to) same ∙ ap (λ (n : Plan). point_name n.points link.to) (sym is)) in
          inl (from, low, high, ap (λ (n : List ℕ). edits.AddLink from low high n) its)
  link_comes (edits.DropLink to) made k link (id, named, is) here =
      let (j, apart, stood) = stood_at old.links id.0 k link (ap (λ (n : Plan). slice_get n.links k) (sym is) ∙ here) in
      inr (same_link_stood j link made (ap (λ (n : Plan). n.points) is) stood)
  link_comes (edits.SetLink to low high) made k link (id, its, named, at, is) here =
      let stood = interval_stood id its low high k link at (ap (λ (n : Plan). slice_get n.links k) (sym is) ∙ here) in
      inr (record { place = stood.place; was = stood.was; there = stood.there; ends = ap (λ (n : Plan). slice_get n.points link.to.0) is ∙ stood.ends })

  pub dropped_link_gone : (to : List ℕ) (made : Plan) (k : ℕ) (link : Link) → Makes old (edits.DropLink to) made → slice_get made.links k ≡ Some link → slice_get made.points link.to.0 ≢ Some to
  dropped_link_gone to made k link (id, named, is) here same =
      let (j, apart, stood) = stood_at old.links id.0 k link (ap (λ (n : Plan). slice_get n.links k) (sym is) ∙ here) in
      let this : LinkId = record { 0 = j } in
      let (point, point_is, ends) = two_steps (activation old) (point_named old to) id named in
      let points : Some point ≡ Some link.to = sym point_is ∙ at_named old plan to link.to (ap (λ (n : Plan). slice_get n.points link.to.0) (sym is) ∙ same) in
      let one : point ≡ link.to = cc in
      let both : Some id ≡ Some this = sym ends ∙ link_placed old plan point this link stood (sym one) in
      let ids : id ≡ this = cc in
      apart (ap (λ (i : LinkId). i.0) (sym ids))
