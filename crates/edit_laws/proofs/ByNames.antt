-- The numbers by names: what is found by a name, and that they are a renumbering.
use Rattle.std.proofs.Common.{◌≡◌, ◌≢◌, ◌==◌, ◌&&◌, ℕ, Bool, true, false, List, Option, Some, None, position, refl, ap, sym, ◌∙◌, subst}
use Rattle.std.specs.Prelude.{slice_get, map, if◌then◌else◌}
use Rattle.std.specs.Option.{option_map, option_and_then, option_map_or}
use Rattle.std.specs.Ordering.{int_eq}
use Rattle.std.specs.Str.{bytes_eq}
use Rattle.std.proofs.lemmas.Bool.{eq-eqb, eqb-true, and_parts}
use Rattle.std.proofs.lemmas.Bool.Decides.{Decides-int_eq}
use Rattle.std.proofs.lemmas.Map.Made.{AllPairs-from_IsDistinct}
use Rattle.std.proofs.lemmas.Option.{slice_get-map}
use Rattle.std.proofs.lemmas.Slice.Eq.{bytes_eq-Decides}
use Rattle.net_model.specs.Network.{Plan, IsPlan, point_named, bound_named, activation}
use Rattle.net_model.specs.declared.edit.Edit.{Edit}
use Rattle.net_model.specs.declared.ids.BoundId.{BoundId}
use Rattle.net_model.specs.declared.ids.LinkId.{LinkId}
use Rattle.net_model.specs.declared.ids.PointId.{PointId}
use Rattle.net_model.specs.declared.part.Bound.{Bound}
use Rattle.net_model.specs.declared.part.Link.{Link}
use Rattle.edit_laws.specs.KeptLists.{IsRenumbering, moved_bound, moved_link}
use Rattle.edit_laws.specs.KeptListLaws.{NamesRenumber}
use Rattle.net_model.specs.NetworkParts.{point_name}
use Rattle.net_model.proofs.RuleLemmas.{two_steps}
use Rattle.edit_laws.specs.EditNumbers.{sets_bound, sets_link, point_in, is_point, is_same_bound, is_same_link, same_place, bound_in, same_link_place, link_in, renumbering}
use Rattle.edit_laws.proofs.Places.{found_passes, one_is_found, pair_at}

-- ---- numbers as ids
abbrev point_id : ℕ → PointId
point_id k = record { 0 = k }

abbrev bound_id : ℕ → BoundId
bound_id k = record { 0 = k }

abbrev link_id : ℕ → LinkId
link_id k = record { 0 = k }

number_is : {U : Type 0} (id_of : ℕ → U) (number : U → ℕ) → ((k : ℕ) → number (id_of k) ≡ k) → (o : Option ℕ) (id : U) → option_map id_of o ≡ Some id → o ≡ Some (number id)
number_is id_of number back None id is = absurd cc
number_is id_of number back (Some k) id is = let same : id_of k ≡ id = cc in ap Some (sym (back k) ∙ ap number same)

pub same_bytes : (x y : List ℕ) → bytes_eq x y ≡ true → x ≡ y
same_bytes x y is = (bytes_eq-Decides x y).0 is

pub bytes_itself : (x y : List ℕ) → x ≡ y → bytes_eq x y ≡ true
bytes_itself x y is = (bytes_eq-Decides x y).1 is

module _ (net : Plan) (plan : IsPlan net) where
  pub named_at : (name : List ℕ) (point : PointId) → point_named net name ≡ Some point → slice_get net.points point.0 ≡ Some name
  named_at name point named =
      let (other, here, passes) = found_passes (bytes_eq name) net.points point.0 (number_is point_id (λ p. p.0) (λ k. refl) (position (bytes_eq name) net.points) point named) in
      here ∙ ap Some (sym (same_bytes name other passes))

  pub at_named : (name : List ℕ) (point : PointId) → slice_get net.points point.0 ≡ Some name → point_named net name ≡ Some point
  at_named name point here =
      ap (option_map point_id)
      (one_is_found (bytes_eq name) net.points point.0 name
      (λ i j a b less first second one two. pair_at (λ x y. x ≢ y) net.points (AllPairs-from_IsDistinct bytes_eq-Decides net.points plan.points_apart) i j a b less first second (sym (same_bytes name a one) ∙ same_bytes name b two))
      here (bytes_itself name name refl))

  pub bound_found : (name : List ℕ) (id : BoundId) → bound_named net name ≡ Some id → (bound : Bound) × (slice_get net.bounds id.0 ≡ Some bound) × (bound.name ≡ name)
  bound_found name id named =
      let (bound, here, passes) = found_passes (λ (b : Bound). bytes_eq name b.name) net.bounds id.0 (number_is bound_id (λ b. b.0) (λ k. refl) (position (λ (b : Bound). bytes_eq name b.name) net.bounds) id named) in
      (bound, here, sym (same_bytes name bound.name passes))

  pub bound_placed : (name : List ℕ) (id : BoundId) (bound : Bound) → slice_get net.bounds id.0 ≡ Some bound → bound.name ≡ name → bound_named net name ≡ Some id
  bound_placed name id bound here named =
      ap (option_map bound_id)
      (one_is_found (λ (b : Bound). bytes_eq name b.name) net.bounds id.0 bound
      (λ i j a b less first second one two.
      let in_names : (k : ℕ) (c : Bound) → slice_get net.bounds k ≡ Some c → slice_get (map (λ (b : Bound). b.name) net.bounds) k ≡ Some c.name = λ k c at. slice_get-map (λ (b : Bound). b.name) net.bounds k
      ∙ ap (option_map (λ (b : Bound). b.name)) at in
      pair_at (λ x y. x ≢ y) (map (λ (b : Bound). b.name) net.bounds) (AllPairs-from_IsDistinct bytes_eq-Decides (map (λ (b : Bound). b.name) net.bounds) plan.bounds_apart) i j a.name b.name less
      (in_names i a first) (in_names j b second) (sym (same_bytes name a.name one) ∙ same_bytes name b.name two))
      here (bytes_itself name bound.name (sym named)))

  pub link_found : (point : PointId) (id : LinkId) → activation net point ≡ Some id → (link : Link) × (slice_get net.links id.0 ≡ Some link) × (link.to ≡ point)
  link_found point id ends =
      let (link, here, passes) = found_passes (λ (l : Link). l.to.0 == point.0) net.links id.0 (number_is link_id (λ l. l.0) (λ k. refl) (position (λ (l : Link). l.to.0 == point.0) net.links) id ends) in
      (link, here, ap (λ (k : ℕ). record { 0 = k }) (eqb-true link.to.0 point.0 passes))

  pub link_placed : (point : PointId) (id : LinkId) (link : Link) → slice_get net.links id.0 ≡ Some link → link.to ≡ point → activation net point ≡ Some id
  link_placed point id link here ends =
      ap (option_map link_id)
      (one_is_found (λ (l : Link). l.to.0 == point.0) net.links id.0 link
      (λ i j a b less first second one two. pair_at (λ (l m : Link). l.to.0 ≢ m.to.0) net.links plan.links_apart i j a b less first second (eqb-true a.to.0 point.0 one ∙ sym (eqb-true b.to.0 point.0 two)))
      here (eq-eqb link.to.0 point.0 (ap (λ (p : PointId). p.0) ends)))

-- ---- tests
point_is : (o : Option PointId) (point : PointId) → is_point o point ≡ true → o ≡ Some point
point_is None point is = absurd cc
point_is (Some p) point is = ap (λ (k : ℕ). Some (record { 0 = k })) (eqb-true p.0 point.0 is)

unless : {A : Type 0} (b : Bool) (o : Option A) (x : A) → (if b then None else o) ≡ Some x → o ≡ Some x
unless true o x is = absurd cc
unless false o x is = is

tested : {A : Type 0} (b : Bool) (x y : A) → (if b then Some x else None) ≡ Some y → (b ≡ true) × (x ≡ y)
tested true x y is = (refl, cc)
tested false x y is = absurd cc

module _ (old : Plan) (edit : Edit) (new : Plan) where
  -- a bound has a number in the new network: there stands the same one
  pub record SameBound (bound : Bound) (place : BoundId) : Type 0 where
    pub other : Bound
    pub there : slice_get new.bounds place.0 ≡ Some other
    pub named : bound_named new bound.name ≡ Some place
    pub from : point_in old new bound.from ≡ Some other.from
    pub to : point_in old new bound.to ≡ Some other.to
    pub most : bound.most ≡ other.most

  pub bound_in_gives : (bound : Bound) (place : BoundId) → bound_in old edit new bound ≡ Some place → SameBound bound place
  bound_in_gives bound place is =
      let rest : option_and_then (same_place old new bound) (bound_named new bound.name) ≡ Some place =
      unless (sets_bound edit bound.name) (option_and_then (same_place old new bound) (bound_named new bound.name)) place is in
      let (found, named, rest_is) = two_steps (same_place old new bound) (bound_named new bound.name) place rest in
      let (other, there, test) = two_steps (λ (b : Bound). if is_same_bound old new bound b then Some found else None) (slice_get new.bounds found.0) place rest_is in
      let (same, one) = tested (is_same_bound old new bound other) found place test in
      let (from, more) = and_parts (is_point (point_in old new bound.from) other.from) (is_point (point_in old new bound.to) other.to && int_eq bound.most other.most) same in
      let (to, most) = and_parts (is_point (point_in old new bound.to) other.to) (int_eq bound.most other.most) more in
      record {
        other = other;
        there = ap (λ (id : BoundId). slice_get new.bounds id.0) (sym one) ∙ there;
        named = named ∙ ap Some one;
        from = point_is (point_in old new bound.from) other.from from;
        to = point_is (point_in old new bound.to) other.to to;
        most = (Decides-int_eq bound.most other.most).0 most;
      }

  pub record SameLink (link : Link) (place : LinkId) : Type 0 where
    pub other : Link
    pub there : slice_get new.links place.0 ≡ Some other
    pub point : PointId
    pub to : point_in old new link.to ≡ Some point
    pub ends : activation new point ≡ Some place
    pub from : point_in old new link.from ≡ Some other.from
    pub low : link.low ≡ other.low
    pub high : link.high ≡ other.high

  pub link_in_gives : (link : Link) (place : LinkId) → link_in old edit new link ≡ Some place → SameLink link place
  link_in_gives link place is =
      let rest : option_and_then (λ (p : PointId). option_and_then (same_link_place old new link) (activation new p)) (point_in old new link.to) ≡ Some place =
      unless (sets_link edit (point_name old.points link.to)) (option_and_then (λ (p : PointId). option_and_then (same_link_place old new link) (activation new p)) (point_in old new link.to)) place is in
      let (point, to, further) = two_steps (λ (p : PointId). option_and_then (same_link_place old new link) (activation new p)) (point_in old new link.to) place rest in
      let (found, ends, rest_is) = two_steps (same_link_place old new link) (activation new point) place further in
      let (other, there, test) = two_steps (λ (l : Link). if is_same_link old new link l then Some found else None) (slice_get new.links found.0) place rest_is in
      let (same, one) = tested (is_same_link old new link other) found place test in
      let (from, more) = and_parts (is_point (point_in old new link.from) other.from) (int_eq link.low other.low && int_eq link.high other.high) same in
      let (low, high) = and_parts (int_eq link.low other.low) (int_eq link.high other.high) more in
      record {
        other = other;
        there = ap (λ (id : LinkId). slice_get new.links id.0) (sym one) ∙ there;
        point = point;
        to = to;
        ends = ends ∙ ap Some one;
        from = point_is (point_in old new link.from) other.from from;
        low = (Decides-int_eq link.low other.low).0 low;
        high = (Decides-int_eq link.high other.high).0 high;
      }

-- ---- the numbers are a renumbering
pub point_moved : (old : Plan) (edit : Edit) (new : Plan) (point other : PointId) → point_in old new point ≡ Some other → (renumbering old edit new).points point ≡ other
point_moved old edit new point other is = ap (λ (o : Option PointId). option_map_or (λ (p : PointId). p) o point) is

module _ (old : Plan) (edit : Edit) (new : Plan) (before : IsPlan old) (after : IsPlan new) where
  pub bound_is_moved : (bound : Bound) (place : BoundId) (same : SameBound old edit new bound place) → same.other ≡ moved_bound (renumbering old edit new) bound
  bound_is_moved bound place same =
      let (other, there, named) = bound_found new after bound.name place same.named in
      let one : Some other ≡ Some same.other = sym there ∙ same.there in
      let is : other ≡ same.other = cc in
      let name : same.other.name ≡ bound.name = ap (λ (b : Bound). b.name) (sym is) ∙ named in
      let from : same.other.from ≡ (renumbering old edit new).points bound.from = sym (point_moved old edit new bound.from same.other.from same.from) in
      let to : same.other.to ≡ (renumbering old edit new).points bound.to = sym (point_moved old edit new bound.to same.other.to same.to) in
      let most : same.other.most ≡ bound.most = sym same.most in
      λ i. record { name = name i; from = from i; to = to i; most = most i }

  pub link_is_moved : (link : Link) (place : LinkId) (same : SameLink old edit new link place) → same.other ≡ moved_link (renumbering old edit new) link
  link_is_moved link place same =
      let (other, there, ends) = link_found new after same.point place same.ends in
      let one : Some other ≡ Some same.other = sym there ∙ same.there in
      let is : other ≡ same.other = cc in
      let from : same.other.from ≡ (renumbering old edit new).points link.from = sym (point_moved old edit new link.from same.other.from same.from) in
      let to : same.other.to ≡ (renumbering old edit new).points link.to = ap (λ (l : Link). l.to) (sym is) ∙ (ends ∙ sym (point_moved old edit new link.to same.point same.to)) in
      let low : same.other.low ≡ link.low = sym same.low in
      let high : same.other.high ≡ link.high = sym same.high in
      λ i. record { from = from i; low = low i; high = high i; to = to i }

  bound_at : (bound : Bound) (place : BoundId) → SameBound old edit new bound place → slice_get new.bounds place.0 ≡ Some (moved_bound (renumbering old edit new) bound)
  bound_at bound place same = subst (λ (b : Bound). slice_get new.bounds place.0 ≡ Some b) (bound_is_moved bound place same) same.there

  link_at : (link : Link) (place : LinkId) → SameLink old edit new link place → slice_get new.links place.0 ≡ Some (moved_link (renumbering old edit new) link)
  link_at link place same = subst (λ (l : Link). slice_get new.links place.0 ≡ Some l) (link_is_moved link place same) same.there

  -- a point of the new network is that of one point of the old one
  pub one_point : (one two point : PointId) → point_in old new one ≡ Some point → point_in old new two ≡ Some point → one ≡ two
  one_point one two point first second =
      let (name, here, named) = two_steps (point_named new) (slice_get old.points one.0) point first in
      let (other, there, also) = two_steps (point_named new) (slice_get old.points two.0) point second in
      let names : Some name ≡ Some other = sym (named_at new after name point named) ∙ named_at new after other point also in
      let same : name ≡ other = cc in
      let ids : Some one ≡ Some two = sym (at_named old before name one here) ∙ (ap (point_named old) same ∙ at_named old before other two there) in
      cc

  pub law_names_renumber : IsRenumbering old new (renumbering old edit new)
  law_names_renumber = record { bounds = bounds; links = links; apart = apart }
    where
      bounds : (id place : BoundId) (bound : Bound) → (renumbering old edit new).bounds id ≡ Some place → slice_get old.bounds id.0 ≡ Some bound → slice_get new.bounds place.0 ≡ Some (moved_bound (renumbering old edit new) bound)
      bounds id place bound moved here =
          let (found, at, is) = two_steps (bound_in old edit new) (slice_get old.bounds id.0) place moved in
          let both_are : Some found ≡ Some bound = sym at ∙ here in
          let one : found ≡ bound = cc in
          bound_at bound place (bound_in_gives old edit new bound place (subst (λ (b : Bound). bound_in old edit new b ≡ Some place) one is))

      same_of : (id place : LinkId) (link : Link) → (renumbering old edit new).links id ≡ Some place → slice_get old.links id.0 ≡ Some link → SameLink old edit new link place
      same_of id place link moved here =
          let (found, at, is) = two_steps (link_in old edit new) (slice_get old.links id.0) place moved in
          let both_are : Some found ≡ Some link = sym at ∙ here in
          let one : found ≡ link = cc in
          link_in_gives old edit new link place (subst (λ (l : Link). link_in old edit new l ≡ Some place) one is)

      links : (id place : LinkId) (link : Link) → (renumbering old edit new).links id ≡ Some place → slice_get old.links id.0 ≡ Some link → slice_get new.links place.0 ≡ Some (moved_link (renumbering old edit new) link)
      links id place link moved here = link_at link place (same_of id place link moved here)

      apart : (one two place : LinkId) → (renumbering old edit new).links one ≡ Some place → (renumbering old edit new).links two ≡ Some place → one ≡ two
      apart one two place first second =
          let (link, here, is) = two_steps (link_in old edit new) (slice_get old.links one.0) place first in
          let (other, there, also) = two_steps (link_in old edit new) (slice_get old.links two.0) place second in
          let same = link_in_gives old edit new link place is in
          let again = link_in_gives old edit new other place also in
          let (l, l_at, l_ends) = link_found new after same.point place same.ends in
          let (m, m_at, m_ends) = link_found new after again.point place again.ends in
          let found : Some l ≡ Some m = sym l_at ∙ m_at in
          let l_is_m : l ≡ m = cc in
          let points : same.point ≡ again.point = sym l_ends ∙ (ap (λ (k : Link). k.to) l_is_m ∙ m_ends) in
          let ends : link.to ≡ other.to = one_point link.to other.to same.point same.to (again.to ∙ ap Some (sym points)) in
          let ids : Some one ≡ Some two = sym (link_placed old before link.to one link here refl) ∙ link_placed old before link.to two other there (sym ends) in
          cc

pub names_renumber_all : NamesRenumber
names_renumber_all old edit new before after = law_names_renumber old edit new before after
