-- Points are visited from the last of an order to the first: the lists of those before are whole.
use Rattle.std.proofs.Common.{◌≡◌, ◌≢◌, ℕ, ℤ, ◌+◌, ◌<◌, ◌≤◌, arith, Bool, true, false, List, [], ◌∷◌, length, get_or, set, Option, refl, ap, sym, subst, ◌∙◌, inl, inr}
use Rattle.std.specs.Prelude.{◌&&◌, ◌||◌, ◌==◌, ◌+ℤ◌, int_le, int_lt, is_some, not, pos, slice_get, filter, if◌then◌else◌}
use Rattle.std.specs.List.{Contains, list_any}
use Rattle.std.specs.Option.{option_map_or}
use Rattle.std.proofs.lemmas.Bool.{cases_lt, true≢false}
use Rattle.std.proofs.lemmas.List.{get_or-set_same, get_or-set_other, get_or_default, length-map, length-set, same_lists, set-set}
use Rattle.std.proofs.lemmas.List.Elements.{All-set}
use Rattle.std.proofs.lemmas.List.Kept.{AllPairs-filter}
use Rattle.net_model.specs.Network.{Plan, activation}
use Rattle.net_model.specs.declared.ids.PointId.{PointId}
use Rattle.net_model.specs.declared.ids.LinkId.{LinkId}
use Rattle.net_model.specs.declared.part.Link.{Link}
use Rattle.closure_model.specs.Keys.{ordinary_key, all_points}
use Rattle.closure_model.specs.Orders.{IsOrder, goes}
use Rattle.closure_model.specs.Tables.{Graph, IsFor, weight_of}
use Rattle.closure_model.proofs.Lists.{Contains-none, Contains-head, Contains-tail, Contains-filter_from, Contains-filter_map_from}
use Rattle.closure_model.proofs.OrderLemmas.{in_points}
use Rattle.dispatch_net.specs.declared.dispatch.Conditions.{Conditions}
use Rattle.dispatch_net.specs.Dispatchable.{with_moments, lower_bounds_in, waits_in, no_conditions, dispatchable, conditions_at}
use Rattle.dispatch_net.specs.Held.{AreInOrder, AreEnds, AreHeldLists, AreOnOthers, GoDown}
use Rattle.dispatch_net.specs.Slim.{over_point, implied_over_link, is_bound_implied, over_end, over_wait, is_wait_implied, slim_conditions, slimmed}
use Rattle.dispatch_net.proofs.HoldLemmas.{given}
use Rattle.dispatch_net.proofs.ExecutionLemmas.{point_count, dispatchable_length, conditions_stand}
use Rattle.dispatch_net.proofs.SlimLists.{slim_at}

-- ---- tests that read the same
any_same : {X : Type 0} (f g : X → Bool) (xs : List X) → ((x : X) → Contains xs x → f x ≡ g x) → list_any f xs ≡ list_any g xs
any_same f g [] same = refl
any_same f g (x ∷ xs) same = λ i. same x (Contains-head x xs) i || any_same f g xs (λ y among. same y (Contains-tail x xs y among)) i

-- a point's lists are thinned by the lists of the points of its lower bounds alone
module _ (links : List Link) (lists whole : List Conditions) (c : Conditions)
    (same : (bound : PointId × ℤ) → Contains c.lower_bounds bound → conditions_at lists bound.0 ≡ conditions_at whole bound.0) where
  same_bounds : (bound : PointId × ℤ) → is_bound_implied links lists c bound ≡ is_bound_implied links whole c bound
  same_bounds bound = any_same (λ other. over_point lists bound other || implied_over_link links bound other) (λ other. over_point whole bound other || implied_over_link links bound other) c.lower_bounds (λ other among.
      ap (λ (others : Conditions). list_any (λ (inner : PointId × ℤ). inner.0.0 == bound.0.0 && int_le bound.1 (other.1 +ℤ inner.1)) others.lower_bounds || implied_over_link links bound other) (same other among))

  same_waits : (wait : LinkId × ℤ) → is_wait_implied links lists c wait ≡ is_wait_implied links whole c wait
  same_waits wait =
      any_same (λ other. option_map_or (over_end wait.1 other) (slice_get links wait.0.0) false || over_wait lists wait other)
      (λ other. option_map_or (over_end wait.1 other) (slice_get links wait.0.0) false || over_wait whole wait other) c.lower_bounds (λ other among.
      ap (λ (others : Conditions). option_map_or (over_end wait.1 other) (slice_get links wait.0.0) false || list_any (λ (inner : LinkId × ℤ). inner.0.0 == wait.0.0 && int_le wait.1 (other.1 +ℤ inner.1)) others.waits) (same other among))

  pub same_slim : slim_conditions links lists c ≡ slim_conditions links whole c
  same_slim = λ i. record {
    lower_bounds = filter (λ bound. not (same_bounds bound i)) c.lower_bounds;
    waits = filter (λ wait. not (same_waits wait i)) c.waits;
  }

-- what is left stands in order of number
pub slim_in_order : (links : List Link) (made : List Conditions) (c : Conditions) → AreInOrder c → AreInOrder (slim_conditions links made c)
slim_in_order links made c rises = record {
  bounds = AllPairs-filter (λ (b d : PointId × ℤ). b.0.0 < d.0.0) (λ bound. not (is_bound_implied links made c bound)) c.lower_bounds rises.bounds;
  waits = AllPairs-filter (λ (v w : LinkId × ℤ). v.0.0 < w.0.0) (λ wait. not (is_wait_implied links made c wait)) c.waits rises.waits;
}

-- ---- what is written in the place of one point
pub held_set : (links : List Link) (ends : List (Option Link)) (lists : List Conditions) (place : ℕ) (c : Conditions) → AreHeldLists links ends lists → AreInOrder c → AreHeldLists links ends (set lists place c)
held_set links ends lists place c held rises = record {
  in_order = All-set AreInOrder lists place c rises held.in_order;
  ends_are = subst (λ n. AreEnds links n ends) (sym (length-set lists place c)) held.ends_are;
  all_ends = held.all_ends;
}

pub none_in_order : AreInOrder no_conditions
none_in_order = record { bounds = λ i j d less inside. absurd (omega (arith, less, inside)); waits = λ i j d less inside. absurd (omega (arith, less, inside)) }

-- a point's lists are taken out, thinned, and put back
pub one_thinned : (links : List Link) (lists out : List Conditions) (points : ℕ) (point : PointId) (all : Conditions) → all ≡ conditions_at lists point → out ≡ set lists point.0 no_conditions
    → AreOnOthers points point (conditions_at lists point).lower_bounds → set out point.0 (slim_conditions links out all) ≡ set lists point.0 (slim_conditions links lists (conditions_at lists point))
one_thinned links lists out points point all taken left others =
    let empty = set lists point.0 no_conditions in
    let same : slim_conditions links empty (conditions_at lists point) ≡ slim_conditions links lists (conditions_at lists point) =
    same_slim links empty lists (conditions_at lists point) (λ bound among. get_or-set_other lists point.0 bound.0.0 no_conditions no_conditions (others bound among).0) in
    (λ i. set (left i) point.0 (slim_conditions links (left i) (taken i)))
    ∙ (set-set lists point.0 no_conditions (slim_conditions links empty (conditions_at lists point)) ∙ ap (set lists point.0) same)

-- ---- one point after another
-- from a place of the order on, the lists of points are slim; the others are whole
pub record IsPartway (links : List Link) (whole lists : List Conditions) (order : List PointId) (from : ℕ) : Type 0 where
  pub count : length lists ≡ length whole
  pub done : (j : ℕ) (d : PointId) → from ≤ j → j < length order → conditions_at lists (get_or order j d) ≡ slim_conditions links whole (conditions_at whole (get_or order j d))
  pub left : (point : PointId) → ((j : ℕ) (d : PointId) → from ≤ j → j < length order → (get_or order j d).0 ≢ point.0) → conditions_at lists point ≡ conditions_at whole point

module _ (links : List Link) (whole : List Conditions) (order : List PointId) (down : GoDown order whole) where
  pub none_done : IsPartway links whole whole order (length order)
  none_done = record { count = refl; done = λ j d up inside. absurd (omega (arith, up, inside)); left = λ point others. refl }

  pub all_done : (lists : List Conditions) → IsPartway links whole lists order 0 → lists ≡ slimmed links whole
  all_done lists partway =
      same_lists lists (slimmed links whole) (partway.count ∙ sym (length-map whole (slim_conditions links whole))) (λ k d inside.
      let point : PointId = record { 0 = k } in
      let (j, below, at) = down.whole point (omega (arith, inside, partway.count)) in
      get_or_default lists k d no_conditions inside
      ∙ (subst (λ p. conditions_at lists p ≡ slim_conditions links whole (conditions_at whole p)) at (partway.done j point (omega arith) below)
      ∙ (sym (slim_at links whole point) ∙ get_or_default (slimmed links whole) k no_conditions d (let long = length-map whole (slim_conditions links whole) in omega (arith, inside, partway.count, long)))))

  module _ (lists : List Conditions) (i : ℕ) (d : PointId) (inside : i < length order) (partway : IsPartway links whole lists order (i + 1)) where
    abbrev here : PointId
    here = get_or order i d

    own : conditions_at lists here ≡ conditions_at whole here
    own = partway.left here (λ j e up below same. down.once i j e (omega (arith, up)) below (ap (λ (p : PointId). p.0) (get_or_default order i e d inside) ∙ sym same))

    before : (bound : PointId × ℤ) → Contains (conditions_at lists here).lower_bounds bound → (k : ℕ) × (k < i) × (get_or order k d ≡ bound.0)
    before bound among = down.descends i d bound inside (subst (λ (c : Conditions). Contains c.lower_bounds bound) own among)

    pub on_others : AreOnOthers (length lists) here (conditions_at lists here).lower_bounds
    on_others bound among =
        let (k, less, at) = before bound among in
        let below : k < length order = omega (arith, less, inside) in
        let is_point = down.points k d below in
        let number = ap (λ (p : PointId). p.0) at in
        (λ same. down.once k i d less inside (number ∙ same), omega (arith, is_point, number, partway.count))

    same_others : (bound : PointId × ℤ) → Contains (conditions_at lists here).lower_bounds bound → conditions_at lists bound.0 ≡ conditions_at whole bound.0
    same_others bound among =
        let (k, less, at) = before bound among in
        partway.left bound.0 (λ j e up below same. down.once k j e (omega (arith, less, up)) below (ap (λ (p : PointId). p.0) (get_or_default order k e d (omega (arith, less, inside)) ∙ at) ∙ sym same))

    here_slim : slim_conditions links lists (conditions_at lists here) ≡ slim_conditions links whole (conditions_at whole here)
    here_slim = same_slim links lists whole (conditions_at lists here) same_others ∙ ap (slim_conditions links whole) own

    pub within : here.0 < length lists
    within = omega (arith, down.points i d inside, partway.count)

    pub one_done : (new : List Conditions) → new ≡ set lists here.0 (slim_conditions links lists (conditions_at lists here)) → IsPartway links whole new order i
    one_done new is = record {
      count = ap (λ (cs : List Conditions). length cs) is ∙ (length-set lists here.0 (slim_conditions links lists (conditions_at lists here)) ∙ partway.count);
      done = done;
      left = λ point others. ap (λ (cs : List Conditions). conditions_at cs point) is
          ∙ (get_or-set_other lists here.0 point.0 (slim_conditions links lists (conditions_at lists here)) no_conditions (λ same. others i d (omega arith) inside (sym same))
          ∙ partway.left point (λ j e up below. others j e (omega (arith, up)) below));
    }
      where
        at_here : conditions_at new here ≡ slim_conditions links whole (conditions_at whole here)
        at_here = ap (λ (cs : List Conditions). conditions_at cs here) is ∙ (get_or-set_same lists here.0 (slim_conditions links lists (conditions_at lists here)) no_conditions within ∙ here_slim)

        done : (j : ℕ) (e : PointId) → i ≤ j → j < length order → conditions_at new (get_or order j e) ≡ slim_conditions links whole (conditions_at whole (get_or order j e))
        done j e up below =
            elim (cases_lt i j) [
              | inl less ↦
                  (ap (λ (cs : List Conditions). conditions_at cs (get_or order j e)) is
                  ∙ (get_or-set_other lists here.0 (get_or order j e).0 (slim_conditions links lists (conditions_at lists here)) no_conditions
                  (λ same. down.once i j e less below (ap (λ (p : PointId). p.0) (get_or_default order i e d inside) ∙ sym same))
                  ∙ partway.done j e (omega (arith, less)) below))
              | inr least ↦
                  (let same : i ≡ j = omega (arith, up, least) in
                  subst (λ p. conditions_at new p ≡ slim_conditions links whole (conditions_at whole p)) (get_or_default order i d e inside ∙ ap (λ k. get_or order k e) same) at_here)
            ]

-- ---- what a table gives
module _ (net : Plan) (table : Graph) (order : List PointId) (for : IsFor net table) (ordered : IsOrder table order) where
  long : length (dispatchable net table) ≡ table.shape.points
  long = dispatchable_length net table for ∙ sym (point_count net table for)

  bound_goes : (point : PointId) (bound : PointId × ℤ) → Contains (lower_bounds_in table point) bound → (goes table point bound.0 ≡ true) × Contains (all_points table.shape) bound.0
  bound_goes point bound among =
      let (to, there, gave) = Contains-filter_map_from (λ (p : PointId). with_moments p (weight_of table (ordinary_key point p))) (all_points table.shape) bound among in
      let its = given to (weight_of table (ordinary_key point to)) bound gave in
      let same : to ≡ bound.0 = ap (λ (b : PointId × ℤ). b.0) its.is in
      let negative : goes table point to ≡ true = ap (λ o. option_map_or (λ weight. int_lt weight (pos 0)) o false) its.held ∙ its.negative in
      (subst (λ p. goes table point p ≡ true) same negative, subst (Contains (all_points table.shape)) same there)

  given_goes : (point : PointId) (bound : PointId × ℤ) (b : Bool) → Contains (if b then no_conditions else record { lower_bounds = lower_bounds_in table point; waits = waits_in table point }).lower_bounds bound
      → (goes table point bound.0 ≡ true) × Contains (all_points table.shape) bound.0
  given_goes point bound true among = absurd (Contains-none bound among)
  given_goes point bound false among = bound_goes point bound among

  pub made_go_down : GoDown order (dispatchable net table)
  made_go_down = record {
    whole = λ point inside. ordered.whole point (omega (arith, inside, long));
    once = ordered.once;
    points = λ k d inside. let at = ordered.points k d inside in omega (arith, at, long);
    descends = descends;
  }
    where
      descends : (i : ℕ) (d : PointId) (bound : PointId × ℤ) → i < length order → Contains (conditions_at (dispatchable net table) (get_or order i d)).lower_bounds bound
          → (k : ℕ) × (k < i) × (get_or order k d ≡ bound.0)
      descends i d bound inside among =
          let point = get_or order i d in
          let is_point = ordered.points i d inside in
          let stands = conditions_stand net table point for (omega (arith, is_point, point_count net table for)) in
          let (goes_there, there) = given_goes point bound (is_some (activation net point)) (subst (λ (c : Conditions). Contains c.lower_bounds bound) stands among) in
          let (k, below, at) = ordered.whole bound.0 (in_points table bound.0 there) in
          let at_k : get_or order k d ≡ bound.0 = get_or_default order k d bound.0 below ∙ at in
          elim (cases_lt k i) [
            | inl less ↦ (k, less, at_k)
            | inr later ↦ absurd (true≢false (sym (subst (λ p. goes table point p ≡ true) (sym at_k) goes_there) ∙ ordered.descends i k d later below))
          ]

-- and what is left of it descends in the same order
pub slim_go_down : (links : List Link) (lists : List Conditions) (order : List PointId) → GoDown order lists → GoDown order (slimmed links lists)
slim_go_down links lists order down =
    let count = length-map lists (slim_conditions links lists) in
    record {
      whole = λ point inside. down.whole point (omega (arith, inside, count));
      once = down.once;
      points = λ k d inside. let at = down.points k d inside in omega (arith, at, count);
      descends = λ i d bound inside among.
          let c = conditions_at lists (get_or order i d) in
          down.descends i d bound inside (Contains-filter_from (λ b. not (is_bound_implied links lists c b)) c.lower_bounds bound (subst (λ (k : Conditions). Contains k.lower_bounds bound) (slim_at links lists (get_or order i d)) among));
    }
