-- The places of the points of an order, and that the order stays one while the edges that improve go along it.
use Rattle.std.proofs.Common.{◌≡◌, ◌≢◌, ℕ, zero, suc, ◌+◌, ◌==◌, ◌<◌, ◌≤◌, ltb, ℤ, pos, Bool, true, false, cond, ◌⊎◌, List, map, length, get_or, set, get_or-set_same, get_or-set_other, length-set, Option, Some, None, refl, ap, sym, subst}
use Rattle.std.proofs.Common.{◌∙◌, inl, inr, arith}
use Rattle.std.specs.Prelude.{◌<ℤ◌, int_lt, replicate}
use Rattle.std.specs.Option.{option_map_or}
use Rattle.std.specs.List.{All, AllPairs, Contains}
use Rattle.std.proofs.lemmas.Bool.{eqb-true}
use Rattle.std.proofs.lemmas.Bool.Decides.{nat_tests}
use Rattle.std.proofs.lemmas.Int.{ints}
use Rattle.std.proofs.lemmas.List.Sums.{position_or_len_is}
use Rattle.std.proofs.lemmas.List.Elements.{All-contains, Contains-get_or}
use Rattle.net_model.specs.declared.ids.PointId.{PointId}
use Rattle.closure_model.specs.Keys.{edge_of, ordinary_key}
use Rattle.closure_model.specs.Orders.{goes, contains_point}
use Rattle.closure_model.specs.ReferenceRow.{with_made}
use Rattle.closure_model.specs.Tables.{weight_of, HasEdge}
use Rattle.closure_model.specs.declared.rows.Made.{Made}
use Rattle.closure_model.proofs.Lists.{Contains-map_from}
use Rattle.closure_model.proofs.OrderLemmas.{among_from, from_among, place_of}
use Rattle.closure_model.proofs.OrderStays.{law_orders_stay}
use Rattle.closure_model.proofs.TableLemmas.{all_lowered-cases, all_lowered-shape}
use Rattle.loop_finder.specs.KeptOrders.{place_in_order, GoesAlong, OrdersAreKept, ArePlaces}

same_test : (k m : ℕ) → k ≡ m → (k == m) ≡ true
same_test k m same = grind (arith, nat_tests)

apart_test : (k m : ℕ) → k ≢ m → (k == m) ≡ false
apart_test k m apart = grind (arith, nat_tests)

-- a point that stands in an order at a place has that place
place_at : (order : List PointId) → AllPairs (λ p q. p.0 ≢ q.0) order → (i : ℕ) (d : PointId) → i < length order → place_in_order order (get_or order i d) ≡ i
place_at order once i d inside =
    position_or_len_is (λ (q : PointId). q.0 == (get_or order i d).0) order i d (omega arith) (λ k less. apart_test (get_or order k d).0 (get_or order i d).0 (once k i d less inside))
    (λ within. same_test (get_or order i d).0 (get_or order i d).0 refl)

-- a point that does not stand in it has the length of the order
no_place : (order : List PointId) (p : PointId) → contains_point order p ≡ false → place_in_order order p ≡ length order
no_place order p out =
    position_or_len_is (λ (q : PointId). q.0 == p.0) order (length order) p (omega arith) (λ k less. fails k less ((get_or order k p).0 == p.0) refl) (λ inside. absurd (omega arith))
  where
    fails : (k : ℕ) → k < length order → (b : Bool) → (get_or order k p).0 == p.0 ≡ b → (get_or order k p).0 == p.0 ≡ false
    fails k less false is = is
    fails k less true is =
        let same : get_or order k p ≡ p = ap (λ (m : ℕ). let q : PointId = record { 0 = m } in q) (eqb-true (get_or order k p).0 p.0 is) in
        let there : contains_point order p ≡ true = among_from order p (subst (Contains order) same (Contains-get_or order k p less)) in
        absurd cc

pub out_of_order : (order : List PointId) (n : ℕ) (p : PointId) → All (λ point. point.0 < n) order → n ≤ p.0 → place_in_order order p ≡ length order
out_of_order order n p within past = no_place order p (by (contains_point order p) refl)
  where
    by : (b : Bool) → contains_point order p ≡ b → contains_point order p ≡ false
    by false is = is
    by true is = let less : p.0 < n = All-contains (λ (q : PointId). q.0 < n) order p within (from_among order p is) in absurd (omega arith)

-- ---- the order stays one
pub law_orders_are_kept : OrdersAreKept
law_orders_are_kept table order made is along =
    law_orders_stay table (with_made table made) order (place_in_order order) (all_lowered-shape table (map (λ (one : Made). one.edge) made)) is (place_at order is.once) descends
  where
    descends : (from to : PointId) → goes (with_made table made) from to ≡ true → (goes table from to ≡ true) ⊎ (place_in_order order to < place_in_order order from)
    descends from to went = by (weight_of (with_made table made) (ordinary_key from to)) refl went
      where
        by : (o : Option ℤ) → weight_of (with_made table made) (ordinary_key from to) ≡ o → option_map_or (λ weight. int_lt weight (pos 0)) o false ≡ true → (goes table from to ≡ true) ⊎ (place_in_order order to < place_in_order order from)
        by None none negative = absurd cc
        by (Some w) some negative = at (all_lowered-cases table (map (λ (one : Made). one.edge) made) (edge_of (ordinary_key from to) w) some)
          where
            at : Contains (map (λ (one : Made). one.edge) made) (edge_of (ordinary_key from to) w) ⊎ HasEdge table (edge_of (ordinary_key from to) w) → (goes table from to ≡ true) ⊎ (place_in_order order to < place_in_order order from)
            at (inr before) = inl (ap (λ o. option_map_or (λ weight. int_lt weight (pos 0)) o false) before ∙ negative)
            at (inl improved) =
                let (one, inside, same) = Contains-map_from (λ (one : Made). one.edge) made (edge_of (ordinary_key from to) w) improved in
                let goes_along : GoesAlong order (edge_of (ordinary_key from to) w) = subst (GoesAlong order) same (All-contains (λ (one : Made). GoesAlong order one.edge) made one along inside) in
                let below : w <ℤ pos 0 = grind (arith, ints) in
                inr (goes_along refl below)

-- ---- the places of an order
-- what stands for a point after the first points of the order have their places
abbrev pub placed_up_to : List PointId → ℕ → ℕ → ℕ
placed_up_to order i k = cond (ltb (place_in_order order (record { 0 = k })) i) (place_in_order order (record { 0 = k })) (length order)

pub record HasPlaces (order : List PointId) (points i : ℕ) (places : List ℕ) : Type 0 where
  pub count : length places ≡ points
  pub each : (k : ℕ) → k < points → get_or places k 0 ≡ placed_up_to order i k

not_below_none : (n : ℕ) → ltb n 0 ≡ false
not_below_none n = grind (arith, nat_tests)

pub places_none : (order : List PointId) (points : ℕ) (places : List ℕ) → places ≡ replicate points (length order) → HasPlaces order points 0 places
places_none order points places are = record {
  count = ap length are ∙ long points;
  each = λ k inside. ap (λ ps. get_or ps k 0) are ∙ all_same points k inside
      ∙ sym (ap (λ b. cond b (place_in_order order (record { 0 = k })) (length order)) (not_below_none (place_in_order order (record { 0 = k }))));
}
  where
    long : (n : ℕ) → length (replicate n (length order)) ≡ n
    long zero = refl
    long (suc n) = ap suc (long n)

    all_same : (n k : ℕ) → k < n → get_or (replicate n (length order)) k 0 ≡ length order
    all_same zero k less = absurd (omega arith)
    all_same (suc n) zero less = refl
    all_same (suc n) (suc k) less = all_same n k (omega arith)

pub places_more : (order : List PointId) (points i : ℕ) (places : List ℕ) (d : PointId) → AllPairs (λ p q. p.0 ≢ q.0) order → (get_or order i d).0 < points → i < length order → HasPlaces order points i places
    → HasPlaces order points (i + 1) (set places (get_or order i d).0 i)
places_more order points i places d once low inside held = record { count = length-set places (get_or order i d).0 i ∙ held.count; each = λ k less. by k less (k == (get_or order i d).0) refl }
  where
    here : place_in_order order (get_or order i d) ≡ i
    here = place_at order once i d inside

    by : (k : ℕ) → k < points → (b : Bool) → k == (get_or order i d).0 ≡ b → get_or (set places (get_or order i d).0 i) k 0 ≡ placed_up_to order (i + 1) k
    by k less true is =
        let same : k ≡ (get_or order i d).0 = eqb-true k (get_or order i d).0 is in
        let within : (get_or order i d).0 < length places = (let count = held.count in omega arith) in
        let now : get_or (set places (get_or order i d).0 i) k 0 ≡ i = ap (λ (j : ℕ). get_or (set places (get_or order i d).0 i) j 0) same ∙ get_or-set_same places (get_or order i d).0 i 0 within in
        let place : place_in_order order (record { 0 = k }) ≡ i = ap (λ (j : ℕ). place_in_order order (record { 0 = j })) same ∙ here in
        let test : ltb (place_in_order order (record { 0 = k })) (i + 1) ≡ true = grind (arith, nat_tests) in
        now ∙ sym place ∙ sym (ap (λ b. cond b (place_in_order order (record { 0 = k })) (length order)) test)
    by k less false is =
        let apart : k ≢ (get_or order i d).0 = grind (arith, nat_tests) in
        let kept : get_or (set places (get_or order i d).0 i) k 0 ≡ get_or places k 0 = grind (arith, get_or-set_other) in
        kept ∙ held.each k less ∙ ap (λ b. cond b (place_in_order order (record { 0 = k })) (length order)) (tests k apart)
      where
        elsewhere : (k : ℕ) → k ≢ (get_or order i d).0 → place_in_order order (record { 0 = k }) ≢ i
        elsewhere k apart same = at (contains_point order (record { 0 = k })) refl
          where
            at : (b : Bool) → contains_point order (record { 0 = k }) ≡ b → ⊥
            at true among =
                let stands : get_or order (place_in_order order (record { 0 = k })) d ≡ record { 0 = k } = (place_of order (record { 0 = k }) among).at d in
                let number : (get_or order i d).0 ≡ k = ap (λ (j : ℕ). (get_or order j d).0) (sym same) ∙ ap (λ (q : PointId). q.0) stands in
                apart (sym number)
            at false out = let past = no_place order (record { 0 = k }) out in omega arith

        tests : (k : ℕ) → k ≢ (get_or order i d).0 → ltb (place_in_order order (record { 0 = k })) i ≡ ltb (place_in_order order (record { 0 = k })) (i + 1)
        tests k apart = let other = elsewhere k apart in grind (arith, nat_tests)

pub places_all : (order : List PointId) (points i : ℕ) (places : List ℕ) → All (λ point. point.0 < points) order → length order ≤ i → HasPlaces order points i places → ArePlaces order places
places_all order points i places within done held = record {
  each = λ k inside. (let less : k < points = (let count = held.count in omega arith) in held.each k less ∙ whole k (contains_point order (record { 0 = k })) refl);
  within = subst (λ n. All (λ (point : PointId). point.0 < n) order) (sym held.count) within;
}
  where
    whole : (k : ℕ) (b : Bool) → contains_point order (record { 0 = k }) ≡ b → placed_up_to order i k ≡ place_in_order order (record { 0 = k })
    whole k true among =
        let inside = (place_of order (record { 0 = k }) among).inside in
        let test : ltb (place_in_order order (record { 0 = k })) i ≡ true = grind (arith, nat_tests) in
        ap (λ b. cond b (place_in_order order (record { 0 = k })) (length order)) test
    whole k false out =
        let past = no_place order (record { 0 = k }) out in by (ltb (place_in_order order (record { 0 = k })) i)
      where
        by : (b : Bool) → cond b (place_in_order order (record { 0 = k })) (length order) ≡ place_in_order order (record { 0 = k })
        by true = refl
        by false = sym (no_place order (record { 0 = k }) out)
