-- The places of points, as they are filled in along an order.
use Rattle.std.proofs.Common.{◌≡◌, ◌≢◌, ℕ, ◌+◌, ◌<◌, ◌≤◌, ◌==◌, Bool, true, false, ◌&&◌, List, [], ◌∷◌, ◌++◌, length, get_or, set, get_or-set_same, get_or-set_other, take, Option, Some, None, is_some, zero, suc, refl, sym, ap, ◌∙◌, subst}
use Rattle.std.proofs.Common.{arith}
use Rattle.std.specs.Prelude.{nat_lt, slice_get}
use Rattle.std.specs.List.{list_any, list_all, enumerate_from}
use Rattle.std.proofs.lemmas.Bool.Decides.{nat_tests}
use Rattle.std.proofs.lemmas.List.{take_more, length-take-le}
use Rattle.std.proofs.lemmas.Option.{same_Some, slice_get-get_or, slice_get_within}
use Rattle.std.proofs.lemmas.List.Quantifiers.{position-Some}
use Rattle.net_model.specs.Network.{Plan}
use Rattle.net_model.specs.declared.ids.PointId.{PointId}
use Rattle.net_model.proofs.Positions.{position-push_fails, position-push_passes, list_any_from_None}
use Rattle.strategy_model.specs.Plays.{same_point}
use Rattle.cert_checker.specs.Walk.{refusal}
use Rattle.cert_checker.specs.TestOutcomes.{RefusesItem}
use Rattle.cert_checker.specs.TableRefusals.{IsNone, stands_before}
use Rattle.cert_checker.specs.Tables.{place_in, is_complete}
use Rattle.cert_checker.specs.Orders.{AreOptionalPlaces}
use Rattle.cert_checker.specs.declared.judgement.CertFault.TheVariants.{OrderBroken}
use Rattle.cert_checker.proofs.ListLemmas.{passes_some}

pub get_or_again : (xs : List PointId) (k : ℕ) (d : PointId) → get_or xs k (get_or xs k d) ≡ get_or xs k d
get_or_again [] k d = refl
get_or_again (x ∷ xs) zero d = refl
get_or_again (x ∷ xs) (suc k) d = get_or_again xs k d

-- a point has a place exactly if it stands in the order
pub placed_is : (order : List PointId) (point : PointId) → is_some (place_in order point) ≡ list_any (same_point point) order
placed_is order point = by (place_in order point) refl
  where
    by : (o : Option ℕ) → place_in order point ≡ o → is_some o ≡ list_any (same_point point) order
    by None is = sym (list_any_from_None (same_point point) order is)
    by (Some k) is =
        let (within, passes, earlier) = position-Some (same_point point) order k point is in
        let there : PointId = get_or order k point in
        let here : get_or order k there ≡ there = get_or_again order k point in
        sym (passes_some (same_point point) order there (k, within, here) passes)

-- no point before a place stands before its own
abbrev pub NoneTwice : List PointId → ℕ → Type 0
NoneTwice order i = (other : ℕ) (one : PointId) → other < i → slice_get order other ≡ Some one → stands_before order other one ≡ false

-- a point that has a place, or none, among those before it
module _ (order : List PointId) (i : ℕ) (point : PointId) (within : i < length order) (is_point : get_or order i point ≡ point) where
  prefix_is : take (i + 1) order ≡ take i order ++ point ∷ []
  prefix_is = take_more order i point within ∙ ap (λ (p : PointId). take i order ++ p ∷ []) is_point

  point_here : slice_get order i ≡ Some point
  point_here = slice_get-get_or order i point within ∙ ap (λ (p : PointId). Some p) is_point

  pub twice : is_some (place_in (take i order) point) ≡ true → NoneTwice order i → (line : ℕ) → line ≡ i + 1 → RefusesItem (stands_before order) 1 OrderBroken order (refusal line OrderBroken)
  twice placed none line is =
      let number : line ≡ 1 + i = omega (arith, is) in
      record {
        place = i;
        item = point;
        is = ap (λ (n : ℕ). refusal n OrderBroken) number;
        at = record { here = point_here; holds = sym (placed_is (take i order) point) ∙ placed; before = none };
      }

  pub new_point : is_some (place_in (take i order) point) ≡ false → NoneTwice order i → NoneTwice order (i + 1)
  new_point placed none other one below at = by (nat_lt other i) refl
    where
      by : (b : Bool) → nat_lt other i ≡ b → stands_before order other one ≡ false
      by true under = none other one (grind (arith, nat_tests)) at
      by false under =
          let here : other ≡ i = grind (arith, nat_tests) in
          let same : point ≡ one = same_Some point one (sym point_here ∙ (ap (slice_get order) (sym here) ∙ at)) in
          ap (λ (n : ℕ). list_any (same_point one) (take n order)) here ∙ (ap (λ (p : PointId). list_any (same_point p) (take i order)) (sym same) ∙ (sym (placed_is (take i order) point) ∙ placed))

pub none_twice : (order : List PointId) (i : ℕ) → length order ≤ i → NoneTwice order i → IsNone (stands_before order) order
none_twice order i over none place item at =
    let within = slice_get_within order place item at in
    none place item (omega (arith, within, over)) at

none_is : (o : Option ℕ) → is_some o ≡ false → o ≡ None
none_is None is = refl
none_is (Some k) is = absurd (cc)

-- one point more has its place
place_next : (prefix : List PointId) (places : List (Option ℕ)) (point q : PointId) → point.0 < length places → get_or places q.0 None ≡ place_in prefix q → place_in prefix point ≡ None
    → get_or (set places point.0 (Some (length prefix))) q.0 None ≡ place_in (prefix ++ point ∷ []) q
place_next prefix places point q inside is new = by (q.0 == point.0) refl
  where
    by : (b : Bool) → q.0 == point.0 ≡ b → get_or (set places point.0 (Some (length prefix))) q.0 None ≡ place_in (prefix ++ point ∷ []) q
    by true same =
        let number : q.0 ≡ point.0 = grind (arith, nat_tests) in
        let here : q ≡ point = ap (λ (n : ℕ). let p : PointId = record { 0 = n } in p) number in
        let own : same_point point point ≡ true = grind (arith, nat_tests) in
        ap (λ (n : ℕ). get_or (set places point.0 (Some (length prefix))) n None) number
        ∙ get_or-set_same places point.0 (Some (length prefix)) None inside
        ∙ sym (ap (place_in (prefix ++ point ∷ [])) here ∙ position-push_passes (same_point point) prefix point new own)
    by false same =
        let apart : q.0 ≢ point.0 = grind (arith, nat_tests) in
        get_or-set_other places point.0 q.0 (Some (length prefix)) None apart ∙ is ∙ sym (position-push_fails (same_point q) prefix point same)

pub places_next : (order : List PointId) (places : List (Option ℕ)) (i : ℕ) (point : PointId) → i < length order → get_or order i point ≡ point → point.0 < length places → is_some (place_in (take i order) point) ≡ false
    → AreOptionalPlaces (take i order) places → AreOptionalPlaces (take (i + 1) order) (set places point.0 (Some i))
places_next order places i point within is_point inside new are =
    let count : length (take i order) ≡ i = length-take-le i order (omega arith) in
    let none : place_in (take i order) point ≡ None = none_is (place_in (take i order) point) new in
    let prefix : take (i + 1) order ≡ take i order ++ point ∷ [] = prefix_is order i point within is_point in
    subst (λ (all : List PointId). AreOptionalPlaces all (set places point.0 (Some i))) (sym prefix)
    (subst (λ (n : ℕ). AreOptionalPlaces (take i order ++ point ∷ []) (set places point.0 (Some n))) count
    (record { each = λ q. place_next (take i order) places point q inside (are.each q) none }))

-- all have places if the order is complete
all_placed : (order : List PointId) (start : ℕ) (names : List (List ℕ)) (places : List (Option ℕ)) → length places ≡ length names → ((k : ℕ) → k < length places → get_or places k None ≡ place_in order (record { 0 = start + k }))
    → list_all is_some places ≡ list_all (λ point. list_any (same_point (record { 0 = point.0 })) order) (enumerate_from start names)
all_placed order start [] [] same each = refl
all_placed order start [] (o ∷ places) same each = absurd (omega arith)
all_placed order start (name ∷ names) [] same each = absurd (omega arith)
all_placed order start (name ∷ names) (o ∷ places) same each =
    let here : o ≡ place_in order (record { 0 = start }) = each 0 (omega arith) ∙ ap (λ (n : ℕ). place_in order (record { 0 = n })) (plus_zero start) in
    let first : is_some o ≡ list_any (same_point (record { 0 = start })) order = ap is_some here ∙ placed_is order (record { 0 = start }) in
    let rest = all_placed order (start + 1) names places (omega arith) (λ k within. each (suc k) (omega arith) ∙ ap (λ (n : ℕ). place_in order (record { 0 = n })) (one_on start k)) in
    ap (λ (b : Bool). b && list_all is_some places) first ∙ ap (λ (b : Bool). list_any (same_point (record { 0 = start })) order && b) rest
  where
    plus_zero : (n : ℕ) → n + 0 ≡ n
    plus_zero n = omega arith

    one_on : (n k : ℕ) → n + suc k ≡ n + 1 + k
    one_on n k = omega arith

pub complete_by : (net : Plan) (order : List PointId) (places : List (Option ℕ)) → length places ≡ length net.points → AreOptionalPlaces order places → list_all is_some places ≡ is_complete net order
complete_by net order places count are =
    all_placed order 0 net.points places count (λ k within. are.each (record { 0 = k }) ∙ ap (λ (n : ℕ). place_in order (record { 0 = n })) (from_zero k))
  where
    from_zero : (n : ℕ) → n ≡ 0 + n
    from_zero n = omega arith
