-- How many points an order has, how many lower bounds a point may have, and the places of points in an order.
use Rattle.std.proofs.Common.{◌≡◌, ◌≢◌, ◌⊎◌, ℕ, ℤ, ◌+◌, ◌<◌, ◌≤◌, true, List, [], ◌∷◌, eqb, get_or, length, map, set, ap, sym, ◌∙◌, inl, inr, arith}
use Rattle.std.specs.List.{AllPairs, Contains, list_any}
use Rattle.std.proofs.lemmas.Bool.{cases_lt, eqb-true}
use Rattle.std.proofs.lemmas.Bool.Decides.{Decides-eqb}
use Rattle.std.proofs.lemmas.List.{get_or-map, get_or-set_other, get_or-set_same, get_or_default, length-map}
use Rattle.std.proofs.lemmas.Map.Made.{IsDistinct-from_AllPairs}
use Rattle.std.proofs.lemmas.Map.Steps.{length-le_from_distinct_below}
use Rattle.net_model.specs.declared.ids.PointId.{PointId}
use Rattle.closure_model.proofs.Lists.{any_is, Contains-map_from}
use Rattle.dispatch_net.specs.Held.{Rise, AreOnOthers}

-- numbered items without a number twice, all below a number, are no more than it
pub few_below : {X : Type 0} (number : X → ℕ) (xs : List X) (n : ℕ) → AllPairs (λ x y. number x ≢ number y) xs → ((x : X) → Contains xs x → number x < n) → length xs ≤ n
few_below number [] n once below = omega arith
few_below {X} number (x ∷ xs) n once below =
    let all = x ∷ xs in
    let long = length-map all number in
    let few = length-le_from_distinct_below (map number all) n (IsDistinct-from_AllPairs Decides-eqb (map number all) apart) under in
    omega (arith, long, few)
  where
    apart : AllPairs (λ a b. a ≢ b) (map number (x ∷ xs))
    apart i j d less inside same =
        let there : j < length (x ∷ xs) = let long = length-map (x ∷ xs) number in omega (arith, inside, long) in
        let here : i < length (x ∷ xs) = omega (arith, less, there) in
        once i j x less there (sym (get_or-map number (x ∷ xs) i x d here) ∙ same ∙ get_or-map number (x ∷ xs) j x d there)

    under : (m : ℕ) → list_any (eqb m) (map number (x ∷ xs)) ≡ true → m < n
    under m found =
        let (k, there, equal) = any_is (eqb m) (map number (x ∷ xs)) found in
        let (item, among, is) = Contains-map_from number (x ∷ xs) k there in
        let at = below item among in
        let same = eqb-true m k equal in
        omega (arith, at, is, same)

-- the lower bounds of a point are no more than there are points
pub few_bounds : (points : ℕ) (point : PointId) (bounds : List (PointId × ℤ)) → Rise (λ (bound : PointId × ℤ). bound.0.0) bounds → AreOnOthers points point bounds → length bounds ≤ points
few_bounds points point bounds rises others =
    few_below (λ (bound : PointId × ℤ). bound.0.0) bounds points (λ i j d less inside same. let rise = rises i j d less inside in absurd (omega (arith, rise, same))) (λ bound among. (others bound among).1)

-- one more point of an order has its place as its rank
pub one_ranked : (order : List PointId) → AllPairs (λ p q. p.0 ≢ q.0) order → (ranks : List ℕ) (rank : ℕ) (e : PointId) → rank < length order → (get_or order rank e).0 < length ranks
    → ((place : ℕ) (d : PointId) → place < rank → place < length order → get_or ranks (get_or order place d).0 0 ≡ place)
    → (place : ℕ) (d : PointId) → place < rank + 1 → place < length order → get_or (set ranks (get_or order rank e).0 rank) (get_or order place d).0 0 ≡ place
one_ranked order once ranks rank e inside within before place d below there = by (cases_lt place rank)
  where
    by : (place < rank) ⊎ (rank ≤ place) → get_or (set ranks (get_or order rank e).0 rank) (get_or order place d).0 0 ≡ place
    by (inl sooner) =
        get_or-set_other ranks (get_or order rank e).0 (get_or order place d).0 rank 0 (λ same. once place rank d sooner inside (same ∙ ap (λ (p : PointId). p.0) (get_or_default order rank e d inside)))
        ∙ before place d sooner there
    by (inr last) =
        let same : place ≡ rank = omega (arith, below, last) in
        let at : (get_or order place d).0 ≡ (get_or order rank e).0 = ap (λ (k : ℕ). (get_or order k d).0) same ∙ ap (λ (p : PointId). p.0) (get_or_default order rank d e inside) in
        ap (λ (k : ℕ). get_or (set ranks (get_or order rank e).0 rank) k 0) at ∙ get_or-set_same ranks (get_or order rank e).0 rank 0 within ∙ sym same
