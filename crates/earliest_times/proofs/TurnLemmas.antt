-- A loop that is listed from another of its points on is a loop.
use Rattle.std.proofs.Common.{◌≡◌, ◌≢◌, ◌⊎◌, ℕ, ◌+◌, ◌-◌, ◌<◌, ◌≤◌, ◌+ℤ◌, List, [], ◌∷◌, ◌++◌, map, length, take, drop, get_or, refl, ap, sym, subst, ◌∙◌, inl, inr, arith}
use Rattle.std.specs.List.{AllPairs}
use Rattle.std.proofs.lemmas.Bool.{cases_lt}
use Rattle.std.proofs.lemmas.Int.{ints}
use Rattle.std.proofs.lemmas.List.{take-append-drop, length-append, length-take, length-drop, get_or_append_left, get_or-append_right, get_or-drop, get_or-take, map-append}
use Rattle.net_model.specs.declared.ids.PointId.{PointId}
use Rattle.net_model.specs.declared.part.Edge.{Edge}
use Rattle.strategy_model.specs.Edges.{IsWalk, total, IsNegativeLoop}
use Rattle.earliest_times.specs.Rounds.{edge_at_place}
use Rattle.earliest_times.specs.Least.{begins, IsLoop, IsLowestAt, IsLoopFromLowest}

-- a walk in two parts
record IsParted (from : PointId) (one other : List Edge) (to : PointId) : Type 0 where
  point : PointId
  first : IsWalk from one point
  then : IsWalk point other to

parted : (from : PointId) (one other : List Edge) (to : PointId) → IsWalk from (one ++ other) to → IsParted from one other to
parted from [] other to walk = record { point = from; first = refl; then = walk }
parted from (edge ∷ one) other to walk =
    let rest = parted edge.to one other to walk.1 in
    record { point = rest.point; first = (walk.0, rest.first); then = rest.then }

joined : (from at : PointId) (one other : List Edge) (to : PointId) → IsWalk from one at → IsWalk at other to → IsWalk from (one ++ other) to
joined from at [] other to first then = subst (λ (p : PointId). IsWalk p other to) (sym first) then
joined from at (edge ∷ one) other to first then = (first.0, joined edge.to at one other to first.1 then)

total_of_both : (one other : List Edge) → total (one ++ other) ≡ total one +ℤ total other
total_of_both [] other = let t = total other in omega (arith, ints)
total_of_both (edge ∷ one) other = let rest = total_of_both one other in omega (arith, ints, rest)

-- a closed walk, from a later edge on
pub loop_turned : (one other : List Edge) → IsNegativeLoop (one ++ other) → IsNegativeLoop (other ++ one)
loop_turned one other (point, walk, negative) =
    let parts = parted point one other point walk in
    let before = total_of_both one other in
    let after = total_of_both other one in
    (parts.point, joined parts.point point other one parts.point parts.then parts.first, omega (arith, ints, before, after, negative))

module _ (xs : List ℕ) (n : ℕ) (inside : n < length xs) where
  abbrev pub turned : List ℕ
  turned = drop n xs ++ take n xs

  pub turned_length : length turned ≡ length xs
  turned_length =
      let whole = length-append (drop n xs) (take n xs) in
      let back = length-drop n xs in
      let prefix = length-take n xs in
      omega (arith, whole, back, prefix, inside)

  -- where an item of the turned list stood
  record Stood (k : ℕ) : Type 0 where
    at : ℕ
    within : at < length xs
    same : (d : ℕ) → get_or turned k d ≡ get_or xs at d
    place : ((k < length xs - n) × (at ≡ n + k)) ⊎ ((length xs - n ≤ k) × (at + (length xs - n) ≡ k))

  stood : (k : ℕ) → k < length xs → Stood k
  stood k here =
      let back = length-drop n xs in
      elim (cases_lt k (length xs - n)) [
        | inl less ↦ record {
          at = n + k;
          within = omega (arith, less, inside);
          same = λ d. get_or_append_left (drop n xs) (take n xs) d k (omega (arith, back, less)) ∙ get_or-drop n xs k d;
          place = inl (less, refl);
        }
        | inr most ↦ record {
          at = k - (length xs - n);
          within = omega (arith, here, inside);
          same = λ d. get_or-append_right (drop n xs) (take n xs) (length xs - n) k d back most ∙ get_or-take n xs (k - (length xs - n)) d (omega (arith, here, inside, most));
          place = inr (most, omega (arith, most));
        }
      ]

  apart_stood : (i j : ℕ) (one : Stood i) (other : Stood j) → i < j → j < length xs → one.at ≢ other.at
  apart_stood i j one other less here same =
      elim one.place [
        | inl a ↦ elim other.place [
          | inl b ↦ let p = a.1 in let q = b.1 in omega (arith, p, q, same, less)
          | inr b ↦ let p = a.1 in let q = b.1 in omega (arith, p, q, same, less, here, inside)
        ]
        | inr a ↦ elim other.place [
          | inl b ↦ let p = a.0 in let q = b.0 in omega (arith, p, q, less)
          | inr b ↦ let p = a.1 in let q = b.1 in omega (arith, p, q, same, less)
        ]
      ]

-- no loop is empty
pub loop_some : (edges : List Edge) (places : List ℕ) → IsLoop edges places → 0 < length places
loop_some edges [] loop = let negative = loop.negative.2 in absurd (omega (arith, ints, negative))
loop_some edges (place ∷ places) loop = omega arith

-- a loop from its lowest point on
pub from_lowest : (edges : List Edge) (places : List ℕ) (first : ℕ) → IsLoop edges places → IsLowestAt edges places first → IsLoopFromLowest edges (drop first places ++ take first places)
from_lowest edges places first loop lowest = record {
  loop = record {
    within = λ k d here. let its = at k here in subst (λ (m : ℕ). m < length edges) (sym (its.same d)) (loop.within its.at d its.within);
    negative = negative;
    once = once;
  };
  lowest = record { inside = omega (arith, size, some); least = least };
}
  where
    some : first < length places
    some = lowest.inside

    size : length (drop first places ++ take first places) ≡ length places
    size = turned_length places first lowest.inside

    at : (k : ℕ) → k < length (drop first places ++ take first places) → Stood places first lowest.inside k
    at k here = stood places first lowest.inside k (omega (arith, here, turned_length places first lowest.inside))

    negative : IsNegativeLoop (map (edge_at_place edges) (drop first places ++ take first places))
    negative =
        let both : map (edge_at_place edges) places ≡ map (edge_at_place edges) (take first places) ++ map (edge_at_place edges) (drop first places) = ap (map (edge_at_place edges)) (sym (take-append-drop first places))
        ∙ map-append (edge_at_place edges) (take first places) (drop first places) in
        subst IsNegativeLoop (sym (map-append (edge_at_place edges) (drop first places) (take first places)))
        (loop_turned (map (edge_at_place edges) (take first places)) (map (edge_at_place edges) (drop first places)) (subst IsNegativeLoop both loop.negative))

    once : AllPairs (λ one other. begins edges one ≢ begins edges other) (drop first places ++ take first places)
    once i j d less here same =
        let long = turned_length places first lowest.inside in
        let one = at i (omega (arith, less, here)) in
        let other = at j here in
        let their : begins edges (get_or places one.at d) ≡ begins edges (get_or places other.at d) = ap (begins edges) (sym (one.same d)) ∙ same ∙ ap (begins edges) (other.same d) in
        let different = apart_stood places first lowest.inside i j one other less (omega (arith, here, long)) in
        elim (cases_lt one.at other.at) [
          | inl below ↦ loop.once one.at other.at d below other.within their
          | inr above ↦ loop.once other.at one.at d (omega (arith, above, different)) one.within (sym their)
        ]

    head : get_or (drop first places ++ take first places) 0 0 ≡ get_or places first 0
    head =
        let back = length-drop first places in
        get_or_append_left (drop first places) (take first places) 0 0 (omega (arith, back, lowest.inside)) ∙ get_or-drop first places 0 0 ∙ ap (λ (k : ℕ). get_or places k 0) (omega arith)

    least : (other : ℕ) → other < length (drop first places ++ take first places) → begins edges (get_or (drop first places ++ take first places) 0 0) ≤ begins edges (get_or (drop first places ++ take first places) other 0)
    least other here =
        let its = at other here in
        let below = lowest.least its.at its.within in
        let here_is = ap (begins edges) head in
        let there_is = ap (begins edges) (its.same 0) in
        omega (arith, below, here_is, there_is)
