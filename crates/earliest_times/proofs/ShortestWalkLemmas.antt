-- The rounds find the shortest walks of at most so many edges, and the edges that raised points the first of them.
use Rattle.std.proofs.Common.{◌≡◌, ℕ, zero, suc, ◌-◌, ◌<◌, ◌≤◌, ℤ, pos, negsuc, ◌+ℤ◌, ◌≤ℤ◌, ◌<ℤ◌, false, List, [], ◌∷◌, Option, Some, None, length, get_or, is_some, refl, ap, sym, subst, ◌∙◌, inl, inr, arith}
use Rattle.std.specs.List.{position}
use Rattle.std.specs.Option.{IsSome}
use Rattle.std.proofs.lemmas.Bool.{cases_lt, true≢false}
use Rattle.std.proofs.lemmas.Int.{ints}
use Rattle.std.proofs.lemmas.List.{get_or-replicate}
use Rattle.std.proofs.lemmas.List.Quantifiers.{position-Some}
use Rattle.net_model.specs.declared.ids.PointId.{PointId}
use Rattle.net_model.specs.declared.part.Edge.{Edge}
use Rattle.strategy_model.proofs.MomentLemmas.{same_from_number}
use Rattle.earliest_times.specs.Rounds.{no_edge, edge_at_place, back, IsRaisedBy, Became}
use Rattle.earliest_times.specs.History.{IsHistory, AreWithin}
use Rattle.earliest_times.specs.FirstLoops.{IsWalkFrom, total_at, IsShortestWalk, IsShorterThanFewer, IsNotAfter, IsFirstShortestWalk}
use Rattle.earliest_times.proofs.HistoryLemmas.{back_exact, table_length, raised_at, raised_before, raised_value}

back_least : (to : ℕ) (weight : ℤ) → pos to ≤ℤ (pos (back to weight) +ℤ weight)
back_least to (pos n) = omega (arith, ints)
back_least to (negsuc n) = omega (arith, ints)

-- ---- walks by their first edge
walk_more : (edges : List Edge) (most place : ℕ) (rest : List ℕ) → place < length edges → IsWalkFrom edges (edge_at_place edges place).to most rest → IsWalkFrom edges (edge_at_place edges place).from (suc most) (place ∷ rest)
walk_more edges most place rest inside walks =
    let few = walks.few in
    record { within = (inside, walks.within); few = omega (arith, few); to = walks.to; walk = (refl, walks.walk) }

walk_rest : (edges : List Edge) (point : PointId) (most place : ℕ) (rest : List ℕ) → IsWalkFrom edges point (suc most) (place ∷ rest) → IsWalkFrom edges (edge_at_place edges place).to most rest
walk_rest edges point most place rest walks =
    let few = walks.few in
    record { within = walks.within.1; few = omega (arith, few); to = walks.to; walk = walks.walk.1 }

no_walk : (edges : List Edge) (point : PointId) (most : ℕ) → IsWalkFrom edges point most []
no_walk edges point most = record { within = tt; few = omega arith; to = point; walk = refl }

module _ (edges : List Edge) (points : ℕ) (levels : List (List (Option ℕ))) (now : List ℕ) (history : IsHistory edges points levels now) (within : AreWithin points edges) where
  -- the moment of a point after so many rounds
  abbrev moment : ℕ → ℕ → ℕ
  moment level point = get_or (history.tables level) point 0

  moment_zero : (point : ℕ) → point < points → moment 0 point ≡ 0
  moment_zero point is_point = ap (λ (t : List ℕ). get_or t point 0) history.begins ∙ get_or-replicate points point 0 0 is_point

  -- no walk is shorter than the moment of its first point tells
  walks_ask : (level : ℕ) → level ≤ length levels → (point : PointId) → (places : List ℕ) → IsWalkFrom edges point level places → pos 0 ≤ℤ (pos (moment level point.0) +ℤ total_at edges places)
  walks_ask level inside point [] walks = omega (arith, ints)
  walks_ask zero inside point (place ∷ rest) walks = let few = walks.few in absurd (omega (arith, few))
  walks_ask (suc level) inside point (place ∷ rest) walks =
      let edge = edge_at_place edges place in
      let tail = walks_ask level (omega (arith, inside)) edge.to rest (walk_rest edges point level place rest walks) in
      let asks = (history.rounds level (omega (arith, inside))).asks place walks.within.0 in
      let least = back_least (moment level edge.to.0) edge.weight in
      let same : moment (suc level) edge.from.0 ≡ moment (suc level) point.0 = ap (λ (p : PointId). moment (suc level) p.0) walks.walk.0 in
      omega (arith, ints, tail, asks, least, same)

  -- some walk is as short
  attained : (level : ℕ) → level ≤ length levels → (point : PointId) → point.0 < points → (places : List ℕ) × IsWalkFrom edges point level places × ((pos (moment level point.0) +ℤ total_at edges places) ≡ pos 0)
  attained zero inside point is_point = let none = moment_zero point.0 is_point in ([], no_walk edges point 0, omega (arith, ints, none))
  attained (suc level) inside point is_point =
      let size = table_length edges points levels now history level (omega (arith, inside)) in
      by (get_or (get_or levels level []) point.0 None) ((history.rounds level (omega (arith, inside))).became point.0 (omega (arith, size, is_point))) (attained level (omega (arith, inside)))
    where
      by : (o : Option ℕ) → Became edges (history.tables level) (history.tables (suc level)) point.0 o
          → ((p : PointId) → p.0 < points → (places : List ℕ) × IsWalkFrom edges p level places × ((pos (moment level p.0) +ℤ total_at edges places) ≡ pos 0))
          → (places : List ℕ) × IsWalkFrom edges point (suc level) places × ((pos (moment (suc level) point.0) +ℤ total_at edges places) ≡ pos 0)
      by None same earlier =
          let (places, walks, value) = earlier point is_point in
          let few = walks.few in
          (places, record { within = walks.within; few = omega (arith, few); to = walks.to; walk = walks.walk }, omega (arith, ints, value, same))
      by (Some place) raised earlier =
          let edge = edge_at_place edges place in
          let ends = within place no_edge raised.within in
          let (rest, walks, value) = earlier edge.to ends.1 in
          let reached = raised.reached in
          let more = raised.more in
          let exact = back_exact (moment level edge.to.0) (moment level point.0) edge.weight (omega (arith, reached, more)) in
          let from : edge.from ≡ point = same_from_number edge.from point raised.begins in
          (place ∷ rest, subst (λ (p : PointId). IsWalkFrom edges p (suc level) (place ∷ rest)) from (walk_more edges level place rest raised.within walks), omega (arith, ints, value, exact, reached))

  -- a shortest walk of at most so many edges from a point, as its moment tells, and the first of these
  pub record IsFirstFrom (level : ℕ) (point : PointId) (places : List ℕ) : Type 0 where
    pub walks : IsWalkFrom edges point level places
    pub value : (pos (moment level point.0) +ℤ total_at edges places) ≡ pos 0
    pub first : (other : List ℕ) → IsWalkFrom edges point level other → (pos (moment level point.0) +ℤ total_at edges other) ≡ pos 0 → IsNotAfter places other

  -- it begins with the edge that raised the point
  pub first_more : (level : ℕ) → level < length levels → (point : PointId) → point.0 < points → (place : ℕ) → get_or (get_or levels level []) point.0 None ≡ Some place
      → (rest : List ℕ) → IsFirstFrom level (edge_at_place edges place).to rest → IsFirstFrom (suc level) point (place ∷ rest)
  first_more level inside point is_point place is rest its =
      record {
        walks = subst (λ (p : PointId). IsWalkFrom edges p (suc level) (place ∷ rest)) (same_from_number edge.from point raised.begins) (walk_more edges level place rest raised.within its.walks);
        value = let rest_value = its.value in omega (arith, ints, value, rest_value);
        first = first;
      }
    where
      raised : IsRaisedBy edges (history.tables level) (history.tables (suc level)) point.0 place
      raised = raised_at edges points levels now history level inside point.0 place is_point is

      edge : Edge
      edge = edge_at_place edges place

      value : (pos (moment (suc level) point.0) +ℤ edge.weight) ≡ pos (moment level edge.to.0)
      value = raised_value edges points levels now history level inside point.0 place is_point is

      then : (other : ℕ) (others : List ℕ) → place ≡ other → IsWalkFrom edges (edge_at_place edges other).to level others
          → (pos (moment (suc level) point.0) +ℤ ((edge_at_place edges other).weight +ℤ total_at edges others)) ≡ pos 0 → IsNotAfter rest others
      then other others same walks total =
          let weight : edge.weight ≡ (edge_at_place edges other).weight = ap (λ (k : ℕ). (edge_at_place edges k).weight) same in
          its.first others (subst (λ (k : ℕ). IsWalkFrom edges (edge_at_place edges k).to level others) (sym same) walks) (omega (arith, ints, value, total, weight))

      first : (other : List ℕ) → IsWalkFrom edges point (suc level) other → (pos (moment (suc level) point.0) +ℤ total_at edges other) ≡ pos 0 → IsNotAfter (place ∷ rest) other
      first [] walks total = let more = raised.more in absurd (omega (arith, ints, total, more))
      first (other ∷ others) walks total =
          let tail = walk_rest edges point level other others walks in
          let asked = walks_ask level (omega (arith, inside)) (edge_at_place edges other).to others tail in
          elim (cases_lt other place) [
            | inl earlier ↦
                let below = raised.first other earlier (ap (λ (p : PointId). p.0) walks.walk.0) in
                let least = back_least (moment level (edge_at_place edges other).to.0) (edge_at_place edges other).weight in
                absurd (omega (arith, ints, below, least, asked, total))
            | inr late ↦ elim (cases_lt place other) [
              | inl less ↦ inl less
              | inr not_less ↦ let same : place ≡ other = omega (arith, late, not_less) in inr (same, then other others same tail total)
            ]
          ]

  -- such a walk, if the point was raised in the last of so many rounds
  pub first_from : (level : ℕ) → level ≤ length levels → (point : PointId) → point.0 < points → (1 ≤ level → IsSome (get_or (get_or levels (level - 1) []) point.0 None)) → (places : List ℕ) × IsFirstFrom level point places
  first_from zero inside point is_point raised =
      let none = moment_zero point.0 is_point in
      ([], record { walks = no_walk edges point 0; value = omega (arith, ints, none); first = λ other walks total. tt })
  first_from (suc level) inside point is_point raised =
      let before : suc level - 1 ≡ level = omega arith in
      by (get_or (get_or levels level []) point.0 None) refl (subst (λ (l : ℕ). IsSome (get_or (get_or levels l []) point.0 None)) before (raised (omega arith))) (first_from level (omega (arith, inside)))
    where
      by : (o : Option ℕ) → get_or (get_or levels level []) point.0 None ≡ o → IsSome o
          → ((p : PointId) → p.0 < points → (1 ≤ level → IsSome (get_or (get_or levels (level - 1) []) p.0 None)) → (places : List ℕ) × IsFirstFrom level p places)
          → (places : List ℕ) × IsFirstFrom (suc level) point places
      by None is some earlier = absurd (true≢false (sym some))
      by (Some place) is some earlier =
          let raised_by = raised_at edges points levels now history level (omega (arith, inside)) point.0 place is_point is in
          let ends = within place no_edge raised_by.within in
          let (rest, its) = earlier (edge_at_place edges place).to ends.1 (raised_also place is) in
          (place ∷ rest, first_more level (omega (arith, inside)) point is_point place is rest its)
        where
          raised_also : (place : ℕ) → get_or (get_or levels level []) point.0 None ≡ Some place → 1 ≤ level → IsSome (get_or (get_or levels (level - 1) []) (edge_at_place edges place).to.0 None)
          raised_also place is more =
              let same : suc (level - 1) ≡ level = omega (arith, more) in
              raised_before edges points levels now history within (level - 1) (omega (arith, inside, more)) point.0 place is_point (subst (λ (l : ℕ). get_or (get_or levels l []) point.0 None ≡ Some place) (sym same) is)

  -- from the first point that was raised in one round more than there are points
  pub first_walk : (start : PointId) → start.0 < points → length levels ≡ suc points → position (λ (by : Option ℕ). is_some by) (get_or levels points []) ≡ Some start.0 → (walk : List ℕ) → IsFirstFrom (length levels) start walk
      → IsFirstShortestWalk points edges walk
  first_walk start is_point count found walk from_last =
      record {
        start = start;
        longer = record { walks = its.walks; shorter = shorter };
        lowest = lowest;
        shortest = record { walks = its.walks; least = least };
        first = λ other shortest. its.first other shortest.walks (as_short other shortest);
      }
    where
      its : IsFirstFrom (suc points) start walk
      its = subst (λ (n : ℕ). IsFirstFrom n start walk) count from_last

      value : (pos (moment (suc points) start.0) +ℤ total_at edges walk) ≡ pos 0
      value = its.value

      least : (other : List ℕ) → IsWalkFrom edges start (suc points) other → total_at edges walk ≤ℤ total_at edges other
      least other walks = let asked = walks_ask (suc points) (omega (arith, count)) start other walks in omega (arith, ints, asked, value)

      as_short : (other : List ℕ) → IsShortestWalk edges start (suc points) other → (pos (moment (suc points) start.0) +ℤ total_at edges other) ≡ pos 0
      as_short other shortest =
          let below = shortest.least walk its.walks in
          let asked = walks_ask (suc points) (omega (arith, count)) start other shortest.walks in
          omega (arith, ints, below, asked, value)

      rise : (o : Option ℕ) → IsSome o → get_or (get_or levels points []) start.0 None ≡ o → moment points start.0 < moment (suc points) start.0
      rise None some is = absurd (true≢false (sym some))
      rise (Some place) some is = (raised_at edges points levels now history points (omega (arith, count)) start.0 place is_point is).more

      shorter : (fewer : List ℕ) → IsWalkFrom edges start points fewer → total_at edges walk <ℤ total_at edges fewer
      shorter fewer walks =
          let (inside, passes, before) = position-Some (λ (by : Option ℕ). is_some by) (get_or levels points []) start.0 None found in
          let more = rise (get_or (get_or levels points []) start.0 None) passes refl in
          let asked = walks_ask points (omega (arith, count)) start fewer walks in
          omega (arith, ints, asked, value, more)

      -- a point before it was not raised
      not_raised : (point : PointId) → point.0 < start.0 → moment (suc points) point.0 ≡ moment points point.0
      not_raised point earlier =
          let (inside, passes, before) = position-Some (λ (by : Option ℕ). is_some by) (get_or levels points []) start.0 None found in
          let size = table_length edges points levels now history points (omega (arith, count)) in
          by (get_or (get_or levels points []) point.0 None) (before point.0 earlier) ((history.rounds points (omega (arith, count))).became point.0 (omega (arith, size, earlier, is_point)))
        where
          by : (o : Option ℕ) → is_some o ≡ false → Became edges (history.tables points) (history.tables (suc points)) point.0 o → moment (suc points) point.0 ≡ moment points point.0
          by None fails same = same
          by (Some place) fails raised = absurd (true≢false fails)

      lowest : (point : PointId) (other : List ℕ) → IsShorterThanFewer edges point points other → start.0 ≤ point.0
      lowest point other longer = elim (cases_lt point.0 start.0) [
        | inr late ↦ late
        | inl earlier ↦
            let same = not_raised point earlier in
            let asked = walks_ask (suc points) (omega (arith, count)) point other longer.walks in
            let (fewer, walks, total) = attained points (omega (arith, count)) point (omega (arith, earlier, is_point)) in
            let less = longer.shorter fewer walks in
            absurd (omega (arith, ints, same, asked, total, less))
      ]
