-- The points that were raised, traced back level by level, come to a loop.
use Rattle.std.proofs.Common.{◌≡◌, ◌≢◌, ℕ, suc, ◌+◌, ◌-◌, ◌<◌, ◌≤◌, pos, ◌+ℤ◌, ◌<ℤ◌, true, false, List, [], ◌∷◌, ◌++◌, Option, Some, None, map, length, get_or, is_some, take, drop, eqb, refl, ap, sym, subst, ◌∙◌, inl, inr, append_assoc, arith}
use Rattle.std.specs.List.{All, AllByRecursion, AllPairs, IsDistinct, list_any, position}
use Rattle.std.specs.Option.{IsSome}
use Rattle.std.specs.Prelude.{◌==◌}
use Rattle.std.proofs.lemmas.Bool.{cases_lt, eqb-true, eqb-false, ne_eqb, or_cases, true≢false}
use Rattle.std.proofs.lemmas.Int.{ints}
use Rattle.std.proofs.lemmas.List.{length-append, length-map, length-drop, get_or_append_left, get_or_at, get_or-drop, drop-append-le, map-append, drop_at, get_or_default, take-append-drop}
use Rattle.std.proofs.lemmas.List.Quantifiers.{position-Some}
use Rattle.std.proofs.lemmas.Map.Steps.{length-le_from_distinct_below}
use Rattle.net_model.proofs.Positions.{fails_from_None}
use Rattle.net_model.specs.declared.ids.PointId.{PointId}
use Rattle.net_model.specs.declared.part.Edge.{Edge}
use Rattle.strategy_model.specs.Edges.{IsWalk, total}
use Rattle.strategy_model.proofs.MomentLemmas.{same_from_number}
use Rattle.earliest_times.specs.Rounds.{no_edge, edge_at_place, IsRaisedBy}
use Rattle.earliest_times.specs.History.{IsHistory, AreWithin}
use Rattle.earliest_times.specs.Least.{begins as start_of, IsLoop}
use Rattle.earliest_times.specs.FirstLoops.{IsLoopOfFirstWalk}
use Rattle.earliest_times.proofs.HistoryLemmas.{table_length, raised_at, raised_before, raised_value, history_rises}
use Rattle.earliest_times.proofs.ShortestWalkLemmas.{IsFirstFrom, first_more, first_from, first_walk}
use Rattle.earliest_times.proofs.TurnLemmas.{loop_some}

-- ---- walks that go on by one edge
walk_more : (from : PointId) (edges : List Edge) (edge : Edge) (to : PointId) → IsWalk from edges to → edge.from ≡ to → IsWalk from (edges ++ edge ∷ []) edge.to
walk_more from [] edge to walk begins = (begins ∙ sym walk, refl)
walk_more from (first ∷ edges) edge to walk begins = (walk.0, walk_more first.to edges edge to walk.1 begins)

total_more : (edges : List Edge) (edge : Edge) → total (edges ++ edge ∷ []) ≡ (total edges +ℤ edge.weight)
total_more [] edge = omega (arith, ints)
total_more (first ∷ edges) edge = let rest = total_more edges edge in omega (arith, ints, rest)

from_of : List Edge → ℕ → ℕ
from_of edges place = (edge_at_place edges place).from.0

module _ (edges : List Edge) (points : ℕ) (levels : List (List (Option ℕ))) (now : List ℕ) (history : IsHistory edges points levels now) (within : AreWithin points edges) where
  -- what the walk says from a step on
  pub record IsStep (walk : List ℕ) (point : PointId) (left i : ℕ) : Type 0 where
    pub raised : get_or (get_or levels (length levels - 1 - i) []) (edge_at_place edges (get_or walk i 0)).from.0 None ≡ Some (get_or walk i 0)
    pub inside : (edge_at_place edges (get_or walk i 0)).from.0 < points
    pub walks : IsWalk (edge_at_place edges (get_or walk i 0)).from (map (edge_at_place edges) (drop i walk)) point
    pub value : (pos (get_or (history.tables (length levels - i)) (edge_at_place edges (get_or walk i 0)).from.0 0) +ℤ total (map (edge_at_place edges) (drop i walk))) ≡ pos (get_or (history.tables left) point.0 0)

  -- a walk of the edges that raised points, from the last level back, so far
  pub record IsTrace (walk : List ℕ) (point : PointId) (left : ℕ) : Type 0 where
    pub count : length walk + left ≡ length levels
    pub inside : point.0 < points
    pub here : 1 ≤ left → IsSome (get_or (get_or levels (left - 1) []) point.0 None)
    pub steps : (i : ℕ) → i < length walk → IsStep walk point left i
    pub once : (i j : ℕ) → i < j → j < length walk → (edge_at_place edges (get_or walk i 0)).from.0 ≢ (edge_at_place edges (get_or walk j 0)).from.0

  pub trace_begins : (start : PointId) → start.0 < points → IsSome (get_or (get_or levels (length levels - 1) []) start.0 None) → IsTrace [] start (length levels)
  trace_begins start inside raised =
      record { count = omega arith; inside = inside; here = λ some. raised; steps = λ i below. absurd (omega (arith, below)); once = λ i j less below. absurd (omega (arith, below)) }

  module _ (walk : List ℕ) (point : PointId) (left place : ℕ) (trace : IsTrace walk point (suc left)) (unvisited : (i : ℕ) → i < length walk → (edge_at_place edges (get_or walk i 0)).from.0 ≢ point.0)
      (is : get_or (get_or levels left []) point.0 None ≡ Some place) where
    last : left < length levels
    last = let count = trace.count in omega (arith, count)

    raised : IsRaisedBy edges (history.tables left) (history.tables (suc left)) point.0 place
    raised = raised_at edges points levels now history left last point.0 place trace.inside is

    abbrev edge : Edge
    edge = edge_at_place edges place

    begins : edge.from ≡ point
    begins = same_from_number edge.from point raised.begins

    size : length (walk ++ place ∷ []) ≡ length walk + 1
    size = length-append walk (place ∷ [])

    old : (i : ℕ) → i < length walk → get_or (walk ++ place ∷ []) i 0 ≡ get_or walk i 0
    old i inside = get_or_append_left walk (place ∷ []) 0 i inside

    new : (i : ℕ) → i ≡ length walk → get_or (walk ++ place ∷ []) i 0 ≡ place
    new i at = get_or_at walk place [] 0 i (sym at)

    value_here : (pos (get_or (history.tables (suc left)) point.0 0) +ℤ edge.weight) ≡ pos (get_or (history.tables left) edge.to.0 0)
    value_here = raised_value edges points levels now history left last point.0 place trace.inside is

    rest_old : (i : ℕ) → i < length walk → map (edge_at_place edges) (drop i (walk ++ place ∷ [])) ≡ map (edge_at_place edges) (drop i walk) ++ edge ∷ []
    rest_old i inside = ap (map (edge_at_place edges)) (drop-append-le i walk (place ∷ []) (omega (arith, inside))) ∙ map-append (edge_at_place edges) (drop i walk) (place ∷ [])

    rest_new : (i : ℕ) → i ≡ length walk → map (edge_at_place edges) (drop i (walk ++ place ∷ [])) ≡ edge ∷ []
    rest_new i at = ap (map (edge_at_place edges)) (drop_at walk (place ∷ []) i (sym at))

    step_old : (i : ℕ) → i < length walk → IsStep (walk ++ place ∷ []) edge.to left i
    step_old i inside =
        let its = trace.steps i inside in
        let same = old i inside in
        let P : ℕ → Type 0 = λ k. get_or (get_or levels (length levels - 1 - i) []) (edge_at_place edges k).from.0 None ≡ Some k in
        let value = its.value in
        let more = total_more (map (edge_at_place edges) (drop i walk)) edge in
        let rest : total (map (edge_at_place edges) (drop i (walk ++ place ∷ []))) ≡ total (map (edge_at_place edges) (drop i walk) ++ edge ∷ []) = ap total (rest_old i inside) in
        let from : get_or (history.tables (length levels - i)) (edge_at_place edges (get_or (walk ++ place ∷ []) i 0)).from.0 0 ≡ get_or (history.tables (length levels - i)) (edge_at_place edges (get_or walk i 0)).from.0 0 =
        ap (λ (k : ℕ). get_or (history.tables (length levels - i)) (edge_at_place edges k).from.0 0) same in
        record {
          raised = subst P (sym same) its.raised;
          inside = subst (λ (k : ℕ). (edge_at_place edges k).from.0 < points) (sym same) its.inside;
          walks = subst (λ (k : ℕ). IsWalk (edge_at_place edges k).from (map (edge_at_place edges) (drop i (walk ++ place ∷ []))) edge.to) (sym same)
              (subst (λ (es : List Edge). IsWalk (edge_at_place edges (get_or walk i 0)).from es edge.to) (sym (rest_old i inside))
              (walk_more (edge_at_place edges (get_or walk i 0)).from (map (edge_at_place edges) (drop i walk)) edge point its.walks begins));
          value = omega (arith, ints, value, more, rest, from, value_here);
        }

    step_new : (i : ℕ) → i ≡ length walk → IsStep (walk ++ place ∷ []) edge.to left i
    step_new i at =
        let same = new i at in
        let count = trace.count in
        let level : length levels - 1 - i ≡ left = omega (arith, count, at) in
        let above : length levels - i ≡ suc left = omega (arith, count, at) in
        let marked : get_or (get_or levels (length levels - 1 - i) []) edge.from.0 None ≡ Some place = (λ j. get_or (get_or levels (level j) []) (begins j).0 None) ∙ is in
        let inside : edge.from.0 < points = subst (λ (p : PointId). p.0 < points) (sym begins) trace.inside in
        let rest : total (map (edge_at_place edges) (drop i (walk ++ place ∷ []))) ≡ total (edge ∷ []) = ap total (rest_new i at) in
        let from : get_or (history.tables (length levels - i)) (edge_at_place edges (get_or (walk ++ place ∷ []) i 0)).from.0 0 ≡ get_or (history.tables (suc left)) point.0 0 =
        ap (λ (k : ℕ). get_or (history.tables (length levels - i)) (edge_at_place edges k).from.0 0) same ∙ (λ j. get_or (history.tables (above j)) (begins j).0 0) in
        record {
          raised = subst (λ (k : ℕ). get_or (get_or levels (length levels - 1 - i) []) (edge_at_place edges k).from.0 None ≡ Some k) (sym same) marked;
          inside = subst (λ (k : ℕ). (edge_at_place edges k).from.0 < points) (sym same) inside;
          walks = subst (λ (k : ℕ). IsWalk (edge_at_place edges k).from (map (edge_at_place edges) (drop i (walk ++ place ∷ []))) edge.to) (sym same)
              (subst (λ (es : List Edge). IsWalk edge.from es edge.to) (sym (rest_new i at)) (refl, refl));
          value = omega (arith, ints, rest, from, value_here);
        }

    step : (i : ℕ) → i < length (walk ++ place ∷ []) → IsStep (walk ++ place ∷ []) edge.to left i
    step i below = elim (cases_lt i (length walk)) [ inl inside ↦ step_old i inside | inr past ↦ step_new i (omega (arith, below, size, past)) ]

    once : (i j : ℕ) → i < j → j < length (walk ++ place ∷ []) → (edge_at_place edges (get_or (walk ++ place ∷ []) i 0)).from.0 ≢ (edge_at_place edges (get_or (walk ++ place ∷ []) j 0)).from.0
    unfolding from_of
    once i j less below same = elim (cases_lt j (length walk)) [
      | inl inside ↦ trace.once i j less inside (ap (from_of edges) (sym (old i (omega (arith, less, inside)))) ∙ same ∙ ap (from_of edges) (old j inside))
      | inr past ↦
          let at : j ≡ length walk = omega (arith, below, size, past) in
          let first = old i (omega (arith, less, at)) in
          unvisited i (omega (arith, less, at)) (ap (λ (k : ℕ). (edge_at_place edges k).from.0) (sym first) ∙ same ∙ ap (λ (k : ℕ). (edge_at_place edges k).from.0) (new j at) ∙ raised.begins)
    ]

    further : 1 ≤ left → IsSome (get_or (get_or levels (left - 1) []) edge.to.0 None)
    further some =
        let before : suc (left - 1) ≡ left = omega (arith, some) in
        raised_before edges points levels now history within (left - 1) (omega (arith, last, some)) point.0 place trace.inside (subst (λ (l : ℕ). get_or (get_or levels l []) point.0 None ≡ Some place) (sym before) is)

    pub trace_more : IsTrace (walk ++ place ∷ []) edge.to left
    trace_more =
        let ends = within place no_edge raised.within in
        let count = trace.count in
        record { count = omega (arith, count, size); inside = ends.1; here = further; steps = step; once = once }

  -- if a point comes twice, the walk from it on is a loop
  module _ (walk : List ℕ) (point : PointId) (left first : ℕ) (trace : IsTrace walk point left) (early : first < length walk) (met : (edge_at_place edges (get_or walk first 0)).from.0 ≡ point.0) where
    its : IsStep walk point left first
    its = trace.steps first early

    met_point : (edge_at_place edges (get_or walk first 0)).from ≡ point
    met_point = same_from_number (edge_at_place edges (get_or walk first 0)).from point met

    abbrev part : List ℕ
    part = drop first walk

    part_at : (i d : ℕ) → i < length part → get_or part i d ≡ get_or walk (first + i) 0
    part_at i d inside = let size = length-drop first walk in get_or-drop first walk i d ∙ get_or_default walk (first + i) d 0 (omega (arith, size, inside))

    negative : total (map (edge_at_place edges) part) <ℤ pos 0
    negative =
        let count = trace.count in
        let level = length levels - 1 - first in
        let above : length levels - first ≡ suc level = omega (arith, count, early) in
        let value = its.value in
        let raised = raised_at edges points levels now history level (omega (arith, count, early)) (edge_at_place edges (get_or walk first 0)).from.0 (get_or walk first 0) its.inside its.raised in
        let more = raised.more in
        let rise = history_rises edges points levels now history left (level - left) (omega (arith, count, early)) point.0 trace.inside in
        let same : left + (level - left) ≡ level = omega (arith, count, early) in
        let rise_at : get_or (history.tables (left + (level - left))) point.0 0 ≡ get_or (history.tables level) point.0 0 = ap (λ (l : ℕ). get_or (history.tables l) point.0 0) same in
        let up : get_or (history.tables (length levels - first)) (edge_at_place edges (get_or walk first 0)).from.0 0 ≡ get_or (history.tables (suc level)) (edge_at_place edges (get_or walk first 0)).from.0 0 =
        ap (λ (l : ℕ). get_or (history.tables l) (edge_at_place edges (get_or walk first 0)).from.0 0) above in
        let at : get_or (history.tables level) (edge_at_place edges (get_or walk first 0)).from.0 0 ≡ get_or (history.tables level) point.0 0 = ap (λ (k : ℕ). get_or (history.tables level) k 0) met in
        omega (arith, ints, value, more, rise, rise_at, up, at)

    part_within : All (λ place. place < length edges) part
    part_within i d inside =
        let size = length-drop first walk in
        let count = trace.count in
        let step = trace.steps (first + i) (omega (arith, size, inside)) in
        let raised = raised_at edges points levels now history (length levels - 1 - (first + i)) (omega (arith, count, size, inside)) (edge_at_place edges (get_or walk (first + i) 0)).from.0
        (get_or walk (first + i) 0) step.inside step.raised in
        subst (λ (k : ℕ). k < length edges) (sym (part_at i d inside)) raised.within

    pub trace_found : IsLoop edges part
    trace_found =
        record {
          within = part_within;
          negative = (point, subst (λ (p : PointId). IsWalk p (map (edge_at_place edges) part) point) met_point walks, negative);
          once = λ i j d less inside same.
              let size = part_size in
              trace.once (first + i) (first + j) (omega (arith, less)) (omega (arith, size, inside))
              (ap (λ (k : ℕ). (edge_at_place edges k).from.0) (sym (part_at i d (omega (arith, less, inside)))) ∙ same ∙ ap (λ (k : ℕ). (edge_at_place edges k).from.0) (part_at j d inside));
        }
      where
        part_size : length part ≡ length walk - first
        part_size = length-drop first walk

        walks : IsWalk (edge_at_place edges (get_or walk first 0)).from (map (edge_at_place edges) part) point
        walks = its.walks

  -- more levels than points leave no walk without a point twice
  pub trace_over : (walk : List ℕ) (point : PointId) → IsTrace walk point 0 → points < length levels → ⊥
  unfolding from_of IsDistinct
  trace_over walk point trace many =
      let count = trace.count in
      let few = length-le_from_distinct_below (map (from_of edges) walk) points (distinct walk trace.once) (below walk (λ i inside. (trace.steps i inside).inside)) in
      omega (arith, count, many, few, length-map walk (from_of edges))
    where
      apart : (k : ℕ) (rest : List ℕ) → ((j : ℕ) → j < length rest → from_of edges k ≢ from_of edges (get_or rest j 0)) → AllByRecursion (λ (n : ℕ). eqb (from_of edges k) n ≡ false) (map (from_of edges) rest)
      apart k [] all = tt
      apart k (j ∷ rest) all = (ne_eqb (from_of edges k) (from_of edges j) (all 0 (omega arith)), apart k rest (λ i inside. all (suc i) (omega (arith, inside))))

      distinct : (ks : List ℕ) → ((i j : ℕ) → i < j → j < length ks → from_of edges (get_or ks i 0) ≢ from_of edges (get_or ks j 0)) → IsDistinct eqb (map (from_of edges) ks)
      distinct [] all = tt
      distinct (k ∷ ks) all = (apart k ks (λ j inside. all 0 (suc j) (omega arith) (omega (arith, inside))), distinct ks (λ i j less inside. all (suc i) (suc j) (omega (arith, less)) (omega (arith, inside))))

      below : (ks : List ℕ) → ((i : ℕ) → i < length ks → from_of edges (get_or ks i 0) < points) → (q : ℕ) → list_any (eqb q) (map (from_of edges) ks) ≡ true → q < points
      below [] all q among = absurd (true≢false (sym among))
      below (k ∷ ks) all q among =
          elim (or_cases (eqb q (from_of edges k)) (list_any (eqb q) (map (from_of edges) ks)) among) [
            | inl here ↦ let same = eqb-true q (from_of edges k) here in let first = all 0 (omega arith) in omega (arith, same, first)
            | inr later ↦ below ks (λ i inside. all (suc i) (omega (arith, inside))) q later
          ]

-- a trace of some history
pub record Traced (edges : List Edge) (points : ℕ) (levels : List (List (Option ℕ))) (start : PointId) (walk : List ℕ) (point : PointId) (left : ℕ) : Type 0 where
  pub now : List ℕ
  pub history : IsHistory edges points levels now
  pub within : AreWithin points edges
  pub trace : IsTrace edges points levels now history within walk point left
  pub whole : (rest : List ℕ) → IsFirstFrom edges points levels now history within left point rest → IsFirstFrom edges points levels now history within (length levels) start (walk ++ rest)

pub traced_begins : (edges : List Edge) (points : ℕ) (levels : List (List (Option ℕ))) (start : PointId) → (now : List ℕ) × IsHistory edges points levels now → AreWithin points edges → start.0 < points
    → IsSome (get_or (get_or levels (length levels - 1) []) start.0 None) → Traced edges points levels start [] start (length levels)
traced_begins edges points levels start its within inside raised =
    record { now = its.0; history = its.1; within = within; trace = trace_begins edges points levels its.0 its.1 within start inside raised; whole = λ rest first. first }

module _ (edges : List Edge) (points : ℕ) (levels : List (List (Option ℕ))) (start : PointId) (walk : List ℕ) (point : PointId) (left : ℕ) (traced : Traced edges points levels start walk point left) where
  pub traced_places : All (λ place. place < length edges) walk
  traced_places i d inside =
      let count = traced.trace.count in
      let step = traced.trace.steps i inside in
      let raised = raised_at edges points levels traced.now traced.history (length levels - 1 - i) (omega (arith, count, inside)) (edge_at_place edges (get_or walk i 0)).from.0 (get_or walk i 0) step.inside step.raised in
      subst (λ (k : ℕ). k < length edges) (get_or_default walk i 0 d inside) raised.within

  pub traced_inside : (first : ℕ) → position (λ (place : ℕ). (edge_at_place edges place).from.0 == point.0) walk ≡ Some first → first < length walk
  traced_inside first found = (position-Some (λ (place : ℕ). (edge_at_place edges place).from.0 == point.0) walk first 0 found).0

  pub traced_found : (first : ℕ) → position (λ (place : ℕ). (edge_at_place edges place).from.0 == point.0) walk ≡ Some first → IsLoop edges (drop first walk)
  traced_found first found =
      let (inside, passes, before) = position-Some (λ (place : ℕ). (edge_at_place edges place).from.0 == point.0) walk first 0 found in
      trace_found edges points levels traced.now traced.history traced.within walk point left first traced.trace inside (eqb-true (edge_at_place edges (get_or walk first 0)).from.0 point.0 passes)

  pub traced_level : 1 ≤ left → left - 1 < length levels
  traced_level some = let count = traced.trace.count in omega (arith, count, some)

  pub traced_row : 1 ≤ left → point.0 < length (get_or levels (left - 1) [])
  traced_row some =
      let size = (traced.history.rounds (left - 1) (traced_level some)).raised_length in
      let level = traced_level some in
      let wide = table_length edges points levels traced.now traced.history (left - 1) (omega (arith, level)) in
      let inside = traced.trace.inside in
      omega (arith, size, wide, inside)

  pub traced_some : 1 ≤ left → IsSome (get_or (get_or levels (left - 1) []) point.0 None)
  traced_some some = traced.trace.here some

  pub traced_place : (place : ℕ) → 1 ≤ left → get_or (get_or levels (left - 1) []) point.0 None ≡ Some place → place < length edges
  traced_place place some is = (raised_at edges points levels traced.now traced.history (left - 1) (traced_level some) point.0 place traced.trace.inside is).within

  pub traced_more : (place : ℕ) → 1 ≤ left → position (λ (place : ℕ). (edge_at_place edges place).from.0 == point.0) walk ≡ None → get_or (get_or levels (left - 1) []) point.0 None ≡ Some place
      → Traced edges points levels start (walk ++ place ∷ []) (edge_at_place edges place).to (left - 1)
  traced_more place some none is =
      let same : left ≡ suc (left - 1) = omega (arith, some) in
      let trace = subst (λ (l : ℕ). IsTrace edges points levels traced.now traced.history traced.within walk point l) same traced.trace in
      record {
        now = traced.now;
        history = traced.history;
        within = traced.within;
        trace = trace_more edges points levels traced.now traced.history traced.within walk point (left - 1) place trace
            (λ i inside. eqb-false (edge_at_place edges (get_or walk i 0)).from.0 point.0 (fails_from_None (λ (place : ℕ). (edge_at_place edges place).from.0 == point.0) walk none i 0 inside)) is;
        whole = λ rest its.
            let marked : get_or (get_or levels (left - 1) []) point.0 None ≡ Some place = is in
            let longer = first_more edges points levels traced.now traced.history traced.within (left - 1) (traced_level some) point traced.trace.inside place marked rest its in
            subst (IsFirstFrom edges points levels traced.now traced.history traced.within (length levels) start) (sym (append_assoc walk (place ∷ []) rest))
            (traced.whole (place ∷ rest) (subst (λ (l : ℕ). IsFirstFrom edges points levels traced.now traced.history traced.within l point (place ∷ rest)) (sym same) longer));
      }

  -- if a point comes twice, the walk from it on is the first loop on the first shortest walk
  pub traced_first : (first : ℕ) → position (λ (place : ℕ). (edge_at_place edges place).from.0 == point.0) walk ≡ Some first → length levels ≡ suc points → start.0 < points
      → position (λ (by : Option ℕ). is_some by) (get_or levels points []) ≡ Some start.0 → IsLoopOfFirstWalk points edges (drop first walk)
  traced_first first found count is_start starts =
      let loop = traced_found first found in
      let size = traced.trace.count in
      let (rest, its) = first_from edges points levels traced.now traced.history traced.within left (omega (arith, size)) point traced.trace.inside traced.trace.here in
      record {
        walk = walk ++ rest;
        is = first_walk edges points levels traced.now traced.history traced.within start is_start count starts (walk ++ rest) (traced.whole rest its);
        first = record {
          before = take first walk;
          after = rest;
          parts = ap (λ (ns : List ℕ). ns ++ rest) (sym (take-append-drop first walk)) ∙ append_assoc (take first walk) (drop first walk) rest;
          point = loop.negative.0;
          closed = loop.negative.1;
          some = loop_some edges (drop first walk) loop;
          once = subst (AllPairs (λ one other. start_of edges one ≢ start_of edges other)) (sym (take-append-drop first walk)) once;
        };
      }
    where
      once : AllPairs (λ one other. start_of edges one ≢ start_of edges other) walk
      once i j d less inside same =
          traced.trace.once i j less inside (ap (start_of edges) (get_or_default walk i 0 d (omega (arith, less, inside))) ∙ same ∙ ap (start_of edges) (get_or_default walk j d 0 inside))

pub traced_over : (edges : List Edge) (points : ℕ) (levels : List (List (Option ℕ))) (start : PointId) (walk : List ℕ) (point : PointId) → Traced edges points levels start walk point 0 → points < length levels → ⊥
traced_over edges points levels start walk point traced many = trace_over edges points levels traced.now traced.history traced.within walk point traced.trace many
