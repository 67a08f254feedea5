-- What several rounds make, from the moments 0 on.
use Rattle.std.proofs.Common.{◌≡◌, ℕ, zero, suc, ◌+◌, ◌*◌, ◌<◌, ◌≤◌, ℤ, pos, negsuc, ◌+ℤ◌, ◌-ℤ◌, ◌≤ℤ◌, Bool, cond, leb, List, [], ◌∷◌, ◌++◌, Option, Some, None, length, get_or, replicate, refl, ap, sym, subst, ◌∙◌, inl, inr, arith}
use Rattle.std.specs.List.{All}
use Rattle.std.specs.Option.{IsSome}
use Rattle.std.specs.Prelude.{unsigned_abs}
use Rattle.std.proofs.lemmas.Bool.{cases_lt, le-leb, lt-leb}
use Rattle.std.proofs.lemmas.Int.{ints}
use Rattle.std.proofs.lemmas.List.{length-append, length-replicate, get_or-replicate, get_or_append_left, get_or_at}
use Rattle.net_model.specs.declared.part.Edge.{Edge}
use Rattle.strategy_model.specs.Situations.{moment_in}
use Rattle.strategy_model.specs.Edges.{HoldsIn}
use Rattle.earliest_times.specs.Rounds.{no_edge, edge_at_place, back, required_moment, IsRaisedBy, Became, IsRoundOver}
use Rattle.earliest_times.specs.History.{IsHistory, AreWithin}
use Rattle.earliest_times.proofs.RoundLemmas.{round_later}

-- ---- what an edge requires
pub back_holds : (to from : ℕ) (weight : ℤ) → back to weight ≤ from → (pos to -ℤ pos from) ≤ℤ weight
back_holds to from (pos n) most = omega (arith, ints, most)
back_holds to from (negsuc n) most = omega (arith, ints, most)

pub holds_back : (to from : ℕ) (weight : ℤ) → (pos to -ℤ pos from) ≤ℤ weight → back to weight ≤ from
holds_back to from (pos n) holds = omega (arith, ints, holds)
holds_back to from (negsuc n) holds = omega (arith, ints, holds)

pub back_later : (to later : ℕ) (weight : ℤ) → to ≤ later → back to weight ≤ back later weight
back_later to later (pos n) less = omega (arith, less)
back_later to later (negsuc n) less = omega (arith, less)

pub back_exact : (to before : ℕ) (weight : ℤ) → before < back to weight → (pos (back to weight) +ℤ weight) ≡ pos to
back_exact to before (pos n) less = omega (arith, ints, less)
back_exact to before (negsuc n) less = omega (arith, ints, less)

pub back_size : (to : ℕ) (weight : ℤ) → back to weight ≤ to + unsigned_abs weight
back_size to (pos n) = omega arith
back_size to (negsuc n) = omega (arith, ints)

-- ---- several rounds
pub history_begins : (edges : List Edge) (points : ℕ) → IsHistory edges points [] (replicate points 0)
history_begins edges points =
    record { tables = λ level. replicate points 0; begins = refl; arrives = refl; rounds = λ level below. absurd (omega (arith, below)) }

module _ (edges : List Edge) (points : ℕ) (levels : List (List (Option ℕ))) (now after : List ℕ) (raised : List (Option ℕ)) (history : IsHistory edges points levels now) (round : IsRoundOver edges (length edges) now after raised) where
  more : ℕ → List ℕ
  more level = cond (leb level (length levels)) (history.tables level) after

  more_old : (level : ℕ) → level ≤ length levels → more level ≡ history.tables level
  unfolding more
  more_old level inside = ap (λ (b : Bool). cond b (history.tables level) after) (le-leb level (length levels) inside)

  more_new : (level : ℕ) → length levels < level → more level ≡ after
  unfolding more
  more_new level beyond = ap (λ (b : Bool). cond b (history.tables level) after) (lt-leb level (length levels) beyond)

  levels_old : (level : ℕ) → level < length levels → get_or (levels ++ raised ∷ []) level [] ≡ get_or levels level []
  levels_old level inside = get_or_append_left levels (raised ∷ []) [] level inside

  more_rounds : (level : ℕ) → level < length (levels ++ raised ∷ []) → IsRoundOver edges (length edges) (more level) (more (suc level)) (get_or (levels ++ raised ∷ []) level [])
  more_rounds level below = elim (cases_lt level (length levels)) [
    | inl inside ↦
        subst (IsRoundOver edges (length edges) (more level) (more (suc level))) (sym (levels_old level inside))
        (subst (λ (t : List ℕ). IsRoundOver edges (length edges) t (more (suc level)) (get_or levels level [])) (sym (more_old level (omega (arith, inside))))
        (subst (λ (t : List ℕ). IsRoundOver edges (length edges) (history.tables level) t (get_or levels level [])) (sym (more_old (suc level) (omega (arith, inside)))) (history.rounds level inside)))
    | inr outside ↦
        let size = length-append levels (raised ∷ []) in
        let last : level ≡ length levels = omega (arith, below, size, outside) in
        let mark : get_or (levels ++ raised ∷ []) level [] ≡ raised = get_or_at levels raised [] [] level (sym last) in
        let table : more level ≡ now = more_old level (omega (arith, last)) ∙ ap history.tables last ∙ history.arrives in
        subst (IsRoundOver edges (length edges) (more level) (more (suc level))) (sym mark)
        (subst (λ (t : List ℕ). IsRoundOver edges (length edges) t (more (suc level)) raised) (sym table)
        (subst (λ (t : List ℕ). IsRoundOver edges (length edges) now t raised) (sym (more_new (suc level) (omega (arith, last)))) round))
  ]

  pub history_more : IsHistory edges points (levels ++ raised ∷ []) after
  history_more =
      record {
        tables = more;
        begins = more_old 0 (omega arith) ∙ history.begins;
        arrives = let size = length-append levels (raised ∷ []) in more_new (length (levels ++ raised ∷ [])) (omega (arith, size));
        rounds = more_rounds;
      }

module _ (edges : List Edge) (points : ℕ) (levels : List (List (Option ℕ))) (now : List ℕ) (history : IsHistory edges points levels now) where
  pub table_length : (level : ℕ) → level ≤ length levels → length (history.tables level) ≡ points
  table_length zero inside = ap length history.begins ∙ length-replicate points 0
  table_length (suc level) inside = (history.rounds level (omega (arith, inside))).after_length ∙ table_length level (omega (arith, inside))

  -- no moments that keep the edges have a point sooner
  pub history_least : AreWithin points edges → (other : List ℕ) → All (HoldsIn other) edges → (level : ℕ) → level ≤ length levels → (point : ℕ) → point < points → get_or (history.tables level) point 0 ≤ get_or other point 0
  history_least within other holds zero inside point is_point =
      let start : get_or (history.tables 0) point 0 ≡ 0 = ap (λ (t : List ℕ). get_or t point 0) history.begins ∙ get_or-replicate points point 0 0 is_point in
      omega (arith, start)
  history_least within other holds (suc level) inside point is_point =
      let size = table_length level (omega (arith, inside)) in
      let round = history.rounds level (omega (arith, inside)) in
      by (get_or (get_or levels level []) point None) (round.became point (omega (arith, size, is_point))) (history_least within other holds level (omega (arith, inside)))
    where
      before : List ℕ
      before = history.tables level

      after' : List ℕ
      after' = history.tables (suc level)

      by : (o : Option ℕ) → Became edges before after' point o → ((p : ℕ) → p < points → get_or before p 0 ≤ get_or other p 0) → get_or after' point 0 ≤ get_or other point 0
      by None same earlier = let its = earlier point is_point in omega (arith, same, its)
      by (Some place) raised earlier =
          let edge = edge_at_place edges place in
          let ends = within place no_edge raised.within in
          let its = earlier edge.to.0 ends.1 in
          let kept = holds_back (moment_in other edge.to) (moment_in other edge.from) edge.weight (holds place no_edge raised.within) in
          let later = back_later (moment_in before edge.to) (moment_in other edge.to) edge.weight its in
          let reached = raised.reached in
          let at : get_or other edge.from.0 0 ≡ get_or other point 0 = ap (λ (k : ℕ). get_or other k 0) raised.begins in
          omega (arith, kept, later, reached, at)

  -- moments stay small
  pub history_small : AreWithin points edges → All (λ edge. unsigned_abs edge.weight ≤ 5000000000000) edges → (level : ℕ) → level ≤ length levels → (point : ℕ) → point < points → get_or (history.tables level) point 0 ≤ 5000000000000 * level
  history_small within sizes zero inside point is_point =
      let start : get_or (history.tables 0) point 0 ≡ 0 = ap (λ (t : List ℕ). get_or t point 0) history.begins ∙ get_or-replicate points point 0 0 is_point in
      omega (arith, start)
  history_small within sizes (suc level) inside point is_point =
      let size = table_length level (omega (arith, inside)) in
      let round = history.rounds level (omega (arith, inside)) in
      by (get_or (get_or levels level []) point None) (round.became point (omega (arith, size, is_point))) (history_small within sizes level (omega (arith, inside)))
    where
      before : List ℕ
      before = history.tables level

      after' : List ℕ
      after' = history.tables (suc level)

      by : (o : Option ℕ) → Became edges before after' point o → ((p : ℕ) → p < points → get_or before p 0 ≤ 5000000000000 * level) → get_or after' point 0 ≤ 5000000000000 * suc level
      by None same earlier = let its = earlier point is_point in omega (arith, same, its)
      by (Some place) raised earlier =
          let edge = edge_at_place edges place in
          let ends = within place no_edge raised.within in
          let its = earlier edge.to.0 ends.1 in
          let most = back_size (moment_in before edge.to) edge.weight in
          let small = sizes place no_edge raised.within in
          let reached = raised.reached in
          omega (arith, its, most, small, reached)

  -- moments only rise
  pub history_rises : (low steps : ℕ) → low + steps ≤ length levels → (point : ℕ) → point < points → get_or (history.tables low) point 0 ≤ get_or (history.tables (low + steps)) point 0
  history_rises low zero inside point is_point =
      let same : low + 0 ≡ low = omega arith in
      let at : get_or (history.tables (low + 0)) point 0 ≡ get_or (history.tables low) point 0 = ap (λ (l : ℕ). get_or (history.tables l) point 0) same in
      omega (arith, at)
  history_rises low (suc steps) inside point is_point =
      let earlier = history_rises low steps (omega (arith, inside)) point is_point in
      let size = table_length (low + steps) (omega (arith, inside)) in
      let next = round_later edges (length edges) (history.tables (low + steps)) (history.tables (suc (low + steps))) (get_or levels (low + steps) []) (history.rounds (low + steps) (omega (arith, inside))) point
      (omega (arith, size, is_point)) in
      let same : low + suc steps ≡ suc (low + steps) = omega arith in
      let at : get_or (history.tables (low + suc steps)) point 0 ≡ get_or (history.tables (suc (low + steps))) point 0 = ap (λ (l : ℕ). get_or (history.tables l) point 0) same in
      omega (arith, earlier, next, at)

  -- the edge that raised a point at a level
  pub raised_at : (level : ℕ) → level < length levels → (point place : ℕ) → point < points → get_or (get_or levels level []) point None ≡ Some place → IsRaisedBy edges (history.tables level) (history.tables (suc level)) point place
  raised_at level inside point place is_point is =
      let size = table_length level (omega (arith, inside)) in
      subst (Became edges (history.tables level) (history.tables (suc level)) point) is ((history.rounds level inside).became point (omega (arith, size, is_point)))

  -- it ends in a point that was raised at the level before
  pub raised_before : AreWithin points edges → (level : ℕ) → suc level < length levels → (point place : ℕ) → point < points → get_or (get_or levels (suc level) []) point None ≡ Some place
      → IsSome (get_or (get_or levels level []) (edge_at_place edges place).to.0 None)
  raised_before within level inside point place is_point is = by (get_or (get_or levels level []) (edge_at_place edges place).to.0 None) refl
    where
      edge : Edge
      edge = edge_at_place edges place

      raised : IsRaisedBy edges (history.tables (suc level)) (history.tables (suc (suc level))) point place
      raised = raised_at (suc level) inside point place is_point is

      by : (o : Option ℕ) → get_or (get_or levels level []) edge.to.0 None ≡ o → IsSome o
      by (Some k) found = refl
      by None missing =
          let size = table_length level (omega (arith, inside)) in
          let round = history.rounds level (omega (arith, inside)) in
          let ends = within place no_edge raised.within in
          let same : get_or (history.tables (suc level)) edge.to.0 0 ≡ get_or (history.tables level) edge.to.0 0 =
          subst (Became edges (history.tables level) (history.tables (suc level)) edge.to.0) missing (round.became edge.to.0 (omega (arith, size, ends))) in
          let asks = round.asks place raised.within in
          let same_back : back (get_or (history.tables (suc level)) edge.to.0 0) edge.weight ≡ back (get_or (history.tables level) edge.to.0 0) edge.weight = ap (λ (t : ℕ). back t edge.weight) same in
          let reached = raised.reached in
          let more = raised.more in
          let at : get_or (history.tables (suc level)) edge.from.0 0 ≡ get_or (history.tables (suc level)) point 0 = ap (λ (k : ℕ). get_or (history.tables (suc level)) k 0) raised.begins in
          absurd (omega (arith, asks, same_back, reached, more, at))

  -- the step from its first point to its last takes its weight
  pub raised_value : (level : ℕ) → level < length levels → (point place : ℕ) → point < points → get_or (get_or levels level []) point None ≡ Some place
      → (pos (get_or (history.tables (suc level)) point 0) +ℤ (edge_at_place edges place).weight) ≡ pos (get_or (history.tables level) (edge_at_place edges place).to.0 0)
  raised_value level inside point place is_point is =
      let raised = raised_at level inside point place is_point is in
      let edge = edge_at_place edges place in
      let reached = raised.reached in
      let more = raised.more in
      let exact = back_exact (get_or (history.tables level) edge.to.0 0) (get_or (history.tables level) point 0) edge.weight (omega (arith, reached, more)) in
      let now_is : pos (get_or (history.tables (suc level)) point 0) ≡ pos (required_moment (history.tables level) edge) = ap pos reached in
      omega (arith, ints, exact, now_is)
