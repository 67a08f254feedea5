-- The loop over the rounds.
use Rattle.std.proofs.Common.{◌≡◌, ℕ, ◌+◌, ◌<◌, ◌≤◌, ◌^◌, false, List, [], ◌∷◌, ◌++◌, Option, Some, None, length, get_or, replicate, is_some, refl, ap, sym, subst, ◌∙◌, inl, inr, arith}
use Rattle.std.specs.List.{All, position}
use Rattle.std.specs.Option.{IsSome}
use Rattle.std.specs.Prelude.{unsigned_abs}
use Rattle.std.proofs.lemmas.Bool.{cases_lt, true≢false}
use Rattle.std.proofs.lemmas.List.{length-append, get_or_append_left, get_or_at, get_or_default}
use Rattle.std.proofs.lemmas.List.Quantifiers.{position-Some}
use Rattle.net_model.proofs.Positions.{fails_from_None}
use Rattle.net_model.specs.declared.part.Edge.{Edge}
use Rattle.strategy_model.specs.Situations.{moment_in}
use Rattle.strategy_model.specs.Edges.{HoldsIn}
use Rattle.earliest_times.specs.Rounds.{no_edge, edge_at_place, Became, IsRoundOver}
use Rattle.earliest_times.specs.History.{IsHistory, AreWithin}
use Rattle.earliest_times.specs.Least.{AreLeast}
use Rattle.earliest_times.proofs.HistoryLemmas.{back_holds, history_begins, history_more, history_least, history_small, table_length}

-- so many rounds were made, each of which raised a point
pub record IsUnderWay (edges : List Edge) (points count : ℕ) (levels : List (List (Option ℕ))) (now : List ℕ) : Type 0 where
  pub history : IsHistory edges points levels now
  pub counted : length levels ≡ count
  pub rose : (level : ℕ) → level < length levels → IsSome (position (λ (by : Option ℕ). is_some by) (get_or levels level []))

pub levels_begin : (edges : List Edge) (points : ℕ) → IsUnderWay edges points 0 [] (replicate points 0)
levels_begin edges points =
    record { history = history_begins edges points; counted = refl; rose = λ level below. absurd (omega (arith, below)) }

pub levels_go_on : (edges : List Edge) (points count : ℕ) (levels : List (List (Option ℕ))) (now after : List ℕ) (raised : List (Option ℕ)) → IsUnderWay edges points count levels now → IsRoundOver edges (length edges) now after raised
    → IsSome (position (λ (by : Option ℕ). is_some by) raised) → IsUnderWay edges points (count + 1) (levels ++ raised ∷ []) after
levels_go_on edges points count levels now after raised progress round some =
    record { history = history_more edges points levels now after raised progress.history round; counted = let counted = progress.counted in omega (arith, counted, size); rose = rose }
  where
    size : length (levels ++ raised ∷ []) ≡ length levels + 1
    size = length-append levels (raised ∷ [])

    rose : (level : ℕ) → level < length (levels ++ raised ∷ []) → IsSome (position (λ (by : Option ℕ). is_some by) (get_or (levels ++ raised ∷ []) level []))
    rose level below = elim (cases_lt level (length levels)) [
      | inl inside ↦ subst (λ (r : List (Option ℕ)). IsSome (position (λ (by : Option ℕ). is_some by) r)) (sym (get_or_append_left levels (raised ∷ []) [] level inside)) (progress.rose level inside)
      | inr past ↦ subst (λ (r : List (Option ℕ)). IsSome (position (λ (by : Option ℕ). is_some by) r)) (sym (get_or_at levels raised [] [] level (omega (arith, below, size, past)))) some
    ]

module _ (edges : List Edge) (points count : ℕ) (levels : List (List (Option ℕ))) (now : List ℕ) (progress : IsUnderWay edges points count levels now) where
  pub moments_length : length now ≡ points
  moments_length = ap length (sym progress.history.arrives) ∙ table_length edges points levels now progress.history (length levels) (omega arith)

  -- the moments are small enough for one round more
  pub moments_small : AreWithin points edges → All (λ edge. unsigned_abs edge.weight ≤ 5000000000000) edges → count ≤ 2001 → All (λ moment. moment < 2 ^ 62) now
  moments_small within sizes few i d inside =
      let size = moments_length in
      let counted = progress.counted in
      let small = history_small edges points levels now progress.history within sizes (length levels) (omega arith) i (omega (arith, size, inside)) in
      let at : get_or (progress.history.tables (length levels)) i 0 ≡ get_or now i d = ap (λ (t : List ℕ). get_or t i 0) progress.history.arrives ∙ get_or_default now i 0 d inside in
      omega (arith, small, at, counted, few)

  -- if nothing was raised the moments are the least
  pub moments_are_least : (after : List ℕ) (raised : List (Option ℕ)) → AreWithin points edges → IsRoundOver edges (length edges) now after raised → position (λ (by : Option ℕ). is_some by) raised ≡ None → AreLeast points edges now
  moments_are_least after raised within round none =
      record {
        complete = moments_length;
        keep = keep;
        least = λ other holds point inside.
            let at : get_or (progress.history.tables (length levels)) point.0 0 ≡ get_or now point.0 0 = ap (λ (t : List ℕ). get_or t point.0 0) progress.history.arrives in
            let least = history_least edges points levels now progress.history within other holds (length levels) (omega arith) point.0 inside in
            omega (arith, at, least);
      }
    where
      stayed : (point : ℕ) → point < points → get_or after point 0 ≡ get_or now point 0
      stayed point inside =
          let size = moments_length in
          let wide = round.raised_length in
          let fails = fails_from_None (λ (by : Option ℕ). is_some by) raised none point None (omega (arith, size, wide, inside)) in
          by (get_or raised point None) fails (round.became point (omega (arith, size, inside)))
        where
          by : (o : Option ℕ) → is_some o ≡ false → Became edges now after point o → get_or after point 0 ≡ get_or now point 0
          by None fails same = same
          by (Some place) fails raised = absurd (true≢false fails)

      keep : All (HoldsIn now) edges
      keep place d inside =
          let ends = within place no_edge inside in
          let edge = edge_at_place edges place in
          let asks = round.asks place inside in
          let same = stayed edge.from.0 ends.0 in
          let holds : HoldsIn now edge = back_holds (moment_in now edge.to) (moment_in now edge.from) edge.weight (omega (arith, asks, same)) in
          subst (HoldsIn now) (get_or_default edges place no_edge d inside) holds

  pub raised_length_at : (level : ℕ) → level < length levels → length (get_or levels level []) ≡ points
  raised_length_at level inside =
      (progress.history.rounds level inside).raised_length ∙ table_length edges points levels now progress.history level (omega (arith, inside))

  -- a point that was raised at a level
  pub raised_start : (level start : ℕ) → level < length levels → position (λ (by : Option ℕ). is_some by) (get_or levels level []) ≡ Some start → (start < points) × IsSome (get_or (get_or levels level []) start None)
  raised_start level start inside found =
      let (within, passes, before) = position-Some (λ (by : Option ℕ). is_some by) (get_or levels level []) start None found in
      let row = raised_length_at level inside in
      (omega (arith, within, row), passes)

pub none_is : {A : Type 0} (o : Option A) → is_some o ≡ false → o ≡ None
none_is None none = refl
none_is (Some x) none = absurd (true≢false none)
