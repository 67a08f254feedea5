-- What is known after a round.
use Rattle.std.proofs.Common.{◌≡◌, ◌==◌, ℕ, ◌<◌, Bool, true, false, not, List, [], ◌∷◌, length, nat_lt, refl, ap, sym, subst, ◌∙◌, arith, get_or, take, fold, ◌+◌, ◌++◌, ◌≤◌, map}
use Rattle.std.specs.Prelude.{filter, slice_get, Some}
use Rattle.std.specs.List.{All, AllPairs, Contains}
use Rattle.std.proofs.lemmas.Bool.Decides.{nat_tests}
use Rattle.std.proofs.lemmas.Option.{slice_get-get_or}
use Rattle.std.proofs.lemmas.List.{take_all, take_more, map-append, append-nil}
use Rattle.std.proofs.lemmas.List.Concat.{flat_map-append}
use Rattle.std.proofs.lemmas.List.Sums.{fold-append}
use Rattle.std.proofs.lemmas.List.Elements.{All-contains}
use Rattle.std.proofs.lemmas.List.Kept.{AllPairs-filter}
use Rattle.std.proofs.lemmas.List.Sorted.{length_permutation}
use Rattle.net_model.specs.Network.{Plan, IsPlan, IsPoint}
use Rattle.net_model.specs.declared.ids.PointId.{PointId}
use Rattle.net_model.specs.declared.part.Edge.{Edge}
use Rattle.closure_model.specs.Derivations.{Support, StandsOn}
use Rattle.closure_model.specs.DeltaEdges.{delta_at, IsSaturatedBut, AreOfTable}
use Rattle.closure_model.specs.Keys.{Shape}
use Rattle.closure_model.specs.Orders.{contains_point, IsOrder}
use Rattle.closure_model.specs.ReferenceRow.{reference_row, with_made}
use Rattle.closure_model.specs.ReferenceRound.{round_made, after_round}
use Rattle.closure_model.specs.Tables.{Graph, IsFor, IsGraph, lowered}
use Rattle.closure_model.specs.declared.rows.Made.{Made}
use Rattle.closure_model.proofs.DeltaLemmas.{law_rows_are_saturated_after_a_round}
use Rattle.closure_model.proofs.Lists.{Contains-map, Contains-map_from, Contains-filter_from, Contains-filter}
use Rattle.closure_model.proofs.OrderLemmas.{among_from, from_among}
use Rattle.closure_model.proofs.RoundClosure.{standing_fits, standing_sound}
use Rattle.closure_model.proofs.RoundsLaw.{round_stands_after}
use Rattle.closure_model.proofs.BaseLemmas.{all_contained}
use Rattle.back_propagation.specs.declared.full_rows.NewRow.{NewRow}
use Rattle.loop_finder.specs.KeptOrders.{GoesAlong}
use Rattle.parallel_rounds.specs.StoreUpdate.{made_in}
use Rattle.parallel_rounds.specs.Rows.{new_row}
use Rattle.parallel_rounds.specs.Targets.{AreRisingPoints, AreRowsOfRound}
use Rattle.parallel_rounds.specs.LastRounds.{IsLastRound, AreDeltaIn, AreListed, ordinary_made, changed_in, was_low}
use Rattle.parallel_rounds.specs.declared.last_round.LastRound.{LastRound}
use Rattle.parallel_rounds.proofs.DeltaSteps.{delta_after}
use Rattle.parallel_rounds.proofs.StaleSteps.{map_pairs, rows_make_round}

module _ (net : Plan) (table : Graph) (rows : List NewRow) (are : AreRowsOfRound net table rows) where
  pub rows_rise : AllPairs (λ (one other : NewRow). one.target.0 < other.target.0) rows
  rows_rise = subst (AllPairs (λ (one other : NewRow). one.target.0 < other.target.0)) (sym are.rows_are)
      (map_pairs (new_row net table) (λ (one other : PointId). one.0 < other.0) (λ (one other : NewRow). one.target.0 < other.target.0) (λ one other less. less) are.targets are.rise)

  pub row_of_target : (row : NewRow) → Contains rows row → (point : PointId) × Contains are.targets point × (new_row net table point ≡ row)
  row_of_target row inside = Contains-map_from (new_row net table) are.targets row (subst (λ (l : List NewRow). Contains l row) are.rows_are inside)

  target_inside : (row : NewRow) → Contains rows row → row.target.0 < table.shape.points
  target_inside row inside =
      let (point, there, is) = row_of_target row inside in
      subst (λ (r : NewRow). r.target.0 < table.shape.points) is (All-contains (λ (p : PointId). p.0 < table.shape.points) are.targets point are.points there)

  pub rows_inside : All (λ (row : NewRow). row.target.0 < table.shape.points) rows
  rows_inside = all_contained (λ (row : NewRow). row.target.0 < table.shape.points) rows target_inside

  changed_rise : AreRisingPoints (changed_in rows)
  changed_rise =
      map_pairs (λ (row : NewRow). row.target) (λ (one other : NewRow). one.target.0 < other.target.0) (λ (one other : PointId). one.0 < other.0) (λ one other less. less) (filter (λ (row : NewRow). not (length row.made == 0)) rows)
      (AllPairs-filter (λ (one other : NewRow). one.target.0 < other.target.0) (λ (row : NewRow). not (length row.made == 0)) rows rows_rise)

  changed_inside : All (λ (point : PointId). point.0 < table.shape.points) (changed_in rows)
  changed_inside = all_contained (λ (point : PointId). point.0 < table.shape.points) (changed_in rows)
      (λ point there. by point (Contains-map_from (λ (row : NewRow). row.target) (filter (λ (row : NewRow). not (length row.made == 0)) rows) point there))
    where
      by : (point : PointId) → (row : NewRow) × Contains (filter (λ (row : NewRow). not (length row.made == 0)) rows) row × (row.target ≡ point) → point.0 < table.shape.points
      by point (row, there, is) = subst (λ (p : PointId). p.0 < table.shape.points) is (target_inside row (Contains-filter_from (λ (r : NewRow). not (length r.made == 0)) rows row there))

  unchanged_is : (delta : List (List Edge)) → AreListed table rows delta → (point : PointId) → ¬ Contains (changed_in rows) point → delta_at delta point ≡ []
  unchanged_is delta listed point unchanged = by (contains_point are.targets point) refl
    where
      row : NewRow
      row = new_row net table point

      no_list : (list : List Edge) → length list ≡ 0 → list ≡ []
      no_list [] none = refl
      no_list (edge ∷ list) none = absurd (omega arith)

      nothing : (made : List Made) → (not (length made == 0) ≡ true → ⊥) → made ≡ []
      nothing [] none = refl
      nothing (one ∷ made) none = absurd (none (grind (arith, nat_tests)))

      there : Contains are.targets point → Contains rows (new_row net table point)
      there inside = subst (λ (l : List NewRow). Contains l (new_row net table point)) (sym are.rows_are) (Contains-map (new_row net table) are.targets point inside)

      improved : Contains are.targets point → not (length (reference_row net table point) == 0) ≡ true → ⊥
      improved inside some = unchanged (Contains-map (λ (r : NewRow). r.target) (filter (λ (r : NewRow). not (length r.made == 0)) rows) (new_row net table point)
          (Contains-filter (λ (r : NewRow). not (length r.made == 0)) rows (new_row net table point) (there inside) some))

      by : (b : Bool) → contains_point are.targets point ≡ b → delta_at delta point ≡ []
      by true is =
          let inside = from_among are.targets point is in
          let none : reference_row net table point ≡ [] = nothing (reference_row net table point) (improved inside) in
          let here : AreDeltaIn table (reference_row net table point) (delta_at delta point) = listed.here (new_row net table point) (there inside) in
          let long = length_permutation (ordinary_made (reference_row net table point)) here.all here.in_order.same in
          here.kept ∙ ap (filter (λ (edge : Edge). not (was_low table edge))) (no_list here.all (long ∙ ap (λ (made : List Made). length (ordinary_made made)) none))
      by false is = listed.others point (λ r inside same. other r inside same (row_of_target r inside))
        where
          other : (r : NewRow) → Contains rows r → r.target ≡ point → (p : PointId) × Contains are.targets p × (new_row net table p ≡ r) → ⊥
          other r inside same (p, at, made) = let clash = among_from are.targets point (subst (Contains are.targets) (ap (λ (x : NewRow). x.target) made ∙ same) at) in absurd cc

pub last_round_is : (net : Plan) (support after : Support) (rows : List NewRow) (last : LastRound) → IsPlan net → StandsOn net support → after ≡ after_round net support → AreRowsOfRound net support.table rows
    → last.changed.items ≡ changed_in rows
    → length last.delta.items ≡ length net.points → AreListed support.table rows last.delta.items → IsLastRound net after.table last
last_round_is net support after rows last plan stands is are changed count listed = record {
  informed = record {
    count = count;
    of_table = subst (λ (t : Graph). AreOfTable t last.delta.items) (sym table_is) met.0;
    met = λ to. subst (λ (t : Graph). IsSaturatedBut net t to last.delta.items) (sym table_is) (met.1 to);
  };
  rise = subst AreRisingPoints (sym changed) (changed_rise net support.table rows are);
  points = subst (All (IsPoint net)) (sym changed) (subst (λ (n : ℕ). All (λ (p : PointId). p.0 < n) (changed_in rows)) points (changed_inside net support.table rows are));
  others = λ point none. unchanged_is net support.table rows are last.delta.items listed point (λ there. none (subst (λ (l : List PointId). Contains l point) (sym changed) there));
}
  where
    fits : IsFor net support.table
    fits = standing_fits net plan support stands

    sound : IsGraph support.table
    sound = standing_sound net plan support stands

    points : support.table.shape.points ≡ length net.points
    points = ap (λ (s : Shape). s.points) fits

    table_is : after.table ≡ with_made support.table (round_made net support.table)
    table_is = ap (λ (s : Support). s.table) is ∙ (round_stands_after net support plan stands).table_is

    sound_now : IsGraph (with_made support.table (round_made net support.table))
    sound_now = subst IsGraph (round_stands_after net support plan stands).table_is (standing_sound net plan (after_round net support) (round_stands_after net support plan stands).stands)

    met : AreOfTable (with_made support.table (round_made net support.table)) last.delta.items × ((to : PointId) → IsSaturatedBut net (with_made support.table (round_made net support.table)) to last.delta.items)
    met = law_rows_are_saturated_after_a_round net support.table last.delta.items plan fits sound (delta_after net support.table plan fits sound sound_now rows last.delta.items are listed)

pub rows_fit : (net : Plan) (support : Support) (rows : List NewRow) (points : ℕ) → IsPlan net → StandsOn net support → AreRowsOfRound net support.table rows → points ≡ length net.points → All (λ (row : NewRow). row.target.0 < points) rows
rows_fit net support rows points plan stands are is =
    let same : support.table.shape.points ≡ points = ap (λ (s : Shape). s.points) (standing_fits net plan support stands) ∙ sym is in
    subst (λ (n : ℕ). All (λ (row : NewRow). row.target.0 < n) rows) same (rows_inside net support.table rows are)

-- an order that stays one after any table is lowered by some edges
abbrev pub StaysAfter : List PointId → List Made → Type 0
StaysAfter order made = (table : Graph) → IsOrder table order → IsOrder (with_made table made) order

-- the edges before a place go along an order, and that at the place does
pub along_more : (order : List PointId) (made : List Made) (place : ℕ) (edge : Edge) → place < length made → ((one : Made) → slice_get made place ≡ Some one → edge ≡ one.edge) → GoesAlong order edge
    → ((k : ℕ) (d : Made) → k < place → GoesAlong order (get_or made k d).edge) → (k : ℕ) (d : Made) → k < place + 1 → GoesAlong order (get_or made k d).edge
along_more order made place edge inside of_one along before k d below = by (nat_lt k place) refl
  where
    by : (b : Bool) → nat_lt k place ≡ b → GoesAlong order (get_or made k d).edge
    by true is = before k d (grind (arith, nat_tests))
    by false is =
        let here : k ≡ place = grind (arith, nat_tests) in
        subst (λ (n : ℕ). GoesAlong order (get_or made n d).edge) (sym here) (subst (GoesAlong order) (of_one (get_or made place d) (slice_get-get_or made place d inside)) along)

-- an order that stays one row by row stays one
pub stays_more : (order : List PointId) (rows : List NewRow) (i : ℕ) (row : NewRow) → i < length rows → row ≡ get_or rows i row → StaysAfter order (made_in (take i rows))
    → StaysAfter order row.made → StaysAfter order (made_in (take (i + 1) rows))
stays_more order rows i row inside read before here table is =
    let more : take (i + 1) rows ≡ take i rows ++ row ∷ [] = take_more rows i row inside ∙ ap (λ (r : NewRow). take i rows ++ r ∷ []) (sym read) in
    let both : made_in (take (i + 1) rows) ≡ made_in (take i rows) ++ row.made =
    ap made_in more ∙ (flat_map-append (λ (r : NewRow). r.made) (take i rows) (row ∷ []) ∙ ap (λ (list : List Made). made_in (take i rows) ++ list) (append-nil row.made)) in
    let lists : with_made table (made_in (take (i + 1) rows)) ≡ with_made (with_made table (made_in (take i rows))) row.made =
    ap (with_made table) both ∙ (ap (fold lowered table) (map-append (λ (m : Made). m.edge) (made_in (take i rows)) row.made)
    ∙ fold-append lowered table (map (λ (m : Made). m.edge) (made_in (take i rows))) (map (λ (m : Made). m.edge) row.made)) in
    subst (λ (t : Graph). IsOrder t order) (sym lists) (here (with_made table (made_in (take i rows))) (before table is))

-- if the rows are those of a round, it stays one of the table after the round
pub order_stays : (net : Plan) (support after : Support) (rows : List NewRow) (order : List PointId) → IsPlan net → StandsOn net support → after ≡ after_round net support → AreRowsOfRound net support.table rows
    → StaysAfter order (made_in rows) → IsOrder support.table order → IsOrder after.table order
order_stays net support after rows order plan stands is are stays ordered =
    let made : made_in rows ≡ round_made net support.table = rows_make_round net support.table rows are in
    let table_is : after.table ≡ with_made support.table (round_made net support.table) = ap (λ (s : Support). s.table) is ∙ (round_stands_after net support plan stands).table_is in
    subst (λ (t : Graph). IsOrder t order) (sym (table_is ∙ ap (with_made support.table) (sym made))) (stays support.table ordered)

pub stays_all : (order : List PointId) (rows : List NewRow) (i : ℕ) → length rows ≤ i → StaysAfter order (made_in (take i rows)) → StaysAfter order (made_in rows)
stays_all order rows i long is table ordered = subst (λ (r : List NewRow). IsOrder (with_made table (made_in r)) order) (take_all i rows long) (is table ordered)
