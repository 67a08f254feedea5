-- The targets that are stale, and that no row but theirs is needed.
use Rattle.std.proofs.Common.{◌≡◌, ◌≢◌, slice_set, take, ◌&&◌, ◌||◌, ◌==◌, nat_lt, ◌⊎◌, ℕ, zero, suc, ◌+◌, ◌<◌, ◌≤◌, pos, Bool, true, false, List, [], ◌∷◌, ◌++◌, length, map, get_or, refl, ap, sym, subst, ◌∙◌, inl, inr, arith}
use Rattle.std.specs.Prelude.{filter, int_lt}
use Rattle.std.specs.List.{All, AllPairs, Contains, flat_map, list_any, range_with_len, slice_index_or}
use Rattle.std.proofs.Math.Bool.{or-true}
use Rattle.std.proofs.Math.ListN.{get_or-eq_default}
use Rattle.std.proofs.lemmas.Bool.{eq-eqb, eqb-true, false≢true, and_parts}
use Rattle.std.proofs.lemmas.Bool.Decides.{nat_tests}
use Rattle.std.proofs.lemmas.List.Elements.{All-get_or, All-contains, All-filter, filter-append}
use Rattle.std.proofs.lemmas.List.Folds.{flat_map-map, list_any-append}
use Rattle.std.proofs.lemmas.List.{get_or-set_same, get_or-set_other, length-set, take_more}
use Rattle.std.proofs.lemmas.List.FromFn.{map-range_with_len_more}
use Rattle.std.proofs.lemmas.List.Kept.{AllPairs-filter, AllPairs-cons}
use Rattle.net_model.specs.Network.{Plan, IsPlan, IsPoint}
use Rattle.net_model.specs.declared.ids.PointId.{PointId}
use Rattle.net_model.specs.declared.part.Edge.{Edge}
use Rattle.closure_model.specs.Keys.{Shape, all_points}
use Rattle.closure_model.specs.Orders.{contains_point}
use Rattle.closure_model.specs.ReferenceRow.{reference_row}
use Rattle.closure_model.specs.ReferenceRound.{round_made}
use Rattle.closure_model.specs.RoundLaws.{IsStale}
use Rattle.closure_model.specs.Tables.{Graph, IsFor, IsGraph, row_of, edges_of}
use Rattle.closure_model.specs.declared.rows.Made.{Made}
use Rattle.closure_model.proofs.Consequences.{all_points_stand}
use Rattle.closure_model.proofs.DeltaLemmas.{law_unstale_rows_make_nothing}
use Rattle.closure_model.proofs.Lists.{Contains-head, Contains-tail, Contains-cases, Contains-none, Contains-map_from, Contains-filter_from, Contains-filter, Contains-filter_passes, any_is, any_from}
use Rattle.closure_model.proofs.TableLemmas.{listed_edge, edge_listed}
use Rattle.closure_model.proofs.Weights.{lt_is, lt_true}
use Rattle.closure_model.proofs.OrderLemmas.{among_from, from_among}
use Rattle.closure_model.proofs.BaseLemmas.{all_contained}
use Rattle.back_propagation.specs.declared.full_rows.NewRow.{NewRow}
use Rattle.loop_finder.specs.Marks.{AreMarks}
use Rattle.parallel_rounds.specs.StoreUpdate.{made_in}
use Rattle.parallel_rounds.specs.Rows.{new_row}
use Rattle.parallel_rounds.specs.Targets.{AreRisingPoints, AreStale, AreRowsOfRound, reaches, is_reached}
use Rattle.parallel_rounds.specs.LastRounds.{IsLastRound}
use Rattle.parallel_rounds.specs.declared.last_round.LastRound.{LastRound}
use Rattle.parallel_rounds.proofs.RisingPoints.{rising_tail, rising_above, all_rise, all_inside}

-- ---- lists
pub any_mapped : {X Y : Type 0} (p : Y → Bool) (f : X → Y) (xs : List X) → list_any p (map f xs) ≡ list_any (λ x. p (f x)) xs
any_mapped p f [] = refl
any_mapped p f (x ∷ xs) = ap (λ (b : Bool). p (f x) || b) (any_mapped p f xs)

-- what holds of pairs in a list holds of what is made from them
pub map_pairs : {X Y : Type 0} (f : X → Y) (R : X → X → Type 0) (S : Y → Y → Type 0) → ((x y : X) → R x y → S (f x) (f y)) → (xs : List X) → AllPairs R xs → AllPairs S (map f xs)
map_pairs f R S then [] pairs = λ i j d less inside. absurd (omega arith)
map_pairs f R S then (x ∷ xs) pairs =
    AllPairs-cons S (f x) (map f xs) (all_contained (S (f x)) (map f xs) (λ y there. above y (Contains-map_from f xs y there))) (map_pairs f R S then xs (λ i j d less inside. pairs (suc i) (suc j) d (omega arith) (omega arith)))
  where
    above : (y : _) → (z : _) × Contains xs z × (f z ≡ y) → S (f x) y
    above y (z, there, is) = subst (S (f x)) is (then x z (All-contains (R x) xs z (λ k d inside. pairs 0 (suc k) d (omega arith) (omega arith)) there))

-- one point more is marked
pub marks_more : (listed : List PointId) (i points : ℕ) (marks : List Bool) → i < length listed → All (λ (point : PointId). point.0 < points) listed → length marks ≡ points → AreMarks (take i listed) marks
    → let number : ℕ = (get_or listed i (record { 0 = 0 })).0 in (length (slice_set marks number true) ≡ points) × AreMarks (take (i + 1) listed) (slice_set marks number true)
marks_more listed i points marks inside known long are = (
  length-set marks number true ∙ long,
  λ k within. by k (contains_point (take i listed) (record { 0 = k })) (number == k) refl refl (omega (arith, within, length-set marks number true))
      ∙ sym (ap (λ (these : List PointId). contains_point these (record { 0 = k })) (take_more listed i none inside) ∙ list_any-append (λ (other : PointId). other.0 == k) (take i listed) (get_or listed i none ∷ [])),
)
  where
    none : PointId
    none = record { 0 = 0 }

    number : ℕ
    number = (get_or listed i none).0

    there : number < length marks
    there = omega (arith, long, All-get_or (λ (point : PointId). point.0 < points) listed i none inside known)

    other : (k : ℕ) → (number == k) ≡ false → k ≢ number
    other k not same = false≢true (sym not ∙ eq-eqb number k (sym same))

    by : (k : ℕ) (a same : Bool) → contains_point (take i listed) (record { 0 = k }) ≡ a → (number == k) ≡ same → k < length marks → slice_index_or (slice_set marks number true) k false ≡ (a || (same || false))
    by k a true among is within = ap (λ n. slice_index_or (slice_set marks number true) n false) (sym (eqb-true number k is)) ∙ (get_or-set_same marks number true false there ∙ sym (or-true a))
    by k true false among is within = get_or-set_other marks number k true false (other k is) ∙ (are k within ∙ among)
    by k false false among is within = get_or-set_other marks number k true false (other k is) ∙ (are k within ∙ among)

-- ---- the loop over the points
pub reached_more : (table : Graph) (marks : List Bool) (point : ℕ) (items new : List PointId) → items ≡ filter (is_reached table marks) (map (λ k. record { 0 = k }) (range_with_len 0 point))
    → new ≡ items ++ filter (is_reached table marks) (record { 0 = point } ∷ []) → new ≡ filter (is_reached table marks) (map (λ k. record { 0 = k }) (range_with_len 0 (point + 1)))
reached_more table marks point items new was is =
    let one : PointId = record { 0 = point } in
    let points : List PointId = map (λ k. record { 0 = k }) (range_with_len 0 point) in
    let more : map (λ k. record { 0 = k }) (range_with_len 0 (point + 1)) ≡ points ++ one ∷ [] = map-range_with_len_more (λ (k : ℕ). record { 0 = k }) 0 point point (omega arith) in
    is ∙ (ap (λ (l : List PointId). l ++ filter (is_reached table marks) (one ∷ [])) was ∙ sym (ap (filter (is_reached table marks)) more ∙ filter-append (is_reached table marks) points (one ∷ [])))

-- ---- the points that are reached are stale
module _ (table : Graph) (changed : List PointId) (marks : List Bool) (are : AreMarks changed marks) where
  marked : (point : PointId) → slice_index_or marks point.0 false ≡ true → Contains changed point
  marked point test = by (nat_lt point.0 (length marks)) refl
    where
      by : (b : Bool) → nat_lt point.0 (length marks) ≡ b → Contains changed point
      by true is = let within : point.0 < length marks = grind (arith, nat_tests) in from_among changed point (sym (are point.0 within) ∙ test)
      by false is =
          let out : length marks ≤ point.0 = grind (arith, nat_tests) in
          let none : slice_index_or marks point.0 false ≡ false = get_or-eq_default marks false out in
          absurd cc

  stale_from : (point : PointId) → is_reached table marks point ≡ true → IsStale table changed point
  stale_from point test =
      let (edge, inside, passes) = any_is (reaches marks) (row_of table point) test in
      let (negative, from) = and_parts (int_lt edge.weight (pos 0)) (slice_index_or marks edge.from.0 false) passes in
      let listed = Contains-filter_from (λ (e : Edge). e.to.0 == point.0) (edges_of table) edge inside in
      let ends = Contains-filter_passes (λ (e : Edge). e.to.0 == point.0) (edges_of table) edge inside in
      (edge, listed_edge table edge listed, same_point edge.to point ends, lt_is edge.weight (pos 0) negative, marked edge.from from)
    where
      same_point : (one other : PointId) → (one.0 == other.0) ≡ true → one ≡ other
      same_point one other test = let number : one.0 ≡ other.0 = grind (arith, nat_tests) in ap (λ (k : ℕ). let p : PointId = record { 0 = k } in p) number

  stale_reached : (point : PointId) → All (λ (p : PointId). p.0 < length marks) changed → IsStale table changed point → is_reached table marks point ≡ true
  stale_reached point inside (edge, has, ends, negative, from) =
      let within : edge.from.0 < length marks = All-contains (λ (p : PointId). p.0 < length marks) changed edge.from inside from in
      let mark : slice_index_or marks edge.from.0 false ≡ true = are edge.from.0 within ∙ among_from changed edge.from from in
      let test : (edge.to.0 == point.0) ≡ true = same_number edge.to.0 point.0 (ap (λ (p : PointId). p.0) ends) in
      let there = Contains-filter (λ (e : Edge). e.to.0 == point.0) (edges_of table) edge (edge_listed table edge has) test in
      any_from (reaches marks) (row_of table point) edge there (both_of (int_lt edge.weight (pos 0)) (slice_index_or marks edge.from.0 false) (lt_true edge.weight (pos 0) negative) mark)
    where
      same_number : (a b : ℕ) → a ≡ b → (a == b) ≡ true
      same_number a b is = grind (arith, nat_tests)

      both_of : (a b : Bool) → a ≡ true → b ≡ true → (a && b) ≡ true
      both_of a b one other = rw (one, other) refl

pub stale_are : (net : Plan) (table : Graph) (changed : List PointId) (marks : List Bool) (points : ℕ) (targets : List PointId) → IsFor net table → points ≡ length net.points → length marks ≡ points → All (IsPoint net) changed
    → AreMarks changed marks
    → targets ≡ filter (is_reached table marks) (map (λ k. record { 0 = k }) (range_with_len 0 points)) → AreStale table changed targets
stale_are net table changed marks points targets fits long count known are is = subst (AreStale table changed) (sym listed) (record {
  rise = AllPairs-filter (λ (one other : PointId). one.0 < other.0) (is_reached table marks) (all_points table.shape) (all_rise table.shape);
  points = All-filter (is_reached table marks) (λ (p : PointId). p.0 < table.shape.points) (all_points table.shape) (all_inside table.shape);
  stale = all_contained (IsStale table changed) (filter (is_reached table marks) (all_points table.shape))
      (λ point inside. stale_from table changed marks are point (Contains-filter_passes (is_reached table marks) (all_points table.shape) point inside));
  whole = λ point inside stale.
      Contains-filter (is_reached table marks) (all_points table.shape) point (all_points_stand table.shape point inside) (stale_reached table changed marks are point within stale);
})
  where
    same : points ≡ table.shape.points
    same = long ∙ sym (ap (λ (s : Shape). s.points) fits)

    listed : targets ≡ filter (is_reached table marks) (all_points table.shape)
    listed = is ∙ ap (λ (n : ℕ). filter (is_reached table marks) (map (λ (k : ℕ). let p : PointId = record { 0 = k } in p) (range_with_len 0 n))) same

    within : All (λ (p : PointId). p.0 < length marks) changed
    within = λ k d inside. let point = known k d inside in omega (arith, point, long, count)

-- ---- what is made in a round is made in the rows of some targets, if nothing is made in the others
abbrev IsMadeFrom : (PointId → List Made) → (low count : ℕ) → List PointId → Type 0
IsMadeFrom f low count targets =
    ((p : PointId) → Contains targets p → low ≤ p.0) → ((p : PointId) → Contains targets p → p.0 < low + count) → ((p : PointId) → low ≤ p.0 → p.0 < low + count → ¬ Contains targets p → f p ≡ [])
    → flat_map f targets ≡ flat_map f (map (λ (k : ℕ). record { 0 = k }) (range_with_len low count))

made_from : (f : PointId → List Made) (low count : ℕ) (targets : List PointId) → AreRisingPoints targets → IsMadeFrom f low count targets
made_from f low zero [] rise from below others = refl
made_from f low zero (target ∷ targets) rise from below others = let one = from target (Contains-head target targets) in let two = below target (Contains-head target targets) in absurd (omega arith)
made_from f low (suc count) [] rise from below others =
    let here : f (record { 0 = low }) ≡ [] = others (record { 0 = low }) (omega arith) (omega arith) (λ inside. Contains-none (record { 0 = low }) inside) in
    let rest = made_from f (low + 1) count [] (λ i j d less inside. absurd (omega arith)) (λ p inside. absurd (Contains-none p inside)) (λ p inside. absurd (Contains-none p inside))
    (λ p up down none. others p (omega arith) (omega arith) none) in
    λ i. sym here i ++ rest i
made_from f low (suc count) (target ∷ targets) rise from below others =
    by (λ (up : (p : PointId) → Contains targets p → low + 1 ≤ p.0). made_from f (low + 1) count targets (rising_tail target targets rise) up)
    (λ (up : (p : PointId) → Contains (target ∷ targets) p → low + 1 ≤ p.0). made_from f (low + 1) count (target ∷ targets) rise up) (low == target.0) refl
  where
    above : (p : PointId) → Contains targets p → target.0 < p.0
    above p there = rising_above target targets rise p there

    by : IsMadeFrom f (low + 1) count targets → IsMadeFrom f (low + 1) count (target ∷ targets) → (b : Bool) → (low == target.0) ≡ b
        → f target ++ flat_map f targets ≡ f (record { 0 = low }) ++ flat_map f (map (λ (k : ℕ). record { 0 = k }) (range_with_len (low + 1) count))
    by same later true is =
        let number : low ≡ target.0 = grind (arith, nat_tests) in
        let point : record { 0 = low } ≡ target = ap (λ (k : ℕ). let p : PointId = record { 0 = k } in p) number in
        let rest = same (λ p there. let more = above p there in omega arith) (λ p there. let less = below p (Contains-tail target targets p there) in omega arith)
        (λ p up down none. others p (omega arith) (omega arith) (λ inside. not_here p up number none (Contains-cases target targets p inside))) in
        λ i. f (sym point i) ++ rest i
      where
        not_here : (p : PointId) → low + 1 ≤ p.0 → low ≡ target.0 → ¬ Contains targets p → (target ≡ p) ⊎ Contains targets p → ⊥
        not_here p up number none (inl same) = let same_number : target.0 ≡ p.0 = ap (λ (q : PointId). q.0) same in absurd (omega arith)
        not_here p up number none (inr there) = none there
    by same later false is =
        let least : low ≤ target.0 = from target (Contains-head target targets) in
        let less : low < target.0 = apart low target.0 least is in
        let here : f (record { 0 = low }) ≡ [] = others (record { 0 = low }) (omega arith) (omega arith) (λ inside. not_low less (Contains-cases target targets (record { 0 = low }) inside)) in
        let rest = later (λ p inside. up less p (Contains-cases target targets p inside)) (λ p inside. let down = below p inside in omega arith)
        (λ p up down none. others p (omega arith) (omega arith) none) in
        rest ∙ (λ i. sym here i ++ flat_map f (map (λ (k : ℕ). record { 0 = k }) (range_with_len (low + 1) count)))
      where
        apart : (a b : ℕ) → a ≤ b → (a == b) ≡ false → a < b
        apart a b less is = grind (arith, nat_tests)

        up : low < target.0 → (p : PointId) → (target ≡ p) ⊎ Contains targets p → low + 1 ≤ p.0
        up less p (inl same) = let number : target.0 ≡ p.0 = ap (λ (q : PointId). q.0) same in omega arith
        up less p (inr there) = let more = above p there in omega arith

        not_low : low < target.0 → (target ≡ record { 0 = low }) ⊎ Contains targets (record { 0 = low }) → ⊥
        not_low less (inl same) = let number : target.0 ≡ low = ap (λ (q : PointId). q.0) same in absurd (omega arith)
        not_low less (inr there) = let more = above (record { 0 = low }) there in absurd (omega arith)

pub rows_make_round : (net : Plan) (table : Graph) (rows : List NewRow) → AreRowsOfRound net table rows → made_in rows ≡ round_made net table
rows_make_round net table rows are =
    ap made_in are.rows_are
    ∙ (flat_map-map (λ (row : NewRow). row.made) (new_row net table) are.targets
    ∙ made_from (reference_row net table) 0 table.shape.points are.targets are.rise (λ p inside. omega arith) (λ p inside. let below = All-contains (λ (q : PointId). q.0 < table.shape.points) are.targets p are.points inside in omega arith)
    (λ p up down none. are.others p (omega arith) none))

-- the rows of all points are those of a round
pub all_rows_are : (net : Plan) (table : Graph) (rows : List NewRow) → rows ≡ map (new_row net table) (all_points table.shape) → AreRowsOfRound net table rows
all_rows_are net table rows is = record {
  targets = all_points table.shape;
  rise = all_rise table.shape;
  points = all_inside table.shape;
  rows_are = is;
  others = λ point inside none. absurd (none (all_points_stand table.shape point inside));
}

-- so are those of the stale ones, after what improved in the last round
pub stale_rows_are : (net : Plan) (table : Graph) (last : LastRound) (targets : List PointId) (rows : List NewRow) → IsPlan net → IsFor net table → IsGraph table → IsLastRound net table last → AreStale table last.changed.items targets
    → rows ≡ map (new_row net table) targets → AreRowsOfRound net table rows
stale_rows_are net table last targets rows plan fits sound informed stale is = record {
  targets = targets;
  rise = stale.rise;
  points = stale.points;
  rows_are = is;
  others = λ point inside none.
      law_unstale_rows_make_nothing net table point last.delta.items plan fits sound (informed.informed.met point)
      (λ edge has ends negative. informed.others edge.from (λ changed. none (stale.whole point inside (edge, has, ends, negative, changed))));
}
