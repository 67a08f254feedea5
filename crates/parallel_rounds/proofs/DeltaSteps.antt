-- The edges that improved in a round, listed, are the delta edges after it.
use Rattle.std.proofs.Common.{◌≡◌, ◌≢◌, ◌==◌, ◌⊎◌, ℕ, suc, ◌+◌, ◌<◌, ◌≤◌, ℤ, pos, ◌≤ℤ◌, ◌<ℤ◌, Bool, true, false, not, ◌&&◌, cond, nat_lt, List, [], ◌∷◌, ◌++◌, length, map, take, get_or, Option, Some, None, refl, ap, sym, subst, ◌∙◌, inl}
use Rattle.std.proofs.Common.{inr, arith, is_none}
use Rattle.std.specs.Prelude.{filter, int_lt, slice_get, slice_set}
use Rattle.std.specs.Int.{int_max}
use Rattle.std.specs.Option.{option_map, option_map_or}
use Rattle.std.specs.List.{All, AllPairs, Contains, IsDistinct, cons_option, filter_map}
use Rattle.std.specs.List.Sorted.{IsNonDecreasingBy}
use Rattle.std.proofs.Math.ListN.{get_or-eq_default}
use Rattle.std.proofs.lemmas.Bool.Decides.{nat_tests}
use Rattle.std.proofs.lemmas.List.{take_more, map-append, get_or-take, get_or-set_same, get_or-set_other, get_or_default, length-set, length-take-le}
use Rattle.std.proofs.lemmas.List.Elements.{All-contains, All-from_recursion, recursion_from_All, filter-append, Contains-append_cases, Contains-append_left, Contains-append_right}
use Rattle.std.proofs.lemmas.List.Kept.{AllPairs-filter, AllPairs-cons}
use Rattle.std.proofs.lemmas.List.Sorted.{Contains-permutation, IsPermutation-sym}
use Rattle.std.proofs.lemmas.Map.Keys.{IsDistinct-IsPermutation, IsDistinct-cons}
use Rattle.std.proofs.lemmas.Int.{ints, int_max_is}
use Rattle.std.proofs.lemmas.Option.{same_Some, slice_get_cases}
use Rattle.net_model.specs.Network.{Plan, IsPlan}
use Rattle.net_model.specs.declared.ids.LinkId.{LinkId}
use Rattle.net_model.specs.declared.ids.PointId.{PointId}
use Rattle.net_model.specs.declared.part.Edge.{Edge}
use Rattle.closure_model.specs.DeltaEdges.{delta_at, has_improved, AreDeltaAfter, WasThere}
use Rattle.closure_model.specs.Keys.{Key, key_of, edge_of, ordinary_key, all_points}
use Rattle.closure_model.specs.Orders.{contains_point}
use Rattle.closure_model.specs.ReferenceRow.{ordinary_into, reference_row, with_made, IsBelow, IsRowOf}
use Rattle.closure_model.specs.ReferenceRound.{is_same_key, round_made}
use Rattle.closure_model.specs.Tables.{Graph, weight_of, HasEdge, HasAtMost, IsFor, IsGraph}
use Rattle.closure_model.specs.declared.rows.Made.{Made}
use Rattle.closure_model.proofs.Consequences.{all_points_stand, ordinary_from, ordinary_stands}
use Rattle.closure_model.proofs.DeltaLemmas.{law_unimproved_were_there}
use Rattle.closure_model.proofs.ListedEdges.{nothing_elsewhere}
use Rattle.closure_model.proofs.Lists.{Contains-head, Contains-tail, Contains-cases, Contains-none, Contains-map, Contains-map_from, Contains-flat_map, Contains-flat_map_from, Contains-filter_from, Contains-filter, Contains-filter_passes}
use Rattle.closure_model.proofs.Lists.{any_is, any_from, Contains-filter_map_from}
use Rattle.closure_model.proofs.OrderLemmas.{among_from, from_among}
use Rattle.closure_model.proofs.RoundLaw.{is_same_key_of, same_key_is}
use Rattle.closure_model.proofs.RowLaw.{row_result}
use Rattle.closure_model.proofs.TableLemmas.{all_lowered-has, all_lowered-cases, at_most_gives}
use Rattle.closure_model.proofs.Weights.{not_below, le_then_lt}
use Rattle.back_propagation.specs.declared.full_rows.NewRow.{NewRow}
use Rattle.back_propagation.proofs.MadeSteps.{taken_more}
use Rattle.parallel_rounds.specs.Rows.{new_row}
use Rattle.parallel_rounds.specs.Targets.{AreRisingPoints, AreRowsOfRound}
use Rattle.parallel_rounds.specs.LastRounds.{ordinary_made, is_low, was_low, was_low_by, AreDeltaIn, AreImprovedInOrder, AreListed, IsTableFor, changed_in}
use Rattle.parallel_rounds.proofs.RisingPoints.{rising_tail, rising_above, all_rise, all_inside}

-- ---- loops
pub changed_more : (rows : List NewRow) (i : ℕ) (row : NewRow) (items new : List PointId) → i < length rows → row ≡ get_or rows i row → items ≡ changed_in (take i rows) → new ≡ items ++ changed_in (row ∷ [])
    → new ≡ changed_in (take (i + 1) rows)
changed_more rows i row items new inside read was is =
    let keep : NewRow → Bool = λ r. not (length r.made == 0) in
    let target : NewRow → PointId = λ r. r.target in
    let more : take (i + 1) rows ≡ take i rows ++ row ∷ [] = take_more rows i row inside ∙ ap (λ (r : NewRow). take i rows ++ r ∷ []) (sym read) in
    let both : changed_in (take i rows ++ row ∷ []) ≡ changed_in (take i rows) ++ changed_in (row ∷ []) = ap (map target) (filter-append keep (take i rows) (row ∷ []))
    ∙ map-append target (filter keep (take i rows)) (filter keep (row ∷ [])) in
    is ∙ (ap (λ (l : List PointId). l ++ changed_in (row ∷ [])) was ∙ sym (ap changed_in more ∙ both))

pub ordinary_more : (made : List Made) (i : ℕ) (edge : Edge) (items new : List Edge) → i < length made → ((one : Made) → slice_get made i ≡ Some one → edge ≡ one.edge) → items ≡ ordinary_made (take i made)
    → new ≡ items ++ filter (λ e. is_none e.label) (edge ∷ []) → new ≡ ordinary_made (take (i + 1) made)
ordinary_more made i edge items new inside of_one was is = by (slice_get_cases made i).1
  where
    keep : Edge → Bool
    keep e = is_none e.label

    edge_of_one : Made → Edge
    edge_of_one m = m.edge

    by : ((x : Made) × (i < length made) × (slice_get made i ≡ Some x) × (get_or made i x ≡ x)) ⊎ ((length made ≤ i) × (slice_get made i ≡ None)) → new ≡ ordinary_made (take (i + 1) made)
    by (inl (one, within, here, read)) =
        let both : ordinary_made (take i made ++ one ∷ []) ≡ ordinary_made (take i made) ++ ordinary_made (one ∷ []) = ap (filter keep) (map-append edge_of_one (take i made) (one ∷ []))
        ∙ filter-append keep (map edge_of_one (take i made)) (one.edge ∷ []) in
        is ∙ ((λ k. was k ++ filter keep (of_one one here k ∷ [])) ∙ sym (ap ordinary_made (taken_more made i one here) ∙ both))
    by (inr (past, none)) = absurd (omega (arith, past, inside))

-- an edge that is a delta edge by what a table had
abbrev pub still_delta : Graph → Edge → Bool
still_delta before edge = not (was_low before edge)

pub kept_more : (before : Graph) (edges : List Edge) (i : ℕ) (d : Edge) (items new : List Edge) → i < length edges → items ≡ filter (still_delta before) (take i edges) → new ≡ items ++ filter (still_delta before) (get_or edges i d ∷ [])
    → new ≡ filter (still_delta before) (take (i + 1) edges)
kept_more before edges i d items new inside was is =
    is ∙ (ap (λ (l : List Edge). l ++ filter (still_delta before) (get_or edges i d ∷ [])) was ∙ sym (ap (filter (still_delta before)) (take_more edges i d inside)
    ∙ filter-append (still_delta before) (take i edges) (get_or edges i d ∷ [])))

-- a key that there is not has no weight
pub out_of_range : (table : Graph) (points : ℕ) (from to : PointId) → IsTableFor points table → (from.0 < points → to.0 < points → ⊥) → is_low table (ordinary_key from to) ≡ false
out_of_range table points from to for out =
    ap (λ (o : Option ℤ). option_map_or (λ weight. int_lt weight (pos 1)) o false)
    (nothing_elsewhere table for.sound (ordinary_key from to) (λ is. out (subst (λ (n : ℕ). from.0 < n) (sym for.count) is.from_point) (subst (λ (n : ℕ). to.0 < n) (sym for.count) is.to_point)))

pub listed_none : (before : Graph) (rows : List NewRow) (delta : List (List Edge)) → All (λ (edges : List Edge). edges ≡ []) delta → AreListed before [] delta
listed_none before rows delta none = record {
  here = λ row inside. absurd (Contains-none row inside);
  others = λ point apart. by point (nat_lt point.0 (length delta)) refl;
}
  where
    by : (point : PointId) (b : Bool) → nat_lt point.0 (length delta) ≡ b → delta_at delta point ≡ []
    by point true is = let within : point.0 < length delta = grind (arith, nat_tests) in none point.0 [] within
    by point false is = let out : length delta ≤ point.0 = grind (arith, nat_tests) in get_or-eq_default delta [] out

-- the targets of rows are points, and rise; the lists of the edges made, one for each point
abbrev pub TargetsBelow : ℕ → List NewRow → Type 0
TargetsBelow points rows = All (λ (r : NewRow). r.target.0 < points) rows

abbrev pub TargetsRise : List NewRow → Type 0
TargetsRise rows = AllPairs (λ (one other : NewRow). one.target.0 < other.target.0) rows

abbrev pub HasListsOf : Graph → ℕ → List NewRow → List (List Edge) → Type 0
HasListsOf before points rows delta = (length delta ≡ points) × AreListed before rows delta

pub listed_more : (before : Graph) (rows : List NewRow) (i : ℕ) (row : NewRow) (points : ℕ) (delta : List (List Edge)) (list : List Edge) → i < length rows → row ≡ get_or rows i row → TargetsBelow points rows
    → TargetsRise rows → length delta ≡ points → AreListed before (take i rows) delta → AreDeltaIn before row.made list → HasListsOf before points (take (i + 1) rows) (slice_set delta row.target.0 list)
listed_more before rows i row points delta list inside read known rise long was is = (
  length-set delta row.target.0 list ∙ long,
  record {
    here = λ r there. here r (Contains-append_cases (take i rows) (row ∷ []) r (subst (λ (l : List NewRow). Contains l r) more there));
    others = λ point apart.
        get_or-set_other delta row.target.0 point.0 list [] (λ same. apart row last (point_is row.target point (sym same)))
        ∙ was.others point (λ r there. apart r (subst (λ (l : List NewRow). Contains l r) (sym more) (Contains-append_left (take i rows) (row ∷ []) r there)));
  },
)
  where
    more : take (i + 1) rows ≡ take i rows ++ row ∷ []
    more = take_more rows i row inside ∙ ap (λ (r : NewRow). take i rows ++ r ∷ []) (sym read)

    last : Contains (take (i + 1) rows) row
    last = subst (λ (l : List NewRow). Contains l row) (sym more) (Contains-append_right (take i rows) (row ∷ []) row (Contains-head row []))

    point_is : (one other : PointId) → one.0 ≡ other.0 → one ≡ other
    point_is one other number = ap (λ (k : ℕ). let p : PointId = record { 0 = k } in p) number

    within : row.target.0 < length delta
    within = let at : (get_or rows i row).target.0 < points = known i row inside in let here : row.target.0 < points = subst (λ (r : NewRow). r.target.0 < points) (sym read) at in omega arith

    -- the rows before this one have lower targets
    lower : (r : NewRow) → Contains (take i rows) r → r.target.0 < row.target.0
    lower r (k, at, same) =
        let short : length (take i rows) ≡ i = length-take-le i rows (omega arith) in
        let first : k < i = omega arith in
        let there : get_or rows k r ≡ r = sym (get_or-take i rows k r first) ∙ same in
        let up : (get_or rows k r).target.0 < (get_or rows i r).target.0 = rise k i r first inside in
        let here : get_or rows i r ≡ row = get_or_default rows i r row inside ∙ sym read in
        subst (λ (x : NewRow). r.target.0 < x.target.0) here (subst (λ (x : NewRow). x.target.0 < (get_or rows i r).target.0) there up)

    here : (r : NewRow) → Contains (take i rows) r ⊎ Contains (row ∷ []) r → AreDeltaIn before r.made (delta_at (slice_set delta row.target.0 list) r.target)
    here r (inl there) =
        let less = lower r there in
        subst (AreDeltaIn before r.made) (sym (get_or-set_other delta row.target.0 r.target.0 list [] (λ same. absurd (omega arith)))) (was.here r there)
    here r (inr only) = by (Contains-cases row [] r only)
      where
        by : (row ≡ r) ⊎ Contains [] r → AreDeltaIn before r.made (delta_at (slice_set delta row.target.0 list) r.target)
        by (inl same) = subst (λ (x : NewRow). AreDeltaIn before x.made (delta_at (slice_set delta row.target.0 list) x.target)) same (subst (AreDeltaIn before row.made) (sym (get_or-set_same delta row.target.0 list [] within)) is)
        by (inr nothing) = absurd (Contains-none r nothing)

-- ---- two lists that rise and have the same edges
abbrev Rises : List Edge → Type 0
Rises edges = AllPairs (λ (one other : Edge). one.from.0 < other.from.0) edges

rises_tail : (edge : Edge) (edges : List Edge) → Rises (edge ∷ edges) → Rises edges
rises_tail edge edges rise = λ i j d less inside. rise (suc i) (suc j) d (omega arith) (omega arith)

rises_above : (edge : Edge) (edges : List Edge) → Rises (edge ∷ edges) → (other : Edge) → Contains edges other → edge.from.0 < other.from.0
rises_above edge edges rise other there = All-contains (λ (e : Edge). edge.from.0 < e.from.0) edges other (λ k d inside. rise 0 (suc k) d (omega arith) (omega arith)) there

same_edges : (one other : List Edge) → Rises one → Rises other → ((e : Edge) → Contains one e → Contains other e) → ((e : Edge) → Contains other e → Contains one e) → one ≡ other
same_edges [] [] up rise there back = refl
same_edges [] (y ∷ ys) up rise there back = absurd (Contains-none y (back y (Contains-head y ys)))
same_edges (x ∷ xs) [] up rise there back = absurd (Contains-none x (there x (Contains-head x xs)))
same_edges (x ∷ xs) (y ∷ ys) up rise there back =
    let first : x ≡ y = heads (Contains-cases y ys x (there x (Contains-head x xs))) (Contains-cases x xs y (back y (Contains-head y ys))) in
    let rest = same_edges xs ys (rises_tail x xs up) (rises_tail y ys rise)
    (λ e inside. carried_over e first inside (Contains-cases y ys e (there e (Contains-tail x xs e inside))))
    (λ e inside. backward e first inside (Contains-cases x xs e (back e (Contains-tail y ys e inside)))) in
    λ i. first i ∷ rest i
  where
    heads : (y ≡ x) ⊎ Contains ys x → (x ≡ y) ⊎ Contains xs y → x ≡ y
    heads (inl same) _ = sym same
    heads (inr later) (inl same) = same
    heads (inr later) (inr after) = let one = rises_above y ys rise x later in let two = rises_above x xs up y after in absurd (omega arith)

    carried_over : (e : Edge) → x ≡ y → Contains xs e → (y ≡ e) ⊎ Contains ys e → Contains ys e
    carried_over e first inside (inl same) = let above = rises_above x xs up e inside in let number : x.from.0 ≡ e.from.0 = ap (λ (z : Edge). z.from.0) (first ∙ same) in absurd (omega arith)
    carried_over e first inside (inr later) = later

    backward : (e : Edge) → x ≡ y → Contains ys e → (x ≡ e) ⊎ Contains xs e → Contains xs e
    backward e first inside (inl same) = let above = rises_above y ys rise e inside in let number : y.from.0 ≡ e.from.0 = ap (λ (z : Edge). z.from.0) (sym first ∙ same) in absurd (omega arith)
    backward e first inside (inr later) = later

-- ---- edges that begin in different points
abbrev from_same : Edge → Edge → Bool
from_same one other = one.from.0 == other.from.0

flips : (one other : Edge) → from_same one other ≡ from_same other one
flips one other = numbers one.from.0 other.from.0
  where
    numbers : (a b : ℕ) → (a == b) ≡ (b == a)
    numbers a b = grind (arith, nat_tests)

-- edges that do not descend, of different points, rise
strictly : (edges : List Edge) → IsNonDecreasingBy (λ (e : Edge). e.from.0) edges → IsDistinct from_same edges → Rises edges
unfolding IsDistinct
strictly [] up distinct = λ i j d less inside. absurd (omega arith)
strictly (edge ∷ edges) up (apart, rest) =
    AllPairs-cons (λ (one other : Edge). one.from.0 < other.from.0) edge edges (λ k d inside. above k d inside) (strictly edges (λ i j d less inside. up (suc i) (suc j) d (omega arith) (omega arith)) rest)
  where
    above : (k : ℕ) (d : Edge) → k < length edges → edge.from.0 < (get_or edges k d).from.0
    above k d inside =
        let most : edge.from.0 ≤ (get_or edges k d).from.0 = up 0 (suc k) d (omega arith) (omega arith) in
        let test : from_same edge (get_or edges k d) ≡ false = All-from_recursion (λ (e : Edge). from_same edge e ≡ false) edges apart k d inside in
        differ edge.from.0 (get_or edges k d).from.0 most test
      where
        differ : (a b : ℕ) → a ≤ b → (a == b) ≡ false → a < b
        differ a b less is = grind (arith, nat_tests)

none_label : (o : Option LinkId) → is_none o ≡ true → o ≡ None
none_label None is = refl
none_label (Some label) is = absurd cc

ordinary_is : (made : List Made) (edge : Edge) → Contains (ordinary_made made) edge → (one : Made) × Contains made one × (one.edge ≡ edge) × (edge.label ≡ None)
ordinary_is made edge inside =
    let (one, there, is) = Contains-map_from (λ (m : Made). m.edge) made edge (Contains-filter_from (λ (e : Edge). is_none e.label) (map (λ (m : Made). m.edge) made) edge inside) in
    (one, there, is, none_label edge.label (Contains-filter_passes (λ (e : Edge). is_none e.label) (map (λ (m : Made). m.edge) made) edge inside))

-- the ordinary edges among those that improved in a row begin in different points
distinct_made : (to : PointId) (made : List Made) → ((one : Made) → Contains made one → one.edge.to ≡ to) → AllPairs (λ (one other : Made). key_of one.edge ≢ key_of other.edge) made → IsDistinct from_same (ordinary_made made)
unfolding IsDistinct
distinct_made to [] ends once = tt
distinct_made to (one ∷ made) ends once = by (is_none one.edge.label) refl (distinct_made to made (λ other there. ends other (Contains-tail one made other there)) (λ i j d less inside. once (suc i) (suc j) d (omega arith) (omega arith)))
  where
    apart : is_none one.edge.label ≡ true → (edge : Edge) → Contains (ordinary_made made) edge → from_same one.edge edge ≡ false
    apart ordinary edge inside = test (from_same one.edge edge) refl
      where
        test : (b : Bool) → from_same one.edge edge ≡ b → from_same one.edge edge ≡ false
        test false is = is
        test true is =
            let (other, there, same, none) = ordinary_is made edge inside in
            let number : one.edge.from.0 ≡ edge.from.0 = equal one.edge.from.0 edge.from.0 is in
            let from : one.edge.from ≡ edge.from = ap (λ (k : ℕ). let p : PointId = record { 0 = k } in p) number in
            let end : one.edge.to ≡ edge.to = ends one (Contains-head one made) ∙ (sym (ends other (Contains-tail one made other there)) ∙ ap (λ (e : Edge). e.to) same) in
            let label : one.edge.label ≡ edge.label = none_label one.edge.label ordinary ∙ sym none in
            let key : key_of one.edge ≡ key_of edge = λ i. record { to = end i; from = from i; label = label i } in
            absurd (All-contains (λ (m : Made). key_of one.edge ≢ key_of m.edge) made other (λ k d at. once 0 (suc k) d (omega arith) (omega arith)) there (key ∙ ap key_of (sym same)))
          where
            equal : (a b : ℕ) → (a == b) ≡ true → a ≡ b
            equal a b is = grind (arith, nat_tests)

    by : (b : Bool) → is_none one.edge.label ≡ b → IsDistinct from_same (ordinary_made made) → IsDistinct from_same (cond b (one.edge ∷ ordinary_made made) (ordinary_made made))
    by false is rest = rest
    by true is rest =
        IsDistinct-cons from_same one.edge (ordinary_made made)
        (recursion_from_All (λ (e : Edge). from_same one.edge e ≡ false) (ordinary_made made) (λ k d inside. apart is (get_or (ordinary_made made) k d)
        (k, inside, get_or_default (ordinary_made made) k (get_or (ordinary_made made) k d) d inside))) rest

-- the edges into a point that begin in some points
abbrev begin_in : Graph → PointId → List PointId → List Edge
begin_in table point points = filter_map (λ from. option_map (edge_of (ordinary_key from point)) (weight_of table (ordinary_key from point))) points

-- they rise with these points
into_rises : (table : Graph) (point : PointId) (points : List PointId) → AreRisingPoints points → Rises (begin_in table point points)
into_rises table point [] rise = λ i j d less inside. absurd (omega arith)
into_rises table point (from ∷ points) rise = by (weight_of table (ordinary_key from point)) (into_rises table point points (rising_tail from points rise))
  where
    above : (k : ℕ) (d : Edge) → k < length (begin_in table point points) → from.0 < (get_or (begin_in table point points) k d).from.0
    above k d inside =
        let (p, there, is) = Contains-filter_map_from (λ p. option_map (edge_of (ordinary_key p point)) (weight_of table (ordinary_key p point))) points (get_or (begin_in table point points) k d)
        (k, inside, get_or_default (begin_in table point points) k (get_or (begin_in table point points) k d) d inside) in
        let more = rising_above from points rise p there in
        let begins : (get_or (begin_in table point points) k d).from ≡ p = begin p (get_or (begin_in table point points) k d) (weight_of table (ordinary_key p point)) is in
        subst (λ (q : PointId). from.0 < q.0) (sym begins) more
      where
        begin : (p : PointId) (e : Edge) (o : Option ℤ) → option_map (edge_of (ordinary_key p point)) o ≡ Some e → e.from ≡ p
        begin p e None is = absurd cc
        begin p e (Some w) is = ap (λ (x : Edge). x.from) (sym (same_Some (edge_of (ordinary_key p point) w) e is))

    by : (o : Option ℤ) → Rises (begin_in table point points) → Rises (cons_option (option_map (edge_of (ordinary_key from point)) o) (begin_in table point points))
    by None up = up
    by (Some w) up = AllPairs-cons (λ (one other : Edge). one.from.0 < other.from.0) (edge_of (ordinary_key from point) w) (begin_in table point points) (λ k d inside. above k d inside) up

-- what passes two tests, one after the other
filter_both : (first second : Edge → Bool) (edges : List Edge) → filter second (filter first edges) ≡ filter (λ edge. first edge && second edge) edges
filter_both first second [] = refl
filter_both first second (edge ∷ edges) = outside (first edge) ∙ by (first edge) (second edge) (filter_both first second edges)
  where
    outside : (one : Bool) → filter second (cond one (edge ∷ filter first edges) (filter first edges)) ≡ cond one (cond (second edge) (edge ∷ filter second (filter first edges)) (filter second (filter first edges)))
        (filter second (filter first edges))
    outside true = refl
    outside false = refl

    by : (one other : Bool) → filter second (filter first edges) ≡ filter (λ e. first e && second e) edges
        → cond one (cond other (edge ∷ filter second (filter first edges)) (filter second (filter first edges))) (filter second (filter first edges)) ≡ cond (one && other) (edge ∷ filter (λ e. first e && second e) edges)
        (filter (λ e. first e && second e) edges)
    by true true rest = ap (λ (l : List Edge). edge ∷ l) rest
    by true false rest = rest
    by false other rest = rest

-- an ordinary edge whose key had a weight of 0 or less was there
low_was_there : (before : Graph) (first : Edge) → was_low before first ≡ true → WasThere before first
low_was_there before first low = of_label first.label refl low
  where
    of_label : (label : Option LinkId) → first.label ≡ label → was_low_by before first label ≡ true → WasThere before first
    of_label (Some label) is low = absurd cc
    of_label None ordinary low = by (weight_of before (ordinary_key first.from first.to)) refl low
      where
        key : ordinary_key first.from first.to ≡ key_of first
        key = λ i. record { to = first.to; from = first.from; label = sym ordinary i }

        by : (o : Option ℤ) → weight_of before (ordinary_key first.from first.to) ≡ o → option_map_or (λ weight. int_lt weight (pos 1)) o false ≡ true → WasThere before first
        by None is low = absurd cc
        by (Some w) is low = record { weight = w; has = sym (ap (weight_of before) key) ∙ is; same = no_more w first.weight low }
          where
            no_more : (w v : ℤ) → int_lt w (pos 1) ≡ true → int_max w (pos 0) ≤ℤ int_max v (pos 0)
            no_more w v low = grind (arith, ints, int_max_is)

-- ---- after a round
module _ (net : Plan) (before : Graph) (plan : IsPlan net) (fits : IsFor net before) (sound : IsGraph before) (sound_now : IsGraph (with_made before (round_made net before))) where
  abbrev now : Graph
  now = with_made before (round_made net before)

  abbrev improved : Edge → Bool
  improved = has_improved (round_made net before)

  result : (to : PointId) → IsRowOf net before to (reference_row net before to)
  result to = row_result net before to plan fits sound

  -- what improved in a round improved in the row of the point in which it ends
  in_its_row : (one : Made) → Contains (round_made net before) one → (one.edge.to.0 < before.shape.points) × Contains (reference_row net before one.edge.to) one
  in_its_row one inside =
      let (to, at, made) = Contains-flat_map_from (reference_row net before) (all_points before.shape) one inside in
      let ends : one.edge.to ≡ to = All-contains (λ (m : Made). m.edge.to ≡ to) (reference_row net before to) one (result to).ends made in
      let point : to.0 < before.shape.points = All-contains (λ (p : PointId). p.0 < before.shape.points) (all_points before.shape) to (all_inside before.shape) at in
      (subst (λ (p : PointId). p.0 < before.shape.points) (sym ends) point, subst (λ (p : PointId). Contains (reference_row net before p) one) (sym ends) made)

  improved_at : (edge : Edge) → improved edge ≡ true → (one : Made) × Contains (round_made net before) one × (key_of edge ≡ key_of one.edge)
  improved_at edge test = let (one, inside, passes) = any_is (λ (m : Made). is_same_key m.edge edge) (round_made net before) test in (one, inside, same_key_is one.edge edge passes)

  -- one key improves once in a row
  only_one : (to : PointId) (one other : Made) → Contains (reference_row net before to) one → Contains (reference_row net before to) other → key_of one.edge ≡ key_of other.edge → one ≡ other
  only_one to one other (i, here, is) (j, there, at) same = by (nat_lt i j) refl (nat_lt j i) refl
    where
      row : List Made
      row = reference_row net before to

      apart : (a b : ℕ) (x y : Made) → a < b → b < length (reference_row net before to) → get_or (reference_row net before to) a x ≡ x → get_or (reference_row net before to) b y ≡ y → key_of x.edge ≢ key_of y.edge
      apart a b x y less inside read found equal =
          let differ = (result to).once a b x less inside in
          let second : get_or (reference_row net before to) b x ≡ y = get_or_default (reference_row net before to) b x y inside ∙ found in
          differ (ap (λ (m : Made). key_of m.edge) read ∙ (equal ∙ ap (λ (m : Made). key_of m.edge) (sym second)))

      by : (less : Bool) → nat_lt i j ≡ less → (more : Bool) → nat_lt j i ≡ more → one ≡ other
      by true less more other_is = let h : i < j = grind (arith, nat_tests) in absurd (apart i j one other h there is at same)
      by false less true other_is = let h : j < i = grind (arith, nat_tests) in absurd (apart j i other one h here at is (sym same))
      by false less false other_is =
          let places : i ≡ j = grind (arith, nat_tests) in
          sym is ∙ (ap (λ (k : ℕ). get_or (reference_row net before to) k one) places ∙ (get_or_default (reference_row net before to) j one other there ∙ at))

  -- after the round the table has what improved
  improved_has : (one : Made) → Contains (round_made net before) one → HasEdge now one.edge
  improved_has one inside =
      let met : HasAtMost now one.edge = all_lowered-has before (map (λ (m : Made). m.edge) (round_made net before)) one.edge (Contains-map (λ (m : Made). m.edge) (round_made net before) one inside) in
      let (weight, held, less) = at_most_gives now one.edge met in
      by weight held less (all_lowered-cases before (map (λ (m : Made). m.edge) (round_made net before)) (edge_of (key_of one.edge) weight) held)
    where
      by : (weight : ℤ) → weight_of now (key_of one.edge) ≡ Some weight → weight ≤ℤ one.edge.weight → Contains (map (λ (m : Made). m.edge) (round_made net before)) (edge_of (key_of one.edge) weight)
          ⊎ HasEdge before (edge_of (key_of one.edge) weight) → HasEdge now one.edge
      by weight held less (inr old) =
          let descends : one.edge.weight <ℤ weight = All-contains (λ (m : Made). IsBelow before m.edge) (reference_row net before one.edge.to) one (result one.edge.to).descends (in_its_row one inside).1 weight old in
          absurd (not_below weight weight refl (le_then_lt weight one.edge.weight weight less descends))
      by weight held less (inl improvements) =
          let (other, there, is) = Contains-map_from (λ (m : Made). m.edge) (round_made net before) (edge_of (key_of one.edge) weight) improvements in
          let ends : other.edge.to ≡ one.edge.to = ap (λ (e : Edge). e.to) is in
          let row : Contains (reference_row net before one.edge.to) other = subst (λ (p : PointId). Contains (reference_row net before p) other) ends (in_its_row other there).1 in
          let same : one ≡ other = only_one one.edge.to one other (in_its_row one inside).1 row (sym (ap key_of is)) in
          let weights : weight ≡ one.edge.weight = sym (ap (λ (e : Edge). e.weight) is) ∙ ap (λ (m : Made). m.edge.weight) (sym same) in
          held ∙ ap Some weights

  module _ (point : PointId) (list : List Edge) (are : AreImprovedInOrder (reference_row net before point) list) (inside : point.0 < before.shape.points) where
    in_round : (one : Made) → Contains (reference_row net before point) one → Contains (round_made net before) one
    in_round one made = Contains-flat_map (reference_row net before) (all_points before.shape) point one (all_points_stand before.shape point inside) made

    carried_over : (edge : Edge) → Contains list edge → Contains (filter improved (ordinary_into now point)) edge
    carried_over edge there =
        let (one, made, is, none) = ordinary_is (reference_row net before point) edge (Contains-permutation list (ordinary_made (reference_row net before point)) edge
        (IsPermutation-sym (ordinary_made (reference_row net before point)) list are.same) there) in
        let has : HasEdge now edge = subst (HasEdge now) is (improved_has one (in_round one made)) in
        let ends : edge.to ≡ point = sym (ap (λ (e : Edge). e.to) is) ∙ All-contains (λ (m : Made). m.edge.to ≡ point) (reference_row net before point) one (result point).ends made in
        let test : improved edge ≡ true = any_from (λ (m : Made). is_same_key m.edge edge) (round_made net before) one (in_round one made) (is_same_key_of one.edge edge (ap key_of (sym is))) in
        Contains-filter improved (ordinary_into now point) edge (ordinary_stands now point sound_now edge has none ends) test

    backward : (edge : Edge) → Contains (filter improved (ordinary_into now point)) edge → Contains list edge
    backward edge there =
        let (has, none, ends) = ordinary_from now point edge (Contains-filter_from improved (ordinary_into now point) edge there) in
        let (one, made, key) = improved_at edge (Contains-filter_passes improved (ordinary_into now point) edge there) in
        let same : edge ≡ one.edge = same_edge edge one.edge key has (improved_has one made) in
        let to : one.edge.to ≡ point = sym (ap (λ (e : Edge). e.to) same) ∙ ends in
        let row : Contains (reference_row net before point) one = subst (λ (p : PointId). Contains (reference_row net before p) one) to (in_its_row one made).1 in
        let label : is_none one.edge.label ≡ true = ap is_none (sym (ap (λ (e : Edge). e.label) same) ∙ none) in
        let among : Contains (ordinary_made (reference_row net before point)) one.edge = Contains-filter (λ (e : Edge). is_none e.label) (map (λ (m : Made). m.edge) (reference_row net before point)) one.edge
        (Contains-map (λ (m : Made). m.edge) (reference_row net before point) one row) label in
        subst (Contains list) (sym same) (Contains-permutation (ordinary_made (reference_row net before point)) list one.edge are.same among)
      where
        same_edge : (e f : Edge) → key_of e ≡ key_of f → HasEdge now e → HasEdge now f → e ≡ f
        same_edge e f key one other =
            let weights : e.weight ≡ f.weight = same_Some e.weight f.weight (sym one ∙ (ap (weight_of now) key ∙ other)) in
            λ i. edge_of (key i) (weights i)

    listed_is : list ≡ filter improved (ordinary_into now point)
    listed_is =
        same_edges list (filter improved (ordinary_into now point))
        (strictly list are.rise (IsDistinct-IsPermutation from_same flips (ordinary_made (reference_row net before point)) list are.same
        (distinct_made point (reference_row net before point) (λ one made. All-contains (λ (m : Made). m.edge.to ≡ point) (reference_row net before point) one (result point).ends made) (result point).once)))
        (AllPairs-filter (λ (one other : Edge). one.from.0 < other.from.0) improved (ordinary_into now point) (into_rises now point (all_points now.shape) (all_rise now.shape))) carried_over backward

  -- if nothing improved, there is no delta edge
  unimproved_is : (point : PointId) → (point.0 < before.shape.points → reference_row net before point ≡ []) → filter improved (ordinary_into now point) ≡ []
  unimproved_is point nothing = by (filter improved (ordinary_into now point)) refl
    where
      by : (edges : List Edge) → filter improved (ordinary_into now point) ≡ edges → edges ≡ []
      by [] is = refl
      by (edge ∷ edges) is =
          let there : Contains (filter improved (ordinary_into now point)) edge = subst (λ (l : List Edge). Contains l edge) (sym is) (Contains-head edge edges) in
          let (has, none, ends) = ordinary_from now point edge (Contains-filter_from improved (ordinary_into now point) edge there) in
          let (one, made, key) = improved_at edge (Contains-filter_passes improved (ordinary_into now point) edge there) in
          let to : one.edge.to ≡ point = sym (ap (λ (k : Key). k.to) key) ∙ ends in
          let (inside, row) = in_its_row one made in
          let here : Contains (reference_row net before point) one = subst (λ (p : PointId). Contains (reference_row net before p) one) to row in
          let empty : Contains {X = Made} [] one = subst (λ (l : List Made). Contains l one) (nothing (subst (λ (p : PointId). p.0 < before.shape.points) to inside)) here in
          absurd (Contains-none one empty)

  pub delta_after : (rows : List NewRow) (delta : List (List Edge)) → AreRowsOfRound net before rows → AreListed before rows delta → AreDeltaAfter before now delta
  delta_after rows delta made listed = record {
    is_delta = λ edge. improved edge && still_delta before edge;
    was_there = λ first has test. one_was_there first has (improved first) refl (was_low before first) refl test;
    lists = λ point. by point (contains_point made.targets point) refl;
  }
    where
      row_there : (point : PointId) → Contains made.targets point → Contains rows (new_row net before point)
      row_there point inside = subst (λ (l : List NewRow). Contains l (new_row net before point)) (sym made.rows_are) (Contains-map (new_row net before) made.targets point inside)

      not_there : (point : PointId) → contains_point made.targets point ≡ false → ¬ Contains made.targets point
      not_there point none inside = let clash = among_from made.targets point inside in absurd cc

      other_row : (point : PointId) → contains_point made.targets point ≡ false → (row : NewRow) → Contains rows row → row.target ≢ point
      other_row point none row inside same =
          let (target, there, is) = Contains-map_from (new_row net before) made.targets row (subst (λ (l : List NewRow). Contains l row) made.rows_are inside) in
          not_there point none (subst (Contains made.targets) (ap (λ (r : NewRow). r.target) is ∙ same) there)

      one_was_there : (first : Edge) → HasEdge now first → (b : Bool) → improved first ≡ b → (low : Bool) → was_low before first ≡ low → (improved first && still_delta before first) ≡ false → WasThere before first
      one_was_there first has false unimproved low is test = law_unimproved_were_there net before first has unimproved
      one_was_there first has true improvements false high test = let no : (improved first && still_delta before first) ≡ true = λ i. improvements i && not (high i) in absurd cc
      one_was_there first has true improvements true low test = low_was_there before first low

      by : (point : PointId) (b : Bool) → contains_point made.targets point ≡ b → delta_at delta point ≡ filter (λ edge. improved edge && still_delta before edge) (ordinary_into now point)
      by point true is =
          let there = from_among made.targets point is in
          let inside : point.0 < before.shape.points = All-contains (λ (p : PointId). p.0 < before.shape.points) made.targets point made.points there in
          let here = listed.here (new_row net before point) (row_there point there) in
          here.kept ∙ (ap (filter (still_delta before)) (listed_is point here.all here.in_order inside) ∙ filter_both improved (still_delta before) (ordinary_into now point))
      by point false is =
          listed.others point (other_row point is)
          ∙ sym (sym (filter_both improved (still_delta before) (ordinary_into now point)) ∙ ap (filter (still_delta before)) (unimproved_is point (λ inside. made.others point inside (not_there point is))))
