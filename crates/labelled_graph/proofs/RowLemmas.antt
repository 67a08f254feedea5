-- What entries have for a key, and what they have after one of them was put in, set or taken out.
use Rattle.std.proofs.Common.{◌≡◌, ℕ, zero, suc, ◌==◌, ◌<◌, ◌≤◌, ℤ, Bool, true, false, cond, not, List, [], ◌∷◌, length, map, get_or, set, insert, remove, Result, Ok, Err, Option, Some, None, refl, ap, sym, subst, ◌∙◌, arith}
use lib.Dec.{T}
use Rattle.std.specs.Prelude.{IsSome}
use Rattle.std.specs.List.Sorted.{IsSearchInRange, IsBinarySearchResult, IsNonDecreasingBy}
use Rattle.std.specs.declared.cmp.Ordering.{Ordering}
use Rattle.std.specs.declared.cmp.Ordering.TheVariants.{Less, Equal, Greater}
use Rattle.std.specs.Ordering.{eq_by_cmp, is_lt, is_eq, ordering_index, ordering_reverse}
use Rattle.std.specs.FinMap as map_of
use Rattle.std.specs.FinMap.{find, put, is_sorted, entries-from_sorted, get-from_sorted, entries-insert, same_entries_map, same_map, get-remove}
use Rattle.std.specs.FinMap.Entries.{below_all, where_key, by_order, is_sorted-put, is_sorted-where_key, find-where_key}
use Rattle.std.proofs.lemmas.Bool.{eqb-true}
use Rattle.std.proofs.lemmas.Bool.Decides.{nat_tests}
use Rattle.net_model.specs.declared.ids.PointId.{PointId}
use Rattle.net_model.specs.declared.ids.LinkId.{LinkId}
use Rattle.net_model.specs.declared.part.Edge.{Edge}
use Rattle.closure_model.specs.Keys.{Key, key_of, key_cmp}
use Rattle.closure_model.proofs.KeyOrder.{key_total, same_key, key_itself, key_test}
use Rattle.closure_model.proofs.Entries.{both}
use Rattle.labelled_graph.specs.declared.entry.Entry.{Entry}
use Rattle.labelled_graph.specs.Entries.{edge_into, key_into, key_with}
use Rattle.labelled_graph.specs.Rows.{TargetRow, keyed, row_with, AreRising, IsEntryAt, IsGapFor, IsPlaceOf}

is_less : (o : Ordering) → T (is_lt o) → o ≡ Less
is_less Less holds = refl
is_less Equal holds = absurd holds
is_less Greater holds = absurd holds

pub turned_less : (a b : Key) → key_cmp a b ≡ Less → key_cmp b a ≡ Greater
turned_less a b less = key_total.antisymm b a ∙ ap ordering_reverse less

pub turned_greater : (a b : Key) → key_cmp a b ≡ Greater → key_cmp b a ≡ Less
turned_greater a b greater = key_total.antisymm b a ∙ ap ordering_reverse greater

-- ---- a search among entries that rise
index_at_most : (o : Ordering) → ordering_index o ≤ 2
index_at_most Less = omega arith
index_at_most Equal = omega arith
index_at_most Greater = omega arith

index_rises : (a b key : Key) → key_cmp a b ≡ Less → ordering_index (key_cmp a key) ≤ ordering_index (key_cmp b key)
index_rises a b key less = by (key_cmp b key) refl
  where
    by : (o : Ordering) → key_cmp b key ≡ o → ordering_index (key_cmp a key) ≤ ordering_index o
    by Less is = let first : ordering_index (key_cmp a key) ≡ 0 = ap ordering_index (key_total.trans a b key less is) in omega arith
    by Equal is = let first : ordering_index (key_cmp a key) ≡ 0 = ap ordering_index (ap (key_cmp a) (sym (same_key b key is)) ∙ less) in omega arith
    by Greater is = index_at_most (key_cmp a key)

module _ (to : PointId) where
  pub below_at : (key : Key) (xs : List Entry) → T (below_all key_cmp key (map (keyed to) xs)) → (j : ℕ) (d : Entry) → j < length xs → key_cmp key (key_into to (get_or xs j d)) ≡ Less
  below_at key [] below j d inside = absurd (omega arith)
  below_at key (x ∷ xs) below zero d inside = is_less (key_cmp key (key_into to x)) (both _ _ below).0
  below_at key (x ∷ xs) below (suc j) d inside = below_at key xs (both _ _ below).1 j d (omega arith)

  pub rising_pair : (xs : List Entry) → AreRising to xs → (i j : ℕ) (d : Entry) → i < j → j < length xs → key_cmp (key_into to (get_or xs i d)) (key_into to (get_or xs j d)) ≡ Less
  rising_pair [] rises i j d less inside = absurd (omega arith)
  rising_pair (x ∷ xs) rises i zero d less inside = absurd (omega arith)
  rising_pair (x ∷ xs) rises zero (suc j) d less inside = below_at (key_into to x) xs (both _ _ rises).0 j d (omega arith)
  rising_pair (x ∷ xs) rises (suc i) (suc j) d less inside = rising_pair xs (both _ _ rises).1 i j d (omega arith) (omega arith)

  comparisons_rise : (xs : List Entry) (key : Key) → AreRising to xs → IsNonDecreasingBy (λ entry. ordering_index (key_cmp (key_into to entry) key)) xs
  comparisons_rise xs key rises i j d up inside = by (i == j) refl
    where
      index : ℕ → ℕ
      index k = ordering_index (key_cmp (key_into to (get_or xs k d)) key)

      by : (b : Bool) → i == j ≡ b → index i ≤ index j
      by true is = let same : index i ≡ index j = ap index (eqb-true i j is) in omega arith
      by false is = let less : i < j = grind (arith, nat_tests) in index_rises (key_into to (get_or xs i d)) (key_into to (get_or xs j d)) key (rising_pair xs rises i j d less inside)

  pub searched_place : (xs : List Entry) (key : Key) → AreRising to xs → (r : Result ℕ ℕ) → IsSearchInRange r (length xs) → IsBinarySearchResult (λ entry. key_cmp (key_into to entry) key) xs r → IsPlaceOf to xs key r
  searched_place xs key rises (Ok place) range found = record { inside = range; same = λ d. same_key (key_into to (get_or xs place d)) key (found d) }
  searched_place xs key rises (Err place) range parted = record {
    inside = range;
    lesser = λ j d before. (parted (comparisons_rise xs key rises)).0 j d (omega arith) before;
    greater = λ j d from inside. (parted (comparisons_rise xs key rises)).1 j d from inside;
  }

  -- ---- the rest of a list
  at_rest : (x : Entry) (xs : List Entry) (key : Key) (i : ℕ) → IsEntryAt to (x ∷ xs) key (suc i) → IsEntryAt to xs key i
  at_rest x xs key i at = record { inside = (let inside = at.inside in omega arith); same = at.same }

  gap_rest : (x : Entry) (xs : List Entry) (key : Key) (i : ℕ) → IsGapFor to (x ∷ xs) key (suc i) → IsGapFor to xs key i
  gap_rest x xs key i gap = record {
    inside = (let inside = gap.inside in omega arith);
    lesser = λ j d before. gap.lesser (suc j) d (omega arith);
    greater = λ j d from inside. gap.greater (suc j) d (omega arith) (omega arith);
  }

  gap_after : (x : Entry) (xs : List Entry) (key : Key) → IsGapFor to (x ∷ xs) key 0 → IsGapFor to xs key 0
  gap_after x xs key gap = record {
    inside = omega arith;
    lesser = λ j d before. absurd (omega arith);
    greater = λ j d from inside. gap.greater (suc j) d (omega arith) (omega arith);
  }

  -- the first entry is below the one at a later place
  first_below : (x : Entry) (xs : List Entry) (key : Key) (i : ℕ) → AreRising to (x ∷ xs) → IsEntryAt to (x ∷ xs) key (suc i) → key_cmp (key_into to x) key ≡ Less
  first_below x xs key i rises at = let inside : i < length xs = (let range = at.inside in omega arith) in ap (key_cmp (key_into to x)) (sym (at.same x)) ∙ below_at (key_into to x) xs (both _ _ rises).0 i x inside

  -- ---- what is found
  find_at : (xs : List Entry) (i : ℕ) (key : Key) (d : Entry) → AreRising to xs → IsEntryAt to xs key i → find key_cmp key (map (keyed to) xs) ≡ Some (get_or xs i d).weight
  find_at [] i key d rises at = absurd (let range = at.inside in omega arith)
  find_at (x ∷ xs) zero key d rises at =
      let test : eq_by_cmp key_cmp key (key_into to x) ≡ true = (key_test key (key_into to x)).1 (sym (at.same d)) in
      ap (λ b. cond b (Some x.weight) (find key_cmp key (map (keyed to) xs))) test
  find_at (x ∷ xs) (suc i) key d rises at =
      ap (λ r. cond (is_eq r) (Some x.weight) (find key_cmp key (map (keyed to) xs))) (turned_less (key_into to x) key (first_below x xs key i rises at))
      ∙ find_at xs i key d (both _ _ rises).1 (at_rest x xs key i at)

  find_gap : (xs : List Entry) (i : ℕ) (key : Key) → IsGapFor to xs key i → find key_cmp key (map (keyed to) xs) ≡ None
  find_gap [] i key gap = refl
  find_gap (x ∷ xs) zero key gap =
      ap (λ r. cond (is_eq r) (Some x.weight) (find key_cmp key (map (keyed to) xs))) (turned_greater (key_into to x) key (gap.greater 0 x (omega arith) (omega arith)))
      ∙ find_gap xs 0 key (gap_after x xs key gap)
  find_gap (x ∷ xs) (suc i) key gap =
      ap (λ r. cond (is_eq r) (Some x.weight) (find key_cmp key (map (keyed to) xs))) (turned_less (key_into to x) key (gap.lesser 0 x (omega arith)))
      ∙ find_gap xs i key (gap_rest x xs key i gap)

  -- ---- an entry set, put in or taken out
  pub put_at : (xs : List Entry) (i : ℕ) (x : Entry) → AreRising to xs → IsEntryAt to xs (key_into to x) i → map (keyed to) (set xs i x) ≡ put key_cmp (key_into to x) x.weight (map (keyed to) xs)
  put_at [] i x rises at = absurd (let range = at.inside in omega arith)
  put_at (y ∷ ys) zero x rises at =
      let key = key_into to x in
      let rest = map (keyed to) ys in
      let same : key_into to y ≡ key = at.same x in
      let tie : key_cmp key (key_into to y) ≡ Equal = ap (key_cmp key) same ∙ key_itself key in
      (λ j. (sym same j, x.weight) ∷ rest) ∙ sym (ap (λ r. by_order r ((key, x.weight) ∷ keyed to y ∷ rest) ((key_into to y, x.weight) ∷ rest) (keyed to y ∷ put key_cmp key x.weight rest)) tie)
  put_at (y ∷ ys) (suc i) x rises at =
      let key = key_into to x in
      let rest = map (keyed to) ys in
      let later : key_cmp key (key_into to y) ≡ Greater = turned_less (key_into to y) key (first_below y ys key i rises at) in
      ap (λ es. keyed to y ∷ es) (put_at ys i x (both _ _ rises).1 (at_rest y ys key i at))
      ∙ sym (ap (λ r. by_order r ((key, x.weight) ∷ keyed to y ∷ rest) ((key_into to y, x.weight) ∷ rest) (keyed to y ∷ put key_cmp key x.weight rest)) later)

  pub put_gap : (xs : List Entry) (i : ℕ) (x : Entry) → IsGapFor to xs (key_into to x) i → map (keyed to) (insert xs i x) ≡ put key_cmp (key_into to x) x.weight (map (keyed to) xs)
  put_gap [] zero x gap = refl
  put_gap [] (suc i) x gap = absurd (let range = gap.inside in omega arith)
  put_gap (y ∷ ys) zero x gap =
      let key = key_into to x in
      let rest = map (keyed to) ys in
      let sooner : key_cmp key (key_into to y) ≡ Less = turned_greater (key_into to y) key (gap.greater 0 x (omega arith) (omega arith)) in
      sym (ap (λ r. by_order r ((key, x.weight) ∷ keyed to y ∷ rest) ((key_into to y, x.weight) ∷ rest) (keyed to y ∷ put key_cmp key x.weight rest)) sooner)
  put_gap (y ∷ ys) (suc i) x gap =
      let key = key_into to x in
      let rest = map (keyed to) ys in
      let later : key_cmp key (key_into to y) ≡ Greater = turned_less (key_into to y) key (gap.lesser 0 x (omega arith)) in
      ap (λ es. keyed to y ∷ es) (put_gap ys i x (gap_rest y ys key i gap))
      ∙ sym (ap (λ r. by_order r ((key, x.weight) ∷ keyed to y ∷ rest) ((key_into to y, x.weight) ∷ rest) (keyed to y ∷ put key_cmp key x.weight rest)) later)

  abbrev others : Key → Key → Bool
  others key other = not (eq_by_cmp key_cmp key other)

  keep_above : (key : Key) (xs : List Entry) → T (below_all key_cmp key (map (keyed to) xs)) → where_key key_cmp (others key) (map (keyed to) xs) ≡ map (keyed to) xs
  keep_above key [] below = refl
  keep_above key (x ∷ xs) below =
      let rest = where_key key_cmp (others key) (map (keyed to) xs) in
      ap (λ r. cond (not (is_eq r)) (keyed to x ∷ rest) rest) (is_less (key_cmp key (key_into to x)) (both _ _ below).0) ∙ ap (λ es. keyed to x ∷ es) (keep_above key xs (both _ _ below).1)

  remove_at : (xs : List Entry) (i : ℕ) (key : Key) → AreRising to xs → IsEntryAt to xs key i → map (keyed to) (remove xs i) ≡ where_key key_cmp (others key) (map (keyed to) xs)
  remove_at [] i key rises at = absurd (let range = at.inside in omega arith)
  remove_at (x ∷ xs) zero key rises at =
      let same : key_into to x ≡ key = at.same x in
      let rest = where_key key_cmp (others key) (map (keyed to) xs) in
      let test : eq_by_cmp key_cmp key (key_into to x) ≡ true = (key_test key (key_into to x)).1 (sym same) in
      sym (ap (λ b. cond (not b) (keyed to x ∷ rest) rest) test ∙ keep_above key xs (subst (λ k. T (below_all key_cmp k (map (keyed to) xs))) same (both _ _ rises).0))
  remove_at (x ∷ xs) (suc i) key rises at =
      let rest = where_key key_cmp (others key) (map (keyed to) xs) in
      ap (λ es. keyed to x ∷ es) (remove_at xs i key (both _ _ rises).1 (at_rest x xs key i at))
      ∙ sym (ap (λ r. cond (not (is_eq r)) (keyed to x ∷ rest) rest) (turned_less (key_into to x) key (first_below x xs key i rises at)))

  -- ---- the row of entries
  pub row_put : (xs ys : List Entry) (key : Key) (w : ℤ) → AreRising to xs → map (keyed to) ys ≡ put key_cmp key w (map (keyed to) xs)
      → AreRising to ys × (row_with to ys ≡ record { to = to; weights = map_of.insert (row_with to xs).weights key w })
  row_put xs ys key w rises is = (rising, λ i. record { to = to; weights = same i })
    where
      rising : AreRising to ys
      rising = subst (λ (es : List (Key × ℤ)). T (is_sorted key_cmp es)) (sym is) (is_sorted-put key_cmp key_total key w (map (keyed to) xs) rises)

      same : map_of.from_sorted {R = key_cmp} (map (keyed to) ys) ≡ map_of.insert (map_of.from_sorted (map (keyed to) xs)) key w
      same =
          same_entries_map _ _
          (entries-from_sorted key_cmp (map (keyed to) ys) rising
          ∙ is
          ∙ sym (entries-insert key_total (map_of.from_sorted (map (keyed to) xs)) key w ∙ ap (put key_cmp key w) (entries-from_sorted key_cmp (map (keyed to) xs) rises)))

  row_without : (xs ys : List Entry) (key : Key) → AreRising to xs → map (keyed to) ys ≡ where_key key_cmp (others key) (map (keyed to) xs)
      → AreRising to ys × (row_with to ys ≡ record { to = to; weights = map_of.remove (row_with to xs).weights key })
  row_without xs ys key rises is = (rising, λ i. record { to = to; weights = same i })
    where
      rising : AreRising to ys
      rising = subst (λ (es : List (Key × ℤ)). T (is_sorted key_cmp es)) (sym is) (is_sorted-where_key key_cmp (others key) (map (keyed to) xs) rises)

      alike : (q x : Key) → key_cmp q x ≡ Equal → others key x ≡ others key q
      alike q x tie = ap (others key) (sym (same_key q x tie))

      flipped : (q : Key) (o : Option ℤ) → cond (others key q) o None ≡ cond (eq_by_cmp key_cmp q key) None o
      flipped q o = by (eq_by_cmp key_cmp q key) refl
        where
          by : (b : Bool) → eq_by_cmp key_cmp q key ≡ b → cond (others key q) o None ≡ cond b None o
          by true tie = let test : eq_by_cmp key_cmp key q ≡ true = (key_test key q).1 (sym ((key_test q key).0 tie)) in ap (λ b. cond (not b) o None) test
          by false apart = let test : eq_by_cmp key_cmp key q ≡ false = other (eq_by_cmp key_cmp key q) refl in ap (λ b. cond (not b) o None) test
            where
              other : (b : Bool) → eq_by_cmp key_cmp key q ≡ b → eq_by_cmp key_cmp key q ≡ false
              other true tie = let same : eq_by_cmp key_cmp q key ≡ true = (key_test q key).1 (sym ((key_test key q).0 tie)) in absurd cc
              other false tie = tie

      same : map_of.from_sorted {R = key_cmp} (map (keyed to) ys) ≡ map_of.remove (map_of.from_sorted (map (keyed to) xs)) key
      same =
          same_map key_total same_key _ _ (λ q.
          get-from_sorted key_cmp (map (keyed to) ys) q rising
          ∙ ap (find key_cmp q) is
          ∙ find-where_key key_cmp (others key) q (alike q) (map (keyed to) xs)
          ∙ flipped q (find key_cmp q (map (keyed to) xs))
          ∙ sym (get-remove key_total (map_of.from_sorted (map (keyed to) xs)) key q ∙ ap (cond (eq_by_cmp key_cmp q key) None) (get-from_sorted key_cmp (map (keyed to) xs) q rises)))

-- a map without a key that it has not is the same map
removed_absent : (m : map_of.FinMap key_cmp ℤ) (key : Key) → map_of.get m key ≡ None → map_of.remove m key ≡ m
removed_absent m key none = same_map key_total same_key _ _ (λ q. get-remove key_total m key q ∙ by q (eq_by_cmp key_cmp q key) refl)
  where
    by : (q : Key) (b : Bool) → eq_by_cmp key_cmp q key ≡ b → cond b None (map_of.get m q) ≡ map_of.get m q
    by q true is = sym (ap (map_of.get m) ((key_test q key).0 is) ∙ none)
    by q false is = refl

-- ---- a row, as it is seen
module _ (to : PointId) (xs : List Entry) (row : TargetRow) (view : row_with to xs ≡ row) (rises : AreRising to xs) (searched : List Entry) (is : searched ≡ xs) where
  target : to ≡ row.to
  target = ap (λ (r : TargetRow). r.to) view

  weights : map_of.from_sorted (map (keyed to) xs) ≡ row.weights
  weights = ap (λ (r : TargetRow). r.weights) view

  found : (r : Result ℕ ℕ) (key : Key) → ((t : PointId) → AreRising t searched → IsPlaceOf t searched (record { to = t; from = key.from; label = key.label }) r) → key.to ≡ row.to → IsPlaceOf to xs key r
  found r key place ends =
      let there : key.to ≡ to = ends ∙ sym target in
      let same : (let q : Key = record { to = to; from = key.from; label = key.label } in q) ≡ key = λ i. record { to = sym there i; from = key.from; label = key.label } in
      subst (λ (q : Key). IsPlaceOf to xs q r) same
      (subst (λ (es : List Entry). IsPlaceOf to es (record { to = to; from = key.from; label = key.label }) r) is (place to (subst (AreRising to) (sym is) rises)))

  get_found : (key : Key) (i : ℕ) (d : Entry) → IsEntryAt to xs key i → map_of.get row.weights key ≡ Some (get_or xs i d).weight
  get_found key i d at = ap (λ (m : map_of.FinMap key_cmp ℤ). map_of.get m key) (sym weights) ∙ get-from_sorted key_cmp (map (keyed to) xs) key rises ∙ find_at to xs i key d rises at

  get_missed : (key : Key) (i : ℕ) → IsGapFor to xs key i → map_of.get row.weights key ≡ None
  get_missed key i gap = ap (λ (m : map_of.FinMap key_cmp ℤ). map_of.get m key) (sym weights) ∙ get-from_sorted key_cmp (map (keyed to) xs) key rises ∙ find_gap to xs i key gap

  pub read_found : (from : PointId) (label : Option LinkId) (i : ℕ) (d : Entry) → ((t : PointId) → AreRising t searched → IsPlaceOf t searched (key_with t from label) (Ok i))
      → Some (get_or xs i d).weight ≡ map_of.get row.weights (key_with row.to from label)
  read_found from label i d place = sym (get_found (key_with row.to from label) i d (found (Ok i) (key_with row.to from label) place refl))

  pub read_missed : (from : PointId) (label : Option LinkId) (i : ℕ) → ((t : PointId) → AreRising t searched → IsPlaceOf t searched (key_with t from label) (Err i)) → None ≡ map_of.get row.weights (key_with row.to from label)
  read_missed from label i place = sym (get_missed (key_with row.to from label) i (found (Err i) (key_with row.to from label) place refl))

  -- the row after an edge of it was set, put in or taken out
  module _ (edge : Edge) (ends : edge.to ≡ row.to) (x : Entry) (stands_for : edge_into edge.to x ≡ edge) where
    stands : key_into to x ≡ key_of edge
    stands = (λ i. key_of (edge_into ((target ∙ sym ends) i) x)) ∙ ap key_of stands_for

    weighs : x.weight ≡ edge.weight
    weighs = ap (λ (e : Edge). e.weight) stands_for

    put_in : (ys : List Entry) → map (keyed to) ys ≡ put key_cmp (key_into to x) x.weight (map (keyed to) xs) → AreRising to ys × (row_with to ys ≡ record row { weights = map_of.insert row.weights (key_of edge) edge.weight })
    put_in ys put_there =
        let (rising, same) = row_put to xs ys (key_of edge) edge.weight rises (put_there ∙ (λ i. put key_cmp (stands i) (weighs i) (map (keyed to) xs))) in
        (rising, same ∙ (λ i. record { to = target i; weights = map_of.insert (weights i) (key_of edge) edge.weight }))

    pub set_found : (i : ℕ) → ((t : PointId) → AreRising t searched → IsPlaceOf t searched (key_with t edge.from edge.label) (Ok i))
        → AreRising to (set xs i x) × (row_with to (set xs i x) ≡ record row { weights = map_of.insert row.weights (key_of edge) edge.weight })
    set_found i place = put_in (set xs i x) (put_at to xs i x rises (subst (λ (q : Key). IsEntryAt to xs q i) (sym stands) (found (Ok i) (key_of edge) place ends)))

    pub set_missed : (i : ℕ) → ((t : PointId) → AreRising t searched → IsPlaceOf t searched (key_with t edge.from edge.label) (Err i)) → (ys : List Entry) → ys ≡ insert xs i x
        → AreRising to ys × (row_with to ys ≡ record row { weights = map_of.insert row.weights (key_of edge) edge.weight })
    set_missed i place ys are = put_in ys (ap (map (keyed to)) are ∙ put_gap to xs i x (subst (λ (q : Key). IsGapFor to xs q i) (sym stands) (found (Err i) (key_of edge) place ends)))

  module _ (edge : Edge) (ends : edge.to ≡ row.to) (i : ℕ) where
    pub gone_found : ((t : PointId) → AreRising t searched → IsPlaceOf t searched (key_with t edge.from edge.label) (Ok i)) → (ys : List Entry) → ys ≡ remove xs i
        → AreRising to ys × (row_with to ys ≡ record row { weights = map_of.remove row.weights (key_of edge) })
    gone_found place ys are =
        let (rising, same) = row_without to xs ys (key_of edge) rises (ap (map (keyed to)) are ∙ remove_at to xs i (key_of edge) rises (found (Ok i) (key_of edge) place ends)) in
        (rising, same ∙ (λ j. record { to = target j; weights = map_of.remove (weights j) (key_of edge) }))

    missed_weight : ((t : PointId) → AreRising t searched → IsPlaceOf t searched (key_with t edge.from edge.label) (Err i)) → map_of.get row.weights (key_of edge) ≡ None
    missed_weight place = get_missed (key_of edge) i (found (Err i) (key_of edge) place ends)

    pub gone_missed : ((t : PointId) → AreRising t searched → IsPlaceOf t searched (key_with t edge.from edge.label) (Err i)) → row ≡ record row { weights = map_of.remove row.weights (key_of edge) }
    gone_missed place = λ j. record { to = row.to; weights = sym (removed_absent row.weights (key_of edge) (missed_weight place)) j }

    pub not_missed : ((t : PointId) → AreRising t searched → IsPlaceOf t searched (key_with t edge.from edge.label) (Err i)) → IsSome (map_of.get row.weights (key_of edge)) → ⊥
    not_missed place present = let none = missed_weight place in let some : IsSome {T = ℤ} None = subst IsSome none present in absurd cc

-- ---- a row without edges
pub empty_rises : (to : PointId) (xs : List Entry) → xs ≡ [] → row_with to xs ≡ record { to = to; weights = map_of.empty }
empty_rises to xs none =
    (λ i. row_with to (none i))
    ∙ (λ i. record { to = to; weights = same_map key_total same_key (map_of.from_sorted {R = key_cmp} []) map_of.empty (λ q. get-from_sorted key_cmp [] q tt ∙ sym (map_of.get-empty key_cmp q)) i })

-- the entries of a row, as it is seen
pub entries_seen : (to : PointId) (xs : List Entry) (row : TargetRow) → row_with to xs ≡ row → AreRising to xs → (read : List Entry) → read ≡ xs → map (keyed row.to) read ≡ map_of.entries row.weights
entries_seen to xs row view rises read is =
    (λ i. map (keyed (sym (ap (λ (r : TargetRow). r.to) view) i)) (is i)) ∙ sym (entries-from_sorted key_cmp (map (keyed to) xs) rises) ∙ ap (λ (r : TargetRow). map_of.entries r.weights) view
