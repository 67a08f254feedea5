-- Entries put among those of a row, one after another as their keys rise, and what the row has then.
use Rattle.std.proofs.Common.{◌≡◌, ℕ, zero, suc, ◌==◌, ◌+◌, ◌-◌, ◌<◌, ◌≤◌, ℤ, Bool, true, false, List, [], ◌∷◌, ◌++◌, length, map, take, drop, get_or, set, insert, refl, ap, sym, subst, ◌∙◌, arith}
use lib.Dec.{T}
use Rattle.std.specs.declared.cmp.Ordering.{Ordering}
use Rattle.std.specs.declared.cmp.Ordering.TheVariants.{Less, Equal, Greater}
use Rattle.std.specs.Ordering.{is_lt}
use Rattle.std.specs.FinMap as map_of
use Rattle.std.specs.FinMap.{put}
use Rattle.std.specs.FinMap.Entries.{below_all, by_order}
use Rattle.std.proofs.lemmas.List.{append_assoc, append-nil, map-append, map_push, take_more, drop_more, take_all, length-take-le, get_or-take, get_or_default}
use Rattle.std.specs.List.{All}
use Rattle.std.proofs.lemmas.Bool.{eqb-true}
use Rattle.std.proofs.lemmas.Bool.Decides.{nat_tests}
use Rattle.std.proofs.lemmas.List.Sums.{fold_push}
use Rattle.net_model.specs.declared.ids.PointId.{PointId}
use Rattle.closure_model.specs.Keys.{Key, key_cmp}
use Rattle.closure_model.proofs.KeyOrder.{key_total}
use Rattle.closure_model.proofs.Entries.{both, both_back}
use Rattle.labelled_graph.specs.declared.entry.Entry.{Entry}
use Rattle.closure_model.specs.declared.rows.Made.{Made}
use Rattle.labelled_graph.specs.Entries.{edge_into, key_into}
use Rattle.labelled_graph.specs.MergedRows.{IsMerged, IsMerging, IsNextOf, CanPutNext, edges_made, row_set, weights_set}
use Rattle.labelled_graph.specs.Rows.{TargetRow, keyed, row_with, AreRising, IsEntryAt, IsGapFor}
use Rattle.labelled_graph.proofs.RowLemmas.{turned_less, rising_pair, put_at, put_gap, row_put}

-- ---- lists split at a place
insert_split : {A : Type 0} (xs : List A) (i : ℕ) (y : A) → i ≤ length xs → insert xs i y ≡ take i xs ++ y ∷ drop i xs
insert_split xs zero y inside = refl
insert_split [] (suc i) y inside = absurd (omega (arith, inside))
insert_split (x ∷ xs) (suc i) y inside = ap (λ l. x ∷ l) (insert_split xs i y (omega (arith, inside)))

set_split : {A : Type 0} (xs : List A) (i : ℕ) (y : A) → i < length xs → set xs i y ≡ take i xs ++ y ∷ drop (suc i) xs
set_split [] i y inside = absurd (omega (arith, inside))
set_split (x ∷ xs) zero y inside = refl
set_split (x ∷ xs) (suc i) y inside = ap (λ l. x ∷ l) (set_split xs i y (omega (arith, inside)))

is_less : (o : Ordering) → T (is_lt o) → o ≡ Less
is_less Less holds = refl
is_less Equal holds = absurd holds
is_less Greater holds = absurd holds

module _ (to : PointId) where
  abbrev Below : Key → List Entry → Type 0
  Below key xs = T (below_all key_cmp key (map (keyed to) xs))

  below_left : (key : Key) (xs ys : List Entry) → Below key (xs ++ ys) → Below key xs
  below_left key [] ys below = tt
  below_left key (x ∷ xs) ys below = both_back _ _ (both _ _ below).0 (below_left key xs ys (both _ _ below).1)

  below_right : (key : Key) (xs ys : List Entry) → Below key (xs ++ ys) → Below key ys
  below_right key [] ys below = below
  below_right key (x ∷ xs) ys below = below_right key xs ys (both _ _ below).1

  below_join : (key : Key) (xs ys : List Entry) → Below key xs → Below key ys → Below key (xs ++ ys)
  below_join key [] ys one two = two
  below_join key (x ∷ xs) ys one two = both_back _ _ (both _ _ one).0 (below_join key xs ys (both _ _ one).1 two)

  below_take : (key : Key) (i : ℕ) (xs : List Entry) → Below key xs → Below key (take i xs)
  below_take key zero xs below = tt
  below_take key (suc i) [] below = tt
  below_take key (suc i) (x ∷ xs) below = both_back _ _ (both _ _ below).0 (below_take key i xs (both _ _ below).1)

  below_less : (low key : Key) (xs : List Entry) → key_cmp low key ≡ Less → Below key xs → Below low xs
  below_less low key [] less below = tt
  below_less low key (x ∷ xs) less below =
      let first : key_cmp low (key_into to x) ≡ Less = key_total.trans low key (key_into to x) less (is_less (key_cmp key (key_into to x)) (both _ _ below).0) in
      both_back _ _ (subst (λ (o : Ordering). T (is_lt o)) (sym first) tt) (below_less low key xs less (both _ _ below).1)

  pub rises_right : (xs ys : List Entry) → AreRising to (xs ++ ys) → AreRising to ys
  rises_right [] ys rises = rises
  rises_right (x ∷ xs) ys rises = rises_right xs ys (both _ _ rises).1

  -- ---- what rises after an entry
  abbrev AreBefore : List Entry → ℕ → Entry → Type 0
  AreBefore xs i entry = (j : ℕ) (d : Entry) → j < i → j < length xs → key_cmp (key_into to (get_or xs j d)) (key_into to entry) ≡ Less

  rises_from : (xs more : List Entry) (entry : Entry) (i : ℕ) → AreRising to xs → AreRising to (entry ∷ more) → AreBefore xs i entry → AreRising to (take i xs ++ entry ∷ more)
  rises_from xs more entry zero rises next before = next
  rises_from [] more entry (suc i) rises next before = next
  rises_from (x ∷ xs) more entry (suc i) rises next before =
      let less : key_cmp (key_into to x) (key_into to entry) ≡ Less = before 0 x (omega arith) (omega arith) in
      both_back _ _
      (below_join (key_into to x) (take i xs) (entry ∷ more) (below_take (key_into to x) i xs (both _ _ rises).0)
      (both_back _ _ (subst (λ (o : Ordering). T (is_lt o)) (sym less) tt) (below_less (key_into to x) (key_into to entry) more less (both _ _ next).0)))
      (rises_from xs more entry i (both _ _ rises).1 next (λ j d less inside. before (suc j) d (omega arith) (omega arith)))

  rises_next : (put left more : List Entry) (entry : Entry) (i : ℕ) → AreRising to (put ++ left) → AreRising to (put ++ entry ∷ more) → AreBefore left i entry → AreRising to (put ++ (take i left ++ entry ∷ more))
  rises_next [] left more entry i rises next before = rises_from left more entry i rises next before
  rises_next (p ∷ put) left more entry i rises next before =
      both_back _ _
      (below_join (key_into to p) put (take i left ++ entry ∷ more) (below_left (key_into to p) put left (both _ _ rises).0)
      (below_join (key_into to p) (take i left) (entry ∷ more) (below_take (key_into to p) i left (below_right (key_into to p) put left (both _ _ rises).0)) (below_right (key_into to p) put (entry ∷ more) (both _ _ next).0)))
      (rises_next put left more entry i (both _ _ rises).1 (both _ _ next).1 before)

  -- ---- an entry that comes after those that were put
  put_behind : (done left more : List Entry) (entry : Entry) → AreRising to (done ++ entry ∷ more)
      → put key_cmp (key_into to entry) entry.weight (map (keyed to) (done ++ left)) ≡ map (keyed to) done ++ put key_cmp (key_into to entry) entry.weight (map (keyed to) left)
  put_behind [] left more entry rises = refl
  put_behind (d ∷ done) left more entry rises =
      let key = key_into to entry in
      let rest = map (keyed to) (done ++ left) in
      let less : key_cmp (key_into to d) key ≡ Less = is_less (key_cmp (key_into to d) key) (both _ _ (below_right (key_into to d) done (entry ∷ more) (both _ _ rises).0)).0 in
      ap (λ r. by_order r ((key, entry.weight) ∷ keyed to d ∷ rest) ((key_into to d, entry.weight) ∷ rest) (keyed to d ∷ put key_cmp key entry.weight rest)) (turned_less (key_into to d) key less)
      ∙ ap (λ es. keyed to d ∷ es) (put_behind done left more entry (both _ _ rises).1)

  joined : (done left rest : List Entry) (entry : Entry) (i : ℕ) → done ++ take i left ++ entry ∷ [] ++ rest ≡ done ++ (take i left ++ entry ∷ rest)
  joined done left rest entry i = append_assoc (done ++ take i left) (entry ∷ []) rest ∙ append_assoc done (take i left) (entry ∷ rest)

  put_there : (done left more whole : List Entry) (entry : Entry) → AreRising to (done ++ entry ∷ more) → map (keyed to) whole ≡ put key_cmp (key_into to entry) entry.weight (map (keyed to) left)
      → map (keyed to) (done ++ whole) ≡ put key_cmp (key_into to entry) entry.weight (map (keyed to) (done ++ left))
  put_there done left more whole entry rises is = map-append (keyed to) done whole ∙ ap (λ es. map (keyed to) done ++ es) is ∙ sym (put_behind done left more entry rises)

  next_of : (done left after rest whole : List Entry) (entry : Entry) (i : ℕ) → CanPutNext to done left entry → AreBefore left i entry → after ≡ done ++ take i left ++ entry ∷ [] → done ++ take i left ++ entry ∷ [] ++ rest ≡ done ++ whole
      → map (keyed to) whole ≡ put key_cmp (key_into to entry) entry.weight (map (keyed to) left) → IsNextOf to done left entry after rest
  next_of done left after rest whole entry i can before after_is split put_is =
      let there : map (keyed to) (after ++ rest) ≡ put key_cmp (key_into to entry) entry.weight (map (keyed to) (done ++ left)) =
      ap (λ (es : List Entry). map (keyed to) (es ++ rest)) after_is ∙ ap (map (keyed to)) split ∙ put_there done left can.after.0 whole entry can.after.1 put_is in
      let (rises, row) = row_put to (done ++ left) (after ++ rest) (key_into to entry) entry.weight can.rises there in
      record {
        rises = rises;
        row = row;
        next = λ more next. subst (AreRising to) (sym (ap (λ (es : List Entry). es ++ more) after_is ∙ joined done left more entry i)) (rises_next done left more entry i can.rises next before);
      }

  pub next_found : (done left after rest : List Entry) (entry : Entry) (i : ℕ) → CanPutNext to done left entry → IsEntryAt to left (key_into to entry) i → after ≡ done ++ take i left ++ entry ∷ [] → rest ≡ drop (i + 1) left
      → IsNextOf to done left entry after rest
  next_found done left after rest entry i can at after_is rest_is =
      let rises = rises_right done left can.rises in
      next_of done left after rest (set left i entry) entry i can (λ j d less inside. ap (key_cmp (key_into to (get_or left j d))) (sym (at.same d)) ∙ rising_pair to left rises j i d less at.inside) after_is
      (joined done left rest entry i ∙ ap (λ (es : List Entry). done ++ (take i left ++ entry ∷ es)) (rest_is ∙ (let one : i + 1 ≡ suc i = omega arith in ap (λ (n : ℕ). drop n left) one))
      ∙ ap (λ (es : List Entry). done ++ es) (sym (set_split left i entry at.inside))) (put_at to left i entry rises at)

  pub next_missed : (done left after rest : List Entry) (entry : Entry) (i : ℕ) → CanPutNext to done left entry → IsGapFor to left (key_into to entry) i → after ≡ done ++ take i left ++ entry ∷ [] → rest ≡ drop i left
      → IsNextOf to done left entry after rest
  next_missed done left after rest entry i can gap after_is rest_is =
      next_of done left after rest (insert left i entry) entry i can (λ j d less inside. gap.lesser j d less) after_is
      (joined done left rest entry i ∙ ap (λ (es : List Entry). done ++ (take i left ++ entry ∷ es)) rest_is ∙ ap (λ (es : List Entry). done ++ es) (sym (insert_split left i entry gap.inside))) (put_gap to left i entry gap)

  -- ---- all of them
  pub merging_begins : (entries new all left : List Entry) → AreRising to entries → AreRising to new → all ≡ [] → left ≡ entries → IsMerging to entries [] new all left
  merging_begins entries new all left one two none is = record {
    rises = subst (AreRising to) (sym (λ i. none i ++ is i)) one;
    row = λ i. row_with to (none i ++ is i);
    next = subst (λ (es : List Entry). AreRising to (es ++ new)) (sym none) two;
  }

  pub can_put_next : (entries new done all left : List Entry) (i : ℕ) (d : Entry) → i < length new → IsMerging to entries done (drop i new) all left → CanPutNext to all left (get_or new i d)
  can_put_next entries new done all left i d inside was = record {
    rises = was.rises;
    after = (drop (i + 1) new, subst (λ (es : List Entry). AreRising to (all ++ es)) (drop_more new i d inside) was.next);
  }

  pub merging_goes_on : (entries new all left after rest : List Entry) (i : ℕ) (d : Entry) → i < length new → IsMerging to entries (take i new) (drop i new) all left → IsNextOf to all left (get_or new i d) after rest
      → IsMerging to entries (take (i + 1) new) (drop (i + 1) new) after rest
  merging_goes_on entries new all left after rest i d inside was is = record {
    rises = is.rises;
    row = is.row
        ∙ ap (λ (r : TargetRow). record { to = to; weights = weights_set to r.weights (get_or new i d) }) was.row
        ∙ sym (ap (λ (es : List Entry). row_set (row_with to entries) es) (take_more new i d inside) ∙ ap (λ (m : map_of.FinMap key_cmp ℤ). record { to = to; weights = m })
        (fold_push (weights_set to) (row_with to entries).weights (take i new) (get_or new i d)));
    next = is.next (drop (i + 1) new) (subst (λ (es : List Entry). AreRising to (all ++ es)) (drop_more new i d inside) was.next);
  }

  pub merging_ends : (entries new all left whole : List Entry) (i : ℕ) → length new ≤ i → IsMerging to entries (take i new) (drop i new) all left → whole ≡ all ++ left → IsMerged to entries new whole
  merging_ends entries new all left whole i end was is = record {
    rises = subst (AreRising to) (sym is) was.rises;
    row = ap (row_with to) is ∙ was.row ∙ ap (row_set (row_with to entries)) (take_all i new end);
  }

  -- a row has what its entries say, one after another
  rises_left : (xs ys : List Entry) → AreRising to (xs ++ ys) → AreRising to xs
  rises_left [] ys rises = tt
  rises_left (x ∷ xs) ys rises = both_back _ _ (below_left (key_into to x) xs ys (both _ _ rises).0) (rises_left xs ys (both _ _ rises).1)

  row_built : (done more : List Entry) → AreRising to (done ++ more) → row_with to (done ++ more) ≡ row_set (row_with to done) more
  row_built done [] rises = ap (row_with to) (append-nil done)
  row_built done (entry ∷ more) rises =
      let after : List Entry = done ++ entry ∷ [] in
      let split : done ++ entry ∷ [] ++ more ≡ done ++ entry ∷ more = append_assoc done (entry ∷ []) more in
      let put_is : map (keyed to) (done ++ entry ∷ []) ≡ put key_cmp (key_into to entry) entry.weight (map (keyed to) done) =
      map-append (keyed to) done (entry ∷ []) ∙ sym (put_behind done [] more entry rises) ∙ ap (λ (es : List Entry). put key_cmp (key_into to entry) entry.weight (map (keyed to) es)) (append-nil done) in
      let (rises_now, row) = row_put to done (done ++ entry ∷ []) (key_into to entry) entry.weight (rises_left done (entry ∷ more) rises) put_is in
      ap (row_with to) (sym split) ∙ row_built (done ++ entry ∷ []) more (subst (AreRising to) (sym split) rises) ∙ ap (λ (r : TargetRow). row_set r more) row

  pub row_of_entries : (entries : List Entry) → AreRising to entries → row_with to entries ≡ row_set (row_with to []) entries
  row_of_entries entries rises = row_built [] entries rises

  -- ---- entries that rise one after another
  pub rises_more : (xs : List Entry) (i : ℕ) (d e : Entry) → 1 ≤ i → i < length xs → AreRising to (take i xs) → key_cmp (key_into to (get_or xs (i - 1) d)) (key_into to (get_or xs i e)) ≡ Less → AreRising to (take (i + 1) xs)
  rises_more xs i d e some inside rises less =
      subst (AreRising to) (sym (take_more xs i e inside)) (subst (λ (l : List Entry). AreRising to (l ++ get_or xs i e ∷ [])) (take_all i (take i xs) (omega (arith, short))) (rises_from (take i xs) [] (get_or xs i e) i rises tt before))
    where
      short : length (take i xs) ≡ i
      short = length-take-le i xs (omega (arith, inside))

      before : AreBefore (take i xs) i (get_or xs i e)
      before j f under within = by (j == i - 1) refl
        where
          at : get_or (take i xs) j f ≡ get_or xs j f
          at = get_or-take i xs j f under

          last : get_or (take i xs) (i - 1) f ≡ get_or xs (i - 1) d
          last = get_or-take i xs (i - 1) f (omega (arith, some)) ∙ get_or_default xs (i - 1) f d (omega (arith, inside))

          by : (b : Bool) → j == i - 1 ≡ b → key_cmp (key_into to (get_or (take i xs) j f)) (key_into to (get_or xs i e)) ≡ Less
          by true is = ap (λ (k : ℕ). key_cmp (key_into to (get_or (take i xs) k f)) (key_into to (get_or xs i e))) (eqb-true j (i - 1) is) ∙ ap (λ (x : Entry). key_cmp (key_into to x) (key_into to (get_or xs i e))) last ∙ less
          by false is =
              let sooner : j < i - 1 = grind (arith, nat_tests) in
              key_total.trans (key_into to (get_or (take i xs) j f)) (key_into to (get_or xs (i - 1) d)) (key_into to (get_or xs i e))
              (ap (λ (x : Entry). key_cmp (key_into to (get_or (take i xs) j f)) (key_into to x)) (sym last) ∙ rising_pair to (take i xs) rises j (i - 1) f sooner (omega (arith, short, some))) less

-- ---- the entries of the edges that a row made
pub entries_more : (to : PointId) (made : List Made) (k : ℕ) (d : Made) (entries after : List Entry) (x : Entry) → k < length made → All (λ (one : Made). one.edge.to ≡ to) made → map (edge_into to) entries ≡ edges_made (take k made)
    → edge_into (get_or made k d).edge.to x ≡ (get_or made k d).edge → after ≡ entries ++ x ∷ [] → map (edge_into to) after ≡ edges_made (take (k + 1) made)
entries_more to made k d entries after x inside ends was is pushed =
    let one : edge_into to x ≡ (get_or made k d).edge = (λ i. edge_into (sym (ends k d inside) i) x) ∙ is in
    ap (map (edge_into to)) pushed ∙ map_push (edge_into to) entries x ∙ (λ i. was i ++ one i ∷ []) ∙ sym (ap edges_made (take_more made k d inside) ∙ map_push (λ (m : Made). m.edge) (take k made) (get_or made k d))
