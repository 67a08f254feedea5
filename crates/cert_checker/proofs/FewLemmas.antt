-- What starts have for a point, and what they have after one of them was set or put in; and the words that they have for all points.
use Rattle.std.proofs.Common.{◌≡◌, ◌≢◌, ℕ, zero, suc, ◌+◌, ◌-◌, ◌==◌, ◌<◌, ◌≤◌, ℤ, ◌≤ℤ◌, Bool, true, false, cond, ◌⊎◌, inl, inr, List, [], ◌∷◌, length, map, get_or, set, insert, get_or-set_same, get_or-set_other, length-set, Result, Ok}
use Rattle.std.proofs.Common.{Err, refl, ap, sym, subst, ◌∙◌, arith}
use Rattle.std.specs.Prelude.{replicate, nat_lt}
use Rattle.std.specs.Int.{int_min}
use Rattle.std.specs.List.{range_with_len}
use Rattle.std.specs.List.Sorted.{IsSearchInRange, IsBinarySearchResult, IsNonDecreasingBy}
use Rattle.std.specs.Ordering.{nat_cmp, ordering_index, MatchOrdering}
use Rattle.std.specs.Cmp.{ranks}
use Rattle.std.specs.declared.cmp.Ordering.TheVariants.{Less, Equal, Greater}
use Rattle.std.proofs.lemmas.Bool.{eqb-true}
use Rattle.std.proofs.lemmas.Bool.Decides.{nat_tests}
use Rattle.std.proofs.lemmas.Int.{ints}
use Rattle.std.proofs.lemmas.List.{same_lists}
use Rattle.std.proofs.lemmas.List.Edits.{length-insert, get_or-insert_at, get_or-insert_below, get_or-insert_above}
use Rattle.std.proofs.lemmas.List.FromFn.{get_or-map-range_with_len, length-map-range_with_len}
use Rattle.cert_checker.specs.declared.few.Start.{Start}
use Rattle.cert_checker.specs.Least.{absent, lowered_row}
use Rattle.cert_checker.specs.Few.{start_word_of, words_of, AreRisingStarts, IsStartAt, IsGapForPoint, IsPlaceOfPoint}

-- ---- what they have for a point
abbrev Rise : List Start → Type 0
Rise starts = (j k : ℕ) (d : Start) → j < k → k < length starts → (get_or starts j d).from < (get_or starts k d).from

rest_rise : (start : Start) (starts : List Start) → Rise (start ∷ starts) → Rise starts
rest_rise start starts rise j k d less inside = rise (suc j) (suc k) d (omega arith) (omega arith)

chosen : (b : Bool) (x y : ℤ) → b ≡ true → cond b x y ≡ x
chosen b x y is = ap (λ (c : Bool). cond c x y) is

left_out : (b : Bool) (x y : ℤ) → b ≡ false → cond b x y ≡ y
left_out b x y is = ap (λ (c : Bool). cond c x y) is

same_point : (m n : ℕ) → m ≡ n → m == n ≡ true
same_point m n is = grind (arith, nat_tests)

other_point : (m n : ℕ) → m ≢ n → m == n ≡ false
other_point m n apart = grind (arith, nat_tests)

pub word_at : (starts : List Start) (place from : ℕ) (d : Start) → Rise starts → IsStartAt starts from place → start_word_of starts from ≡ (get_or starts place d).word
word_at [] place from d rise at = absurd (let inside = at.inside in omega arith)
word_at (start ∷ starts) zero from d rise at = chosen (start.from == from) start.word (start_word_of starts from) (same_point start.from from (at.same d))
word_at (start ∷ starts) (suc place) from d rise at =
    let inside = at.inside in
    let less : start.from < (get_or starts place d).from = rise 0 (suc place) d (omega arith) inside in
    let is : (get_or starts place d).from ≡ from = at.same d in
    left_out (start.from == from) start.word (start_word_of starts from) (other_point start.from from (λ same. omega arith))
    ∙ word_at starts place from d (rest_rise start starts rise) (record { inside = omega arith; same = at.same })

word_absent : (starts : List Start) (from : ℕ) → ((k : ℕ) (d : Start) → k < length starts → (get_or starts k d).from ≢ from) → start_word_of starts from ≡ absent
word_absent [] from none = refl
word_absent (start ∷ starts) from none =
    left_out (start.from == from) start.word (start_word_of starts from) (other_point start.from from (none 0 start (omega arith)))
    ∙ word_absent starts from (λ k d inside. none (suc k) d (omega arith))

gap_none : (starts : List Start) (from place : ℕ) → IsGapForPoint starts from place → (k : ℕ) (d : Start) → k < length starts → (get_or starts k d).from ≢ from
gap_none starts from place gap k d inside same = by (nat_lt k place) refl
  where
    by : (b : Bool) → nat_lt k place ≡ b → ⊥
    by true is = let less = gap.lower k d (grind (arith, nat_tests)) in omega arith
    by false is = let more = gap.higher k d (grind (arith, nat_tests)) inside in omega arith

-- one of them is that of the point, or the point has none
abbrev pub OneOrNone : List Start → ℕ → Type 0
OneOrNone starts from = (start_word_of starts from ≡ absent) ⊎ ((k : ℕ) × (k < length starts) × ((d : Start) → ((get_or starts k d).from ≡ from) × (start_word_of starts from ≡ (get_or starts k d).word)))

pub one_or_none : (starts : List Start) (from : ℕ) → OneOrNone starts from
one_or_none [] from = inl refl
one_or_none (start ∷ starts) from = by (start.from == from) refl (one_or_none starts from)
  where
    by : (b : Bool) → start.from == from ≡ b → OneOrNone starts from → OneOrNone (start ∷ starts) from
    by true is rest = inr (0, omega arith, λ d. (eqb-true start.from from is, chosen (start.from == from) start.word (start_word_of starts from) is))
    by false is (inl none) = inl (left_out (start.from == from) start.word (start_word_of starts from) is ∙ none)
    by false is (inr (k, inside, at)) = inr (suc k, omega arith, λ d. ((at d).0, left_out (start.from == from) start.word (start_word_of starts from) is ∙ (at d).1))

-- ---- one set or put in
twice : (b c : Bool) (x y z : ℤ) → (b ≡ true → c ≡ true → ⊥) → cond b x (cond c y z) ≡ cond c y (cond b x z)
twice true true x y z not_both = absurd (not_both refl refl)
twice true false x y z not_both = refl
twice false c x y z not_both = refl

over : (b : Bool) (x y z : ℤ) → cond b x z ≡ cond b x (cond b y z)
over true x y z = refl
over false x y z = refl

pub word_set : (starts : List Start) (place : ℕ) (one : Start) → Rise starts → IsStartAt starts one.from place → (j : ℕ) → start_word_of (set starts place one) j ≡ cond (one.from == j) one.word (start_word_of starts j)
word_set [] place one rise at j = absurd (let inside = at.inside in omega arith)
word_set (start ∷ starts) zero one rise at j =
    over (one.from == j) one.word start.word (start_word_of starts j)
    ∙ ap (λ (n : ℕ). cond (one.from == j) one.word (cond (n == j) start.word (start_word_of starts j))) (sym (at.same one))
word_set (start ∷ starts) (suc place) one rise at j =
    let inside = at.inside in
    let less : start.from < (get_or starts place one).from = rise 0 (suc place) one (omega arith) inside in
    let is : (get_or starts place one).from ≡ one.from = at.same one in
    ap (cond (start.from == j) start.word) (word_set starts place one (rest_rise start starts rise) (record { inside = omega arith; same = at.same }) j)
    ∙ twice (start.from == j) (one.from == j) start.word one.word (start_word_of starts j) (λ here there. (let first = eqb-true start.from j here in let second = eqb-true one.from j there in omega arith))

pub word_put : (starts : List Start) (place : ℕ) (one : Start) → IsGapForPoint starts one.from place → (j : ℕ) → start_word_of (insert starts place one) j ≡ cond (one.from == j) one.word (start_word_of starts j)
word_put [] zero one gap j = refl
word_put [] (suc place) one gap j = absurd (let inside = gap.inside in omega arith)
word_put (start ∷ starts) zero one gap j = refl
word_put (start ∷ starts) (suc place) one gap j =
    let less : start.from < one.from = gap.lower 0 start (omega arith) in
    let rest : IsGapForPoint starts one.from place = record {
      inside = (let inside = gap.inside in omega arith);
      lower = λ k d before. gap.lower (suc k) d (omega arith);
      higher = λ k d from inside. gap.higher (suc k) d (omega arith) (omega arith);
    } in
    ap (cond (start.from == j) start.word) (word_put starts place one rest j)
    ∙ twice (start.from == j) (one.from == j) start.word one.word (start_word_of starts j) (λ here there. (let first = eqb-true start.from j here in let second = eqb-true one.from j there in omega arith))

-- ---- they go on rising
set_from : (starts : List Start) (place : ℕ) (one : Start) → IsStartAt starts one.from place → (k : ℕ) (d : Start) → (get_or (set starts place one) k d).from ≡ (get_or starts k d).from
set_from starts place one at k d = by (k == place) refl
  where
    by : (b : Bool) → k == place ≡ b → (get_or (set starts place one) k d).from ≡ (get_or starts k d).from
    by true is =
        let same : k ≡ place = eqb-true k place is in
        ap (λ (n : ℕ). (get_or (set starts place one) n d).from) same ∙ ap (λ (s : Start). s.from) (get_or-set_same starts place one d at.inside) ∙ sym (at.same d) ∙ ap (λ (n : ℕ). (get_or starts n d).from) (sym same)
    by false is = ap (λ (s : Start). s.from) (get_or-set_other starts place k one d (grind (arith, nat_tests)))

pub starts_set : (points : ℕ) (starts : List Start) (place : ℕ) (one : Start) → AreRisingStarts points starts → IsStartAt starts one.from place → AreRisingStarts points (set starts place one)
starts_set points starts place one are at =
    let long = length-set starts place one in
    record {
      inside = λ k d inside. (let few = are.inside k d (omega arith) in let same = set_from starts place one at k d in omega arith);
      rise = λ j k d less inside. (let up = are.rise j k d less (omega arith) in let first = set_from starts place one at j d in let second = set_from starts place one at k d in omega arith);
    }

-- where an item stands after one was put in
abbrev Stands : (starts : List Start) (place : ℕ) (one : Start) (k : ℕ) (d : Start) → Type 0
Stands starts place one k d =
    ((k < place) × ((get_or (insert starts place one) k d).from ≡ (get_or starts k d).from))
    ⊎ (((k ≡ place) × ((get_or (insert starts place one) k d).from ≡ one.from)) ⊎ ((place < k) × ((get_or (insert starts place one) k d).from ≡ (get_or starts (k - 1) d).from)))

stands : (starts : List Start) (place : ℕ) (one : Start) → place ≤ length starts → (k : ℕ) (d : Start) → Stands starts place one k d
stands starts place one inside k d = by (nat_lt k place) (k == place) refl refl
  where
    at : (k < place) ⊎ ((k ≡ place) ⊎ (place < k)) → Stands starts place one k d
    at (inl before) = inl (before, ap (λ (s : Start). s.from) (get_or-insert_below starts place one d k before inside))
    at (inr (inl here)) = inr (inl (here, ap (λ (n : ℕ). (get_or (insert starts place one) n d).from) here ∙ ap (λ (s : Start). s.from) (get_or-insert_at starts place one d inside)))
    at (inr (inr later)) =
        let back : k ≡ k - 1 + 1 = omega arith in
        inr (inr (later, ap (λ (n : ℕ). (get_or (insert starts place one) n d).from) back ∙ ap (λ (s : Start). s.from) (get_or-insert_above starts place one d (k - 1) (omega arith) inside)))

    by : (b c : Bool) → nat_lt k place ≡ b → k == place ≡ c → Stands starts place one k d
    by true c less same = at (inl (grind (arith, nat_tests)))
    by false true less same = at (inr (inl (grind (arith, nat_tests))))
    by false false less same = at (inr (inr (grind (arith, nat_tests))))

pub starts_put : (points : ℕ) (starts : List Start) (place : ℕ) (one : Start) → AreRisingStarts points starts → IsGapForPoint starts one.from place → one.from < points → AreRisingStarts points (insert starts place one)
starts_put points starts place one are gap low =
    record {
      inside = λ k d inside. within k d inside (stands starts place one gap.inside k d);
      rise = λ j k d less inside. up j k d less inside (stands starts place one gap.inside j d) (stands starts place one gap.inside k d);
    }
  where
    long : length (insert starts place one) ≡ length starts + 1
    long = length-insert starts place one gap.inside

    within : (k : ℕ) (d : Start) → k < length (insert starts place one) → Stands starts place one k d → (get_or (insert starts place one) k d).from < points
    within k d inside (inl (before, is)) = let range = gap.inside in let few = are.inside k d (omega arith) in omega arith
    within k d inside (inr (inl (here, is))) = omega arith
    within k d inside (inr (inr (later, is))) = let more = long in let few = are.inside (k - 1) d (omega arith) in omega arith

    up : (j k : ℕ) (d : Start) → j < k → k < length (insert starts place one) → Stands starts place one j d → Stands starts place one k d → (get_or (insert starts place one) j d).from < (get_or (insert starts place one) k d).from
    up j k d less inside (inl (before, first)) (inl (too, second)) = let range = gap.inside in let rise = are.rise j k d less (omega arith) in omega arith
    up j k d less inside (inl (before, first)) (inr (inl (here, second))) = let low = gap.lower j d before in omega arith
    up j k d less inside (inl (before, first)) (inr (inr (later, second))) =
        let more = long in
        let low = gap.lower j d before in
        let high = gap.higher (k - 1) d (omega arith) (omega arith) in
        omega arith
    up j k d less inside (inr (inl (here, first))) (inl (too, second)) = absurd (omega arith)
    up j k d less inside (inr (inl (here, first))) (inr (inl (same, second))) = absurd (omega arith)
    up j k d less inside (inr (inl (here, first))) (inr (inr (later, second))) = let more = long in let high = gap.higher (k - 1) d (omega arith) (omega arith) in omega arith
    up j k d less inside (inr (inr (after, first))) (inl (too, second)) = absurd (omega arith)
    up j k d less inside (inr (inr (after, first))) (inr (inl (same, second))) = absurd (omega arith)
    up j k d less inside (inr (inr (after, first))) (inr (inr (later, second))) = let more = long in let rise = are.rise (j - 1) (k - 1) d (omega arith) (omega arith) in omega arith

-- ---- the words of all points
pub word_in : (points : ℕ) (starts : List Start) (from : ℕ) (d : ℤ) → from < points → get_or (words_of points starts) from d ≡ start_word_of starts from
word_in points starts from d inside = get_or-map-range_with_len (start_word_of starts) 0 points from from d inside (omega arith)

pub words_long : (points : ℕ) (starts : List Start) → length (words_of points starts) ≡ points
words_long points starts = length-map-range_with_len (start_word_of starts) 0 points

pub found_word : (points : ℕ) (starts : List Start) (from place : ℕ) (d : Start) → AreRisingStarts points starts → from < points → IsStartAt starts from place → get_or (words_of points starts) from absent ≡ (get_or starts place d).word
found_word points starts from place d are inside at = word_in points starts from absent inside ∙ word_at starts place from d are.rise at

pub missed_word : (points : ℕ) (starts : List Start) (from place : ℕ) → from < points → IsGapForPoint starts from place → get_or (words_of points starts) from absent ≡ absent
missed_word points starts from place inside gap = word_in points starts from absent inside ∙ word_absent starts from (gap_none starts from place gap)

-- words that differ at one point by the least of two
pub words_lowered : (points : ℕ) (starts after : List Start) (from : ℕ) (word weight : ℤ) → from < points → word ≡ int_min (get_or (words_of points starts) from absent) weight
    → ((j : ℕ) → start_word_of after j ≡ cond (from == j) word (start_word_of starts j)) → words_of points after ≡ lowered_row (words_of points starts) from weight
words_lowered points starts after from word weight inside is each =
    same_lists (words_of points after) (lowered_row (words_of points starts) from weight) (words_long points after ∙ sym (words_long points starts) ∙ sym (length-set (words_of points starts) from _))
    (λ k d within. (let long = words_long points after in word_in points after k d (omega arith) ∙ (each k ∙ at k d (omega arith) (from == k) refl)))
  where
    least : ℤ
    least = int_min (get_or (words_of points starts) from absent) weight

    at : (k : ℕ) (d : ℤ) → k < points → (b : Bool) → from == k ≡ b → cond (from == k) word (start_word_of starts k) ≡ get_or (lowered_row (words_of points starts) from weight) k d
    at k d within true same =
        let here : from ≡ k = eqb-true from k same in
        let long = words_long points starts in
        chosen (from == k) word (start_word_of starts k) same ∙ (is ∙ (sym (get_or-set_same (words_of points starts) from (int_min (get_or (words_of points starts) from absent) weight) d (omega arith))
        ∙ ap (λ (n : ℕ). get_or (lowered_row (words_of points starts) from weight) n d) here))
    at k d within false apart =
        left_out (from == k) word (start_word_of starts k) apart
        ∙ (sym (word_in points starts k d within) ∙ sym (get_or-set_other (words_of points starts) from k (int_min (get_or (words_of points starts) from absent) weight) d (grind (arith, nat_tests))))

-- ---- a search among them
module _ (from : ℕ) where
  pub searched : (points : ℕ) (starts : List Start) → AreRisingStarts points starts → (r : Result ℕ ℕ) → IsSearchInRange r (length starts) → IsBinarySearchResult (λ start. nat_cmp start.from from) starts r → IsPlaceOfPoint starts from r
  searched points starts are (Ok place) range found = record { inside = range; same = λ d. same_by (get_or starts place d).from (found d) }
    where
      same_by : (n : ℕ) → nat_cmp n from ≡ Equal → n ≡ from
      same_by n is = subst (λ o. MatchOrdering o (n < from) (n ≡ from) (from < n)) is (ranks n from)
  searched points starts are (Err place) range parted = record {
    inside = range;
    lower = λ k d before. less_by (get_or starts k d).from ((parted up).0 k d (omega arith) before);
    higher = λ k d at inside. more_by (get_or starts k d).from ((parted up).1 k d at inside);
  }
    where
      up : IsNonDecreasingBy (λ (start : Start). ordering_index (nat_cmp start.from from)) starts
      up i j d le inside = by (i == j) refl
        where
          higher : (a b : ℕ) → a ≤ b → ordering_index (nat_cmp a from) ≤ ordering_index (nat_cmp b from)
          higher a b less = grind (arith, nat_tests)

          by : (b : Bool) → i == j ≡ b → ordering_index (nat_cmp (get_or starts i d).from from) ≤ ordering_index (nat_cmp (get_or starts j d).from from)
          by true is = let same : ordering_index (nat_cmp (get_or starts i d).from from) ≡ ordering_index (nat_cmp (get_or starts j d).from from) = ap (λ (n : ℕ). ordering_index (nat_cmp (get_or starts n d).from from)) (eqb-true i j is) in
              omega arith
          by false is = let less = are.rise i j d (grind (arith, nat_tests)) inside in higher (get_or starts i d).from (get_or starts j d).from (omega arith)

      less_by : (n : ℕ) → nat_cmp n from ≡ Less → n < from
      less_by n is = subst (λ o. MatchOrdering o (n < from) (n ≡ from) (from < n)) is (ranks n from)

      more_by : (n : ℕ) → nat_cmp n from ≡ Greater → from < n
      more_by n is = subst (λ o. MatchOrdering o (n < from) (n ≡ from) (from < n)) is (ranks n from)

-- ---- a row that is stored so
pub none_words : (points : ℕ) (starts : List Start) → starts ≡ [] → words_of points starts ≡ replicate points absent
none_words points starts none = ap (words_of points) none ∙ from 0 points
  where
    from : (first n : ℕ) → map (start_word_of []) (range_with_len first n) ≡ replicate n absent
    from first zero = refl
    from first (suc n) = ap (λ ws. absent ∷ ws) (from (first + 1) n)

least_absent : (w : ℤ) → w ≤ℤ absent → w ≡ int_min absent w
least_absent w within = grind (arith, ints)

module _ (points : ℕ) (starts : List Start) (row : List ℤ) (view : words_of points starts ≡ row) (are : AreRisingStarts points starts) where
  pub row_long : points ≡ length row
  row_long = sym (words_long points starts) ∙ ap length view

  module _ (searched : List Start) (is : searched ≡ starts) where
    here_are : AreRisingStarts points searched
    here_are = subst (AreRisingStarts points) (sym is) are

    here_view : words_of points searched ≡ row
    here_view = ap (words_of points) is ∙ view

    pub starts_words : row ≡ words_of (length row) searched
    starts_words = sym here_view ∙ ap (λ (n : ℕ). words_of n searched) row_long

    pub starts_are : AreRisingStarts (length row) searched
    starts_are = subst (λ (n : ℕ). AreRisingStarts n searched) row_long here_are

    module _ (from : ℕ) (inside : from < length row) where
      pub row_found : (place : ℕ) (d : Start) → ((n : ℕ) → AreRisingStarts n searched → IsPlaceOfPoint searched from (Ok place)) → (get_or starts place d).word ≡ get_or row from absent
      row_found place d at =
          let long = row_long in
          ap (λ (xs : List Start). (get_or xs place d).word) (sym is)
          ∙ sym (found_word points searched from place d here_are (omega arith) (at points here_are)) ∙ ap (λ (r : List ℤ). get_or r from absent) here_view

      pub row_missed : (place : ℕ) → ((n : ℕ) → AreRisingStarts n searched → IsPlaceOfPoint searched from (Err place)) → absent ≡ get_or row from absent
      row_missed place gap =
          let long = row_long in
          sym (missed_word points searched from place (omega arith) (gap points here_are)) ∙ ap (λ (r : List ℤ). get_or r from absent) here_view

    module _ (one : Start) (weight : ℤ) (inside : one.from < length row) where
      pub row_set : (place : ℕ) → ((n : ℕ) → AreRisingStarts n searched → IsPlaceOfPoint searched one.from (Ok place)) → one.word ≡ int_min (get_or row one.from absent) weight
          → AreRisingStarts points (set starts place one) × (words_of points (set starts place one) ≡ lowered_row row one.from weight)
      row_set place at word =
          let long = row_long in
          let there : IsStartAt starts one.from place = subst (λ (xs : List Start). IsStartAt xs one.from place) is (at points here_are) in
          let least : one.word ≡ int_min (get_or (words_of points starts) one.from absent) weight = word ∙ ap (λ (r : List ℤ). int_min (get_or r one.from absent) weight) (sym view) in (
            starts_set points starts place one are there,
            words_lowered points starts (set starts place one) one.from one.word weight (omega arith) least (word_set starts place one are.rise there) ∙ ap (λ (r : List ℤ). lowered_row r one.from weight) view,
          )

      pub row_put : (place : ℕ) → ((n : ℕ) → AreRisingStarts n searched → IsPlaceOfPoint searched one.from (Err place)) → one.word ≡ weight → weight ≤ℤ absent
          → (after : List Start) → after ≡ insert starts place one → AreRisingStarts points after × (words_of points after ≡ lowered_row row one.from weight)
      row_put place gap word within after put =
          let long = row_long in
          let there : IsGapForPoint starts one.from place = subst (λ (xs : List Start). IsGapForPoint xs one.from place) is (gap points here_are) in
          let least : one.word ≡ int_min (get_or (words_of points starts) one.from absent) weight =
          word ∙ (least_absent weight within ∙ ap (λ (w : ℤ). int_min w weight) (sym (missed_word points starts one.from place (omega arith) there))) in (
            subst (AreRisingStarts points) (sym put) (starts_put points starts place one are there (omega arith)),
            ap (words_of points) put ∙ words_lowered points starts (insert starts place one) one.from one.word weight (omega arith) least (word_put starts place one there) ∙ ap (λ (r : List ℤ). lowered_row r one.from weight) view,
          )
