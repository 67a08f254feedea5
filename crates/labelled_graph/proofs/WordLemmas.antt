-- What words hold, one by one and in rows.
use Rattle.std.proofs.Common.{◌≡◌, ◌+◌, ◌||◌, ℕ, zero, suc, ℤ, pos, ◌+ℤ◌, ◌≤ℤ◌, ◌<ℤ◌, ◌<◌, ◌≤◌, ◌⊎◌, inl, inr, Bool, true, false, length, get_or, sym, subst, cond, List, [], ◌∷◌, map, replicate, Option, Some, None, refl, ap, ◌∙◌, arith}
use Rattle.std.specs.List.{slice_set}
use Rattle.std.specs.Prelude.{IsSomeAnd, int_lt}
use Rattle.std.specs.Int.{int_max, int_min}
use Rattle.std.specs.Ordering.{int_eq}
use Rattle.std.proofs.lemmas.Int.{ints, int_max_is}
use Rattle.labelled_graph.specs.Words.{absent, least_word, held, word_of, FitsWord, SaturatesHeld}

-- a word of a weight that it may hold is that weight
held-weight : (weight : ℤ) → FitsWord weight → held weight ≡ Some weight
held-weight weight small = let test : int_eq weight absent ≡ false = grind (arith, ints) in ap (λ b. cond b None (Some weight)) test

map_held-set : (words : List ℤ) (place : ℕ) (word : ℤ) → map held (slice_set words place word) ≡ slice_set (map held words) place (held word)
map_held-set [] place word = refl
map_held-set (w ∷ words) zero word = refl
map_held-set (w ∷ words) (suc place) word = ap (λ row. held w ∷ row) (map_held-set words place word)

pub absent_row : (points : ℕ) (words : List ℤ) → words ≡ replicate points absent → map held words ≡ replicate points None
absent_row points words is = ap (map held) is ∙ by points
  where
    by : (n : ℕ) → map held (replicate n absent) ≡ replicate n None
    by zero = refl
    by (suc n) = ap (λ row. None ∷ row) (by n)

pub row_with : (words : List ℤ) (row : List (Option ℤ)) (place : ℕ) (word weight : ℤ) → map held words ≡ row → word ≡ weight → FitsWord weight → map held (slice_set words place word) ≡ slice_set row place (Some weight)
row_with words row place word weight view same small = map_held-set words place word ∙ (λ i. slice_set (view i) place ((ap held same ∙ held-weight weight small) i))

-- ---- what does not improve
pub meets_absent : (first there weight : ℤ) → first ≡ absent → SaturatesHeld (held first) (held there) weight
meets_absent first there weight gone = let none : int_eq first absent ≡ true = grind (arith, ints) in subst (λ (b : Bool). SaturatesHeld (cond b None (Some first)) (held there) weight) (sym none) tt

pub meets_present : (first there weight : ℤ) → weight <ℤ pos 0 → first <ℤ absent → there ≤ℤ (int_max first (pos 0) +ℤ weight) → SaturatesHeld (held first) (held there) weight
meets_present first there weight negative below met =
    let some : int_eq first absent ≡ false = grind (arith, ints) in
    let lower : int_eq there absent ≡ false = grind (arith, ints, int_max_is) in
    subst (λ (b : Bool). SaturatesHeld (cond b None (Some first)) (held there) weight) (sym some)
    (subst (λ (b : Bool). IsSomeAnd (cond b None (Some there)) (λ (u : ℤ). u ≤ℤ (int_max first (pos 0) +ℤ weight))) (sym lower) met)

-- what is not below the lesser of a word and of the limit is saturated: the word of no weight gives the limit, and any other word a number
-- below it
pub improves_under : (first there weight : ℤ) (descends : Bool) → descends ≡ int_lt (int_max first (pos 0) +ℤ weight) (int_min there (absent +ℤ weight)) → weight <ℤ pos 0 → first ≤ℤ absent → descends ≡ false
    → SaturatesHeld (held first) (held there) weight
improves_under first there weight descends is negative most none = by (int_eq first absent) refl
  where
    low : int_lt (int_max first (pos 0) +ℤ weight) (int_min there (absent +ℤ weight)) ≡ false
    low = sym is ∙ none

    by : (gone : Bool) → int_eq first absent ≡ gone → SaturatesHeld (held first) (held there) weight
    by true gone = meets_absent first there weight (grind (arith, ints))
    by false gone = meets_present first there weight negative below (least (int_lt (absent +ℤ weight) there) low)
      where
        below : first <ℤ absent
        below = grind (arith, ints)

        limit : int_max first (pos 0) <ℤ absent
        limit = grind (arith, ints, int_max_is)

        least : (over : Bool) → int_lt (int_max first (pos 0) +ℤ weight) (cond over (absent +ℤ weight) there) ≡ false → there ≤ℤ (int_max first (pos 0) +ℤ weight)
        least true kept = absurd (grind (arith, ints))
        least false kept = grind (arith, ints)

pub held_at : (words : List ℤ) (k : ℕ) → k < length words → get_or (map held words) k None ≡ held (get_or words k (pos 0))
held_at [] k below = absurd (omega (arith, below))
held_at (w ∷ words) zero below = refl
held_at (w ∷ words) (suc k) below = held_at words k (omega (arith, below))

pub row_meets : (firsts there : List ℤ) (row other : List (Option ℤ)) (from end : ℕ) (weight : ℤ) → map held firsts ≡ row → map held there ≡ other → end ≤ length firsts → end ≤ length there
    → ((k : ℕ) → from ≤ k → k < end → SaturatesHeld (held (get_or firsts k (pos 0))) (held (get_or there k (pos 0))) weight) → (k : ℕ) → from ≤ k → k < end → SaturatesHeld (get_or row k None) (get_or other k None) weight
row_meets firsts there row other from end weight one two few fewer saturates k after below =
    subst (λ (r : List (Option ℤ)). SaturatesHeld (get_or r k None) (get_or other k None) weight) one
    (subst (λ (r : List (Option ℤ)). SaturatesHeld (get_or (map held firsts) k None) (get_or r k None) weight) two
    (subst (λ (o : Option ℤ). SaturatesHeld o (get_or (map held there) k None) weight) (sym (held_at firsts k (omega (arith, below, few))))
    (subst (λ (o : Option ℤ). SaturatesHeld (held (get_or firsts k (pos 0))) o weight) (sym (held_at there k (omega (arith, below, fewer)))) (saturates k after below))))

abbrev pub AreMet : (firsts there : List ℤ) (from end : ℕ) (weight : ℤ) → Type 0
AreMet firsts there from end weight = (k : ℕ) → from ≤ k → k < end → SaturatesHeld (held (get_or firsts k (pos 0))) (held (get_or there k (pos 0))) weight

pub one_more : (firsts there : List ℤ) (from place : ℕ) (weight : ℤ) (before one : Bool) → (before ≡ false → AreMet firsts there from place weight)
    → (one ≡ false → SaturatesHeld (held (get_or firsts place (pos 0))) (held (get_or there place (pos 0))) weight) → (before || one) ≡ false → AreMet firsts there from (place + 1) weight
one_more firsts there from place weight true one all here none k after below = absurd cc
one_more firsts there from place weight false one all here none k after below = by (cases k place below)
  where
    cases : (k n : ℕ) → k < n + 1 → (k < n) ⊎ (k ≡ n)
    cases k n below = grind arith

    by : (k < place) ⊎ (k ≡ place) → SaturatesHeld (held (get_or firsts k (pos 0))) (held (get_or there k (pos 0))) weight
    by (inl less) = all refl k after less
    by (inr same) = subst (λ (n : ℕ). SaturatesHeld (held (get_or firsts n (pos 0))) (held (get_or there n (pos 0))) weight) (sym same) (here none)

-- ---- the nearest words
-- what the nearest word of a weight that fits holds is that weight
pub word_of_same : (weight : ℤ) → FitsWord weight → held (word_of (Some weight)) ≡ Some weight
word_of_same weight small =
    let above : int_lt weight least_word ≡ false = grind (arith, ints) in
    let below : int_lt absent weight ≡ false = grind (arith, ints) in
    ap held (ap (λ b. cond b least_word (cond (int_lt absent weight) absent weight)) above ∙ ap (λ b. cond b absent weight) below) ∙ held-weight weight small

-- words that hold the same are the same
pub held_once : (one other : ℤ) → held one ≡ held other → one ≡ other
held_once one other same = by (int_eq one absent) refl (int_eq other absent) refl
  where
    by : (a : Bool) → int_eq one absent ≡ a → (b : Bool) → int_eq other absent ≡ b → one ≡ other
    by true is true as_well = let first : one ≡ absent = grind (arith, ints) in let second : other ≡ absent = grind (arith, ints) in first ∙ sym second
    by true is false apart = let no : ◌≡◌ {A = Option ℤ} None (Some other) = sym (ap (λ b. cond b None (Some one)) is) ∙ same ∙ ap (λ b. cond b None (Some other)) apart in absurd cc
    by false apart true is = let no : ◌≡◌ {A = Option ℤ} (Some one) None = sym (ap (λ b. cond b None (Some one)) apart) ∙ same ∙ ap (λ b. cond b None (Some other)) is in absurd cc
    by false one_is false other_is = let both : Some one ≡ Some other = sym (ap (λ b. cond b None (Some one)) one_is) ∙ same ∙ ap (λ b. cond b None (Some other)) other_is in cc

-- a row after the nearest word of what a key has was put at a place
pub row_put : (words new : List ℤ) (row : List (Option ℤ)) (place : ℕ) (o : Option ℤ) → map held words ≡ row → new ≡ slice_set words place (word_of o) → map held new ≡ slice_set row place (held (word_of o))
row_put words new row place o view is = ap (map held) is ∙ map_held-set words place (word_of o) ∙ ap (λ r. slice_set r place (held (word_of o))) view

-- a row without a place for a point stays as it is
pub set_beyond : {A : Type 0} (row : List A) (place : ℕ) (one : A) → length row ≤ place → slice_set row place one ≡ row
set_beyond [] place one out = refl
set_beyond (x ∷ row) zero one out = absurd (omega (arith, out))
set_beyond (x ∷ row) (suc place) one out = ap (λ r. x ∷ r) (set_beyond row place one (omega (arith, out)))
