-- The bytes of a window after a take after them, and the place of a line end in them.
use Rattle.std.proofs.Common.{◌≡◌, ℕ, ◌+◌, ◌-◌, ◌≤◌, Bool, true, false, cond, nat_lt, List, [], ◌++◌, length, take, drop, slice_range, Some, None, refl, sym, ap, ◌∙◌, arith, eq-eqb}
use Rattle.std.specs.Option.{option_map}
use Rattle.std.specs.List.{position, position_or_len}
use Rattle.std.proofs.lemmas.List.{take_at, drop_at, take-append-le, drop-append-le, drop-take, drop-drop, length-take-le, length-drop, length-append, length-take}
use Rattle.std.proofs.lemmas.List.Folds.{prefix_len-append}
use Rattle.std.proofs.lemmas.List.Sums.{prefix_len-le-length}
use Rattle.std.proofs.lemmas.Option.{none-some}
use Rattle.plan_port.specs.Talk.{bytes_given}
use Rattle.plan_port.specs.declared.ports.Took.{Took}
use Rattle.plan_port.specs.declared.ports.Took.TheVariants.{Bytes, End, Failed}
use Rattle.std.proofs.lemmas.Slice.{between_is, take-put_mid_below}
use Rattle.std.proofs.lemmas.Bool.Decides.{nat_tests}
use borrow.Rule.Slice.PartMut.{put_mid, post_of}
use lib.Seq.{take-add}

pub grown : (xs ys : List ℕ) (start end k n : ℕ) → start ≤ end → end ≤ length xs → n ≤ length ys → slice_range (put_mid end k xs ys) start (end + n) ≡ slice_range xs start end ++ take n ys
grown xs ys start end k n ordered within fits =
    let prefix = length-take-le end xs within in
    let held = drop start (take end xs) in
    let len : length held ≡ end - start = omega (arith, length-drop start (take end xs)) in
    let sum : end + n - start ≡ (end - start) + n = omega arith in
    let parts : end ≡ start + (end - start) = omega arith in
    let same : held ≡ take (end - start) (drop start xs) = ap (λ j. drop start (take j xs)) parts ∙ drop-take start (end - start) xs in
    let after = ys ++ post_of end k xs in
    ap (take (end + n - start)) (drop-append-le start (take end xs) after (omega arith))
    ∙ ap (λ j. take j (held ++ after)) sum ∙ take-add (end - start) n (held ++ after)
    ∙ (rw (take_at held after _ len, drop_at held after _ len, take-append-le n ys (post_of end k xs) fits, same) refl)

-- what comes before the place of a write
pub below : (xs ys : List ℕ) (i j a k : ℕ) → j ≤ a → a ≤ length xs → slice_range (put_mid a k xs ys) i j ≡ slice_range xs i j
below xs ys i j a k le within =
    between_is (put_mid a k xs ys) i j ∙ ap (λ (l : List ℕ). drop i l) (take-put_mid_below a k xs ys j le within) ∙ sym (between_is xs i j)

-- a vector's items after a write into a part of it that was lent
pub lent : (items d ys : List ℕ) (len a : ℕ) → d ≡ items → len ≡ length items → a ≤ len → length ys ≡ length d - a
    → take len (put_mid a (length d - a) d ys ++ drop (length (put_mid a (length d - a) d ys)) items) ≡ put_mid a (length d - a) items ys
lent items d ys len a same size within fits =
    let whole = put_mid a (length d - a) d ys in
    let same_size : length d ≡ length items = ap (λ (l : List ℕ). length l) same in
    let n : length whole ≡ len = simp (length-append, length-take, length-drop) (omega arith) in
    take_at whole _ len n ∙ ap (λ (l : List ℕ). put_mid a (length d - a) l ys) same

pub consumed : (xs : List ℕ) (start end count : ℕ) → start + count ≤ end → slice_range xs (start + count) end ≡ drop count (slice_range xs start end)
consumed xs start end count inside =
    let parts : end - start ≡ count + (end - (start + count)) = omega arith in
    sym (ap (λ j. drop count (take j (drop start xs))) parts ∙ drop-take count _ (drop start xs)
    ∙ ap (take (end - (start + count))) (drop-drop count start xs))

-- a part of a list is its own prefix and what follows that
pub split_range : (xs : List ℕ) (i j k : ℕ) → i ≤ j → j ≤ k → slice_range xs i k ≡ slice_range xs i j ++ slice_range xs j k
split_range xs i j k le le' =
    let sum : k - i ≡ (j - i) + (k - j) = omega arith in
    let at : i + (j - i) ≡ j = omega arith in
    ap (λ n. take n (drop i xs)) sum ∙ take-add (j - i) (k - j) (drop i xs) ∙ ap (λ (l : List ℕ). take (j - i) (drop i xs) ++ take (k - j) l) (drop-drop (j - i) i xs ∙ ap (λ n. drop n xs) at)

pub length_range : (xs : List ℕ) (i j : ℕ) → i ≤ j → j ≤ length xs → length (slice_range xs i j) ≡ j - i
length_range xs i j le within = omega (arith, length-take (j - i) (drop i xs), length-drop i xs)

shifted : (a b n : ℕ) → cond (nat_lt (a + b) (a + n)) (Some (a + b)) None ≡ option_map (λ i. a + i) (cond (nat_lt b n) (Some b) None)
shifted a b n =
    let same : nat_lt (a + b) (a + n) ≡ nat_lt b n = grind (arith, nat_tests) in
    let cases : (t : Bool) → cond t (Some (a + b)) None ≡ option_map (λ i. a + i) (cond t (Some b) None) = λ t. elim t as (λ t. cond t (Some (a + b)) None ≡ option_map (λ i. a + i) (cond t (Some b) None)) [ true ↦ refl | false ↦ refl ] in
    ap (λ t. cond t (Some (a + b)) None) same ∙ cases (nat_lt b n)

none_from_test : (t : Bool) (place size : ℕ) → nat_lt place size ≡ t → place ≤ size → None ≡ cond t (Some place) None → place ≡ size
none_from_test true place size is le e = absurd (none-some place e)
none_from_test false place size is le e = grind (arith, nat_tests)

module _ (p : ℕ → Bool) where
  pub position_or_len-after : (prefix back : List ℕ) → position_or_len p prefix ≡ length prefix → position_or_len p (prefix ++ back) ≡ length prefix + position_or_len p back
  position_or_len-after prefix back none =
      prefix_len-append _ prefix back ∙ ap (λ t. cond t (length prefix + position_or_len p back) (position_or_len p prefix)) (eq-eqb _ _ none)

  -- the first place that passes, if nothing in the prefix does
  pub position-after : (prefix back : List ℕ) → position_or_len p prefix ≡ length prefix → position p (prefix ++ back) ≡ option_map (λ i. length prefix + i) (position p back)
  position-after prefix back none =
      let place = position_or_len-after prefix back none in
      rw (place, length-append prefix back) (shifted (length prefix) (position_or_len p back) (length back))

  pub none_from_position : (xs : List ℕ) → None ≡ position p xs → position_or_len p xs ≡ length xs
  none_from_position xs e = none_from_test (nat_lt (position_or_len p xs) (length xs)) (position_or_len p xs) (length xs) refl (prefix_len-le-length _ xs) e

-- a take that gave no bytes gave none
pub gives_nothing : (took : Took) (into : List ℕ) → ((n : ℕ) → took ≡ Bytes n → ⊥) → bytes_given took into ≡ []
gives_nothing (Bytes n) into h = absurd (h n refl)
gives_nothing End into h = refl
gives_nothing Failed into h = refl

-- a line end that was found after the part that has none
pub found : (p : ℕ → Bool) (items : List ℕ) (s m e place : ℕ) → s ≤ m → m ≤ e → e ≤ length items → position_or_len p (slice_range items s m) ≡ m - s → Some place ≡ position p (slice_range items m e)
    → Some (m - s + place) ≡ position p (slice_range items s e)
found p items s m e place le le' within none is =
    let size = length_range items s m le (omega arith) in
    let after = position-after p (slice_range items s m) (slice_range items m e) (none ∙ sym size) in
    ap (λ o. option_map (λ i. m - s + i) o) is
    ∙ ap (λ n. option_map (λ i. n + i) (position p (slice_range items m e))) (sym size)
    ∙ sym after
    ∙ ap (λ (l : List ℕ). position p l) (sym (split_range items s m e le le'))

-- none was found there
pub not_found : (p : ℕ → Bool) (items : List ℕ) (s m e : ℕ) → s ≤ m → m ≤ e → e ≤ length items → position_or_len p (slice_range items s m) ≡ m - s → None ≡ position p (slice_range items m e)
    → (None ≡ position p (slice_range items s e)) × (position_or_len p (slice_range items s e) ≡ e - s)
not_found p items s m e le le' within none is =
    let size = length_range items s m le (omega arith) in
    let size' = length_range items m e le' within in
    let after = position-after p (slice_range items s m) (slice_range items m e) (none ∙ sym size) in
    let place = position_or_len-after p (slice_range items s m) (slice_range items m e) (none ∙ sym size) in
    let all = none_from_position p (slice_range items m e) is in
    let whole = sym (split_range items s m e le le') in (
      ap (λ o. option_map (λ i. length (slice_range items s m) + i) o) is ∙ sym after ∙ ap (λ (l : List ℕ). position p l) whole,
      ap (λ (l : List ℕ). position_or_len p l) (sym whole) ∙ place ∙ omega arith,
    )

-- what is empty in one list of bytes is empty in each
pub empty_range : (xs ys : List ℕ) (i j : ℕ) → i ≤ j → j ≤ length xs → slice_range xs i j ≡ [] → slice_range ys i j ≡ []
empty_range xs ys i j le within none =
    let size : j - i ≡ 0 = omega (arith, length_range xs i j le within, ap (λ (l : List ℕ). length l) none) in
    ap (λ n. take n (drop i ys)) size
