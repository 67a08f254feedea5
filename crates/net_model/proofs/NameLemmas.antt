-- What the padding of a name gives back.
use Rattle.std.proofs.Common.{◌≡◌, ◌≤◌, ◌+◌, ◌-◌, ◌<◌, ℕ, IsTrue, sym, subst, zero, suc, true, ◌&&◌, List, [], ◌∷◌, ◌++◌, length, take, drop, replicate, slice_index, refl, arith, ap, ◌∙◌, length-append, ltb}
use Rattle.std.proofs.lemmas.List.{length-replicate, take_at, take-append-drop, drop-replicate}
use Rattle.std.proofs.lemmas.List.Folds.{list_all-append}
use Rattle.std.proofs.lemmas.Slice.{take-put_mid, drop-put_mid}
use Rattle.std.proofs.Math.Seq.{drop-append-add}
use borrow.Rule.Slice.PartMut.{put_mid}
use Rattle.std.proofs.lemmas.Bool.{and_parts, lt-ltb, ltb-true, false≢true}
use Rattle.net_model.specs.Names.{is_name, is_letter, is_name_byte, most_short, padded}
use Rattle.std.specs.List.{list_all}
use Rattle.std.specs.Str.{IsAscii, IsUtf8}
use Rattle.std.proofs.lemmas.Str.{IsUtf8-from_ascii}
use Rattle.std.proofs.lemmas.Bool.Decides.{nat_tests}

-- a name has at most 32 bytes
pub length_of_name : (text : List ℕ) → is_name text ≡ true → length text ≤ 32
unfolding is_name
length_of_name [] named = omega arith
length_of_name (b ∷ bs) named =
    let short = (and_parts (is_letter b && list_all is_name_byte bs) (ltb (length bs) 32) named).1 in
    omega (arith, ltb-true (length bs) 32 short)

letter_below : (b : ℕ) → is_letter b ≡ true → b < 128
letter_below b letter = grind (arith, nat_tests)

name_byte_below : (b : ℕ) → is_name_byte b ≡ true → b < 128
name_byte_below b byte = grind (arith, nat_tests)

IsAscii-name_bytes : (bytes : List ℕ) → list_all is_name_byte bytes ≡ true → IsAscii bytes
IsAscii-name_bytes [] all i = omega arith
IsAscii-name_bytes (b ∷ bs) all zero = name_byte_below b (and_parts (is_name_byte b) (list_all is_name_byte bs) all).0
IsAscii-name_bytes (b ∷ bs) all (suc i) = IsAscii-name_bytes bs (and_parts (is_name_byte b) (list_all is_name_byte bs) all).1 i

-- a name is text
IsAscii-name : (text : List ℕ) → is_name text ≡ true → IsAscii text
unfolding is_name
IsAscii-name [] bad i = absurd (false≢true bad)
IsAscii-name (b ∷ bs) good i =
    let parts = and_parts (is_letter b) (list_all is_name_byte bs) (and_parts (is_letter b && list_all is_name_byte bs) (ltb (length bs) 32) good).0 in
    at i parts.0 parts.1
  where
    at : (i : ℕ) → is_letter b ≡ true → list_all is_name_byte bs ≡ true → slice_index (b ∷ bs) i < 128
    at zero letter rest = letter_below b letter
    at (suc k) letter rest = IsAscii-name_bytes bs rest k

pub IsUtf8-name : (text : List ℕ) → is_name text ≡ true → IsUtf8 text
IsUtf8-name text named = IsUtf8-from_ascii text (IsAscii-name text named)

-- the padding has 32 bytes
pub length-padded : (text : List ℕ) → length text ≤ 32 → length (padded text) ≡ 32
length-padded text fits =
    omega (arith, length-append text (replicate (32 - length text) 0), length-replicate {A = ℕ} (32 - length text) 0)

-- a text that is written over the first of 32 zeros gives its padding
pub padded_over : (text prefix : List ℕ) → prefix ≡ text → length text ≤ 32 → prefix ++ drop (length text) (replicate 32 0) ≡ padded text
padded_over text prefix same fits =
    let zeros : drop (length text) (replicate 32 0) ≡ replicate (32 - length text) 0 = drop-replicate (length text) 32 0 in
    ap (λ (xs : List ℕ). xs ++ drop (length text) (replicate 32 0)) same ∙ ap (λ (xs : List ℕ). text ++ xs) zeros

-- the prefix of the padding is the text
pub take-padded : (text : List ℕ) → take (length text) (padded text) ≡ text
take-padded text = take_at text (replicate (32 - length text) 0) (length text) refl

-- four bytes more of a name after a name that is short
pub short_named : (name end : List ℕ) → is_name name ≡ true → length name ≤ most_short → list_all is_name_byte end ≡ true → length end ≤ 4 → is_name (name ++ end) ≡ true
unfolding is_name
short_named [] end named few all four = absurd (cc)
short_named (b ∷ bs) end named few all four =
    let parts = and_parts (is_letter b && list_all is_name_byte bs) (ltb (length bs) 32) named in
    let prefix = and_parts (is_letter b) (list_all is_name_byte bs) parts.0 in
    let both : list_all is_name_byte (bs ++ end) ≡ true = list_all-append is_name_byte bs end ∙ rw (prefix.1, all) refl in
    let less : ltb (length (bs ++ end)) 32 ≡ true = lt-ltb (length (bs ++ end)) 32 (omega (arith, length-append bs end)) in
    rw (prefix.0, both, less) refl

-- bytes written after a name, over the zeros that follow it
module _ (bytes text end : List ℕ) (len k : ℕ) (is : bytes ≡ padded text) (counted : len ≡ length text) (so_many : k ≡ length end) (fits : len + length end ≤ 32) where
  abbrev pub written : List ℕ
  written = put_mid len k bytes end

  long : length bytes ≡ 32
  long = ap length is ∙ length-padded text (omega arith)

  count : len + length end ≡ length (text ++ end)
  count = omega (arith, length-append text end)

  before : take len bytes ≡ text
  before = rw (is, counted) (take-padded text)

  pub prefix : take (len + length end) written ≡ text ++ end
  prefix = take-put_mid len k bytes end (len + length end) refl (omega (arith, long)) ∙ ap (λ (xs : List ℕ). xs ++ end) before

  after : drop (len + length end) written ≡ replicate (32 - length (text ++ end)) 0
  after =
      let kept : drop (len + length end) written ≡ drop (len + length end) bytes = drop-put_mid len k bytes end (len + length end) (omega arith) (omega (arith, long)) (omega arith) in
      let zeros : drop (len + length end) bytes ≡ drop (length end) (replicate (32 - length text) 0) = rw (is, counted) (drop-append-add text (replicate (32 - length text) 0) (length end)) in
      let fewer : (32 - length text) - length end ≡ 32 - length (text ++ end) = omega (arith, length-append text end) in
      kept ∙ (zeros ∙ (drop-replicate (length end) (32 - length text) 0 ∙ ap (λ (n : ℕ). replicate n 0) fewer))

  -- are its padding with them
  pub written_padded : written ≡ padded (text ++ end)
  written_padded =
      sym (take-append-drop (len + length end) written)
      ∙ (ap (λ (xs : List ℕ). xs ++ drop (len + length end) written) prefix ∙ ap (λ (xs : List ℕ). (text ++ end) ++ xs) after)

  pub written_is : IsTrue (is_name (text ++ end)) → (length written ≡ 32) × (len + length end ≤ 32) × (written ≡ padded (take (len + length end) written)) × IsTrue (is_name (take (len + length end) written))
  written_is named = (
    ap length written_padded ∙ length-padded (text ++ end) (omega (arith, count)),
    fits,
    written_padded ∙ ap padded (sym prefix),
    subst (λ (xs : List ℕ). IsTrue (is_name xs)) (sym prefix) named,
  )
