-- How words are spelled, and what is read of them.
use Rattle.std.proofs.Common.{◌≡◌, ◌≢◌, ℕ, suc, zero, ◌==◌, Bool, true, false, not, List, [], ◌∷◌, ◌++◌, map, take, Option, Some, None, inl, inr, refl, sym, ap, ap₂, ◌∙◌, arith, if◌then◌else◌, ◌||◌, true≢false}
use Rattle.std.specs.Prelude.{◌⊎◌, slice_get}
use Rattle.std.specs.Option.{option_and_then}
use Rattle.std.specs.Str.{bytes_eq}
use Rattle.std.proofs.lemmas.Bool.{and_parts, eqb-true, not-true, or_parts}
use Rattle.std.proofs.lemmas.Bool.Decides.{nat_tests}
use Rattle.clap.proofs.CutLemmas.{Lacks}
use Rattle.clap.proofs.LexerLemmas.{name_and_value-at, name_and_value-without}
use Rattle.command_words.specs.Syntax.{Text, Syntax, is_in, dashed, are_apart}
use Rattle.command_words.specs.SpelledWords.{Use, name_of, is_plain, IsOf, AreOf}
use Rattle.command_words.specs.Arguments.{is_given}
use Rattle.command_words.specs.ArgumentReading.{is_stray, is_stray_rest, long_of, long_of_rest, strip_hyphen, name_and_value}
use Rattle.command_words.proofs.SoundLemmas.{bytes_apart, in_append}

abbrev with_value : Text → Option Text → Text
with_value name None = name
with_value name (Some value) = name ++ 61 ∷ value

-- a name, and a value after `=` if it has one
abbrev pub spelled : Text × Option Text → Text
spelled said = with_value said.0 said.1

pub lacks_more : (c x : ℕ) (xs : List ℕ) → x ≢ c → Lacks c xs → Lacks c (x ∷ xs)
lacks_more c x xs apart none zero lt = apart
lacks_more c x xs apart none (suc i) lt = none i (omega arith)

pub lacks_nothing : (c : ℕ) → Lacks c []
lacks_nothing c i lt = absurd (omega arith)

abbrev Cut : Text → Type 0
Cut text = Lacks 61 text ⊎ ((xs : List ℕ) × ((ys : List ℕ) × (Lacks 61 xs × (text ≡ xs ++ 61 ∷ ys))))

cut : (text : Text) → Cut text
cut [] = inl (lacks_nothing 61)
cut (x ∷ text) = by (x == 61) refl (cut text)
  where
    by : (b : Bool) → (x == 61) ≡ b → Cut text → Cut (x ∷ text)
    by true e rest = inr ([], (text, (lacks_nothing 61, ap (λ b. b ∷ text) (eqb-true x 61 e))))
    by false e (inl none) = inl (lacks_more 61 x text (grind (arith, nat_tests)) none)
    by false e (inr p) = inr (x ∷ p.0, (p.1.0, (lacks_more 61 x p.0 (grind (arith, nat_tests)) p.1.1.0, ap (λ l. x ∷ l) p.1.1.1)))

value_is : (text : Text) → Cut text → text ≡ spelled (name_and_value text)
value_is text (inl none) = ap spelled (sym (name_and_value-without text none))
value_is text (inr p) = p.1.1.1 ∙ ap spelled (sym (ap name_and_value p.1.1.1 ∙ name_and_value-at p.0 p.1.0 p.1.1.0))

-- the word that is read as this name and value
pub long_is : (word : Text) (said : Text × Option Text) → long_of word ≡ Some said → word ≡ dashed (spelled said)
long_is [] said is = absurd cc
long_is (b ∷ []) said is = by (b == 45) is
  where
    by : (eq : Bool) → option_and_then long_of_rest (option_and_then strip_hyphen (if eq then Some [] else None)) ≡ Some said → b ∷ [] ≡ dashed (spelled said)
    by true i = absurd cc
    by false i = absurd cc
long_is (b ∷ c ∷ bs) said is = by (b == 45) (c == 45) refl refl (first (b == 45) is)
  where
    first : (eq : Bool) → option_and_then long_of_rest (option_and_then strip_hyphen (if eq then Some (c ∷ bs) else None)) ≡ Some said
        → option_and_then long_of_rest (option_and_then (λ w. w) (if eq then Some (if c == 45 then Some bs else None) else None)) ≡ Some said
    first true i = i
    first false i = i

    inner : (bs : Text) → long_of_rest bs ≡ Some said → bs ≡ spelled said
    inner [] i = absurd cc
    inner (x ∷ xs) i =
        let same : name_and_value (x ∷ xs) ≡ said = cc in
        value_is (x ∷ xs) (cut (x ∷ xs)) ∙ ap spelled same

    by : (eq next : Bool) → (b == 45) ≡ eq → (c == 45) ≡ next
        → option_and_then long_of_rest (option_and_then (λ w. w) (if eq then Some (if next then Some bs else None) else None)) ≡ Some said → b ∷ c ∷ bs ≡ dashed (spelled said)
    by true true e f i = ap₂ (λ (x y : ℕ). x ∷ y ∷ bs) (eqb-true b 45 e) (eqb-true c 45 f) ∙ ap (λ (l : List ℕ). 45 ∷ 45 ∷ l) (inner bs i)
    by true false e f i = absurd cc
    by false next e f i = absurd cc

-- a word that has no long name and is not stray does not begin with a hyphen
pub plain_is : (word : Text) → is_stray word ≡ false → long_of word ≡ None → is_plain word ≡ true
plain_is [] plain none = refl
plain_is (b ∷ bs) plain none = by (b == 45) plain none
  where
    rest : (bs : Text) → is_stray_rest bs ≡ false → option_and_then long_of_rest (strip_hyphen bs) ≡ None → ⊥
    rest [] p n = true≢false p
    rest (c ∷ []) p n = true≢false p
    rest (c ∷ d ∷ ds) p n = inner (c == 45) p n
      where
        inner : (e : Bool) → not e ≡ false → option_and_then long_of_rest (if e then Some (d ∷ ds) else None) ≡ None → ⊥
        inner true q m = absurd cc
        inner false q m = true≢false q

    by : (e : Bool) → (if e then is_stray_rest bs else false) ≡ false → option_and_then long_of_rest (option_and_then strip_hyphen (if e then Some bs else None)) ≡ None → not e ≡ true
    by true p n = absurd (rest bs p n)
    by false p n = refl

-- ---- uses, one more at the end

pub of_more : (command : Syntax) (uses : List Use) (u : Use) → AreOf command uses → IsOf command u → AreOf command (uses ++ u ∷ [])
of_more command [] u are is = (is, tt)
of_more command (x ∷ uses) u are is = (are.0, of_more command uses u are.1 is)

pub given_in : (name : Text) (uses : List Use) → is_given name uses ≡ is_in name (map name_of uses)
given_in name [] = refl
given_in name (u ∷ uses) = ap (λ b. bytes_eq (name_of u) name || b) (given_in name uses)

pub apart_more : (names : List Text) (n : Text) → are_apart names ≡ true → is_in n names ≡ false → are_apart (names ++ n ∷ []) ≡ true
apart_more [] n apart absent = refl
apart_more (x ∷ names) n apart absent =
    let other = or_parts _ _ absent in
    let absent_there : is_in x names ≡ false = not-true _ (and_parts _ _ apart).0 in
    rw (in_append x names (n ∷ []), absent_there, bytes_apart x n other.0) (apart_more names n (and_parts _ _ apart).1 other.1)

pub take_more : (xs : List Text) (k : ℕ) (n : Text) → slice_get xs k ≡ Some n → take k xs ++ n ∷ [] ≡ take (suc k) xs
take_more [] k n is = absurd cc
take_more (x ∷ xs) zero n is = let same : x ≡ n = cc in ap (λ m. m ∷ []) (sym same)
take_more (x ∷ xs) (suc k) n is = ap (λ l. x ∷ l) (take_more xs k n is)
