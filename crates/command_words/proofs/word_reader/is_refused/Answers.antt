use Rattle.std.proofs.Common.{◌≡◌, ◌∙◌, Bool, true, false, ◌||◌, codes, refl, sym, ap, ap₂, true≢false}
use Rattle.std.specs.Str.{bytes_eq}
use Rattle.std.proofs.lemmas.Slice.Eq.{bytes_eq-Decides}
use Rattle.command_words.specs.ArgumentReading.{is_refused, is_stray}
use Rattle.command_words.specs.Syntax.{Text, asks}
use Rattle.command_words.proofs.word_reader.is_refused.Goals as goal
use Rattle.command_words.proofs.word_reader.is_refused.Goals.{then-is_stray, else-is_stray}

alike : (a b : Bool) → (a ≡ true → b ≡ true) → (b ≡ true → a ≡ true) → a ≡ b
alike true b there back = sym (there refl)
alike false true there back = back refl
alike false false there back = refl

-- which of two texts comes first makes no difference
turned : (xs ys : Text) → bytes_eq xs ys ≡ bytes_eq ys xs
turned xs ys = alike (bytes_eq xs ys) (bytes_eq ys xs) (λ e. (bytes_eq-Decides ys xs).1 (sym ((bytes_eq-Decides xs ys).0 e))) (λ e. (bytes_eq-Decides xs ys).1 (sym ((bytes_eq-Decides ys xs).0 e)))

or_false : (a : Bool) → a ≡ (a || false)
or_false true = refl
or_false false = refl

or_true : (a : Bool) → (a || true) ≡ true
or_true true = refl
or_true false = refl

stray : (word : Text) → is_stray word ≡ true → is_refused word ≡ true
stray word is = ap (λ s. s || asks word) is

help : (word : Text) → bytes_eq word (codes "--help") ≡ true → is_refused word ≡ true
help word is = ap (λ h. is_stray word || (h || (bytes_eq (codes "--version") word || false))) (turned (codes "--help") word ∙ is) ∙ or_true (is_stray word)

version : (word : Text) (last : Bool) → is_stray word ≡ false → bytes_eq word (codes "--help") ≡ false → last ≡ bytes_eq word (codes "--version") → last ≡ is_refused word
version word last plain other is =
    is ∙ turned word (codes "--version") ∙ or_false (bytes_eq (codes "--version") word)
    ∙ sym (ap₂ (λ s h. s || (h || (bytes_eq (codes "--version") word || false))) plain (turned (codes "--help") word ∙ other))

pub returns-then-eq : goal.returns-then-eq
returns-then-eq c =
    let word = c.args.word.now in
    c.if-eq.true ∙ elim c.if-is_stray.branch [
      | then-is_stray w ↦ sym (stray word (ap is_stray (sym c.as_bytes.ensures.value) ∙ sym c.is_stray.ensures ∙ w.if-is_stray.true))
      | else-is_stray w ↦ sym (help word (sym w.eq.ensures ∙ sym w.value-is ∙ c.if-eq.true))
    ]

pub returns-else-eq : goal.returns-else-eq
returns-else-eq c =
    let word = c.args.word.now in
    elim c.if-is_stray.branch [
      | then-is_stray w ↦ absurd (true≢false (sym w.if-is_stray.true ∙ sym w.value-is ∙ c.if-eq.false))
      | else-is_stray w ↦
          version word c.eq-else-eq.result (ap is_stray (sym c.as_bytes.ensures.value) ∙ sym c.is_stray.ensures ∙ w.if-is_stray.false)
          (sym w.eq.ensures ∙ sym w.value-is ∙ c.if-eq.false) c.eq-else-eq.ensures
    ]
