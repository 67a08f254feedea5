-- One turn of the walk of `clap` over a word.
use Rattle.std.proofs.Common.{◌≡◌, ℕ, ◌==◌, Bool, true, false, not, List, [], ◌∷◌, Option, Some, None, refl, sym, ap, ◌∙◌, true≢false, if◌then◌else◌}
use Rattle.std.specs.Prelude.{fold}
use Rattle.std.specs.Option.{option_and_then}
use Rattle.std.specs.Str.{bytes_eq}
use Rattle.std.proofs.lemmas.Slice.Eq.{bytes_eq-Decides}
use Rattle.clap.specs.Faults.{turn_fault, flag_word_fault, step_fault, settle_fault, walk_fault, long_fault}
use Rattle.clap.specs.Kinds.{Kinds, or_else}
use Rattle.clap.specs.Lexer.{short_of, short_of_rest}
use Rattle.clap.specs.Simple.{Shape, built}
use Rattle.clap.specs.Walk.{Held, Row, Rule, Waiting, Walk, idle, option, after_step, after_flag, long_met, long_or_other, walked, settled}
use Rattle.command_words.specs.Syntax.{Text}
use Rattle.command_words.specs.ArgumentReading.{long_of, is_stray, is_stray_rest}
use Rattle.command_words.proofs.RuleLemmas.{with_rules}

-- none was refused
abbrev pub no_kinds : Kinds → Bool
no_kinds [] = true
no_kinds (k ∷ ks) = false

abbrev pub shape : List Rule → Shape
shape rules = record (built (with_rules [])).top { rules = rules }

abbrev pub at : Held → Waiting → ℕ → Walk
at h waiting place = record { held = h; waiting = waiting; position = place; is_trailing = false; stopped = None }

abbrev pub Long : Type 0
Long = Option (Text × Option Text)

module _ (rules : List Rule) where
  -- the rows at the end of a walk, before the defaults, if nothing is refused
  abbrev pub ended : Held → Option (List Row)
  ended h = if no_kinds (settle_fault rules false h) then Some (settled rules h).rows else None

  -- what a parse of these words gives, from a walk on
  abbrev pub outcome : List Text → Walk → Option (List Row)
  outcome words w = if no_kinds (walk_fault (shape rules) [] w words) then ended (fold (walked rules []) w words).held else None

  abbrev pub turn_by : Held → Waiting → ℕ → Long → Text → Kinds
  turn_by h waiting place long word =
      let met = long_or_other rules waiting word long h in
      or_else (flag_word_fault rules false long word h) (step_fault (shape rules) place met.0 met.1)

  abbrev pub walked_by : Held → Waiting → ℕ → Long → Text → Walk
  walked_by h waiting place long word =
      let met = long_or_other rules waiting word long h in
      after_step rules word (at h waiting place) met.0 met.1

  -- what one turn leads to
  abbrev pub turned : List Text → Held → Waiting → ℕ → Long → Text → Option (List Row)
  turned words h waiting place long word = if no_kinds (turn_by h waiting place long word) then outcome words (walked_by h waiting place long word) else None

  -- what one turn leads to, at an argument by its long name
  abbrev pub turned_arg : List Text → Held → Waiting → ℕ → Option Rule → Option Text → Text → Option (List Row)
  turned_arg words h waiting place arg v word =
      let met = long_met rules arg v h in
      let step = after_flag rules waiting word met.0 met.1 in
      if no_kinds (or_else (long_fault rules false arg v h) (step_fault (shape rules) place step.0 step.1)) then outcome words (after_step rules word (at h waiting place) step.0 step.1) else None

  step_by : (first rest : Kinds) (answer : Option (List Row)) → (if no_kinds (or_else first rest) then answer else None) ≡ (if no_kinds first then (if no_kinds rest then answer else None) else None)
  step_by [] rest answer = refl
  step_by (k ∷ ks) rest answer = refl

  stepped : (w : Walk) (word : Text) (words : List Text) → outcome (word ∷ words) w ≡ (if no_kinds (turn_fault (shape rules) [] w word) then outcome words (walked rules [] w word) else None)
  unfolding walk_fault
  stepped w word words = step_by (turn_fault (shape rules) [] w word) (walk_fault (shape rules) [] (walked rules [] w word) words) _

  turn_is : (h : Held) (place : ℕ) (word : Text) → bytes_eq word (45 ∷ 45 ∷ []) ≡ false → turn_fault (shape rules) [] (at h idle place) word ≡ turn_by h idle place (long_of word) word
  turn_is h place word other = rw other refl

  turn_waits : (h : Held) (place : ℕ) (id : Text) (word : Text) → bytes_eq word (45 ∷ 45 ∷ []) ≡ false → turn_fault (shape rules) [] (at h (option id) place) word ≡ turn_by h (option id) place (long_of word) word
  turn_waits h place id word other = rw other refl

  walked_is : (h : Held) (place : ℕ) (word : Text) → bytes_eq word (45 ∷ 45 ∷ []) ≡ false → walked rules [] (at h idle place) word ≡ walked_by h idle place (long_of word) word
  unfolding walked
  walked_is h place word other = rw other refl

  walked_waits : (h : Held) (place : ℕ) (id : Text) (word : Text) → bytes_eq word (45 ∷ 45 ∷ []) ≡ false → walked rules [] (at h (option id) place) word ≡ walked_by h (option id) place (long_of word) word
  unfolding walked
  walked_waits h place id word other = rw other refl

  pub turned_is : (words : List Text) (h : Held) (place : ℕ) (word : Text) → bytes_eq word (45 ∷ 45 ∷ []) ≡ false → outcome (word ∷ words) (at h idle place) ≡ turned words h idle place (long_of word) word
  turned_is words h place word other = stepped (at h idle place) word words ∙ rw (turn_is h place word other, walked_is h place word other) refl

  pub turned_waits : (words : List Text) (h : Held) (place : ℕ) (id word : Text) → bytes_eq word (45 ∷ 45 ∷ []) ≡ false
      → outcome (word ∷ words) (at h (option id) place) ≡ turned words h (option id) place (long_of word) word
  turned_waits words h place id word other = stepped (at h (option id) place) word words ∙ rw (turn_waits h place id word other, walked_waits h place id word other) refl

  pub outcome_nil : (w : Walk) → outcome [] w ≡ ended w.held
  unfolding walk_fault
  outcome_nil w = refl

-- a word that is not stray is not `--`
pub stray_dashes : (word : Text) → is_stray word ≡ false → bytes_eq word (45 ∷ 45 ∷ []) ≡ false
stray_dashes word plain = by (bytes_eq word (45 ∷ 45 ∷ [])) refl
  where
    by : (b : Bool) → bytes_eq word (45 ∷ 45 ∷ []) ≡ b → b ≡ false
    by false e = refl
    by true e = absurd (true≢false (sym (ap is_stray ((bytes_eq-Decides word (45 ∷ 45 ∷ [])).0 e)) ∙ plain))

-- nor does it have a short name
pub stray_short : (word : Text) → is_stray word ≡ false → short_of word ≡ None
stray_short [] plain = refl
stray_short (b ∷ bs) plain = by (b == 45) plain
  where
    rest : (bs : Text) → is_stray_rest bs ≡ false → short_of_rest bs ≡ None
    rest [] p = absurd (true≢false p)
    rest (c ∷ []) p = absurd (true≢false p)
    rest (c ∷ d ∷ ds) p = inner (c == 45) p
      where
        inner : (e : Bool) → not e ≡ false → (if e then None else Some (c ∷ d ∷ ds)) ≡ None
        inner true q = refl
        inner false q = absurd (true≢false q)

    by : (e : Bool) → (if e then is_stray_rest bs else false) ≡ false → option_and_then short_of_rest (if e then Some bs else None) ≡ None
    by true p = rest bs p
    by false p = refl
