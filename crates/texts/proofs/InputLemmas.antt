-- Lines of an input: how more bytes continue them, and what the first of them is.
use Rattle.std.proofs.Common.{◌≡◌, ℕ, ◌+◌, ◌<◌, ◌≤◌, ◌==◌, Bool, true, false, cond, List, [], ◌∷◌, ◌++◌, length, map, refl, sym, ap, ◌∙◌, arith, append_assoc}
use Rattle.std.proofs.lemmas.List.{append-nil, length-append}
use Rattle.std.proofs.lemmas.Bool.{eqb-true, cond-false}
use Rattle.texts.specs.Words.{if_filled}
use Rattle.texts.specs.Lines.{lines_after, lines, whole_lines_after, whole_lines, unfinished_after, unfinished, InputLine, whole_line, open_line, last_line, input_lines}

-- the lines of an input, of which `line` is the start of one
abbrev pub input_lines_after : List ℕ → List ℕ → List InputLine
input_lines_after line bytes = map whole_line (whole_lines_after line bytes) ++ last_line (unfinished_after line bytes)

pub whole_lines_is : (bytes : List ℕ) → whole_lines bytes ≡ whole_lines_after [] bytes
unfolding whole_lines
whole_lines_is bytes = refl

pub unfinished_is : (bytes : List ℕ) → unfinished bytes ≡ unfinished_after [] bytes
unfolding unfinished
unfinished_is bytes = refl

pub input_lines_by : (bytes : List ℕ) → input_lines bytes ≡ map whole_line (whole_lines bytes) ++ last_line (unfinished bytes)
unfolding input_lines
input_lines_by bytes = refl

pub input_lines_is : (bytes : List ℕ) → input_lines bytes ≡ input_lines_after [] bytes
unfolding input_lines whole_lines unfinished
input_lines_is bytes = refl

-- the whole lines, and what is unfinished, whether a byte ends the line or makes it longer
abbrev whole_past : Bool → List ℕ → List ℕ → List ℕ → List (List ℕ)
whole_past ends line bytes longer = cond ends (line ∷ whole_lines_after [] bytes) (whole_lines_after longer bytes)

abbrev unfinished_past : Bool → List ℕ → List ℕ → List ℕ
unfinished_past ends bytes longer = cond ends (unfinished_after [] bytes) (unfinished_after longer bytes)

-- the lines of a text are the texts of its lines as an input
abbrev TextsAfter : List ℕ → List ℕ → Type 0
TextsAfter line bytes = lines_after line bytes ≡ map (λ (l : InputLine). l.text) (input_lines_after line bytes)

text_of_last : (line : List ℕ) → if_filled line ≡ map (λ (l : InputLine). l.text) (last_line line)
text_of_last [] = refl
text_of_last (byte ∷ bytes) = refl

texts_by : (ends : Bool) (line bytes more : List ℕ) → TextsAfter [] bytes → TextsAfter more bytes →
    cond ends (line ∷ lines_after [] bytes) (lines_after more bytes) ≡ map (λ (l : InputLine). l.text) (map whole_line (whole_past ends line bytes more) ++ last_line (unfinished_past ends bytes more))
texts_by true line bytes more here later = ap (λ (ls : List (List ℕ)). line ∷ ls) here
texts_by false line bytes more here later = later

lines_after-texts : (line bytes : List ℕ) → TextsAfter line bytes
lines_after-texts line [] = text_of_last line
lines_after-texts line (byte ∷ bytes) =
    texts_by (byte == 10) line bytes (line ++ byte ∷ []) (lines_after-texts [] bytes) (lines_after-texts (line ++ byte ∷ []) bytes)

pub lines-texts : (bytes : List ℕ) → lines bytes ≡ map (λ line. line.text) (input_lines bytes)
unfolding lines input_lines whole_lines unfinished
lines-texts bytes = lines_after-texts [] bytes

-- more bytes continue what is unfinished
abbrev WholeGoesOn : List ℕ → List ℕ → List ℕ → Type 0
WholeGoesOn line bytes more = whole_lines_after line (bytes ++ more) ≡ whole_lines_after line bytes ++ whole_lines_after (unfinished_after line bytes) more

abbrev UnfinishedGoesOn : List ℕ → List ℕ → List ℕ → Type 0
UnfinishedGoesOn line bytes more = unfinished_after line (bytes ++ more) ≡ unfinished_after (unfinished_after line bytes) more

whole_by : (ends : Bool) (line bytes longer more : List ℕ) → WholeGoesOn [] bytes more → WholeGoesOn longer bytes more →
    whole_past ends line (bytes ++ more) longer ≡ whole_past ends line bytes longer ++ whole_lines_after (unfinished_past ends bytes longer) more
whole_by true line bytes longer more here later = ap (λ (ls : List (List ℕ)). line ∷ ls) here
whole_by false line bytes longer more here later = later

pub whole_lines_after-append : (line bytes more : List ℕ) → whole_lines_after line (bytes ++ more) ≡ whole_lines_after line bytes ++ whole_lines_after (unfinished_after line bytes) more
whole_lines_after-append line [] more = refl
whole_lines_after-append line (byte ∷ bytes) more =
    whole_by (byte == 10) line bytes (line ++ byte ∷ []) more (whole_lines_after-append [] bytes more) (whole_lines_after-append (line ++ byte ∷ []) bytes more)

unfinished_by : (ends : Bool) (bytes longer more : List ℕ) → UnfinishedGoesOn [] bytes more → UnfinishedGoesOn longer bytes more →
    unfinished_past ends (bytes ++ more) longer ≡ unfinished_after (unfinished_past ends bytes longer) more
unfinished_by true bytes longer more here later = here
unfinished_by false bytes longer more here later = later

pub unfinished_after-append : (line bytes more : List ℕ) → unfinished_after line (bytes ++ more) ≡ unfinished_after (unfinished_after line bytes) more
unfinished_after-append line [] more = refl
unfinished_after-append line (byte ∷ bytes) more =
    unfinished_by (byte == 10) bytes (line ++ byte ∷ []) more (unfinished_after-append [] bytes more) (unfinished_after-append (line ++ byte ∷ []) bytes more)

-- what is unfinished is the start of a line: it has no line end
pub record Begins (line : List ℕ) : Type 0 where
  pub whole : (more : List ℕ) → whole_lines_after [] (line ++ more) ≡ whole_lines_after line more
  pub rest : (more : List ℕ) → unfinished_after [] (line ++ more) ≡ unfinished_after line more

pub Begins-nil : Begins []
Begins-nil = record { whole = λ more. refl; rest = λ more. refl }

pub Begins-more : (line : List ℕ) (byte : ℕ) → (byte == 10) ≡ false → Begins line → Begins (line ++ byte ∷ [])
Begins-more line byte other begins = record {
  whole = λ more. ap (λ (l : List ℕ). whole_lines_after [] l) (append_assoc line (byte ∷ []) more) ∙ (begins.whole (byte ∷ more)
      ∙ cond-false (byte == 10) (line ∷ whole_lines_after [] more) (whole_lines_after (line ++ byte ∷ []) more) other);
  rest = λ more. ap (λ (l : List ℕ). unfinished_after [] l) (append_assoc line (byte ∷ []) more) ∙ (begins.rest (byte ∷ more) ∙ cond-false (byte == 10) (unfinished_after [] more) (unfinished_after (line ++ byte ∷ []) more) other);
}

begins_by : (ends : Bool) (bytes longer : List ℕ) → Begins (unfinished_after [] bytes) → (ends ≡ false → Begins (unfinished_after longer bytes)) → Begins (unfinished_past ends bytes longer)
begins_by true bytes longer here later = here
begins_by false bytes longer here later = later refl

pub unfinished_after-begins : (line bytes : List ℕ) → Begins line → Begins (unfinished_after line bytes)
unfinished_after-begins line [] begins = begins
unfinished_after-begins line (byte ∷ bytes) begins =
    begins_by (byte == 10) bytes (line ++ byte ∷ []) (unfinished_after-begins [] bytes Begins-nil) (λ other. unfinished_after-begins (line ++ byte ∷ []) bytes (Begins-more line byte other begins))

pub whole_lines-append : (bytes more : List ℕ) → whole_lines (bytes ++ more) ≡ whole_lines bytes ++ whole_lines (unfinished bytes ++ more)
unfolding whole_lines unfinished
whole_lines-append bytes more =
    whole_lines_after-append [] bytes more ∙ ap (λ (ls : List (List ℕ)). whole_lines_after [] bytes ++ ls) (sym ((unfinished_after-begins [] bytes Begins-nil).whole more))

pub unfinished-append : (bytes more : List ℕ) → unfinished (bytes ++ more) ≡ unfinished (unfinished bytes ++ more)
unfolding unfinished
unfinished-append bytes more =
    unfinished_after-append [] bytes more ∙ sym ((unfinished_after-begins [] bytes Begins-nil).rest more)

-- bytes of no whole line are all unfinished
abbrev IsOpen : List ℕ → List ℕ → Type 0
IsOpen line bytes = (unfinished_after line bytes ≡ line ++ bytes) × Begins (line ++ bytes)

open_by : (ends : Bool) (line bytes longer : List ℕ) → whole_past ends line bytes longer ≡ [] → (ends ≡ false → whole_lines_after longer bytes ≡ [] → IsOpen longer bytes) →
    (ends ≡ false) × (whole_lines_after longer bytes ≡ []) × IsOpen longer bytes
open_by true line bytes longer none later = absurd (cc)
open_by false line bytes longer none later = let found = later refl none in (refl, none, found)

open_after : (line bytes : List ℕ) → Begins line → whole_lines_after line bytes ≡ [] → IsOpen line bytes
open_after line [] begins none = rw (append-nil line) (refl, begins)
open_after line (byte ∷ bytes) begins none =
    let all = open_by (byte == 10) line bytes (line ++ byte ∷ []) none (λ other left. open_after (line ++ byte ∷ []) bytes (Begins-more line byte other begins) left) in
    let joined = append_assoc line (byte ∷ []) bytes in
    (cond-false (byte == 10) (unfinished_after [] bytes) (unfinished_after (line ++ byte ∷ []) bytes) all.0 ∙ (all.2.0 ∙ joined), rw (sym joined) all.2.1)

pub unfinished-open : (bytes : List ℕ) → whole_lines bytes ≡ [] → unfinished bytes ≡ bytes
unfolding whole_lines unfinished
unfinished-open bytes none = (open_after [] bytes Begins-nil none).0

pub open-begins : (bytes : List ℕ) → whole_lines bytes ≡ [] → Begins bytes
unfolding whole_lines
open-begins bytes none = (open_after [] bytes Begins-nil none).1

pub input_lines-open : (bytes : List ℕ) → whole_lines bytes ≡ [] → input_lines bytes ≡ last_line bytes
input_lines-open bytes none =
    input_lines_by bytes ∙ (ap (λ (ls : List (List ℕ)). map whole_line ls ++ last_line (unfinished bytes)) none ∙ ap (λ (l : List ℕ). last_line l) (unfinished-open bytes none))

-- the start of a line, its end, and the bytes after that
pub input_lines-closed : (line rest : List ℕ) → Begins line → input_lines (line ++ 10 ∷ rest) ≡ whole_line line ∷ input_lines rest
unfolding input_lines whole_lines unfinished
input_lines-closed line rest begins =
    ap (λ (ls : List (List ℕ)). map whole_line ls ++ last_line (unfinished_after [] (line ++ 10 ∷ rest))) (begins.whole (10 ∷ rest))
    ∙ ap (λ (l : List ℕ). map whole_line (line ∷ whole_lines_after [] rest) ++ last_line l) (begins.rest (10 ∷ rest))

-- the bytes of an input up to its first line end, and after it
pub record FirstCut (bytes line : List ℕ) (others : List (List ℕ)) : Type 0 where
  pub rest : List ℕ
  pub bytes_are : bytes ≡ line ++ 10 ∷ rest
  pub begins : Begins line
  pub others_are : others ≡ whole_lines rest

cut_by : (ends : Bool) (line bytes longer first : List ℕ) (byte : ℕ) (others : List (List ℕ)) → (byte == 10) ≡ ends → Begins line → cond ends (line ∷ whole_lines_after [] bytes) (whole_lines_after longer bytes) ≡ first ∷ others
    → (ends ≡ false → whole_lines_after longer bytes ≡ first ∷ others → FirstCut (line ++ byte ∷ bytes) first others) → FirstCut (line ++ byte ∷ bytes) first others
cut_by true line bytes longer first byte others ends begins is later =
    let same : line ≡ first = cc in
    let end : byte ≡ 10 = eqb-true byte 10 ends in
    let left : whole_lines_after [] bytes ≡ others = cc in
    record { rest = bytes; bytes_are = rw (same, end) refl; begins = rw (sym same) begins; others_are = sym (whole_lines_is bytes ∙ left) }
cut_by false line bytes longer first byte others ends begins is later = later refl is

cut_after : (line bytes first : List ℕ) (others : List (List ℕ)) → Begins line → whole_lines_after line bytes ≡ first ∷ others → FirstCut (line ++ bytes) first others
cut_after line [] first others begins is = absurd (cc)
cut_after line (byte ∷ bytes) first others begins is =
    cut_by (byte == 10) line bytes (line ++ byte ∷ []) first byte others refl begins is
    (λ other left. rw (sym (append_assoc line (byte ∷ []) bytes)) (cut_after (line ++ byte ∷ []) bytes first others (Begins-more line byte other begins) left))

pub first_cut : (bytes first : List ℕ) (others : List (List ℕ)) → whole_lines bytes ≡ first ∷ others → FirstCut bytes first others
unfolding whole_lines
first_cut bytes first others is = cut_after [] bytes first others Begins-nil is

-- the first line of bytes that continue the start of a line has at least that start
pub record FirstGrows (line : List ℕ) (all : List InputLine) : Type 0 where
  pub first : InputLine
  pub others : List InputLine
  pub all_are : all ≡ first ∷ others
  pub longer : length line ≤ length first.text

grows_last : (line : List ℕ) → 0 < length line → FirstGrows line (last_line line)
grows_last [] filled = absurd (omega arith)
grows_last (byte ∷ bytes) filled = record { first = open_line (byte ∷ bytes); others = []; all_are = refl; longer = omega arith }

grows_by : (ends : Bool) (line bytes longer : List ℕ) → length line ≤ length longer → FirstGrows longer (input_lines_after longer bytes)
    → FirstGrows line (map whole_line (cond ends (line ∷ whole_lines_after [] bytes) (whole_lines_after longer bytes)) ++ last_line (cond ends (unfinished_after [] bytes) (unfinished_after longer bytes)))
grows_by true line bytes longer le later = record { first = whole_line line; others = _; all_are = refl; longer = omega arith }
grows_by false line bytes longer le later = record { first = later.first; others = later.others; all_are = later.all_are; longer = omega (arith, le, later.longer) }

grows_after : (line bytes : List ℕ) → 0 < length line → FirstGrows line (input_lines_after line bytes)
grows_after line [] filled = grows_last line filled
grows_after line (byte ∷ bytes) filled =
    let more : length (line ++ byte ∷ []) ≡ length line + 1 = length-append line (byte ∷ []) in
    grows_by (byte == 10) line bytes (line ++ byte ∷ []) (omega (arith, more)) (grows_after (line ++ byte ∷ []) bytes (omega (arith, more)))

pub first_grows : (line more : List ℕ) → 0 < length line → whole_lines line ≡ [] → FirstGrows line (input_lines (line ++ more))
unfolding input_lines whole_lines unfinished
first_grows line more filled none =
    let begins = (open_after [] line Begins-nil none).1 in
    rw (begins.whole more, begins.rest more) (grows_after line more filled)
