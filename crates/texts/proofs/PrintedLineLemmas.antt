-- Printed lines are read back to their words.
use Rattle.std.proofs.Common.{◌≡◌, ℕ, ◌<◌, ◌==◌, false, List, [], ◌∷◌, ◌++◌, map, length, refl, sym, ap, ◌∙◌, arith, append_assoc, Bor}
use Rattle.std.proofs.lemmas.List.{append-nil}
use Rattle.std.proofs.lemmas.Bool.{cond-false, ne_eqb}
use Rattle.std.specs.List.{flat_map, AllByRecursion}
use Rattle.texts.specs.Words.{is_blank, if_filled, words_after, words}
use Rattle.texts.specs.Lines.{lines_after, lines}
use Rattle.texts.specs.PrintedLines.{after_blank, joined, printed_line, printed}
use Rattle.texts.proofs.WordLemmas.{words_is}
use Rattle.texts.proofs.LineLemmas.{lines-nil, lines_is}

pub flat_map-map : {X Y A : Type 0} (f : Y → List A) (g : X → Y) (xs : List X) → flat_map f (map g xs) ≡ flat_map (λ x. f (g x)) xs
flat_map-map f g [] = refl
flat_map-map f g (x ∷ xs) = ap (λ rest. f (g x) ++ rest) (flat_map-map f g xs)

-- a line that was written word by word after others
pub line_pushed : (out first : List ℕ) (others : List (Bor (List ℕ))) → ((out ++ first) ++ flat_map (λ word. 32 ∷ word.now) others) ++ 10 ∷ [] ≡ out ++ printed_line (first ∷ map (λ word. word.now) others)
line_pushed out first others =
    let same : flat_map (λ (word : Bor (List ℕ)). 32 ∷ word.now) others ≡ flat_map after_blank (map (λ word. word.now) others) = sym (flat_map-map after_blank (λ (word : Bor (List ℕ)). word.now) others) in
    rw same (simp append_assoc)

-- a word that is written: bytes above the blank, and at least one
pub record IsPrintable (word : List ℕ) : Type 0 where
  pub filled : 0 < length word
  pub plain : AllByRecursion (λ byte. 32 < byte) word

-- the words of a line that is written
abbrev pub IsPrintableLine : List (List ℕ) → Type 0
IsPrintableLine [] = ⊥
IsPrintableLine (first ∷ others) = AllByRecursion IsPrintable (first ∷ others)

no_blank : (byte : ℕ) → 32 < byte → is_blank byte ≡ false
no_blank byte above =
    let space : (byte == 32) ≡ false = ne_eqb byte 32 (λ same. omega arith) in
    let tab : (byte == 9) ≡ false = ne_eqb byte 9 (λ same. omega arith) in
    let return : (byte == 13) ≡ false = ne_eqb byte 13 (λ same. omega arith) in
    rw (space, tab, return) refl

-- bytes that are no blanks continue the word
words_after-plain : (word bytes rest : List ℕ) → AllByRecursion (λ byte. 32 < byte) bytes → words_after word (bytes ++ rest) ≡ words_after (word ++ bytes) rest
words_after-plain word [] rest plain = ap (λ (w : List ℕ). words_after w rest) (sym (append-nil word))
words_after-plain word (byte ∷ bytes) rest plain =
    cond-false (is_blank byte) (if_filled word ++ words_after [] (bytes ++ rest)) (words_after (word ++ byte ∷ []) (bytes ++ rest)) (no_blank byte plain.0)
    ∙ (words_after-plain (word ++ byte ∷ []) bytes rest plain.1
    ∙ ap (λ (w : List ℕ). words_after w rest) (append_assoc word (byte ∷ []) bytes))

if_filled-printable : (word : List ℕ) → IsPrintable word → if_filled word ≡ word ∷ []
if_filled-printable [] printable = absurd (omega (arith, printable.filled))
if_filled-printable (byte ∷ bytes) printable = refl

words_after-joined : (word : List ℕ) (others : List (List ℕ)) → AllByRecursion IsPrintable others → words_after word (flat_map after_blank others) ≡ if_filled word ++ others
words_after-joined word [] printable = sym (append-nil (if_filled word))
words_after-joined word (next ∷ others) printable =
    let rest : List ℕ = flat_map after_blank others in
    let next_word : words_after [] (next ++ rest) ≡ next ∷ others = words_after-plain [] next rest printable.0.plain
    ∙ (words_after-joined next others printable.1 ∙ ap (λ (ws : List (List ℕ)). ws ++ others) (if_filled-printable next printable.0)) in
    ap (λ (ws : List (List ℕ)). if_filled word ++ ws) next_word

-- the words of a printed line
pub words-joined : (line : List (List ℕ)) → IsPrintableLine line → words (joined line) ≡ line
words-joined [] printable = absurd printable
words-joined (first ∷ others) printable =
    sym (words_is (joined (first ∷ others)))
    ∙ (words_after-plain [] first (flat_map after_blank others) printable.0.plain
    ∙ (words_after-joined first others printable.1
    ∙ ap (λ (ws : List (List ℕ)). ws ++ others) (if_filled-printable first printable.0)))

-- bytes of which none ends a line continue it
lines_after-plain : (line bytes rest : List ℕ) → AllByRecursion (λ byte. 31 < byte) bytes → lines_after line (bytes ++ rest) ≡ lines_after (line ++ bytes) rest
lines_after-plain line [] rest plain = ap (λ (l : List ℕ). lines_after l rest) (sym (append-nil line))
lines_after-plain line (byte ∷ bytes) rest plain =
    let above : 31 < byte = plain.0 in
    cond-false (byte == 10) (line ∷ lines_after [] (bytes ++ rest)) (lines_after (line ++ byte ∷ []) (bytes ++ rest)) (ne_eqb byte 10 (λ same. omega arith))
    ∙ (lines_after-plain (line ++ byte ∷ []) bytes rest plain.1
    ∙ ap (λ (l : List ℕ). lines_after l rest) (append_assoc line (byte ∷ []) bytes))

plain-append : (prefix back : List ℕ) → AllByRecursion (λ byte. 32 < byte) prefix → AllByRecursion (λ byte. 31 < byte) back → AllByRecursion (λ byte. 31 < byte) (prefix ++ back)
plain-append [] back before after = after
plain-append (byte ∷ prefix) back before after =
    let above : 32 < byte = before.0 in
    (omega arith, plain-append prefix back before.1 after)

plain-others : (others : List (List ℕ)) → AllByRecursion IsPrintable others → AllByRecursion (λ byte. 31 < byte) (flat_map after_blank others)
plain-others [] printable = tt
plain-others (next ∷ others) printable =
    (omega arith, plain-append next (flat_map after_blank others) printable.0.plain (plain-others others printable.1))

pub plain-joined : (line : List (List ℕ)) → IsPrintableLine line → AllByRecursion (λ byte. 31 < byte) (joined line)
plain-joined [] printable = absurd printable
plain-joined (first ∷ others) printable =
    plain-append first (flat_map after_blank others) printable.0.plain (plain-others others printable.1)

-- the lines of a printed text
pub lines-printed : (text : List (List (List ℕ))) → AllByRecursion IsPrintableLine text → lines (printed text) ≡ map joined text
lines-printed [] printable = lines-nil
lines-printed (line ∷ text) printable =
    let split : printed (line ∷ text) ≡ joined line ++ 10 ∷ printed text = append_assoc (joined line) (10 ∷ []) (printed text) in
    ap lines split
    ∙ (sym (lines_is (joined line ++ 10 ∷ printed text))
    ∙ (lines_after-plain [] (joined line) (10 ∷ printed text) (plain-joined line printable.0)
    ∙ ap (λ (ls : List (List ℕ)). joined line ∷ ls) (lines_is (printed text) ∙ lines-printed text printable.1)))
