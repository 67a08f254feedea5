-- Lines after names.
use Rattle.std.proofs.Common.{◌≡◌, ◌≢◌, ℕ, ◌<◌, ◌≤◌, ◌==◌, Bool, true, false, cond, List, [], ◌∷◌, ◌++◌, length, map, refl, sym, ap, ◌∙◌, subst, arith, append_assoc}
use Rattle.std.proofs.lemmas.List.{append-nil, length-append, map-append}
use Rattle.std.proofs.lemmas.Bool.{cond-true, cond-false, ne_eqb, false_from_ne_true}
use Rattle.std.proofs.lemmas.Grind.{flat_map-append}
use Rattle.std.proofs.lemmas.List.Elements.{filter-append}
use Rattle.std.proofs.lemmas.Slice.Eq.{bytes_eq-Decides}
use Rattle.std.specs.Str.{bytes_eq}
use Rattle.std.specs.List.{flat_map, filter, AllByRecursion}
use Rattle.texts.specs.Words.{is_blank, if_filled, words_after, words}
use Rattle.texts.specs.Lines.{InputLine, whole_line, last_line, lines, whole_lines_after, whole_lines, unfinished}
use Rattle.texts.specs.PrintedLines.{printed_line}
use Rattle.texts.proofs.WordLemmas.{words-nil, words_is, words-blank, words_after-blank}
use Rattle.texts.proofs.InputLemmas.{lines-texts, input_lines_by, Begins, Begins-nil, Begins-more, whole_lines_is, unfinished_is, whole_lines-append, unfinished-append, unfinished_after-append}
use Rattle.multiplexed_commands.specs.NamedLines.{ended_line, after_name, named, after_first, from_blank, comes_first, is_of, of_name, IsNaming, IsOfWholeLines}

-- no byte ends a line
abbrev pub HasNoEnd : List ℕ → Type 0
HasNoEnd line = AllByRecursion (λ byte. (byte == 10) ≡ false) line

-- ---- bytes without a line end
begins_on : (line more : List ℕ) → Begins line → HasNoEnd more → Begins (line ++ more)
begins_on line [] begins none = subst (λ (l : List ℕ). Begins l) (sym (append-nil line)) begins
begins_on line (byte ∷ more) begins none =
    subst (λ (l : List ℕ). Begins l) (append_assoc line (byte ∷ []) more) (begins_on (line ++ byte ∷ []) more (Begins-more line byte none.0 begins) none.1)

no_end_begins : (line : List ℕ) → HasNoEnd line → Begins line
no_end_begins line none = begins_on [] line Begins-nil none

pub whole-closed : (line rest : List ℕ) → HasNoEnd line → whole_lines (ended_line line ++ rest) ≡ line ∷ whole_lines rest
whole-closed line rest none =
    ap whole_lines (append_assoc line (10 ∷ []) rest)
    ∙ (whole_lines_is (line ++ 10 ∷ rest) ∙ ((no_end_begins line none).whole (10 ∷ rest) ∙ ap (λ (ls : List (List ℕ)). line ∷ ls) (sym (whole_lines_is rest))))

pub unfinished-closed : (line rest : List ℕ) → HasNoEnd line → unfinished (ended_line line ++ rest) ≡ unfinished rest
unfinished-closed line rest none =
    ap unfinished (append_assoc line (10 ∷ []) rest)
    ∙ (unfinished_is (line ++ 10 ∷ rest) ∙ ((no_end_begins line none).rest (10 ∷ rest) ∙ sym (unfinished_is rest)))

-- lines have no line end
no_end-more : (line : List ℕ) (byte : ℕ) → (byte == 10) ≡ false → HasNoEnd line → HasNoEnd (line ++ byte ∷ [])
no_end-more [] byte other none = (other, tt)
no_end-more (first ∷ line) byte other none = (none.0, no_end-more line byte other none.1)

ends_by : (ends : Bool) (line bytes longer : List ℕ) → HasNoEnd line → AllByRecursion HasNoEnd (whole_lines_after [] bytes) → (ends ≡ false → AllByRecursion HasNoEnd (whole_lines_after longer bytes))
    → AllByRecursion HasNoEnd (cond ends (line ∷ whole_lines_after [] bytes) (whole_lines_after longer bytes))
ends_by true line bytes longer none here later = (none, here)
ends_by false line bytes longer none here later = later refl

lines_no_end : (line bytes : List ℕ) → HasNoEnd line → AllByRecursion HasNoEnd (whole_lines_after line bytes)
lines_no_end line [] none = tt
lines_no_end line (byte ∷ bytes) none =
    ends_by (byte == 10) line bytes (line ++ byte ∷ []) none (lines_no_end [] bytes tt) (λ other. lines_no_end (line ++ byte ∷ []) bytes (no_end-more line byte other none))

pub whole_no_end : (put : List ℕ) → AllByRecursion HasNoEnd (whole_lines put)
whole_no_end put = subst (λ (ls : List (List ℕ)). AllByRecursion HasNoEnd ls) (sym (whole_lines_is put)) (lines_no_end [] put tt)

-- ---- a line after a name
plain_no_end : (name line : List ℕ) → AllByRecursion (λ byte. 32 < byte) name → HasNoEnd line → HasNoEnd (name ++ 32 ∷ line)
plain_no_end [] line plain none = (refl, none)
plain_no_end (byte ∷ name) line plain none =
    let above : 32 < byte = plain.0 in
    (ne_eqb byte 10 (λ same. omega arith), plain_no_end name line plain.1 none)

no_blank : (byte : ℕ) → 32 < byte → is_blank byte ≡ false
no_blank byte above =
    let space : (byte == 32) ≡ false = ne_eqb byte 32 (λ same. omega arith) in
    let tab : (byte == 9) ≡ false = ne_eqb byte 9 (λ same. omega arith) in
    let return : (byte == 13) ≡ false = ne_eqb byte 13 (λ same. omega arith) in
    rw (space, tab, return) refl

words_on : (word bytes rest : List ℕ) → AllByRecursion (λ byte. 32 < byte) bytes → words_after word (bytes ++ rest) ≡ words_after (word ++ bytes) rest
words_on word [] rest plain = ap (λ (w : List ℕ). words_after w rest) (sym (append-nil word))
words_on word (byte ∷ bytes) rest plain =
    cond-false (is_blank byte) (if_filled word ++ words_after [] (bytes ++ rest)) (words_after (word ++ byte ∷ []) (bytes ++ rest)) (no_blank byte plain.0)
    ∙ (words_on (word ++ byte ∷ []) bytes rest plain.1
    ∙ ap (λ (w : List ℕ). words_after w rest) (append_assoc word (byte ∷ []) bytes))

filled : (word : List ℕ) → 0 < length word → if_filled word ≡ word ∷ []
filled [] some = absurd (omega arith)
filled (byte ∷ bytes) some = refl

-- the name is the first word
pub words_named : (name line : List ℕ) → IsNaming name → words (after_name name line) ≡ name ∷ words line
words_named name line naming =
    sym (words_is (after_name name line))
    ∙ (words_on [] name (32 ∷ line) naming.plain
    ∙ (words_after-blank name 32 line refl ∙ ap (λ (ws : List (List ℕ)). ws ++ words line) (filled name naming.filled)))

pub same_name : (name other : List ℕ) → name ≡ other → bytes_eq name other ≡ true
same_name name other is = (bytes_eq-Decides name other).1 is

pub other_name : (name other : List ℕ) → name ≢ other → bytes_eq name other ≡ false
other_name name other is = false_from_ne_true (bytes_eq name other) (λ same. is ((bytes_eq-Decides name other).0 same))

is_its_own : (name line : List ℕ) → IsNaming name → is_of name (after_name name line) ≡ true
is_its_own name line naming = ap (comes_first name) (words_named name line naming) ∙ same_name name name refl

is_no_other : (name other line : List ℕ) → IsNaming name → name ≢ other → is_of other (after_name name line) ≡ false
is_no_other name other line naming is = ap (comes_first other) (words_named name line naming) ∙ other_name name other is

-- ---- lines after names
-- lines, each after a name
abbrev pub lines_named : List ℕ → List (List ℕ) → List ℕ
lines_named name lines = flat_map (λ line. ended_line (after_name name line)) lines

pub whole_named : (name : List ℕ) (lines : List (List ℕ)) → IsNaming name → AllByRecursion HasNoEnd lines → whole_lines (lines_named name lines) ≡ map (after_name name) lines
whole_named name [] naming none = whole_lines_is []
whole_named name (line ∷ lines) naming none =
    whole-closed (after_name name line) (lines_named name lines) (plain_no_end name line naming.plain none.0)
    ∙ ap (λ (ls : List (List ℕ)). after_name name line ∷ ls) (whole_named name lines naming none.1)

open_named : (name : List ℕ) (lines : List (List ℕ)) → IsNaming name → AllByRecursion HasNoEnd lines → unfinished (lines_named name lines) ≡ []
open_named name [] naming none = unfinished_is []
open_named name (line ∷ lines) naming none =
    unfinished-closed (after_name name line) (lines_named name lines) (plain_no_end name line naming.plain none.0) ∙ open_named name lines naming none.1

-- what is put after a name ends with a line end
pub named_whole : (name put : List ℕ) → IsNaming name → IsOfWholeLines (named name put)
named_whole name put naming = open_named name (whole_lines put) naming (whole_no_end put)

kept_by : (kept : Bool) (line : List ℕ) (lines : List (List ℕ)) → kept ≡ true → cond kept (line ∷ lines) lines ≡ line ∷ lines
kept_by kept line lines is = cond-true kept (line ∷ lines) lines is

keeps_named : (name : List ℕ) (lines : List (List ℕ)) → IsNaming name → filter (is_of name) (map (after_name name) lines) ≡ map (after_name name) lines
keeps_named name [] naming = refl
keeps_named name (line ∷ lines) naming =
    let rest : List (List ℕ) = filter (is_of name) (map (after_name name) lines) in
    cond-true (is_of name (after_name name line)) (after_name name line ∷ rest) rest (is_its_own name line naming)
    ∙ ap (λ (ls : List (List ℕ)). after_name name line ∷ ls) (keeps_named name lines naming)

keeps_none : (name other : List ℕ) (lines : List (List ℕ)) → IsNaming name → name ≢ other → filter (is_of other) (map (after_name name) lines) ≡ []
keeps_none name other [] naming is = refl
keeps_none name other (line ∷ lines) naming is =
    let rest : List (List ℕ) = filter (is_of other) (map (after_name name) lines) in
    cond-false (is_of other (after_name name line)) (after_name name line ∷ rest) rest (is_no_other name other line naming is) ∙ keeps_none name other lines naming is

ended_named : (name : List ℕ) (lines : List (List ℕ)) → flat_map ended_line (map (after_name name) lines) ≡ lines_named name lines
ended_named name [] = refl
ended_named name (line ∷ lines) = ap (λ (rest : List ℕ). ended_line (after_name name line) ++ rest) (ended_named name lines)

-- what is put after a name begins with it, line by line
pub of_own_name : (name put : List ℕ) → IsNaming name → of_name name (named name put) ≡ named name put
of_own_name name put naming =
    let lines : List (List ℕ) = whole_lines put in
    ap (λ (ls : List (List ℕ)). flat_map ended_line (filter (is_of name) ls)) (whole_named name lines naming (whole_no_end put))
    ∙ (ap (flat_map ended_line) (keeps_named name lines naming) ∙ ended_named name lines)

-- and none of it with another
pub of_other_name : (name other put : List ℕ) → IsNaming name → name ≢ other → of_name other (named name put) ≡ []
of_other_name name other put naming is =
    let lines : List (List ℕ) = whole_lines put in
    ap (λ (ls : List (List ℕ)). flat_map ended_line (filter (is_of other) ls)) (whole_named name lines naming (whole_no_end put))
    ∙ ap (flat_map ended_line) (keeps_none name other lines naming is)

pub of_none : (name : List ℕ) → of_name name [] ≡ []
of_none name = ap (λ (ls : List (List ℕ)). flat_map ended_line (filter (is_of name) ls)) (whole_lines_is [])

pub named_none : (name : List ℕ) → named name [] ≡ []
named_none name = ap (flat_map (λ (line : List ℕ). ended_line (after_name name line))) (whole_lines_is [])

-- ---- one after another
pub lines_both : (put more : List ℕ) → IsOfWholeLines put → whole_lines (put ++ more) ≡ whole_lines put ++ whole_lines more
lines_both put more whole = whole_lines-append put more ∙ ap (λ (left : List ℕ). whole_lines put ++ whole_lines (left ++ more)) whole

pub named_both : (name put more : List ℕ) → IsOfWholeLines put → named name (put ++ more) ≡ named name put ++ named name more
named_both name put more whole =
    ap (flat_map (λ (line : List ℕ). ended_line (after_name name line))) (lines_both put more whole)
    ∙ flat_map-append (λ (line : List ℕ). ended_line (after_name name line)) (whole_lines put) (whole_lines more)

pub of_both : (name put more : List ℕ) → IsOfWholeLines put → of_name name (put ++ more) ≡ of_name name put ++ of_name name more
of_both name put more whole =
    ap (λ (ls : List (List ℕ)). flat_map ended_line (filter (is_of name) ls)) (lines_both put more whole)
    ∙ (ap (flat_map ended_line) (filter-append (is_of name) (whole_lines put) (whole_lines more))
    ∙ flat_map-append ended_line (filter (is_of name) (whole_lines put)) (filter (is_of name) (whole_lines more)))

pub whole_both : (put more : List ℕ) → IsOfWholeLines put → IsOfWholeLines more → IsOfWholeLines (put ++ more)
whole_both put more whole later = unfinished-append put more ∙ (ap (λ (left : List ℕ). unfinished (left ++ more)) whole ∙ later)

pub whole_none : IsOfWholeLines []
whole_none = unfinished_is []

-- what ends with a line end is whole
pub unfinished_last : (line : List ℕ) → IsOfWholeLines (line ++ 10 ∷ [])
unfinished_last line = unfinished_is (line ++ 10 ∷ []) ∙ unfinished_after-append [] line (10 ∷ [])

-- ---- a line without its first word
-- what stands after the first word has the other words
after_word : (word bytes : List ℕ) (first : List ℕ) (others : List (List ℕ)) → 0 < length word → words_after word bytes ≡ first ∷ others → words (from_blank bytes) ≡ others
after_word word [] first others some is =
    let one : word ∷ [] ≡ first ∷ others = sym (filled word some) ∙ is in
    let none : [] ≡ others = cc one in
    words-nil ∙ none
after_word word (byte ∷ bytes) first others some is = by (is_blank byte) refl is (after_word (word ++ byte ∷ []) bytes first others (omega (arith, length-append word (byte ∷ []))))
  where
    by : (blank : Bool) → is_blank byte ≡ blank → cond blank (if_filled word ++ words_after [] bytes) (words_after (word ++ byte ∷ []) bytes) ≡ first ∷ others
        → (words_after (word ++ byte ∷ []) bytes ≡ first ∷ others → words (from_blank bytes) ≡ others) → words (elim blank as (λ b. List ℕ) [ true ↦ byte ∷ bytes | false ↦ from_blank bytes ]) ≡ others
    by true blank is later =
        let one : word ∷ words_after [] bytes ≡ first ∷ others = ap (λ (ws : List (List ℕ)). ws ++ words_after [] bytes) (sym (filled word some)) ∙ is in
        let rest : words_after [] bytes ≡ others = cc one in
        words-blank byte bytes blank ∙ (sym (words_is bytes) ∙ rest)
    by false blank is later = later is

pub words_after_first : (line : List ℕ) (first : List ℕ) (others : List (List ℕ)) → words line ≡ first ∷ others → words (after_first line) ≡ others
words_after_first [] first others is = absurd (cc (words-nil, is))
words_after_first (byte ∷ bytes) first others is = by (is_blank byte) refl (words_is (byte ∷ bytes) ∙ is) (words_after_first bytes first others)
  where
    by : (blank : Bool) → is_blank byte ≡ blank → cond blank (words_after [] bytes) (words_after (byte ∷ []) bytes) ≡ first ∷ others → (words bytes ≡ first ∷ others → words (after_first bytes) ≡ others)
        → words (elim blank as (λ b. List ℕ) [ true ↦ after_first bytes | false ↦ from_blank bytes ]) ≡ others
    by true blank is later = later (sym (words_is bytes) ∙ is)
    by false blank is later = after_word (byte ∷ []) bytes first others (omega arith) is

-- ---- how long lines are after a name
lines_short : (line bytes : List ℕ) → length (whole_lines_after line bytes) ≤ length bytes
lines_short line [] = omega arith
lines_short line (byte ∷ bytes) = by (byte == 10) (lines_short [] bytes) (lines_short (line ++ byte ∷ []) bytes)
  where
    by : (ends : Bool) → length (whole_lines_after [] bytes) ≤ length bytes → length (whole_lines_after (line ++ byte ∷ []) bytes) ≤ length bytes
        → length (cond ends (line ∷ whole_lines_after [] bytes) (whole_lines_after (line ++ byte ∷ []) bytes)) ≤ length (byte ∷ bytes)
    by true here later = omega arith
    by false here later = omega arith

-- ---- the lines of a whole text
no_last : (left : List ℕ) → left ≡ [] → map (λ (line : InputLine). line.text) (last_line left) ≡ []
no_last [] is = refl
no_last (byte ∷ bytes) is = absurd (cc is)

texts_of : (lines : List (List ℕ)) → map (λ (line : InputLine). line.text) (map whole_line lines) ≡ lines
texts_of [] = refl
texts_of (line ∷ lines) = ap (λ (ls : List (List ℕ)). line ∷ ls) (texts_of lines)

pub lines_whole : (put : List ℕ) → IsOfWholeLines put → lines put ≡ whole_lines put
lines_whole put whole =
    lines-texts put
    ∙ (ap (map (λ (line : InputLine). line.text)) (input_lines_by put)
    ∙ (map-append (λ (line : InputLine). line.text) (map whole_line (whole_lines put)) (last_line (unfinished put))
    ∙ (ap (λ (ls : List (List ℕ)). map (λ (line : InputLine). line.text) (map whole_line (whole_lines put)) ++ ls) (no_last (unfinished put) whole)
    ∙ (append-nil (map (λ (line : InputLine). line.text) (map whole_line (whole_lines put))) ∙ texts_of (whole_lines put)))))

-- the words of a line after a name, as they are printed
pub printed_named : (name line : List ℕ) → printed_line (name ∷ line ∷ []) ≡ ended_line (after_name name line)
printed_named name line = ap (λ (l : List ℕ). (name ++ 32 ∷ l) ++ 10 ∷ []) (append-nil line)
