-- Texts whose last line has its end: their lines, and those of one after another.
use Rattle.std.proofs.Common.{◌≡◌, ℕ, ◌+◌, ◌==◌, Bool, true, false, cond, List, [], ◌∷◌, ◌++◌, length, map, refl, sym, ap, ◌∙◌, subst, arith, append_assoc}
use Rattle.std.specs.List.{flat_map, AllByRecursion}
use Rattle.std.proofs.lemmas.Bool.{cond_both, eqb-true}
use Rattle.std.proofs.lemmas.List.{append-nil, length-append}
use Rattle.texts.specs.Lines.{InputLine, input_lines, last_line, lines, lines_after, unfinished, unfinished_after, whole_line, whole_lines, whole_lines_after}
use Rattle.texts.specs.PrintedLines.{joined, printed, printed_line}
use Rattle.texts.specs.Words.{if_filled}
use Rattle.texts.proofs.LineLemmas.{lines-nil, lines_is}
use Rattle.texts.proofs.InputLemmas.{Begins, Begins-more, Begins-nil, input_lines-closed, input_lines_by, input_lines_is, lines-texts, unfinished-append, unfinished_after-append, unfinished_is, whole_lines-append, whole_lines_is}
use Rattle.stnu_run.specs.PrintedCertificates.{with_end}

-- the last line has its end
abbrev pub IsClosed : List ℕ → Type 0
IsClosed bytes = unfinished bytes ≡ []

pub closed_line : (line : List ℕ) → IsClosed (line ++ 10 ∷ [])
closed_line line = unfinished_is (line ++ 10 ∷ []) ∙ unfinished_after-append [] line (10 ∷ [])

pub closed_both : (one other : List ℕ) → IsClosed one → IsClosed other → IsClosed (one ++ other)
closed_both one other first second = unfinished-append one other ∙ (ap (λ (start : List ℕ). unfinished (start ++ other)) first ∙ second)

pub closed_printed : (text : List (List (List ℕ))) → IsClosed (printed text)
closed_printed [] = unfinished_is []
closed_printed (line ∷ text) = closed_both (printed_line line) (printed text) (closed_line (joined line)) (closed_printed text)

pub closed_text : (text : List (List ℕ)) → IsClosed (flat_map with_end text)
closed_text [] = unfinished_is []
closed_text (line ∷ text) = closed_both (with_end line) (flat_map with_end text) (closed_line line) (closed_text text)

-- ---- their lines
pub texts_whole : (text : List (List ℕ)) → map (λ (line : InputLine). line.text) (map whole_line text) ≡ text
texts_whole [] = refl
texts_whole (line ∷ text) = ap (λ (rest : List (List ℕ)). line ∷ rest) (texts_whole text)

closed_lines : (bytes : List ℕ) → IsClosed bytes → input_lines bytes ≡ map whole_line (whole_lines bytes)
closed_lines bytes closed =
    input_lines_by bytes
    ∙ (ap (λ (rest : List ℕ). map whole_line (whole_lines bytes) ++ last_line rest) closed
    ∙ append-nil (map whole_line (whole_lines bytes)))

lines_whole : (bytes : List ℕ) → IsClosed bytes → lines bytes ≡ whole_lines bytes
lines_whole bytes closed =
    lines-texts bytes
    ∙ (ap (λ (ls : List InputLine). map (λ (line : InputLine). line.text) ls) (closed_lines bytes closed)
    ∙ texts_whole (whole_lines bytes))

pub input_lines_whole : (bytes : List ℕ) → IsClosed bytes → input_lines bytes ≡ map whole_line (lines bytes)
input_lines_whole bytes closed = closed_lines bytes closed ∙ ap (λ (ls : List (List ℕ)). map whole_line ls) (sym (lines_whole bytes closed))

pub lines_both : (one other : List ℕ) → IsClosed one → IsClosed other → lines (one ++ other) ≡ lines one ++ lines other
lines_both one other first second =
    lines_whole (one ++ other) (closed_both one other first second)
    ∙ (whole_lines-append one other
    ∙ (ap (λ (start : List ℕ). whole_lines one ++ whole_lines (start ++ other)) first
    ∙ (ap (λ (ls : List (List ℕ)). ls ++ whole_lines other) (sym (lines_whole one first))
    ∙ ap (λ (ls : List (List ℕ)). lines one ++ ls) (sym (lines_whole other second)))))

-- ---- the text of lines
one_line : (line : List ℕ) → Begins line → lines (line ++ 10 ∷ []) ≡ line ∷ []
one_line line begins =
    lines-texts (line ++ 10 ∷ [])
    ∙ ap (λ (ls : List InputLine). map (λ (l : InputLine). l.text) ls) (input_lines-closed line [] begins ∙ ap (λ (rest : List InputLine). whole_line line ∷ rest) (input_lines_is []))

pub lines_text : (text : List (List ℕ)) → AllByRecursion Begins text → lines (flat_map with_end text) ≡ text
lines_text [] begin = lines-nil
lines_text (line ∷ text) begin =
    lines_both (with_end line) (flat_map with_end text) (closed_line line) (closed_text text)
    ∙ (ap (λ (ls : List (List ℕ)). ls ++ lines (flat_map with_end text)) (one_line line begin.0)
    ∙ ap (λ (ls : List (List ℕ)). line ∷ ls) (lines_text text begin.1))

last_begins : (line : List ℕ) → Begins line → AllByRecursion Begins (if_filled line)
last_begins [] begins = tt
last_begins (byte ∷ bytes) begins = (begins, tt)

begin_after : (line bytes : List ℕ) → Begins line → AllByRecursion Begins (lines_after line bytes)
begin_after line [] begins = last_begins line begins
begin_after line (byte ∷ bytes) begins =
    cond_both (byte == 10) (line ∷ lines_after [] bytes) (lines_after (line ++ byte ∷ []) bytes) (λ (ls : List (List ℕ)). AllByRecursion Begins ls)
    (λ ends. (begins, begin_after [] bytes Begins-nil))
    (λ other. begin_after (line ++ byte ∷ []) bytes (Begins-more line byte other begins))

-- no line of a text has a line end within
pub lines_begin : (bytes : List ℕ) → AllByRecursion Begins (lines bytes)
lines_begin bytes = subst (AllByRecursion Begins) (lines_is bytes) (begin_after [] bytes Begins-nil)

-- ---- how many bytes lines have with their ends
abbrev pub total_size : List (List ℕ) → ℕ
total_size [] = 0
total_size (line ∷ text) = length line + 1 + total_size text

pub total_both : (one other : List (List ℕ)) → total_size (one ++ other) ≡ total_size one + total_size other
total_both [] other = omega arith
total_both (line ∷ one) other = let on = total_both one other in omega (arith, on)

-- whole lines and what is unfinished are all bytes
abbrev Fills : List ℕ → List ℕ → Type 0
Fills line bytes = total_size (whole_lines_after line bytes) + length (unfinished_after line bytes) ≡ length line + length bytes

fills_by : (ends : Bool) (byte : ℕ) (line longer bytes : List ℕ) → length longer ≡ length line + 1 → Fills [] bytes → Fills longer bytes
    → total_size (cond ends (line ∷ whole_lines_after [] bytes) (whole_lines_after longer bytes)) + length (cond ends (unfinished_after [] bytes) (unfinished_after longer bytes)) ≡ length line + length (byte ∷ bytes)
fills_by true byte line longer bytes long here later = omega (arith, here)
fills_by false byte line longer bytes long here later = omega (arith, later, long)

fills : (line bytes : List ℕ) → Fills line bytes
fills line [] = omega arith
fills line (byte ∷ bytes) =
    fills_by (byte == 10) byte line (line ++ byte ∷ []) bytes (length-append line (byte ∷ [])) (fills [] bytes) (fills (line ++ byte ∷ []) bytes)

pub total_is : (bytes : List ℕ) → IsClosed bytes → total_size (lines bytes) ≡ length bytes
total_is bytes closed =
    let all = fills [] bytes in
    let whole : total_size (lines bytes) ≡ total_size (whole_lines_after [] bytes) = ap (λ (ls : List (List ℕ)). total_size ls) (lines_whole bytes closed ∙ whole_lines_is bytes) in
    let none : length (unfinished_after [] bytes) ≡ 0 = ap (λ (rest : List ℕ). length rest) (sym (unfinished_is bytes) ∙ closed) in
    omega (arith, all, whole, none)

-- ---- the text of the lines of a text
-- whole lines with their ends, and what is unfinished, are all bytes
abbrev Restores : List ℕ → List ℕ → Type 0
Restores line bytes = flat_map with_end (whole_lines_after line bytes) ++ unfinished_after line bytes ≡ line ++ bytes

restores_by : (ends : Bool) (byte : ℕ) (line bytes : List ℕ) → (byte == 10) ≡ ends → Restores [] bytes → Restores (line ++ byte ∷ []) bytes
    → flat_map with_end (cond ends (line ∷ whole_lines_after [] bytes) (whole_lines_after (line ++ byte ∷ []) bytes)) ++ cond ends (unfinished_after [] bytes) (unfinished_after (line ++ byte ∷ []) bytes) ≡ line ++ byte ∷ bytes
restores_by true byte line bytes is here later =
    append_assoc (with_end line) (flat_map with_end (whole_lines_after [] bytes)) (unfinished_after [] bytes)
    ∙ (ap (λ (rest : List ℕ). with_end line ++ rest) here
    ∙ (append_assoc line (10 ∷ []) bytes
    ∙ ap (λ (b : ℕ). line ++ b ∷ bytes) (sym (eqb-true byte 10 is))))
restores_by false byte line bytes is here later = later ∙ append_assoc line (byte ∷ []) bytes

restores : (line bytes : List ℕ) → Restores line bytes
restores line [] = sym (append-nil line)
restores line (byte ∷ bytes) = restores_by (byte == 10) byte line bytes refl (restores [] bytes) (restores (line ++ byte ∷ []) bytes)

pub text_restored : (bytes : List ℕ) → IsClosed bytes → flat_map with_end (lines bytes) ≡ bytes
text_restored bytes closed =
    ap (λ (ls : List (List ℕ)). flat_map with_end ls) (lines_whole bytes closed ∙ whole_lines_is bytes)
    ∙ (sym (append-nil (flat_map with_end (whole_lines_after [] bytes)))
    ∙ (ap (λ (rest : List ℕ). flat_map with_end (whole_lines_after [] bytes) ++ rest) (sym closed ∙ unfinished_is bytes)
    ∙ restores [] bytes))
