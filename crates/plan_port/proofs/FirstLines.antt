-- What bytes decide of their first line, and that it stays when more bytes come.
use Rattle.std.proofs.Common.{◌≡◌, ℕ, ◌+◌, ◌<◌, ◌≤◌, Bool, true, false, not, cond, nat_lt, nat_le, ◌&&◌, ◌||◌, List, [], ◌∷◌, ◌++◌, length, take, drop, map, suc, Some, None, refl, sym, ap, ◌∙◌, arith, append_assoc}
use Rattle.std.specs.List.{position, position_or_len}
use Rattle.std.proofs.lemmas.List.{append-nil, length-append, length-take-le, take_at, drop_at, drop-drop}
use Rattle.std.proofs.lemmas.List.Sums.{prefix_len-le-length}
use Rattle.std.proofs.lemmas.Bool.{cond-true, cond-false}
use Rattle.std.proofs.lemmas.Bool.Decides.{nat_tests}
use Rattle.texts.specs.Lines.{InputLine, whole_line, open_line, last_line, whole_lines, whole_lines_after, unfinished_after, unfinished, input_lines}
use Rattle.texts.proofs.InputLemmas.{Begins, input_lines_after, input_lines_is, input_lines_by, whole_lines_is, unfinished-open, input_lines-open, input_lines-closed, first_cut}
use Rattle.plan_port.specs.Lines.{Coming, Comes, TooLong, TooMuch, coming, DecideNothing}
use Rattle.plan_port.specs.ReaderSteps.{ends_line, verdict_on, verdict_by, verdict_to, verdict}
use Rattle.plan_port.specs.declared.lines.LineVerdict.TheVariants.{Unclear, Line, BeyondLine, BeyondInput}

abbrev place : List ℕ → ℕ
place bytes = position_or_len ends_line bytes

-- the tests by the size of a line and whether it has its end
abbrev long_test : ℕ → ℕ → ℕ → Bool
long_test longest spare_capacity size = nat_lt longest size && nat_le longest spare_capacity

abbrev much_test : ℕ → ℕ → Bool → Bool
much_test spare_capacity size closed = nat_lt spare_capacity size || (closed && nat_le spare_capacity size)

-- if there is a line end in the bytes, they are a line and what follows that end
abbrev IsCutAtPlace : List ℕ → List ℕ → Type 0
IsCutAtPlace line bytes = input_lines_after line bytes ≡ whole_line (line ++ take (place bytes) bytes) ∷ input_lines (drop (place bytes + 1) bytes)

closed_by : (ends : Bool) (line : List ℕ) (byte : ℕ) (bytes : List ℕ) → ends_line byte ≡ ends → (ends ≡ false → IsCutAtPlace (line ++ byte ∷ []) bytes) → IsCutAtPlace line (byte ∷ bytes)
closed_by true line byte bytes e later =
    let here : place (byte ∷ bytes) ≡ 0 = ap (λ (b : Bool). cond (not b) (1 + place bytes) 0) e in
    let left : input_lines_after line (byte ∷ bytes) ≡ whole_line line ∷ input_lines bytes = ap (λ (b : Bool). map whole_line (cond b (line ∷ whole_lines_after [] bytes) (whole_lines_after (line ++ byte ∷ []) bytes)) ++ last_line
    (cond b (unfinished_after [] bytes) (unfinished_after (line ++ byte ∷ []) bytes))) e ∙ ap (λ (ls : List InputLine). whole_line line ∷ ls) (sym (input_lines_is bytes)) in
    let right : whole_line (line ++ take (place (byte ∷ bytes)) (byte ∷ bytes)) ∷ input_lines (drop (place (byte ∷ bytes) + 1) (byte ∷ bytes)) ≡ whole_line (line ++ []) ∷ input_lines bytes =
    ap (λ (k : ℕ). whole_line (line ++ take k (byte ∷ bytes)) ∷ input_lines (drop (k + 1) (byte ∷ bytes))) here in
    left ∙ (ap (λ (l : List ℕ). whole_line l ∷ input_lines bytes) (sym (append-nil line)) ∙ sym right)
closed_by false line byte bytes e later =
    let here : place (byte ∷ bytes) ≡ 1 + place bytes = ap (λ (b : Bool). cond (not b) (1 + place bytes) 0) e in
    let next_place : 1 + place bytes ≡ suc (place bytes) = omega arith in
    let left : input_lines_after line (byte ∷ bytes) ≡ input_lines_after (line ++ byte ∷ []) bytes = ap (λ (b : Bool). map whole_line (cond b (line ∷ whole_lines_after [] bytes) (whole_lines_after (line ++ byte ∷ []) bytes)) ++ last_line
    (cond b (unfinished_after [] bytes) (unfinished_after (line ++ byte ∷ []) bytes))) e in
    let right : whole_line (line ++ take (place (byte ∷ bytes)) (byte ∷ bytes)) ∷ input_lines (drop (place (byte ∷ bytes) + 1) (byte ∷ bytes)) ≡ whole_line (line ++ byte ∷ take (place bytes) bytes) ∷ input_lines
    (drop (place bytes + 1) bytes) =
    ap (λ (k : ℕ). whole_line (line ++ take k (byte ∷ bytes)) ∷ input_lines (drop (k + 1) (byte ∷ bytes))) (here ∙ next_place)
    ∙ ap (λ (k : ℕ). whole_line (line ++ byte ∷ take (place bytes) bytes) ∷ input_lines (drop k (byte ∷ bytes))) (let s : suc (place bytes) + 1 ≡ suc (place bytes + 1) = omega arith in s) in
    left ∙ (later refl ∙ (ap (λ (l : List ℕ). whole_line l ∷ input_lines (drop (place bytes + 1) bytes)) (append_assoc line (byte ∷ []) (take (place bytes) bytes)) ∙ sym right))

within_rest : (byte : ℕ) (bytes : List ℕ) → ends_line byte ≡ false → place (byte ∷ bytes) < length (byte ∷ bytes) → place bytes < length bytes
within_rest byte bytes e within =
    let here : place (byte ∷ bytes) ≡ 1 + place bytes = ap (λ (b : Bool). cond (not b) (1 + place bytes) 0) e in
    omega (arith, here, within)

closed_after : (line bytes : List ℕ) → place bytes < length bytes → IsCutAtPlace line bytes
closed_after line [] within = absurd (omega arith)
closed_after line (byte ∷ bytes) within =
    closed_by (ends_line byte) line byte bytes refl (λ e. closed_after (line ++ byte ∷ []) bytes (within_rest byte bytes e within))

-- if there is none, they are no whole line
open_by : (ends : Bool) (line : List ℕ) (byte : ℕ) (bytes : List ℕ) → ends_line byte ≡ ends → place (byte ∷ bytes) ≡ length (byte ∷ bytes) → (place bytes ≡ length bytes → whole_lines_after (line ++ byte ∷ []) bytes ≡ [])
    → whole_lines_after line (byte ∷ bytes) ≡ []
open_by true line byte bytes e all later =
    let here : place (byte ∷ bytes) ≡ 0 = ap (λ (b : Bool). cond (not b) (1 + place bytes) 0) e in
    absurd (omega (arith, here, all))
open_by false line byte bytes e all later =
    let here : place (byte ∷ bytes) ≡ 1 + place bytes = ap (λ (b : Bool). cond (not b) (1 + place bytes) 0) e in
    cond-false (ends_line byte) (line ∷ whole_lines_after [] bytes) (whole_lines_after (line ++ byte ∷ []) bytes) e ∙ later (omega (arith, here, all))

none_after : (line bytes : List ℕ) → place bytes ≡ length bytes → whole_lines_after line bytes ≡ []
none_after line [] all = refl
none_after line (byte ∷ bytes) all = open_by (ends_line byte) line byte bytes refl all (none_after (line ++ byte ∷ []) bytes)

-- the verdict by the size of the line is that by what comes of it
on_by : (long much closed : Bool) (line : InputLine) (size : ℕ) → line.ended ≡ closed → length line.text ≡ size
    → cond long BeyondLine (cond much BeyondInput (cond closed (Line size) Unclear)) ≡ verdict_by (cond long TooLong (cond much TooMuch Comes)) line
on_by true much closed line size e s = refl
on_by false true closed line size e s = refl
on_by false false closed line size e s = ap (λ (n : ℕ). cond closed (Line n) Unclear) (sym s) ∙ ap (λ (b : Bool). cond b (Line (length line.text)) Unclear) (sym e)

on_is : (longest spare_capacity : ℕ) (line : InputLine) → verdict_on (length line.text) line.ended longest spare_capacity ≡ verdict_by (coming longest spare_capacity line) line
on_is longest spare_capacity line = on_by (long_test longest spare_capacity (length line.text)) (much_test spare_capacity (length line.text) line.ended) line.ended line (length line.text) refl refl

-- what a search for the line end says of the verdict
place_from_test : (t : Bool) (n size : ℕ) → Some size ≡ cond t (Some n) None → (t ≡ true) × (size ≡ n)
place_from_test true n size e = (refl, cc)
place_from_test false n size e = absurd (cc)

none_from_test : (t : Bool) (n : ℕ) → None ≡ cond t (Some n) None → t ≡ false
none_from_test true n e = absurd (cc)
none_from_test false n e = refl

pub verdict_of_found : (longest spare_capacity : ℕ) (bytes : List ℕ) (size : ℕ) → Some size ≡ position ends_line bytes → verdict_on size true longest spare_capacity ≡ verdict longest spare_capacity bytes
verdict_of_found longest spare_capacity bytes size e =
    let t = place_from_test (nat_lt (place bytes) (length bytes)) (place bytes) size e in
    let test : nat_lt (place bytes) (length bytes) ≡ true = t.0 in
    let within : place bytes < length bytes = grind (arith, nat_tests) in
    let is : input_lines bytes ≡ whole_line (take (place bytes) bytes) ∷ input_lines (drop (place bytes + 1) bytes) = input_lines_is bytes ∙ closed_after [] bytes within in
    let size_is : size ≡ length (take (place bytes) bytes) = omega (arith, t.1, length-take-le (place bytes) bytes) in
    ap (λ (n : ℕ). verdict_on n true longest spare_capacity) size_is
    ∙ (on_is longest spare_capacity (whole_line (take (place bytes) bytes))
    ∙ ap (λ (ls : List InputLine). verdict_to longest spare_capacity ls) (sym is))

verdict_of_last : (longest spare_capacity : ℕ) (bytes : List ℕ) → verdict_on (length bytes) false longest spare_capacity ≡ verdict_to longest spare_capacity (last_line bytes)
verdict_of_last longest spare_capacity [] =
    let long : long_test longest spare_capacity 0 ≡ false = grind (arith, nat_tests) in
    let much : much_test spare_capacity 0 false ≡ false = grind (arith, nat_tests) in
    rw (long, much) refl
verdict_of_last longest spare_capacity (byte ∷ bytes) = on_is longest spare_capacity (open_line (byte ∷ bytes))

pub verdict_of_open : (longest spare_capacity : ℕ) (bytes : List ℕ) → None ≡ position ends_line bytes → verdict_on (length bytes) false longest spare_capacity ≡ verdict longest spare_capacity bytes
verdict_of_open longest spare_capacity bytes e =
    let test : nat_lt (place bytes) (length bytes) ≡ false = none_from_test (nat_lt (place bytes) (length bytes)) (place bytes) e in
    let le : place bytes ≤ length bytes = prefix_len-le-length _ bytes in
    let all : place bytes ≡ length bytes = grind (arith, nat_tests) in
    let none : whole_lines bytes ≡ [] = whole_lines_is bytes ∙ none_after [] bytes all in
    verdict_of_last longest spare_capacity bytes ∙ ap (λ (ls : List InputLine). verdict_to longest spare_capacity ls) (sym (input_lines-open bytes none))

-- a verdict that says nothing yet
pub clear_whole : (how : Coming) (line : List ℕ) → verdict_by how (whole_line line) ≡ Unclear → ⊥
clear_whole Comes line e = cc
clear_whole TooLong line e = cc
clear_whole TooMuch line e = cc

unclear_open : (how : Coming) (line : List ℕ) → verdict_by how (open_line line) ≡ Unclear → how ≡ Comes
unclear_open Comes line e = refl
unclear_open TooLong line e = absurd (cc)
unclear_open TooMuch line e = absurd (cc)

nothing_comes : (longest spare_capacity : ℕ) → coming longest spare_capacity (open_line []) ≡ Comes
nothing_comes longest spare_capacity =
    let long : long_test longest spare_capacity 0 ≡ false = grind (arith, nat_tests) in
    let much : much_test spare_capacity 0 false ≡ false = grind (arith, nat_tests) in
    rw (long, much) refl

nothing_by : (whole : List (List ℕ)) (rest : List ℕ) (longest spare_capacity : ℕ) → verdict_to longest spare_capacity (map whole_line whole ++ last_line rest) ≡ Unclear
    → (whole ≡ []) × (coming longest spare_capacity (open_line rest) ≡ Comes)
nothing_by [] [] longest spare_capacity e = (refl, nothing_comes longest spare_capacity)
nothing_by [] (byte ∷ bytes) longest spare_capacity e = (refl, unclear_open (coming longest spare_capacity (open_line (byte ∷ bytes))) (byte ∷ bytes) e)
nothing_by (line ∷ others) rest longest spare_capacity e = absurd (clear_whole (coming longest spare_capacity (whole_line line)) line e)

pub decide_nothing : (longest spare_capacity : ℕ) (bytes : List ℕ) → verdict longest spare_capacity bytes ≡ Unclear → DecideNothing longest spare_capacity bytes
decide_nothing longest spare_capacity bytes e =
    let found = nothing_by (whole_lines bytes) (unfinished bytes) longest spare_capacity (ap (λ (ls : List InputLine). verdict_to longest spare_capacity ls) (sym (input_lines_by bytes)) ∙ e) in
    record { no_line = found.0; within = found.1 }

comes_tests : (long much : Bool) → cond long TooLong (cond much TooMuch Comes) ≡ Comes → (long ≡ false) × (much ≡ false)
comes_tests true much e = absurd (cc)
comes_tests false true e = absurd (cc)
comes_tests false false e = (refl, refl)

small_by : (longest spare_capacity size : ℕ) → long_test longest spare_capacity size ≡ false → much_test spare_capacity size false ≡ false → (size ≤ longest) × (size ≤ spare_capacity)
small_by longest spare_capacity size long much =
    let within : size ≤ spare_capacity = grind (arith, nat_tests) in
    let short : size ≤ longest = grind (arith, nat_tests) in
    (short, within)

-- bytes that decide nothing are few
pub open_is_small : (longest spare_capacity : ℕ) (line : List ℕ) → coming longest spare_capacity (open_line line) ≡ Comes → (length line ≤ longest) × (length line ≤ spare_capacity)
open_is_small longest spare_capacity line e =
    let tests = comes_tests (long_test longest spare_capacity (length line)) (much_test spare_capacity (length line) false) e in
    small_by longest spare_capacity (length line) tests.0 tests.1

pub nothing_is_small : (longest spare_capacity : ℕ) (bytes : List ℕ) → DecideNothing longest spare_capacity bytes → (length bytes ≤ longest) × (length bytes ≤ spare_capacity)
nothing_is_small longest spare_capacity bytes d =
    let whole = unfinished-open bytes d.no_line in
    open_is_small longest spare_capacity bytes (ap (λ (l : List ℕ). coming longest spare_capacity (open_line l)) (sym whole) ∙ d.within)

closed_within : (spare_capacity size : ℕ) → much_test spare_capacity size true ≡ false → size < spare_capacity
closed_within spare_capacity size much = grind (arith, nat_tests)

pub whole_is_within : (longest spare_capacity : ℕ) (line : List ℕ) → coming longest spare_capacity (whole_line line) ≡ Comes → length line < spare_capacity
whole_is_within longest spare_capacity line e =
    closed_within spare_capacity (length line) (comes_tests (long_test longest spare_capacity (length line)) (much_test spare_capacity (length line) true) e).1

-- what comes of a line that has not ended comes of it when it is longer
comes_too_long : (long much : Bool) → cond long TooLong (cond much TooMuch Comes) ≡ TooLong → long ≡ true
comes_too_long true much e = refl
comes_too_long false true e = absurd (cc)
comes_too_long false false e = absurd (cc)

comes_too_much : (long much : Bool) → cond long TooLong (cond much TooMuch Comes) ≡ TooMuch → (long ≡ false) × (much ≡ true)
comes_too_much true much e = absurd (cc)
comes_too_much false true e = (refl, refl)
comes_too_much false false e = absurd (cc)

still_long : (longest spare_capacity size more : ℕ) → size ≤ more → long_test longest spare_capacity size ≡ true → long_test longest spare_capacity more ≡ true
still_long longest spare_capacity size more le e = grind (arith, nat_tests)

beyond : (spare_capacity size : ℕ) → much_test spare_capacity size false ≡ true → spare_capacity < size
beyond spare_capacity size e = grind (arith, nat_tests)

still_not_long : (longest spare_capacity size more : ℕ) → spare_capacity < size → long_test longest spare_capacity size ≡ false → long_test longest spare_capacity more ≡ false
still_not_long longest spare_capacity size more lt e = grind (arith, nat_tests)

still_much : (spare_capacity size : ℕ) (closed : Bool) → spare_capacity < size → much_test spare_capacity size closed ≡ true
still_much spare_capacity size closed lt = grind (arith, nat_tests)

pub stays_long : (longest spare_capacity : ℕ) (line : List ℕ) (first : InputLine) → length line ≤ length first.text → coming longest spare_capacity (open_line line) ≡ TooLong → coming longest spare_capacity first ≡ TooLong
stays_long longest spare_capacity line first le e =
    let long = still_long longest spare_capacity (length line) (length first.text) le (comes_too_long (long_test longest spare_capacity (length line)) (much_test spare_capacity (length line) false) e) in
    cond-true (long_test longest spare_capacity (length first.text)) TooLong (cond (much_test spare_capacity (length first.text) first.ended) TooMuch Comes) long

pub stays_much : (longest spare_capacity : ℕ) (line : List ℕ) (first : InputLine) → length line ≤ length first.text → coming longest spare_capacity (open_line line) ≡ TooMuch → coming longest spare_capacity first ≡ TooMuch
stays_much longest spare_capacity line first le e =
    let tests = comes_too_much (long_test longest spare_capacity (length line)) (much_test spare_capacity (length line) false) e in
    let lt = beyond spare_capacity (length line) tests.1 in
    let long = still_not_long longest spare_capacity (length line) (length first.text) lt tests.0 in
    let much = still_much spare_capacity (length first.text) first.ended (omega arith) in
    cond-false (long_test longest spare_capacity (length first.text)) TooLong (cond (much_test spare_capacity (length first.text) first.ended) TooMuch Comes) long
    ∙ cond-true (much_test spare_capacity (length first.text) first.ended) TooMuch Comes much

-- the first line of some bytes: there is none, or its end is in them, or it is all of them
pub record IsWholeFirst (bytes : List ℕ) : Type 0 where
  pub line : List ℕ
  pub rest : List ℕ
  pub bytes_are : bytes ≡ line ++ 10 ∷ rest
  pub begins : Begins line
  pub lines_are : input_lines bytes ≡ whole_line line ∷ input_lines rest

pub record IsOpenFirst (bytes : List ℕ) : Type 0 where
  pub filled : 0 < length bytes
  pub no_line : whole_lines bytes ≡ []
  pub lines_are : input_lines bytes ≡ open_line bytes ∷ []

pub data FirstOf (bytes : List ℕ) : Type 0 where
  NoFirst : bytes ≡ [] → FirstOf bytes
  WholeFirst : IsWholeFirst bytes → FirstOf bytes
  OpenFirst : IsOpenFirst bytes → FirstOf bytes

pub input_lines-nil : input_lines [] ≡ []
input_lines-nil = input_lines_is []

open_first : (bytes : List ℕ) → whole_lines bytes ≡ [] → FirstOf bytes
open_first [] none = NoFirst refl
open_first (byte ∷ bytes) none = OpenFirst (record { filled = omega arith; no_line = none; lines_are = input_lines-open (byte ∷ bytes) none })

first_by : (whole : List (List ℕ)) (bytes : List ℕ) → whole_lines bytes ≡ whole → FirstOf bytes
first_by [] bytes e = open_first bytes e
first_by (line ∷ others) bytes e =
    let cut = first_cut bytes line others e in
    WholeFirst (record {
      line = line;
      rest = cut.rest;
      bytes_are = cut.bytes_are;
      begins = cut.begins;
      lines_are = ap (λ (l : List ℕ). input_lines l) cut.bytes_are ∙ input_lines-closed line cut.rest cut.begins;
    })

pub first_of : (bytes : List ℕ) → FirstOf bytes
first_of bytes = first_by (whole_lines bytes) bytes refl

-- a whole line, its end and the rest, and their places
pub cut_lengths : (bytes line rest : List ℕ) → bytes ≡ line ++ 10 ∷ rest → length bytes ≡ length line + 1 + length rest
cut_lengths bytes line rest e = omega (arith, ap (λ (l : List ℕ). length l) e, length-append line (10 ∷ rest))

pub cut_text : (bytes line rest : List ℕ) → bytes ≡ line ++ 10 ∷ rest → take (length line) bytes ≡ line
cut_text bytes line rest e = ap (λ (l : List ℕ). take (length line) l) e ∙ take_at line (10 ∷ rest) (length line) refl

pub cut_rest : (bytes line rest : List ℕ) → bytes ≡ line ++ 10 ∷ rest → drop (length line + 1) bytes ≡ rest
cut_rest bytes line rest e =
    ap (λ (l : List ℕ). drop (length line + 1) l) e
    ∙ (sym (drop-drop 1 (length line) (line ++ 10 ∷ rest)) ∙ ap (λ (l : List ℕ). drop 1 l) (drop_at line (10 ∷ rest) (length line) refl))
