-- What a reader answers by the bytes that it keeps, and what it continues with.
use Rattle.std.proofs.Common.{◌≡◌, inl, inr, ℕ, ◌+◌, ◌<◌, Bool, true, false, cond, ◌||◌, List, [], ◌∷◌, ◌++◌, length, take, drop, Option, Some, None, refl, sym, ap, subst, ◌∙◌, arith, append_assoc}
use Rattle.std.specs.List.{concat}
use Rattle.std.proofs.lemmas.Bool.{false≢true}
use Rattle.std.proofs.lemmas.List.{append-nil, length-append, drop_all}
use Rattle.texts.specs.Lines.{InputLine, whole_line, open_line, last_line, unfinished, input_lines, line_size}
use Rattle.texts.proofs.InputLemmas.{input_lines-open, input_lines-closed, unfinished-open, first_grows}
use Rattle.plan_port.specs.Talk.{Seen, WhereShown, LosesPrefix}
use Rattle.plan_port.specs.Lines.{Coming, Comes, coming, DecideNothing}
use Rattle.plan_port.specs.Lines.{TooLong as LongLine, TooMuch as MuchInput}
use Rattle.plan_port.specs.Reader.{Reader, Takes, ReadsNext, GivesNext, WantsCapacity, GivesFirst, GivesLine, FirstIs, NamesLimit, spare_capacity, remaining, answer_by, answer_to, answer, without_line, after_answer, stop_of, lines_started}
use Rattle.plan_port.specs.Reader.{is_read_fault}
use Rattle.plan_port.specs.ReaderSteps.{verdict_by, verdict_to, verdict, outcome_by, outcome_of, is_fault, gives_line}
use Rattle.plan_port.specs.declared.lines.LineOutcome.{LineOutcome}
use Rattle.plan_port.specs.declared.lines.LineOutcome.TheVariants.{Decided}
use Rattle.plan_port.specs.declared.lines.LineVerdict.{LineVerdict}
use Rattle.plan_port.specs.declared.lines.LineVerdict.TheVariants.{Unclear, BeyondLine, BeyondInput}
use Rattle.plan_port.specs.declared.lines.LineVerdict.TheVariants.{Line as Whole}
use Rattle.plan_port.specs.declared.lines.Line.{Line}
use Rattle.plan_port.specs.declared.lines.Line.TheVariants.{Text, End, TooLong, TooMuch, ReadFault, OutOfMemory}
use Rattle.plan_port.proofs.FirstLines.{decide_nothing, whole_is_within, stays_long, stays_much, FirstOf, NoFirst, WholeFirst, OpenFirst, IsWholeFirst, IsOpenFirst, first_of, input_lines-nil, cut_lengths, cut_text, cut_rest}
use Rattle.plan_port.proofs.Readings.{LeftShown, remaining_same}

-- the reader after an answer, by the lines that it keeps
abbrev after_by : Line → List InputLine → Reader → Reader
after_by line lines reader = record (without_line line lines reader) { number = reader.number + lines_started line; stopped = stop_of line }

-- the outcome that says a verdict
pub decided : (v : LineVerdict) (ended : Bool) (x : LineVerdict) → Decided x ≡ outcome_by v ended → v ≡ x
decided Unclear true x e = cc
decided Unclear false x e = absurd (cc)
decided (Whole n) ended x e = cc
decided BeyondLine ended x e = cc
decided BeyondInput ended x e = cc

pub unclear_ended : (v : LineVerdict) (ended : Bool) → Decided Unclear ≡ outcome_by v ended → ended ≡ true
unclear_ended Unclear true e = refl
unclear_ended Unclear false e = absurd (cc)
unclear_ended (Whole n) ended e = absurd (cc)
unclear_ended BeyondLine ended e = absurd (cc)
unclear_ended BeyondInput ended e = absurd (cc)

-- the reader keeps a whole line of this size
pub record HoldsLine (longest spare_capacity : ℕ) (bytes : List ℕ) (size : ℕ) : Type 0 where
  pub first : IsWholeFirst bytes
  pub comes : coming longest spare_capacity (whole_line first.line) ≡ Comes
  pub size_is : length first.line ≡ size

whole_comes : (how : Coming) (line : List ℕ) (size : ℕ) → verdict_by how (whole_line line) ≡ Whole size → (how ≡ Comes) × (length line ≡ size)
whole_comes Comes line size e = (refl, cc)
whole_comes LongLine line size e = absurd (cc)
whole_comes MuchInput line size e = absurd (cc)

open_is_no_line : (how : Coming) (line : List ℕ) (size : ℕ) → verdict_by how (open_line line) ≡ Whole size → ⊥
open_is_no_line Comes line size e = cc
open_is_no_line LongLine line size e = cc
open_is_no_line MuchInput line size e = cc

holds_by : (longest spare_capacity : ℕ) (bytes : List ℕ) (size : ℕ) → FirstOf bytes → verdict longest spare_capacity bytes ≡ Whole size → HoldsLine longest spare_capacity bytes size
holds_by longest spare_capacity bytes size (NoFirst none) e =
    let is : Unclear ≡ Whole size = sym (ap (λ (ls : List InputLine). verdict_to longest spare_capacity ls) (ap (λ (l : List ℕ). input_lines l) none ∙ input_lines-nil)) ∙ e in
    absurd (cc)
holds_by longest spare_capacity bytes size (WholeFirst w) e =
    let found = whole_comes (coming longest spare_capacity (whole_line w.line)) w.line size (sym (ap (λ (ls : List InputLine). verdict_to longest spare_capacity ls) w.lines_are) ∙ e) in
    record { first = w; comes = found.0; size_is = found.1 }
holds_by longest spare_capacity bytes size (OpenFirst o) e =
    absurd (open_is_no_line (coming longest spare_capacity (open_line bytes)) bytes size (sym (ap (λ (ls : List InputLine). verdict_to longest spare_capacity ls) o.lines_are) ∙ e))

pub holds_line : (longest spare_capacity : ℕ) (bytes : List ℕ) (size : ℕ) → verdict longest spare_capacity bytes ≡ Whole size → HoldsLine longest spare_capacity bytes size
holds_line longest spare_capacity bytes size e = holds_by longest spare_capacity bytes size (first_of bytes) e

pub line_within : (longest spare_capacity : ℕ) (bytes : List ℕ) (size : ℕ) → verdict longest spare_capacity bytes ≡ Whole size → (size < length bytes) × (size < spare_capacity)
line_within longest spare_capacity bytes size e =
    let h = holds_line longest spare_capacity bytes size e in
    (omega (arith, cut_lengths bytes h.first.line h.first.rest h.first.bytes_are, h.size_is), omega (arith, whole_is_within longest spare_capacity h.first.line h.comes, h.size_is))

-- giving a whole line out
pub gives_whole : (longest : ℕ) (r : Reader) (size : ℕ) → r.stopped ≡ None → verdict longest (spare_capacity r) r.kept ≡ Whole size → gives_line r (take size r.kept) (drop (size + 1) r.kept) (size + 1) ≡ after_answer Text r
gives_whole longest r size running e =
    let h = holds_line longest (spare_capacity r) r.kept size e in
    let w = h.first in
    let text : take size r.kept ≡ w.line = ap (λ (n : ℕ). take n r.kept) (sym h.size_is) ∙ cut_text r.kept w.line w.rest w.bytes_are in
    let stop : gives_line r (take size r.kept) (drop (size + 1) r.kept) (size + 1) ≡ record r { text = take size r.kept; kept = drop (size + 1) r.kept; number = r.number + 1; before = r.before + (size + 1); stopped = None } =
    ap (λ (s : Option Line). record r { text = take size r.kept; kept = drop (size + 1) r.kept; number = r.number + 1; before = r.before + (size + 1); stopped = s }) running in
    stop
    ∙ (ap (λ (l : List ℕ). record r { text = l; kept = drop (size + 1) r.kept; number = r.number + 1; before = r.before + (size + 1); stopped = None }) text
    ∙ (ap (λ (n : ℕ). record r { text = w.line; kept = drop (n + 1) r.kept; number = r.number + 1; before = r.before + (n + 1); stopped = None }) (sym h.size_is)
    ∙ ap (λ (ls : List InputLine). after_by Text ls r) (sym w.lines_are)))

-- giving out what is kept at the end of the input
pub record AnswersLast (longest : ℕ) (r new : Reader) (line : Line) : Type 0 where
  pub answered : line ≡ answer longest r
  pub goes_on : new ≡ after_answer line r

last_by : (kept : List ℕ) (longest : ℕ) (r : Reader) → r.kept ≡ kept → r.stopped ≡ None → r.ended ≡ true → DecideNothing longest (spare_capacity r) r.kept → (line : Line) (new : Reader) → (r.kept ≡ [] → (line ≡ End) × (new ≡ r))
    → (0 < length r.kept → (line ≡ Text) × (new ≡ gives_line r r.kept [] (length r.kept))) → AnswersLast longest r new line
last_by [] longest r k running ended d line new none some =
    let found = none k in
    let lines : input_lines r.kept ≡ [] = input_lines-open r.kept d.no_line ∙ ap (λ (l : List ℕ). last_line l) k in
    let is : End ≡ answer longest r = ap (λ (b : Bool). cond b End ReadFault) (sym ended) ∙ ap (λ (ls : List InputLine). answer_to longest r ls) (sym lines) in
    let same : r ≡ after_answer End r = ap (λ (s : Option Line). record r { stopped = s }) running ∙ ap (λ (n : ℕ). record r { number = n; stopped = None }) (let s : r.number ≡ r.number + 0 = omega arith in s) in
    record { answered = found.0 ∙ is; goes_on = found.1 ∙ (same ∙ ap (λ (l : Line). after_answer l r) (sym found.0)) }
last_by (byte ∷ bytes) longest r k running ended d line new none some =
    let filled : 0 < length r.kept = omega (arith, ap (λ (l : List ℕ). length l) k) in
    let found = some filled in
    let whole : unfinished r.kept ≡ r.kept = unfinished-open r.kept d.no_line in
    let comes : coming longest (spare_capacity r) (open_line r.kept) ≡ Comes = ap (λ (l : List ℕ). coming longest (spare_capacity r) (open_line l)) (sym whole) ∙ d.within in
    let lines : input_lines r.kept ≡ open_line r.kept ∷ [] = input_lines-open r.kept d.no_line ∙ (ap (λ (l : List ℕ). last_line l) k ∙ ap (λ (l : List ℕ). open_line l ∷ []) (sym k)) in
    let is : Text ≡ answer longest r =
    ap (λ (b : Bool). cond b Text ReadFault) (sym ended)
    ∙ (ap (λ (how : Coming). answer_by how longest r (open_line r.kept)) (sym comes)
    ∙ ap (λ (ls : List InputLine). answer_to longest r ls) (sym lines)) in
    let size : length r.kept ≡ length r.kept + 0 = omega arith in
    let rest : [] ≡ drop (length r.kept + 0) r.kept = sym (drop_all (length r.kept + 0) r.kept (omega arith)) in
    let same : gives_line r r.kept [] (length r.kept) ≡ after_answer Text r =
    ap (λ (s : Option Line). record r { text = r.kept; kept = []; number = r.number + 1; before = r.before + length r.kept; stopped = s }) running
    ∙ (ap (λ (l : List ℕ). record r { text = r.kept; kept = l; number = r.number + 1; before = r.before + length r.kept; stopped = None }) rest
    ∙ (ap (λ (n : ℕ). record r { text = r.kept; kept = drop (length r.kept + 0) r.kept; number = r.number + 1; before = r.before + n; stopped = None }) size
    ∙ ap (λ (ls : List InputLine). after_by Text ls r) (sym lines))) in
    record { answered = found.0 ∙ is; goes_on = found.1 ∙ (same ∙ ap (λ (l : Line). after_answer l r) (sym found.0)) }

pub gives_last : (longest : ℕ) (r : Reader) → r.stopped ≡ None → Unclear ≡ verdict longest (spare_capacity r) r.kept → r.ended ≡ true → (line : Line) (new : Reader) → (r.kept ≡ [] → (line ≡ End) × (new ≡ r))
    → (0 < length r.kept → (line ≡ Text) × (new ≡ gives_line r r.kept [] (length r.kept))) → AnswersLast longest r new line
gives_last longest r running judged ended line new none some =
    last_by r.kept longest r refl running ended (decide_nothing longest (spare_capacity r) r.kept (sym judged)) line new none some

-- a take failed exactly if the answer says so
fault_none : (ended : Bool) → is_fault (outcome_by Unclear ended) ≡ is_read_fault (cond ended End ReadFault)
fault_none true = refl
fault_none false = refl

fault_comes : (closed ended : Bool) (size : ℕ) → is_fault (outcome_by (cond closed (Whole size) Unclear) ended) ≡ is_read_fault (cond (closed || ended) Text ReadFault)
fault_comes true ended size = refl
fault_comes false true size = refl
fault_comes false false size = refl

fault_by : (how : Coming) (longest : ℕ) (r : Reader) (line : InputLine) → is_fault (outcome_by (verdict_by how line) r.ended) ≡ is_read_fault (answer_by how longest r line)
fault_by Comes longest r line = fault_comes line.ended r.ended (length line.text)
fault_by LongLine longest r line = refl
fault_by MuchInput longest r line = refl

fault_to : (lines : List InputLine) (longest : ℕ) (r : Reader) → is_fault (outcome_by (verdict_to longest (spare_capacity r) lines) r.ended) ≡ is_read_fault (answer_to longest r lines)
fault_to [] longest r = fault_none r.ended
fault_to (line ∷ others) longest r = fault_by (coming longest (spare_capacity r) line) longest r line

fault_is : (v : LineVerdict) (ended : Bool) → is_fault (outcome_by v ended) ≡ true → (v ≡ Unclear) × (ended ≡ false)
fault_is Unclear true e = absurd (false≢true e)
fault_is Unclear false e = (refl, refl)
fault_is (Whole n) ended e = absurd (false≢true e)
fault_is BeyondLine ended e = absurd (false≢true e)
fault_is BeyondInput ended e = absurd (false≢true e)

-- what an answer leaves of the reader
most_stays : (line : Line) (lines : List InputLine) (r : Reader) → (without_line line lines r).most ≡ r.most
most_stays Text [] r = refl
most_stays Text (first ∷ others) r = refl
most_stays End lines r = refl
most_stays (TooLong n) lines r = refl
most_stays (TooMuch n) lines r = refl
most_stays ReadFault lines r = refl
most_stays OutOfMemory lines r = refl

-- the limit that is named
limit_none : (ended : Bool) (longest most : ℕ) → NamesLimit (cond ended End ReadFault) longest most
limit_none true longest most = tt
limit_none false longest most = tt

limit_comes : (text : Bool) (longest most : ℕ) → NamesLimit (cond text Text ReadFault) longest most
limit_comes true longest most = tt
limit_comes false longest most = tt

limit_by : (how : Coming) (longest : ℕ) (r : Reader) (line : InputLine) → NamesLimit (answer_by how longest r line) longest r.most
limit_by Comes longest r line = limit_comes (line.ended || r.ended) longest r.most
limit_by LongLine longest r line = refl
limit_by MuchInput longest r line = refl

limit_to : (lines : List InputLine) (longest : ℕ) (r : Reader) → NamesLimit (answer_to longest r lines) longest r.most
limit_to [] longest r = limit_none r.ended longest r.most
limit_to (line ∷ others) longest r = limit_by (coming longest (spare_capacity r) line) longest r line

-- the answer says that the input has ended
end_none : (ended : Bool) → End ≡ cond ended End ReadFault → ended ≡ true
end_none true e = refl
end_none false e = absurd (cc)

end_comes : (text : Bool) → End ≡ cond text Text ReadFault → ⊥
end_comes true e = cc
end_comes false e = cc

end_by : (how : Coming) (longest : ℕ) (r : Reader) (line : InputLine) → End ≡ answer_by how longest r line → ⊥
end_by Comes longest r line e = end_comes (line.ended || r.ended) e
end_by LongLine longest r line e = cc
end_by MuchInput longest r line e = cc

end_to : (lines : List InputLine) (longest : ℕ) (r : Reader) → End ≡ answer_to longest r lines → (lines ≡ []) × (r.ended ≡ true)
end_to [] longest r e = (refl, end_none r.ended e)
end_to (line ∷ others) longest r e = absurd (end_by (coming longest (spare_capacity r) line) longest r line e)

no_lines_by : (bytes : List ℕ) → FirstOf bytes → input_lines bytes ≡ [] → bytes ≡ []
no_lines_by bytes (NoFirst none) e = none
no_lines_by bytes (WholeFirst w) e = let is = sym w.lines_are ∙ e in absurd (cc)
no_lines_by bytes (OpenFirst o) e = let is = sym o.lines_are ∙ e in absurd (cc)

at_end : (longest : ℕ) (full new : Reader) (line : Line) → line ≡ answer longest full → new ≡ after_answer line full → line ≡ End → (new.ended ≡ true) × (new.kept ≡ [])
at_end longest full new line answered goes_on end =
    let found = end_to (input_lines full.kept) longest full (sym end ∙ answered) in
    let same : new ≡ after_answer End full = goes_on ∙ ap (λ (l : Line). after_answer l full) end in
    (ap (λ (r : Reader). r.ended) same ∙ found.1, ap (λ (r : Reader). r.kept) same ∙ no_lines_by full.kept (first_of full.kept) found.0)

cut_off : (longest : ℕ) (full new : Reader) (line : Line) → line ≡ answer longest full → new ≡ after_answer line full → line ≡ ReadFault → (new.ended ≡ false) × DecideNothing longest (spare_capacity new) new.kept
cut_off longest full new line answered goes_on fault =
    let v = verdict longest (spare_capacity full) full.kept in
    let failed : is_fault (outcome_by v full.ended) ≡ true = fault_to (input_lines full.kept) longest full ∙ ap (λ (l : Line). is_read_fault l) (sym answered ∙ fault) in
    let found = fault_is v full.ended failed in
    let same : new ≡ after_answer ReadFault full = goes_on ∙ ap (λ (l : Line). after_answer l full) fault in
    (ap (λ (r : Reader). r.ended) same ∙ found.1, subst (λ (r : Reader). DecideNothing longest (spare_capacity r) r.kept) (sym same) (decide_nothing longest (spare_capacity full) full.kept found.0))

-- the answer, in terms of the bytes that are left
first_is : (how : Coming) (longest spare_capacity : ℕ) (first : InputLine) (others all : List InputLine) → all ≡ first ∷ others → coming longest spare_capacity first ≡ how → FirstIs how longest spare_capacity all
first_is how longest spare_capacity first others all is comes = subst (λ (ls : List InputLine). FirstIs how longest spare_capacity ls) (sym is) comes

whole_grows : (longest : ℕ) (r : Reader) (after : List ℕ) (w : IsWholeFirst r.kept) → input_lines (remaining r after) ≡ whole_line w.line ∷ input_lines (w.rest ++ cond r.ended [] after)
whole_grows longest r after w =
    let more = cond r.ended [] after in
    ap (λ (l : List ℕ). input_lines (l ++ more)) w.bytes_are
    ∙ (ap (λ (l : List ℕ). input_lines l) (append_assoc w.line (10 ∷ w.rest) more)
    ∙ input_lines-closed w.line (w.rest ++ more) w.begins)

next_whole : (how : Coming) (longest : ℕ) (r : Reader) (after : List ℕ) (w : IsWholeFirst r.kept) → coming longest (spare_capacity r) (whole_line w.line) ≡ how
    → GivesNext longest r (after_by (answer_by how longest r (whole_line w.line)) (whole_line w.line ∷ input_lines w.rest) r) (answer_by how longest r (whole_line w.line)) after after
next_whole Comes longest r after w comes =
    let more = cond r.ended [] after in
    let rest : drop (length w.line + 1) r.kept ≡ w.rest = cut_rest r.kept w.line w.rest w.bytes_are in
    let sizes = cut_lengths r.kept w.line w.rest w.bytes_are in
    let size : length (drop (length w.line + 1) r.kept) ≡ length w.rest = ap (λ (l : List ℕ). length l) rest in
    record {
      first = (
        whole_line w.line,
        record {
          lines = whole_grows longest r after w ∙ ap (λ (l : List ℕ). whole_line w.line ∷ input_lines (l ++ more)) (sym rest);
          comes = comes;
          text = refl;
          place = refl;
        },
      );
      whole = omega (arith, length-append (drop (length w.line + 1) r.kept) more, length-append r.kept more, sizes, size);
    }
next_whole LongLine longest r after w comes = record { first = first_is LongLine longest (spare_capacity r) (whole_line w.line) _ _ (whole_grows longest r after w) comes; whole = refl }
next_whole MuchInput longest r after w comes = record { first = first_is MuchInput longest (spare_capacity r) (whole_line w.line) _ _ (whole_grows longest r after w) comes; whole = refl }

-- bytes that are no whole line yet, whether the input has ended or not
next_open : (ended : Bool) (how : Coming) (longest : ℕ) (r : Reader) (after : List ℕ) (o : IsOpenFirst r.kept) → r.ended ≡ ended → coming longest (spare_capacity r) (open_line r.kept) ≡ how
    → GivesNext longest r (after_by (answer_by how longest r (open_line r.kept)) (open_line r.kept ∷ []) r) (answer_by how longest r (open_line r.kept)) after after
next_open true Comes longest r after o ended comes =
    let more = cond r.ended [] after in
    let none : more ≡ [] = ap (λ (b : Bool). cond b [] after) ended in
    let given : drop (length r.kept + 0) r.kept ≡ [] = drop_all (length r.kept + 0) r.kept (omega arith) in
    let left : input_lines (r.kept ++ more) ≡ open_line r.kept ∷ [] = ap (λ (l : List ℕ). input_lines (r.kept ++ l)) none ∙ (ap (λ (l : List ℕ). input_lines l) (append-nil r.kept) ∙ o.lines_are) in
    let right : input_lines (drop (length r.kept + 0) r.kept ++ more) ≡ [] = ap (λ (l : List ℕ). input_lines (l ++ more)) given ∙ (ap (λ (l : List ℕ). input_lines l) none ∙ input_lines-nil) in
    let size : length (drop (length r.kept + 0) r.kept) ≡ 0 = ap (λ (l : List ℕ). length l) given in
    subst (λ (l : Line). GivesNext longest r (after_by l (open_line r.kept ∷ []) r) l after after) (ap (λ (b : Bool). cond b Text ReadFault) (sym ended)) (record {
      first = (
        open_line r.kept,
        record {
          lines = left ∙ ap (λ (ls : List InputLine). open_line r.kept ∷ ls) (sym right);
          comes = comes;
          text = refl;
          place = refl;
        },
      );
      whole = omega (arith, length-append (drop (length r.kept + 0) r.kept) more, length-append r.kept more, size);
    })
next_open false Comes longest r after o ended comes =
    subst (λ (l : Line). GivesNext longest r (after_by l (open_line r.kept ∷ []) r) l after after) (ap (λ (b : Bool). cond b Text ReadFault) (sym ended)) (record { first = refl; whole = refl })
next_open ended LongLine longest r after o is comes =
    let grows = first_grows r.kept (cond r.ended [] after) o.filled o.no_line in
    record { first = first_is LongLine longest (spare_capacity r) grows.first grows.others _ grows.all_are (stays_long longest (spare_capacity r) r.kept grows.first grows.longer comes); whole = refl }
next_open ended MuchInput longest r after o is comes =
    let grows = first_grows r.kept (cond r.ended [] after) o.filled o.no_line in
    record { first = first_is MuchInput longest (spare_capacity r) grows.first grows.others _ grows.all_are (stays_much longest (spare_capacity r) r.kept grows.first grows.longer comes); whole = refl }

next_none : (ended : Bool) (longest : ℕ) (r : Reader) (after : List ℕ) → r.ended ≡ ended → r.kept ≡ [] → GivesNext longest r (after_by (cond r.ended End ReadFault) [] r) (cond r.ended End ReadFault) after after
next_none true longest r after ended none =
    let all : remaining r after ≡ [] = ap (λ (l : List ℕ). l ++ cond r.ended [] after) none ∙ ap (λ (b : Bool). cond b [] after) ended in
    subst (λ (l : Line). GivesNext longest r (after_by l [] r) l after after) (ap (λ (b : Bool). cond b End ReadFault) (sym ended)) (record { first = (ap (λ (l : List ℕ). input_lines l) all ∙ input_lines-nil, all); whole = refl })
next_none false longest r after ended none =
    subst (λ (l : Line). GivesNext longest r (after_by l [] r) l after after) (ap (λ (b : Bool). cond b End ReadFault) (sym ended)) (record { first = refl; whole = refl })

next_by : (longest : ℕ) (r : Reader) (after : List ℕ) → FirstOf r.kept → GivesNext longest r (after_answer (answer longest r) r) (answer longest r) after after
next_by longest r after (NoFirst none) =
    let is : input_lines r.kept ≡ [] = ap (λ (l : List ℕ). input_lines l) none ∙ input_lines-nil in
    subst (λ (ls : List InputLine). GivesNext longest r (after_by (answer_to longest r ls) ls r) (answer_to longest r ls) after after) (sym is) (next_none r.ended longest r after refl none)
next_by longest r after (WholeFirst w) =
    subst (λ (ls : List InputLine). GivesNext longest r (after_by (answer_to longest r ls) ls r) (answer_to longest r ls) after after) (sym w.lines_are)
    (next_whole (coming longest (spare_capacity r) (whole_line w.line)) longest r after w refl)
next_by longest r after (OpenFirst o) =
    subst (λ (ls : List InputLine). GivesNext longest r (after_by (answer_to longest r ls) ls r) (answer_to longest r ls) after after) (sym o.lines_are)
    (next_open r.ended (coming longest (spare_capacity r) (open_line r.kept)) longest r after o refl refl)

-- a line that was given is the first of those that were kept
nothing_left : (ended : Bool) → cond {A = List ℕ} ended [] [] ≡ []
nothing_left true = refl
nothing_left false = refl

only_held : (r : Reader) → remaining r [] ≡ r.kept
only_held r = ap (λ (l : List ℕ). r.kept ++ l) (nothing_left r.ended) ∙ append-nil r.kept

line_held : (longest : ℕ) (full new : Reader) (line : Line) → line ≡ answer longest full → new ≡ after_answer line full → line ≡ Text → (first : InputLine) × GivesLine longest full new full.kept new.kept first
line_held longest full new line answered goes_on is =
    let here : GivesNext longest full (after_answer line full) line [] [] = subst (λ (l : Line). GivesNext longest full (after_answer l full) l [] []) (sym answered) (next_by longest full [] (first_of full.kept)) in
    let now : GivesNext longest full new line [] [] = subst (λ (r : Reader). GivesNext longest full r line [] []) (sym goes_on) here in
    let g : GivesFirst longest full new Text [] [] = subst (λ (l : Line). GivesFirst longest full new l [] []) is now.first in (
      g.0,
      record {
        lines = ap (λ (l : List ℕ). input_lines l) (sym (only_held full)) ∙ (g.1.lines ∙ ap (λ (l : List ℕ). g.0 ∷ input_lines l) (only_held new));
        comes = g.1.comes;
        text = g.1.text;
        place = g.1.place;
      },
    )

-- no answer by what is kept is want of memory
never_none : (ended : Bool) → OutOfMemory ≡ cond ended End ReadFault → ⊥
never_none true e = cc
never_none false e = cc

never_comes : (text : Bool) → OutOfMemory ≡ cond text Text ReadFault → ⊥
never_comes true e = cc
never_comes false e = cc

never_by : (how : Coming) (longest : ℕ) (r : Reader) (line : InputLine) → OutOfMemory ≡ answer_by how longest r line → ⊥
never_by Comes longest r line e = never_comes (line.ended || r.ended) e
never_by LongLine longest r line e = cc
never_by MuchInput longest r line e = cc

pub never_to : (lines : List InputLine) (longest : ℕ) (r : Reader) → OutOfMemory ≡ answer_to longest r lines → ⊥
never_to [] longest r e = never_none r.ended e
never_to (line ∷ others) longest r e = never_by (coming longest (spare_capacity r) line) longest r line e

-- what a call of the reader did
pub reads_next : (longest : ℕ) (old full new : Reader) (line : Line) (outcome : LineOutcome) (pieces : List (List ℕ)) (a b : Seen) → Takes longest old full pieces (is_fault outcome) a b → outcome ≡ outcome_of longest full
    → line ≡ answer longest full → new ≡ after_answer line full → ReadsNext longest old new line a b
reads_next longest old full new line outcome pieces a b takes is answered goes_on =
    let failed : is_fault outcome ≡ is_read_fault line = ap is_fault is ∙ (fault_to (input_lines full.kept) longest full ∙ ap (λ (l : Line). is_read_fault l) (sym answered)) in
    let most : full.most ≡ old.most = ap (λ (r : Reader). r.most) takes.reader in
    record {
      pieces = pieces;
      full = full;
      takes = subst (λ (f : Bool). Takes longest old full pieces f a b) failed takes;
      answered = inl answered;
      goes_on = goes_on;
      number = ap (λ (r : Reader). r.number) goes_on ∙ ap (λ (r : Reader). r.number + lines_started line) takes.reader;
      most = ap (λ (r : Reader). r.most) goes_on ∙ (most_stays line (input_lines full.kept) full ∙ most);
      stopped = ap (λ (r : Reader). r.stopped) goes_on;
      limit = subst (λ (n : ℕ). NamesLimit line longest n) most (subst (λ (l : Line). NamesLimit l longest full.most) (sym answered) (limit_to (input_lines full.kept) longest full));
      given = line_held longest full new line answered goes_on;
      at_end = at_end longest full new line answered goes_on;
      cut_off = cut_off longest full new line answered goes_on;
      wants = λ none. absurd (never_to (input_lines full.kept) longest full (sym none ∙ answered));
    }

-- the same, in terms of the reader before its takes
first_of_old : (line : Line) (longest : ℕ) (old full new : Reader) (before after : List ℕ) → spare_capacity old ≡ spare_capacity full → old.before ≡ full.before → remaining old before ≡ remaining full after
    → GivesFirst longest full new line after after → GivesFirst longest old new line before after
first_of_old Text longest old full new before after same_capacity place same g = (
  g.0,
  record {
    lines = ap (λ (l : List ℕ). input_lines l) same ∙ g.1.lines;
    comes = ap (λ (n : ℕ). coming longest n g.0) same_capacity ∙ g.1.comes;
    text = g.1.text;
    place = g.1.place ∙ ap (λ (n : ℕ). n + line_size g.0) (sym place);
  },
)
first_of_old End longest old full new before after same_capacity place same g = (ap (λ (l : List ℕ). input_lines l) same ∙ g.0, g.1)
first_of_old (TooLong n) longest old full new before after same_capacity place same g = rw (same_capacity, same) g
first_of_old (TooMuch n) longest old full new before after same_capacity place same g = rw (same_capacity, same) g
first_of_old ReadFault longest old full new before after same_capacity place same g = g ∙ sym same
first_of_old OutOfMemory longest old full new before after same_capacity place same g = g ∙ sym same

gives_next : (longest : ℕ) (old full new : Reader) (line : Line) (pieces : List (List ℕ)) (failed : Bool) (a b : Seen) (before after : List ℕ) → Takes longest old full pieces failed a b → line ≡ answer longest full
    → new ≡ after_answer line full → LeftShown a b before after → GivesNext longest old new line before after
gives_next longest old full new line pieces failed a b before after takes answered goes_on shown =
    let same = remaining_same longest old full pieces failed a b before after shown takes in
    let same_capacity : spare_capacity old ≡ spare_capacity full = sym (ap (λ (r : Reader). spare_capacity r) takes.reader) in
    let place : old.before ≡ full.before = sym (ap (λ (r : Reader). r.before) takes.reader) in
    let here : GivesNext longest full (after_answer line full) line after after = subst (λ (l : Line). GivesNext longest full (after_answer l full) l after after) (sym answered) (next_by longest full after (first_of full.kept)) in
    let now : GivesNext longest full new line after after = subst (λ (r : Reader). GivesNext longest full r line after after) (sym goes_on) here in
    record {
      first = first_of_old line longest old full new before after same_capacity place same now.first;
      whole = omega (arith, now.whole, place, ap (λ (l : List ℕ). length l) same);
    }

-- in the form of a clause
pub where_shown : (a b : Option (List ℕ)) (lost : List ℕ) (P : List ℕ → List ℕ → Type 0) → LosesPrefix a b lost → ((before after : List ℕ) → a ≡ Some before → b ≡ Some after → P before after) → WhereShown a b P
where_shown a None lost P loses h = tt
where_shown None (Some after) lost P loses h = absurd (cc)
where_shown (Some before) (Some after) lost P loses h = h before after refl refl

pub line_clause : (longest : ℕ) (old full new : Reader) (line : Line) (pieces : List (List ℕ)) (failed : Bool) (a b : Seen) → Takes longest old full pieces failed a b → line ≡ answer longest full → new ≡ after_answer line full
    → WhereShown a.left b.left (λ before after. GivesNext longest old new line before after)
line_clause longest old full new line pieces failed a b takes answered goes_on =
    where_shown a.left b.left (concat pieces) (λ before after. GivesNext longest old new line before after) takes.left
    (λ before after then now. gives_next longest old full new line pieces failed a b before after takes answered goes_on (record { then = then; now = now }))

-- what a call of the reader did for which there was no memory
pub reads_no_more : (longest : ℕ) (old new : Reader) (pieces : List (List ℕ)) (a b : Seen) → Takes longest old new pieces false a b → WantsCapacity longest new → old.stopped ≡ None → ReadsNext longest old new OutOfMemory a b
reads_no_more longest old new pieces a b takes wants running =
    let stopped : new.stopped ≡ None = ap (λ (r : Reader). r.stopped) takes.reader ∙ running in
    let count : new.number ≡ new.number + 0 = omega arith in
    record {
      pieces = pieces;
      full = new;
      takes = takes;
      answered = inr (refl, wants);
      goes_on = ap (λ (s : Option Line). record new { stopped = s }) stopped ∙ ap (λ (n : ℕ). record new { number = n; stopped = None }) count;
      number = ap (λ (r : Reader). r.number) takes.reader ∙ (let none : old.number ≡ old.number + 0 = omega arith in none);
      most = ap (λ (r : Reader). r.most) takes.reader;
      stopped = stopped;
      limit = tt;
      given = λ is. absurd (cc);
      at_end = λ is. absurd (cc);
      cut_off = λ is. absurd (cc);
      wants = λ none. wants;
    }

pub no_line_clause : (longest : ℕ) (old new : Reader) (pieces : List (List ℕ)) (failed : Bool) (a b : Seen) → Takes longest old new pieces failed a b
    → WhereShown a.left b.left (λ before after. GivesNext longest old new OutOfMemory before after)
no_line_clause longest old new pieces failed a b takes =
    where_shown a.left b.left (concat pieces) (λ before after. GivesNext longest old new OutOfMemory before after) takes.left
    (λ before after then now.
    let same = remaining_same longest old new pieces failed a b before after (record { then = then; now = now }) takes in
    let place : new.before ≡ old.before = ap (λ (r : Reader). r.before) takes.reader in
    record {
      first = sym same;
      whole = omega (arith, place, ap (λ (l : List ℕ). length l) same);
    })
