-- A reader of lines, as its callers see it.
use Rattle.std.specs.Prelude.{◌≡◌, ◌⊎◌, ℕ, ◌+◌, ◌-◌, ◌<◌, ◌≤◌, Bool, true, false, ◌||◌, if◌then◌else◌, List, [], ◌∷◌, ◌++◌, length, take, drop, All, Option}
use Rattle.std.specs.Prelude.{Some, None, is_some, IfSome}
use Rattle.std.specs.List.{concat}
use Rattle.texts.specs.Lines.{InputLine, input_lines, line_size}
use Rattle.texts.specs.Limits.{most_line}
use Rattle.plan_port.specs.Talk.{Seen, Talk, WhereShown, LosesPrefix, with_pieces, with_failed_take, raised}
use Rattle.plan_port.specs.Lines.{Coming, Comes, coming, DecideNothing}
use Rattle.plan_port.specs.Lines.{TooLong as LongLine, TooMuch as MuchInput}
use Rattle.plan_port.specs.declared.lines.Line.{Line}
use Rattle.plan_port.specs.declared.lines.Line.TheVariants.{Text, End, TooLong, TooMuch, ReadFault, OutOfMemory}

-- `text` is the last line given; `kept` the bytes taken and not given out; `number` that of the last line started; `before` how many bytes of the input come
-- before the kept ones; `most` how many the input may have; `ended` that the input has ended; `stopped` the answer that every later call repeats
pub record Reader : Type 0 where
  pub text : List ℕ
  pub kept : List ℕ
  pub number : ℕ
  pub before : ℕ
  pub most : ℕ
  pub ended : Bool
  pub stopped : Option Line

-- how many more bytes the input may have, from the kept ones on
abbrev pub spare_capacity : Reader → ℕ
spare_capacity reader = reader.most - reader.before

-- all bytes of which the reader can still make lines, where `left` are those still to come from the port
abbrev pub remaining : Reader → List ℕ → List ℕ
remaining reader left = reader.kept ++ (if reader.ended then [] else left)

-- an answer after which the reader gives no more lines
abbrev pub stop_of : Line → Option Line
stop_of (TooLong longest) = Some (TooLong longest)
stop_of (TooMuch most) = Some (TooMuch most)
stop_of ReadFault = Some ReadFault
stop_of _ = None

-- what holds of every reader
pub record IsReader (reader : Reader) : Type 0 where
  pub within : reader.before ≤ reader.most
  pub numbered : reader.number ≤ reader.before + (if is_some reader.stopped then 1 else 0)
  pub stops : IfSome reader.stopped (λ answer. stop_of answer ≡ Some answer)

-- a reader before its first line
abbrev pub initial : ℕ → Reader
initial most =
    record { text = []; kept = []; number = 0; before = 0; most = most; ended = false; stopped = None }

-- the answer says that a take failed
abbrev pub is_read_fault : Line → Bool
is_read_fault ReadFault = true
is_read_fault _ = false

-- whether the answer starts a line: it gives one, or refuses one
abbrev pub lines_started : Line → ℕ
lines_started Text = 1
lines_started (TooLong _) = 1
lines_started (TooMuch _) = 1
lines_started _ = 0

-- a refusal names the limit that was passed
abbrev pub NamesLimit : Line → ℕ → ℕ → Type 0
NamesLimit (TooLong limit) longest most = limit ≡ longest
NamesLimit (TooMuch limit) longest most = limit ≡ most
NamesLimit _ longest most = Unit {0}

-- the reader with these pieces kept as well, and its input ended or not
abbrev pub with_pieces_kept : Reader → List (List ℕ) → Bool → Reader
with_pieces_kept reader pieces ended =
    record reader { text = []; kept = reader.kept ++ concat pieces; ended = ended }

-- the talk after some takes, the last of which failed or not
abbrev pub after_takes : List (List ℕ) → (failed : Bool) → Talk → Talk
after_takes pieces failed talk =
    if failed then with_failed_take (with_pieces talk pieces) else with_pieces talk pieces

-- a count of failed takes after some takes, the last of which failed or not
abbrev pub counted_takes : (failed : Bool) → ℕ → ℕ
counted_takes failed count = if failed then raised count else count

-- a reader took these pieces from a port, each while the bytes before it decided nothing, and it learned only then that the
-- input had ended. Only the last take may have failed.
pub record Takes (longest : ℕ) (old full : Reader) (pieces : List (List ℕ)) (failed : Bool) (before after : Seen) : Type 0 where
  pub reader : full ≡ with_pieces_kept old pieces full.ended
  pub talk : WhereShown before.talk after.talk (λ was is. is ≡ after_takes pieces failed was)
  pub left : LosesPrefix before.left after.left (concat pieces)
  pub filled : All (λ piece. 0 < length piece) pieces
  pub undecided : (k : ℕ) → k < length pieces → DecideNothing longest (spare_capacity old) (old.kept ++ concat (take k pieces))
  pub none_after_end : old.ended ≡ true → (pieces ≡ []) × (full.ended ≡ true)
  pub all_at_end : old.ended ≡ false → full.ended ≡ true → IfSome after.left (λ bytes. bytes ≡ [])
  pub none_at_end : old.ended ≡ false → full.ended ≡ true → DecideNothing longest (spare_capacity full) full.kept
  pub read_faults : after.read_faults ≡ counted_takes failed before.read_faults
  pub write_faults : after.write_faults ≡ before.write_faults

-- the answer to a line that is judged so. One without its end is a line only if the input has ended; else a take failed.
abbrev pub answer_by : Coming → ℕ → Reader → InputLine → Line
answer_by Comes longest reader line = if line.ended || reader.ended then Text else ReadFault
answer_by LongLine longest reader line = TooLong longest
answer_by MuchInput longest reader line = TooMuch reader.most

-- the answer by the lines of the kept bytes
abbrev pub answer_to : ℕ → Reader → List InputLine → Line
answer_to longest reader [] = if reader.ended then End else ReadFault
answer_to longest reader (line ∷ others) = answer_by (coming longest (spare_capacity reader) line) longest reader line

-- the answer of a reader that has taken all that it needs
abbrev pub answer : ℕ → Reader → Line
answer longest reader = answer_to longest reader (input_lines reader.kept)

-- the reader without the first of the lines that it keeps, which it gave out if the answer is a text
abbrev pub without_line : Line → List InputLine → Reader → Reader
without_line Text (line ∷ others) reader =
    record reader { text = line.text; kept = drop (line_size line) reader.kept; before = reader.before + line_size line }
without_line _ _ reader = reader

-- the reader after that answer
abbrev pub after_answer : Line → Reader → Reader
after_answer line reader =
    record (without_line line (input_lines reader.kept) reader) { number = reader.number + lines_started line; stopped = stop_of line }

-- the new reader gave this line, the first of all those bytes, of which these remain
pub record GivesLine (longest : ℕ) (old new : Reader) (all remain : List ℕ) (line : InputLine) : Type 0 where
  pub lines : input_lines all ≡ line ∷ input_lines remain
  pub comes : coming longest (spare_capacity old) line ≡ Comes
  pub text : new.text ≡ line.text
  pub place : new.before ≡ old.before + line_size line

-- there was no place for a byte more of a line of which more than 65,536 bytes are kept: the input continues, and they decide nothing
pub record WantsCapacity (longest : ℕ) (reader : Reader) : Type 0 where
  pub long : most_line < length reader.kept
  pub running : reader.ended ≡ false
  pub undecided : DecideNothing longest (spare_capacity reader) reader.kept

-- what a reader did that had not stopped: it took the pieces that it needed and no more, the answer is what the bytes that it then kept decide, and it
-- continues with the others; or there was no memory for more of them, and it continues with the same line. A line that it gave is the first of those that it
-- kept. If a take failed, it keeps bytes that decide nothing.
pub record ReadsNext (longest : ℕ) (old new : Reader) (line : Line) (before after : Seen) : Type 0 where
  pub pieces : List (List ℕ)
  pub full : Reader
  pub takes : Takes longest old full pieces (is_read_fault line) before after
  pub answered : (line ≡ answer longest full) ⊎ ((line ≡ OutOfMemory) × WantsCapacity longest full)
  pub goes_on : new ≡ after_answer line full
  pub number : new.number ≡ old.number + lines_started line
  pub most : new.most ≡ old.most
  pub stopped : new.stopped ≡ stop_of line
  pub limit : NamesLimit line longest old.most
  pub given : line ≡ Text → (first : InputLine) × GivesLine longest full new full.kept new.kept first
  pub at_end : line ≡ End → (new.ended ≡ true) × (new.kept ≡ [])
  pub cut_off : line ≡ ReadFault → (new.ended ≡ false) × DecideNothing longest (spare_capacity new) new.kept
  pub wants : line ≡ OutOfMemory → WantsCapacity longest new

-- this is what comes of the first of these lines
abbrev pub FirstIs : Coming → (longest spare_capacity : ℕ) → List InputLine → Type 0
FirstIs how longest spare_capacity [] = ⊥
FirstIs how longest spare_capacity (line ∷ others) = coming longest spare_capacity line ≡ how

-- the answer is what comes of the first line of all bytes that were left
abbrev pub GivesFirst : ℕ → Reader → Reader → Line → (before after : List ℕ) → Type 0
GivesFirst longest old new Text before after = (line : InputLine) × GivesLine longest old new (remaining old before) (remaining new after) line
GivesFirst longest old new End before after =
    (input_lines (remaining old before) ≡ []) × (remaining new after ≡ [])
GivesFirst longest old new (TooLong _) before after = FirstIs LongLine longest (spare_capacity old) (input_lines (remaining old before))
GivesFirst longest old new (TooMuch _) before after = FirstIs MuchInput longest (spare_capacity old) (input_lines (remaining old before))
GivesFirst longest old new _ before after = remaining new after ≡ remaining old before

-- the answer is what comes of the first line of all bytes that were left, and no byte is lost: those before the kept ones and
-- those still to be given are as many as before
pub record GivesNext (longest : ℕ) (old new : Reader) (line : Line) (before after : List ℕ) : Type 0 where
  pub first : GivesFirst longest old new line before after
  pub whole : new.before + length (remaining new after) ≡ old.before + length (remaining old before)
