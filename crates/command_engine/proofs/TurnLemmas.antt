-- What a turn leaves of a run: how far it has come, and what is shown of it so far.
use Rattle.std.proofs.Common.{◌≡◌, ◌⊎◌, inl, inr, ℕ, ◌+◌, ◌-◌, ◌<◌, Bool, true, false, ◌||◌, List, [], ◌∷◌, ◌++◌, length, take, drop, map, Option, Some, None, refl, sym, ap, subst, ◌∙◌, arith, append_assoc, append-nil, take-append-drop}
use Rattle.std.specs.Prelude.{if◌then◌else◌}
use Rattle.std.specs.List.{concat}
use Rattle.std.proofs.lemmas.List.{map-append}
use Rattle.texts.specs.Lines.{InputLine, input_lines, whole_lines, unfinished, whole_line, open_line, line_size}
use Rattle.plan_port.specs.Lines.{Coming, Comes, TooLong as LongLine, TooMuch as MuchInput, coming, DecideNothing}
use Rattle.plan_port.specs.Talk.{Piece, Talk, Seen, WhereShown, LosesPrefix, place_in_talk}
use Rattle.plan_port.specs.Reader.{Reader, spare_capacity, remaining, is_read_fault, after_takes, Takes, answer_by, answer_to, answer, without_line, ReadsNext, GivesFirst, GivesNext, WantsCapacity}
use Rattle.plan_port.specs.declared.lines.Line.{Line}
use Rattle.plan_port.specs.declared.lines.Line.TheVariants.{Text, End, TooLong, TooMuch, ReadFault, OutOfMemory}
use Rattle.plan_port.proofs.Talks.{WhereShown-twice, WhereShown-so, LosesPrefix-twice}
use Rattle.command_engine.specs.Machine.{Machine}
use Rattle.command_engine.specs.Runs.{Here, begins, after_line, Replies, Answers, Answered}
use Rattle.command_engine.specs.Prompt.{bytes_of}
use Rattle.command_engine.proofs.TakenLemmas.{piece_at, bytes_of-append, bytes_of-map, split_append, one_of, whole_lines-closed, unfinished-closed, first_whole}
use Rattle.command_engine.proofs.RunLemmas.{Answers-more, replies_to_line}
use Rattle.command_engine.specs.declared.machines.Flow.TheVariants as flow

-- the bytes that the reader gave out, of those taken, while the input has not ended: their lines are those that were answered
pub record Held (pieces : List Piece) (lines : List InputLine) (kept : List ℕ) : Type 0 where
  pub given : List ℕ
  pub bytes : bytes_of pieces ≡ given ++ kept
  pub closed : unfinished given ≡ []
  pub whole : map whole_line (whole_lines given) ≡ lines

module _ {C : Type 0} (machine : Machine C) (start : C) where
  -- where the run stands, by the state of the command and the reader
  abbrev pub here_at : C → Reader → Here C
  here_at command reader = record { state = command; number = reader.number; spare_capacity = spare_capacity reader }

  -- a piece was taken promptly, before all but the first of these lines were whole
  pub record InTime (put : List ℕ) (lines : List InputLine) (said : List ℕ) (seen : List Piece) (piece : Piece) : Type 0 where
    pub by_then : List ℕ
    pub later : List ℕ
    pub others : List InputLine
    pub answered : Answered machine start (bytes_of seen) by_then
    pub put_before : piece.put_before ≡ length (put ++ by_then)
    pub said_is : said ≡ by_then ++ later
    pub lines_are : lines ≡ map whole_line (whole_lines (bytes_of seen)) ++ others

  abbrev pub AreInTime : List ℕ → List InputLine → List ℕ → List Piece → Type 0
  AreInTime put lines said pieces =
      (seen later : List Piece) (piece : Piece) → pieces ≡ seen ++ piece ∷ later → InTime put lines said seen piece

  in_time_on : (put : List ℕ) (lines : List InputLine) (said : List ℕ) (pieces : List Piece) (line : InputLine) (answer : List ℕ) → AreInTime put lines said pieces → AreInTime put (lines ++ line ∷ []) (said ++ answer) pieces
  in_time_on put lines said pieces line answer in_time = λ seen later piece is.
      let one = in_time seen later piece is in
      record {
        by_then = one.by_then;
        later = one.later ++ answer;
        others = one.others ++ line ∷ [];
        answered = one.answered;
        put_before = one.put_before;
        said_is = ap (λ (l : List ℕ). l ++ answer) one.said_is ∙ append_assoc one.by_then one.later answer;
        lines_are = ap (λ (l : List InputLine). l ++ line ∷ []) one.lines_are ∙ append_assoc (map whole_line (whole_lines (bytes_of seen))) one.others (line ∷ []);
      }

  -- how far a run has come between two turns, over a port that shows its talk
  pub record SoFar (command : C) (reader : Reader) (left_first left_now : Option (List ℕ)) (was is : Talk) : Type 0 where
    pub pieces : List Piece
    pub lines : List InputLine
    pub said : List ℕ
    pub taken : is.taken ≡ was.taken ++ pieces
    pub put : is.put ≡ was.put ++ said
    pub take_same : is.failed_take ≡ was.failed_take
    pub put_same : is.failed_put ≡ was.failed_put
    pub answers : Answers machine (begins start) lines said (here_at command reader)
    pub in_time : AreInTime was.put lines said pieces
    pub held : reader.ended ≡ false → Held pieces lines reader.kept
    pub left : LosesPrefix left_first left_now (bytes_of pieces)
    pub ahead : WhereShown left_first left_now (λ input rest. input_lines input ≡ lines ++ input_lines (remaining reader rest))

  -- the line that the reader gave, and what it holds then
  pub record Given (command : C) (old new : Reader) (pieces : List Piece) (lines : List InputLine) (line : InputLine) : Type 0 where
    pub comes : coming (machine.longest command) (spare_capacity old) line ≡ Comes
    pub text : new.text ≡ line.text
    pub place : new.before ≡ old.before + line_size line
    pub held : new.ended ≡ false → Held pieces (lines ++ line ∷ []) new.kept

  -- if the last take failed
  abbrev pub take_place : Bool → Talk → Talk → Type 0
  take_place true was is = is.failed_take ≡ Some (place_in_talk is)
  take_place false was is = is.failed_take ≡ was.failed_take

  -- the same after the reader has read on, before the reply is put
  pub record ReadSoFar (command : C) (old new : Reader) (line : Line) (left_first left_now : Option (List ℕ)) (was is : Talk) : Type 0 where
    pub pieces : List Piece
    pub lines : List InputLine
    pub said : List ℕ
    pub taken : is.taken ≡ was.taken ++ pieces
    pub put : is.put ≡ was.put ++ said
    pub take_is : take_place (is_read_fault line) was is
    pub put_same : is.failed_put ≡ was.failed_put
    pub answers : Answers machine (begins start) lines said (here_at command old)
    pub in_time : AreInTime was.put lines said pieces
    pub left : LosesPrefix left_first left_now (bytes_of pieces)
    pub ahead : WhereShown left_first left_now (λ input rest. (before : List ℕ) × (input_lines input ≡ lines ++ input_lines (remaining old before)) × GivesFirst (machine.longest command) old new line before rest)
    pub gives : line ≡ Text → (one : InputLine) × Given command old new pieces lines one
    pub cut_off : line ≡ ReadFault → Answered machine start (bytes_of pieces) said

  -- what some takes change of a talk
  pub record TakesAndPuts (pieces : List (List ℕ)) (failed : Bool) (was is : Talk) : Type 0 where
    pub taken : is.taken ≡ was.taken ++ map (piece_at (length was.put)) pieces
    pub put : is.put ≡ was.put
    pub take_is : take_place failed was is
    pub put_same : is.failed_put ≡ was.failed_put

  took : (pieces : List (List ℕ)) (failed : Bool) (was is : Talk) → is ≡ after_takes pieces failed was → TakesAndPuts pieces failed was is
  took pieces true was is changed = subst (λ (t : Talk). TakesAndPuts pieces true was t) (sym changed) (record { taken = refl; put = refl; take_is = refl; put_same = refl })
  took pieces false was is changed = subst (λ (t : Talk). TakesAndPuts pieces false was t) (sym changed) (record { taken = refl; put = refl; take_is = refl; put_same = refl })

  take_on : (failed : Bool) (was mid is : Talk) → mid.failed_take ≡ was.failed_take → take_place failed mid is → take_place failed was is
  take_on true was mid is same take = take
  take_on false was mid is same take = take ∙ same

  -- the input had not ended if pieces were taken
  not_ended : (longest : ℕ) (old full : Reader) (pieces : List (List ℕ)) (failed : Bool) (before after : Seen) (k : ℕ) → Takes longest old full pieces failed before after → k < length pieces → old.ended ≡ false
  not_ended longest old full pieces failed before after k takes within = by_end old.ended refl
    where
      by_end : (ended : Bool) → old.ended ≡ ended → old.ended ≡ false
      by_end false is = is
      by_end true is =
          let none : pieces ≡ [] = (takes.none_after_end is).0 in
          let nothing : length pieces ≡ 0 = ap (λ (l : List (List ℕ)). length l) none in
          absurd (omega (arith, nothing, within))

  -- the whole lines of bytes are these
  abbrev AreWholeOf : List ℕ → List InputLine → Type 0
  AreWholeOf bytes lines = map whole_line (whole_lines bytes) ≡ lines

  -- bytes that decide nothing after whole lines that were answered
  undecided_after : (command : C) (reader : Reader) (lines : List InputLine) (said given bytes : List ℕ) → Answers machine (begins start) lines said (here_at command reader) → unfinished given ≡ [] →
      AreWholeOf given lines → DecideNothing (machine.longest command) (spare_capacity reader) bytes →
      Answered machine start (given ++ bytes) said × AreWholeOf (given ++ bytes) lines
  undecided_after command reader lines said given bytes answers closed whole nothing =
      let lines_are : whole_lines (given ++ bytes) ≡ whole_lines given = whole_lines-closed given bytes closed ∙ (ap (λ (l : List (List ℕ)). whole_lines given ++ l) nothing.no_line ∙ append-nil (whole_lines given)) in
      let all : map whole_line (whole_lines (given ++ bytes)) ≡ lines = ap (λ (l : List (List ℕ)). map whole_line l) lines_are ∙ whole in (
        record {
          there = here_at command reader;
          answers = subst (λ (l : List InputLine). Answers machine (begins start) l said (here_at command reader)) (sym all) answers;
          undecided = subst (λ (l : List ℕ). coming (machine.longest command) (spare_capacity reader) (open_line l) ≡ Comes) (sym (unfinished-closed given bytes closed)) nothing.within;
        },
        all,
      )

  -- the pieces of a turn were taken in time
  new_in_time : (command : C) (old full : Reader) (taken : List (List ℕ)) (failed : Bool) (before after : Seen) (left_first left_now : Option (List ℕ)) (was is : Talk) (so_far : SoFar command old left_first left_now was is) →
      Takes (machine.longest command) old full taken failed before after → AreInTime was.put so_far.lines so_far.said (so_far.pieces ++ map (piece_at (length is.put)) taken)
  new_in_time command old full taken failed before after left_first left_now was is so_far takes = λ seen later piece split.
      by_place seen later piece (split_append so_far.pieces (map (piece_at (length is.put)) taken) seen later piece split)
    where
      by_place : (seen later : List Piece) (piece : Piece) → ((more : List Piece) × (so_far.pieces ≡ seen ++ piece ∷ more))
          ⊎ ((more : List Piece) × (seen ≡ so_far.pieces ++ more) × (map (piece_at (length is.put)) taken ≡ more ++ piece ∷ later)) → InTime was.put so_far.lines so_far.said seen piece
      by_place seen later piece (inl old_one) = so_far.in_time seen old_one.0 piece old_one.1
      by_place seen later piece (inr new_one) =
          let one = one_of (length is.put) taken new_one.0 later piece new_one.2 in
          let running = not_ended (machine.longest command) old full taken failed before after one.place takes one.within in
          let held = so_far.held running in
          let tail : List ℕ = old.kept ++ concat (take one.place taken) in
          let bytes : bytes_of seen ≡ held.given ++ tail =
          ap bytes_of new_one.1 ∙ (bytes_of-append so_far.pieces new_one.0 ∙ (ap (λ (l : List ℕ). l ++ bytes_of new_one.0) held.bytes
          ∙ (append_assoc held.given old.kept (bytes_of new_one.0) ∙ ap (λ (l : List ℕ). held.given ++ (old.kept ++ l)) (ap bytes_of one.before ∙ bytes_of-map (length is.put) (take one.place taken))))) in
          let facts = undecided_after command old so_far.lines so_far.said held.given tail so_far.answers held.closed held.whole (takes.undecided one.place one.within) in
          record {
            by_then = so_far.said;
            later = [];
            others = [];
            answered = subst (λ (l : List ℕ). Answered machine start l so_far.said) (sym bytes) facts.0;
            put_before = one.at ∙ ap (λ (l : List ℕ). length l) so_far.put;
            said_is = sym (append-nil so_far.said);
            lines_are = sym (append-nil (map whole_line (whole_lines (bytes_of seen))) ∙ (ap (λ (l : List ℕ). map whole_line (whole_lines l)) bytes ∙ facts.1));
          }

  -- the line that a reader holds if it answers with a text
  pub record HoldsLine (longest : ℕ) (full : Reader) (lines : List InputLine) : Type 0 where
    pub line : InputLine
    pub others : List InputLine
    pub lines_are : lines ≡ line ∷ others
    pub comes : coming longest (spare_capacity full) line ≡ Comes
    pub ended : (line.ended || full.ended) ≡ true

  no_text : (ended : Bool) → Text ≡ (if ended then End else ReadFault) → ⊥
  no_text true is = absurd (cc is)
  no_text false is = absurd (cc is)

  text_by_end : (ended : Bool) → Text ≡ (if ended then Text else ReadFault) → ended ≡ true
  text_by_end true is = refl
  text_by_end false is = absurd (cc is)

  text_by : (longest : ℕ) (full : Reader) (line : InputLine) (others : List InputLine) (how : Coming) → coming longest (spare_capacity full) line ≡ how → Text ≡ answer_by how longest full line → HoldsLine longest full (line ∷ others)
  text_by longest full line others Comes how is = record { line = line; others = others; lines_are = refl; comes = how; ended = text_by_end (line.ended || full.ended) is }
  text_by longest full line others LongLine how is = absurd (cc is)
  text_by longest full line others MuchInput how is = absurd (cc is)

  holds_line : (longest : ℕ) (full : Reader) (lines : List InputLine) → Text ≡ answer_to longest full lines → HoldsLine longest full lines
  holds_line longest full [] is = absurd (no_text full.ended is)
  holds_line longest full (line ∷ others) is = text_by longest full line others (coming longest (spare_capacity full) line) refl is

  was_running : (longest : ℕ) (old full : Reader) (pieces : List (List ℕ)) (failed : Bool) (before after : Seen) → Takes longest old full pieces failed before after → full.ended ≡ false → old.ended ≡ false
  was_running longest old full pieces failed before after takes running = by_end old.ended refl
    where
      by_end : (ended : Bool) → old.ended ≡ ended → old.ended ≡ false
      by_end false is = is
      by_end true is = let over : full.ended ≡ true = (takes.none_after_end is).1 in absurd (cc)

  ended_line : (a b : Bool) → (a || b) ≡ true → b ≡ false → a ≡ true
  ended_line true b is not = refl
  ended_line false b is not = absurd (cc)

  whole_is : (line : InputLine) → line.ended ≡ true → whole_line line.text ≡ line
  whole_is line ended = ap (λ (e : Bool). let l : InputLine = record { text = line.text; ended = e } in l) (sym ended)

  -- the bytes taken so far are those given out, and those that the reader then holds
  pieces_held : (old full : Reader) (longest : ℕ) (taken : List (List ℕ)) (failed : Bool) (before after : Seen) (pieces : List Piece) (lines : List InputLine) (put : ℕ) (held : Held pieces lines old.kept)
      → Takes longest old full taken failed before after → bytes_of (pieces ++ map (piece_at put) taken) ≡ held.given ++ full.kept
  pieces_held old full longest taken failed before after pieces lines put held takes =
      let kept : full.kept ≡ old.kept ++ concat taken = ap (λ (r : Reader). r.kept) takes.reader in
      bytes_of-append pieces (map (piece_at put) taken) ∙ (ap (λ (l : List ℕ). l ++ bytes_of (map (piece_at put) taken)) held.bytes
      ∙ (append_assoc held.given old.kept (bytes_of (map (piece_at put) taken)) ∙ ap (λ (l : List ℕ). held.given ++ l) (ap (λ (l : List ℕ). old.kept ++ l) (bytes_of-map put taken) ∙ sym kept)))

  text_answered : (longest : ℕ) (full : Reader) → (Text ≡ answer longest full) ⊎ ((Text ≡ OutOfMemory) × WantsCapacity longest full) → Text ≡ answer longest full
  text_answered longest full (inl is) = is
  text_answered longest full (inr (none, wants)) = absurd (cc none)

  given_line : (command : C) (old new : Reader) (before between : Seen) (left_first : Option (List ℕ)) (was mid : Talk) (so_far : SoFar command old left_first before.left was mid)
      (reads : ReadsNext (machine.longest command) old new Text before between) → (one : InputLine) × Given command old new (so_far.pieces ++ map (piece_at (length mid.put)) reads.pieces) so_far.lines one
  given_line command old new before between left_first was mid so_far reads =
      let full = reads.full in
      let holds = holds_line (machine.longest command) full (input_lines full.kept) (text_answered (machine.longest command) full reads.answered) in
      let size = line_size holds.line in
      let capacity_is : spare_capacity full ≡ spare_capacity old = ap spare_capacity reads.takes.reader in
      let goes : new ≡ record full { text = holds.line.text; kept = drop size full.kept; before = full.before + size; number = full.number + 1; stopped = None } =
      reads.goes_on ∙ ap (λ (ls : List InputLine). record (without_line Text ls full) { number = full.number + 1; stopped = None }) holds.lines_are in (
        holds.line,
        record {
          comes = subst (λ (r : ℕ). coming (machine.longest command) r holds.line ≡ Comes) capacity_is holds.comes;
          text = ap (λ (r : Reader). r.text) goes;
          place = ap (λ (r : Reader). r.before) goes ∙ ap (λ (r : Reader). r.before + size) reads.takes.reader;
          held = λ running.
              let running_full : full.ended ≡ false = sym (ap (λ (r : Reader). r.ended) goes) ∙ running in
              let held = so_far.held (was_running (machine.longest command) old full reads.pieces false before between reads.takes running_full) in
              let ended = ended_line holds.line.ended full.ended holds.ended running_full in
              let first = first_whole full.kept holds.line holds.others holds.lines_are ended in
              let kept : new.kept ≡ drop size full.kept = ap (λ (r : Reader). r.kept) goes in
              record {
                given = held.given ++ take size full.kept;
                bytes = pieces_held old full (machine.longest command) reads.pieces false before between so_far.pieces so_far.lines (length mid.put) held reads.takes
                    ∙ (ap (λ (l : List ℕ). held.given ++ l) (sym (take-append-drop size full.kept)) ∙ (sym (append_assoc held.given (take size full.kept) (drop size full.kept))
                    ∙ ap (λ (l : List ℕ). (held.given ++ take size full.kept) ++ l) (sym kept)));
                closed = unfinished-closed held.given (take size full.kept) held.closed ∙ first.closed;
                whole = ap (λ (l : List (List ℕ)). map whole_line l) (whole_lines-closed held.given (take size full.kept) held.closed ∙ ap (λ (l : List (List ℕ)). whole_lines held.given ++ l) first.whole) ∙
                    (map-append whole_line (whole_lines held.given) (holds.line.text ∷ []) ∙ (ap (λ (l : List InputLine). l ++ whole_line holds.line.text ∷ []) held.whole
                    ∙ ap (λ (l : InputLine). so_far.lines ++ l ∷ []) (whole_is holds.line ended)));
              };
        },
      )

  cut_off : (command : C) (old new : Reader) (before between : Seen) (left_first : Option (List ℕ)) (was mid : Talk) (so_far : SoFar command old left_first before.left was mid)
      (reads : ReadsNext (machine.longest command) old new ReadFault before between) → Answered machine start (bytes_of (so_far.pieces ++ map (piece_at (length mid.put)) reads.pieces)) so_far.said
  cut_off command old new before between left_first was mid so_far reads =
      let full = reads.full in
      let cut = reads.cut_off refl in
      let running : full.ended ≡ false = sym (ap (λ (r : Reader). r.ended) reads.goes_on) ∙ cut.0 in
      let held = so_far.held (was_running (machine.longest command) old full reads.pieces true before between reads.takes running) in
      let kept : new.kept ≡ full.kept = ap (λ (r : Reader). r.kept) reads.goes_on in
      let capacity_is : spare_capacity new ≡ spare_capacity old = ap spare_capacity reads.goes_on ∙ ap spare_capacity reads.takes.reader in
      let nothing : DecideNothing (machine.longest command) (spare_capacity old) full.kept =
      subst (λ (l : List ℕ). DecideNothing (machine.longest command) (spare_capacity old) l) kept (subst (λ (r : ℕ). DecideNothing (machine.longest command) r new.kept) capacity_is cut.1) in
      let facts = undecided_after command old so_far.lines so_far.said held.given full.kept so_far.answers held.closed held.whole nothing in
      subst (λ (l : List ℕ). Answered machine start l so_far.said) (sym (pieces_held old full (machine.longest command) reads.pieces true before between so_far.pieces so_far.lines (length mid.put) held reads.takes)) facts.0

  -- what is read next, and the line that it gives
  abbrev pub ReadsOne : C → Reader → Reader → Line → Seen → Seen → Type 0
  ReadsOne command old new line before between = ReadsNext (machine.longest command) old new line before between

  abbrev pub GivesOne : C → Reader → Reader → Line → Seen → Seen → Type 0
  GivesOne command old new line before between = WhereShown before.left between.left (GivesNext (machine.longest command) old new line)

  gives_by : (line : Line) (command : C) (old new : Reader) (before between : Seen) (left_first : Option (List ℕ)) (was mid : Talk) (so_far : SoFar command old left_first before.left was mid)
      (reads : ReadsOne command old new line before between) →
      line ≡ Text → (one : InputLine) × Given command old new (so_far.pieces ++ map (piece_at (length mid.put)) reads.pieces) so_far.lines one
  gives_by Text command old new before between left_first was mid so_far reads is = given_line command old new before between left_first was mid so_far reads
  gives_by End command old new before between left_first was mid so_far reads is = absurd (cc is)
  gives_by (TooLong n) command old new before between left_first was mid so_far reads is = absurd (cc is)
  gives_by (TooMuch n) command old new before between left_first was mid so_far reads is = absurd (cc is)
  gives_by ReadFault command old new before between left_first was mid so_far reads is = absurd (cc is)
  gives_by OutOfMemory command old new before between left_first was mid so_far reads is = absurd (cc is)

  cut_off_by : (line : Line) (command : C) (old new : Reader) (before between : Seen) (left_first : Option (List ℕ)) (was mid : Talk) (so_far : SoFar command old left_first before.left was mid)
      (reads : ReadsOne command old new line before between) →
      line ≡ ReadFault → Answered machine start (bytes_of (so_far.pieces ++ map (piece_at (length mid.put)) reads.pieces)) so_far.said
  cut_off_by ReadFault command old new before between left_first was mid so_far reads is = cut_off command old new before between left_first was mid so_far reads
  cut_off_by Text command old new before between left_first was mid so_far reads is = absurd (cc is)
  cut_off_by End command old new before between left_first was mid so_far reads is = absurd (cc is)
  cut_off_by (TooLong n) command old new before between left_first was mid so_far reads is = absurd (cc is)
  cut_off_by (TooMuch n) command old new before between left_first was mid so_far reads is = absurd (cc is)
  cut_off_by OutOfMemory command old new before between left_first was mid so_far reads is = absurd (cc is)

  -- the reader read on
  pub read_on : (command : C) (old new : Reader) (line : Line) (before between : Seen) (left : Option (List ℕ)) (was mid is : Talk) → SoFar command old left before.left was mid →
      (reads : ReadsOne command old new line before between) → is ≡ after_takes reads.pieces (is_read_fault line) mid →
      GivesOne command old new line before between → ReadSoFar command old new line left between.left was is
  read_on command old new line before between left_first was mid is so_far reads changed next =
      let t = took reads.pieces (is_read_fault line) mid is changed in
      let new_pieces = map (piece_at (length mid.put)) reads.pieces in
      record {
        pieces = so_far.pieces ++ new_pieces;
        lines = so_far.lines;
        said = so_far.said;
        taken = t.taken ∙ (ap (λ (l : List Piece). l ++ new_pieces) so_far.taken ∙ append_assoc was.taken so_far.pieces new_pieces);
        put = t.put ∙ so_far.put;
        take_is = take_on (is_read_fault line) was mid is so_far.take_same t.take_is;
        put_same = t.put_same ∙ so_far.put_same;
        answers = so_far.answers;
        in_time = new_in_time command old reads.full reads.pieces (is_read_fault line) before between left_first before.left was mid so_far reads.takes;
        left = subst (λ (l : List ℕ). LosesPrefix left_first between.left l) (ap (λ (l : List ℕ). bytes_of so_far.pieces ++ l) (sym (bytes_of-map (length mid.put) reads.pieces)) ∙ sym (bytes_of-append so_far.pieces new_pieces))
            (LosesPrefix-twice left_first before.left between.left (bytes_of so_far.pieces) (concat reads.pieces) so_far.left reads.takes.left);
        ahead = WhereShown-twice left_first before.left between.left (λ input rest. input_lines input ≡ so_far.lines ++ input_lines (remaining old rest)) (GivesNext (machine.longest command) old new line)
            (λ input rest. (b : List ℕ) × (input_lines input ≡ so_far.lines ++ input_lines (remaining old b)) × GivesFirst (machine.longest command) old new line b rest) (λ x y z p q. (y, p, q.first)) so_far.ahead next;
        gives = gives_by line command old new before between left_first was mid so_far reads;
        cut_off = cut_off_by line command old new before between left_first was mid so_far reads;
      }

  -- two lines of one text and one size are one
  same_size : (n : ℕ) (a b : Bool) → n + (if a then 1 else 0) ≡ n + (if b then 1 else 0) → a ≡ b
  same_size n true true is = refl
  same_size n false false is = refl
  same_size n true false is = absurd (omega (arith, is))
  same_size n false true is = absurd (omega (arith, is))

  same_line : (a b : InputLine) → a.text ≡ b.text → line_size a ≡ line_size b → a ≡ b
  same_line a b text size =
      let sizes : length a.text + (if a.ended then 1 else 0) ≡ length a.text + (if b.ended then 1 else 0) = size ∙ ap (λ (t : List ℕ). length t + (if b.ended then 1 else 0)) (sym text) in
      let ended : a.ended ≡ b.ended = same_size (length a.text) a.ended b.ended sizes in
      let make : List ℕ → Bool → InputLine = λ t e. record { text = t; ended = e } in
      ap (λ (t : List ℕ). make t a.ended) text ∙ ap (λ (e : Bool). make b.text e) ended

  -- a line was given, and its answer put: the run has come so far
  pub goes_on : (command next : C) (old new : Reader) (first now : Option (List ℕ)) (was is fin : Talk) (answer : List ℕ) → ReadSoFar command old new Text first now was is →
      fin ≡ record is { put = is.put ++ answer } → machine.takes command new.number new.text answer (flow.Continue next) → new.number ≡ old.number + 1 → new.most ≡ old.most →
      SoFar next new first now was fin
  goes_on command next old new left_first left_now was is fin answer read wrote takes number most =
      let one = (read.gives refl).0 in
      let given = (read.gives refl).1 in
      let takes_here : machine.takes command (old.number + 1) one.text answer (flow.Continue next) =
      subst (λ (n : ℕ). machine.takes command n one.text answer (flow.Continue next)) number (subst (λ (t : List ℕ). machine.takes command new.number t answer (flow.Continue next)) given.text takes) in
      let reply : Replies machine (here_at command old) (one ∷ []) answer (flow.Continue next) = replies_to_line machine (here_at command old) one [] answer (flow.Continue next) given.comes takes_here in
      let capacity_is : spare_capacity old - line_size one ≡ spare_capacity new = omega (arith, given.place, most) in
      let there_is : after_line (here_at command old) one next ≡ here_at next new =
      ap (λ (n : ℕ). let h : Here C = record { state = next; number = n; spare_capacity = spare_capacity old - line_size one } in h) (sym number)
      ∙ ap (λ (r : ℕ). let h : Here C = record { state = next; number = new.number; spare_capacity = r } in h) capacity_is in
      record {
        pieces = read.pieces;
        lines = read.lines ++ one ∷ [];
        said = read.said ++ answer;
        taken = ap (λ (t : Talk). t.taken) wrote ∙ read.taken;
        put = ap (λ (t : Talk). t.put) wrote ∙ (ap (λ (l : List ℕ). l ++ answer) read.put ∙ append_assoc was.put read.said answer);
        take_same = ap (λ (t : Talk). t.failed_take) wrote ∙ read.take_is;
        put_same = ap (λ (t : Talk). t.failed_put) wrote ∙ read.put_same;
        answers = subst (λ (h : Here C). Answers machine (begins start) (read.lines ++ one ∷ []) (read.said ++ answer) h) there_is
            (Answers-more machine (begins start) read.lines read.said (here_at command old) one answer next read.answers reply);
        in_time = in_time_on was.put read.lines read.said read.pieces one answer read.in_time;
        held = given.held;
        left = read.left;
        ahead = WhereShown-so left_first left_now (λ input rest. (b : List ℕ) × (input_lines input ≡ read.lines ++ input_lines (remaining old b)) × GivesFirst (machine.longest command) old new Text b rest)
            (λ input rest. input_lines input ≡ (read.lines ++ one ∷ []) ++ input_lines (remaining new rest)) (λ input rest p.
            let other = p.2.0 in
            let gave = p.2.1 in
            let same : other ≡ one = same_line other one (sym gave.text ∙ given.text) (let sizes : old.before + line_size other ≡ old.before + line_size one = sym gave.place ∙ given.place in omega (arith, sizes)) in
            p.1 ∙ (ap (λ (l : List InputLine). read.lines ++ l) (gave.lines ∙ ap (λ (l : InputLine). l ∷ input_lines (remaining new rest)) same) ∙ sym (append_assoc read.lines (one ∷ []) (input_lines (remaining new rest))))) read.ahead;
      }
