-- How a run ends: what its last turn did, after all that came before it.
use Rattle.std.proofs.Common.{◌≡◌, ◌⊎◌, inl, inr, ℕ, ◌+◌, ◌<◌, ◌≤◌, Bool, true, false, List, [], ◌∷◌, ◌++◌, length, take, drop, map, Option, Some, None, refl, sym, ap, subst, ◌∙◌, arith, append_assoc, append-nil, take-append-drop}
use Rattle.std.proofs.Common.{length-drop}
use Rattle.std.specs.Prelude.{if◌then◌else◌}
use Rattle.std.specs.Option.{is_some}
use Rattle.std.specs.List.{concat}
use Rattle.texts.specs.Lines.{InputLine, input_lines, whole_lines, whole_line}
use Rattle.texts.proofs.InputLemmas.{whole_lines_is, unfinished_is, first_grows}
use Rattle.plan_port.specs.Lines.{Coming, TooLong as LongLine, TooMuch as MuchInput}
use Rattle.plan_port.specs.Talk.{Piece, TalkPlace, Talk, Seen, WhereShown, LosesPrefix, place_in_talk, raised}
use Rattle.plan_port.specs.WrittenBytes.{Writes, after_writing}
use Rattle.plan_port.specs.Reader.{Reader, IsReader, spare_capacity, remaining, initial, is_read_fault, lines_started, after_takes, counted_takes, ReadsNext, FirstIs, GivesFirst, GivesNext}
use Rattle.plan_port.specs.declared.lines.Line.{Line}
use Rattle.plan_port.specs.declared.lines.Line.TheVariants.{Text, TooLong, TooMuch, ReadFault, OutOfMemory}
use Rattle.plan_port.specs.declared.lines.Line.TheVariants.{End as NoLine}
use Rattle.plan_port.specs.declared.written_bytes.Written.{Written}
use Rattle.plan_port.specs.declared.written_bytes.Written.TheVariants.{All, Part}
use Rattle.plan_port.proofs.Talks.{with_put-nil, WhereShown-same, WhereShown-twice, WhereShown-so, LosesPrefix-nil}
use Rattle.command_engine.specs.Machine.{Machine}
use Rattle.command_engine.specs.Limits.{most_input}
use Rattle.command_engine.specs.Runs.{Here, begins, Stops, RepliesTo, Replies, Answers}
use Rattle.command_engine.specs.Prompt.{bytes_of, IsTakenPromptly, IsPrompt}
use Rattle.command_engine.specs.Breaks.{read_fault_line, IsProperPrefix}
use Rattle.command_engine.specs.Calls.{Calls, NoTakeFailed, NoPutFailed, EndsAfterTake, LastTakeFailed, LastPutFailed}
use Rattle.command_engine.specs.Serves.{PutsFor, Puts, Serves}
use Rattle.command_engine.specs.Turns.{turn_of, after_written, StopsTurn, ReplyTo, WantedMemory, Replied, OneTurn}
use Rattle.command_engine.proofs.RunLemmas.{replies_to_line}
use Rattle.command_engine.proofs.TurnLemmas.{Held, here_at, InTime, SoFar, ReadSoFar, take_place, read_on, goes_on}
use Rattle.command_engine.specs.declared.endings.End.{End}
use Rattle.command_engine.specs.declared.endings.Status.{Status}
use Rattle.command_engine.specs.declared.endings.Status.TheVariants as status
use Rattle.command_engine.specs.declared.machines.Flow.{Flow}
use Rattle.command_engine.specs.declared.machines.Flow.TheVariants as flow
use Rattle.command_engine.specs.declared.machines.Stop.{Stop}
use Rattle.command_engine.specs.declared.machines.Stop.TheVariants.{LineTooLong, InputTooMuch, InputEnded}
use Rattle.command_engine.specs.declared.run_loop.Turn.{Turn}
use Rattle.command_engine.specs.declared.run_loop.Turn.TheVariants.{Continue, Finish}

-- the bytes that a writing put
abbrev pub bytes_put : Written → List ℕ → List ℕ
bytes_put All bytes = bytes
bytes_put (Part count) bytes = take count bytes

-- if the last put failed, after a writing
abbrev pub put_place : Written → Talk → Talk → Type 0
put_place All is fin = fin.failed_put ≡ is.failed_put
put_place (Part count) is fin = fin.failed_put ≡ Some (place_in_talk fin)

-- what a writing changes of a talk
pub record Wrote (written : Written) (bytes : List ℕ) (is fin : Talk) : Type 0 where
  pub taken : fin.taken ≡ is.taken
  pub put : fin.put ≡ is.put ++ bytes_put written bytes
  pub take_same : fin.failed_take ≡ is.failed_take
  pub put_is : put_place written is fin

wrote : (written : Written) (bytes : List ℕ) (is fin : Talk) → fin ≡ after_writing written bytes is → Wrote written bytes is fin
wrote All bytes is fin changed = subst (λ (t : Talk). Wrote All bytes is t) (sym changed) (record { taken = refl; put = refl; take_same = refl; put_is = refl })
wrote (Part count) bytes is fin changed = subst (λ (t : Talk). Wrote (Part count) bytes is t) (sym changed) (record { taken = refl; put = refl; take_same = refl; put_is = refl })

nothing_wrote : (is : Talk) → Wrote All [] is is
nothing_wrote is = record { taken = refl; put = sym (append-nil is.put); take_same = refl; put_is = refl }

-- a part of an answer
part_is : (count : ℕ) (bytes : List ℕ) → count < length bytes → IsProperPrefix (take count bytes) bytes
part_is count bytes within =
    let more : 0 < length (drop count bytes) = omega (arith, within, length-drop count bytes) in
    (drop count bytes, sym (take-append-drop count bytes), more)

-- what is left, if it is shown
shown_left : (old new : Option (List ℕ)) (bytes : List ℕ) (R : List ℕ → List ℕ → Type 0) → LosesPrefix old new bytes → WhereShown old new R → WhereShown old new (λ x y. R x y × (x ≡ bytes ++ y))
shown_left old None bytes R loses shown = tt
shown_left None (Some y) bytes R loses shown = absurd shown
shown_left (Some x) (Some y) bytes R loses shown = (shown, cc loses)

still_shown : (old new : Option (List ℕ)) (bytes : List ℕ) → LosesPrefix old new bytes → is_some new ≡ is_some old
still_shown None None bytes loses = refl
still_shown None (Some y) bytes loses = absurd (cc loses)
still_shown (Some x) None bytes loses = absurd (cc loses)
still_shown (Some x) (Some y) bytes loses = refl

-- a turn that ends is that of a command which ends
turn_ends : {C : Type 0} (how : Flow C) (s : Status) → Finish s ≡ turn_of how → (end : End) × (how ≡ flow.Finish end) × (s ≡ status.Ended end)
turn_ends (flow.Continue state) s is = absurd (cc is)
turn_ends (flow.Finish end) s is = (end, refl, cc is)

turn_goes : {C : Type 0} (how : Flow C) (next : C) → Continue next ≡ turn_of how → how ≡ flow.Continue next
turn_goes (flow.Continue state) next is = cc is
turn_goes (flow.Finish end) next is = absurd (cc is)

module _ {C : Type 0} (machine : Machine C) (start : C) where
  abbrev here : C → Reader → Here C
  here command reader = here_at machine start command reader

  -- the reply to what the reader answered is the reply to what comes first of the lines ahead
  pub record Proper (command : C) (old : Reader) (ahead : List InputLine) (answer : List ℕ) (reply : Turn C) : Type 0 where
    pub how : Flow C
    pub replies : Replies machine (here command old) ahead answer how
    pub is : reply ≡ turn_of how

  stops_at : (command : C) (old : Reader) (stop : Stop) (number : ℕ) (answer : List ℕ) (reply : Turn C) → number ≡ old.number + 1 → StopsTurn machine command number stop answer reply
      → (how : Flow C) × Stops machine (here command old) stop answer how × (reply ≡ turn_of how)
  stops_at command old stop number answer reply numbered stops =
      (flow.Finish stops.0, (stops.0, refl, subst (λ (n : ℕ). machine.stops command n stop answer stops.0) numbered stops.2), stops.1)

  first_stops : (command : C) (old : Reader) (ahead : List InputLine) (how : Coming) (answer : List ℕ) (reply : Turn C) → FirstIs how (machine.longest command) (spare_capacity old) ahead
      → ((text : List ℕ) → (it : Flow C) × RepliesTo machine how (here command old) text answer it × (reply ≡ turn_of it)) → Proper command old ahead answer reply
  first_stops command old [] how answer reply first replies = absurd first
  first_stops command old (line ∷ others) how answer reply first replies =
      let it = replies line.text in
      record { how = it.0; replies = subst (λ (h : Coming). RepliesTo machine h (here command old) line.text answer it.0) (sym first) it.1; is = it.2 }

  proper : (line : Line) (command : C) (old new : Reader) (before rest answer : List ℕ) (reply : Turn C) → is_read_fault line ≡ false → new.number ≡ old.number + lines_started line
      → GivesFirst (machine.longest command) old new line before rest → ReplyTo machine command line new answer reply → Proper command old (input_lines (remaining old before)) answer reply
  proper Text command old new before rest answer reply fault number gives replies =
      let line = gives.0 in
      let gave = gives.1 in
      let takes : machine.takes command (old.number + 1) line.text answer replies.0 =
      subst (λ (n : ℕ). machine.takes command n line.text answer replies.0) number (subst (λ (t : List ℕ). machine.takes command new.number t answer replies.0) gave.text replies.2) in
      record {
        how = replies.0;
        replies = subst (λ (ls : List InputLine). Replies machine (here command old) ls answer replies.0) (sym gave.lines)
            (replies_to_line machine (here command old) line (input_lines (remaining new rest)) answer replies.0 gave.comes takes);
        is = replies.1;
      }
  proper NoLine command old new before rest answer reply fault number gives replies =
      let same : new.number + 1 ≡ old.number + 1 = omega (arith, number) in
      let it = stops_at command old InputEnded (new.number + 1) answer reply same replies in
      record { how = it.0; replies = subst (λ (ls : List InputLine). Replies machine (here command old) ls answer it.0) (sym gives.0) it.1; is = it.2 }
  proper (TooLong n) command old new before rest answer reply fault number gives replies =
      first_stops command old (input_lines (remaining old before)) LongLine answer reply gives (λ text. stops_at command old LineTooLong new.number answer reply number replies)
  proper (TooMuch n) command old new before rest answer reply fault number gives replies =
      first_stops command old (input_lines (remaining old before)) MuchInput answer reply gives (λ text. stops_at command old InputTooMuch new.number answer reply number replies)
  proper ReadFault command old new before rest answer reply fault number gives replies = absurd (cc fault)
  proper OutOfMemory command old new before rest answer reply fault number gives replies = absurd replies

  -- what is kept from turn to turn
  pub record IsServing (command : C) (reader : Reader) (first now : Seen) : Type 0 where
    pub running : reader.stopped ≡ None
    pub most : reader.most ≡ most_input
    pub read_faults : now.read_faults ≡ first.read_faults
    pub write_faults : now.write_faults ≡ first.write_faults
    pub shown : is_some now.left ≡ is_some first.left
    pub talk : WhereShown first.talk now.talk (SoFar machine start command reader first.left now.left)

  no_piece : (seen later : List Piece) (piece : Piece) (A : Type 0) → [] ≡ seen ++ piece ∷ later → A
  no_piece [] later piece A is = absurd (cc is)
  no_piece (s ∷ seen) later piece A is = absurd (cc is)

  begins_held : Held [] [] []
  begins_held = record { given = []; bytes = refl; closed = unfinished_is []; whole = ap (λ (l : List (List ℕ)). map whole_line l) (whole_lines_is []) }

  pub serving_begins : (first : Seen) → IsServing start (initial most_input) first first
  serving_begins first = record {
    running = refl;
    most = refl;
    read_faults = refl;
    write_faults = refl;
    shown = refl;
    talk = WhereShown-same first.talk (λ was is. SoFar machine start start (initial most_input) first.left first.left was is) (λ t. record {
      pieces = [];
      lines = [];
      said = [];
      taken = sym (append-nil t.taken);
      put = sym (append-nil t.put);
      take_same = refl;
      put_same = refl;
      answers = (refl, refl);
      in_time = λ seen later piece is. no_piece seen later piece (InTime machine start t.put [] [] seen piece) is;
      held = λ running. begins_held;
      left = LosesPrefix-nil first.left;
      ahead = WhereShown-same first.left (λ input rest. input_lines input ≡ [] ++ input_lines (remaining (initial most_input) rest)) (λ bytes. refl);
    });
  }

  -- a reader has read on in a run that has come so far
  pub record ReadFrom (line : Line) (command : C) (old new : Reader) (first before between : Seen) : Type 0 where
    pub serving : IsServing command old first before
    pub reads : ReadsNext (machine.longest command) old new line before between
    pub next : WhereShown before.left between.left (GivesNext (machine.longest command) old new line)

  -- after the reader has read on
  read_seen : (command : C) (old new : Reader) (line : Line) (first before between : Seen) → ReadFrom line command old new first before between
      → WhereShown first.talk between.talk (ReadSoFar machine start command old new line first.left between.left)
  read_seen command old new line first before between from =
      WhereShown-twice first.talk before.talk between.talk (SoFar machine start command old first.left before.left) (λ mid is. is ≡ after_takes from.reads.pieces (is_read_fault line) mid)
      (ReadSoFar machine start command old new line first.left between.left)
      (λ was mid is so_far changed. read_on machine start command old new line before between first.left was mid is so_far from.reads changed from.next) from.serving.talk from.reads.takes.talk

  -- a command goes on only after a line
  text_goes : (line : Line) (command : C) (new : Reader) (answer : List ℕ) (reply : Turn C) (next : C) → ReplyTo machine command line new answer reply → reply ≡ Continue next
      → (line ≡ Text) × machine.takes command new.number new.text answer (flow.Continue next)
  text_goes Text command new answer reply next replies is =
      (refl, subst (λ (h : Flow C). machine.takes command new.number new.text answer h) (turn_goes replies.0 next (sym is ∙ replies.1)) replies.2)
  text_goes NoLine command new answer reply next replies is = absurd (cc (is, replies.1))
  text_goes (TooLong n) command new answer reply next replies is = absurd (cc (is, replies.1))
  text_goes (TooMuch n) command new answer reply next replies is = absurd (cc (is, replies.1))
  text_goes ReadFault command new answer reply next replies is = absurd (cc (is, replies.1))
  text_goes OutOfMemory command new answer reply next replies is = absurd replies

  -- the answer to a line was put, and the command goes on
  on_by : (line : Line) (command next : C) (old new : Reader) (first before between after : Seen) (answer : List ℕ) → line ≡ Text → ReadFrom line command old new first before between → Writes between after All answer
      → machine.takes command new.number new.text answer (flow.Continue next) → IsServing next new first after
  on_by Text command next old new first before between after answer is from writes takes = record {
    running = from.reads.stopped;
    most = from.reads.most ∙ from.serving.most;
    read_faults = writes.read_faults ∙ (from.reads.takes.read_faults ∙ from.serving.read_faults);
    write_faults = writes.write_faults ∙ (from.reads.takes.write_faults ∙ from.serving.write_faults);
    shown = ap (λ (l : Option (List ℕ)). is_some l) writes.left ∙ (still_shown before.left between.left (concat from.reads.pieces) from.reads.takes.left ∙ from.serving.shown);
    talk = subst (λ (l : Option (List ℕ)). WhereShown first.talk after.talk (SoFar machine start next new first.left l)) (sym writes.left)
        (WhereShown-twice first.talk between.talk after.talk (ReadSoFar machine start command old new Text first.left between.left) (λ is fin. fin ≡ after_writing All answer is)
        (λ was fin. SoFar machine start next new first.left between.left was fin)
        (λ was is fin read wrote. goes_on machine start command next old new first.left between.left was is fin answer read wrote takes from.reads.number from.reads.most)
        (read_seen command old new Text first before between from) writes.talk);
  }
  on_by NoLine command next old new first before between after answer is from writes takes = absurd (cc is)
  on_by (TooLong n) command next old new first before between after answer is from writes takes = absurd (cc is)
  on_by (TooMuch n) command next old new first before between after answer is from writes takes = absurd (cc is)
  on_by ReadFault command next old new first before between after answer is from writes takes = absurd (cc is)
  on_by OutOfMemory command next old new first before between after answer is from writes takes = absurd (cc is)

  on_written : (written : Written) (command next : C) (old new : Reader) (first before after : Seen) (turn : OneTurn machine command old new (Continue next) before after)
      (replied : Replied machine command turn.line new (Continue next) turn.between after) → replied.written ≡ written → IsServing command old first before → IsServing next new first after
  on_written All command next old new first before after turn replied is serving =
      let reply : replied.reply ≡ Continue next = sym (replied.goes ∙ ap (λ (w : Written). after_written w replied.reply) is) in
      let goes = text_goes turn.line command new replied.answer replied.reply next replied.replies reply in
      on_by turn.line command next old new first before turn.between after replied.answer goes.0 (record { serving = serving; reads = turn.reads; next = turn.next })
      (subst (λ (w : Written). Writes turn.between after w replied.answer) is replied.writes) goes.1
  on_written (Part count) command next old new first before after turn replied is serving =
      let reply : Continue next ≡ Finish status.WriteFault = replied.goes ∙ ap (λ (w : Written). after_written w replied.reply) is in
      absurd (cc reply)

  on_puts : (command next : C) (old new : Reader) (first before after : Seen) (turn : OneTurn machine command old new (Continue next) before after) → WantedMemory machine command turn.line (Continue next) turn.between after
      ⊎ Replied machine command turn.line new (Continue next) turn.between after → IsServing command old first before → IsServing next new first after
  on_puts command next old new first before after turn (inl wanted) serving = absurd (cc (wanted.ends))
  on_puts command next old new first before after turn (inr replied) serving =
      on_written replied.written command next old new first before after turn replied refl serving

  -- a turn after which the run goes on
  pub serving_goes : (command next : C) (old new : Reader) (first before after : Seen) → IsServing command old first before → OneTurn machine command old new (Continue next) before after → IsServing next new first after
  serving_goes command next old new first before after serving turn = on_puts command next old new first before after turn turn.puts serving

  -- the number of lines grows, and stays within the input
  pub counts_up : (command next : C) (old new : Reader) (before after : Seen) → OneTurn machine command old new (Continue next) before after → new.number ≡ old.number + 1
  counts_up command next old new before after turn = by_puts turn.puts
    where
      by_line : (line : Line) → line ≡ Text → new.number ≡ old.number + lines_started line → new.number ≡ old.number + 1
      by_line line is number = number ∙ ap (λ (l : Line). old.number + lines_started l) is

      by_written : (written : Written) (replied : Replied machine command turn.line new (Continue next) turn.between after) → replied.written ≡ written → new.number ≡ old.number + 1
      by_written All replied is =
          let reply : replied.reply ≡ Continue next = sym (replied.goes ∙ ap (λ (w : Written). after_written w replied.reply) is) in
          by_line turn.line (text_goes turn.line command new replied.answer replied.reply next replied.replies reply).0 turn.reads.number
      by_written (Part count) replied is =
          let reply : Continue next ≡ Finish status.WriteFault = replied.goes ∙ ap (λ (w : Written). after_written w replied.reply) is in
          absurd (cc reply)

      by_puts : WantedMemory machine command turn.line (Continue next) turn.between after ⊎ Replied machine command turn.line new (Continue next) turn.between after → new.number ≡ old.number + 1
      by_puts (inl wanted) = absurd (cc (wanted.ends))
      by_puts (inr replied) = by_written replied.written replied refl

  pub numbered : (reader : Reader) → IsReader reader → reader.stopped ≡ None → reader.most ≡ most_input → reader.number ≤ most_input
  numbered reader valid running most =
      let none : is_some reader.stopped ≡ false = ap (λ (s : Option Line). is_some s) running in
      let bound : reader.number ≤ reader.before + (if false then 1 else 0) = subst (λ (b : Bool). reader.number ≤ reader.before + (if b then 1 else 0)) none valid.numbered in
      omega (arith, bound, valid.within, most)

  -- what was read so far, and what is written after it
  module _ (command : C) (old new : Reader) (line : Line) (left_first left_now : Option (List ℕ)) (was is fin : Talk) (written : Written) (bytes : List ℕ) where
    -- every piece was taken promptly, in a run that ends so
    is_prompt : ReadSoFar machine start command old new line left_first left_now was is → Wrote written bytes is fin → IsPrompt machine start was fin
    is_prompt read wrote = record {
      pieces = read.pieces;
      taken = wrote.taken ∙ read.taken;
      promptly = λ seen later piece split.
          let one = read.in_time seen later piece split in
          let last = bytes_put written bytes in
          record {
            said = one.by_then;
            later = one.later ++ last;
            answered = one.answered;
            put_before = one.put_before;
            put_after = wrote.put ∙ (ap (λ (l : List ℕ). l ++ last) (read.put ∙ ap (λ (l : List ℕ). was.put ++ l) one.said_is)
                ∙ (append_assoc was.put (one.by_then ++ one.later) last ∙ (ap (λ (l : List ℕ). was.put ++ l) (append_assoc one.by_then one.later last) ∙ sym (append_assoc was.put one.by_then (one.later ++ last)))));
          };
    }

    puts_are : (s : Status) (input untaken : List ℕ) (read : ReadSoFar machine start command old new line left_first left_now was is) →
        Wrote written bytes is fin → PutsFor machine start s input untaken (read.said ++ bytes_put written bytes) read.pieces → Puts machine start s was fin input untaken
    puts_are s input untaken read wrote puts = record {
      pieces = read.pieces;
      put = read.said ++ bytes_put written bytes;
      taken = wrote.taken ∙ read.taken;
      all = wrote.put ∙ (ap (λ (l : List ℕ). l ++ bytes_put written bytes) read.put ∙ append_assoc was.put read.said (bytes_put written bytes));
      puts = puts;
    }

  -- the calls that failed
  no_take : (fault : Bool) (was is : Talk) → fault ≡ false → take_place machine start fault was is → is.failed_take ≡ was.failed_take
  no_take false was is fault place = place
  no_take true was is fault place = absurd (cc fault)

  one_take : (fault : Bool) (was is : Talk) → fault ≡ true → take_place machine start fault was is → is.failed_take ≡ Some (place_in_talk is)
  one_take true was is fault place = place
  one_take false was is fault place = absurd (cc fault)

  no_take_failed : (command : C) (old new : Reader) (line : Line) (first before between after : Seen) (written : Written) (answer : List ℕ) → is_read_fault line ≡ false → ReadFrom line command old new first before between
      → Writes between after written answer → NoTakeFailed first after
  no_take_failed command old new line first before between after written answer fault from writes = record {
    count = writes.read_faults ∙ (from.reads.takes.read_faults ∙ (ap (λ (f : Bool). counted_takes f before.read_faults) fault ∙ from.serving.read_faults));
    place = WhereShown-twice first.talk between.talk after.talk (ReadSoFar machine start command old new line first.left between.left) (λ is fin. fin ≡ after_writing written answer is) (λ was fin. fin.failed_take ≡ was.failed_take)
        (λ was is fin read changed. (wrote written answer is fin changed).take_same ∙ no_take (is_read_fault line) was is fault read.take_is) (read_seen command old new line first before between from) writes.talk;
  }

  last_take_failed : (command : C) (old new : Reader) (line : Line) (first before between after : Seen) (written : Written) (answer : List ℕ) → is_read_fault line ≡ true → ReadFrom line command old new first before between
      → Writes between after written answer → LastTakeFailed first after (bytes_put written answer)
  last_take_failed command old new line first before between after written answer fault from writes = record {
    count = writes.read_faults ∙ (from.reads.takes.read_faults ∙ (ap (λ (f : Bool). counted_takes f before.read_faults) fault ∙ ap raised from.serving.read_faults));
    place = WhereShown-twice first.talk between.talk after.talk (ReadSoFar machine start command old new line first.left between.left) (λ is fin. fin ≡ after_writing written answer is)
        (λ was fin. EndsAfterTake fin (bytes_put written answer))
        (λ was is fin read changed.
        let w = wrote written answer is fin changed in
        (is.put, w.put, w.take_same ∙ (one_take (is_read_fault line) was is fault read.take_is ∙ ap (λ (n : ℕ). Some (let p : TalkPlace = record { taken = n; put = length is.put } in p)) (ap (λ (l : List Piece). length l) (sym w.taken)))))
        (read_seen command old new line first before between from) writes.talk;
  }

  no_put_failed : (command : C) (old new : Reader) (line : Line) (first before between after : Seen) (answer : List ℕ) → ReadFrom line command old new first before between → Writes between after All answer → NoPutFailed first after
  no_put_failed command old new line first before between after answer from writes = record {
    count = writes.write_faults ∙ (from.reads.takes.write_faults ∙ from.serving.write_faults);
    place = WhereShown-twice first.talk between.talk after.talk (ReadSoFar machine start command old new line first.left between.left) (λ is fin. fin ≡ after_writing All answer is) (λ was fin. fin.failed_put ≡ was.failed_put)
        (λ was is fin read changed. (wrote All answer is fin changed).put_is ∙ read.put_same) (read_seen command old new line first before between from) writes.talk;
  }

  last_put_failed : (command : C) (old new : Reader) (line : Line) (first before between after : Seen) (count : ℕ) (answer : List ℕ) → ReadFrom line command old new first before between → Writes between after (Part count) answer
      → LastPutFailed first after
  last_put_failed command old new line first before between after count answer from writes = record {
    count = writes.write_faults ∙ ap raised (from.reads.takes.write_faults ∙ from.serving.write_faults);
    place = WhereShown-twice first.talk between.talk after.talk (ReadSoFar machine start command old new line first.left between.left) (λ is fin. fin ≡ after_writing (Part count) answer is)
        (λ was fin. fin.failed_put ≡ Some (place_in_talk fin))
        (λ was is fin read changed. (wrote (Part count) answer is fin changed).put_is) (read_seen command old new line first before between from) writes.talk;
  }

  -- what is ahead of a run, if what is left is shown
  pub record Ahead (command : C) (old new : Reader) (line : Line) (lines : List InputLine) (pieces : List Piece) (input untaken : List ℕ) : Type 0 where
    pub before : List ℕ
    pub divided : input_lines input ≡ lines ++ input_lines (remaining old before)
    pub gives : GivesFirst (machine.longest command) old new line before untaken
    pub all : input ≡ bytes_of pieces ++ untaken

  -- what was put is right for whatever was ahead
  abbrev PutsAhead : Status → C → Reader → Reader → Line → Seen → Seen → Written → List ℕ → Type 0
  PutsAhead s command old new line first between written answer =
      (was is : Talk) (input untaken : List ℕ) (read : ReadSoFar machine start command old new line first.left between.left was is) → Ahead command old new line read.lines read.pieces input untaken
      → PutsFor machine start s input untaken (read.said ++ bytes_put written answer) read.pieces

  -- a run that ends so, by what was put for what was ahead
  serves_by : (s : Status) (command : C) (old new : Reader) (line : Line) (first before between after : Seen) (written : Written) (answer : List ℕ) →
      ReadFrom line command old new first before between → Writes between after written answer → Calls s first after →
      PutsAhead s command old new line first between written answer →
      Serves machine start s first after
  serves_by s command old new line first before between after written answer from writes calls puts = record {
    calls = calls;
    prompt = WhereShown-twice first.talk between.talk after.talk (ReadSoFar machine start command old new line first.left between.left) (λ is fin. fin ≡ after_writing written answer is) (IsPrompt machine start)
        (λ was is fin read changed. is_prompt command old new line first.left between.left was is fin written answer read (wrote written answer is fin changed)) (read_seen command old new line first before between from) writes.talk;
    puts = WhereShown-twice first.talk between.talk after.talk (ReadSoFar machine start command old new line first.left between.left) (λ is fin. fin ≡ after_writing written answer is)
        (λ was fin. WhereShown first.left after.left (Puts machine start s was fin))
        (λ was is fin read changed. subst (λ (l : Option (List ℕ)). WhereShown first.left l (Puts machine start s was fin)) (sym writes.left)
        (WhereShown-so first.left between.left (λ input untaken. ((b : List ℕ) × (input_lines input ≡ read.lines ++ input_lines (remaining old b)) × GivesFirst (machine.longest command) old new line b untaken)
        × (input ≡ bytes_of read.pieces ++ untaken)) (Puts machine start s was fin)
        (λ input untaken shown. puts_are command old new line first.left between.left was is fin written answer s input untaken read (wrote written answer is fin changed)
        (puts was is input untaken read (record { before = shown.0.0; divided = shown.0.1; gives = shown.0.2; all = shown.1 })))
        (shown_left first.left between.left (bytes_of read.pieces) (λ input rest. (b : List ℕ) × (input_lines input ≡ read.lines ++ input_lines (remaining old b)) × GivesFirst (machine.longest command) old new line b rest) read.left
        read.ahead))) (read_seen command old new line first before between from) writes.talk;
    shown = ap (λ (l : Option (List ℕ)). is_some l) writes.left ∙ (still_shown before.left between.left (concat from.reads.pieces) from.reads.takes.left ∙ from.serving.shown);
  }

  -- a reply that ends a run, if no take failed, is the end of the command
  ended_reply : (line : Line) (command : C) (new : Reader) (answer : List ℕ) (reply : Turn C) (s : Status) → is_read_fault line ≡ false → ReplyTo machine command line new answer reply → Finish s ≡ reply
      → (end : End) × (s ≡ status.Ended end)
  ended_reply Text command new answer reply s fault replies is = let e = turn_ends replies.0 s (is ∙ replies.1) in (e.0, e.2)
  ended_reply NoLine command new answer reply s fault replies is = (replies.0, cc (is, replies.1))
  ended_reply (TooLong n) command new answer reply s fault replies is = (replies.0, cc (is, replies.1))
  ended_reply (TooMuch n) command new answer reply s fault replies is = (replies.0, cc (is, replies.1))
  ended_reply ReadFault command new answer reply s fault replies is = absurd (cc fault)
  ended_reply OutOfMemory command new answer reply s fault replies is = absurd replies

  same_end : (how : Flow C) (end : End) → Finish (status.Ended end) ≡ turn_of how → how ≡ flow.Finish end
  same_end (flow.Continue state) end is = absurd (cc is)
  same_end (flow.Finish other) end is = cc is

  -- the command ended the run
  ends_whole : (end : End) (command : C) (old new : Reader) (line : Line) (first before between after : Seen) (answer : List ℕ) (reply : Turn C) → is_read_fault line ≡ false →
      ReadFrom line command old new first before between → Writes between after All answer → ReplyTo machine command line new answer reply → Finish (status.Ended end) ≡ reply →
      Serves machine start (status.Ended end) first after
  ends_whole end command old new line first before between after answer reply fault from writes replies is =
      serves_by (status.Ended end) command old new line first before between after All answer from writes
      (no_take_failed command old new line first before between after All answer fault from writes, no_put_failed command old new line first before between after answer from writes)
      (λ was it input untaken read ahead.
      let one = proper line command old new ahead.before untaken answer reply fault from.reads.number ahead.gives replies in
      let how = same_end one.how end (is ∙ one.is) in
      record {
        first = read.lines;
        rest = input_lines (remaining old ahead.before);
        said = read.said;
        there = here command old;
        last = answer;
        divided = ahead.divided;
        answers = read.answers;
        ends = subst (λ (h : Flow C). Replies machine (here command old) (input_lines (remaining old ahead.before)) answer h) how one.replies;
        all = refl;
      })

  -- a put failed, at the reply of the command
  breaks_at_put : (command : C) (old new : Reader) (line : Line) (first before between after : Seen) (count : ℕ) (answer : List ℕ) (reply : Turn C) → is_read_fault line ≡ false → ReadFrom line command old new first before between
      → Writes between after (Part count) answer → ReplyTo machine command line new answer reply → Serves machine start status.WriteFault first after
  breaks_at_put command old new line first before between after count answer reply fault from writes replies =
      serves_by status.WriteFault command old new line first before between after (Part count) answer from writes
      (inl (no_take_failed command old new line first before between after (Part count) answer fault from writes), last_put_failed command old new line first before between after count answer from writes)
      (λ was it input untaken read ahead.
      let one = proper line command old new ahead.before untaken answer reply fault from.reads.number ahead.gives replies in
      inl (record {
        first = read.lines;
        rest = input_lines (remaining old ahead.before);
        said = read.said;
        there = here command old;
        answer = answer;
        flow = one.how;
        last = take count answer;
        divided = ahead.divided;
        answers = read.answers;
        replies = one.replies;
        part = part_is count answer writes.part;
        all = refl;
      }))

  -- a take failed
  breaks_at_take : (command : C) (old new : Reader) (first before between after : Seen) → ReadFrom ReadFault command old new first before between → Writes between after All read_fault_line → Serves machine start status.ReadFault first after
  breaks_at_take command old new first before between after from writes =
      serves_by status.ReadFault command old new ReadFault first before between after All read_fault_line from writes
      (last_take_failed command old new ReadFault first before between after All read_fault_line refl from writes, no_put_failed command old new ReadFault first before between after read_fault_line from writes)
      (λ was it input untaken read ahead. record { taken = bytes_of read.pieces; said = read.said; all_taken = ahead.all; answered = read.cut_off refl; all = refl })

  -- a take failed, and then a put
  breaks_at_both : (command : C) (old new : Reader) (first before between after : Seen) (count : ℕ) → ReadFrom ReadFault command old new first before between → Writes between after (Part count) read_fault_line
      → Serves machine start status.WriteFault first after
  breaks_at_both command old new first before between after count from writes =
      let part = part_is count read_fault_line writes.part in
      serves_by status.WriteFault command old new ReadFault first before between after (Part count) read_fault_line from writes (
        inr (take count read_fault_line, part, last_take_failed command old new ReadFault first before between after (Part count) read_fault_line refl from writes),
        last_put_failed command old new ReadFault first before between after count
            read_fault_line from writes,
      )
      (λ was it input untaken read ahead. inr (take count read_fault_line, part, record { taken = bytes_of read.pieces; said = read.said; all_taken = ahead.all; answered = read.cut_off refl; all = refl }))

  -- there was no memory at a line
  nothing_writes : (now : Seen) → Writes now now All []
  nothing_writes now = record {
    part = tt;
    talk = WhereShown-same now.talk (λ is fin. fin ≡ after_writing All [] is) with_put-nil;
    left = refl;
    read_faults = refl;
    write_faults = refl;
  }

  in_time_pieces : (put : List ℕ) (lines : List InputLine) (said : List ℕ) (pieces : List Piece) →
      ((seen later : List Piece) (piece : Piece) → pieces ≡ seen ++ piece ∷ later → InTime machine start put lines said seen piece) → (seen later : List Piece) (piece : Piece) →
      pieces ≡ seen ++ piece ∷ later → (more : List InputLine) × (lines ≡ map whole_line (whole_lines (bytes_of seen)) ++ more)
  in_time_pieces put lines said pieces in_time seen later piece split = let one = in_time seen later piece split in (one.others, one.lines_are)

  wants : (command : C) (old new : Reader) (first before between : Seen) → ReadFrom Text command old new first before between → machine.may_want command → Serves machine start status.NoMemory first between
  wants command old new first before between from may_want =
      serves_by status.NoMemory command old new Text first before between between All [] from (nothing_writes between)
      (no_take_failed command old new Text first before between between All [] refl from (nothing_writes between), no_put_failed command old new Text first before between between [] from (nothing_writes between))
      (λ was it input untaken read ahead. inl (record {
        first = read.lines;
        line = ahead.gives.0;
        rest = input_lines (remaining new untaken);
        there = here command old;
        divided = ahead.divided ∙ ap (λ (l : List InputLine). read.lines ++ l) ahead.gives.1.lines;
        answers = subst (λ (l : List ℕ). Answers machine (begins start) read.lines l (here command old)) (sym (append-nil read.said)) read.answers;
        comes = inl ahead.gives.1.comes;
        may_want = may_want;
        not_whole = in_time_pieces was.put read.lines read.said read.pieces read.in_time;
      }))

  -- there was no memory inside a line
  wants_inside : (command : C) (old new : Reader) (first before between : Seen) → ReadFrom OutOfMemory command old new first before between → machine.may_want command → Serves machine start status.NoMemory first between
  wants_inside command old new first before between from may_want =
      serves_by status.NoMemory command old new OutOfMemory first before between between All [] from (nothing_writes between)
      (no_take_failed command old new OutOfMemory first before between between All [] refl from (nothing_writes between), no_put_failed command old new OutOfMemory first before between between [] from (nothing_writes between))
      (λ was it input untaken read ahead.
      let inside = from.reads.wants refl in
      let filled : 0 < length new.kept = omega (arith, inside.long) in
      let grows = first_grows new.kept (if new.ended then [] else untaken) filled inside.undecided.no_line in
      let lines : input_lines (remaining old ahead.before) ≡ grows.first ∷ grows.others = ap (λ (bytes : List ℕ). input_lines bytes) (sym ahead.gives) ∙ grows.all_are in
      inl (record {
        first = read.lines;
        line = grows.first;
        rest = grows.others;
        there = here command old;
        divided = ahead.divided ∙ ap (λ (ls : List InputLine). read.lines ++ ls) lines;
        answers = subst (λ (l : List ℕ). Answers machine (begins start) read.lines l (here command old)) (sym (append-nil read.said)) read.answers;
        comes = inr (omega (arith, inside.long, grows.longer));
        may_want = may_want;
        not_whole = in_time_pieces was.put read.lines read.said read.pieces read.in_time;
      }))

  wanted_by : (line : Line) (command : C) (old new : Reader) (first before between : Seen) → (line ≡ Text) ⊎ (line ≡ OutOfMemory) → ReadFrom line command old new first before between → machine.may_want command
      → Serves machine start status.NoMemory first between
  wanted_by Text command old new first before between is from may_want = wants command old new first before between from may_want
  wanted_by OutOfMemory command old new first before between is from may_want = wants_inside command old new first before between from may_want
  wanted_by NoLine command old new first before between (inl is) from may_want = absurd (cc is)
  wanted_by NoLine command old new first before between (inr is) from may_want = absurd (cc is)
  wanted_by (TooLong n) command old new first before between (inl is) from may_want = absurd (cc is)
  wanted_by (TooLong n) command old new first before between (inr is) from may_want = absurd (cc is)
  wanted_by (TooMuch n) command old new first before between (inl is) from may_want = absurd (cc is)
  wanted_by (TooMuch n) command old new first before between (inr is) from may_want = absurd (cc is)
  wanted_by ReadFault command old new first before between (inl is) from may_want = absurd (cc is)
  wanted_by ReadFault command old new first before between (inr is) from may_want = absurd (cc is)

  -- a reply that was written ends the run so
  abbrev EndsSo : Status → Written → Turn C → Type 0
  EndsSo s written reply = Finish s ≡ after_written written reply

  answered : (line : Line) (written : Written) (s : Status) (command : C) (old new : Reader) (first before between after : Seen) (answer : List ℕ) (reply : Turn C) → is_read_fault line ≡ false →
      ReadFrom line command old new first before between → Writes between after written answer → ReplyTo machine command line new answer reply → EndsSo s written reply →
      Serves machine start s first after
  answered line All s command old new first before between after answer reply fault from writes replies is =
      let end = ended_reply line command new answer reply s fault replies is in
      let same : Finish (status.Ended end.0) ≡ reply = ap (λ (t : Status). let turn : Turn C = Finish t in turn) (sym end.1) ∙ is in
      subst (λ (t : Status). Serves machine start t first after) (sym end.1) (ends_whole end.0 command old new line first before between after answer reply fault from writes replies same)
  answered line (Part count) s command old new first before between after answer reply fault from writes replies is =
      let same : status.WriteFault ≡ s = cc is in
      subst (λ (t : Status). Serves machine start t first after) same (breaks_at_put command old new line first before between after count answer reply fault from writes replies)

  -- the last turn, by what the reader answered and what was put
  ends_by : (line : Line) (written : Written) (s : Status) (command : C) (old new : Reader) (first before between after : Seen) (answer : List ℕ) (reply : Turn C) → ReadFrom line command old new first before between
      → Writes between after written answer → ReplyTo machine command line new answer reply → EndsSo s written reply → Serves machine start s first after
  ends_by ReadFault All s command old new first before between after answer reply from writes replies is =
      let same : status.ReadFault ≡ s = cc (is, replies.1) in
      subst (λ (t : Status). Serves machine start t first after) same (breaks_at_take command old new first before between after from (subst (λ (a : List ℕ). Writes between after All a) replies.0 writes))
  ends_by ReadFault (Part count) s command old new first before between after answer reply from writes replies is =
      let same : status.WriteFault ≡ s = cc is in
      subst (λ (t : Status). Serves machine start t first after) same (breaks_at_both command old new first before between after count from (subst (λ (a : List ℕ). Writes between after (Part count) a) replies.0 writes))
  ends_by OutOfMemory written s command old new first before between after answer reply from writes replies is = absurd replies
  ends_by Text written s command old new first before between after answer reply from writes replies is = answered Text written s command old new first before between after answer reply refl from writes replies is
  ends_by NoLine written s command old new first before between after answer reply from writes replies is = answered NoLine written s command old new first before between after answer reply refl from writes replies is
  ends_by (TooLong n) written s command old new first before between after answer reply from writes replies is = answered (TooLong n) written s command old new first before between after answer reply refl from writes replies is
  ends_by (TooMuch n) written s command old new first before between after answer reply from writes replies is = answered (TooMuch n) written s command old new first before between after answer reply refl from writes replies is

  ends_wanted : (line : Line) (s : Status) (command : C) (old new : Reader) (first before between after : Seen) → ReadFrom line command old new first before between → WantedMemory machine command line (Finish s) between after
      → Serves machine start s first after
  ends_wanted line s command old new first before between after from wanted =
      let same : status.NoMemory ≡ s = cc (wanted.ends) in
      subst (λ (t : Status). Serves machine start t first after) same (subst (λ (a : Seen). Serves machine start status.NoMemory first a) (sym wanted.same)
      (wanted_by line command old new first before between wanted.at_line from wanted.may_want))

  ends_puts : (s : Status) (command : C) (old new : Reader) (first before after : Seen) (turn : OneTurn machine command old new (Finish s) before after)
      → WantedMemory machine command turn.line (Finish s) turn.between after ⊎ Replied machine command turn.line new (Finish s) turn.between after → IsServing command old first before → Serves machine start s first after
  ends_puts s command old new first before after turn (inl wanted) serving =
      ends_wanted turn.line s command old new first before turn.between after (record { serving = serving; reads = turn.reads; next = turn.next }) wanted
  ends_puts s command old new first before after turn (inr replied) serving =
      ends_by turn.line replied.written s command old new first before turn.between after replied.answer replied.reply (record { serving = serving; reads = turn.reads; next = turn.next }) replied.writes replied.replies replied.goes

  -- the last turn of a run
  pub serving_ends : (s : Status) (command : C) (old new : Reader) (first before after : Seen) → IsServing command old first before → OneTurn machine command old new (Finish s) before after → Serves machine start s first after
  serving_ends s command old new first before after serving turn = ends_puts s command old new first before after turn turn.puts serving

  -- no memory to begin with
  pub nothing_served : (now : Seen) → Serves machine start status.NoMemory now now
  nothing_served now = record {
    calls = (
      record { count = refl; place = WhereShown-same now.talk (λ was is. is.failed_take ≡ was.failed_take) (λ t. refl) },
      record {
        count = refl;
        place = WhereShown-same now.talk (λ was is. is.failed_put ≡ was.failed_put) (λ t. refl);
      },
    );
    prompt = WhereShown-same now.talk (IsPrompt machine start) (λ t. record {
      pieces = [];
      taken = sym (append-nil t.taken);
      promptly = λ seen later piece split. no_piece seen later piece (IsTakenPromptly machine start t t seen piece) split;
    });
    puts = WhereShown-same now.talk (λ was is. WhereShown now.left now.left (λ input untaken. Puts machine start status.NoMemory was is input untaken))
        (λ t. WhereShown-same now.left (λ input untaken. Puts machine start status.NoMemory t t input untaken)
        (λ input. record { pieces = []; put = []; taken = sym (append-nil t.taken); all = sym (append-nil t.put); puts = inr (refl, refl) }));
    shown = refl;
  }
