-- What one turn of a run did over a port. No public clause cites this module.
use Rattle.std.specs.Prelude.{◌≡◌, ◌⊎◌, ℕ, ◌+◌, ◌≤◌, List}
use Rattle.plan_port.specs.Talk.{Seen, WhereShown}
use Rattle.plan_port.specs.WrittenBytes.{Writes}
use Rattle.plan_port.specs.Reader.{Reader, ReadsNext, GivesNext}
use Rattle.plan_port.specs.declared.lines.Line.{Line}
use Rattle.plan_port.specs.declared.lines.Line.TheVariants.{Text, TooLong, TooMuch, ReadFault, OutOfMemory}
use Rattle.plan_port.specs.declared.lines.Line.TheVariants.{End as NoLine}
use Rattle.plan_port.specs.declared.written_bytes.Written.{Written}
use Rattle.plan_port.specs.declared.written_bytes.Written.TheVariants.{All, Part}
use Rattle.command_engine.specs.Machine.{Machine}
use Rattle.command_engine.specs.Breaks.{read_fault_line}
use Rattle.command_engine.specs.declared.endings.End.{End}
use Rattle.command_engine.specs.declared.endings.Status.TheVariants as status
use Rattle.command_engine.specs.declared.machines.Flow.{Flow}
use Rattle.command_engine.specs.declared.machines.Flow.TheVariants as flow
use Rattle.command_engine.specs.declared.machines.Stop.{Stop}
use Rattle.command_engine.specs.declared.machines.Stop.TheVariants.{LineTooLong, InputTooMuch, InputEnded}
use Rattle.command_engine.specs.declared.run_loop.Turn.{Turn}
use Rattle.command_engine.specs.declared.run_loop.Turn.TheVariants.{Continue, Finish}

-- a turn as the command goes on
abbrev pub turn_of : {C : Type 0} → Flow C → Turn C
turn_of (flow.Continue state) = Continue state
turn_of (flow.Finish end) = Finish (status.Ended end)

-- a turn after the writing of its answer: a failed put ends the run
abbrev pub after_written : {C : Type 0} → Written → Turn C → Turn C
after_written All turn = turn
after_written (Part count) turn = Finish status.WriteFault

module _ {C : Type 0} (machine : Machine C) where
  -- the buffer of the answers has the capacity that the next state needs
  abbrev pub TurnHasCapacity : Turn C → ℕ → Type 0
  TurnHasCapacity (Continue state) capacity = machine.spare_capacity state ≤ capacity
  TurnHasCapacity (Finish status) capacity = Unit {0}

  -- the reply if no line comes, by the number of the line that was begun
  abbrev pub StopsTurn : C → ℕ → Stop → List ℕ → Turn C → Type 0
  StopsTurn command number stop answer turn =
      (end : End) × (turn ≡ Finish (status.Ended end)) × machine.stops command number stop answer end

  -- the reply to what the reader answered
  abbrev pub ReplyTo : C → Line → Reader → List ℕ → Turn C → Type 0
  ReplyTo command Text reader answer turn =
      (flow : Flow C) × (turn ≡ turn_of flow) × machine.takes command reader.number reader.text answer flow
  ReplyTo command NoLine reader answer turn = StopsTurn command (reader.number + 1) InputEnded answer turn
  ReplyTo command (TooLong _) reader answer turn = StopsTurn command reader.number LineTooLong answer turn
  ReplyTo command (TooMuch _) reader answer turn = StopsTurn command reader.number InputTooMuch answer turn
  ReplyTo command ReadFault reader answer turn = (answer ≡ read_fault_line) × (turn ≡ Finish status.ReadFault)
  ReplyTo command OutOfMemory reader answer turn = ⊥

  -- at a line, or inside one, there was no memory, and nothing was put
  pub record WantedMemory (command : C) (line : Line) (turn : Turn C) (before after : Seen) : Type 0 where
    pub at_line : (line ≡ Text) ⊎ (line ≡ OutOfMemory)
    pub may_want : machine.may_want command
    pub ends : turn ≡ Finish status.NoMemory
    pub same : after ≡ before

  -- a reply was put, or a part of it
  pub record Replied (command : C) (line : Line) (reader : Reader) (turn : Turn C) (before after : Seen) : Type 0 where
    pub answer : List ℕ
    pub reply : Turn C
    pub written : Written
    pub replies : ReplyTo command line reader answer reply
    pub writes : Writes before after written answer
    pub goes : turn ≡ after_written written reply

  -- one turn: the reader read on, and then the reply to its answer was put
  pub record OneTurn (command : C) (old new : Reader) (turn : Turn C) (before after : Seen) : Type 0 where
    pub line : Line
    pub between : Seen
    pub reads : ReadsNext (machine.longest command) old new line before between
    pub next : WhereShown before.left between.left (λ was is. GivesNext (machine.longest command) old new line was is)
    pub puts : WantedMemory command line turn between after ⊎ Replied command line new turn between after
