-- The run of a command over the lines of an input.
use Rattle.std.specs.Prelude.{◌≡◌, ℕ, ◌+◌, ◌-◌, List, [], ◌∷◌, ◌++◌, map}
use Rattle.texts.specs.Lines.{InputLine, input_lines, whole_lines, unfinished, whole_line, open_line, line_size}
use Rattle.plan_port.specs.Lines.{Coming, Comes, TooLong, TooMuch, coming}
use Rattle.command_engine.specs.Limits.{most_input}
use Rattle.command_engine.specs.Machine.{Machine}
use Rattle.command_engine.specs.declared.endings.End.{End}
use Rattle.command_engine.specs.declared.machines.Flow.{Flow}
use Rattle.command_engine.specs.declared.machines.Flow.TheVariants.{Continue, Finish}
use Rattle.command_engine.specs.declared.machines.Stop.{Stop}
use Rattle.command_engine.specs.declared.machines.Stop.TheVariants.{LineTooLong, InputTooMuch, InputEnded}

-- where a run stands: the state of the command, how many lines have come, and how many bytes the input may still have
pub record Here (C : Type 0) : Type 0 where
  pub state : C
  pub number : ℕ
  pub spare_capacity : ℕ

-- where a run begins
abbrev pub begins : {C : Type 0} → C → Here C
begins start = record { state = start; number = 0; spare_capacity = most_input }

-- where a run stands after a line, from which the command goes on by this state
abbrev pub after_line : {C : Type 0} → Here C → InputLine → C → Here C
after_line here line state =
    record { state = state; number = here.number + 1; spare_capacity = here.spare_capacity - line_size line }

module _ {C : Type 0} (machine : Machine C) where
  -- what comes of a line here
  abbrev pub coming_at : Here C → InputLine → Coming
  coming_at here line = coming (machine.longest here.state) here.spare_capacity line

  -- the reply if no line comes
  abbrev pub Stops : Here C → Stop → List ℕ → Flow C → Type 0
  Stops here stop answer flow =
      (end : End) × (flow ≡ Finish end) × machine.stops here.state (here.number + 1) stop answer end

  -- the reply to a line, by what comes of it
  abbrev pub RepliesTo : Coming → Here C → List ℕ → List ℕ → Flow C → Type 0
  RepliesTo Comes here text answer flow = machine.takes here.state (here.number + 1) text answer flow
  RepliesTo TooLong here text answer flow = Stops here LineTooLong answer flow
  RepliesTo TooMuch here text answer flow = Stops here InputTooMuch answer flow

  -- the reply to what comes first, if these lines are still to come: an answer, and how the run goes on
  abbrev pub Replies : Here C → List InputLine → List ℕ → Flow C → Type 0
  Replies here [] answer flow = Stops here InputEnded answer flow
  Replies here (line ∷ rest) answer flow = RepliesTo (coming_at here line) here line.text answer flow

  -- these lines are answered by these bytes, one line after another, and then the run stands there
  abbrev pub Answers : Here C → List InputLine → List ℕ → Here C → Type 0
  Answers here [] said there = (said ≡ []) × (here ≡ there)
  Answers here (line ∷ lines) said there =
      (answer : List ℕ) × (more : List ℕ) × (state : C)
      × Replies here (line ∷ lines) answer (Continue state)
      × (said ≡ answer ++ more)
      × Answers (after_line here line state) lines more there

  -- a run from here over these lines: the first of them are answered, and the reply to what comes then ends the run
  pub record Run (here : Here C) (lines : List InputLine) (put : List ℕ) (end : End) : Type 0 where
    pub first : List InputLine
    pub rest : List InputLine
    pub said : List ℕ
    pub there : Here C
    pub last : List ℕ
    pub divided : lines ≡ first ++ rest
    pub answers : Answers here first said there
    pub ends : Replies there rest last (Finish end)
    pub all : put ≡ said ++ last

  -- a run of a command over an input puts these bytes and ends so
  abbrev pub Runs : C → (input put : List ℕ) → End → Type 0
  Runs start input put end = Run (begins start) (input_lines input) put end

  -- the whole lines of these first bytes of an input were answered, and the bytes after them decide nothing
  pub record Answered (start : C) (taken said : List ℕ) : Type 0 where
    pub there : Here C
    pub answers : Answers (begins start) (map whole_line (whole_lines taken)) said there
    pub undecided : coming_at there (open_line (unfinished taken)) ≡ Comes
