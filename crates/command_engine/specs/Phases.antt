-- A text, and after it a phase that begins from what it says.
use Rattle.std.specs.Prelude.{◌≡◌, ℕ, List, [], ◌++◌}
use Rattle.texts.specs.Lines.{InputLine}
use Rattle.command_engine.specs.Machine.{Machine}
use Rattle.command_engine.specs.Runs.{Run}
use Rattle.command_engine.specs.Readers.{Reader, Refusing, Outcome, Given, Faulty}
use Rattle.command_engine.specs.AnswersOnce.{Refuses}
use Rattle.command_engine.specs.declared.endings.End.{End}
use Rattle.command_engine.specs.declared.machines.Stop.{Stop}
use Rattle.command_engine.specs.declared.machines.Flow.{Flow}
use Rattle.command_engine.specs.declared.machines.Flow.TheVariants as run
use Rattle.command_engine.specs.declared.line_texts.Parse.{Parse}
use Rattle.command_engine.specs.declared.line_texts.Parse.TheVariants.{Continue, Parsed, Refused}
use Rattle.command_engine.specs.declared.phases.TextThenPhase.{TextThenPhase}
use Rattle.command_engine.specs.declared.phases.TextThenPhase.TheVariants.{Reading, Serving}

-- how a command goes on that wraps another
abbrev pub wrapped : {C D : Type 0} → (C → D) → Flow C → Flow D
wrapped wrap (run.Continue state) = run.Continue (wrap state)
wrapped wrap (run.Finish end) = run.Finish end

-- the reply of a command within another, which wraps its states
abbrev pub Within : {C D : Type 0} → (C → D) → (List ℕ → Flow C → Type 0) → List ℕ → Flow D → Type 0
Within {C} wrap Inner answer flow = (inner : Flow C) × Inner answer inner × (flow ≡ wrapped wrap inner)

-- no state of the command wants memory
abbrev pub WantsNone : {C : Type 0} → Machine C → Type 0
WantsNone {C} machine = (state : C) → ¬ machine.may_want state

module _ {B S V F P : Type 0} (begin : B → V → List ℕ → Flow P → Type 0) (reader : Reader S V F) (refusing : Refusing F) (phase : Machine P) where
  -- the reply to what a line of the text brings: nothing, the beginning of the phase, or the line of its fault
  abbrev pub RepliesToStep : B → Parse S V F → List ℕ → Flow (TextThenPhase B S P) → Type 0
  RepliesToStep start (Continue text) answer flow = (answer ≡ []) × (flow ≡ run.Continue (Reading start text))
  RepliesToStep start (Parsed value) answer flow = Within Serving (begin start value) answer flow
  RepliesToStep start (Refused fault) answer flow = Refuses refusing fault answer flow

  abbrev pub longest_of : TextThenPhase B S P → ℕ
  longest_of (Reading start text) = reader.longest text
  longest_of (Serving state) = phase.longest state

  abbrev pub Takes : TextThenPhase B S P → ℕ → List ℕ → List ℕ → Flow (TextThenPhase B S P) → Type 0
  Takes (Reading start text) number line answer flow = RepliesToStep start (reader.reads text number line) answer flow
  Takes (Serving state) number line answer flow = Within Serving (phase.takes state number line) answer flow

  abbrev pub Stops : TextThenPhase B S P → ℕ → Stop → List ℕ → End → Type 0
  Stops (Reading start text) number stop answer end =
      (answer ≡ refusing.line (reader.stops text number stop)) × (end ≡ refusing.end (reader.stops text number stop))
  Stops (Serving state) number stop answer end = phase.stops state number stop answer end

  -- the reading may want memory, and the phase if it may
  abbrev pub MayWant : TextThenPhase B S P → Type 0
  MayWant (Reading start text) = Unit {0}
  MayWant (Serving state) = phase.may_want state

  abbrev pub capacity_of : TextThenPhase B S P → ℕ
  capacity_of (Reading start text) = 0
  capacity_of (Serving state) = phase.spare_capacity state

  -- the command that reads a text and then serves the phase that begins from what it says
  abbrev pub text_then_phase_machine : Machine (TextThenPhase B S P)
  text_then_phase_machine = record { longest = longest_of; takes = Takes; stops = Stops; may_want = MayWant; spare_capacity = capacity_of }

  -- a run of the phase after the beginning, over these lines, or the end
  abbrev pub GoesOn : Flow P → (number spare_capacity : ℕ) → List InputLine → List ℕ → End → Type 0
  GoesOn (run.Continue state) number spare_capacity rest put end =
      Run phase (record { state = state; number = number; spare_capacity = spare_capacity }) rest put end
  GoesOn (run.Finish other) number spare_capacity rest put end = (put ≡ []) × (end ≡ other)

  -- What follows on what a reading came to: the beginning from its value, and then a run of the phase over the lines that are
  -- left; or the line of its first fault.
  abbrev pub FollowsOutcome : B → Outcome V F → List ℕ → End → Type 0
  FollowsOutcome start (Given value number spare_capacity rest) put end =
      (answer : List ℕ) × (more : List ℕ) × (flow : Flow P) × begin start value answer flow × (put ≡ answer ++ more)
      × GoesOn flow number spare_capacity rest more end
  FollowsOutcome start (Faulty fault) put end = (put ≡ refusing.line fault) × (end ≡ refusing.end fault)
