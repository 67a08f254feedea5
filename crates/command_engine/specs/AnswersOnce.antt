-- A command that reads a text and answers once what it says.
use Rattle.std.specs.Prelude.{◌≡◌, ℕ, List, []}
use Rattle.command_engine.specs.Machine.{Machine}
use Rattle.command_engine.specs.Readers.{Reader, Refusing, Outcome, Given, Faulty}
use Rattle.command_engine.specs.declared.endings.End.{End}
use Rattle.command_engine.specs.declared.machines.Flow.{Flow}
use Rattle.command_engine.specs.declared.machines.Flow.TheVariants as run
use Rattle.command_engine.specs.declared.line_texts.Parse.{Parse}
use Rattle.command_engine.specs.declared.line_texts.Parse.TheVariants.{Continue, Parsed, Refused}
use Rattle.command_engine.specs.declared.questions.AnswersOnce.{AnswersOnce}

-- a fault is answered by its line, and ends the run
abbrev pub Refuses : {F C : Type 0} → Refusing F → F → List ℕ → Flow C → Type 0
Refuses refusing fault answer flow = (answer ≡ refusing.line fault) × (flow ≡ run.Finish (refusing.end fault))

module _ {Q S V F : Type 0} (answers : Q → V → ℕ → List ℕ → End → Type 0) (reader : Reader S V F) (refusing : Refusing F) where
  -- the reply to what the line of this number brings of the text: nothing, the answer to its value, or the line of its fault
  abbrev pub RepliesToStep : Q → ℕ → Parse S V F → List ℕ → Flow (AnswersOnce Q S) → Type 0
  RepliesToStep question number (Continue text) answer flow = (answer ≡ []) × (flow ≡ run.Continue (record { question = question; text = text }))
  RepliesToStep question number (Parsed value) answer flow = (end : End) × (flow ≡ run.Finish end) × answers question value number answer end
  RepliesToStep question number (Refused fault) answer flow = Refuses refusing fault answer flow

  -- the command that is made of a question and a text: it may want memory at each line
  abbrev pub answers_once_machine : Machine (AnswersOnce Q S)
  answers_once_machine = record {
    longest = λ query. reader.longest query.text;
    takes = λ query number line answer flow. RepliesToStep query.question number (reader.reads query.text number line) answer flow;
    stops = λ query number stop answer end. (answer ≡ refusing.line (reader.stops query.text number stop))
        × (end ≡ refusing.end (reader.stops query.text number stop));
    may_want = λ query. Unit {0};
    spare_capacity = λ query. 0;
  }

  -- the answer to what a reading came to: that to its value, or the line of its first fault
  abbrev pub AnswersOutcome : Q → Outcome V F → List ℕ → End → Type 0
  AnswersOutcome question (Given value number spare_capacity rest) put end = answers question value number put end
  AnswersOutcome question (Faulty fault) put end = (put ≡ refusing.line fault) × (end ≡ refusing.end fault)
