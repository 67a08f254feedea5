-- A plan that `show` puts has the same answers as the plan of the input.
use Rattle.std.specs.Prelude.{◌≡◌, ◌↔◌, ℕ, ◌≤◌, List, ◌∷◌, codes, length}
use Rattle.input_texts.specs.DocumentSoFar.{most_document}
use Rattle.input_texts.specs.declared.plan_input.PlanForm.{PlanForm}
use Rattle.command_contracts.specs.Programs.{Defines}
use Rattle.command_contracts.specs.declared.status.Status.{Status}
use Rattle.check_command.specs.CheckAnswers.{check_syntax}
use Rattle.check_command.specs.Words.{SayCheckFlags}
use Rattle.check_command.specs.declared.check_question.CheckFlags.{CheckFlags}
use Rattle.check_command.specs.declared.engine.Engine.TheVariants.{Rounds}
use Rattle.play_command.specs.PlayCommand.{play_syntax}
use Rattle.play_command.specs.Words.{SayPlay}
use Rattle.play_command.specs.declared.plan_day.PlayWords.{PlayWords}
use Rattle.show_command.specs.ShowAnswers.{show_syntax}
use Rattle.show_command.specs.Words.{SayForms}
use Rattle.show_command.specs.declared.show_question.Show.{Show}
use Rattle.strong_command.specs.StrongAnswers.{SayStrong}
use Rattle.strong_command.specs.declared.strong_question.StrongQuestion.{StrongQuestion}
use Rattle.stnu_run.specs.DefinedRuns.{program_of, strong_word}
use Rattle.stnu_run.specs.RunClaims.{RunClaim}

-- the bytes and the status that some words define for an input are those that others define for another
abbrev pub DefineAlike : (words others : List (List ℕ)) (input again : List ℕ) → Type 0
DefineAlike words others input again =
    (put : List ℕ) (status : Status) → Defines (program_of words) input put status ↔ Defines (program_of others) again put status

-- one form has the notation in which `show` reads, the other that in which it puts, and the delay is the same
pub record AreFormsOf (show : Show) (one other : PlanForm) : Type 0 where
  pub read : one.notation ≡ show.form.notation
  pub put : other.notation ≡ show.print
  pub delay : one.delay ≡ other.delay

-- For what is put each of these commands defines what it defines for the input, if it is asked the same of the other notation. `check` may be asked for a
-- proof, and for another delay, but not for the engine of cells, whose limit is reported by the number of a line.
pub record HasSameAnswers (show : Show) (input put : List ℕ) : Type 0 where
  pub check : (program other : List ℕ) (asked also : List (List ℕ)) (flags others : CheckFlags) → SayCheckFlags check_syntax flags asked
      → SayCheckFlags check_syntax others also → AreFormsOf show flags.form others.form → flags.proof ≡ others.proof
      → flags.engine ≡ Rounds → others.engine ≡ Rounds
      → DefineAlike (program ∷ codes "check" ∷ asked) (other ∷ codes "check" ∷ also) input put
  pub strong : (program other : List ℕ) (asked also : List (List ℕ)) (query others : StrongQuestion) → SayStrong query asked → SayStrong others also
      → AreFormsOf show query.form others.form → DefineAlike (program ∷ strong_word ∷ asked) (other ∷ strong_word ∷ also) input put
  pub play : (program other : List ℕ) (asked also : List (List ℕ)) (said others : PlayWords) → SayPlay play_syntax said asked → SayPlay play_syntax others also
      → AreFormsOf show said.form others.form → said.which ≡ others.which
      → DefineAlike (program ∷ codes "play" ∷ asked) (other ∷ codes "play" ∷ also) input put
  pub show_again : (program other : List ℕ) (asked also : List (List ℕ)) (query others : Show) → SayForms show_syntax query asked
      → SayForms show_syntax others also → AreFormsOf show query.form others.form → query.print ≡ others.print
      → DefineAlike (program ∷ codes "show" ∷ asked) (other ∷ codes "show" ∷ also) input put

-- so it is of what words of `show` put with status 0, if that is no more than a document may be
abbrev pub ShownPlanHasSameAnswers : RunClaim
ShownPlanHasSameAnswers words input put status =
    (program : List ℕ) (asked : List (List ℕ)) (show : Show) → words ≡ program ∷ codes "show" ∷ asked → SayForms show_syntax show asked
    → status ≡ record { 0 = 0 } → length put ≤ most_document → HasSameAnswers show input put
