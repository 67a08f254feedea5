-- The table of the program's commands, and what it means that words are refused.
use Rattle.std.specs.Prelude.{◌≡◌, ◌⊎◌, ◌↔◌, [], ◌∷◌, codes, ℕ, List, Bool, true, false}
use Rattle.std.specs.Str.{bytes_eq}
use Rattle.plan_port.specs.Talk.{Seen}
use Rattle.check_command.specs.CheckAnswers.{check_syntax}
use Rattle.stnu_run.specs.DefinedRuns.{program_of, strong_word}
use Rattle.play_command.specs.ForgeCommand.{forge_syntax}
use Rattle.judge_command.specs.JudgeAnswers.{judge_syntax}
use Rattle.play_command.specs.PlayCommand.{play_syntax}
use Rattle.run_command.specs.RunCommand.{RunForm, run_syntax}
use Rattle.run_command.specs.Words.{SayRun}
use Rattle.session_command.specs.Sessions.{session_syntax}
use Rattle.show_command.specs.ShowAnswers.{show_syntax}
use Rattle.command_contracts.specs.Statuses.{IsRefusal, StatusHasCause}
use Rattle.command_contracts.specs.PlanWords.{SayFormAndWorkers}
use Rattle.check_command.specs.Words.{SayCheckFlags}
use Rattle.play_command.specs.Words.{SayForge, SayPlay}
use Rattle.show_command.specs.Words.{SayForms}
use Rattle.judge_command.specs.Words.{SayJudge}
use Rattle.check_command.specs.declared.check_question.CheckFlags.{CheckFlags}
use Rattle.play_command.specs.declared.forged_network.ForgeWords.{ForgeWords}
use Rattle.judge_command.specs.declared.judge_question.Judge.{Judge}
use Rattle.input_texts.specs.declared.plan_input.PlanForm.{PlanForm}
use Rattle.play_command.specs.declared.plan_day.PlayWords.{PlayWords}
use Rattle.show_command.specs.declared.show_question.Show.{Show}
use Rattle.command_contracts.specs.declared.status.Status.{Status}
use Rattle.fleet_command.specs.declared.fleet_question.FleetQuestion.{FleetQuestion}
use Rattle.strong_command.specs.StrongAnswers.{SayStrong}
use Rattle.strong_command.specs.declared.strong_question.StrongQuestion.{StrongQuestion}
use Rattle.deadline_command.specs.DeadlineAnswers.{deadline_syntax}
use Rattle.deadline_command.specs.Words.{SayDeadline}
use Rattle.deadline_command.specs.declared.points.DeadlineWords.{DeadlineWords}

-- the one if this is so, else the other
infixr 5 when◌these◌else◌
abbrev pub when◌these◌else◌ : Bool → Type 0 → Type 0 → Type 0
when true these one else other = one
when false these one else other = other

-- These are the words of a command after its own: they spell its uses, as its line of the table says, and the values of its options are such
-- as it takes.
abbrev pub AreOfCommand : (command : List ℕ) (words : List (List ℕ)) → Type 0
AreOfCommand command words =
    when bytes_eq command (codes "judge") these ((judge : Judge) × SayJudge judge_syntax judge words)
    else when bytes_eq command (codes "check") these ((flags : CheckFlags) × SayCheckFlags check_syntax flags words)
    else when bytes_eq command (codes "run") these ((query : RunForm) × SayRun run_syntax query words)
    else when bytes_eq command (codes "session") these ((form : PlanForm) × SayFormAndWorkers session_syntax form words)
    else when bytes_eq command (codes "show") these ((show : Show) × SayForms show_syntax show words)
    else when bytes_eq command (codes "play") these ((said : PlayWords) × SayPlay play_syntax said words)
    else when bytes_eq command strong_word these ((query : StrongQuestion) × SayStrong query words)
    else when bytes_eq command (codes "deadline") these ((said : DeadlineWords) × SayDeadline deadline_syntax said words)
    else when bytes_eq command (codes "fleet") these ((query : FleetQuestion) × (words ≡ []))
    else when bytes_eq command (codes "forge") these ((said : ForgeWords) × SayForge forge_syntax said words)
    else ⊥

-- words are in the table: the first is the program's name, the second that of a command, and those after it are that command's
abbrev pub AreInTable : List (List ℕ) → Type 0
AreInTable (program ∷ command ∷ words) = AreOfCommand command words
AreInTable others = ⊥

abbrev pub WordsAreRefusedOutsideTheTable : Type 0
WordsAreRefusedOutsideTheTable = (words : List (List ℕ)) → IsRefusal (program_of words) ↔ ¬ AreInTable words

-- 2 comes only of words that are not in the table; and of these comes 2, or 6, or 8
pub record RefusesOutside (words : List (List ℕ)) (status : Status) : Type 0 where
  pub only : status.0 ≡ 2 → ¬ AreInTable words
  pub there : ¬ AreInTable words → (status.0 ≡ 2) ⊎ ((status.0 ≡ 6) ⊎ (status.0 ≡ 8))

abbrev pub RunsRefuseExactlyWordsOutsideTheTable : Type 0
RunsRefuseExactlyWordsOutsideTheTable =
    (words : List (List ℕ)) (status : Status) (before after : Seen) → StatusHasCause (program_of words) status before after → RefusesOutside words status
