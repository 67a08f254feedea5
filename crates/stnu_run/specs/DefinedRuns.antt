-- The commands of the program by their words, and the defined run: what the program puts for words and an input.
use Rattle.std.specs.Prelude.{ℕ, List, ◌∷◌, codes, Option, Some, None}
use Rattle.std.specs.Str.{bytes_eq}
use Rattle.check_command.specs.CheckPromise.{check_program}
use Rattle.check_command.specs.CheckAnswers.{check_request, check_syntax}
use Rattle.play_command.specs.ForgeCommand.{forge_request, forge_program, forge_syntax}
use Rattle.judge_command.specs.JudgePromise.{judge_program}
use Rattle.judge_command.specs.JudgeAnswers.{judge_request, judge_syntax}
use Rattle.play_command.specs.PlayPromise.{play_program}
use Rattle.play_command.specs.PlayCommand.{play_request, play_syntax}
use Rattle.run_command.specs.RunPromise.{run_program}
use Rattle.run_command.specs.RunCommand.{run_request, run_syntax}
use Rattle.show_command.specs.ShowAnswers.{show_request, show_program, show_syntax}
use Rattle.command_contracts.specs.Programs.{Program, Defines, when◌run◌else◌}
use Rattle.fleet_command.specs.FleetCommand.{fleet_request, fleet_syntax}
use Rattle.fleet_command.specs.FleetPromise.{fleet_program}
use Rattle.command_contracts.specs.Requests.{program_by, refuses_words}
use Rattle.session_command.specs.SessionPromise.{session_program}
use Rattle.session_command.specs.Sessions.{session_request, session_syntax}
use Rattle.command_contracts.specs.declared.status.Status.{Status}
use Rattle.strong_command.specs.StrongAnswers.{strong_request, strong_program, strong_syntax}
use Rattle.deadline_command.specs.DeadlineAnswers.{deadline_request, deadline_syntax}
use Rattle.deadline_command.specs.DeadlinePromise.{deadline_program}

-- the word of the command `strong`
abbrev pub strong_word : List ℕ
strong_word = codes "strong"

-- the program of the word of a command and the words after it
abbrev pub program_named : List ℕ → List (List ℕ) → Program
program_named command words =
    when bytes_eq command (codes "judge") run program_by judge_syntax judge_request judge_program words
    else when bytes_eq command (codes "check") run program_by check_syntax check_request check_program words
    else when bytes_eq command (codes "run") run program_by run_syntax run_request run_program words
    else when bytes_eq command (codes "session") run program_by session_syntax session_request session_program words
    else when bytes_eq command (codes "show") run program_by show_syntax show_request show_program words
    else when bytes_eq command (codes "play") run program_by play_syntax play_request play_program words
    else when bytes_eq command strong_word run program_by strong_syntax strong_request strong_program words
    else when bytes_eq command (codes "deadline") run program_by deadline_syntax deadline_request deadline_program words
    else when bytes_eq command (codes "fleet") run program_by fleet_syntax fleet_request fleet_program words
    else when bytes_eq command (codes "forge") run program_by forge_syntax forge_request forge_program words
    else refuses_words

-- the word of the command and the words after it: the first word is the program's name, the second that of the command
abbrev pub command_of : List (List ℕ) → Option (List ℕ × List (List ℕ))
command_of (program ∷ command ∷ words) = Some (command, words)
command_of others = None

abbrev pub program_for : Option (List ℕ × List (List ℕ)) → Program
program_for (Some (command, words)) = program_named command words
program_for None = refuses_words

-- the program of the words
abbrev pub program_of : List (List ℕ) → Program
program_of words = program_for (command_of words)

-- the defined run: the bytes and the exit status for the words and an input
abbrev pub DefinedRun : (words : List (List ℕ)) (input put : List ℕ) → Status → Type 0
DefinedRun words input put status = Defines (program_of words) input put status
