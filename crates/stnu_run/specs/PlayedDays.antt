-- What `play` prints of a situation is what `run` acts by on the day with these durations.
use Rattle.std.specs.Prelude.{◌≡◌, ℕ, List, [], ◌∷◌, ◌++◌, codes}
use Rattle.texts.specs.Lines.{input_lines, lines}
use Rattle.net_model.specs.Network.{Plan}
use Rattle.net_model.specs.ShownForm.{shown_form}
use Rattle.event_stream.specs.EventText.{done}
use Rattle.execution_model.specs.Laws.{ended}
use Rattle.execution_model.specs.ShownStreams.{FitsAsShown}
use Rattle.execution_model.specs.Streams.{Listing}
use Rattle.command_engine.specs.declared.endings.End.TheVariants.{Done}
use Rattle.event_phase.specs.Day.{IsDay}
use Rattle.event_phase.specs.StatedDay.{PutsDayAsStated}
use Rattle.common_answers.specs.VerdictLines.{controllable_line}
use Rattle.input_texts.specs.PlanInput.{plan_in}
use Rattle.command_contracts.specs.declared.status.Status.{Status}
use Rattle.play_command.specs.PlayCommand.{play_syntax, times_text}
use Rattle.play_command.specs.PlayedSituation.{situation_of}
use Rattle.play_command.specs.Words.{SayPlay}
use Rattle.play_command.specs.declared.plan_day.PlayWords.{PlayWords}
use Rattle.run_command.specs.RunCommand.{RunForm, run_syntax}
use Rattle.run_command.specs.RunPromise.{plan_opens}
use Rattle.run_command.specs.Words.{SayRun}
use Rattle.stnu_run.specs.DefinedRuns.{DefinedRun}
use Rattle.stnu_run.specs.RunClaims.{RunClaim}

-- One schedule of a network: its moments are what was played, and its acts, with the due moments and the line of a day that is complete, are what was put for
-- these listings.
pub record ActsAsPlayed (net : Plan) (played : List ℕ) (listings : List Listing) (put : List ℕ) (status : Status) : Type 0 where
  pub schedule : List ℕ
  pub moments : played ≡ times_text net schedule
  pub acts : PutsDayAsStated net schedule [] listings put Done
  pub ends : status ≡ record { 0 = 0 }

-- Words of `play` put that the network of an input is controllable, and the moments of a situation. An input of `run` opens the execution of the same network,
-- and its lines of events, up to `done`, list what is shown of the earliest schedule of that situation. Then `run` acts by the schedule that was played.
abbrev pub PlayedDayIsActed : RunClaim
PlayedDayIsActed words input put status =
    (program other : List ℕ) (asked running : List (List ℕ)) (said : PlayWords) (query : RunForm) → words ≡ program ∷ codes "play" ∷ asked
    → SayPlay play_syntax said asked → SayRun run_syntax query running
    → (played : List ℕ) → put ≡ controllable_line ++ played → (net : Plan) (rest : List (List ℕ)) → (plan_in said.form).declares (lines input) net rest
    → (events : List ℕ) (listings : List Listing) → IsDay (plan_opens query) (input_lines events) (shown_form net) listings done
    → FitsAsShown net (ended listings) (situation_of said.which net)
    → (acted : List ℕ) (ending : Status) → DefinedRun (other ∷ codes "run" ∷ running) events acted ending → ActsAsPlayed net played listings acted ending
