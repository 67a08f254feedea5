-- What `play` prints of a situation is what `run` acts by on the day with these durations.
use Rattle.std.proofs.Common.{◌≡◌, ◌↔◌, ℕ, List, [], Some, ap, ◌∙◌, subst}
use Rattle.texts.specs.Lines.{input_lines, lines}
use Rattle.net_model.specs.Network.{IsPlan, Plan}
use Rattle.net_model.specs.ShownForm.{shown_form}
use Rattle.strategy_model.specs.Laws.{AtMostOneEarliest}
use Rattle.event_stream.specs.EventText.{done}
use Rattle.execution_model.specs.Laws.{ended}
use Rattle.execution_model.specs.ShownStreams.{FitsAsShown}
use Rattle.execution_model.specs.Streams.{Listing}
use Rattle.command_engine.specs.Endings.{end_number}
use Rattle.command_engine.specs.declared.endings.End.{End}
use Rattle.event_phase.specs.Day.{IsDay}
use Rattle.event_phase.specs.StatedDay.{PutsDayAsStated}
use Rattle.input_texts.proofs.PlanInputLemmas.{input_sound}
use Rattle.command_contracts.specs.Programs.{Defines, Program, PromiseHolds}
use Rattle.command_contracts.specs.Requests.{program_of_request, requested_by}
use Rattle.command_contracts.specs.declared.status.Status.{Status}
use Rattle.play_command.specs.PlayCommand.{play_request, play_syntax, times_text}
use Rattle.play_command.specs.PlayPromise.{AreEarliestTimes, play_program}
use Rattle.play_command.specs.PlayedSituation.{situation_of}
use Rattle.play_command.specs.Words.{SayPlay}
use Rattle.play_command.specs.declared.plan_day.PlayWords.{PlayWords}
use Rattle.play_command.specs.declared.which_situation.WhichSituation.{WhichSituation}
use Rattle.run_command.specs.RunCommand.{RunForm, run_request, run_syntax}
use Rattle.run_command.specs.RunPromise.{RunPromise, plan_opens, run_program}
use Rattle.run_command.specs.Words.{SayRun}
use Rattle.stnu_run.specs.DefinedRuns.{DefinedRun}
use Rattle.stnu_run.specs.PlayedDays.{ActsAsPlayed, PlayedDayIsActed}
use Rattle.stnu_run.specs.RunClaims.{HoldsOfDefinedRuns}

-- a day that is whole ends so, and its acts are put first
acts_by : (law : AtMostOneEarliest) (which : WhichSituation) (net : Plan) (played : List ℕ) → AreEarliestTimes which net played → IsPlan net
    → (query : RunForm) (events acted : List ℕ) (end : End) (ending : Status) → RunPromise query events acted end → ending ≡ record { 0 = end_number end }
    → (listings : List Listing) → IsDay (plan_opens query) (input_lines events) (shown_form net) listings done → FitsAsShown net (ended listings) (situation_of which net) → ActsAsPlayed net played listings acted ending
acts_by law which net played times sound query events acted end ending promise is listings day fits =
    let puts = (promise.execution.stated.executes net listings (situation_of which net) sound day fits).1 in
    let same = law net (situation_of which net) times.schedule fits.schedule times.earliest fits.earliest in
    let nothing = day.underway.lines.opened.3 in
    record {
      schedule = fits.schedule;
      moments = times.is ∙ ap (λ (s : List ℕ). times_text net s) same;
      acts = subst (λ (e : End). PutsDayAsStated net fits.schedule [] listings acted e) puts.ends
          (subst (λ (before : List ℕ). PutsDayAsStated net fits.schedule before listings acted end) nothing puts);
      ends = is ∙ ap (λ (e : End). let s : Status = record { 0 = end_number e } in s) puts.ends;
    }

pub played_day_is_acted : ((said : PlayWords) → PromiseHolds (play_program said)) → ((query : RunForm) → PromiseHolds (run_program query)) → AtMostOneEarliest
    → ((words : List (List ℕ)) (said : PlayWords) → requested_by play_syntax play_request words ≡ Some said ↔ SayPlay play_syntax said words)
    → ((words : List (List ℕ)) (query : RunForm) → requested_by run_syntax run_request words ≡ Some query ↔ SayRun run_syntax query words) → HoldsOfDefinedRuns PlayedDayIsActed
played_day_is_acted plays runs law play_words run_words words input put status defines program other asked running said query named say also played same net rest declared events listings day fits acted ending acting =
    let (end, is, made) = subst (λ (one : Program). Defines one input put status) (ap (program_of_request play_program) ((play_words asked said).1 say)) (subst (λ (ws : List (List ℕ)). DefinedRun ws input put status) named defines) in
    let (run_end, run_is, ran) = subst (λ (one : Program). Defines one events acted ending) (ap (program_of_request run_program) ((run_words running query).1 also)) acting in
    acts_by law said.which net played ((plays said input put end made).times played same net rest declared) (input_sound said.form (lines input) net rest declared) query events acted run_end ending
    (runs query events acted run_end ran) run_is listings day fits
