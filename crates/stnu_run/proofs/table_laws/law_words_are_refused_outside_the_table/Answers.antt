use Rattle.std.proofs.Common.{codes}
use Rattle.std.specs.Str.{bytes_eq}
use Rattle.check_command.specs.CheckPromise.{check_program}
use Rattle.check_command.specs.CheckAnswers.{check_request, check_syntax}
use Rattle.play_command.specs.ForgeCommand.{forge_request, forge_program, forge_syntax}
use Rattle.judge_command.specs.JudgePromise.{judge_program}
use Rattle.judge_command.specs.JudgeAnswers.{judge_request, judge_syntax}
use Rattle.play_command.specs.PlayPromise.{play_program}
use Rattle.play_command.specs.PlayCommand.{play_request, play_syntax}
use Rattle.command_contracts.specs.Requests.{requested_by}
use Rattle.deadline_command.specs.DeadlineAnswers.{deadline_request, deadline_syntax}
use Rattle.deadline_command.specs.DeadlinePromise.{deadline_program}
use Rattle.fleet_command.specs.FleetCommand.{fleet_request, fleet_syntax}
use Rattle.fleet_command.specs.FleetPromise.{fleet_program}
use Rattle.run_command.specs.RunPromise.{run_program}
use Rattle.run_command.specs.RunCommand.{run_request, run_syntax}
use Rattle.session_command.specs.SessionPromise.{session_program}
use Rattle.session_command.specs.Sessions.{session_request, session_syntax}
use Rattle.show_command.specs.ShowAnswers.{show_request, show_program, show_syntax}
use Rattle.stnu_run.specs.DefinedRuns.{strong_word}
use Rattle.strong_command.specs.StrongAnswers.{strong_request, strong_program, strong_syntax}
use Rattle.stnu_run.proofs.TableLemmas.{requests_exactly, chosen_exactly, forged_is_none, refused_exactly, served_is_none, words_exactly}
use Rattle.stnu_run.proofs.table_laws.law_words_are_refused_outside_the_table.Goals as goal

pub returns : goal.returns
returns c = words_exactly (λ command words.
    let judge = requests_exactly judge_program (requested_by judge_syntax judge_request words) _ (λ one. served_is_none (judge_program one) tt) (c.law_judge_is_read_exactly.ensures words) in
    let check = requests_exactly check_program (requested_by check_syntax check_request words) _ (λ one. served_is_none (check_program one) tt) (c.law_check_is_read_exactly.ensures words) in
    let run = requests_exactly run_program (requested_by run_syntax run_request words) _ (λ one. served_is_none (run_program one) tt) (c.law_run_is_read_exactly.ensures words) in
    let session = requests_exactly session_program (requested_by session_syntax session_request words) _ (λ one. served_is_none (session_program one) tt) (c.law_session_is_read_exactly.ensures words) in
    let show = requests_exactly show_program (requested_by show_syntax show_request words) _ (λ one. served_is_none (show_program one) tt) (c.law_show_is_read_exactly.ensures words) in
    let play = requests_exactly play_program (requested_by play_syntax play_request words) _ (λ one. served_is_none (play_program one) tt) (c.law_play_is_read_exactly.ensures words) in
    let strong = requests_exactly strong_program (requested_by strong_syntax strong_request words) _ (λ one. served_is_none (strong_program one) tt) (c.law_strong_is_read_exactly.ensures words) in
    let deadline = requests_exactly deadline_program (requested_by deadline_syntax deadline_request words) _ (λ one. served_is_none (deadline_program one) tt) (c.law_deadline_is_read_exactly.ensures words) in
    let fleet = requests_exactly fleet_program (requested_by fleet_syntax fleet_request words) _ (λ one. served_is_none (fleet_program one) tt) (c.law_fleet_is_read_exactly.ensures words) in
    let forge = requests_exactly forge_program (requested_by forge_syntax forge_request words) _ forged_is_none (c.law_forge_is_read_exactly.ensures words) in
    chosen_exactly (bytes_eq command (codes "judge")) _ _ _ _ judge
    (chosen_exactly (bytes_eq command (codes "check")) _ _ _ _ check
    (chosen_exactly (bytes_eq command (codes "run")) _ _ _ _ run
    (chosen_exactly (bytes_eq command (codes "session")) _ _ _ _ session
    (chosen_exactly (bytes_eq command (codes "show")) _ _ _ _ show
    (chosen_exactly (bytes_eq command (codes "play")) _ _ _ _ play
    (chosen_exactly (bytes_eq command strong_word) _ _ _ _ strong
    (chosen_exactly (bytes_eq command (codes "deadline")) _ _ _ _ deadline
    (chosen_exactly (bytes_eq command (codes "fleet")) _ _ _ _ fleet
    (chosen_exactly (bytes_eq command (codes "forge")) _ _ _ _ forge
    refused_exactly))))))))))
