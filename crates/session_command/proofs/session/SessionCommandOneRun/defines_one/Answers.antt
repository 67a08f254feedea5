use Rattle.common_answers.specs.Faults.{refusing}
use Rattle.input_texts.specs.PlanInput.{input_reader}
use Rattle.session_command.specs.SessionPromise.{session_promise}
use Rattle.session_command.specs.Sessions.{session_begins, session_machine, session_start}
use Rattle.command_contracts.proofs.ProgramLemmas.{text_then_phase_defines_one}
use Rattle.session_command.proofs.SessionOnceLemmas.{OneWay, session_begins_once, session_single}
use Rattle.session_command.proofs.session.SessionCommandOneRun.defines_one.Goals as goal

pub returns : goal.returns
returns c =
    let way : OneWay = record { opens = c.law_sessions_open_in_one_way.ensures; follows = c.law_edits_are_followed_in_one_way.ensures } in
    record {
      each = λ form. text_then_phase_defines_one session_begins input_reader refusing session_machine (session_start form) (session_promise form)
          (session_begins_once way) (session_single way c.law_lines_have_one_reading.ensures c.law_lines_have_one_reading-2.ensures);
    }
