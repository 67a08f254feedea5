use Rattle.event_phase.specs.EventPhase.{executing_machine}
use Rattle.common_answers.specs.Faults.{refusing}
use Rattle.input_texts.specs.PlanInput.{input_reader}
use Rattle.command_contracts.specs.Programs.{or_nothing}
use Rattle.run_command.specs.RunPromise.{RunPromise, run_causes}
use Rattle.run_command.specs.RunCommand.{run_begins, run_start}
use Rattle.command_contracts.proofs.ProgramLemmas.{text_then_phase_defines_one}
use Rattle.run_command.proofs.RunOnceLemmas.{run_begins_once}
use Rattle.event_phase.proofs.OnceLemmas.{executing_single}
use Rattle.run_command.proofs.plan_execution.RunOneRun.defines_one.Goals as goal

pub returns : goal.returns
returns c = record {
  each = λ run. text_then_phase_defines_one run_begins input_reader refusing executing_machine (run_start run) (or_nothing (run_causes run) (RunPromise run)) run_begins_once
      (executing_single c.law_lines_have_one_reading.ensures);
}
