use Rattle.common_answers.specs.Faults.{refusing}
use Rattle.command_contracts.specs.Programs.{or_nothing}
use Rattle.command_contracts.proofs.ProgramLemmas.{text_then_phase_defines_one}
use Rattle.event_phase.specs.EventPhase.{executing_machine}
use Rattle.event_phase.proofs.OnceLemmas.{executing_single}
use Rattle.multiplexed_commands.proofs.SingleLemmas.{merged_single}
use Rattle.fleet_command.specs.FleetCauses.{fleet_causes}
use Rattle.fleet_command.specs.FleetCommand.{fleet_around, fleet_begins, fleet_start, plans_machine}
use Rattle.fleet_command.specs.FleetPromise.{FleetPromise}
use Rattle.fleet_command.specs.FleetStands.{fleet_capacity}
use Rattle.fleet_command.specs.FleetText.{fleet_reader}
use Rattle.fleet_command.proofs.OnceLemmas.{fleet_begins_once}
use Rattle.fleet_command.proofs.fleet_question.FleetQuestionOneRun.defines_one.Goals as goal

pub returns : goal.returns
returns c = record {
  each = λ query. text_then_phase_defines_one fleet_begins fleet_reader refusing plans_machine (fleet_start query) (or_nothing fleet_causes FleetPromise) fleet_begins_once
      (merged_single executing_machine (executing_single c.law_lines_have_one_reading.ensures) fleet_around fleet_capacity);
}
