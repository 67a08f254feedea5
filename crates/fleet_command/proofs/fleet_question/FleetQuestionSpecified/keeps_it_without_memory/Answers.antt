use Rattle.std.proofs.Common.{inl}
use Rattle.command_engine.proofs.PhaseLemmas.{wants_while_reading}
use Rattle.common_answers.specs.Faults.{refusing}
use Rattle.fleet_command.specs.FleetCommand.{fleet_begins, plans_machine}
use Rattle.fleet_command.specs.FleetText.{initial_fleet, fleet_reader}
use Rattle.fleet_command.proofs.fleet_question.FleetQuestionSpecified.keeps_it_without_memory.Goals as goal

pub returns : goal.returns
returns c = λ query input untaken put pieces breaks.
    inl (wants_while_reading fleet_begins fleet_reader refusing plans_machine (λ state wants. wants) query initial_fleet input untaken put pieces breaks)
