use Rattle.std.proofs.Common.{inl}
use Rattle.command_engine.proofs.PhaseLemmas.{wants_while_reading}
use Rattle.event_phase.specs.EventPhase.{executing_machine}
use Rattle.common_answers.specs.Faults.{refusing}
use Rattle.input_texts.specs.PlanInput.{initial_input, input_reader}
use Rattle.run_command.specs.RunCommand.{run_begins}
use Rattle.run_command.proofs.plan_execution.RunSpecified.keeps_it_without_memory.Goals as goal

pub returns : goal.returns
returns c = λ run input untaken put pieces breaks.
    inl (wants_while_reading run_begins input_reader refusing executing_machine (λ state wants. wants) run (initial_input run.form) input untaken put pieces breaks)
