use Rattle.std.proofs.Common.{take}
use Rattle.fleet_command.specs.PlanDivision.{BeginsAll}
use Rattle.fleet_command.proofs.fleet_question.put_starts.Given as goal

abbrev pub invariant-loop-entry : goal.invariant-loop-entry
invariant-loop-entry l = BeginsAll l.fleet (take l.entry-index l.entries) l.answer.text
