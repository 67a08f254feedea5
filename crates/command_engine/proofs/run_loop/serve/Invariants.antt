use Rattle.std.proofs.Common.{◌-◌, ◌≤◌}
use Rattle.command_engine.specs.Limits.{most_input}
use Rattle.command_engine.proofs.EndLemmas.{IsServing}
use Rattle.command_engine.proofs.run_loop.serve.Given as goal

abbrev pub invariant-lines : goal.invariant-lines
invariant-lines g l = record {
  serving : IsServing g.C.Command.machine l.fn.command l.command l.reader (g.P.Port.seen l.initial.port) (g.P.Port.seen l.port);
  spare_capacity : g.C.Command.machine.spare_capacity l.command ≤ l.answer.capacity;
}

abbrev pub decreases-lines : goal.decreases-lines
decreases-lines g l = most_input - l.reader.number
