use Rattle.std.proofs.Common.{◌≡◌, ◌≤◌, length}
use Rattle.multiplexed_commands.specs.NamedLines.{after_first}
use Rattle.multiplexed_commands.proofs.named_lines.after_first.Given as goal

abbrev pub invariant-loop-byte : goal.invariant-loop-byte
invariant-loop-byte l = record {
  text : after_first l.rest ≡ after_first l.initial.rest;
  shorter : length l.rest ≤ length l.initial.rest;
}

abbrev pub decreases-loop-byte : goal.decreases-loop-byte
decreases-loop-byte l = length l.rest
