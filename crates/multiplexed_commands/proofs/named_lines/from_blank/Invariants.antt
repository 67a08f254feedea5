use Rattle.std.proofs.Common.{◌≡◌, ◌≤◌, length}
use Rattle.multiplexed_commands.specs.NamedLines.{from_blank}
use Rattle.multiplexed_commands.proofs.named_lines.from_blank.Given as goal

abbrev pub invariant-loop-byte : goal.invariant-loop-byte
invariant-loop-byte l = record {
  text : from_blank l.rest ≡ from_blank l.initial.rest;
  shorter : length l.rest ≤ length l.initial.rest;
}

abbrev pub decreases-loop-byte : goal.decreases-loop-byte
decreases-loop-byte l = length l.rest
