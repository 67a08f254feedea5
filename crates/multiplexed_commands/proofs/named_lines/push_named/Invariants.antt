use Rattle.std.proofs.Common.{◌≡◌, ◌≤◌, ◌++◌, length}
use Rattle.texts.specs.Lines.{lines}
use Rattle.multiplexed_commands.proofs.NamedLineLemmas.{lines_named}
use Rattle.multiplexed_commands.proofs.named_lines.push_named.Given as goal

abbrev pub invariant-loop-line : goal.invariant-loop-line
invariant-loop-line l = record {
  goes_on : l.answer.text ++ lines_named l.name (lines l.rest) ≡ l.initial.answer.text ++ lines_named l.name (lines l.initial.rest);
  capacity : l.initial.answer.capacity ≤ l.answer.capacity;
}

abbrev pub decreases-loop-line : goal.decreases-loop-line
decreases-loop-line l = length l.rest
