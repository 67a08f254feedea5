use Rattle.std.proofs.Common.{◌≡◌, ℕ, ◌+◌, take, drop}
use Rattle.texts.specs.Lines.{lines, lines_after}
use Rattle.texts.specs.Lines.{size_of_lines}
use Rattle.texts.proofs.lines.end_of_line.Given as goal

abbrev pub invariant-loop-place : goal.invariant-loop-place
invariant-loop-place l = record {
  lines : lines l.bytes ≡ lines_after (take l.place l.bytes) (drop l.place l.bytes);
  sizes : (count : ℕ) → size_of_lines (count + 1) l.bytes ≡ l.place + size_of_lines (count + 1) (drop l.place l.bytes);
}
