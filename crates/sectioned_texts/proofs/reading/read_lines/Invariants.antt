use Rattle.std.proofs.Common.{◌≡◌, ◌+◌, ◌≤◌, length}
use Rattle.texts.specs.Lines.{lines}
use Rattle.sectioned_texts.specs.Reading.{value_part, read_from, read_text}
use Rattle.sectioned_texts.proofs.reading.read_lines.Given as goal

abbrev pub invariant-loop-line : goal.invariant-loop-line
invariant-loop-line g l = record {
  so_far : value_part (read_from g.R.SectionReader.text l.reader l.number (lines l.rest)) ≡ read_text g.R.SectionReader.text l.bytes;
  numbered : l.number + length l.rest ≤ length l.bytes + 1;
}

abbrev pub decreases-loop-line : goal.decreases-loop-line
decreases-loop-line g l = length l.rest
