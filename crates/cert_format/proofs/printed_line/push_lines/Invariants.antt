use Rattle.std.proofs.Common.{◌≡◌, ◌++◌, take, All}
use Rattle.std.specs.List.{flat_map}
use Rattle.texts.specs.PrintedLines.{printed_line}
use Rattle.cert_format.proofs.printed_line.push_lines.Given as goal

abbrev pub invariant-loop-line : goal.invariant-loop-line
invariant-loop-line g l = record {
  text : l.out.items ≡ l.fn.out.items ++ flat_map (λ line. printed_line (g.L.PrintedLine.words_of line)) (take l.line-index l.lines);
  spelled : All g.L.PrintedLine.is_spelled (take l.line-index l.lines);
}
