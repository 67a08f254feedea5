use Rattle.std.proofs.Common.{◌≡◌, ◌++◌, take}
use Rattle.std.specs.List.{flat_map}
use Rattle.texts.specs.PrintedLines.{printed_line}
use Rattle.plan_format.specs.PlanParts.{part_words}
use Rattle.net_model.specs.NetworkParts.{bound_part}
use Rattle.plan_format.proofs.print.push_bounds.Given as goal

abbrev pub invariant-loop-bound : goal.invariant-loop-bound
invariant-loop-bound l = l.out.items ≡ l.fn.out.items ++ flat_map (λ bound. printed_line (part_words (bound_part l.net.points bound))) (take l.bound-index l.net.bounds)
