use Rattle.std.proofs.Common.{◌≡◌, ◌++◌, take}
use Rattle.std.specs.List.{flat_map}
use Rattle.texts.specs.PrintedLines.{printed_line}
use Rattle.plan_format.specs.PlanParts.{part_words}
use Rattle.net_model.specs.declared.part.Part.TheVariants.{Point}
use Rattle.plan_format.proofs.print.push_points.Given as goal

abbrev pub invariant-loop-name : goal.invariant-loop-name
invariant-loop-name l = l.out.items ≡ l.fn.out.items ++ flat_map (λ name. printed_line (part_words (Point name))) (take l.name-index l.points)
