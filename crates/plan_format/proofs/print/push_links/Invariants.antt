use Rattle.std.proofs.Common.{◌≡◌, ◌++◌, take}
use Rattle.std.specs.List.{flat_map}
use Rattle.texts.specs.PrintedLines.{printed_line}
use Rattle.plan_format.specs.PlanParts.{part_words}
use Rattle.net_model.specs.NetworkParts.{link_part}
use Rattle.plan_format.proofs.print.push_links.Given as goal

abbrev pub invariant-loop-link : goal.invariant-loop-link
invariant-loop-link l = l.out.items ≡ l.fn.out.items ++ flat_map (λ link. printed_line (part_words (link_part l.net.points link))) (take l.link-index l.net.links)
