use Rattle.std.proofs.Common.{◌≡◌, map, take}
use Rattle.net_model.specs.declared.part.Link.{Link}
use Rattle.cell_table.proofs.final_table.ends_of.Given as goal

abbrev pub invariant-loop-link : goal.invariant-loop-link
invariant-loop-link l = l.ends.items ≡ map (λ (link : Link). link.from) (take l.link-index l.link-items)
