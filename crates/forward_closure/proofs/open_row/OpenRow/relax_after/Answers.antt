use Rattle.std.proofs.Common.{rules, ◌≡◌, ◌∙◌, w32, to_z, of_z}
use Rattle.forward_closure.proofs.SearchLemmas.{derived_after}
use Rattle.forward_closure.proofs.open_row.OpenRow.relax_after.Goals as goal

pub keep-requires : goal.keep-requires
keep-requires c =
    let word : to_z w32 (of_z w32 c.weight_over-weight.result) ≡ c.weight_over-weight.result = search rules in
    derived_after c.args.self.now c.loop-first.self _ c.args.edge.now (to_z w32 (of_z w32 c.weight_over-weight.result)) c.loop-first.invariant
    (c.requires.firsts c.loop-first.first-index _ c.loop-first-test.true) c.requires.edge c.requires.negative (word ∙ c.weight_over-weight.ensures)
