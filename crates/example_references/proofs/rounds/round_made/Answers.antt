-- Each target adds its row.
use Rattle.std.proofs.Common.{List, ◌++◌, ap, ◌∙◌, arith}
use Rattle.closure_model.specs.ReferenceRow.{reference_row}
use Rattle.closure_model.specs.declared.rows.Made.{Made}
use Rattle.example_references.specs.NodeTables.{table_in}
use Rattle.example_references.proofs.NodeFacts.{points_agree}
use Rattle.example_references.proofs.RowFacts.{flat_more}
use Rattle.example_references.proofs.rounds.round_made.Goals as goal

pub row-requires : goal.row-requires
row-requires c = omega (arith, c.points-count.ensures c.args.nodes.now, points_agree c.args.net.now c.args.nodes.now)

pub loop-target-preserved : goal.loop-target-preserved
loop-target-preserved c =
    flat_more (reference_row c.args.net.now (table_in c.args.net.now c.args.nodes.now)) c.loop-target.target c.loop-target.made.items c.extend_from_slice.new.self.items c.loop-target.invariant
    (c.in_ok-extend_from_slice.ensures.items ∙ ap (λ (list : List Made). c.loop-target.made.items ++ list) (c.as_slice.ensures.value ∙ c.in_ok-row.ensures))
