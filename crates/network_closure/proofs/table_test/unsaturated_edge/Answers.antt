use Rattle.std.proofs.Common.{◌∙◌}
use Rattle.std.proofs.lemmas.Result.{IfOk-weaker}
use Rattle.network_closure.specs.Saturation.{TestsTo}
use Rattle.network_closure.proofs.CopyLemmas.{tested_dense}
use Rattle.network_closure.proofs.RowTestLemmas.{sequence_of_points}
use Rattle.network_closure.proofs.table_test.unsaturated_edge.Goals as goal

pub unsaturated-requires-clause-sequence : goal.unsaturated-requires-clause-sequence
unsaturated-requires-clause-sequence g c κs within =
    sequence_of_points c.args.net.now c.in_ok-dense.dense c.as_slice.result.now c.in_ok-dense.ensures.partial_closure (c.as_slice.ensures.value ∙ c.in_ok-points.ensures)

pub returns : goal.returns
returns g c =
    IfOk-weaker c.unsaturated.result (TestsTo c.args.net.now c.in_ok-dense.dense) (TestsTo c.args.net.now c.args.table.now)
    (λ found. tested_dense c.args.net.now c.args.table.now c.in_ok-dense.dense found c.requires.partial_closure c.in_ok-dense.ensures) c.unsaturated.ensures
