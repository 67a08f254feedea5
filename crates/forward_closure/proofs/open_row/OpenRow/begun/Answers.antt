use Rattle.std.proofs.Common.{◌∙◌}
use Rattle.network_closure.proofs.CopyLemmas.{row_derivable}
use Rattle.forward_closure.proofs.open_row.OpenRow.begun.Goals as goal

pub relax_all-requires : goal.relax_all-requires
relax_all-requires c = row_derivable c.args.net.now c.args.table.now c.args.target c.as_slice.result.now (c.as_slice.ensures.value ∙ c.in_ok-edges.ensures) c.requires.table.derivable
