use Rattle.std.proofs.Common.{sym, subst}
use Rattle.closure_model.specs.Derivable.{IsDerivable}
use Rattle.network_closure.proofs.PartialClosureLemmas.{derivable_size}
use Rattle.forward_closure.specs.Rows.{RowOf}
use Rattle.forward_closure.proofs.open_row.OpenRow.relax.Goals as goal

pub of-edge-requires : goal.of-edge-requires
of-edge-requires c = derivable_size c.self.inside.net.now c.sound.ensures c.args.edge.now (subst (λ (row : RowOf). IsDerivable row.net c.args.edge.now) (sym c.self.view_is) c.requires)
