use Rattle.std.proofs.Common.{sym, subst}
use Rattle.closure_model.specs.Derivations.{Support}
use Rattle.derivation_dag.specs.Rows.{CanTakeRow}
use Rattle.derivation_dag.specs.SupportedTables.{IsSupported}
use Rattle.derivation_dag.proofs.RowLemmas.{supported_row}
use Rattle.derivation_dag.proofs.pruned.PrunedSupports.accept_row.Goals as goal

pub invariant_of-self : goal.invariant_of-self
invariant_of-self c =
    let before : Support = record { nodes = c.self.inside.list; table = c.self.inside.table } in
    let can : CanTakeRow c.args.net.now before c.args.row.now.target c.args.row.now.made.now c.args.row.now.firsts.now =
    subst (λ (s : Support). CanTakeRow c.args.net.now s c.args.row.now.target c.args.row.now.made.now c.args.row.now.firsts.now) (sym c.self.view_is)
    (subst (λ (s : Support). CanTakeRow c.args.net.now s c.args.row.now.target c.args.row.now.made.now c.args.row.now.firsts.now) (sym c.before_row.ensures) c.requires) in
    subst IsSupported (sym c.in-Ok.ensures) (supported_row c.args.net.now c.sound.ensures before c.args.row.now.target c.args.row.now.made.now c.args.row.now.firsts.now c.self.invariant can)
