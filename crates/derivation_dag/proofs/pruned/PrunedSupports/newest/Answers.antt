use Rattle.std.proofs.Common.{◌≡◌, ◌∙◌, ap, sym, subst}
use Rattle.closure_model.specs.Keys.{key_of}
use Rattle.closure_model.specs.Tables.{weight_of}
use Rattle.closure_model.specs.Derivations.{Support, weight_at}
use Rattle.closure_model.proofs.Newest.{newest_weight}
use Rattle.derivation_dag.proofs.pruned.PrunedSupports.newest.Goals as goal

pub returns-clause-weight : goal.returns-clause-weight
returns-clause-weight c =
    let key = key_of c.args.edge.now in
    let found = c.newest.result in
    let recorded = newest_weight c.self.inside.table.shape c.self.inside.list key found c.newest.ensures ∙ ap (λ table. weight_of table key) (sym c.self.invariant.tabled) in
    subst (λ (s : Support). weight_at s.nodes found ≡ weight_of s.table key) c.self.view_is recorded
