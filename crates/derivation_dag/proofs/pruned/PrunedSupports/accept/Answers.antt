use Rattle.std.proofs.Common.{◌≡◌, false, sym, subst}
use Rattle.closure_model.specs.Keys.{key_of, shape_of, IsKey}
use Rattle.closure_model.specs.Tables.{IsFor, has_at_most}
use Rattle.closure_model.specs.Derivations.{Support, IsGiven}
use Rattle.closure_model.proofs.DerivedNodes.{given_within}
use Rattle.derivation_dag.specs.SupportedTables.{IsSupported}
use Rattle.derivation_dag.proofs.PlainLemmas.{key_of_edge, supported_more}
use Rattle.derivation_dag.proofs.RowLemmas.{below_node, below_tested}
use Rattle.derivation_dag.proofs.pruned.PrunedSupports.accept.Goals as goal

pub take_node-requires-clause-key : goal.take_node-requires-clause-key
take_node-requires-clause-key c =
    let shape : c.self.inside.table.shape ≡ shape_of c.args.net.now = subst (λ (s : Support). IsFor c.args.net.now s.table) (sym c.self.view_is) c.requires.for_network in
    subst (λ s. IsKey s (key_of c.args.node.edge)) (sym shape) (key_of_edge c.args.net.now c.args.node.edge c.requires.edge)

pub take_node-requires-clause-weight : goal.take_node-requires-clause-weight
take_node-requires-clause-weight c =
    let given = subst (λ (s : Support). IsGiven c.args.net.now s.nodes c.args.node) (sym c.self.view_is) c.requires.follows in
    given_within c.args.net.now c.sound.ensures c.self.inside.list c.self.invariant.weights c.args.node given

pub invariant_of-self : goal.invariant_of-self
invariant_of-self c =
    let given = subst (λ (s : Support). IsGiven c.args.net.now s.nodes c.args.node) (sym c.self.view_is) c.requires.follows in
    let within = given_within c.args.net.now c.sound.ensures c.self.inside.list c.self.invariant.weights c.args.node given in
    subst IsSupported (sym c.in-Ok.ensures.1) (supported_more (record { nodes = c.self.inside.list; table = c.self.inside.table }) c.args.node c.self.invariant within)

pub take_node-requires-clause-below : goal.take_node-requires-clause-below
take_node-requires-clause-below c other node early here of_key =
    let lowers = subst (λ (s : Support). has_at_most s.table c.args.node.edge ≡ false) (sym c.self.view_is) c.requires.lowers in
    below_node (record { nodes = c.self.inside.list; table = c.self.inside.table }) c.args.node.edge c.self.invariant (below_tested c.self.inside.table c.args.node.edge lowers) other node here of_key
