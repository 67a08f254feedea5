-- The base nodes have the base table.
use Rattle.std.proofs.Common.{◌≡◌, List, ◌++◌, map, ap, ◌∙◌}
use Rattle.std.specs.List.{enumerate_from}
use Rattle.closure_model.specs.Derivations.{base_nodes, bound_node, link_node}
use Rattle.closure_model.specs.declared.derivation.Node.{Node}
use Rattle.example_references.specs.NodeTables.{support_in}
use Rattle.example_references.proofs.NodeFacts.{base_agrees}
use Rattle.example_references.proofs.rounds.base_nodes.Goals as goal

pub returns-clause-support : goal.returns-clause-support
returns-clause-support c =
    let net = c.args.net.now in
    let with_bounds = c.in_ok-push_bounds.ensures ∙ ap (λ (ns : List Node). ns ++ map bound_node (enumerate_from 0 net.bounds)) c.new-nodes.ensures.items in
    let nodes : c.push_links.new.nodes.items ≡ base_nodes net = c.in_ok-push_links.ensures ∙ ap (λ (ns : List Node). ns ++ map link_node (enumerate_from 0 net.links)) with_bounds in
    ap (support_in net) nodes ∙ base_agrees net
