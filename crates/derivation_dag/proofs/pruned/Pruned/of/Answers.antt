use Rattle.std.proofs.Common.{◌≡◌, ◌++◌, ◌∙◌, map, ap, sym, subst}
use Rattle.std.specs.List.{enumerate_from}
use Rattle.closure_model.specs.Derivations.{base_nodes, base_support, link_node, bound_node, StandsOn}
use Rattle.closure_model.proofs.SupportLemmas.{law_base_stands}
use Rattle.derivation_dag.specs.SupportedTables.{IsSupported}
use Rattle.derivation_dag.proofs.PlainLemmas.{base_supported}
use Rattle.derivation_dag.proofs.pruned.Pruned.of.Goals as goal

pub invariant_of-result : goal.invariant_of-result
invariant_of-result c =
    let net = c.args.net.now in
    let marked_first = c.in_ok-push_bounds.ensures ∙ ap (λ nodes. nodes ++ map bound_node (enumerate_from 0 net.bounds)) c.in_ok-list.ensures in
    let nodes : c.push_links.new.list ≡ base_nodes net = c.in_ok-push_links.ensures ∙ ap (λ all. all ++ map link_node (enumerate_from 0 net.links)) marked_first in
    let same : base_support net ≡ record { nodes = c.push_links.new.list; table = c.in_ok-table.table } = λ i. record { nodes = sym nodes i; table = sym c.in_ok-table.ensures.base i } in
    subst IsSupported same (base_supported net c.sound.ensures)

pub returns-clause-stands : goal.returns-clause-stands
returns-clause-stands c =
    let net = c.args.net.now in
    let marked_first = c.in_ok-push_bounds.ensures ∙ ap (λ nodes. nodes ++ map bound_node (enumerate_from 0 net.bounds)) c.in_ok-list.ensures in
    let nodes : c.push_links.new.list ≡ base_nodes net = c.in_ok-push_links.ensures ∙ ap (λ all. all ++ map link_node (enumerate_from 0 net.links)) marked_first in
    let same : base_support net ≡ record { nodes = c.push_links.new.list; table = c.in_ok-table.table } = λ i. record { nodes = sym nodes i; table = sym c.in_ok-table.ensures.base i } in
    subst (StandsOn net) same (law_base_stands net)
