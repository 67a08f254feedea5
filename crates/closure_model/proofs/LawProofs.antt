-- The laws, from the lemmas.
use Rattle.std.proofs.Common.{◌∙◌, ◌≡◌, ℕ, ◌<◌, ℤ, ◌≤ℤ◌, ◌<ℤ◌, Some, ap, sym, subst, arith}
use Rattle.std.specs.Prelude.{MatchOption}
use Rattle.std.proofs.lemmas.Int.{ints}
use Rattle.std.proofs.lemmas.List.Elements.{All-contains, Contains-get_or}
use Rattle.closure_model.specs.Keys.{edge_of, shape_of}
use Rattle.closure_model.specs.Tables.{Graph, weight_of, HasEdge, table_of, base_edges}
use Rattle.closure_model.specs.Derivable.{IsDerivable}
use Rattle.closure_model.specs.ClosureLaws.{RulesKeepDerivable, DerivableAreEdges, DerivableAreBounded, ReachedAreDerivable, ClosureIsClosed, ClosureIsWeakest, ClosureIsOne, ClosedAndDerivableIsClosure}
use Rattle.closure_model.specs.DerivationLaws.{NodesAreDerivable, PremisesAreEarlier, UnderIsEarlier, LabelledRestOnLinks, BaseStands, FollowingKeepsStanding, StandingIsDerivable, TablesMatchNodes, NewestHasTheWeight, NodeOfKeyIsOne}
use Rattle.closure_model.specs.Derivations.{edge_at, edges_of_nodes, IsNodeOf, HasNoNode}
use Rattle.closure_model.specs.declared.derivation.NodeId.{NodeId}
use Rattle.closure_model.proofs.TableLemmas.{table_of-given}
use Rattle.closure_model.proofs.DerivableEdges.{follows_derivable, derivable_edge, derivable_within}
use Rattle.closure_model.proofs.ReachedTables.{reached_derivable, base_edge_derivable}
use Rattle.closure_model.proofs.ClosureLemmas.{closure_closed, closure_at_most, closure_weakest, closure_one, closed_derivable_closure}
use Rattle.closure_model.proofs.DerivedNodes.{node_derivable, premises_earlier, under_earlier, labelled_rests}
use Rattle.closure_model.proofs.Newest.{node_of_edge, table_matches, newest_weight}
use Rattle.closure_model.proofs.SupportLemmas.{law_base_stands, stands_pushed}

pub law_rules_keep_derivable : RulesKeepDerivable
law_rules_keep_derivable net earlier edge all follows = follows_derivable net earlier (λ e inside. All-contains (IsDerivable net) earlier e all inside) edge follows

pub law_derivable_are_edges : DerivableAreEdges
law_derivable_are_edges net edge plan derivable = derivable_edge net plan edge derivable

pub law_derivable_are_bounded : DerivableAreBounded
law_derivable_are_bounded net edge plan derivable = derivable_within net plan edge derivable

pub law_reached_are_derivable : ReachedAreDerivable
law_reached_are_derivable net table reached = reached_derivable net table reached

pub law_closure_is_closed : ClosureIsClosed
law_closure_is_closed net table closure =
    (closure_closed net table closure, λ k d inside. closure_at_most net table closure _ (base_edge_derivable net _ (Contains-get_or (base_edges net) k d inside)))

pub law_closure_is_weakest : ClosureIsWeakest
law_closure_is_weakest net table other closure closed = closure_weakest net table closure other closed

pub law_closure_is_one : ClosureIsOne
law_closure_is_one net one two first second = closure_one net one two first second

pub law_closed_and_derivable_is_closure : ClosedAndDerivableIsClosure
law_closed_and_derivable_is_closure net table for closed holds = closed_derivable_closure net table for closed holds

pub law_nodes_are_derivable : NodesAreDerivable
law_nodes_are_derivable net nodes id node list here = node_derivable net nodes list id node here

pub law_premises_are_earlier : PremisesAreEarlier
law_premises_are_earlier net nodes list = premises_earlier net nodes list

pub law_under_is_earlier : UnderIsEarlier
law_under_is_earlier nodes below id earlier descent = under_earlier nodes earlier below id descent

pub law_labelled_rest_on_links : LabelledRestOnLinks
law_labelled_rest_on_links net nodes id node label list here labelled = labelled_rests net nodes list id node label here labelled

pub base_stands_law : BaseStands
base_stands_law net = law_base_stands net

pub law_following_keeps_standing : FollowingKeepsStanding
law_following_keeps_standing net support node stands given = stands_pushed net support node stands given

pub law_standing_is_derivable : StandingIsDerivable
law_standing_is_derivable net support stands edge has =
    let held : HasEdge (table_of (shape_of net) (edges_of_nodes support.nodes)) edge = subst (λ (g : Graph). HasEdge g edge) stands.table has in
    let (id, node, here, is) = node_of_edge (shape_of net) support.nodes edge (table_of-given (shape_of net) (edges_of_nodes support.nodes) edge held) in
    subst (IsDerivable net) is (node_derivable net support.nodes stands.derived id node here)

pub law_tables_match_nodes : TablesMatchNodes
law_tables_match_nodes net nodes table key is =
    subst (λ (g : Graph). MatchOption (weight_of g key) (HasNoNode nodes key) (λ (weight : ℤ). (id : NodeId) × IsNodeOf nodes key id × (edge_at nodes id ≡ Some (edge_of key weight)))) (sym is) (table_matches (shape_of net) nodes key)

pub law_newest_has_the_weight : NewestHasTheWeight
law_newest_has_the_weight net nodes table key found is newest = newest_weight (shape_of net) nodes key found newest ∙ ap (λ (g : Graph). weight_of g key) (sym is)

pub law_node_of_key_is_one : NodeOfKeyIsOne
law_node_of_key_is_one nodes key one two first second =
    let not_before : (one.0 < two.0 → ⊥) = λ below. later one two first second below in
    let not_after : (two.0 < one.0 → ⊥) = λ below. later two one second first below in
    let number : one.0 ≡ two.0 = omega (arith, not_before, not_after) in
    ap (λ (n : ℕ). record { 0 = n }) number
  where
    later : (x y : NodeId) → IsNodeOf nodes key x → IsNodeOf nodes key y → x.0 < y.0 → ⊥
    later x y a b below =
        let under : a.node.edge.weight ≤ℤ b.node.edge.weight = a.least y b.node b.here b.of_key in
        let less : b.node.edge.weight <ℤ a.node.edge.weight = b.first x a.node a.here a.of_key below in
        omega (arith, ints)
