-- The nodes that a history of rounds adds have weights below those of all earlier ones of their keys.
use Rattle.std.proofs.Common.{◌≡◌, ◌+◌, ◌≤◌, ◌<◌, ◌<ℤ◌, ◌⊎◌, inl, inr, List, [], ◌∷◌, ◌++◌, length, Some, ap, sym, ◌∙◌, subst, arith, append_assoc, append-nil}
use Rattle.std.specs.Prelude.{slice_get}
use Rattle.std.proofs.lemmas.Int.{ints}
use Rattle.std.proofs.lemmas.List.{length-append}
use Rattle.std.proofs.lemmas.Option.{slice_get_within}
use Rattle.net_model.specs.Network.{Plan}
use Rattle.closure_model.specs.Derivations.{IsTableOf, node_at, edges_of_nodes}
use Rattle.closure_model.specs.Keys.{key_of, shape_of}
use Rattle.closure_model.specs.ReferenceRow.{IsBelow}
use Rattle.closure_model.specs.Tables.{Graph, weight_of, lowered, HasAtMost}
use Rattle.closure_model.specs.declared.derivation.Node.{Node}
use Rattle.closure_model.specs.declared.derivation.NodeId.{NodeId}
use Rattle.closure_model.proofs.Lists.{Contains-map}
use Rattle.closure_model.proofs.Nodes.{push_cases, listed_at}
use Rattle.closure_model.proofs.SupportLemmas.{table_pushed}
use Rattle.closure_model.proofs.TableLemmas.{table_of-has, at_most_gives}
use Rattle.shared_table_laws.specs.LaterNodes.{ImproveFrom, LaterNodesImprove}
use Rattle.shared_table_laws.specs.TableHistory.{LowerInTurn}

module _ (net : Plan) where
  -- a node that lowers its key is below every node of it
  below_all : (nodes : List Node) (table : Graph) (node : Node) → IsTableOf net nodes table → IsBelow table node.edge → (other : NodeId) (earlier : Node) → node_at nodes other ≡ Some earlier → key_of earlier.edge ≡ key_of node.edge
      → node.edge.weight <ℤ earlier.edge.weight
  below_all nodes table node is below other earlier here same =
      let among = Contains-map (λ (m : Node). m.edge) nodes earlier (listed_at nodes other.0 earlier here) in
      let (weight, held, less) = at_most_gives table earlier.edge (subst (λ (t : Graph). HasAtMost t earlier.edge) (sym is) (table_of-has (shape_of net) (edges_of_nodes nodes) earlier.edge among)) in
      let improves : node.edge.weight <ℤ weight = below weight (ap (weight_of table) (sym same) ∙ held) in
      omega (arith, ints)

  improve_on : (nodes : List Node) (table : Graph) (first : NodeId) (more : List Node) → first.0 ≤ length nodes → IsTableOf net nodes table → ImproveFrom nodes first → LowerInTurn table (edges_of_nodes more)
      → ImproveFrom (nodes ++ more) first
  improve_on nodes table first [] within is improves lower = subst (λ (ns : List Node). ImproveFrom ns first) (sym (append-nil nodes)) improves
  improve_on nodes table first (node ∷ more) within is improves (below, rest) =
      subst (λ (ns : List Node). ImproveFrom ns first) (append_assoc nodes (node ∷ []) more)
      (improve_on (nodes ++ node ∷ []) (lowered table node.edge) first more (let size : length (nodes ++ node ∷ []) ≡ length nodes + 1 = length-append nodes (node ∷ []) in omega arith) (table_pushed net nodes node table is) one_more rest)
    where
      one_more : ImproveFrom (nodes ++ node ∷ []) first
      one_more id other m earlier from before here there same = by (push_cases nodes node id.0 m here) (push_cases nodes node other.0 earlier there)
        where
          by : (slice_get nodes id.0 ≡ Some m) ⊎ ((id.0 ≡ length nodes) × (node ≡ m)) → (slice_get nodes other.0 ≡ Some earlier) ⊎ ((other.0 ≡ length nodes) × (node ≡ earlier)) → m.edge.weight <ℤ earlier.edge.weight
          by (inl a) (inl b) = improves id other m earlier from before a b same
          by (inl a) (inr (last, e)) = let inside : id.0 < length nodes = slice_get_within nodes id.0 m a in absurd (omega arith)
          by (inr (last, e)) (inl b) =
              subst (λ (n : Node). n.edge.weight <ℤ earlier.edge.weight) e (below_all nodes table node is below other earlier b (same ∙ ap (λ (n : Node). key_of n.edge) (sym e)))
          by (inr (last, e)) (inr (end, f)) = absurd (omega arith)

pub law_later_nodes_improve : LaterNodesImprove
law_later_nodes_improve net before after stands are =
    subst (λ (ns : List Node). ImproveFrom ns (record { 0 = length before.nodes })) (sym are.more)
    (improve_on net before.nodes before.table (record { 0 = length before.nodes }) are.nodes (omega arith) stands.table none are.lower)
  where
    none : ImproveFrom before.nodes (record { 0 = length before.nodes })
    none id other node earlier from less here there same = let inside : id.0 < length before.nodes = slice_get_within before.nodes id.0 node here in absurd (omega arith)
