-- What the table of a list of nodes has.
use Rattle.std.proofs.Common.{◌≡◌, List, ◌∷◌, ◌++◌, [], length, refl, ap, sym, ◌∙◌}
use Rattle.net_model.specs.Network.{Plan}
use Rattle.net_model.specs.declared.part.Edge.{Edge}
use Rattle.closure_model.specs.Derivations.{weight_at, with_node, base_nodes, base_support, edges_of_nodes}
use Rattle.closure_model.specs.Keys.{Shape, key_of, shape_of}
use Rattle.closure_model.specs.ReferenceRound.{node_for}
use Rattle.closure_model.specs.Tables.{weight_of, no_edges}
use Rattle.closure_model.specs.declared.derivation.Node.{Node}
use Rattle.closure_model.proofs.Newest.{newest_exists, newest_weight}
use Rattle.closure_model.proofs.RoundLaw.{node_for_is}
use Rattle.closure_model.proofs.SupportLemmas.{law_base_stands, table_pushed}
use Rattle.closure_model.proofs.TableLemmas.{all_lowered-shape}
use Rattle.example_references.specs.NodeTables.{table_in, support_in}

-- the weight of a key is that of its node
pub weight_agrees : (net : Plan) (nodes : List Node) (edge : Edge) → weight_at nodes (node_for nodes edge) ≡ weight_of (table_in net nodes) (key_of edge)
weight_agrees net nodes edge =
    let (found, newest) = newest_exists (shape_of net) nodes (key_of edge) in
    ap (weight_at nodes) (node_for_is nodes edge found newest) ∙ newest_weight (shape_of net) nodes (key_of edge) found newest

pub shape_agrees : (net : Plan) (nodes : List Node) → (table_in net nodes).shape ≡ shape_of net
shape_agrees net nodes = all_lowered-shape (no_edges (shape_of net)) (edges_of_nodes nodes)

pub points_agree : (net : Plan) (nodes : List Node) → length net.points ≡ (table_in net nodes).shape.points
points_agree net nodes = ap (λ (s : Shape). s.points) (sym (shape_agrees net nodes))

-- one node more
pub support_pushed : (net : Plan) (nodes : List Node) (node : Node) → support_in net (nodes ++ node ∷ []) ≡ with_node (support_in net nodes) node
support_pushed net nodes node = ap (λ t. record { nodes = nodes ++ node ∷ []; table = t }) (sym (table_pushed net nodes node (table_in net nodes) refl))

pub base_agrees : (net : Plan) → support_in net (base_nodes net) ≡ base_support net
base_agrees net = ap (λ t. record { nodes = base_nodes net; table = t }) (sym (law_base_stands net).table)
