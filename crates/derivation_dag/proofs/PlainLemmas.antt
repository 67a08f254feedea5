-- A list with its table: the base, and one node more.
use Rattle.std.proofs.Common.{◌≡◌, [], ◌∷◌, ◌++◌, get_or, Option, Some, None, ap, sym, ◌∙◌}
use Rattle.std.specs.Option.{option_map}
use Rattle.std.proofs.lemmas.List.{map-append}
use Rattle.std.proofs.lemmas.List.Elements.{All-push, All-nil, Contains-get_or}
use Rattle.std.proofs.lemmas.Option.{slice_get-map}
use Rattle.net_model.specs.Network.{Plan, IsPlan}
use Rattle.net_model.specs.Edges.{IsLabelled, IsEdge}
use Rattle.net_model.specs.declared.ids.LinkId.{LinkId}
use Rattle.net_model.specs.declared.part.Edge.{Edge}
use Rattle.net_model.specs.declared.part.Link.{Link}
use Rattle.closure_model.specs.Keys.{key_of, Shape, shape_of, IsKey, IsLabelAt}
use Rattle.net_model.specs.Limits.{IsWeight}
use Rattle.closure_model.specs.Tables.{Graph, lowered, table_of, no_edges, base_edges}
use Rattle.closure_model.specs.Derivations.{Support, edges_of_nodes, with_node, base_nodes, base_support}
use Rattle.closure_model.specs.declared.derivation.Node.{Node}
use Rattle.closure_model.proofs.TableLemmas.{lowered-shape, all_lowered-shape}
use Rattle.closure_model.proofs.DerivedNodes.{given_within}
use Rattle.closure_model.proofs.SupportLemmas.{law_base_stands, base_given}
use Rattle.std.proofs.lemmas.List.Sums.{fold-append}
use Rattle.derivation_dag.specs.SupportedTables.{IsSupported}

-- ---- an edge of the network is of a key that there is
label_at : (net : Plan) (edge : Edge) (label : Option LinkId) → IsLabelled net edge label → IsLabelAt (shape_of net) edge.to label
label_at net edge None labelled = tt
label_at net edge (Some label) (link, declared, ends) =
    slice_get-map (λ (l : Link). l.from) net.links label.0 ∙ (ap (option_map (λ (l : Link). l.from)) declared ∙ ap Some (sym ends))

pub key_of_edge : (net : Plan) (edge : Edge) → IsEdge net edge → IsKey (shape_of net) (key_of edge)
key_of_edge net edge sound = record { to_point = sound.to_point; from_point = sound.from_point; labelled = label_at net edge edge.label sound.labelled }

-- ---- a list with its table
pub supported_more : (support : Support) (node : Node) → IsSupported support → IsWeight node.edge.weight → IsSupported (with_node support node)
supported_more support node supported within = record {
  tabled = step ∙ (sym folded ∙ (sym (ap (table_of support.table.shape) edges) ∙ ap (λ shape. table_of shape (edges_of_nodes (support.nodes ++ node ∷ []))) (sym (lowered-shape support.table node.edge))));
  weights = All-push (λ (n : Node). IsWeight n.edge.weight) support.nodes node supported.weights within;
}
  where
    shape : Shape
    shape = support.table.shape

    edges : edges_of_nodes (support.nodes ++ node ∷ []) ≡ edges_of_nodes support.nodes ++ node.edge ∷ []
    edges = map-append (λ (m : Node). m.edge) support.nodes (node ∷ [])

    folded : table_of support.table.shape (edges_of_nodes support.nodes ++ node.edge ∷ []) ≡ lowered (table_of support.table.shape (edges_of_nodes support.nodes)) node.edge
    folded = fold-append lowered (no_edges support.table.shape) (edges_of_nodes support.nodes) (node.edge ∷ [])

    step : lowered support.table node.edge ≡ lowered (table_of support.table.shape (edges_of_nodes support.nodes)) node.edge
    step = ap (λ (g : Graph). lowered g node.edge) supported.tabled

pub base_supported : (net : Plan) → IsPlan net → IsSupported (base_support net)
base_supported net plan = record {
  tabled = (law_base_stands net).table ∙ ap (λ shape. table_of shape (edges_of_nodes (base_nodes net))) (sym (all_lowered-shape (no_edges (shape_of net)) (base_edges net)));
  weights = λ k d inside. given_within net plan [] (All-nil (λ (n : Node). IsWeight n.edge.weight)) (get_or (base_nodes net) k d) (base_given net [] (get_or (base_nodes net) k d) (Contains-get_or (base_nodes net) k d inside));
}
