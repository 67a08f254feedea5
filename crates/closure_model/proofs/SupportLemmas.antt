-- The base nodes and the base table stand on their network, and a node that lowers its key, or not, keeps a list and its table
-- standing.
use Rattle.std.proofs.Common.{◌≡◌, ℕ, ◌+◌, ◌<◌, ◌⊎◌, List, [], ◌∷◌, ◌++◌, length, take, map, Some, refl, ap, sym, ◌∙◌, subst, inl, inr, arith}
use Rattle.std.specs.Prelude.{slice_get}
use Rattle.std.specs.Option.{option_map}
use Rattle.std.specs.List.{Contains, enumerate_from}
use Rattle.std.proofs.lemmas.List.{map-append, take-append-le}
use Rattle.std.proofs.lemmas.List.Sums.{fold-append}
use Rattle.std.proofs.lemmas.List.Elements.{All-contains_itself, All-weaker, Contains-append_left, Contains-append_cases}
use Rattle.std.proofs.lemmas.Option.{slice_get_within}
use Rattle.std.proofs.Math.Seq.{take-append_seam}
use Rattle.net_model.specs.Network.{Plan}
use Rattle.net_model.specs.Rules.{bound_edge, link_edge}
use Rattle.net_model.specs.declared.part.Edge.{Edge}
use Rattle.net_model.specs.declared.part.Link.{Link}
use Rattle.closure_model.specs.Keys.{shape_of}
use Rattle.closure_model.specs.Tables.{Graph, lowered, table_of, no_edges, base_edges, base_table}
use Rattle.closure_model.specs.Derivations.{edges_of_nodes, IsGiven, IsDerivationList, bound_node, link_node, base_nodes, Support, IsTableOf, StandsOn}
use Rattle.closure_model.specs.declared.derivation.Node.{Node}
use Rattle.closure_model.proofs.Lists.{Contains-map_from}
use Rattle.closure_model.proofs.ReachedTables.{numbered_at}
use Rattle.closure_model.proofs.Nodes.{push_cases, listed_at}

-- ---- the base
-- a base node follows from any nodes
pub base_given : (net : Plan) (earlier : List Node) (node : Node) → Contains (base_nodes net) node → IsGiven net earlier node
base_given net earlier node inside =
    by (Contains-append_cases (map bound_node (enumerate_from 0 net.bounds)) (map link_node (enumerate_from 0 net.links)) node inside)
  where
    by : Contains (map bound_node (enumerate_from 0 net.bounds)) node ⊎ Contains (map link_node (enumerate_from 0 net.links)) node → IsGiven net earlier node
    by (inl there) =
        let (e, held, is) = Contains-map_from bound_node (enumerate_from 0 net.bounds) node there in
        subst (IsGiven net earlier) is (ap (option_map bound_edge) (numbered_at net.bounds e held))
    by (inr there) =
        let (e, held, is) = Contains-map_from link_node (enumerate_from 0 net.links) node there in
        subst (IsGiven net earlier) is (ap (option_map (link_edge (record { 0 = e.0 }))) (numbered_at net.links e held))

map_numbered : {X Y : Type 0} (f : X → Y) (n : ℕ) (xs : List X) → map (λ (e : ℕ × X). f e.1) (enumerate_from n xs) ≡ map f xs
map_numbered f n [] = refl
map_numbered f n (x ∷ xs) = ap (λ ys. f x ∷ ys) (map_numbered f (n + 1) xs)

map_map : {X Y Z : Type 0} (g : Y → Z) (f : X → Y) (xs : List X) → map g (map f xs) ≡ map (λ x. g (f x)) xs
map_map g f [] = refl
map_map g f (x ∷ xs) = ap (λ ys. g (f x) ∷ ys) (map_map g f xs)

-- the edges of the base nodes are the base edges
pub base_node_edges : (net : Plan) → edges_of_nodes (base_nodes net) ≡ base_edges net
base_node_edges net =
    let edge_of_node : Node → Edge = λ m. m.edge in
    let bounds : map edge_of_node (map bound_node (enumerate_from 0 net.bounds)) ≡ map bound_edge net.bounds =
    map_map edge_of_node bound_node (enumerate_from 0 net.bounds) ∙ map_numbered bound_edge 0 net.bounds in
    let links : map edge_of_node (map link_node (enumerate_from 0 net.links)) ≡ map (λ (e : ℕ × Link). link_edge (record { 0 = e.0 }) e.1) (enumerate_from 0 net.links) =
    map_map edge_of_node link_node (enumerate_from 0 net.links) in
    map-append edge_of_node (map bound_node (enumerate_from 0 net.bounds)) (map link_node (enumerate_from 0 net.links))
    ∙ (ap (λ (es : List Edge). es ++ map edge_of_node (map link_node (enumerate_from 0 net.links))) bounds ∙ ap (λ (es : List Edge). map bound_edge net.bounds ++ es) links)

pub base_list : (net : Plan) → IsDerivationList net (base_nodes net)
base_list net id node here = base_given net (take id.0 (base_nodes net)) node (listed_at (base_nodes net) id.0 node here)

pub law_base_stands : (net : Plan) → StandsOn net (record { nodes = base_nodes net; table = base_table net })
law_base_stands net = record {
  derived = base_list net;
  based = All-contains_itself (base_nodes net);
  table = ap (table_of (shape_of net)) (sym (base_node_edges net));
}

-- ---- one node more
pub list_pushed : (net : Plan) (nodes : List Node) (node : Node) → IsDerivationList net nodes → IsGiven net nodes node → IsDerivationList net (nodes ++ node ∷ [])
list_pushed net nodes node list given id m here = by (push_cases nodes node id.0 m here)
  where
    by : (slice_get nodes id.0 ≡ Some m) ⊎ ((id.0 ≡ length nodes) × (node ≡ m)) → IsGiven net (take id.0 (nodes ++ node ∷ [])) m
    by (inl there) =
        let within : id.0 < length nodes = slice_get_within nodes id.0 m there in
        let same : take id.0 (nodes ++ node ∷ []) ≡ take id.0 nodes = take-append-le id.0 nodes (node ∷ []) (omega arith) in
        subst (λ (earlier : List Node). IsGiven net earlier m) (sym same) (list id m there)
    by (inr (last, is)) =
        let same : take id.0 (nodes ++ node ∷ []) ≡ nodes = ap (λ (n : ℕ). take n (nodes ++ node ∷ [])) last ∙ take-append_seam nodes (node ∷ []) in
        subst (λ (earlier : List Node). IsGiven net earlier m) (sym same) (subst (IsGiven net nodes) is given)

pub table_pushed : (net : Plan) (nodes : List Node) (node : Node) (table : Graph) → IsTableOf net nodes table → IsTableOf net (nodes ++ node ∷ []) (lowered table node.edge)
table_pushed net nodes node table is =
    let edges : edges_of_nodes (nodes ++ node ∷ []) ≡ edges_of_nodes nodes ++ node.edge ∷ [] = map-append (λ (m : Node). m.edge) nodes (node ∷ []) in
    let folded : table_of (shape_of net) (edges_of_nodes nodes ++ node.edge ∷ []) ≡ lowered (table_of (shape_of net) (edges_of_nodes nodes)) node.edge =
    fold-append lowered (no_edges (shape_of net)) (edges_of_nodes nodes) (node.edge ∷ []) in
    ap (λ (g : Graph). lowered g node.edge) is ∙ sym (ap (table_of (shape_of net)) edges ∙ folded)

pub stands_pushed : (net : Plan) (support : Support) (node : Node) → StandsOn net support → IsGiven net support.nodes node
    → StandsOn net (record { nodes = support.nodes ++ node ∷ []; table = lowered support.table node.edge })
stands_pushed net support node stands given = record {
  derived = list_pushed net support.nodes node stands.derived given;
  based = All-weaker (Contains support.nodes) (Contains (support.nodes ++ node ∷ [])) (λ m inside. Contains-append_left support.nodes (node ∷ []) m inside) (base_nodes net) stands.based;
  table = table_pushed net support.nodes node support.table stands.table;
}
