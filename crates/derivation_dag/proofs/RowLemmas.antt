-- The edges that a row made with their nodes.
use Rattle.std.proofs.Common.{◌≡◌, ◌<◌, ◌≤◌, ◌+◌, ◌⊎◌, inl, inr, ℕ, List, [], ◌∷◌, ◌++◌, length, get_or, drop, Option, Some, false, ℤ, ◌<ℤ◌, refl, ap, sym, ◌∙◌, subst, arith}
use Rattle.std.specs.Option.{option_map_or}
use Rattle.std.specs.List.{All, Contains}
use Rattle.std.specs.Prelude.{slice_get, int_le}
use Rattle.std.proofs.lemmas.List.{drop_more, length_push}
use Rattle.std.proofs.lemmas.List.Elements.{All-cons, All-nil}
use Rattle.net_model.specs.Network.{Plan, IsPlan}
use Rattle.net_model.specs.Limits.{IsWeight}
use Rattle.net_model.specs.declared.ids.PointId.{PointId}
use Rattle.closure_model.specs.Derivations.{Support, edges_of_nodes, node_at, with_node}
use Rattle.closure_model.specs.Keys.{Shape, IsKey, key_of}
use Rattle.closure_model.specs.Tables.{Graph, HasAtMost, has_at_most, lowered, no_edges, weight_of}
use Rattle.closure_model.specs.ReferenceRow.{IsBelow}
use Rattle.closure_model.proofs.Lists.{Contains-map}
use Rattle.closure_model.proofs.Nodes.{listed_at, push_cases}
use Rattle.closure_model.proofs.TableLemmas.{at_most_gives, table_of-has}
use Rattle.net_model.specs.declared.part.Edge.{Edge}
use Rattle.std.proofs.lemmas.Int.{ints}
use Rattle.closure_model.specs.declared.derivation.Node.{Node}
use Rattle.closure_model.specs.declared.derivation.NodeId.{NodeId}
use Rattle.closure_model.specs.declared.derivation.Rule.{Rule}
use Rattle.closure_model.specs.declared.rows.Made.{Made}
use Rattle.closure_model.proofs.DerivedNodes.{given_within}
use Rattle.labelled_graph.specs.MergedRows.{AreMadeFor}
use Rattle.derivation_dag.specs.Rows.{nodes_with, nodes_with_all, with_row, CanTakeRow, HasRule, HaveRules}
use Rattle.derivation_dag.specs.Numbers.{IsBelowAll}
use Rattle.derivation_dag.specs.SupportedTables.{IsSupported}
use Rattle.derivation_dag.proofs.PlainLemmas.{key_of_edge, supported_more}

pub node_comes : (net : Plan) (nodes : List Node) (one : Made) (first : Option NodeId) (has : HasRule net nodes one first) → nodes_with nodes one first ≡ nodes ++ record { rule = has.rule; edge = one.edge } ∷ []
node_comes net nodes one first has = ap (λ (o : Option Rule). option_map_or (λ rule. nodes ++ record { rule = rule; edge = one.edge } ∷ []) o nodes) has.is

-- ---- one edge after another
-- if an edge is left, a node for its first premise is
pub none_without : (net : Plan) (nodes : List Node) (made : List Made) (i : ℕ) (firsts : List (Option NodeId)) → i < length made → length firsts ≡ 0 → HaveRules net nodes (drop i made) firsts → ⊥
none_without net nodes [] i firsts inside none have = absurd (omega (arith, inside))
none_without net nodes (one ∷ made) i [] inside none have = subst (λ (ones : List Made). HaveRules net nodes ones []) (drop_more (one ∷ made) i one inside) have
none_without net nodes (one ∷ made) i (first ∷ firsts) inside none have = absurd (omega (arith, none))

-- the nodes that a list had have their numbers still
abbrev pub HasEarlier : List Node → List Node → Type 0
HasEarlier start nodes = (other : NodeId) (node : Node) → other.0 < length start → node_at nodes other ≡ Some node → node_at start other ≡ Some node

-- a list after one edge more got its node
pub record Comes (net : Plan) (start all after : List Node) (made : List Made) (firsts : List (Option NodeId)) : Type 0 where
  pub nodes : nodes_with_all after made firsts ≡ all
  pub left : HaveRules net after made firsts
  pub longer : length start ≤ length after
  pub earlier : HasEarlier start after

pub one_comes : (net : Plan) (start all nodes after : List Node) (made : List Made) (i : ℕ) (d : Made) (firsts rest : List (Option NodeId)) (first : Option NodeId)
    → i < length made → firsts ≡ first ∷ rest → Comes net start all nodes (drop i made) firsts → after ≡ nodes_with nodes (get_or made i d) first → Comes net start all after (drop (i + 1) made) rest
one_comes net start all nodes after made i d firsts rest first inside these comes is =
    subst (λ (ns : List Node). Comes net start all ns (drop (i + 1) made) rest) (sym is) (by here.left.0)
  where
    one : Made
    one = get_or made i d

    here : Comes net start all nodes (one ∷ drop (i + 1) made) (first ∷ rest)
    here = subst (λ (ones : List Made). Comes net start all nodes ones (first ∷ rest)) (drop_more made i d inside) (subst (Comes net start all nodes (drop i made)) these comes)

    by : HasRule net nodes one first → Comes net start all (nodes_with nodes one first) (drop (i + 1) made) rest
    by has = record {
      nodes = here.nodes;
      left = here.left.1;
      longer = subst (λ (ns : List Node). length start ≤ length ns) (sym (node_comes net nodes one first has)) (let size = length_push nodes (record { rule = has.rule; edge = one.edge }) in let before : length start ≤ length nodes = here.longer in omega (arith, size));
      earlier = subst (HasEarlier start) (sym (node_comes net nodes one first has)) (λ other node early at. cases other node early (push_cases nodes (record { rule = has.rule; edge = one.edge }) other.0 node at));
    }
      where
        cases : (other : NodeId) (node : Node) → other.0 < length start → (slice_get nodes other.0 ≡ Some node) ⊎ ((other.0 ≡ length nodes) × (record { rule = has.rule; edge = one.edge } ≡ node)) → node_at start other ≡ Some node
        cases other node early (inl there) = here.earlier other node early there
        cases other node early (inr (last, same)) = let longer : length start ≤ length nodes = here.longer in absurd (omega (arith, last))

-- ---- all of them
rules_within : (net : Plan) → IsPlan net → (nodes : List Node) → All (λ (node : Node). IsWeight node.edge.weight) nodes → (table : Graph) (made : List Made) (firsts : List (Option NodeId))
    → IsSupported (record { nodes = nodes; table = table }) → HaveRules net nodes made firsts
    → All (λ (one : Made). IsWeight one.edge.weight) made × IsSupported (with_row (record { nodes = nodes; table = table }) made firsts)
rules_within net plan nodes weights table [] firsts supported have = (All-nil (λ (one : Made). IsWeight one.edge.weight), supported)
rules_within net plan nodes weights table (one ∷ made) [] supported have = absurd have
rules_within net plan nodes weights table (one ∷ made) (first ∷ firsts) supported (has, rest) =
    let node : Node = record { rule = has.rule; edge = one.edge } in
    let comes : nodes_with nodes one first ≡ nodes ++ node ∷ [] = node_comes net nodes one first has in
    let within : IsWeight one.edge.weight = given_within net plan nodes weights node has.follows in
    let next : IsSupported (with_node (record { nodes = nodes; table = table }) node) = supported_more (record { nodes = nodes; table = table }) node supported within in
    let (all, after) = rules_within net plan (nodes ++ node ∷ []) next.weights (lowered table one.edge) made firsts next (subst (λ (ns : List Node). HaveRules net ns made firsts) comes rest) in
    (All-cons (λ (m : Made). IsWeight m.edge.weight) one made within all, subst (λ (ns : List Node). IsSupported (with_row (record { nodes = ns; table = lowered table one.edge }) made firsts)) (sym comes) after)

pub supported_row : (net : Plan) → IsPlan net → (support : Support) (to : PointId) (made : List Made) (firsts : List (Option NodeId)) → IsSupported support → CanTakeRow net support to made firsts → IsSupported (with_row support made firsts)
supported_row net plan support to made firsts supported can = (rules_within net plan support.nodes supported.weights support.table made firsts supported can.rules).1

pub made_for : (net : Plan) → IsPlan net → (support : Support) (to : PointId) (made : List Made) (firsts : List (Option NodeId)) → IsSupported support → CanTakeRow net support to made firsts → AreMadeFor support.table to made
made_for net plan support to made firsts supported can = record {
  target = can.target;
  ends = can.ends;
  edges = λ k d inside. (subst (λ (s : Shape). IsKey s (key_of (get_or made k d).edge)) (sym can.for_network) (key_of_edge net (get_or made k d).edge (can.edges k d inside)), weights k d inside);
  descends = can.descends;
}
  where
    weights : All (λ (one : Made). IsWeight one.edge.weight) made
    weights = (rules_within net plan support.nodes supported.weights support.table made firsts supported can.rules).0

-- ---- what a row made is below the nodes of its keys
pub below_node : (support : Support) (edge : Edge) → IsSupported support → IsBelow support.table edge → IsBelowAll support.nodes edge
below_node support edge supported below other node here of_key =
    let listed : Contains (edges_of_nodes support.nodes) node.edge = Contains-map (λ (m : Node). m.edge) support.nodes node (listed_at support.nodes other.0 node here) in
    let has : HasAtMost support.table node.edge = subst (λ (table : Graph). HasAtMost table node.edge) (sym supported.tabled) (table_of-has support.table.shape (edges_of_nodes support.nodes) node.edge listed) in
    let (weight, is, less) = at_most_gives support.table node.edge has in
    let under : edge.weight <ℤ weight = below weight (ap (weight_of support.table) (sym of_key) ∙ is) in
    omega (arith, ints)

-- an edge that a table has not at most
pub below_tested : (table : Graph) (edge : Edge) → has_at_most table edge ≡ false → IsBelow table edge
below_tested table edge test weight is =
    let no : int_le weight edge.weight ≡ false = sym (ap (λ (o : Option ℤ). option_map_or (λ (w : ℤ). int_le w edge.weight) o false) is) ∙ test in
    grind (arith, ints)

pub below_nodes : (net : Plan) (support : Support) (to : PointId) (made : List Made) (firsts : List (Option NodeId)) → IsSupported support → CanTakeRow net support to made firsts → All (λ (one : Made). IsBelowAll support.nodes one.edge) made
below_nodes net support to made firsts supported can = λ k d inside. below_node support (get_or made k d).edge supported (can.descends k d inside)

-- ---- a store that is lost
pub none_supported : (nodes : List Node) (table : Graph) (shape : Shape) → nodes ≡ [] → table ≡ no_edges shape → IsSupported (record { nodes = nodes; table = table })
none_supported nodes table shape none empty =
    let nothing : IsSupported (record { nodes = []; table = no_edges shape }) = record { tabled = refl; weights = All-nil (λ (node : Node). IsWeight node.edge.weight) } in
    subst (λ (ns : List Node). IsSupported (record { nodes = ns; table = table })) (sym none) (subst (λ (t : Graph). IsSupported (record { nodes = []; table = t })) (sym empty) nothing)
