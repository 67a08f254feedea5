-- The node of a key: after one node more, that there is one if the key has nodes, and what the table of the list says of it.
use Rattle.std.proofs.Common.{append_assoc, append-nil, ◌≡◌, ◌≢◌, ◌<◌, ℤ, ◌≤ℤ◌, ◌<ℤ◌, Bool, true, false, not, ◌&&◌, ◌⊎◌, List, [], ◌∷◌, ◌++◌, length, get_or, Option, Some, None, refl, ap, sym, ◌∙◌, subst, inl, inr, arith}
use Rattle.std.specs.Prelude.{slice_get, int_le, MatchOption, if◌then◌else◌}
use Rattle.std.specs.Option.{option_map, option_map_or}
use Rattle.std.specs.List.{Contains}
use Rattle.std.specs.Ordering.{eq_by_cmp}
use Rattle.std.proofs.lemmas.Int.{ints}
use Rattle.std.proofs.lemmas.List.Elements.{Contains-get_or}
use Rattle.std.proofs.lemmas.Option.{slice_get_within}
use Rattle.net_model.specs.declared.part.Edge.{Edge}
use Rattle.closure_model.specs.Keys.{Key, key_of, edge_of, key_cmp, Shape}
use Rattle.closure_model.specs.Tables.{weight_of, HasEdge, has_at_most, table_of}
use Rattle.closure_model.specs.Derivations.{node_at, edge_at, edges_of_nodes, IsNodeOf, HasNoNode, IsNewest, weight_at}
use Rattle.closure_model.specs.declared.derivation.Node.{Node}
use Rattle.closure_model.specs.declared.derivation.NodeId.{NodeId}
use Rattle.closure_model.proofs.KeyOrder.{key_test}
use Rattle.closure_model.proofs.Lists.{Contains-map, Contains-map_from}
use Rattle.closure_model.proofs.TableLemmas.{table_of-given, table_of-has, least-in_table_of, at_most_gives}
use Rattle.closure_model.proofs.Nodes.{before_push, at_push, push_cases, listed_at}
use Rattle.closure_model.proofs.BaseLemmas.{slice_get-contained}

abbrev new_id : List Node → NodeId
new_id nodes = record { 0 = length nodes }

module _ (nodes : List Node) (node : Node) (key : Key) where
  -- a node of another key changes nothing
  pub none_after : key_of node.edge ≢ key → HasNoNode nodes key → HasNoNode (nodes ++ node ∷ []) key
  none_after apart none id m here same = by (push_cases nodes node id.0 m here)
    where
      by : (slice_get nodes id.0 ≡ Some m) ⊎ ((id.0 ≡ length nodes) × (node ≡ m)) → ⊥
      by (inl there) = none id m there same
      by (inr (last, is)) = apart (ap (λ (n : Node). key_of n.edge) is ∙ same)

  -- a node stays that of its key unless the new one is of this key and of a lesser weight
  pub kept_after : (id : NodeId) (was : IsNodeOf nodes key id) → (key_of node.edge ≡ key → was.node.edge.weight ≤ℤ node.edge.weight) → IsNodeOf (nodes ++ node ∷ []) key id
  kept_after id was no_less = record {
    node = was.node;
    here = before_push nodes node id.0 was.node was.here;
    of_key = was.of_key;
    least = λ other m here same. by_least other m same (push_cases nodes node other.0 m here);
    first = λ other m here same below. by_first other m same below (push_cases nodes node other.0 m here);
  }
    where
      by_least : (other : NodeId) (m : Node) → key_of m.edge ≡ key → (slice_get nodes other.0 ≡ Some m) ⊎ ((other.0 ≡ length nodes) × (node ≡ m)) → was.node.edge.weight ≤ℤ m.edge.weight
      by_least other m same (inl there) = was.least other m there same
      by_least other m same (inr (last, is)) = subst (λ (n : Node). was.node.edge.weight ≤ℤ n.edge.weight) is (no_less (ap (λ (n : Node). key_of n.edge) is ∙ same))

      by_first : (other : NodeId) (m : Node) → key_of m.edge ≡ key → other.0 < id.0 → (slice_get nodes other.0 ≡ Some m) ⊎ ((other.0 ≡ length nodes) × (node ≡ m)) → was.node.edge.weight <ℤ m.edge.weight
      by_first other m same below (inl there) = was.first other m there same below
      by_first other m same below (inr (last, is)) = let inside : id.0 < length nodes = slice_get_within nodes id.0 was.node was.here in absurd (omega arith)

  -- a new node that is less than every node of its key is the node of the key
  pub new_after : key_of node.edge ≡ key → ((other : NodeId) (m : Node) → node_at nodes other ≡ Some m → key_of m.edge ≡ key → node.edge.weight <ℤ m.edge.weight) → IsNodeOf (nodes ++ node ∷ []) key (new_id nodes)
  new_after of_key less = record {
    node = node;
    here = at_push nodes node;
    of_key = of_key;
    least = λ other m here same. by_least other m same (push_cases nodes node other.0 m here);
    first = λ other m here same below. by_first other m same below (push_cases nodes node other.0 m here);
  }
    where
      by_least : (other : NodeId) (m : Node) → key_of m.edge ≡ key → (slice_get nodes other.0 ≡ Some m) ⊎ ((other.0 ≡ length nodes) × (node ≡ m)) → node.edge.weight ≤ℤ m.edge.weight
      by_least other m same (inl there) = let more : node.edge.weight <ℤ m.edge.weight = less other m there same in omega (arith, ints)
      by_least other m same (inr (last, is)) = let equal : node.edge.weight ≡ m.edge.weight = ap (λ (n : Node). n.edge.weight) is in omega (arith, ints)

      by_first : (other : NodeId) (m : Node) → key_of m.edge ≡ key → other.0 < length nodes → (slice_get nodes other.0 ≡ Some m) ⊎ ((other.0 ≡ length nodes) × (node ≡ m)) → node.edge.weight <ℤ m.edge.weight
      by_first other m same below (inl there) = less other m there same
      by_first other m same below (inr (last, is)) = absurd (omega arith)

-- ---- the table of a list and the nodes of its keys
module _ (shape : Shape) (nodes : List Node) where
  -- a node's edge is among the edges of the list
  edge_among : (id : NodeId) (node : Node) → node_at nodes id ≡ Some node → Contains (edges_of_nodes nodes) node.edge
  edge_among id node here = Contains-map (λ (m : Node). m.edge) nodes node (listed_at nodes id.0 node here)

  -- an edge that is among them is that of a node
  pub node_of_edge : (edge : Edge) → Contains (edges_of_nodes nodes) edge → (id : NodeId) × (node : Node) × (node_at nodes id ≡ Some node) × (node.edge ≡ edge)
  node_of_edge edge inside =
      let (node, among, is) = Contains-map_from (λ (m : Node). m.edge) nodes edge inside in
      let (place, here) = slice_get-contained nodes node among in
      (record { 0 = place }, node, here, is)

  pub newest_held : (key : Key) (id : NodeId) (was : IsNodeOf nodes key id) → HasEdge (table_of shape (edges_of_nodes nodes)) was.node.edge
  newest_held key id was = least-in_table_of shape (edges_of_nodes nodes) was.node.edge (record {
    is_given = edge_among id was.node was.here;
    least = λ k d inside same.
        let edge : Edge = get_or (edges_of_nodes nodes) k d in
        let (other, m, here, is) = node_of_edge edge (Contains-get_or (edges_of_nodes nodes) k d inside) in
        let key_is : key_of m.edge ≡ key = ap key_of is ∙ (same ∙ was.of_key) in
        subst (λ (e : Edge). was.node.edge.weight ≤ℤ e.weight) is (was.least other m here key_is);
  })

  -- a key that the table lacks has no node, and one without a node is not in the table
  pub none_lacking : (key : Key) → HasNoNode nodes key → weight_of (table_of shape (edges_of_nodes nodes)) key ≡ None
  none_lacking key none = by (weight_of (table_of shape (edges_of_nodes nodes)) key) refl
    where
      by : (o : Option ℤ) → weight_of (table_of shape (edges_of_nodes nodes)) key ≡ o → o ≡ None
      by None is = refl
      by (Some weight) is =
          let (id, node, here, same) = node_of_edge (edge_of key weight) (table_of-given shape (edges_of_nodes nodes) (edge_of key weight) is) in
          absurd (none id node here (ap key_of same))

  -- a node that lowers its key is less than every node of its key
  pub lowers_all : (node : Node) → has_at_most (table_of shape (edges_of_nodes nodes)) node.edge ≡ false
      → (other : NodeId) (m : Node) → node_at nodes other ≡ Some m → key_of m.edge ≡ key_of node.edge → node.edge.weight <ℤ m.edge.weight
  lowers_all node lowers other m here same =
      let (weight, is, less) = at_most_gives (table_of shape (edges_of_nodes nodes)) m.edge (table_of-has shape (edges_of_nodes nodes) m.edge (edge_among other m here)) in
      let there : weight_of (table_of shape (edges_of_nodes nodes)) (key_of node.edge) ≡ Some weight = ap (weight_of (table_of shape (edges_of_nodes nodes))) (sym same) ∙ is in
      let test : int_le weight node.edge.weight ≡ false = ap (λ o. option_map_or (λ (w : ℤ). int_le w node.edge.weight) o false) (sym there) ∙ lowers in
      beyond node.edge.weight weight m.edge.weight test less
    where
      beyond : (w v u : ℤ) → int_le v w ≡ false → v ≤ℤ u → w <ℤ u
      beyond w v u test less = grind (arith, ints)

  -- a node that does not lower its key leaves the node of the key
  pub held_under : (node : Node) (id : NodeId) (was : IsNodeOf nodes (key_of node.edge) id) → has_at_most (table_of shape (edges_of_nodes nodes)) node.edge ≡ true → was.node.edge.weight ≤ℤ node.edge.weight
  held_under node id was holds =
      let held : weight_of (table_of shape (edges_of_nodes nodes)) (key_of was.node.edge) ≡ Some was.node.edge.weight = newest_held (key_of node.edge) id was in
      let there : weight_of (table_of shape (edges_of_nodes nodes)) (key_of node.edge) ≡ Some was.node.edge.weight = ap (weight_of (table_of shape (edges_of_nodes nodes))) (sym was.of_key) ∙ held in
      let test : int_le was.node.edge.weight node.edge.weight ≡ true = ap (λ o. option_map_or (λ (w : ℤ). int_le w node.edge.weight) o false) (sym there) ∙ holds in
      no_more was.node.edge.weight node.edge.weight test
    where
      no_more : (v w : ℤ) → int_le v w ≡ true → v ≤ℤ w
      no_more v w test = grind (arith, ints)

-- ---- the node of a key once a node has come
-- the number that a key then has
abbrev pub newest_after : Option NodeId → Bool → Bool → NodeId → Option NodeId
newest_after found of_key holds id = if of_key && not holds then Some id else found

module _ (shape : Shape) (nodes : List Node) (node : Node) (key : Key) where
  pub newest_pushed : (found : Option NodeId) → IsNewest nodes key found
      → IsNewest (nodes ++ node ∷ []) key (newest_after found (eq_by_cmp key_cmp (key_of node.edge) key) (has_at_most (table_of shape (edges_of_nodes nodes)) node.edge) (new_id nodes))
  newest_pushed found is = by (eq_by_cmp key_cmp (key_of node.edge) key) refl (has_at_most (table_of shape (edges_of_nodes nodes)) node.edge) refl found is
    where
      by : (of_key : Bool) → eq_by_cmp key_cmp (key_of node.edge) key ≡ of_key → (holds : Bool) → has_at_most (table_of shape (edges_of_nodes nodes)) node.edge ≡ holds
          → (o : Option NodeId) → IsNewest nodes key o → IsNewest (nodes ++ node ∷ []) key (newest_after o of_key holds (new_id nodes))
      by true same false lowers o newest =
          let of_key : key_of node.edge ≡ key = (key_test (key_of node.edge) key).0 same in
          new_after nodes node key of_key (λ other m here m_key. lowers_all shape nodes node lowers other m here (m_key ∙ sym of_key))
      by true same true holds None newest =
          let of_key : key_of node.edge ≡ key = (key_test (key_of node.edge) key).0 same in
          let none : weight_of (table_of shape (edges_of_nodes nodes)) (key_of node.edge) ≡ None = ap (weight_of (table_of shape (edges_of_nodes nodes))) of_key ∙ none_lacking shape nodes key newest in
          let test : false ≡ true = ap (λ o. option_map_or (λ (w : ℤ). int_le w node.edge.weight) o false) (sym none) ∙ holds in
          absurd cc
      by true same true holds (Some id) newest =
          kept_after nodes node key id newest (λ of_key. held_under shape nodes node id (subst (λ (k : Key). IsNodeOf nodes k id) (sym of_key) newest) holds)
      by false apart holds test None newest = none_after nodes node key (λ of_key. differ ((key_test (key_of node.edge) key).1 of_key)) newest
        where
          differ : eq_by_cmp key_cmp (key_of node.edge) key ≡ true → ⊥
          differ is = let both : true ≡ false = sym is ∙ apart in absurd cc
      by false apart holds test (Some id) newest = kept_after nodes node key id newest (λ of_key. absurd (differ ((key_test (key_of node.edge) key).1 of_key)))
        where
          differ : eq_by_cmp key_cmp (key_of node.edge) key ≡ true → ⊥
          differ is = let both : true ≡ false = sym is ∙ apart in absurd cc

-- ---- a key with nodes has its node
none_of_nothing : (key : Key) → HasNoNode [] key
none_of_nothing key id node here same = absurd cc

newest_along : (shape : Shape) (key : Key) (rest done : List Node) (found : Option NodeId) → IsNewest done key found → (o : Option NodeId) × IsNewest (done ++ rest) key o
newest_along shape key [] done found is = (found, subst (λ (all : List Node). IsNewest all key found) (sym (append-nil done)) is)
newest_along shape key (node ∷ rest) done found is =
    let after = newest_after found (eq_by_cmp key_cmp (key_of node.edge) key) (has_at_most (table_of shape (edges_of_nodes done)) node.edge) (new_id done) in
    let (o, newest) = newest_along shape key rest (done ++ node ∷ []) after (newest_pushed shape done node key found is) in
    (o, subst (λ (all : List Node). IsNewest all key o) (append_assoc done (node ∷ []) rest) newest)

pub newest_exists : (shape : Shape) (nodes : List Node) (key : Key) → (o : Option NodeId) × IsNewest nodes key o
newest_exists shape nodes key = newest_along shape key nodes [] None (none_of_nothing key)

module _ (shape : Shape) (nodes : List Node) (key : Key) where
  -- the table of a list has the keys of its nodes, each at the weight of its node
  pub table_matches : MatchOption (weight_of (table_of shape (edges_of_nodes nodes)) key) (HasNoNode nodes key) (λ weight. (id : NodeId) × IsNodeOf nodes key id × (edge_at nodes id ≡ Some (edge_of key weight)))
  table_matches = by (newest_exists shape nodes key)
    where
      by : (o : Option NodeId) × IsNewest nodes key o → MatchOption (weight_of (table_of shape (edges_of_nodes nodes)) key) (HasNoNode nodes key) (λ weight. (id : NodeId) × IsNodeOf nodes key id
          × (edge_at nodes id ≡ Some (edge_of key weight)))
      by (None, none) =
          subst (λ o. MatchOption o (HasNoNode nodes key) (λ (weight : ℤ). (id : NodeId) × IsNodeOf nodes key id × (edge_at nodes id ≡ Some (edge_of key weight)))) (sym (none_lacking shape nodes key none)) none
      by (Some id, was) =
          let held : weight_of (table_of shape (edges_of_nodes nodes)) key ≡ Some was.node.edge.weight = ap (weight_of (table_of shape (edges_of_nodes nodes))) (sym was.of_key) ∙ newest_held shape nodes key id was in
          let read : edge_at nodes id ≡ Some (edge_of key was.node.edge.weight) = ap (option_map (λ (m : Node). m.edge)) was.here ∙ ap (λ (k : Key). Some (edge_of k was.node.edge.weight)) was.of_key in
          subst (λ o. MatchOption o (HasNoNode nodes key) (λ (weight : ℤ). (id : NodeId) × IsNodeOf nodes key id × (edge_at nodes id ≡ Some (edge_of key weight)))) (sym held) (id, was, read)

  -- what is found as the node of the key has the weight of the table
  pub newest_weight : (found : Option NodeId) → IsNewest nodes key found → weight_at nodes found ≡ weight_of (table_of shape (edges_of_nodes nodes)) key
  newest_weight None none = sym (none_lacking shape nodes key none)
  newest_weight (Some id) was =
      let held : weight_of (table_of shape (edges_of_nodes nodes)) key ≡ Some was.node.edge.weight = ap (weight_of (table_of shape (edges_of_nodes nodes))) (sym was.of_key) ∙ newest_held shape nodes key id was in
      ap (λ (o : Option Node). option_map (λ (edge : Edge). edge.weight) (option_map (λ (m : Node). m.edge) o)) was.here ∙ sym held
