-- The number of the node of each key, after one node more.
use Rattle.std.proofs.Common.{◌≡◌, ◌≢◌, ◌==◌, ◌&&◌, ◌+◌, ℕ, zero, suc, replicate, slice_index_or, ℤ, ◌≤ℤ◌, ◌<ℤ◌, ◌<◌, Bool, true, false, List, [], ◌∷◌, ◌++◌, length, Option, Some, None, refl, ap, sym, ◌∙◌, subst, arith}
use Rattle.std.specs.Prelude.{int_lt}
use Rattle.std.specs.Bool.{MatchBool}
use Rattle.std.specs.HashMap.{IsEmpty}
use Rattle.std.proofs.lemmas.Int.{ints}
use Rattle.std.proofs.lemmas.Bool.{eq-eqb, eqb-true, and_parts, and_from}
use Rattle.std.specs.Option.{option_eq}
use Rattle.net_model.specs.contracts.ids.LinkIdPartialEq.TheImpl as link_eq
use Rattle.net_model.specs.declared.ids.LinkId.{LinkId}
use Rattle.net_model.specs.declared.part.Edge.{Edge}
use Rattle.closure_model.specs.Keys.{Key, key_of}
use Rattle.closure_model.specs.Derivations.{node_at, IsNodeOf, IsNewest}
use Rattle.closure_model.specs.declared.derivation.Node.{Node}
use Rattle.closure_model.specs.declared.derivation.NodeId.{NodeId}
use Rattle.closure_model.proofs.Newest.{none_after, kept_after, new_after}
use Rattle.derivation_dag.specs.Places.{dense_place, recorded}
use Rattle.derivation_dag.specs.declared.key.EdgeKey.{EdgeKey}
use Rattle.derivation_dag.specs.declared.numbers.Numbers.{Numbers}
use Rattle.derivation_dag.specs.declared.pruned_dag.Numbered.{Numbered}
use Rattle.derivation_dag.specs.Pruned.{AreNumbered, IsHeld}
use Rattle.closure_model.proofs.Nodes.{at_push, before_push}
use Rattle.closure_model.proofs.Weights.{lt_is_not}
use Rattle.std.proofs.lemmas.List.{length_push}
use Rattle.std.proofs.lemmas.List.Elements.{All-push, All-weaker}
use Rattle.derivation_dag.specs.Numbers.{same_edge_key, edge_key, number_at, number_of, IsWithout, AreSame, NumbersNodes, IsBelowAll, IsBelowFirst, HasNodeAtMost}

-- ---- edge keys that pass the test are the same
same_label : (E : LinkId → LinkId → Bool) → ((x y : LinkId) → E x y ≡ true → x ≡ y) → (o p : Option LinkId) → option_eq E o p ≡ true → o ≡ p
same_label E statement None None is = refl
same_label E statement None (Some y) is = absurd cc
same_label E statement (Some x) None is = absurd cc
same_label E statement (Some x) (Some y) is = ap Some (statement x y is)

label_itself : (E : LinkId → LinkId → Bool) → ((x : LinkId) → E x x ≡ true) → (o : Option LinkId) → option_eq E o o ≡ true
label_itself E itself None = refl
label_itself E itself (Some x) = itself x

tested : (a b : EdgeKey) → same_edge_key a b ≡ true → a ≡ b
tested a b is =
    let (to, rest) = and_parts (a.to.0 == b.to.0) ((a.from.0 == b.from.0) && option_eq (link_eq.ghosts).eq a.label b.label) is in
    let (from, label) = and_parts (a.from.0 == b.from.0) (option_eq (link_eq.ghosts).eq a.label b.label) rest in
    let to_same : a.to.0 ≡ b.to.0 = eqb-true a.to.0 b.to.0 to in
    let from_same : a.from.0 ≡ b.from.0 = eqb-true a.from.0 b.from.0 from in
    let label_same : a.label ≡ b.label = same_label (link_eq.ghosts).eq (λ x y e. ap (λ (k : ℕ). record { 0 = k }) (eqb-true x.0 y.0 e)) a.label b.label label in
    λ i. record { to = record { 0 = to_same i }; from = record { 0 = from_same i }; label = label_same i }

passes : (a : EdgeKey) → same_edge_key a a ≡ true
passes a =
    and_from (a.to.0 == a.to.0) ((a.from.0 == a.from.0) && option_eq (link_eq.ghosts).eq a.label a.label) (eq-eqb a.to.0 a.to.0 refl)
    (and_from (a.from.0 == a.from.0) (option_eq (link_eq.ghosts).eq a.label a.label) (eq-eqb a.from.0 a.from.0 refl) (label_itself (link_eq.ghosts).eq (λ x. eq-eqb x.0 x.0 refl) a.label))

below_then : (w v u : ℤ) → int_lt w v ≡ true → v ≤ℤ u → w <ℤ u
below_then w v u test less = grind (arith, ints)

-- ---- whether an edge is below every node of its key
pub below_or_held : (nodes : List Node) (edge : Edge) (id : NodeId) (node : Node) → IsNodeOf nodes (key_of edge) id → node_at nodes id ≡ Some node → (b : Bool) → b ≡ int_lt edge.weight node.edge.weight
    → MatchBool b (IsBelowAll nodes edge) (HasNodeAtMost nodes edge)
below_or_held nodes edge id node was here b is = by b is
  where
    same : was.node ≡ node
    same = let both : Some was.node ≡ Some node = sym was.here ∙ here in cc

    by : (b : Bool) → b ≡ int_lt edge.weight node.edge.weight → MatchBool b (IsBelowAll nodes edge) (HasNodeAtMost nodes edge)
    by true is' = λ other m there of_key.
        let least : was.node.edge.weight ≤ℤ m.edge.weight = was.least other m there of_key in
        let weight : was.node.edge.weight ≡ node.edge.weight = ap (λ (n : Node). n.edge.weight) same in
        below_then edge.weight node.edge.weight m.edge.weight (sym is') (subst (λ (w : ℤ). w ≤ℤ m.edge.weight) weight least)
    by false is' = record {
      id = id;
      of_key = was;
      less = let weight : was.node.edge.weight ≡ node.edge.weight = ap (λ (n : Node). n.edge.weight) same in lt_is_not edge.weight was.node.edge.weight (ap (int_lt edge.weight) weight ∙ sym is');
    }

-- an edge is below every node of a key that has none
pub below_none : (nodes : List Node) (edge : Edge) → IsNewest nodes (key_of edge) None → IsBelowAll nodes edge
below_none nodes edge none other node here of_key = absurd (none other node here of_key)

-- an edge that is below the first nodes of its key is below all, if the node of its key is among those
pub below_first : (nodes : List Node) (edge : Edge) (id : NodeId) (first : ℕ) → IsNodeOf nodes (key_of edge) id → id.0 < first → IsBelowFirst nodes first edge → IsBelowAll nodes edge
below_first nodes edge id first was early below other m there of_key =
    let least : was.node.edge.weight ≤ℤ m.edge.weight = was.least other m there of_key in
    let under : edge.weight <ℤ was.node.edge.weight = below id was.node early was.here was.of_key in
    omega (arith, ints)

-- what is below all nodes of its key is below the first ones of a longer list
pub below_all_first : (nodes longer : List Node) (edge : Edge) → ((other : NodeId) (node : Node) → other.0 < length nodes → node_at longer other ≡ Some node → node_at nodes other ≡ Some node)
    → IsBelowAll nodes edge → IsBelowFirst longer (length nodes) edge
below_all_first nodes longer edge same below other node early here of_key = below other node (same other node early here) of_key

-- a key whose edge key passes the test beside that of another is the other one
key_by_test : (one other : Key) → same_edge_key (edge_key one) (edge_key other) ≡ true → one ≡ other
key_by_test one other test =
    let same : edge_key one ≡ edge_key other = tested (edge_key one) (edge_key other) test in
    λ i. record { to = (same i).to; from = (same i).from; label = (same i).label }

keys_apart : (one other : Key) → same_edge_key (edge_key one) (edge_key other) ≡ false → one ≢ other
keys_apart one other test same =
    let both : same_edge_key (edge_key one) (edge_key other) ≡ true = ap (λ (key : Key). same_edge_key (edge_key one) (edge_key key)) (sym same) ∙ passes (edge_key one) in
    let no : true ≡ false = sym both ∙ test in
    absurd cc

-- ---- one node more
module _ (nodes : List Node) (node : Node) (numbers : Numbers) (held : NumbersNodes nodes numbers) where
  -- one that is not below all of its key
  pub numbers_held : (after : Numbers) → AreSame numbers after → HasNodeAtMost nodes node.edge → (all : List Node) → all ≡ nodes ++ node ∷ [] → NumbersNodes all after
  numbers_held after same below all is key =
      subst (λ (ns : List Node). IsNewest ns key (number_of after key)) (sym is)
      (subst (λ o. IsNewest (nodes ++ node ∷ []) key o) (sym (same key)) (by (number_of numbers key) (held key)))
    where
      by : (o : Option NodeId) → IsNewest nodes key o → IsNewest (nodes ++ node ∷ []) key o
      by None none = none_after nodes node key (λ of_key. none below.id below.of_key.node below.of_key.here (below.of_key.of_key ∙ of_key)) none
      by (Some id) was = kept_after nodes node key id was (λ of_key.
          let least : was.node.edge.weight ≤ℤ below.of_key.node.edge.weight = was.least below.id below.of_key.node below.of_key.here (below.of_key.of_key ∙ of_key) in
          let under : below.of_key.node.edge.weight ≤ℤ node.edge.weight = below.less in
          omega (arith, ints))

  -- one that is below all of its key
  pub numbers_below : (after : Numbers) → number_of after (key_of node.edge) ≡ Some (record { 0 = length nodes })
      → ((key : Key) → key ≢ key_of node.edge → number_of after key ≡ number_of numbers key)
      → IsBelowAll nodes node.edge → (all : List Node) → all ≡ nodes ++ node ∷ [] → NumbersNodes all after
  numbers_below after here others below all is key =
      subst (λ (ns : List Node). IsNewest ns key (number_of after key)) (sym is) (by (same_edge_key (edge_key (key_of node.edge)) (edge_key key)) refl)
    where
      by : (b : Bool) → same_edge_key (edge_key (key_of node.edge)) (edge_key key) ≡ b → IsNewest (nodes ++ node ∷ []) key (number_of after key)
      by true test =
          let of_key = key_by_test (key_of node.edge) key test in
          let number = ap (number_of after) (sym of_key) ∙ here in
          subst (λ o. IsNewest (nodes ++ node ∷ []) key o) (sym number) (new_after nodes node key of_key (λ other m at m_key. below other m at (m_key ∙ sym of_key)))
      by false test =
          let apart = keys_apart (key_of node.edge) key test in
          subst (λ o. IsNewest (nodes ++ node ∷ []) key o) (sym (others key (λ same. apart (sym same)))) (otherwise apart (number_of numbers key) (held key))
        where
          otherwise : key_of node.edge ≢ key → (o : Option NodeId) → IsNewest nodes key o → IsNewest (nodes ++ node ∷ []) key o
          otherwise apart None none = none_after nodes node key apart none
          otherwise apart (Some other) was = kept_after nodes node key other was (λ of_key. absurd (apart of_key))

-- ---- what is held of a list that has one node more
module _ (whole : List Node) (held : List Numbered) (count : ℕ) (numbers : Numbers) (is : IsHeld whole held count numbers) (node : Node) where
  pub held_more : (longer : List Node) (after : List Numbered) (next : ℕ) (later : Numbers) → longer ≡ whole ++ node ∷ [] → after ≡ held ++ record { id = record { 0 = count }; node = node } ∷ [] → next ≡ count + 1
      → NumbersNodes (whole ++ node ∷ []) later → IsHeld longer after next later
  held_more longer after next later all more counted newest = record {
    each = subst (λ (ns : List Node). AreNumbered ns after) (sym all) (subst (AreNumbered (whole ++ node ∷ [])) (sym more)
        (All-push (λ (one : Numbered). node_at (whole ++ node ∷ []) one.id ≡ Some one.node) held (record { id = record { 0 = count }; node = node })
        (All-weaker (λ (one : Numbered). node_at whole one.id ≡ Some one.node) (λ (one : Numbered). node_at (whole ++ node ∷ []) one.id ≡ Some one.node) (λ one here. before_push whole node one.id.0 one.node here) held is.each)
        (ap (λ (n : ℕ). node_at (whole ++ node ∷ []) (record { 0 = n })) is.counted ∙ at_push whole node)));
    counted = counted ∙ (ap (λ (n : ℕ). n + 1) is.counted ∙ (sym (length_push whole node) ∙ ap length (sym all)));
    newest = subst (λ (ns : List Node). NumbersNodes ns later) (sym all) newest;
  }

-- ---- none at first
zero_at : (n place : ℕ) → ◌≡◌ {A = ℕ} (slice_index_or (replicate n 0) place 0) 0
zero_at zero place = refl
zero_at (suc n) zero = refl
zero_at (suc n) (suc place) = zero_at n place

pub none_counted : (numbers : Numbers) (n : ℕ) → numbers.ordinary.counted ≡ replicate n 0 → IsEmpty numbers.others → IsWithout numbers
none_counted numbers n zeros empty = λ key. by key (dense_place numbers.ordinary.points key)
  where
    by : (key : Key) (place : Option ℕ) → number_at numbers key place ≡ None
    by key None = search
    by key (Some place) = ap recorded (ap (λ (counted : List ℕ). slice_index_or counted place 0) zeros ∙ zero_at n place)
