-- One node more in a list that follows an edit, and its table.
use Rattle.std.proofs.Common.{◌≡◌, ℕ, suc, ◌+◌, ◌<◌, List, [], ◌∷◌, ◌++◌, length, take, Option, Some, refl, ap, sym, ◌∙◌, subst, arith}
use Rattle.std.specs.Prelude.{slice_get}
use Rattle.std.proofs.lemmas.Option.{slice_get_within}
use Rattle.std.proofs.Math.Seq.{take-length}
use Rattle.net_model.specs.Network.{Plan, IsPlan}
use Rattle.net_model.specs.Edges.{IsEdge}
use Rattle.closure_model.specs.Derivations.{Support, IsGiven, with_node, edges_of_nodes}
use Rattle.closure_model.specs.Keys.{shape_of}
use Rattle.closure_model.specs.Tables.{Graph, IsFor, no_edges}
use Rattle.closure_model.specs.declared.derivation.Node.{Node}
use Rattle.closure_model.specs.declared.derivation.NodeId.{NodeId}
use Rattle.closure_model.proofs.LawProofs.{law_derivable_are_edges}
use Rattle.closure_model.proofs.DerivedNodes.{node_derivable}
use Rattle.closure_model.proofs.Nodes.{at_push}
use Rattle.closure_model.proofs.SupportLemmas.{list_pushed, table_pushed}
use Rattle.closure_model.proofs.TableLemmas.{all_lowered-shape}
use Rattle.derivation_dag.specs.SupportedTables.{no_support}
use Rattle.edit_laws.specs.KeptLists.{Renumbering, Following, none_followed, placed, follow_node, followed, moved_node}
use Rattle.edit_laws.proofs.KeptDerived.{first_derived, given_new}
use Rattle.edit_laws.proofs.Prefixes.{one_more}
use Rattle.support_records.specs.FollowedStores.{IsDerivedOn}
use Rattle.support_records.specs.Moves.{CanFollow}

-- ---- a derivation list with its table, and one node more
module _ (net : Plan) (support : Support) (on : IsDerivedOn net support) where
  pub table_for : IsFor net support.table
  table_for = ap (λ (t : Graph). t.shape) on.table ∙ all_lowered-shape (no_edges (shape_of net)) (edges_of_nodes support.nodes)

  pub edge_given : IsPlan net → (node : Node) → IsGiven net support.nodes node → IsEdge net node.edge
  edge_given plan node given =
      law_derivable_are_edges net node.edge plan (node_derivable net (support.nodes ++ node ∷ []) (list_pushed net support.nodes node on.derived given) (record { 0 = length support.nodes }) node (at_push support.nodes node))

  pub derived_more : (node : Node) → IsGiven net support.nodes node → IsDerivedOn net (with_node support node)
  derived_more node given = record { derived = list_pushed net support.nodes node on.derived given; table = table_pushed net support.nodes node support.table on.table }

pub none_derived : (net : Plan) → IsDerivedOn net (no_support net)
none_derived net = record { derived = λ id node here. absurd (let inside : id.0 < 0 = slice_get_within [] id.0 node here in omega arith); table = refl }

-- ---- the loop over the nodes
-- what was kept of the first nodes
pub record KeptFirst (new : Plan) (moves : Renumbering) (nodes : List Node) (n : ℕ) (places : List (Option NodeId)) (after : Support) : Type 0 where
  pub following : record { places = places; kept = after.nodes } ≡ followed moves (take n nodes)
  pub derived : IsDerivedOn new after

pub kept_none : (new : Plan) (moves : Renumbering) (nodes : List Node) (places : List (Option NodeId)) (after : Support) → places ≡ [] → after ≡ no_support new → KeptFirst new moves nodes 0 places after
kept_none new moves nodes places after no_places empty = record {
  following = λ i. record { places = no_places i; kept = (empty i).nodes };
  derived = subst (IsDerivedOn new) (sym empty) (none_derived new);
}

module _ (old new : Plan) (moves : Renumbering) (nodes : List Node) (can : CanFollow old new moves nodes) (n : ℕ) (places : List (Option NodeId)) (after : Support)
    (was : KeptFirst new moves nodes n places after) (node : Node) (here : slice_get nodes n ≡ Some node) where
  kept_is : after.nodes ≡ (followed moves (take n nodes)).kept
  kept_is = ap (λ (f : Following). f.kept) was.following

  places_are : places ≡ (followed moves (take n nodes)).places
  places_are = ap (λ (f : Following). f.places) was.following

  pub kept_given : (made : Node) → moved_node moves places node ≡ Some made → IsGiven new after.nodes made
  kept_given made moved =
      subst (λ (ns : List Node). IsGiven new ns made) (sym kept_is)
      (given_new old new moves can.is nodes can.derived n node (followed moves (take n nodes)) here
      (first_derived old new moves can.is nodes can.derived n (let inside : n < length nodes = slice_get_within nodes n node here in omega arith)).kept made
      (subst (λ (ps : List (Option NodeId)). moved_node moves ps node ≡ Some made) places_are moved))

  pub kept_more : (moved : Option Node) → moved ≡ moved_node moves places node → (place : Option NodeId) (all : List (Option NodeId)) (more : Support)
      → placed (record { places = places; kept = after.nodes }) moved ≡ record { places = places ++ place ∷ []; kept = more.nodes } → all ≡ places ++ place ∷ [] → IsDerivedOn new more → KeptFirst new moves nodes (n + 1) all more
  kept_more moved is place all more goes pushed derived = record {
    following =
        (λ i. record { places = pushed i; kept = more.nodes })
        ∙ (sym goes
        ∙ (ap (placed (record { places = places; kept = after.nodes })) is
        ∙ (ap (λ (f : Following). follow_node moves f node) was.following
        ∙ (sym (one_more (follow_node moves) none_followed nodes n node here) ∙ ap (λ (k : ℕ). followed moves (take k nodes)) (let number : suc n ≡ n + 1 = omega arith in number)))));
    derived = derived;
  }

pub kept_all : (new : Plan) (moves : Renumbering) (nodes : List Node) (n : ℕ) (places : List (Option NodeId)) (after : Support) → n ≡ length nodes → KeptFirst new moves nodes n places after → after.nodes ≡ (followed moves nodes).kept
kept_all new moves nodes n places after all was =
    ap (λ (f : Following). f.kept) was.following ∙ ap (λ (ns : List Node). (followed moves ns).kept) (ap (λ (k : ℕ). take k nodes) all ∙ take-length nodes)
