-- The history of one round is a history of the table: if a node comes by its own rule, its edge is relaxed by the worker of its row.
use Rattle.std.proofs.Common.{◌≡◌, ℕ, List, [], ◌∷◌, ◌++◌, fold, Some, refl, ap, sym, subst, ◌∙◌, append_assoc, append-nil}
use Rattle.std.specs.Prelude.{slice_get}
use Rattle.std.proofs.lemmas.List.{map-append}
use Rattle.std.proofs.lemmas.List.Sums.{fold_push}
use Rattle.net_model.specs.Network.{Plan}
use Rattle.net_model.specs.Rules.{Follows, bound_edge, link_edge, by_bound, by_link, by_no_case, by_upper_case, by_lower_case, by_cross_case, by_removal}
use Rattle.net_model.specs.declared.part.Edge.{Edge}
use Rattle.closure_model.specs.Derivations.{Support, given_by, edges_of_nodes}
use Rattle.closure_model.specs.ReferenceRow.{IsBelow}
use Rattle.closure_model.specs.Tables.{Graph, lowered}
use Rattle.closure_model.specs.declared.derivation.Node.{Node}
use Rattle.closure_model.specs.declared.derivation.Rule.{Rule}
use Rattle.closure_model.specs.declared.derivation.Rule.TheVariants as by_rule
use Rattle.closure_model.proofs.Slots.{some_of_map}
use Rattle.shared_table_laws.specs.TableHistory as table_history
use Rattle.shared_table_laws.specs.TableHistory.{Past, edges_read_by, RelaxesInRow, LowerInTurn, TableHistory}
use Rattle.shared_table_laws.specs.NodeRules.{RoundPast, HasReadPremises, RoundHistory, begins, reads, adds, RoundHistoriesAreHistories}

-- what a rule gives from premises whose edges a worker read follows from what it read
follows_from : (net : Plan) (first : Graph) (past : RoundPast) (worker : ℕ) (edge : Edge) (rule : Rule) → given_by net past.support.nodes rule ≡ Some edge
    → HasReadPremises first past worker rule → Follows net (edges_read_by worker past.read) edge
follows_from net first past worker edge (by_rule.Bound name) given read = let (bound, at, is) = some_of_map bound_edge (slice_get net.bounds name.0) edge given in by_bound name.0 bound at is
follows_from net first past worker edge (by_rule.Link name) given read = let (link, at, is) = some_of_map (link_edge name) (slice_get net.links name.0) edge given in by_link name link at is
follows_from net first past worker edge (by_rule.No one second) given (p, q) = by_no_case p.edge q.edge p.read q.read (rw (p.is, q.is) at given)
follows_from net first past worker edge (by_rule.Up one second) given (p, q) = by_upper_case p.edge q.edge p.read q.read (rw (p.is, q.is) at given)
follows_from net first past worker edge (by_rule.Low name second) given p = by_lower_case name p.edge p.read (rw p.is at given)
follows_from net first past worker edge (by_rule.Cross name second) given p = by_cross_case name p.edge p.read (rw p.is at given)
follows_from net first past worker edge (by_rule.Drop premise) given p = by_removal p.edge p.read (rw p.is at given)

lower_push : (table : Graph) (edges : List Edge) (edge : Edge) → LowerInTurn table edges → IsBelow (fold lowered table edges) edge → LowerInTurn table (edges ++ edge ∷ [])
lower_push table [] edge all below = (below, tt)
lower_push table (one ∷ edges) edge (here, rest) below = (here, lower_push (lowered table one) edges edge rest below)

-- the table's history so far, and that the new nodes lead from the first table to the one that stands
record HasTableHistory (net : Plan) (first : Support) (past : RoundPast) : Type 0 where
  nodes : List Node
  more : past.support.nodes ≡ first.nodes ++ nodes
  history : TableHistory (RelaxesInRow net) first.table (record { table = past.support.table; read = past.read; relaxed = edges_of_nodes nodes })
  lower : LowerInTurn first.table (edges_of_nodes nodes)
  table : past.support.table ≡ fold lowered first.table (edges_of_nodes nodes)

recorded : (net : Plan) (first : Support) (past : RoundPast) → RoundHistory net first past → HasTableHistory net first past
recorded net first past (begins _ is) =
    subst (HasTableHistory net first) (sym is) (record { nodes = []; more = sym (append-nil first.nodes); history = table_history.begins _ refl; lower = tt; table = refl })
recorded net first past (reads before _ worker edge history has is) =
    let was = recorded net first before history in
    let so_far : Past = record { table = before.support.table; read = before.read; relaxed = edges_of_nodes was.nodes } in
    subst (HasTableHistory net first) (sym is)
    (record { nodes = was.nodes; more = was.more; history = table_history.reads so_far _ worker edge was.history has refl; lower = was.lower; table = was.table })
recorded net first past (adds before _ node history comes is) =
    let was = recorded net first before history in
    let edge : Edge = node.edge in
    let edges : List Edge = edges_of_nodes was.nodes in
    let so_far : Past = record { table = before.support.table; read = before.read; relaxed = edges } in
    let follows = follows_from net first.table before edge.to.0 edge node.rule comes.given comes.read in
    let grown : edges ++ edge ∷ [] ≡ edges_of_nodes (was.nodes ++ node ∷ []) = sym (map-append (λ (n : Node). n.edge) was.nodes (node ∷ [])) in
    let below : IsBelow (fold lowered first.table edges) edge = subst (λ (t : Graph). IsBelow t edge) was.table comes.lowers in
    let next : TableHistory (RelaxesInRow net) first.table (record { table = lowered before.support.table edge; read = before.read; relaxed = edges ++ edge ∷ [] }) =
    table_history.lowers so_far _ edge.to.0 edge was.history (refl, follows) refl in
    subst (HasTableHistory net first) (sym is) (record {
      nodes = was.nodes ++ node ∷ [];
      more = ap (λ (ns : List Node). ns ++ node ∷ []) was.more ∙ append_assoc first.nodes was.nodes (node ∷ []);
      history = subst (λ (o : List Edge). TableHistory (RelaxesInRow net) first.table (record { table = lowered before.support.table edge; read = before.read; relaxed = o })) grown next;
      lower = subst (LowerInTurn first.table) grown (lower_push first.table edges edge was.lower below);
      table = ap (λ (t : Graph). lowered t edge) was.table ∙ (sym (fold_push lowered first.table edges edge) ∙ ap (fold lowered first.table) grown);
    })

pub law_round_histories_are_histories : RoundHistoriesAreHistories
law_round_histories_are_histories net first past history =
    let is = recorded net first past history in
    (record { nodes = is.nodes; read = past.read; more = is.more; history = is.history; lower = is.lower }, refl)
