-- A round gives each edge that improves a node that follows, so what stood on a network stands on it afterwards.
use Rattle.std.proofs.Common.{◌≡◌, ℕ, zero, suc, ◌+◌, ◌≤◌, ℤ, ◌≤ℤ◌, ◌<ℤ◌, ◌==◌, ◌&&◌, Bool, true, false, cond, List, [], ◌∷◌, ◌++◌, map, fold, Option, Some, None, refl, ap, sym, subst, ◌∙◌, arith}
use Rattle.std.specs.Prelude.{slice_get, MatchOption}
use Rattle.std.specs.Option.{option_map, option_map_or, option_and_then}
use Rattle.std.specs.List.{Contains, flat_map, range_with_len}
use Rattle.std.proofs.lemmas.Bool.{eqb-true, and_parts}
use Rattle.std.proofs.lemmas.Bool.Decides.{nat_tests}
use Rattle.std.proofs.lemmas.Option.{same_Some}
use Rattle.std.proofs.lemmas.List.Elements.{All-contains}
use Rattle.net_model.specs.Network.{Plan, IsPlan}
use Rattle.net_model.specs.declared.ids.PointId.{PointId}
use Rattle.net_model.specs.declared.part.Edge.{Edge}
use Rattle.net_model.proofs.RuleLemmas.{no_case_gives, upper_case_gives, lower_case_gives, cross_case_gives, removal_gives}
use Rattle.closure_model.specs.Derivations.{Support, StandsOn, with_node, IsTableOf, IsGiven, IsNodeOf, HasNoNode, IsNewest, edge_at}
use Rattle.closure_model.specs.Keys.{Key, key_of, edge_of}
use Rattle.closure_model.specs.Least.{weight_at, IsFirstLeast, HasNoWeight}
use Rattle.closure_model.specs.ReferenceRow.{same_label, with_made, reference_row}
use Rattle.closure_model.specs.ReferenceRound.{is_same_key, weight_for, node_for, rule_for, with_one, round_made}
use Rattle.closure_model.specs.Tables.{Graph, HasEdge, weight_of, lowered, IsGraph, IsFor}
use Rattle.closure_model.specs.declared.derivation.Node.{Node}
use Rattle.closure_model.specs.declared.derivation.NodeId.{NodeId}
use Rattle.closure_model.specs.declared.derivation.Rule.{Rule}
use Rattle.closure_model.specs.declared.derivation.Rule.TheVariants as node_by
use Rattle.closure_model.specs.declared.rows.Made.{Made}
use Rattle.closure_model.proofs.Consequences.{IsConsequence, removed, moved, crossed, joined, joined_labelled}
use Rattle.closure_model.proofs.FirstLeast.{first_least_of}
use Rattle.closure_model.proofs.GroundedEdges.{IsGrounded, AreGrounded, grounded_append, grounded_none, grounded_first, grounded_rest, grounded_cons, with_made_other, AgreeAt, below_agreeing, agree_lowered}
use Rattle.closure_model.proofs.LawProofs.{law_tables_match_nodes, law_following_keeps_standing}
use Rattle.closure_model.proofs.Lists.{Contains-head, Contains-tail}
use Rattle.closure_model.proofs.Nodes.{before_push}
use Rattle.closure_model.proofs.RowLaw.{row_result, row_is_grounded}
use Rattle.closure_model.proofs.Slots.{same_label_is, same_label_itself}

-- ---- the node of a key
pub same_key_is : (one other : Edge) → is_same_key one other ≡ true → key_of other ≡ key_of one
same_key_is one other same =
    let (tos, rest) = and_parts (one.to.0 == other.to.0) (one.from.0 == other.from.0 && same_label one.label other.label) same in
    let (froms, labels) = and_parts (one.from.0 == other.from.0) (same_label one.label other.label) rest in
    let to : other.to ≡ one.to = ap (λ (k : ℕ). record { 0 = k }) (sym (eqb-true one.to.0 other.to.0 tos)) in
    let from : other.from ≡ one.from = ap (λ (k : ℕ). record { 0 = k }) (sym (eqb-true one.from.0 other.from.0 froms)) in
    let label : other.label ≡ one.label = sym (same_label_is one.label other.label labels) in
    λ i. record { to = to i; from = from i; label = label i }

pub is_same_key_of : (one other : Edge) → key_of other ≡ key_of one → is_same_key one other ≡ true
is_same_key_of one other same =
    let to : one.to.0 ≡ other.to.0 = ap (λ (k : Key). k.to.0) (sym same) in
    let from : one.from.0 ≡ other.from.0 = ap (λ (k : Key). k.from.0) (sym same) in
    let label : one.label ≡ other.label = ap (λ (k : Key). k.label) (sym same) in
    let tos : (one.to.0 == other.to.0) ≡ true = grind (arith, nat_tests) in
    let froms : (one.from.0 == other.from.0) ≡ true = grind (arith, nat_tests) in
    let labels : same_label one.label other.label ≡ true = rw label (same_label_itself other.label) in
    rw (tos, froms) labels

-- the weight for a key, at a place, is that of a node of the key
weight_for_is : (edge : Edge) (nodes : List Node) (place : ℕ) (weight : ℤ) → weight_at (weight_for edge) nodes place ≡ Some weight → (node : Node) × (slice_get nodes place ≡ Some node) × (key_of node.edge ≡ key_of edge)
    × (node.edge.weight ≡ weight)
weight_for_is edge nodes place weight is = by (slice_get nodes place) refl is
  where
    one : (node : Node) (b : Bool) → is_same_key edge node.edge ≡ b → cond b (Some node.edge.weight) None ≡ Some weight → (key_of node.edge ≡ key_of edge) × (node.edge.weight ≡ weight)
    one node true same has = (same_key_is edge node.edge same, same_Some node.edge.weight weight has)
    one node false same has = absurd cc

    by : (o : Option Node) → slice_get nodes place ≡ o → option_and_then (weight_for edge) o ≡ Some weight → (node : Node) × (slice_get nodes place ≡ Some node) × (key_of node.edge ≡ key_of edge) × (node.edge.weight ≡ weight)
    by None here has = absurd cc
    by (Some node) here has = let (key, same) = one node (is_same_key edge node.edge) refl has in (node, here, key, same)

weight_for_of : (edge : Edge) (nodes : List Node) (place : ℕ) (node : Node) → slice_get nodes place ≡ Some node → key_of node.edge ≡ key_of edge → weight_at (weight_for edge) nodes place ≡ Some node.edge.weight
weight_for_of edge nodes place node here key = let same = is_same_key_of edge node.edge key in rw (here, same) refl

-- the node of a key is the one that the definition gives
pub node_for_is : (nodes : List Node) (edge : Edge) (found : Option NodeId) → IsNewest nodes (key_of edge) found → node_for nodes edge ≡ found
node_for_is nodes edge None none = ap (option_map (λ (first : ℕ × ℤ). record { 0 = first.0 })) (first_least_of (weight_for edge) nodes None absent)
  where
    weightless : (place : ℕ) (o : Option ℤ) → weight_at (weight_for edge) nodes place ≡ o → o ≡ None
    weightless place None is = refl
    weightless place (Some weight) is = let (node, here, key, same) = weight_for_is edge nodes place weight is in absurd (none (record { 0 = place }) node here key)

    absent : HasNoWeight (weight_for edge) nodes
    absent place = weightless place (weight_at (weight_for edge) nodes place) refl
node_for_is nodes edge (Some id) was = ap (option_map (λ (first : ℕ × ℤ). record { 0 = first.0 })) (first_least_of (weight_for edge) nodes (Some (id.0, was.node.edge.weight)) first)
  where
    first : IsFirstLeast (weight_for edge) nodes (id.0, was.node.edge.weight)
    first = record {
      here = weight_for_of edge nodes id.0 was.node was.here was.of_key;
      least = λ place weight is. (let (node, here, key, same) = weight_for_is edge nodes place weight is in subst (λ (w : ℤ). was.node.edge.weight ≤ℤ w) same (was.least (record { 0 = place }) node here key));
      first = λ place weight is earlier. (let (node, here, key, same) = weight_for_is edge nodes place weight is in subst (λ (w : ℤ). was.node.edge.weight <ℤ w) same (was.first (record { 0 = place }) node here key earlier));
    }

-- the node of an edge of the table of a list
pub node_of_edge : (net : Plan) (nodes : List Node) (table : Graph) (edge : Edge) → IsTableOf net nodes table → HasEdge table edge → (id : NodeId) × (node_for nodes edge ≡ Some id) × (edge_at nodes id ≡ Some edge)
node_of_edge net nodes table edge is has = by (weight_of table (key_of edge)) has (law_tables_match_nodes net nodes table (key_of edge) is)
  where
    by : (o : Option ℤ) → o ≡ Some edge.weight → MatchOption o (HasNoNode nodes (key_of edge)) (λ (weight : ℤ). (id : NodeId) × IsNodeOf nodes (key_of edge) id × (edge_at nodes id ≡ Some (edge_of (key_of edge) weight)))
        → (id : NodeId) × (node_for nodes edge ≡ Some id) × (edge_at nodes id ≡ Some edge)
    by None none statement = absurd cc
    by (Some weight) some (id, was, at) =
        let same : weight ≡ edge.weight = same_Some weight edge.weight some in
        (id, node_for_is nodes edge (Some id) was, at ∙ ap (λ (w : ℤ). Some (edge_of (key_of edge) w)) same)

-- ---- a list that goes on
-- the nodes of one list stand in another at their places
pub GoesOn : List Node → List Node → Type 0
GoesOn before now = (place : ℕ) (node : Node) → slice_get before place ≡ Some node → slice_get now place ≡ Some node

pub goes_on_itself : (nodes : List Node) → GoesOn nodes nodes
unfolding GoesOn
goes_on_itself nodes place node here = here

goes_on_push : (before now : List Node) (node : Node) → GoesOn before now → GoesOn before (now ++ node ∷ [])
unfolding GoesOn
goes_on_push before now node on place other here = before_push now node place other (on place other here)

goes_on_edge : (before now : List Node) (id : NodeId) (edge : Edge) → GoesOn before now → edge_at before id ≡ Some edge → edge_at now id ≡ Some edge
unfolding GoesOn
goes_on_edge before now id edge on at = by (slice_get before id.0) refl at
  where
    by : (o : Option Node) → slice_get before id.0 ≡ o → option_map (λ (node : Node). node.edge) o ≡ Some edge → edge_at now id ≡ Some edge
    by None here is = absurd cc
    by (Some node) here is = rw (on id.0 node here) is

-- ---- a node for an edge that improves
-- the rule of the node, and that it follows
pub record HasRule (net : Plan) (before now : List Node) (one : Made) : Type 0 where
  pub rule : Rule
  pub is : rule_for before now one.why ≡ Some rule
  pub given : IsGiven net now (record { rule = rule; edge = one.edge })

module _ (net : Plan) (table : Graph) (before now : List Node) (on : GoesOn before now) (old : IsTableOf net before table) where
  rule_of : (current : Graph) → IsTableOf net now current → (one : Made) (premise : Edge) → IsConsequence net table premise one → HasEdge current premise → HasRule net before now one
  rule_of current new one premise (removed is why) has =
      let (id, found, at) = node_of_edge net now current premise new has in
      record { rule = node_by.Drop id; is = ap (rule_for before now) (sym why) ∙ ap (option_map node_by.Drop) found; given = rw at is }
  rule_of current new one premise (moved name is why) has =
      let (id, found, at) = node_of_edge net now current premise new has in
      record { rule = node_by.Low name id; is = ap (rule_for before now) (sym why) ∙ ap (option_map (node_by.Low name)) found; given = rw at is }
  rule_of current new one premise (crossed name is why) has =
      let (id, found, at) = node_of_edge net now current premise new has in
      record { rule = node_by.Cross name id; is = ap (rule_for before now) (sym why) ∙ ap (option_map (node_by.Cross name)) found; given = rw at is }
  rule_of current new one premise (joined first first_has is why) has =
      let (id, found, at) = node_of_edge net now current premise new has in
      let (first_id, first_found, first_at) = node_of_edge net before table first old first_has in
      let first_now : edge_at now first_id ≡ Some first = goes_on_edge before now first_id first on first_at in
      record {
        rule = node_by.No first_id id;
        is = ap (rule_for before now) (sym why) ∙ (ap (option_and_then (λ one. option_map (node_by.No one) (node_for now premise))) first_found ∙ ap (option_map (node_by.No first_id)) found);
        given = rw (first_now, at) is;
      }
  rule_of current new one premise (joined_labelled first first_has is why) has =
      let (id, found, at) = node_of_edge net now current premise new has in
      let (first_id, first_found, first_at) = node_of_edge net before table first old first_has in
      let first_now : edge_at now first_id ≡ Some first = goes_on_edge before now first_id first on first_at in
      record {
        rule = node_by.Up first_id id;
        is = ap (rule_for before now) (sym why) ∙ (ap (option_and_then (λ one. option_map (node_by.Up one) (node_for now premise))) first_found ∙ ap (option_map (node_by.Up first_id)) found);
        given = rw (first_now, at) is;
      }

pub rule_exists : (net : Plan) (table : Graph) (before : List Node) (support : Support) (one : Made) → GoesOn before support.nodes → IsTableOf net before table → IsTableOf net support.nodes support.table
    → IsGrounded net table support.table one → HasRule net before support.nodes one
rule_exists net table before support one on old new grounded = rule_of net table before support.nodes on old support.table new one grounded.premise grounded.follows grounded.has

-- ---- the nodes of a list of edges that improve
pub with_one_is : (net : Plan) (before : List Node) (support : Support) (one : Made) (has : HasRule net before support.nodes one) → with_one before support one ≡ with_node support (record { rule = has.rule; edge = one.edge })
with_one_is net before support one has = ap (λ (o : Option Rule). option_map_or (λ rule. with_node support (record { rule = rule; edge = one.edge })) o support) has.is

-- what holds after some edges of a round have come in
pub record StandsAfter (net : Plan) (before : List Node) (support : Support) (table : Graph) : Type 0 where
  pub stands : StandsOn net support
  pub on : GoesOn before support.nodes
  pub table_is : support.table ≡ table

pub one_stands : (net : Plan) (table : Graph) (before : List Node) (support : Support) (now : Graph) (one : Made) → IsTableOf net before table → StandsAfter net before support now → IsGrounded net table now one
    → StandsAfter net before (with_one before support one) (lowered now one.edge)
one_stands net table before support now one old was grounded =
    let here : IsGrounded net table support.table one = subst (λ (t : Graph). IsGrounded net table t one) (sym was.table_is) grounded in
    let has = rule_exists net table before support one was.on old was.stands.table here in
    let node : Node = record { rule = has.rule; edge = one.edge } in
    subst (λ (s : Support). StandsAfter net before s (lowered now one.edge)) (sym (with_one_is net before support one has))
    (record { stands = law_following_keeps_standing net support node was.stands has.given; on = goes_on_push before support.nodes node was.on; table_is = ap (λ (t : Graph). lowered t one.edge) was.table_is })

pub all_stand : (net : Plan) (table : Graph) (before : List Node) (support : Support) (now : Graph) (made : List Made) → IsTableOf net before table → StandsAfter net before support now → AreGrounded net table now made
    → StandsAfter net before (fold (with_one before) support made) (with_made now made)
all_stand net table before support now [] old was grounded = was
all_stand net table before support now (one ∷ made) old was grounded =
    let (first, below) = grounded_first net table now one made grounded in
    all_stand net table before (with_one before support one) (lowered now one.edge) made old (one_stands net table before support now one old was first) (grounded_rest net table now one made grounded)

-- ---- the rows of a round, one after another
-- a consequence ends where its premise does
pub consequence_ends : (net : Plan) (table : Graph) (premise : Edge) (made : Made) → IsConsequence net table premise made → made.edge.to ≡ premise.to
consequence_ends net table premise made (removed is why) = ap (λ (e : Edge). e.to) (sym (removal_gives net premise made.edge is).is)
consequence_ends net table premise made (moved name is why) = ap (λ (e : Edge). e.to) (sym (lower_case_gives net name premise made.edge is).is)
consequence_ends net table premise made (crossed name is why) = ap (λ (e : Edge). e.to) (sym (cross_case_gives net name premise made.edge is).is)
consequence_ends net table premise made (joined first has is why) = ap (λ (e : Edge). e.to) (sym (no_case_gives first premise made.edge is).is)
consequence_ends net table premise made (joined_labelled first has is why) = ap (λ (e : Edge). e.to) (sym (upper_case_gives first premise made.edge is).is)

module _ (net : Plan) (table : Graph) (plan : IsPlan net) (fits : IsFor net table) (sound : IsGraph table) where
  grounded_moves : (to : PointId) (one other : Graph) (made : List Made) → ((m : Made) → Contains made m → m.edge.to ≡ to) → AgreeAt to one other → AreGrounded net table one made → AreGrounded net table other made
  grounded_moves to one other [] each agree all = grounded_none net table other
  grounded_moves to one other (m ∷ made) each agree all =
      let (is, below) = grounded_first net table one m made all in
      let ends : m.edge.to ≡ to = each m (Contains-head m made) in
      let premise_ends : is.premise.to ≡ to = sym (consequence_ends net table is.premise m is.follows) ∙ ends in
      let below' = below_agreeing to one other m.edge agree ends below in
      grounded_cons net table other m made
      (record { premise = is.premise; follows = is.follows; has = sym (agree.same (key_of is.premise) premise_ends) ∙ is.has }) below'
      (grounded_moves to (lowered one m.edge) (lowered other m.edge) made (λ m' inside. each m' (Contains-tail m made m' inside)) (agree_lowered to one other m.edge agree below below') (grounded_rest net table one m made all))

  ends_in : (to : PointId) (one : Made) → Contains (reference_row net table to) one → one.edge.to ≡ to
  ends_in to one inside = All-contains (λ (m : Made). m.edge.to ≡ to) (reference_row net table to) one (row_result net table to plan fits sound).ends inside

  rows_grounded : (first count : ℕ) (now : Graph) → ((key : Key) → first ≤ key.to.0 → weight_of now key ≡ weight_of table key)
      → AreGrounded net table now (flat_map (reference_row net table) (map (λ k. record { 0 = k }) (range_with_len first count)))
  rows_grounded first zero now agrees = grounded_none net table now
  rows_grounded first (suc count) now agrees =
      let to : PointId = record { 0 = first } in
      let row : List Made = reference_row net table to in
      let here : AgreeAt to table now = record { same = λ key ends. (let at : key.to.0 ≡ first = ap (λ (p : PointId). p.0) ends in sym (agrees key (omega arith))) } in
      let later : (key : Key) → first + 1 ≤ key.to.0 → weight_of (with_made now row) key ≡ weight_of table key = λ key above.
      with_made_other now row key (λ one inside same. (let ends : one.edge.to.0 ≡ first = ap (λ (p : PointId). p.0) (ends_in to one inside) in let keys : one.edge.to.0 ≡ key.to.0 = ap (λ (k : Key). k.to.0) same in omega arith))
      ∙ agrees key (omega arith) in
      grounded_append net table now row (flat_map (reference_row net table) (map (λ k. record { 0 = k }) (range_with_len (first + 1) count)))
      (grounded_moves to table now row (ends_in to) here (row_is_grounded net table to plan fits sound))
      (rows_grounded (first + 1) count (with_made now row) later)

  pub round_is_grounded : AreGrounded net table table (round_made net table)
  round_is_grounded = rows_grounded 0 table.shape.points table (λ key above. refl)
