-- Each node of a round comes by its own rule: the premise in its row is read at the step before, first premises when the round begins.
use Rattle.std.proofs.Common.{◌≡◌, ℕ, List, [], ◌∷◌, ◌++◌, fold, Option, Some, None, refl, ap, sym, subst, ◌∙◌, append_assoc, append-nil}
use Rattle.std.specs.Prelude.{slice_get}
use Rattle.std.specs.Option.{option_map, option_and_then}
use Rattle.std.specs.List.{Contains}
use Rattle.std.proofs.lemmas.Option.{same_Some}
use Rattle.net_model.specs.Network.{Plan}
use Rattle.net_model.specs.declared.part.Edge.{Edge}
use Rattle.closure_model.specs.Derivations.{Support, StandsOn, IsTableOf, edge_at, with_node}
use Rattle.closure_model.specs.ReferenceRound.{node_for, rule_for, with_one, round_made, after_round}
use Rattle.closure_model.specs.Tables.{Graph, HasEdge, lowered}
use Rattle.closure_model.specs.declared.derivation.Node.{Node}
use Rattle.closure_model.specs.declared.derivation.NodeId.{NodeId}
use Rattle.closure_model.specs.declared.derivation.Rule.{Rule}
use Rattle.closure_model.specs.declared.derivation.Rule.TheVariants as by_rule
use Rattle.closure_model.specs.declared.rows.Made.{Made}
use Rattle.closure_model.proofs.Consequences.{IsConsequence, removed, moved, crossed, joined, joined_labelled}
use Rattle.closure_model.proofs.GroundedEdges.{AreGrounded, grounded_first, grounded_rest}
use Rattle.closure_model.proofs.Nodes.{before_push}
use Rattle.closure_model.proofs.RoundClosure.{standing_fits, standing_sound}
use Rattle.closure_model.proofs.RoundLaw.{StandsAfter, node_of_edge, rule_exists, with_one_is, one_stands, goes_on_itself, round_is_grounded}
use Rattle.shared_table_laws.specs.TableHistory.{Read, edges_read_by}
use Rattle.shared_table_laws.specs.NodeRules.{RoundPast, IsReadPremise, HasReadPremises, ComesByItsRule, RoundHistory, begins, reads, adds, NodesComeByTheirRules}
use Rattle.shared_table_laws.proofs.ReadEdges.{read_earlier, read_now}
use Rattle.shared_table_laws.proofs.RoundHistories.{AreOf, HasReadAll, HaveReadAll, first_reads, first_reads_are_of, have_read, have_read_first, have_read_rest}

-- ---- the premises of a rule, read
-- the edges of the nodes of one list have their numbers in another
abbrev Stay : List Node → List Node → Type 0
Stay before now = (id : NodeId) (edge : Edge) → edge_at before id ≡ Some edge → edge_at now id ≡ Some edge

stay_push : (before now : List Node) (node : Node) → Stay before now → Stay before (now ++ node ∷ [])
stay_push before now node stay id edge at = by (slice_get now id.0) refl (stay id edge at)
  where
    by : (o : Option Node) → slice_get now id.0 ≡ o → option_map (λ (m : Node). m.edge) o ≡ Some edge → edge_at (now ++ node ∷ []) id ≡ Some edge
    by None here is = absurd cc
    by (Some other) here is = rw (before_push now node id.0 other here) is

module _ (net : Plan) (table : Graph) (before : List Node) (old : IsTableOf net before table) (past : RoundPast) (worker : ℕ)
    (stay : Stay before past.support.nodes) (new : IsTableOf net past.support.nodes past.support.table) (all : HasReadAll table past.read worker) where
  abbrev now : List Node
  now = past.support.nodes

  abbrev Premises : Rule → Type 0
  Premises rule = HasReadPremises table past worker rule

  -- the node that the key of an edge of the row has now
  in_row : (premise : Edge) → HasEdge past.support.table premise → Contains (edges_read_by worker past.read) premise → (id : NodeId) → edge_at now id ≡ Some premise
      → IsReadPremise past worker past.support.table id
  in_row premise has inside id at = record { edge = premise; is = at; stands = has; read = inside }

  -- the node that the key of an edge had before the round
  from_before : (first : Edge) → HasEdge table first → (id : NodeId) → edge_at before id ≡ Some first → IsReadPremise past worker table id
  from_before first has id at = record { edge = first; is = stay id first at; stands = has; read = all first has }

  is_rule : (one : Made) (rule found : Rule) → rule_for before now one.why ≡ Some rule → rule_for before now one.why ≡ Some found → Premises found → Premises rule
  is_rule one rule found is was premises = subst Premises (same_Some found rule (sym was ∙ is)) premises

  premises_read : (one : Made) (premise : Edge) (rule : Rule) → rule_for before now one.why ≡ Some rule → IsConsequence net table premise one → HasEdge past.support.table premise
      → Contains (edges_read_by worker past.read) premise → Premises rule
  premises_read one premise rule is (removed gives why) has inside =
      let (id, found, at) = node_of_edge net now past.support.table premise new has in
      is_rule one rule (by_rule.Drop id) is (ap (rule_for before now) (sym why) ∙ ap (option_map by_rule.Drop) found) (in_row premise has inside id at)
  premises_read one premise rule is (moved name gives why) has inside =
      let (id, found, at) = node_of_edge net now past.support.table premise new has in
      is_rule one rule (by_rule.Low name id) is (ap (rule_for before now) (sym why) ∙ ap (option_map (by_rule.Low name)) found) (in_row premise has inside id at)
  premises_read one premise rule is (crossed name gives why) has inside =
      let (id, found, at) = node_of_edge net now past.support.table premise new has in
      is_rule one rule (by_rule.Cross name id) is (ap (rule_for before now) (sym why) ∙ ap (option_map (by_rule.Cross name)) found) (in_row premise has inside id at)
  premises_read one premise rule is (joined first first_has gives why) has inside =
      let (id, found, at) = node_of_edge net now past.support.table premise new has in
      let (first_id, first_found, first_at) = node_of_edge net before table first old first_has in
      is_rule one rule (by_rule.No first_id id) is
      (ap (rule_for before now) (sym why) ∙ (ap (option_and_then (λ one. option_map (by_rule.No one) (node_for now premise))) first_found ∙ ap (option_map (by_rule.No first_id)) found))
      (from_before first first_has first_id first_at, in_row premise has inside id at)
  premises_read one premise rule is (joined_labelled first first_has gives why) has inside =
      let (id, found, at) = node_of_edge net now past.support.table premise new has in
      let (first_id, first_found, first_at) = node_of_edge net before table first old first_has in
      is_rule one rule (by_rule.Up first_id id) is
      (ap (rule_for before now) (sym why) ∙ (ap (option_and_then (λ one. option_map (by_rule.Up one) (node_for now premise))) first_found ∙ ap (option_map (by_rule.Up first_id)) found))
      (from_before first first_has first_id first_at, in_row premise has inside id at)

-- ---- the history of a round
module _ (net : Plan) (start : Support) (stands : StandsOn net start) where
  -- a history that has come so far
  abbrev ComesTo : Support → List Read → Type 0
  ComesTo support read = RoundHistory net start (record { support = support; read = read })

  read_all : (support : Support) (read more : List Read) → AreOf support.table more → ComesTo support read → ComesTo support (read ++ more)
  read_all support read [] has history = subst (ComesTo support) (sym (append-nil read)) history
  read_all support read (one ∷ more) (here, rest) history =
      let next : ComesTo support (read ++ one ∷ []) = reads (record { support = support; read = read }) _ one.worker one.edge history here refl in
      subst (ComesTo support) (append_assoc read (one ∷ []) more) (read_all support (read ++ one ∷ []) more rest next)

  -- where the edges that improve lead, one after another
  add_all : (end support : Support) (read : List Read) (made : List Made) → end ≡ fold (with_one start.nodes) support made → StandsAfter net start.nodes support support.table
      → Stay start.nodes support.nodes → AreGrounded net start.table support.table made → HaveReadAll start.table read made → ComesTo support read → (whole : List Read) × ComesTo end whole
  add_all end support read [] is was stay grounded all history = (read, subst (λ (s : Support). ComesTo s read) (sym is) history)
  add_all end support read (one ∷ made) is was stay grounded all history =
      let (here, below) = grounded_first net start.table support.table one made grounded in
      let has = rule_exists net start.table start.nodes support one was.on stands.table was.stands.table here in
      let node : Node = record { rule = has.rule; edge = one.edge } in
      let worker : ℕ = one.edge.to.0 in
      let more : List Read = record { worker = worker; edge = here.premise } ∷ [] in
      let past : RoundPast = record { support = support; read = read ++ more } in
      let next : ComesTo support (read ++ more) = reads (record { support = support; read = read }) _ worker here.premise history here.has refl in
      let own : HasReadAll start.table read worker = have_read_first start.table read one made all in
      let known : HasReadAll start.table (read ++ more) worker = λ edge held. read_earlier worker read more edge (own edge held) in
      let premises : HasReadPremises start.table past worker has.rule =
      premises_read net start.table start.nodes stands.table past worker stay was.stands.table known one here.premise has.rule has.is here.follows here.has (read_now worker read here.premise) in
      let comes : ComesByItsRule net start.table past node = record { given = has.given; read = premises; lowers = below } in
      let added : ComesTo (with_node support node) (read ++ more) = adds past _ node next comes refl in
      let same : with_one start.nodes support one ≡ with_node support node = with_one_is net start.nodes support one has in
      let stand = one_stands net start.table start.nodes support support.table one stands.table was here in
      let later : StandsAfter net start.nodes (with_node support node) (lowered support.table one.edge) =
      subst (λ (s : Support). StandsAfter net start.nodes s (lowered support.table one.edge)) same stand in
      add_all end (with_node support node) (read ++ more) made (is ∙ ap (λ (s : Support). fold (with_one start.nodes) s made) same) later (stay_push start.nodes support.nodes node stay)
      (grounded_rest net start.table support.table one made grounded) (have_read_rest start.table read more one made all) added

pub law_nodes_come_by_their_rules : NodesComeByTheirRules
law_nodes_come_by_their_rules net support plan stands =
    let table : Graph = support.table in
    let made : List Made = round_made net table in
    let more : List Read = first_reads table made in
    let (read, history) = add_all net support stands (after_round net support) support more made refl (record { stands = stands; on = goes_on_itself support.nodes; table_is = refl }) (λ id edge at. at)
    (round_is_grounded net table plan (standing_fits net plan support stands) (standing_sound net plan support stands))
    (have_read table [] made) (read_all net support stands support [] more (first_reads_are_of table made) (begins _ refl)) in
    record { read = read; history = history }
