-- Rounds are a history: in each round the workers first read the table, and then each edge that improves is relaxed in its turn, by the
-- worker of its row, which before that reads the premise that stands in the row.
use Rattle.std.proofs.Common.{◌≡◌, ℕ, List, [], ◌∷◌, ◌++◌, map, fold, refl, ap, sym, subst, ◌∙◌, append_assoc, append-nil}
use Rattle.std.specs.List.{AllByRecursion, Contains, flat_map}
use Rattle.std.proofs.lemmas.List.Elements.{Contains-append_right}
use Rattle.net_model.specs.Network.{Plan, IsPlan}
use Rattle.net_model.specs.Rules.{Follows, by_no_case, by_upper_case, by_lower_case, by_cross_case, by_removal}
use Rattle.net_model.specs.declared.part.Edge.{Edge}
use Rattle.closure_model.specs.Derivations.{Support, StandsOn, IsTableOf, with_node, edges_of_nodes}
use Rattle.closure_model.specs.ReferenceRound.{with_one, round_made, after_round}
use Rattle.closure_model.specs.ReferenceRow.{IsBelow}
use Rattle.closure_model.specs.ReferenceRounds.{Ending, RoundsEnd, in_cycle, in_order, after_one}
use Rattle.closure_model.specs.Tables.{Graph, HasEdge, edges_of, lowered}
use Rattle.closure_model.specs.declared.derivation.Node.{Node}
use Rattle.closure_model.specs.declared.rows.Made.{Made}
use Rattle.closure_model.proofs.Consequences.{IsConsequence, removed, moved, crossed, joined, joined_labelled}
use Rattle.closure_model.proofs.GroundedEdges.{AreGrounded, grounded_first, grounded_rest}
use Rattle.closure_model.proofs.Lists.{Contains-head, Contains-tail, Contains-map, Contains-flat_map, each-append, each-map, each-from_contains}
use Rattle.closure_model.proofs.RoundClosure.{standing_fits, standing_sound}
use Rattle.closure_model.proofs.RoundLaw.{StandsAfter, rule_exists, with_one_is, one_stands, goes_on_itself, round_is_grounded}
use Rattle.closure_model.proofs.RoundsLaw.{law_rounds_keep_standing}
use Rattle.closure_model.proofs.TableLemmas.{edge_listed, listed_edge}
use Rattle.shared_table_laws.specs.TableHistory.{Read, Past, edges_read_by, RelaxesInRow, LowerInTurn, TableHistory, begins, reads, lowers, RoundsAreHistories}
use Rattle.shared_table_laws.proofs.ReadEdges.{read_earlier, read_now, read_of}

-- ---- what the workers read when a round begins
-- a worker reads each edge of a table
abbrev reads_whole : Graph → ℕ → List Read
reads_whole table worker = map (λ (edge : Edge). record { worker = worker; edge = edge }) (edges_of table)

-- the worker of each row in which an edge improves does
pub first_reads : Graph → List Made → List Read
first_reads table made = flat_map (λ (one : Made). reads_whole table one.edge.to.0) made

each-flat_map : {X Y : Type 0} (P : Y → Type 0) (f : X → List Y) → ((x : X) → AllByRecursion P (f x)) → (xs : List X) → AllByRecursion P (flat_map f xs)
each-flat_map P f every [] = tt
each-flat_map P f every (x ∷ xs) = each-append P (f x) (flat_map f xs) (every x) (each-flat_map P f every xs)

-- what was read stands in the table
abbrev pub AreOf : Graph → List Read → Type 0
AreOf table read = AllByRecursion (λ (one : Read). HasEdge table one.edge) read

pub first_reads_are_of : (table : Graph) (made : List Made) → AreOf table (first_reads table made)
unfolding first_reads
first_reads_are_of table made = each-flat_map (λ (one : Read). HasEdge table one.edge) (λ (one : Made). reads_whole table one.edge.to.0) (λ one. row one.edge.to.0) made
  where
    row : (worker : ℕ) → AreOf table (reads_whole table worker)
    row worker =
        each-map (λ (one : Read). HasEdge table one.edge) (λ (edge : Edge). record { worker = worker; edge = edge }) (edges_of table)
        (each-from_contains (HasEdge table) (edges_of table) (listed_edge table))

-- a worker has read each edge of a table
abbrev pub HasReadAll : Graph → List Read → ℕ → Type 0
HasReadAll table read worker = (edge : Edge) → HasEdge table edge → Contains (edges_read_by worker read) edge

-- the workers of the rows of some edges have
pub HaveReadAll : Graph → List Read → List Made → Type 0
HaveReadAll table read made = (one : Made) → Contains made one → HasReadAll table read one.edge.to.0

pub have_read : (table : Graph) (read : List Read) (made : List Made) → HaveReadAll table (read ++ first_reads table made) made
unfolding first_reads HaveReadAll
have_read table read made one inside edge has =
    let worker : ℕ = one.edge.to.0 in
    let here : Read = record { worker = worker; edge = edge } in
    let row : Contains (reads_whole table worker) here = Contains-map (λ (e : Edge). record { worker = worker; edge = e }) (edges_of table) edge (edge_listed table edge has) in
    let among : Contains (first_reads table made) here = Contains-flat_map (λ (m : Made). reads_whole table m.edge.to.0) made one here inside row in
    read_of (read ++ first_reads table made) here (Contains-append_right read (first_reads table made) here among)

pub have_read_first : (table : Graph) (read : List Read) (one : Made) (made : List Made) → HaveReadAll table read (one ∷ made) → HasReadAll table read one.edge.to.0
unfolding HaveReadAll
have_read_first table read one made all = all one (Contains-head one made)

pub have_read_rest : (table : Graph) (read more : List Read) (one : Made) (made : List Made) → HaveReadAll table read (one ∷ made) → HaveReadAll table (read ++ more) made
unfolding HaveReadAll
have_read_rest table read more one made all other inside edge has =
    read_earlier other.edge.to.0 read more edge (all other (Contains-tail one made other inside) edge has)

-- ---- what improves follows from what was read
consequence_follows : (net : Plan) (table : Graph) (premise : Edge) (one : Made) (edges : List Edge)
    → ((edge : Edge) → HasEdge table edge → Contains edges edge) → Contains edges premise → IsConsequence net table premise one → Follows net edges one.edge
consequence_follows net table premise one edges all here (removed is why) = by_removal premise here is
consequence_follows net table premise one edges all here (moved name is why) = by_lower_case name premise here is
consequence_follows net table premise one edges all here (crossed name is why) = by_cross_case name premise here is
consequence_follows net table premise one edges all here (joined first has is why) = by_no_case first premise (all first has) here is
consequence_follows net table premise one edges all here (joined_labelled first has is why) = by_upper_case first premise (all first has) here is

module _ (net : Plan) (first : Graph) where
  -- a history that has come so far
  abbrev ComesTo : Graph → List Read → List Edge → Type 0
  ComesTo table read relaxed = TableHistory (RelaxesInRow net) first (record { table = table; read = read; relaxed = relaxed })

  read_all : (table : Graph) (read : List Read) (relaxed : List Edge) (more : List Read) → AreOf table more → ComesTo table read relaxed → ComesTo table (read ++ more) relaxed
  read_all table read relaxed [] has history = subst (λ (r : List Read). ComesTo table r relaxed) (sym (append-nil read)) history
  read_all table read relaxed (one ∷ more) (here, rest) history =
      let before : Past = record { table = table; read = read; relaxed = relaxed } in
      let next : ComesTo table (read ++ one ∷ []) relaxed = reads before _ one.worker one.edge history here refl in
      subst (λ (r : List Read). ComesTo table r relaxed) (append_assoc read (one ∷ []) more) (read_all table (read ++ one ∷ []) relaxed more rest next)

  -- the edge that improves is relaxed, after its worker has read the premise in the row
  relax_one : (table now : Graph) (read : List Read) (relaxed : List Edge) (one : Made) (premise : Edge) → IsConsequence net table premise one → HasEdge now premise
      → HasReadAll table read one.edge.to.0 → ComesTo now read relaxed
      → ComesTo (lowered now one.edge) (read ++ record { worker = one.edge.to.0; edge = premise } ∷ []) (relaxed ++ one.edge ∷ [])
  relax_one table now read relaxed one premise follows has all history =
      let worker : ℕ = one.edge.to.0 in
      let more : List Read = record { worker = worker; edge = premise } ∷ [] in
      let next : ComesTo now (read ++ more) relaxed = reads (record { table = now; read = read; relaxed = relaxed }) _ worker premise history has refl in
      let edges : List Edge = edges_read_by worker (read ++ more) in
      let known : HasReadAll table (read ++ more) worker = λ edge held. read_earlier worker read more edge (all edge held) in
      let given : Follows net edges one.edge = consequence_follows net table premise one edges known (read_now worker read premise) follows in
      lowers (record { table = now; read = read ++ more; relaxed = relaxed }) _ worker one.edge next (refl, given) refl

  -- a history goes on from one support to another
  record GoesOnTo (relaxed : List Edge) (before after : Support) : Type 0 where
    nodes : List Node
    read : List Read
    more : after.nodes ≡ before.nodes ++ nodes
    history : ComesTo after.table read (relaxed ++ edges_of_nodes nodes)
    lower : LowerInTurn before.table (edges_of_nodes nodes)

  nothing_more : (support : Support) (read : List Read) (relaxed : List Edge) → ComesTo support.table read relaxed → GoesOnTo relaxed support support
  nothing_more support read relaxed history = record {
    nodes = [];
    read = read;
    more = sym (append-nil support.nodes);
    history = subst (λ (o : List Edge). ComesTo support.table read o) (sym (append-nil relaxed)) history;
    lower = tt;
  }

  one_more : (relaxed : List Edge) (support after : Support) (node : Node) → IsBelow support.table node.edge → GoesOnTo (relaxed ++ node.edge ∷ []) (with_node support node) after
      → GoesOnTo relaxed support after
  one_more relaxed support after node below rest = record {
    nodes = node ∷ rest.nodes;
    read = rest.read;
    more = rest.more ∙ append_assoc support.nodes (node ∷ []) rest.nodes;
    history = subst (λ (o : List Edge). ComesTo after.table rest.read o) (append_assoc relaxed (node.edge ∷ []) (edges_of_nodes rest.nodes)) rest.history;
    lower = (below, rest.lower);
  }

  -- the edges that improve in a round are relaxed in their order, and the history goes on as it does from where they lead
  module _ (table : Graph) (before : List Node) (end after : Support) (old : IsTableOf net before table)
      (later : (read : List Read) (relaxed : List Edge) → ComesTo end.table read relaxed → GoesOnTo relaxed end after) where
    relax_all : (support : Support) (read : List Read) (relaxed : List Edge) (made : List Made) → end ≡ fold (with_one before) support made → StandsAfter net before support support.table
        → AreGrounded net table support.table made → HaveReadAll table read made → ComesTo support.table read relaxed → GoesOnTo relaxed support after
    relax_all support read relaxed [] is was grounded all history =
        subst (λ (s : Support). GoesOnTo relaxed s after) is (later read relaxed (subst (λ (s : Support). ComesTo s.table read relaxed) (sym is) history))
    relax_all support read relaxed (one ∷ made) is was grounded all history =
        let (here, below) = grounded_first net table support.table one made grounded in
        let has = rule_exists net table before support one was.on old was.stands.table here in
        let node : Node = record { rule = has.rule; edge = one.edge } in
        let more : List Read = record { worker = one.edge.to.0; edge = here.premise } ∷ [] in
        let same : with_one before support one ≡ with_node support node = with_one_is net before support one has in
        let stands = one_stands net table before support support.table one old was here in
        let next : StandsAfter net before (with_node support node) (lowered support.table one.edge) = subst (λ (s : Support). StandsAfter net before s (lowered support.table one.edge)) same stands in
        let relaxes = relax_one table support.table read relaxed one here.premise here.follows here.has (have_read_first table read one made all) history in
        one_more relaxed support after node below
        (relax_all (with_node support node) (read ++ more) (relaxed ++ one.edge ∷ []) made (is ∙ ap (λ (s : Support). fold (with_one before) s made) same) next
        (grounded_rest net table support.table one made grounded) (have_read_rest table read more one made all) relaxes)

  module _ (plan : IsPlan net) where
    rounds_go_on : (before after : Support) (rounds : ℕ) (ending : Ending) (read : List Read) (relaxed : List Edge) → StandsOn net before → RoundsEnd net before rounds after ending
        → ComesTo before.table read relaxed → GoesOnTo relaxed before after
    rounds_go_on before after rounds ending read relaxed stands (in_cycle _ point left) history = nothing_more before read relaxed history
    rounds_go_on before after rounds ending read relaxed stands (in_order _ left none) history = nothing_more before read relaxed history
    rounds_go_on before after rounds ending read relaxed stands (after_one _ _ more _ left some rest) history =
        let table : Graph = before.table in
        let made : List Made = round_made net table in
        let next : StandsOn net (after_round net before) = (law_rounds_keep_standing net before plan stands).0 in
        relax_all table before.nodes (after_round net before) after stands.table (λ read' relaxed' later. rounds_go_on (after_round net before) after more ending read' relaxed' next rest later)
        before (read ++ first_reads table made) relaxed made refl (record { stands = stands; on = goes_on_itself before.nodes; table_is = refl })
        (round_is_grounded net table plan (standing_fits net plan before stands) (standing_sound net plan before stands))
        (have_read table read made) (read_all table read relaxed (first_reads table made) (first_reads_are_of table made) history)

pub law_rounds_are_histories : RoundsAreHistories
law_rounds_are_histories net before after rounds ending plan stands ends =
    let on = rounds_go_on net before.table plan before after rounds ending [] [] stands ends (begins _ refl) in
    record { nodes = on.nodes; read = on.read; more = on.more; history = on.history; lower = on.lower }
