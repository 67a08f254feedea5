-- What improved in a round comes into a store as the definition has it, and the store can take each row.
use Rattle.std.proofs.Common.{◌≡◌, ℕ, ◌+◌, ◌<◌, List, [], ◌∷◌, ◌++◌, length, map, fold, take, drop, get_or, Option, Some, refl, ap, sym, subst, ◌∙◌, arith}
use Rattle.std.specs.Option.{option_map_or}
use Rattle.std.specs.List.{All, Contains}
use Rattle.std.specs.Prelude.{slice_get}
use Rattle.std.proofs.Math.ListN.{length-map}
use Rattle.std.proofs.Math.Seq.{take-append_seam, drop-append_seam}
use Rattle.std.proofs.lemmas.Int.{ints}
use Rattle.std.proofs.lemmas.List.{append_assoc, map-append, length-append}
use Rattle.std.proofs.lemmas.List.Sums.{fold-append}
use Rattle.std.proofs.lemmas.List.Elements.{All-cons, All-nil, All-contains}
use Rattle.net_model.specs.Network.{Plan, IsPlan}
use Rattle.net_model.specs.Edges.{IsEdge}
use Rattle.net_model.specs.declared.ids.PointId.{PointId}
use Rattle.net_model.specs.declared.part.Edge.{Edge}
use Rattle.closure_model.specs.Derivations.{Support, StandsOn, IsTableOf}
use Rattle.closure_model.specs.Keys.{Shape, key_of, edge_of}
use Rattle.closure_model.specs.ReferenceRow.{IsBelow, with_made}
use Rattle.closure_model.specs.ReferenceRound.{rule_for, with_one, round_made, after_round}
use Rattle.closure_model.specs.Tables.{Graph, HasEdge, lowered, IsFor}
use Rattle.closure_model.specs.declared.derivation.Node.{Node}
use Rattle.closure_model.specs.declared.derivation.NodeId.{NodeId}
use Rattle.closure_model.specs.declared.derivation.Rule.{Rule}
use Rattle.closure_model.specs.declared.rows.Made.{Made}
use Rattle.closure_model.specs.declared.rows.Why.{Why}
use Rattle.closure_model.specs.declared.rows.Why.TheVariants.{No, Up, Low, Cross, Drop}
use Rattle.closure_model.proofs.GroundedEdges.{IsGrounded, AreGrounded, grounded_first, grounded_rest, grounded_cons, grounded_none, lowered_has}
use Rattle.closure_model.proofs.LawProofs.{law_standing_is_derivable, law_derivable_are_edges}
use Rattle.closure_model.proofs.RoundClosure.{standing_fits, standing_sound}
use Rattle.closure_model.proofs.RoundLaw.{StandsAfter, rule_exists, one_stands, with_one_is, goes_on_itself, round_is_grounded}
use Rattle.closure_model.proofs.RowLaw.{law_rows_are_least}
use Rattle.closure_model.proofs.Lists.{Contains-head, Contains-tail}
use Rattle.closure_model.proofs.TableLemmas.{at_most_gives, lowered-at_most}
use Rattle.derivation_dag.specs.Rows.{rule_with, nodes_with, with_row, CanTakeRow, HaveRules}
use Rattle.back_propagation.specs.declared.full_rows.NewRow.{NewRow}
use Rattle.back_propagation.proofs.MadeSteps.{taken_more}
use Rattle.parallel_rounds.specs.StoreUpdate.{first_for, firsts_for, made_in, with_rows, CanTakeNext, CanTakeRows}
use Rattle.parallel_rounds.specs.Targets.{AreRowsOfRound}
use Rattle.parallel_rounds.proofs.LastSteps.{row_of_target}
use Rattle.parallel_rounds.proofs.StaleSteps.{rows_make_round}

-- ---- the node of an edge that improved
rule_same : (before now : List Node) (why : Why) → rule_with now (first_for before why) why ≡ rule_for before now why
rule_same before now (No first second) = refl
rule_same before now (Up first second) = refl
rule_same before now (Low link second) = refl
rule_same before now (Cross link second) = refl
rule_same before now (Drop premise) = refl

-- a lesser weight than one that is lower still is a lesser one
improves_before : (table : Graph) (one edge : Edge) → IsBelow (lowered table one) edge → IsBelow table edge
improves_before table one edge below weight has =
    let (lower, there, less) = at_most_gives (lowered table one) (edge_of (key_of edge) weight) (lowered-at_most table one (edge_of (key_of edge) weight) has) in
    let under = below lower there in
    omega (arith, ints)

-- edges that a row made, each grounded in the table as it is when it comes, with their rules
pub record AreTaken (net : Plan) (before : List Node) (support : Support) (now : Graph) (made : List Made) : Type 0 where
  pub rules : HaveRules net support.nodes made (firsts_for before made)
  pub edges : All (λ (one : Made). IsEdge net one.edge) made
  pub descends : All (λ (one : Made). IsBelow now one.edge) made
  pub same : with_row support made (firsts_for before made) ≡ fold (with_one before) support made
  pub after : StandsAfter net before (fold (with_one before) support made) (with_made now made)

taken_each : (net : Plan) (table : Graph) (before : List Node) (support : Support) (now : Graph) (made : List Made) → IsPlan net → IsTableOf net before table → StandsAfter net before support now → AreGrounded net table now made
    → AreTaken net before support now made
taken_each net table before support now [] plan old was grounded = record {
  rules = tt;
  edges = All-nil (λ (one : Made). IsEdge net one.edge);
  descends = All-nil (λ (one : Made). IsBelow now one.edge);
  same = refl;
  after = was;
}
taken_each net table before support now (one ∷ made) plan old was grounded =
    let (first, below) = grounded_first net table now one made grounded in
    let here : IsGrounded net table support.table one = subst (λ (t : Graph). IsGrounded net table t one) (sym was.table_is) first in
    let has = rule_exists net table before support one was.on old was.stands.table here in
    let node : Node = record { rule = has.rule; edge = one.edge } in
    let next = one_stands net table before support now one old was first in
    let rest = taken_each net table before (with_one before support one) (lowered now one.edge) made plan old next (grounded_rest net table now one made grounded) in
    let held : HasEdge (with_one before support one).table one.edge = subst (λ (t : Graph). HasEdge t one.edge) (sym next.table_is) (lowered_has now one.edge below) in
    let rule : rule_with support.nodes (first_for before one.why) one.why ≡ Some has.rule = rule_same before support.nodes one.why ∙ has.is in
    let nodes : nodes_with support.nodes one (first_for before one.why) ≡ support.nodes ++ node ∷ [] = ap (λ (o : Option Rule). option_map_or (λ r. support.nodes ++ record { rule = r; edge = one.edge } ∷ []) o support.nodes) rule in
    let comes : record { nodes = nodes_with support.nodes one (first_for before one.why); table = lowered support.table one.edge } ≡ with_one before support one =
    ap (λ (ns : List Node). record { nodes = ns; table = lowered support.table one.edge }) nodes ∙ sym (with_one_is net before support one has) in
    let edge : IsEdge net one.edge = law_derivable_are_edges net one.edge plan (law_standing_is_derivable net (with_one before support one) next.stands one.edge held) in
    record {
      rules = (record { rule = has.rule; is = rule; follows = has.given }, subst (λ (s : Support). HaveRules net s.nodes made (firsts_for before made)) (sym comes) rest.rules);
      edges = All-cons (λ (m : Made). IsEdge net m.edge) one made edge rest.edges;
      descends = All-cons (λ (m : Made). IsBelow now m.edge) one made below (λ k d inside. improves_before now one.edge (get_or made k d).edge (rest.descends k d inside));
      same = ap (λ (s : Support). with_row s made (firsts_for before made)) comes ∙ rest.same;
      after = rest.after;
    }

-- ---- rows
-- a row ends in its target, which is a point
pub record IsRowFor (points : ℕ) (row : NewRow) : Type 0 where
  pub target : row.target.0 < points
  pub ends : All (λ (one : Made). one.edge.to ≡ row.target) row.made

grounded_split : (net : Plan) (table now : Graph) (made more : List Made) → AreGrounded net table now (made ++ more) → AreGrounded net table now made × AreGrounded net table (with_made now made) more
grounded_split net table now [] more grounded = (grounded_none net table now, grounded)
grounded_split net table now (one ∷ made) more grounded =
    let (first, below) = grounded_first net table now one (made ++ more) grounded in
    let (here, later) = grounded_split net table (lowered now one.edge) made more (grounded_rest net table now one (made ++ more) grounded) in
    (grounded_cons net table now one made first below here, later)

rows_taken : (net : Plan) (table : Graph) (before : List Node) (support : Support) (now : Graph) (rows : List NewRow) → IsPlan net → IsTableOf net before table → StandsAfter net before support now → AreGrounded net table now (made_in rows)
    → ((row : NewRow) → Contains rows row → IsRowFor (length net.points) row) → CanTakeRows net support rows (firsts_for before (made_in rows))
    × (with_rows support rows (firsts_for before (made_in rows)) ≡ fold (with_one before) support (made_in rows))
rows_taken net table before support now [] plan old was grounded each = (tt, refl)
rows_taken net table before support now (row ∷ rows) plan old was grounded each =
    let (here, later) = grounded_split net table now row.made (made_in rows) grounded in
    let taken = taken_each net table before support now row.made plan old was here in
    let first : List (Option NodeId) = firsts_for before row.made in
    let others : List (Option NodeId) = firsts_for before (made_in rows) in
    let lists : firsts_for before (row.made ++ made_in rows) ≡ first ++ others = map-append (λ (one : Made). first_for before one.why) row.made (made_in rows) in
    let long : length first ≡ length row.made = length-map row.made (λ (one : Made). first_for before one.why) in
    let prefix : take (length row.made) (firsts_for before (row.made ++ made_in rows)) ≡ first = (λ i. take (sym long i) (lists i)) ∙ take-append_seam first others in
    let back : drop (length row.made) (firsts_for before (row.made ++ made_in rows)) ≡ others = (λ i. drop (sym long i) (lists i)) ∙ drop-append_seam first others in
    let fits : IsFor net support.table = standing_fits net plan support was.stands in
    let (rest, same) = rows_taken net table before (fold (with_one before) support row.made) (with_made now row.made) rows plan old taken.after later (λ other inside. each other (Contains-tail row rows other inside)) in
    let own = each row (Contains-head row rows) in
    let can : CanTakeRow net support row.target row.made first = record {
      for_network = fits;
      target = subst (λ (s : Shape). row.target.0 < s.points) (sym fits) own.target;
      ends = own.ends;
      edges = taken.edges;
      descends = subst (λ (t : Graph). All (λ (one : Made). IsBelow t one.edge) row.made) (sym was.table_is) taken.descends;
      rules = taken.rules;
    } in
    let next : CanTakeNext net support row (firsts_for before (row.made ++ made_in rows)) = record {
      given = (let whole : length (firsts_for before (row.made ++ made_in rows)) ≡ length first + length others = ap length lists ∙ length-append first others in omega (arith, whole, long));
      can = subst (CanTakeRow net support row.target row.made) (sym prefix) can;
    } in (
      (
        next,
        subst (λ (fs : List (Option NodeId)). CanTakeRows net (with_row support row.made fs) rows (drop (length row.made) (firsts_for before (row.made ++ made_in rows)))) (sym prefix)
            (subst (λ (s : Support). CanTakeRows net s rows (drop (length row.made) (firsts_for before (row.made ++ made_in rows)))) (sym taken.same) (subst (CanTakeRows net (fold (with_one before) support row.made) rows) (sym back) rest)),
      ),
      (λ i. with_rows (with_row support row.made (prefix i)) rows (back i)) ∙ ap (λ (s : Support). with_rows s rows others) taken.same ∙ same ∙ sym (fold-append (with_one before) support row.made (made_in rows)),
    )

-- ---- the rows of a round
row_for : (net : Plan) (support : Support) (rows : List NewRow) → IsPlan net → StandsOn net support → AreRowsOfRound net support.table rows → (row : NewRow) → Contains rows row → IsRowFor (length net.points) row
row_for net support rows plan stands are row inside =
    let (point, there, is) = row_of_target net support.table rows are row inside in
    let fits : IsFor net support.table = standing_fits net plan support stands in
    subst (IsRowFor (length net.points)) is
    (record {
      target = subst (λ (s : Shape). point.0 < s.points) fits (All-contains (λ (p : PointId). p.0 < support.table.shape.points) are.targets point are.points there);
      ends = (law_rows_are_least net support.table point plan fits (standing_sound net plan support stands)).ends;
    })

round_rows : (net : Plan) (support : Support) (rows : List NewRow) → IsPlan net → StandsOn net support → AreRowsOfRound net support.table rows
    → CanTakeRows net support rows (firsts_for support.nodes (made_in rows)) × (with_rows support rows (firsts_for support.nodes (made_in rows)) ≡ after_round net support)
round_rows net support rows plan stands are =
    let whole : made_in rows ≡ round_made net support.table = rows_make_round net support.table rows are in
    let grounded : AreGrounded net support.table support.table (made_in rows) =
    subst (AreGrounded net support.table support.table) (sym whole) (round_is_grounded net support.table plan (standing_fits net plan support stands) (standing_sound net plan support stands)) in
    let (can, is) = rows_taken net support.table support.nodes support support.table rows plan stands.table (record { stands = stands; on = goes_on_itself support.nodes; table_is = refl }) grounded
    (row_for net support rows plan stands are) in
    (can, is ∙ ap (fold (with_one support.nodes) support) whole)

-- what is handed on of the rows and of the nodes of first premises
pub record AreHandedOn (support : Support) (rows : List NewRow) (given : List NewRow) (firsts : List (Option NodeId)) : Type 0 where
  pub rows_are : given ≡ rows
  pub firsts_are : firsts ≡ firsts_for support.nodes (made_in rows)

pub handed_on : (support : Support) (rows seen given : List NewRow) (kept firsts : List (Option NodeId)) → seen ≡ rows → kept ≡ firsts_for support.nodes (made_in seen) → given ≡ rows → firsts ≡ kept → AreHandedOn support rows given firsts
handed_on support rows seen given kept firsts seen_is kept_is given_is is = record { rows_are = given_is; firsts_are = is ∙ (kept_is ∙ ap (λ (rs : List NewRow). firsts_for support.nodes (made_in rs)) seen_is) }

pub can_take_round : (net : Plan) (support : Support) (rows given : List NewRow) (firsts : List (Option NodeId)) → IsPlan net → StandsOn net support → AreRowsOfRound net support.table rows → AreHandedOn support rows given firsts
    → CanTakeRows net support given firsts
can_take_round net support rows given firsts plan stands are hand =
    subst (λ (rs : List NewRow). CanTakeRows net support rs firsts) (sym hand.rows_are) (subst (CanTakeRows net support rows) (sym hand.firsts_are) (round_rows net support rows plan stands are).0)

pub round_taken : (net : Plan) (support after : Support) (rows given : List NewRow) (firsts : List (Option NodeId)) → IsPlan net → StandsOn net support → AreRowsOfRound net support.table rows → AreHandedOn support rows given firsts
    → after ≡ with_rows support given firsts
    → after ≡ after_round net support
round_taken net support after rows given firsts plan stands are hand is = is ∙ ((λ i. with_rows support (hand.rows_are i) (hand.firsts_are i)) ∙ (round_rows net support rows plan stands are).1)

pub how_many : (net : Plan) (support : Support) (rows given : List NewRow) (firsts : List (Option NodeId)) → AreRowsOfRound net support.table rows → AreHandedOn support rows given firsts
    → length firsts ≡ length (round_made net support.table)
how_many net support rows given firsts are hand =
    ap length hand.firsts_are ∙ (length-map (made_in rows) (λ (one : Made). first_for support.nodes one.why) ∙ ap length (rows_make_round net support.table rows are))

pub rows_in : (net : Plan) (read table : Graph) (rows : List NewRow) → read ≡ table → AreRowsOfRound net read rows → AreRowsOfRound net table rows
rows_in net read table rows same are = subst (λ (t : Graph). AreRowsOfRound net t rows) same are

-- one first premise more
pub firsts_more : (nodes : List Node) (made : List Made) (place : ℕ) (one : Made) (before items new : List (Option NodeId)) → slice_get made place ≡ Some one → items ≡ before ++ firsts_for nodes (take place made)
    → new ≡ items ++ first_for nodes one.why ∷ [] → new ≡ before ++ firsts_for nodes (take (place + 1) made)
firsts_more nodes made place one before items new here was is =
    let first : Made → Option NodeId = λ m. first_for nodes m.why in
    let more : firsts_for nodes (take (place + 1) made) ≡ firsts_for nodes (take place made) ++ first one ∷ [] = ap (map first) (taken_more made place one here) ∙ map-append first (take place made) (one ∷ []) in
    is
    ∙ (ap (λ (firsts : List (Option NodeId)). firsts ++ first one ∷ []) was ∙ (append_assoc before (firsts_for nodes (take place made)) (first one ∷ []) ∙ ap (λ (firsts : List (Option NodeId)). before ++ firsts) (sym more)))
