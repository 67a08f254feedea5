-- The walk of a refutation by a cycle passes: it is closed, and its total is negative.
use Rattle.std.proofs.Common.{◌≡◌, ℕ, suc, ◌+◌, ◌-◌, ◌<◌, ℤ, pos, ◌≤ℤ◌, ◌<ℤ◌, ◌+ℤ◌, true, false, List, [], ◌∷◌, length, map, get_or, Option, Some, None, Ok, refl, ap, sym, ◌∙◌, subst, arith}
use Rattle.std.specs.Prelude.{int_lt}
use Rattle.std.specs.Option.{option_map, option_map_or}
use Rattle.std.specs.List.{AllByRecursion, AllZip, Contains, cons_option}
use Rattle.std.specs.Str.{bytes_eq}
use Rattle.std.proofs.lemmas.Int.{ints}
use Rattle.std.proofs.lemmas.Option.{same_Some}
use Rattle.net_model.specs.Network.{Plan, IsPlan}
use Rattle.net_model.specs.declared.ids.PointId.{PointId}
use Rattle.net_model.specs.declared.part.Edge.{Edge}
use Rattle.closure_model.proofs.Lists.{Contains-head, Contains-tail}
use Rattle.closure_model.proofs.LawProofs.{law_newest_has_the_weight}
use Rattle.closure_model.specs.Derivations.{Support, StandsOn, node_at, IsNodeOf, AreAncestors, itself, weight_at}
use Rattle.closure_model.specs.Keys.{Key, ordinary_key}
use Rattle.closure_model.specs.Orders.{goes, IsCycle}
use Rattle.closure_model.specs.ReferenceRounds.{keys_from, cycle_keys, line_of}
use Rattle.closure_model.specs.Tables.{Graph, weight_of}
use Rattle.closure_model.specs.declared.derivation.Node.{Node}
use Rattle.closure_model.specs.declared.derivation.NodeId.{NodeId}
use Rattle.cert_format.specs.declared.line.CertLine.{CertLine}
use Rattle.cert_format.specs.JudgementForms.{there, unless}
use Rattle.cert_checker.specs.Lines.{line_at}
use Rattle.cert_checker.specs.Walk.{refusal, steps_known, returns_to, is_negative_walk, total_weight, walked, walk_passes}
use Rattle.cert_checker.specs.declared.judgement.CertFault.TheVariants.{Premise, WalkBroken, WalkNotNegative}
use Rattle.cert_checker.proofs.CertificateNames.{bytes_same}
use Rattle.net_model.specs.NetworkParts.{point_name}
use Rattle.refutation_certificates.specs.Certificates.{rule_line_of_node, lines_by}
use Rattle.refutation_certificates.proofs.RulesPass.{goes_on, there_is, unless_is, lt_test}
use Rattle.refutation_certificates.proofs.LinesPass.{numbered_line}

-- a key whose weight in a table is negative
pub record IsNegativeKey (table : Graph) (key : Key) : Type 0 where
  pub weight : ℤ
  pub here : weight_of table key ≡ Some weight
  pub negative : weight <ℤ pos 0

negative_key : (table : Graph) (from to : PointId) → goes table from to ≡ true → IsNegativeKey table (ordinary_key from to)
negative_key table from to test = by (weight_of table (ordinary_key from to)) refl test
  where
    below : (w : ℤ) → int_lt w (pos 0) ≡ true → w <ℤ pos 0
    below w less = grind (arith, ints)

    by : (o : Option ℤ) → weight_of table (ordinary_key from to) ≡ o → option_map_or (λ (w : ℤ). int_lt w (pos 0)) o false ≡ true → IsNegativeKey table (ordinary_key from to)
    by None is holds = absurd cc
    by (Some w) is holds = record { weight = w; here = is; negative = below w holds }

-- the keys of a cycle are negative
negative_from : (table : Graph) (points : List PointId) (first last : PointId)
    → ((i : ℕ) (d : PointId) → i + 1 < length (last ∷ points) → goes table (get_or (last ∷ points) i d) (get_or (last ∷ points) (i + 1) d) ≡ true)
    → ((d : PointId) → goes table (get_or (last ∷ points) (length (last ∷ points) - 1) d) first ≡ true)
    → AllByRecursion (IsNegativeKey table) (keys_from first last points)
negative_from table [] first last steps closes = (negative_key table last first (closes last), tt)
negative_from table (next ∷ points) first last steps closes = (negative_key table last next (steps 0 last (omega arith)), negative_from table points first next later ends)
  where
    later : (i : ℕ) (d : PointId) → i + 1 < length (next ∷ points) → goes table (get_or (next ∷ points) i d) (get_or (next ∷ points) (i + 1) d) ≡ true
    later i d inside =
        let same : suc i + 1 ≡ suc (i + 1) = omega arith in
        subst (λ (n : ℕ). goes table (get_or (next ∷ points) i d) (get_or (last ∷ next ∷ points) n d) ≡ true) same (steps (suc i) d (omega arith))

    ends : (d : PointId) → goes table (get_or (next ∷ points) (length (next ∷ points) - 1) d) first ≡ true
    ends d =
        let same : length (last ∷ next ∷ points) - 1 ≡ suc (length (next ∷ points) - 1) = omega arith in
        subst (λ (n : ℕ). goes table (get_or (last ∷ next ∷ points) n d) first ≡ true) same (closes d)

pub negative_cycle : (table : Graph) (cycle : List PointId) → IsCycle table cycle → AllByRecursion (IsNegativeKey table) (cycle_keys cycle)
negative_cycle table [] whole = tt
negative_cycle table (first ∷ points) whole = negative_from table points first first whole.steps whole.closes

-- a line states an edge of a key, of negative weight
pub record GoesBy (net : Plan) (key : Key) (line : CertLine) : Type 0 where
  pub from : line.from ≡ point_name net.points key.from
  pub to : line.to ≡ point_name net.points key.to
  pub negative : line.weight <ℤ pos 0

-- lines that go on from a point by the keys of a cycle return to its first point
returns : (net : Plan) (points : List PointId) (first last : PointId) (place : ℕ) (begin : List ℕ) (line : CertLine) (lines : List CertLine) → begin ≡ point_name net.points first → line.to ≡ point_name net.points last
    → AllZip (GoesBy net) (keys_from first last points) lines → returns_to begin place line lines ≡ Ok tt
returns net [] first last place begin line [] begins here zip = absurd zip
returns net [] first last place begin line (next ∷ []) begins here (one, none) =
    goes_on (unless (bytes_eq next.from line.to) (refusal (place + 1) WalkBroken)) _ tt (Ok tt) (unless_is (bytes_eq next.from line.to) (refusal (place + 1) WalkBroken) (bytes_same next.from line.to (one.from ∙ sym here)))
    (unless_is (bytes_eq next.to begin) (refusal (place + 1) WalkBroken) (bytes_same next.to begin (one.to ∙ sym begins)))
returns net [] first last place begin line (next ∷ more ∷ lines) begins here (one, none) = absurd none
returns net (point ∷ points) first last place begin line [] begins here zip = absurd zip
returns net (point ∷ points) first last place begin line (next ∷ lines) begins here (one, more) =
    goes_on (unless (bytes_eq next.from line.to) (refusal (place + 1) WalkBroken)) _ tt (Ok tt) (unless_is (bytes_eq next.from line.to) (refusal (place + 1) WalkBroken) (bytes_same next.from line.to (one.from ∙ sym here)))
    (returns net points first point (place + 1) begin next lines begins one.to more)

-- the total of such lines
not_positive : (net : Plan) (keys : List Key) (lines : List CertLine) → AllZip (GoesBy net) keys lines → total_weight lines ≤ℤ pos 0
not_positive net keys [] zip = omega (arith, ints)
not_positive net [] (line ∷ lines) zip = absurd zip
not_positive net (key ∷ keys) (line ∷ lines) (one, more) =
    let rest : total_weight lines ≤ℤ pos 0 = not_positive net keys lines more in
    let here : line.weight <ℤ pos 0 = one.negative in
    omega (arith, ints, rest, here)

below_zero : (a b : ℤ) → a <ℤ pos 0 → b ≤ℤ pos 0 → (a +ℤ b) <ℤ pos 0
below_zero a b one two = omega (arith, ints)

is_closed : (net : Plan) (place : ℕ) (first : PointId) (points : List PointId) (line : CertLine) (lines : List CertLine) → AllZip (GoesBy net) (keys_from first first points) (line ∷ lines) → returns_to line.from place line lines ≡ Ok tt
is_closed net place first [] line [] (one, none) = unless_is (bytes_eq line.to line.from) (refusal place WalkBroken) (bytes_same line.to line.from (one.to ∙ sym one.from))
is_closed net place first [] line (other ∷ lines) (one, none) = absurd none
is_closed net place first (next ∷ points) line lines (one, more) = returns net points first next place line.from line lines one.from one.to more

negative_lines : (net : Plan) (keys : List Key) (line : CertLine) (lines : List CertLine) → AllZip (GoesBy net) keys (line ∷ lines) → total_weight (line ∷ lines) <ℤ pos 0
negative_lines net [] line lines zip = absurd zip
negative_lines net (key ∷ keys) line lines (one, more) = below_zero line.weight (total_weight lines) one.negative (not_positive net keys lines more)

pub walk_ok : (net : Plan) (place : ℕ) (first : PointId) (points : List PointId) (lines : List CertLine) → AllZip (GoesBy net) (keys_from first first points) lines → is_negative_walk place lines ≡ Ok tt
walk_ok net place first [] [] zip = absurd zip
walk_ok net place first (next ∷ points) [] zip = absurd zip
walk_ok net place first points (line ∷ lines) zip =
    let total : int_lt (total_weight (line ∷ lines)) (pos 0) ≡ true = lt_test (total_weight (line ∷ lines)) (pos 0) (negative_lines net (keys_from first first points) line lines zip) in
    goes_on (returns_to line.from place line lines) _ tt (Ok tt) (is_closed net place first points line lines zip)
    (unless_is (int_lt (total_weight (line ∷ lines)) (pos 0)) (refusal (place + length lines) (WalkNotNegative (total_weight (line ∷ lines)))) total)

-- ---- the lines of the steps
module _ (net : Plan) (plan : IsPlan net) (support : Support) (stands : StandsOn net support) (tops lines : List NodeId) (all_under : AreAncestors support.nodes tops lines)
    (tops_are_nodes : (id : NodeId) → Contains tops id → (node : Node) × (node_at support.nodes id ≡ Some node)) where
  -- the lines of the derivation
  abbrev own_lines : List CertLine
  own_lines = lines_by net support.nodes lines

  -- the line of the node of a key that is negative
  step_line : (key : Key) (id : NodeId) → IsNodeOf support.nodes key id → IsNegativeKey support.table key → Contains tops id → (line : CertLine) × (line_at (lines_by net support.nodes lines) (line_of lines id) ≡ Some line)
      × GoesBy net key line
  step_line key id is negative among =
      let inside : Contains lines id = all_under.whole id id among (itself id refl) in
      let in_table : weight_at support.nodes (Some id) ≡ weight_of support.table key = law_newest_has_the_weight net support.nodes support.table key (Some id) stands.table is in
      let in_list : weight_at support.nodes (Some id) ≡ Some is.node.edge.weight = ap (λ (o : Option Node). option_map (λ (e : Edge). e.weight) (option_map (λ (n : Node). n.edge) o)) is.here in
      let same : is.node.edge.weight ≡ negative.weight = same_Some is.node.edge.weight negative.weight (sym in_list ∙ (in_table ∙ negative.here)) in (
        rule_line_of_node net lines is.node,
        numbered_line net plan support.nodes stands.derived tops lines all_under tops_are_nodes id is.node inside is.here,
        record {
          from = ap (λ (k : Key). point_name net.points k.from) is.of_key;
          to = ap (λ (k : Key). point_name net.points k.to) is.of_key;
          negative = subst (λ (w : ℤ). w <ℤ pos 0) (sym same) negative.negative;
        },
      )

  -- each step names a line, and these go by the keys
  steps_ok : (keys : List Key) (steps : List NodeId) (place : ℕ) → AllZip (IsNodeOf support.nodes) keys steps → AllByRecursion (IsNegativeKey support.table) keys → ((id : NodeId) → Contains steps id → Contains tops id)
      → (steps_known own_lines place (map (line_of lines) steps) ≡ Ok tt) × AllZip (GoesBy net) keys (walked own_lines (map (line_of lines) steps))
  steps_ok [] [] place zip negative among = (refl, tt)
  steps_ok [] (step ∷ steps) place zip negative among = absurd zip
  steps_ok (key ∷ keys) [] place zip negative among = absurd zip
  steps_ok (key ∷ keys) (step ∷ steps) place (one, more) (negative, others) among =
      let all : List CertLine = lines_by net support.nodes lines in
      let (line, here, goes_by) = step_line key step one negative (among step (Contains-head step steps)) in
      let (known, rest) = steps_ok keys steps (place + 1) more others (λ id inside. among id (Contains-tail step steps id inside)) in
      let walked_on : walked all (map (line_of lines) (step ∷ steps)) ≡ line ∷ walked all (map (line_of lines) steps) = ap (λ (o : Option CertLine). cons_option o (walked all (map (line_of lines) steps))) here in (
        goes_on (there (line_at all (line_of lines step)) (refusal place Premise)) _ line (Ok tt) (there_is (line_at all (line_of lines step)) (refusal place Premise) line here) known,
        subst (AllZip (GoesBy net) (key ∷ keys)) (sym walked_on) (goes_by, rest),
      )

  pub whole_walk : (first : PointId) (points : List PointId) → AllZip (IsNodeOf support.nodes) (keys_from first first points) tops → AllByRecursion (IsNegativeKey support.table) (keys_from first first points)
      → walk_passes (lines_by net support.nodes lines) (map (line_of lines) tops) ≡ Ok tt
  unfolding walk_passes
  whole_walk first points zip negative =
      let all : List CertLine = lines_by net support.nodes lines in
      let (known, goes_by) = steps_ok (keys_from first first points) tops (length all + 1) zip negative (λ id inside. inside) in
      goes_on (steps_known all (length all + 1) (map (line_of lines) tops)) _ tt (Ok tt) known (walk_ok net (length all + 1) first points (walked all (map (line_of lines) tops)) goes_by)
