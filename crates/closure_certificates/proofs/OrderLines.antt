-- The order of a closure passes: no point stands twice, none is missing, and each negative ordinary edge goes from a later point to an earlier one.
use Rattle.std.proofs.Common.{◌≡◌, ◌≢◌, ℕ, suc, ◌+◌, ◌<◌, ◌≤◌, ◌==◌, ℤ, Bool, true, false, not, ◌&&◌, List, [], ◌∷◌, ◌++◌, length, get_or, Option, Some, None, Ok, refl, ap, sym, ◌∙◌, subst, arith, append_assoc, length-append}
use Rattle.std.specs.Prelude.{nat_lt, int_lt, pos, is_none}
use Rattle.std.specs.List.{AllPairs, Contains, list_any, list_all, enumerate_from}
use Rattle.std.specs.Option.{option_map_or}
use Rattle.std.proofs.lemmas.Bool.Decides.{nat_tests}
use Rattle.std.proofs.lemmas.List.{get_or_append_left, get_or_at}
use Rattle.std.proofs.lemmas.List.Quantifiers.{position-Some}
use Rattle.std.proofs.lemmas.List.Folds.{list_any_none}
use Rattle.net_model.specs.Network.{Plan}
use Rattle.net_model.specs.Rules.{is_negative}
use Rattle.net_model.specs.declared.ids.PointId.{PointId}
use Rattle.net_model.specs.declared.ids.LinkId.{LinkId}
use Rattle.net_model.specs.declared.part.Edge.{Edge}
use Rattle.strategy_model.specs.Plays.{same_point}
use Rattle.closure_model.specs.Keys.{Shape, ordinary_key}
use Rattle.closure_model.specs.Orders.{goes, IsOrder}
use Rattle.closure_model.specs.Tables.{Graph, weight_of, HasEdge, IsFor, edges_of}
use Rattle.closure_model.proofs.TableLemmas.{listed_edge}
use Rattle.closure_model.proofs.Lists.{each-from_contains}
use Rattle.cert_format.specs.JudgementForms.{unless}
use Rattle.cert_checker.specs.Tables.{stand_once, is_complete, place_in, comes_before, rises, placed_passes, order_passes, none_refused}
use Rattle.cert_checker.specs.Walk.{refusal}
use Rattle.cert_checker.specs.declared.judgement.CertFault.TheVariants.{OrderBroken}
use Rattle.cert_checker.proofs.ListLemmas.{passes_some, none_at}
use Rattle.refutation_certificates.proofs.RulesPass.{goes_on, unless_is}
use Rattle.closure_certificates.proofs.ClosureEdges.{none_refused_of}

-- ---- each point once
abbrev Apart : List PointId → Type 0
Apart points = AllPairs (λ (p q : PointId). p.0 ≢ q.0) points

other_number : (m n : ℕ) → (m ≡ n → ⊥) → (m == n) ≡ false
other_number m n apart = grind (arith, nat_tests, apart)

-- a point does not stand among those before it
new_here : (earlier : List PointId) (point : PointId) (points : List PointId) → Apart (earlier ++ point ∷ points) → list_any (same_point point) earlier ≡ false
new_here earlier point points apart = list_any_none (same_point point) earlier (λ k d inside. differs k d inside)
  where
    long : length earlier < length (earlier ++ point ∷ points)
    long = let sum = length-append earlier (point ∷ points) in omega (arith, sum)

    differs : (k : ℕ) (d : PointId) → k < length earlier → same_point point (get_or earlier k d) ≡ false
    differs k d inside =
        let here = get_or_append_left earlier (point ∷ points) d k inside in
        let last = get_or_at earlier point points d (length earlier) refl in
        other_number point.0 (get_or earlier k d).0 (λ same. apart k (length earlier) d inside long (ap (λ (p : PointId). p.0) here ∙ (sym same ∙ ap (λ (p : PointId). p.0) (sym last))))

once : (earlier points : List PointId) → Apart (earlier ++ points) → stand_once earlier points ≡ Ok tt
once earlier [] apart = refl
once earlier (point ∷ points) apart =
    goes_on (unless (not (list_any (same_point point) earlier)) (refusal (length earlier + 1) OrderBroken)) (λ new. stand_once (earlier ++ point ∷ []) points) tt (Ok tt)
    (unless_is (not (list_any (same_point point) earlier)) (refusal (length earlier + 1) OrderBroken) (ap not (new_here earlier point points apart)))
    (once (earlier ++ point ∷ []) points (subst Apart (sym (append_assoc earlier (point ∷ []) points)) apart))

-- ---- none missing
none_missing_from : {X : Type 0} (order : List PointId) (start : ℕ) (names : List X) → ((k : ℕ) → k < length names → Contains order (record { 0 = start + k }))
    → list_all (λ (point : ℕ × X). list_any (same_point (record { 0 = point.0 })) order) (enumerate_from start names) ≡ true
none_missing_from order start [] there = refl
none_missing_from order start (name ∷ names) there =
    both (list_any (same_point (record { 0 = start })) order) _ (stands_there start (subst (λ (n : ℕ). Contains order (record { 0 = n })) (number start) (there 0 (omega arith))))
    (none_missing_from order (start + 1) names (λ k inside. subst (λ (n : ℕ). Contains order (record { 0 = n })) (next start k) (there (suc k) (omega arith))))
  where
    number : (n : ℕ) → n + 0 ≡ n
    number n = omega arith

    next : (n k : ℕ) → n + suc k ≡ n + 1 + k
    next n k = omega arith

    stands_there : (n : ℕ) → Contains order (record { 0 = n }) → list_any (same_point (record { 0 = n })) order ≡ true
    stands_there n among = passes_some (same_point (record { 0 = n })) order (record { 0 = n }) among (itself n)
      where
        itself : (n : ℕ) → (n == n) ≡ true
        itself n = grind (arith, nat_tests)

    both : (a b : Bool) → a ≡ true → b ≡ true → (a && b) ≡ true
    both true true one two = refl
    both true false one two = two
    both false b one two = one

-- ---- negative ordinary edges go from a later point to an earlier one
module _ (net : Plan) (table : Graph) (order : List PointId) (fits : IsFor net table) (is : IsOrder table order) where
  abbrev edges : List Edge
  edges = edges_of table

  -- the place of a point of the network
  record HasPlace (point : PointId) (place : Option ℕ) : Type 0 where
    at : ℕ
    is_at : place ≡ Some at
    inside : at < length order
    there : (d : PointId) → get_or order at d ≡ point

  same_number : (p q : PointId) → (p.0 == q.0) ≡ true → q ≡ p
  same_number p q same =
      let number : q.0 ≡ p.0 = grind (arith, nat_tests) in
      ap (λ (n : ℕ). let r : PointId = record { 0 = n } in r) number

  has_place : (point : PointId) → Contains order point → HasPlace point (place_in order point)
  has_place point among = by (place_in order point) refl
    where
      itself : (n : ℕ) → (n == n) ≡ true
      itself n = grind (arith, nat_tests)

      by : (o : Option ℕ) → place_in order point ≡ o → HasPlace point o
      by None none =
          let fails : same_point point point ≡ false = none_at (same_point point) order point none among in
          absurd (differ (same_point point point) (itself point.0) fails)
        where
          differ : (b : Bool) → b ≡ true → b ≡ false → ⊥
          differ true one two = cc
          differ false one two = cc
      by (Some k) found = record {
        at = k;
        is_at = refl;
        inside = (position-Some (same_point point) order k point found).0;
        there = λ d. same_number point (get_or order k d) (position-Some (same_point point) order k d found).1;
      }

  goes_there : (edge : Edge) → HasEdge table edge → edge.label ≡ None → is_negative edge ≡ true → goes table edge.from edge.to ≡ true
  goes_there edge has ordinary negative =
      let here : weight_of table (ordinary_key edge.from edge.to) ≡ Some edge.weight = subst (λ (label : Option LinkId). weight_of table (record { to = edge.to; from = edge.from; label = label }) ≡ Some edge.weight) ordinary has in
      ap (λ (o : Option ℤ). option_map_or (λ weight. int_lt weight (pos 0)) o false) here ∙ negative

  before : (edge : Edge) → goes table edge.from edge.to ≡ true → (a b : ℕ) → ((d : PointId) → get_or order a d ≡ edge.to) → a < length order → ((d : PointId) → get_or order b d ≡ edge.from) → nat_lt a b ≡ true
  before edge there a b at_to inside at_from = by (nat_lt a b) refl
    where
      late : (a b : ℕ) → nat_lt a b ≡ false → b ≤ a
      late a b fails = grind (arith, nat_tests)

      differ : (g : Bool) → g ≡ true → g ≡ false → ⊥
      differ true one two = cc
      differ false one two = cc

      by : (t : Bool) → nat_lt a b ≡ t → t ≡ true
      by true test = refl
      by false test =
          let never = is.descends b a edge.to (late a b test) inside in
          absurd (differ (goes table edge.from edge.to) there (sym (ap (λ (p : PointId). goes table p (get_or order a edge.to)) (at_from edge.to) ∙ ap (goes table edge.from) (at_to edge.to)) ∙ never))

  rises_not : (edge : Edge) → Contains edges edge → Contains order edge.from → Contains order edge.to → rises order edge ≡ false
  rises_not edge among from to = by edge.label refl (is_negative edge) refl
    where
      has : HasEdge table edge
      has = listed_edge table edge among

      descends : edge.label ≡ None → is_negative edge ≡ true → not (comes_before (place_in order edge.to) (place_in order edge.from)) ≡ false
      descends ordinary negative =
          let a = has_place edge.to to in
          let b = has_place edge.from from in
          let first = before edge (goes_there edge has ordinary negative) a.at b.at a.there a.inside b.there in
          ap not (ap (λ (o : Option ℕ). comes_before o (place_in order edge.from)) a.is_at ∙ (ap (comes_before (Some a.at)) b.is_at ∙ first))

      by : (label : Option LinkId) → edge.label ≡ label → (negative : Bool) → is_negative edge ≡ negative → (is_none label && negative && not (comes_before (place_in order edge.to) (place_in order edge.from))) ≡ false
      by None ordinary true negative = descends ordinary negative
      by None ordinary false negative = refl
      by (Some name) labelled negative is_so = refl

  -- the order passes
  pub order_stands : ((edge : Edge) → Contains edges edge → (edge.from.0 < length net.points) × (edge.to.0 < length net.points)) → order_passes net order edges ≡ Ok tt
  order_stands points =
      goes_on (stand_once [] order) (λ once. placed_passes net order edges) tt (Ok tt) (once [] order is.once)
      (goes_on (unless (is_complete net order) (refusal 0 OrderBroken)) (λ complete. none_refused (length order + 1) OrderBroken (rises order) edges) tt (Ok tt)
      (unless_is (is_complete net order) (refusal 0 OrderBroken) (none_missing_from order 0 net.points (λ k inside. placed (record { 0 = 0 + k }) (subst (λ (n : ℕ). n < length net.points) (from_zero k) inside))))
      (none_refused_of (length order + 1) OrderBroken (rises order) edges (each-from_contains (λ edge. rises order edge ≡ false) edges (λ edge among. let (from, to) = points edge among in
      rises_not edge among (placed edge.from from) (placed edge.to to)))))
    where
      from_zero : (n : ℕ) → n ≡ 0 + n
      from_zero n = omega arith

      placed : (point : PointId) → point.0 < length net.points → Contains order point
      placed point inside = is.whole point (subst (λ (s : Shape). point.0 < s.points) (sym fits) inside)
