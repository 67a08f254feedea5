-- A closed list of edges without a cycle of negative ordinary edges has an order: the points are inserted one by one.
use Rattle.std.proofs.Common.{◌≡◌, ◌⊎◌, ℕ, zero, suc, pos, ◌+◌, ◌<◌, ◌≤◌, ◌<ℤ◌, ◌&&◌, Bool, true, false, cond, List, [], ◌∷◌, Some, length, map, is_none, refl, ap, sym, ◌∙◌, subst, arith, inl, inr}
use Rattle.std.specs.Prelude.{slice_get}
use Rattle.std.specs.List.{AllByRecursion, Contains, IsDistinct, list_any, range_with_len}
use Rattle.std.proofs.lemmas.Bool.{and_parts, and_from, or_cases, or_left, or_right, or_parts, true≢false, false_from_ne_true, ne_eqb, cases_lt}
use Rattle.std.proofs.lemmas.Int.{ints}
use Rattle.std.proofs.lemmas.Option.{none-some, same_Some, slice_get-get_or, get_or_from_slice_get, slice_get_within}
use Rattle.std.proofs.lemmas.List.Elements.{All-from_recursion, Contains-append_right}
use Rattle.std.proofs.lemmas.Map.Keys.{IsDistinct-cons, IsDistinct-head, IsDistinct-tail}
use Rattle.net_model.specs.Network.{Plan}
use Rattle.net_model.specs.Rules.{is_ordinary, is_negative}
use Rattle.net_model.specs.declared.ids.PointId.{PointId}
use Rattle.net_model.specs.declared.part.Edge.{Edge}
use Rattle.net_model.proofs.RuleLemmas.{none_is}
use Rattle.net_model.proofs.AppliedRuleLemmas.{negative_holds}
use Rattle.strategy_model.specs.Plays.{same_point, points_of}
use Rattle.strategy_model.specs.Edges.{HasNoNegativeCycle}
use Rattle.strategy_model.specs.Dispatch.{IsClosedList, IsOrder}
use Rattle.strategy_model.specs.DispatchLaws.{ClosedListsHaveOrders}
use Rattle.strategy_model.proofs.MomentLemmas.{same_from_test, test_from_same, point_at}
use Rattle.strategy_model.proofs.ExactLemmas.{below_zero}
use Rattle.strategy_model.proofs.ClosedLemmas.{stands_over_both}
use Rattle.strategy_model.proofs.SituationLemmas.{Among}

-- a negative ordinary edge of a list goes from one point to another
abbrev goes_by : PointId → PointId → Edge → Bool
goes_by from to edge = is_ordinary edge && is_negative edge && same_point edge.from from && same_point edge.to to

abbrev goes : List Edge → PointId → PointId → Bool
goes edges from to = list_any (goes_by from to) edges

record Goes (edges : List Edge) (from to : PointId) : Type 0 where
  pub edge : Edge
  pub among : Contains edges edge
  pub ordinary : is_ordinary edge ≡ true
  pub negative : is_negative edge ≡ true
  pub begins : edge.from ≡ from
  pub ends : edge.to ≡ to

goes_means : (edges : List Edge) (from to : PointId) → goes edges from to ≡ true → Goes edges from to
goes_means [] from to holds = absurd (true≢false (sym holds))
goes_means (edge ∷ edges) from to holds =
    elim (or_cases (is_ordinary edge && is_negative edge && same_point edge.from from && same_point edge.to to) (goes edges from to) holds) [
      | inl here ↦
          let (three, ends) = and_parts (is_ordinary edge && is_negative edge && same_point edge.from from) (same_point edge.to to) here in
          let (two, begins) = and_parts (is_ordinary edge && is_negative edge) (same_point edge.from from) three in
          let (ordinary, negative) = and_parts (is_ordinary edge) (is_negative edge) two in
          record { edge = edge; among = (0, omega arith, refl); ordinary = ordinary; negative = negative; begins = same_from_test edge.from from begins; ends = same_from_test edge.to to ends }
      | inr later ↦
          let rest = goes_means edges from to later in
          record { edge = rest.edge; among = Contains-append_right (edge ∷ []) edges rest.edge rest.among; ordinary = rest.ordinary; negative = rest.negative; begins = rest.begins; ends = rest.ends }
    ]

any_holds : {A : Type 0} (test : A → Bool) (xs : List A) (k : ℕ) (x : A) → slice_get xs k ≡ Some x → test x ≡ true → list_any test xs ≡ true
any_holds test [] k x there passes = absurd (none-some x there)
any_holds {A} test (y ∷ xs) zero x there passes =
    or_left (test y) (list_any test xs) (subst (λ (z : A). test z ≡ true) (sym (same_Some y x there)) passes)
any_holds test (y ∷ xs) (suc k) x there passes =
    or_right (test y) (list_any test xs) (any_holds test xs k x there passes)

place_of : {A : Type 0} (xs : List A) (x : A) → Contains xs x → (k : ℕ) × (slice_get xs k ≡ Some x)
place_of xs x (k, inside, here) = (k, slice_get-get_or xs k x inside ∙ ap (λ y. Some y) here)

goes_holds : (edges : List Edge) (from to : PointId) → Goes edges from to → goes edges from to ≡ true
goes_holds edges from to found =
    let (k, there) = place_of edges found.edge found.among in
    any_holds (goes_by from to) edges k found.edge there (and_from (is_ordinary found.edge && is_negative found.edge && same_point found.edge.from from) (same_point found.edge.to to)
    (and_from (is_ordinary found.edge && is_negative found.edge) (same_point found.edge.from from) (and_from (is_ordinary found.edge) (is_negative found.edge) found.ordinary found.negative)
    (test_from_same found.edge.from from found.begins)) (test_from_same found.edge.to to found.ends))

none_holds : {A : Type 0} (test : A → Bool) (xs : List A) → list_any test xs ≡ false → AllByRecursion (λ x. test x ≡ false) xs
none_holds test [] none = tt
none_holds test (x ∷ xs) none =
    let (here, later) = or_parts (test x) (list_any test xs) none in (here, none_holds test xs later)

-- ---- insertion
-- points in order: none has a negative ordinary edge to itself or to a later one
abbrev InOrder : List Edge → List PointId → Type 0
InOrder edges [] = Unit {0}
InOrder edges (point ∷ points) = AllByRecursion (λ other. goes edges point other ≡ false) (point ∷ points) × InOrder edges points

-- a point comes after the last one to which it has an edge
abbrev inserted : List Edge → PointId → List PointId → List PointId
inserted edges point [] = point ∷ []
inserted edges point (first ∷ points) =
    cond (list_any (goes edges point) (first ∷ points)) (first ∷ inserted edges point points) (point ∷ first ∷ points)

abbrev order_of : List Edge → List PointId → List PointId
order_of edges [] = []
order_of edges (point ∷ points) = inserted edges point (order_of edges points)

inserted_all : (edges : List Edge) (P : PointId → Type 0) (point : PointId) (points : List PointId) → P point → AllByRecursion P points → AllByRecursion P (inserted edges point points)
inserted_all edges P point [] here all = (here, tt)
inserted_all edges P point (first ∷ points) here all =
    by (list_any (goes edges point) (first ∷ points)) (inserted_all edges P point points here all.1)
  where
    by : (b : Bool) → AllByRecursion P (inserted edges point points) → AllByRecursion P (cond b (first ∷ inserted edges point points) (point ∷ first ∷ points))
    by true rest = (all.0, rest)
    by false rest = (here, all)

inserted_itself : (edges : List Edge) (point : PointId) (points : List PointId) → Among (inserted edges point points) point
inserted_itself edges point [] = inl refl
inserted_itself edges point (first ∷ points) =
    by (list_any (goes edges point) (first ∷ points)) (inserted_itself edges point points)
  where
    by : (b : Bool) → Among (inserted edges point points) point → Among (cond b (first ∷ inserted edges point points) (point ∷ first ∷ points)) point
    by true rest = inr rest
    by false rest = inl refl

inserted_keeps : (edges : List Edge) (point : PointId) (points : List PointId) (other : PointId) → Among points other → Among (inserted edges point points) other
inserted_keeps edges point [] other among = absurd among
inserted_keeps edges point (first ∷ points) other among =
    by (list_any (goes edges point) (first ∷ points)) among (inserted_keeps edges point points other)
  where
    by : (b : Bool) → (first ≡ other) ⊎ Among points other → (Among points other → Among (inserted edges point points) other) → Among (cond b (first ∷ inserted edges point points) (point ∷ first ∷ points)) other
    by true (inl here) rest = inl here
    by true (inr later) rest = inr (rest later)
    by false found rest = inr found

order_keeps : (edges : List Edge) (points : List PointId) (other : PointId) → Among points other → Among (order_of edges points) other
order_keeps edges [] other among = absurd among
order_keeps edges (point ∷ points) other (inl here) =
    subst (Among (inserted edges point (order_of edges points))) here (inserted_itself edges point (order_of edges points))
order_keeps edges (point ∷ points) other (inr later) =
    inserted_keeps edges point (order_of edges points) other (order_keeps edges points other later)

order_all : (edges : List Edge) (P : PointId → Type 0) (points : List PointId) → AllByRecursion P points → AllByRecursion P (order_of edges points)
order_all edges P [] all = tt
order_all edges P (point ∷ points) all =
    inserted_all edges P point (order_of edges points) all.0 (order_all edges P points all.1)

-- ---- each once
apart_back : (p q : PointId) → same_point p q ≡ false → same_point q p ≡ false
apart_back p q apart =
    false_from_ne_true (same_point q p) (λ same. true≢false (sym (test_from_same p q (sym (same_from_test q p same))) ∙ apart))

inserted_distinct : (edges : List Edge) (point : PointId) (points : List PointId) → AllByRecursion (λ other. same_point point other ≡ false) points → IsDistinct same_point points → IsDistinct same_point (inserted edges point points)
inserted_distinct edges point [] apart distinct = IsDistinct-cons same_point point [] tt distinct
inserted_distinct edges point (first ∷ points) apart distinct =
    by (list_any (goes edges point) (first ∷ points)) (inserted_distinct edges point points apart.1 (IsDistinct-tail same_point first points distinct))
  where
    by : (b : Bool) → IsDistinct same_point (inserted edges point points) → IsDistinct same_point (cond b (first ∷ inserted edges point points) (point ∷ first ∷ points))
    by true rest =
        IsDistinct-cons same_point first (inserted edges point points) (inserted_all edges (λ other. same_point first other ≡ false) point points (apart_back point first apart.0) (IsDistinct-head same_point first points distinct)) rest
    by false rest = IsDistinct-cons same_point point (first ∷ points) apart distinct

order_distinct : (edges : List Edge) (points : List PointId) → IsDistinct same_point points → IsDistinct same_point (order_of edges points)
order_distinct edges [] distinct = distinct
order_distinct edges (point ∷ points) distinct =
    inserted_distinct edges point (order_of edges points) (order_all edges (λ other. same_point point other ≡ false) points (IsDistinct-head same_point point points distinct))
    (order_distinct edges points (IsDistinct-tail same_point point points distinct))

above : (a n b : ℕ) → b < a → AllByRecursion (λ other. same_point (record { 0 = b }) other ≡ false) (map (λ k. record { 0 = k }) (range_with_len a n))
above a zero b below = tt
above a (suc n) b below = (ne_eqb b a (λ same. omega (arith, same, below)), above (a + 1) n b (omega (arith, below)))

numbered_distinct : (a n : ℕ) → IsDistinct same_point (map (λ k. record { 0 = k }) (range_with_len a n))
unfolding IsDistinct
numbered_distinct a zero = tt
numbered_distinct a (suc n) =
    IsDistinct-cons same_point (record { 0 = a }) (map (λ k. record { 0 = k }) (range_with_len (a + 1) n)) (above (a + 1) n a (omega arith)) (numbered_distinct (a + 1) n)

-- ---- places
among_place : {A : Type 0} (xs : List A) (k : ℕ) (x : A) → slice_get xs k ≡ Some x → Among xs x
among_place [] k x there = absurd (none-some x there)
among_place (y ∷ xs) zero x there = inl (same_Some y x there)
among_place (y ∷ xs) (suc k) x there = inr (among_place xs k x there)

contains_among : {A : Type 0} (xs : List A) (x : A) → Among xs x → Contains xs x
contains_among [] x among = absurd among
contains_among (y ∷ xs) x (inl here) = (0, omega arith, here)
contains_among (y ∷ xs) x (inr later) = Contains-append_right (y ∷ []) xs x (contains_among xs x later)

not_to_later : (edges : List Edge) (points : List PointId) (i j : ℕ) (from to : PointId) → InOrder edges points → i ≤ j → slice_get points i ≡ Some from → slice_get points j ≡ Some to → goes edges from to ≡ false
not_to_later edges [] i j from to ordered within at_from at_to = absurd (none-some from at_from)
not_to_later edges (point ∷ points) zero j from to ordered within at_from at_to =
    let all = All-from_recursion (λ other. goes edges point other ≡ false) (point ∷ points) ordered.0 in
    let fails : goes edges point to ≡ false = subst (λ (p : PointId). goes edges point p ≡ false) (get_or_from_slice_get (point ∷ points) j to point at_to) (all j point (slice_get_within (point ∷ points) j to at_to)) in
    subst (λ (p : PointId). goes edges p to ≡ false) (same_Some point from at_from) fails
not_to_later edges (point ∷ points) (suc i) zero from to ordered within at_from at_to = absurd (omega (arith, within))
not_to_later edges (point ∷ points) (suc i) (suc j) from to ordered within at_from at_to =
    not_to_later edges points i j from to ordered.1 (omega (arith, within)) at_from at_to

module _ (net : Plan) (edges : List Edge) (closed : IsClosedList net edges) (acyclic : HasNoNegativeCycle edges) where
  over_both : (first second third : PointId) → goes edges first second ≡ true → goes edges second third ≡ true → goes edges first third ≡ true
  over_both first second third one two =
      let here = goes_means edges first second one in
      let there = goes_means edges second third two in
      let stands = stands_over_both net edges closed here.edge there.edge here.among there.among (none_is here.edge.label here.ordinary) (none_is there.edge.label there.ordinary) (here.ends ∙ sym there.begins)
      (below_zero here.edge here.negative) (below_zero there.edge there.negative) in
      let at_most = stands.at_most in
      let negative = below_zero there.edge there.negative in
      let below : stands.entry.weight <ℤ pos 0 = omega (arith, ints, at_most, negative) in
      goes_holds edges first third (record {
        edge = stands.entry;
        among = stands.among;
        ordinary = ap is_none stands.label;
        negative = negative_holds stands.entry below;
        begins = stands.from ∙ here.begins;
        ends = stands.to ∙ there.ends;
      })

  not_to_itself : (point : PointId) → goes edges point point ≡ false
  not_to_itself point =
      false_from_ne_true (goes edges point point) (λ holds.
      let found = goes_means edges point point holds in
      acyclic (found.edge ∷ []) (All-from_recursion (Contains edges) (found.edge ∷ []) (found.among, tt)) (point, (found.begins, found.ends), (λ none. absurd cc), ((found.ordinary, found.negative), tt)))

  no_edge_back : (point first : PointId) (points : List PointId) → list_any (goes edges point) points ≡ true → AllByRecursion (λ other. goes edges first other ≡ false) points → goes edges first point ≡ true → ⊥
  no_edge_back point first [] some none back = true≢false (sym some)
  no_edge_back point first (other ∷ points) some none back =
      elim (or_cases (goes edges point other) (list_any (goes edges point) points) some) [
        | inl here ↦ true≢false (sym (over_both first point other back here) ∙ none.0)
        | inr later ↦ no_edge_back point first points later none.1 back
      ]

  inserted_in_order : (point : PointId) (points : List PointId) → InOrder edges points → InOrder edges (inserted edges point points)
  inserted_in_order point [] ordered = ((not_to_itself point, tt), tt)
  inserted_in_order point (first ∷ points) ordered =
      by (list_any (goes edges point) (first ∷ points)) refl (inserted_in_order point points ordered.1)
    where
      by : (b : Bool) → list_any (goes edges point) (first ∷ points) ≡ b → InOrder edges (inserted edges point points) → InOrder edges (cond b (first ∷ inserted edges point points) (point ∷ first ∷ points))
      by true some rest =
          let fails = false_from_ne_true (goes edges first point) (no_edge_back point first (first ∷ points) some ordered.0) in
          ((ordered.0.0, inserted_all edges (λ other. goes edges first other ≡ false) point points fails ordered.0.1), rest)
      by false none rest = ((not_to_itself point, none_holds (goes edges point) (first ∷ points) none), ordered)

  order_in_order : (points : List PointId) → InOrder edges (order_of edges points)
  order_in_order [] = tt
  order_in_order (point ∷ points) = inserted_in_order point (order_of edges points) (order_in_order points)

  has_order : IsOrder net edges (order_of edges (points_of net))
  has_order = record {
    complete = λ point within. contains_among (order_of edges (points_of net)) point (order_keeps edges (points_of net) point (among_place (points_of net) point.0 point (point_at net point within)));
    once = order_distinct edges (points_of net) (numbered_distinct 0 (length net.points));
    descends = λ edge later earlier among negative at_from at_to. elim (cases_lt earlier later) [
      | inl before ↦ before
      | inr not_before ↦
          let fails = not_to_later edges (order_of edges (points_of net)) later earlier edge.from edge.to (order_in_order (points_of net)) not_before at_from at_to in
          absurd (true≢false (sym (goes_holds edges edge.from edge.to (record { edge = edge; among = among; ordinary = negative.0; negative = negative.1; begins = refl; ends = refl })) ∙ fails))
    ];
  }

pub law_closed_lists_have_orders : ClosedListsHaveOrders
law_closed_lists_have_orders net edges closed acyclic = (order_of edges (points_of net), has_order net edges closed acyclic)
