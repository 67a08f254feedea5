-- Orders and cycles: what is placed is an order as far as it goes, and if no more can be placed a cycle is reached.
use Rattle.std.proofs.Common.{◌≡◌, ◌≢◌, ℕ, zero, suc, ◌+◌, ◌-◌, ◌==◌, ◌&&◌, ◌||◌, not, ◌≤◌, ◌<◌, Bool, true, false, cond, ◌⊎◌, List, [], ◌∷◌, ◌++◌, map, length, get_or, drop, Option, Some, None, refl, ap, sym, subst, ◌∙◌, inl, inr, ⊎_elim}
use Rattle.std.proofs.Common.{arith}
use Rattle.std.specs.Prelude.{is_none}
use Rattle.std.specs.Option.{option_map_or, option_to_list}
use Rattle.std.specs.List.{All, AllPairs, Contains, find, position_or_len, range_with_len}
use Rattle.std.proofs.lemmas.Bool.{eqb-true, cases_lt, and_parts, not-true, false_from_ne_true}
use Rattle.std.proofs.lemmas.Bool.Decides.{nat_tests}
use Rattle.std.proofs.lemmas.List.{append-nil, get_or_append_left, get_or-append_right, get_or-drop, length_push, length-drop}
use Rattle.std.proofs.lemmas.List.Elements.{All-push, All-drop, Contains-append_left, Contains-push, Contains-push_cases, Contains-get_or}
use Rattle.std.proofs.lemmas.List.FromFn.{length-map-range_with_len}
use Rattle.net_model.specs.declared.ids.PointId.{PointId}
use Rattle.closure_model.specs.Keys.{all_points}
use Rattle.closure_model.specs.Tables.{Graph}
use Rattle.closure_model.specs.Orders.{goes, contains_point, goes_on, next_on, is_free, place_next, placed_after, placed_points, cycle_after, IsOrder, IsCycle}
use Rattle.closure_model.specs.OrderLaws.{PlacedPointsAreAnOrder, CyclesAreMet, OrdersExcludeCycles}
use Rattle.closure_model.proofs.Lists.{Contains-none, Contains-head, Contains-tail, Contains-cases}
use Rattle.closure_model.proofs.KeyLists.{Contains-points}

-- ---- what `find` gives
pub find_none : {X : Type 0} (p : X → Bool) (xs : List X) (x : X) → find p xs ≡ None → Contains xs x → p x ≡ false
find_none p [] x none inside = absurd (Contains-none x inside)
find_none p (y ∷ ys) x none inside = by (find_none p ys x) (p y) refl none (Contains-cases y ys x inside)
  where
    by : (find p ys ≡ None → Contains ys x → p x ≡ false) → (b : Bool) → p y ≡ b → cond b (Some y) (find p ys) ≡ None → (y ≡ x) ⊎ Contains ys x → p x ≡ false
    by rest true is found at = absurd cc
    by rest false is found (inl same) = ap p (sym same) ∙ is
    by rest false is found (inr there) = rest found there

pub record IsFound {X : Type 0} (p : X → Bool) (xs : List X) (x : X) : Type 0 where
  pub inside : Contains xs x
  pub passes : p x ≡ true

pub find_some : {X : Type 0} (p : X → Bool) (xs : List X) (x : X) → find p xs ≡ Some x → IsFound p xs x
find_some p [] x found = absurd cc
find_some p (y ∷ ys) x found = by (find_some p ys x) (p y) refl found
  where
    by : (find p ys ≡ Some x → IsFound p ys x) → (b : Bool) → p y ≡ b → cond b (Some y) (find p ys) ≡ Some x → IsFound p (y ∷ ys) x
    by rest true is here = let same : y ≡ x = cc in record { inside = subst (Contains (y ∷ ys)) same (Contains-head y ys); passes = ap p (sym same) ∙ is }
    by rest false is there = let found = rest there in record { inside = Contains-tail y ys x found.inside; passes = found.passes }

-- ---- points in a list
pub among_from : (ps : List PointId) (p : PointId) → Contains ps p → contains_point ps p ≡ true
among_from [] p inside = absurd (Contains-none p inside)
among_from (q ∷ ps) p inside = by (among_from ps p) (Contains-cases q ps p inside)
  where
    either : (a : Bool) → (a || true) ≡ true
    either true = refl
    either false = refl

    by : (Contains ps p → contains_point ps p ≡ true) → (q ≡ p) ⊎ Contains ps p → (q.0 == p.0 || contains_point ps p) ≡ true
    by rest (inl same) = let test : q.0 == p.0 ≡ true = rw same (grind (arith, nat_tests)) in ap (λ b. b || contains_point ps p) test
    by rest (inr there) = ap (λ b. q.0 == p.0 || b) (rest there) ∙ either (q.0 == p.0)

pub from_among : (ps : List PointId) (p : PointId) → contains_point ps p ≡ true → Contains ps p
from_among [] p among = absurd cc
from_among (q ∷ ps) p among = by (from_among ps p) (q.0 == p.0) refl among
  where
    by : (contains_point ps p ≡ true → Contains ps p) → (b : Bool) → q.0 == p.0 ≡ b → (b || contains_point ps p) ≡ true → Contains (q ∷ ps) p
    by rest true same holds = let is : q ≡ p = ap (λ (k : ℕ). record { 0 = k }) (eqb-true q.0 p.0 same) in subst (Contains (q ∷ ps)) is (Contains-head q ps)
    by rest false same holds = Contains-tail q ps p (rest holds)

pub among_more : (ps : List PointId) (q p : PointId) → contains_point ps p ≡ true → contains_point (ps ++ q ∷ []) p ≡ true
among_more ps q p among = among_from (ps ++ q ∷ []) p (Contains-append_left ps (q ∷ []) p (from_among ps p among))

pub among_last : (ps : List PointId) (q : PointId) → contains_point (ps ++ q ∷ []) q ≡ true
among_last ps q = among_from (ps ++ q ∷ []) q (Contains-push ps q)

pub not_among_less : (ps : List PointId) (q p : PointId) → contains_point (ps ++ q ∷ []) p ≡ false → contains_point ps p ≡ false
not_among_less ps q p none = by (contains_point ps p) refl
  where
    by : (b : Bool) → contains_point ps p ≡ b → contains_point ps p ≡ false
    by true is = let more : contains_point (ps ++ q ∷ []) p ≡ true = among_more ps q p is in absurd cc
    by false is = is

pub in_range : (n : ℕ) (p : PointId) → Contains {X = PointId} (map (λ k. record { 0 = k }) (range_with_len 0 n)) p → p.0 < n
in_range n p inside = let below : p.0 < 0 + n = by 0 n p inside in omega arith
  where
    by : (a n : ℕ) (p : PointId) → Contains {X = PointId} (map (λ k. record { 0 = k }) (range_with_len a n)) p → p.0 < a + n
    by a zero p at = absurd (Contains-none p at)
    by a (suc n) p (zero, low, at) = let here : a ≡ p.0 = ap (λ (q : PointId). q.0) at in omega arith
    by a (suc n) p (suc k, low, at) = let later : p.0 < a + 1 + n = by (a + 1) n p (k, omega arith, at) in omega arith

pub in_points : (graph : Graph) (p : PointId) → Contains (all_points graph.shape) p → p.0 < graph.shape.points
in_points graph p inside = in_range graph.shape.points p inside

-- ---- fewer and fewer are left
abbrev count : (PointId → Bool) → List PointId → ℕ
count f [] = 0
count f (x ∷ xs) = cond (f x) 1 0 + count f xs

count_most : (f : PointId → Bool) (xs : List PointId) → count f xs ≤ length xs
count_most f [] = omega arith
count_most f (x ∷ xs) = by (f x) (count_most f xs)
  where
    by : (b : Bool) → count f xs ≤ length xs → cond b 1 0 + count f xs ≤ suc (length xs)
    by true rest = omega arith
    by false rest = omega arith

count_less : (f g : PointId → Bool) → ((p : PointId) → g p ≡ true → f p ≡ true) → (xs : List PointId) → count g xs ≤ count f xs
count_less f g weaker [] = omega arith
count_less f g weaker (x ∷ xs) = by (g x) refl (f x) refl (count_less f g weaker xs)
  where
    by : (b : Bool) → g x ≡ b → (a : Bool) → f x ≡ a → count g xs ≤ count f xs → cond b 1 0 + count g xs ≤ cond a 1 0 + count f xs
    by true gx true fx rest = omega arith
    by true gx false fx rest = let so : f x ≡ true = weaker x gx in absurd cc
    by false gx true fx rest = omega arith
    by false gx false fx rest = omega arith

count_decreases : (f g : PointId → Bool) → ((p : PointId) → g p ≡ true → f p ≡ true) → (xs : List PointId) (x : PointId) → Contains xs x → f x ≡ true → g x ≡ false → count g xs + 1 ≤ count f xs
count_decreases f g weaker [] x inside fx gx = absurd (Contains-none x inside)
count_decreases f g weaker (y ∷ ys) x (zero, inside, at) fx gx =
    let less = count_less f g weaker ys in
    let fy : f y ≡ true = ap f at ∙ fx in
    let gy : g y ≡ false = ap g at ∙ gx in
    rw (fy, gy) (omega arith)
count_decreases f g weaker (y ∷ ys) x (suc k, inside, at) fx gx = by (g y) refl (f y) refl (count_decreases f g weaker ys x (k, omega arith, at) fx gx)
  where
    by : (b : Bool) → g y ≡ b → (a : Bool) → f y ≡ a → count g ys + 1 ≤ count f ys → cond b 1 0 + count g ys + 1 ≤ cond a 1 0 + count f ys
    by true gy true fy rest = omega arith
    by true gy false fy rest = let so : f y ≡ true = weaker y gy in absurd cc
    by false gy true fy rest = omega arith
    by false gy false fy rest = omega arith

-- a passing element is counted
count_some : (f : PointId → Bool) (xs : List PointId) (x : PointId) → Contains xs x → f x ≡ true → 1 ≤ count f xs
count_some f [] x inside fx = absurd (Contains-none x inside)
count_some f (y ∷ ys) x (zero, inside, at) fx = let fy : f y ≡ true = ap f at ∙ fx in rw fy (omega arith)
count_some f (y ∷ ys) x (suc k, inside, at) fx = let rest : 1 ≤ count f ys = count_some f ys x (k, omega arith, at) fx in omega arith

abbrev left : Graph → List PointId → ℕ
left graph ps = count (λ p. not (contains_point ps p)) (all_points graph.shape)

left_decreases : (graph : Graph) (ps : List PointId) (p : PointId) → Contains (all_points graph.shape) p → contains_point ps p ≡ false → left graph (ps ++ p ∷ []) + 1 ≤ left graph ps
left_decreases graph ps p inside out =
    count_decreases (λ q. not (contains_point ps q)) (λ q. not (contains_point (ps ++ p ∷ []) q)) (λ q more. ap not (not_among_less ps p q (not-true (contains_point (ps ++ p ∷ []) q) more))) (all_points graph.shape) p inside (ap not out)
    (ap not (among_last ps p))

left_most : (graph : Graph) (ps : List PointId) → left graph ps ≤ graph.shape.points
left_most graph ps = omega (arith, count_most (λ p. not (contains_point ps p)) (all_points graph.shape), length-map-range_with_len (λ k. let p : PointId = record { 0 = k } in p) 0 graph.shape.points)

-- ---- placing
abbrev free : Graph → List PointId → Option PointId
free graph ps = find (is_free graph ps) (all_points graph.shape)

steps_left : (graph : Graph) (k : ℕ) → (free graph (placed_after graph k) ≡ None) ⊎ (left graph (placed_after graph k) + k ≤ graph.shape.points)
steps_left graph zero = inr (omega (arith, left_most graph []))
steps_left graph (suc k) = by (free graph (placed_after graph k)) refl (steps_left graph k)
  where
    ps : List PointId
    ps = placed_after graph k

    by : (o : Option PointId) → free graph (placed_after graph k) ≡ o → (free graph (placed_after graph k) ≡ None) ⊎ (left graph (placed_after graph k) + k ≤ graph.shape.points)
        → (free graph (place_next graph (placed_after graph k)) ≡ None) ⊎ (left graph (place_next graph (placed_after graph k)) + suc k ≤ graph.shape.points)
    by None is before =
        let same : place_next graph (placed_after graph k) ≡ placed_after graph k = ap (λ o. placed_after graph k ++ option_to_list o) is ∙ append-nil (placed_after graph k) in
        inl (ap (free graph) same ∙ is)
    by (Some p) is (inl none) = absurd cc
    by (Some p) is (inr bound) =
        let same : place_next graph (placed_after graph k) ≡ placed_after graph k ++ p ∷ [] = ap (λ o. placed_after graph k ++ option_to_list o) is in
        let found = find_some (is_free graph (placed_after graph k)) (all_points graph.shape) p is in
        let out : contains_point (placed_after graph k) p ≡ false = not-true (contains_point (placed_after graph k) p)
        (and_parts (not (contains_point (placed_after graph k) p)) (is_none (next_on graph (placed_after graph k) p)) found.passes).0 in
        let fewer = left_decreases graph (placed_after graph k) p found.inside out in
        let now : left graph (place_next graph (placed_after graph k)) ≡ left graph (placed_after graph k ++ p ∷ []) = ap (left graph) same in
        inr (omega arith)

-- no point is free when all steps are made
pub none_free : (graph : Graph) → free graph (placed_points graph) ≡ None
none_free graph = by (free graph (placed_points graph)) refl (steps_left graph graph.shape.points)
  where
    by : (o : Option PointId) → free graph (placed_points graph) ≡ o → (free graph (placed_points graph) ≡ None) ⊎ (left graph (placed_points graph) + graph.shape.points ≤ graph.shape.points) → free graph (placed_points graph) ≡ None
    by None is either = is
    by (Some p) is (inl none) = none
    by (Some p) is (inr bound) =
        let found = find_some (is_free graph (placed_points graph)) (all_points graph.shape) p is in
        let out = (and_parts (not (contains_point (placed_points graph) p)) (is_none (next_on graph (placed_points graph) p)) found.passes).0 in
        let some : 1 ≤ left graph (placed_points graph) = count_some (λ q. not (contains_point (placed_points graph) q)) (all_points graph.shape) p found.inside out in
        absurd (omega arith)

-- ---- what is placed is an order as far as it goes
pub record IsPlacing (graph : Graph) (ps : List PointId) : Type 0 where
  pub inside : (p : PointId) → Contains ps p → p.0 < graph.shape.points
  pub once : AllPairs (λ p q. p.0 ≢ q.0) ps
  pub closed : (p to : PointId) → Contains ps p → to.0 < graph.shape.points → goes graph p to ≡ true → contains_point ps to ≡ true
  pub descends : (i j : ℕ) (d : PointId) → i ≤ j → j < length ps → goes graph (get_or ps i d) (get_or ps j d) ≡ false

pub record IsFreePoint (graph : Graph) (ps : List PointId) (p : PointId) : Type 0 where
  pub inside : p.0 < graph.shape.points
  pub out : contains_point ps p ≡ false
  pub placed : (to : PointId) → to.0 < graph.shape.points → goes graph p to ≡ true → contains_point ps to ≡ true

from_none : {X : Type 0} (o : Option X) → is_none o ≡ true → o ≡ None
from_none None holds = refl
from_none (Some x) holds = absurd cc

pub free_point : (graph : Graph) (ps : List PointId) (p : PointId) → free graph ps ≡ Some p → IsFreePoint graph ps p
free_point graph ps p is =
    let found = find_some (is_free graph ps) (all_points graph.shape) p is in
    let (out, none) = and_parts (not (contains_point ps p)) (is_none (next_on graph ps p)) found.passes in
    let nowhere : next_on graph ps p ≡ None = from_none (next_on graph ps p) none in
    record {
      inside = in_points graph p found.inside;
      out = not-true (contains_point ps p) out;
      placed = λ to low went. by to went (find_none (goes_on graph ps p) (all_points graph.shape) to nowhere (Contains-points 0 graph.shape.points to (omega arith) (omega arith))) (contains_point ps to) refl;
    }
  where
    by : (to : PointId) → goes graph p to ≡ true → (goes graph p to && not (contains_point ps to)) ≡ false → (b : Bool) → contains_point ps to ≡ b → contains_point ps to ≡ true
    by to went stops true among = among
    by to went stops false out = let on : (goes graph p to && not (contains_point ps to)) ≡ true = (λ i. went i && not (out i)) in absurd cc

placing_more : (graph : Graph) (ps : List PointId) (p : PointId) → IsPlacing graph ps → IsFreePoint graph ps p → IsPlacing graph (ps ++ p ∷ [])
placing_more graph ps p placing is = record { inside = inside; once = once; closed = closed; descends = descends }
  where
    last : (d : PointId) → get_or (ps ++ p ∷ []) (length ps) d ≡ p
    last d = get_or-append_right ps (p ∷ []) (length ps) (length ps) d refl (omega arith) ∙ (let none : length ps - length ps ≡ 0 = omega arith in ap (λ k. get_or (p ∷ []) k d) none)

    early : (i : ℕ) (d : PointId) → i < length ps → get_or (ps ++ p ∷ []) i d ≡ get_or ps i d
    early i d low = get_or_append_left ps (p ∷ []) d i low

    inside : (q : PointId) → Contains (ps ++ p ∷ []) q → q.0 < graph.shape.points
    inside q at = ⊎_elim (placing.inside q) (λ same. subst (λ (r : PointId). r.0 < graph.shape.points) same is.inside) (Contains-push_cases ps p q at)

    closed : (q to : PointId) → Contains (ps ++ p ∷ []) q → to.0 < graph.shape.points → goes graph q to ≡ true → contains_point (ps ++ p ∷ []) to ≡ true
    closed q to at low went =
        among_more ps p to (⊎_elim (λ old. placing.closed q to old low went) (λ same. is.placed to low (ap (λ r. goes graph r to) same ∙ went)) (Contains-push_cases ps p q at))

    once : AllPairs (λ q r. q.0 ≢ r.0) (ps ++ p ∷ [])
    once i j d less high = ⊎_elim
        (λ low. let one = early i d (omega arith) in let two = early j d low in λ same. placing.once i j d less low (sym (ap (λ (q : PointId). q.0) one) ∙ same ∙ ap (λ (q : PointId). q.0) two))
        (λ past. let at : j ≡ length ps = omega (arith, length_push ps p) in
        let one = early i d (omega arith) in
        let here : get_or (ps ++ p ∷ []) j d ≡ p = ap (λ k. get_or (ps ++ p ∷ []) k d) at ∙ last d in
        λ same. let number : (get_or ps i d).0 ≡ p.0 = sym (ap (λ (q : PointId). q.0) one) ∙ same ∙ ap (λ (q : PointId). q.0) here in
        let among : contains_point ps p ≡ true = among_from ps p (subst (Contains ps) (ap (λ (k : ℕ). let q : PointId = record { 0 = k } in q) number) (Contains-get_or ps i d (omega arith))) in
        let clash : true ≡ false = sym among ∙ is.out in absurd cc)
        (cases_lt j (length ps))

    descends : (i j : ℕ) (d : PointId) → i ≤ j → j < length (ps ++ p ∷ []) → goes graph (get_or (ps ++ p ∷ []) i d) (get_or (ps ++ p ∷ []) j d) ≡ false
    descends i j d less high = ⊎_elim
        (λ low. let one = early i d (omega arith) in let two = early j d low in (λ k. goes graph (one k) (two k)) ∙ placing.descends i j d less low)
        (λ past. let at : j ≡ length ps = omega (arith, length_push ps p) in
        let here : get_or (ps ++ p ∷ []) j d ≡ p = ap (λ k. get_or (ps ++ p ∷ []) k d) at ∙ last d in
        ap (goes graph (get_or (ps ++ p ∷ []) i d)) here ∙ false_from_ne_true (goes graph (get_or (ps ++ p ∷ []) i d) p) (λ went.
        let among : contains_point ps p ≡ true = ⊎_elim
        (λ old. let one = early i d old in placing.closed (get_or ps i d) p (Contains-get_or ps i d old) is.inside (ap (λ q. goes graph q p) (sym one) ∙ went))
        (λ self. let itself : i ≡ length ps = omega (arith, length_push ps p) in let me : get_or (ps ++ p ∷ []) i d ≡ p = ap (λ k. get_or (ps ++ p ∷ []) k d) itself ∙ last d in
        is.placed p is.inside (ap (λ q. goes graph q p) (sym me) ∙ went))
        (cases_lt i (length ps)) in
        let clash : true ≡ false = sym among ∙ is.out in absurd cc))
        (cases_lt j (length ps))

pub placing_after : (graph : Graph) (k : ℕ) → IsPlacing graph (placed_after graph k)
placing_after graph zero = record {
  inside = λ p at. absurd (Contains-none p at);
  once = λ i j d less high. absurd (omega arith);
  closed = λ p to at low went. absurd (Contains-none p at);
  descends = λ i j d less high. absurd (omega arith);
}
placing_after graph (suc k) = by (placed_after graph k) (placing_after graph k) (free graph (placed_after graph k)) refl
  where
    by : (ps : List PointId) → IsPlacing graph ps → (o : Option PointId) → free graph ps ≡ o → IsPlacing graph (ps ++ option_to_list (free graph ps))
    by ps placing None is = subst (IsPlacing graph) (sym (ap (λ o. ps ++ option_to_list o) is ∙ append-nil ps)) placing
    by ps placing (Some p) is = subst (IsPlacing graph) (sym (ap (λ o. ps ++ option_to_list o) is)) (placing_more graph ps p placing (free_point graph ps p is))

pub placed_are_an_order : PlacedPointsAreAnOrder
placed_are_an_order graph none =
    let placing = placing_after graph graph.shape.points in
    record {
      whole = whole;
      once = placing.once;
      points = λ k d inside. placing.inside (get_or (placed_points graph) k d) (Contains-get_or (placed_points graph) k d inside);
      descends = placing.descends;
    }
  where
    whole : (p : PointId) → p.0 < graph.shape.points → Contains (placed_points graph) p
    whole p low =
        let test = find_none (λ q. not (contains_point (placed_points graph) q)) (all_points graph.shape) p none (Contains-points 0 graph.shape.points p (omega arith) (omega arith)) in
        from_among (placed_points graph) p (by (contains_point (placed_points graph) p) test)
      where
        by : (b : Bool) → not b ≡ false → b ≡ true
        by true holds = refl
        by false holds = absurd cc

-- ---- the cycle that is reached
-- a point that is left has a negative ordinary edge to another that is left
pub record GoesOn (graph : Graph) (ps : List PointId) (p next : PointId) : Type 0 where
  pub inside : next.0 < graph.shape.points
  pub out : contains_point ps next ≡ false
  pub went : goes graph p next ≡ true

pub next_goes_on : (graph : Graph) (ps : List PointId) (p next : PointId) → next_on graph ps p ≡ Some next → GoesOn graph ps p next
next_goes_on graph ps p next is =
    let found = find_some (goes_on graph ps p) (all_points graph.shape) next is in
    let (went, out) = and_parts (goes graph p next) (not (contains_point ps next)) found.passes in
    record { inside = in_points graph next found.inside; out = not-true (contains_point ps next) out; went = went }

-- if no point is free, a walk can go on from each point that is left
left_goes_on : (graph : Graph) (ps : List PointId) (p : PointId) → free graph ps ≡ None → p.0 < graph.shape.points → contains_point ps p ≡ false → next_on graph ps p ≡ None → ⊥
left_goes_on graph ps p stuck low out none =
    let test : (not (contains_point ps p) && is_none (next_on graph ps p)) ≡ false = find_none (is_free graph ps) (all_points graph.shape) p stuck (Contains-points 0 graph.shape.points p (omega arith) (omega arith)) in
    let yes : (not (contains_point ps p) && is_none (next_on graph ps p)) ≡ true = (λ i. not (out i) && is_none (none i)) in
    let clash : true ≡ false = sym yes ∙ test in absurd cc

-- a walk so far: a negative ordinary edge goes from each point to the next, and from the last to where it is
record IsWalk (graph : Graph) (before : List PointId) (p : PointId) : Type 0 where
  pub points : All (λ q. q.0 < graph.shape.points) before
  pub steps : (i : ℕ) (d : PointId) → i + 1 < length before → goes graph (get_or before i d) (get_or before (i + 1) d) ≡ true
  pub here : (d : PointId) → 0 < length before → goes graph (get_or before (length before - 1) d) p ≡ true

walk_more : (graph : Graph) (before : List PointId) (p next : PointId) → IsWalk graph before p → p.0 < graph.shape.points → goes graph p next ≡ true → IsWalk graph (before ++ p ∷ []) next
walk_more graph before p next walk low went = record { points = All-push (λ (q : PointId). q.0 < graph.shape.points) before p walk.points low; steps = steps; here = here }
  where
    last : (i : ℕ) (d : PointId) → i ≡ length before → get_or (before ++ p ∷ []) i d ≡ p
    last i d at = get_or-append_right before (p ∷ []) (length before) i d refl (omega arith) ∙ (let none : i - length before ≡ 0 = omega arith in ap (λ k. get_or (p ∷ []) k d) none)

    early : (i : ℕ) (d : PointId) → i < length before → get_or (before ++ p ∷ []) i d ≡ get_or before i d
    early i d low = get_or_append_left before (p ∷ []) d i low

    steps : (i : ℕ) (d : PointId) → i + 1 < length (before ++ p ∷ []) → goes graph (get_or (before ++ p ∷ []) i d) (get_or (before ++ p ∷ []) (i + 1) d) ≡ true
    steps i d inside = ⊎_elim
        (λ low. let one = early i d (omega arith) in let two = early (i + 1) d low in (λ k. goes graph (one k) (two k)) ∙ walk.steps i d low)
        (λ past. let at : i + 1 ≡ length before = omega (arith, length_push before p) in
        let one = early i d (omega arith) in let two = last (i + 1) d at in
        let place : i ≡ length before - 1 = omega arith in
        (λ k. goes graph (one k) (two k)) ∙ ap (λ m. goes graph (get_or before m d) p) place ∙ walk.here d (omega arith))
        (cases_lt (i + 1) (length before))

    here : (d : PointId) → 0 < length (before ++ p ∷ []) → goes graph (get_or (before ++ p ∷ []) (length (before ++ p ∷ []) - 1) d) next ≡ true
    here d some = ap (λ q. goes graph q next) (last (length (before ++ p ∷ []) - 1) d (omega (arith, length_push before p))) ∙ went

-- the place of a point in a list that has it
pub record IsPlace (ps : List PointId) (p : PointId) (k : ℕ) : Type 0 where
  pub inside : k < length ps
  pub at : (d : PointId) → get_or ps k d ≡ p

pub place_of : (ps : List PointId) (p : PointId) → contains_point ps p ≡ true → IsPlace ps p (position_or_len (λ q. q.0 == p.0) ps)
place_of [] p among = absurd cc
place_of (q ∷ ps) p among = by (place_of ps p) (q.0 == p.0) refl among
  where
    by : (contains_point ps p ≡ true → IsPlace ps p (position_or_len (λ q. q.0 == p.0) ps)) → (b : Bool) → q.0 == p.0 ≡ b → (b || contains_point ps p) ≡ true → IsPlace (q ∷ ps) p (cond (not b) (1 + position_or_len (λ q. q.0 == p.0) ps) 0)
    by rest true same holds = record { inside = omega arith; at = λ d. ap (λ (k : ℕ). record { 0 = k }) (eqb-true q.0 p.0 same) }
    by rest false same holds =
        let later = rest holds in
        let next : 1 + position_or_len (λ q. q.0 == p.0) ps ≡ suc (position_or_len (λ q. q.0 == p.0) ps) = omega arith in
        record { inside = omega (arith, later.inside); at = λ d. ap (λ k. get_or (q ∷ ps) k d) next ∙ later.at d }

walk_closes : (graph : Graph) (before : List PointId) (p : PointId) (k : ℕ) → IsWalk graph before p → IsPlace before p k → IsCycle graph (drop k before)
walk_closes graph before p k walk place = record {
  points = All-drop (λ (q : PointId). q.0 < graph.shape.points) k before walk.points;
  some = omega (arith, length-drop k before, place.inside);
  steps = λ i d inside. let low : k + i + 1 < length before = omega (arith, length-drop k before) in
      let next : k + (i + 1) ≡ k + i + 1 = omega arith in
      (λ j. goes graph (get_or-drop k before i d j) ((get_or-drop k before (i + 1) d ∙ ap (λ m. get_or before m d) next) j)) ∙ walk.steps (k + i) d low;
  closes = λ d.
      let end : k + (length (drop k before) - 1) ≡ length before - 1 = omega (arith, length-drop k before, place.inside) in
      let begin : k + 0 ≡ k = omega arith in
      (λ j. goes graph ((get_or-drop k before (length (drop k before) - 1) d ∙ ap (λ m. get_or before m d) end) j) ((get_or-drop k before 0 d ∙ ap (λ m. get_or before m d) begin ∙ place.at d) j))
      ∙ walk.here d (omega (arith, place.inside));
}

-- how many points a walk has not reached
abbrev unvisited : Graph → List PointId → ℕ
unvisited graph before = count (λ q. not (contains_point before q)) (all_points graph.shape)

-- a walk that goes on to a point, with steps left for the points that it has not reached, comes to a cycle
abbrev MeetsCycle : Graph → List PointId → ℕ → List PointId → PointId → Type 0
MeetsCycle graph ps steps before p = IsWalk graph before p → p.0 < graph.shape.points → contains_point ps p ≡ false → unvisited graph before < steps → IsCycle graph (cycle_after graph ps steps before p)

cycle_met : (graph : Graph) (ps : List PointId) → free graph ps ≡ None → (steps : ℕ) (before : List PointId) (p : PointId) → MeetsCycle graph ps steps before p
cycle_met graph ps stuck zero before p walk low out fuel = absurd (omega arith)
cycle_met graph ps stuck (suc steps) before p walk low out fuel = by (λ next. cycle_met graph ps stuck steps (before ++ p ∷ []) next) (contains_point before p) refl
  where
    by : ((next : PointId) → MeetsCycle graph ps steps (before ++ p ∷ []) next)
        → (b : Bool) → contains_point before p ≡ b → IsCycle graph (cond b (drop (position_or_len (λ q. q.0 == p.0) before) before) (option_map_or (cycle_after graph ps steps (before ++ p ∷ [])) (next_on graph ps p) []))
    by rest true met = walk_closes graph before p (position_or_len (λ q. q.0 == p.0) before) walk (place_of before p met)
    by rest false new = on (next_on graph ps p) refl
      where
        fewer : unvisited graph (before ++ p ∷ []) + 1 ≤ unvisited graph before
        fewer = left_decreases graph before p (Contains-points 0 graph.shape.points p (omega arith) (omega arith)) new

        on : (o : Option PointId) → next_on graph ps p ≡ o → IsCycle graph (option_map_or (cycle_after graph ps steps (before ++ p ∷ [])) o [])
        on None none = absurd (left_goes_on graph ps p stuck low out none)
        on (Some next) is = let more = next_goes_on graph ps p next is in rest next (walk_more graph before p next walk low more.went) more.inside more.out (omega (arith, fewer, fuel))

pub law_cycles_are_met : CyclesAreMet
law_cycles_are_met graph first is =
    let found = find_some (λ q. not (contains_point (placed_points graph) q)) (all_points graph.shape) first is in
    cycle_met graph (placed_points graph) (none_free graph) (graph.shape.points + 1) [] first
    (record { points = λ i d inside. absurd (omega arith); steps = λ i d inside. absurd (omega arith); here = λ d some. absurd (omega arith) })
    (in_points graph first found.inside) (not-true (contains_point (placed_points graph) first) found.passes) (omega (arith, left_most graph []))

-- ---- an order excludes cycles
abbrev pub place : List PointId → PointId → ℕ
place order p = position_or_len (λ q. q.0 == p.0) order

pub descends_in_order : (graph : Graph) (order : List PointId) → IsOrder graph order → (a b : PointId) → a.0 < graph.shape.points → b.0 < graph.shape.points → goes graph a b ≡ true → place order b < place order a
descends_in_order graph order is a b begins ends went = ⊎_elim
    (λ less. less)
    (λ not_less. let same : goes graph a b ≡ false = (λ k. goes graph (sym (one.at a) k) (sym (two.at a) k)) ∙ is.descends (place order a) (place order b) a not_less two.inside in absurd cc)
    (cases_lt (place order b) (place order a))
  where
    one : IsPlace order a (place order a)
    one = place_of order a (among_from order a (is.whole a begins))

    two : IsPlace order b (place order b)
    two = place_of order b (among_from order b (is.whole b ends))

pub law_orders_exclude_cycles : OrdersExcludeCycles
law_orders_exclude_cycles graph order [] is cycle = absurd (omega (arith, cycle.some))
law_orders_exclude_cycles graph order (p ∷ more) is cycle =
    let first_is : get_or (p ∷ more) 0 p ≡ p = refl in
    let end = length (p ∷ more) - 1 in
    let down = lower end (omega arith) in
    let close : place order (get_or (p ∷ more) 0 p) < place order (get_or (p ∷ more) end p) = descends_in_order graph order is (get_or (p ∷ more) end p) (get_or (p ∷ more) 0 p) (cycle.points end p (omega arith))
    (cycle.points 0 p (omega arith)) (cycle.closes p) in
    omega arith
  where
    lower : (k : ℕ) → k < length (p ∷ more) → place order (get_or (p ∷ more) k p) ≤ place order p
    lower zero low = omega arith
    lower (suc k) low =
        let rest = lower k (omega arith) in
        let next : suc k ≡ k + 1 = omega arith in
        let went : goes graph (get_or (p ∷ more) k p) (get_or (p ∷ more) (suc k) p) ≡ true = ap (λ m. goes graph (get_or (p ∷ more) k p) (get_or (p ∷ more) m p)) next ∙ cycle.steps k p (omega arith) in
        let descends = descends_in_order graph order is (get_or (p ∷ more) k p) (get_or (p ∷ more) (suc k) p) (cycle.points k p (omega arith)) (cycle.points (suc k) p low) went in
        omega arith

-- ---- looking through the points in order
pub found_at : (p : PointId → Bool) (n k : ℕ) → k < n → p (record { 0 = k }) ≡ true → ((j : ℕ) → j < k → p (record { 0 = j }) ≡ false) → find p (map (λ m. record { 0 = m }) (range_with_len 0 n)) ≡ Some (record { 0 = k })
found_at p n k low passes fails = by 0 n (omega arith) (omega arith) (λ j from below. fails j below)
  where
    by : (a n : ℕ) → a ≤ k → k < a + n → ((j : ℕ) → a ≤ j → j < k → p (record { 0 = j }) ≡ false) → find p (map (λ m. record { 0 = m }) (range_with_len a n)) ≡ Some (record { 0 = k })
    by a zero from to before = absurd (omega arith)
    by a (suc n) from to before = at (by (a + 1) n) (a == k) refl
      where
        at : (a + 1 ≤ k → k < a + 1 + n → ((j : ℕ) → a + 1 ≤ j → j < k → p (record { 0 = j }) ≡ false) → find p (map (λ m. record { 0 = m }) (range_with_len (a + 1) n)) ≡ Some (record { 0 = k }))
            → (b : Bool) → a == k ≡ b → cond (p (record { 0 = a })) (Some (record { 0 = a })) (find p (map (λ m. record { 0 = m }) (range_with_len (a + 1) n))) ≡ Some (record { 0 = k })
        at later true is =
            let same : a ≡ k = eqb-true a k is in
            ap (λ (m : ℕ). let q : PointId = record { 0 = m } in cond (p q) (Some q) (find p (map (λ m. record { 0 = m }) (range_with_len (a + 1) n)))) same
            ∙ (let q : PointId = record { 0 = k } in ap (λ b. cond b (Some q) (find p (map (λ m. record { 0 = m }) (range_with_len (a + 1) n)))) passes)
        at later false is =
            let apart : a ≢ k = grind (arith, nat_tests) in
            (let q : PointId = record { 0 = a } in ap (λ b. cond b (Some q) (find p (map (λ m. record { 0 = m }) (range_with_len (a + 1) n)))) (before a (omega arith) (omega arith)))
            ∙ later (omega arith) (omega arith) (λ j from' below. before j (omega arith) below)

pub found_nowhere : (p : PointId → Bool) (n : ℕ) → ((j : ℕ) → j < n → p (record { 0 = j }) ≡ false) → find p (map (λ m. record { 0 = m }) (range_with_len 0 n)) ≡ None
found_nowhere p n fails = by 0 n (λ j from to. fails j (omega arith))
  where
    by : (a n : ℕ) → ((j : ℕ) → a ≤ j → j < a + n → p (record { 0 = j }) ≡ false) → find p (map (λ m. record { 0 = m }) (range_with_len a n)) ≡ None
    by a zero before = refl
    by a (suc n) before =
        (let q : PointId = record { 0 = a } in ap (λ b. cond b (Some q) (find p (map (λ m. record { 0 = m }) (range_with_len (a + 1) n)))) (before a (omega arith) (omega arith)))
        ∙ by (a + 1) n (λ j from to. before j (omega arith) (omega arith))

-- no point before the one that is found passes
pub none_before : (p : PointId → Bool) (n : ℕ) (q : PointId) → find p (map (λ m. record { 0 = m }) (range_with_len 0 n)) ≡ Some q → (j : ℕ) → j < q.0 → p (record { 0 = j }) ≡ false
none_before p n q found j low = by 0 n found j (omega arith) low
  where
    by : (a n : ℕ) → find p (map (λ m. record { 0 = m }) (range_with_len a n)) ≡ Some q → (j : ℕ) → a ≤ j → j < q.0 → p (record { 0 = j }) ≡ false
    by a zero found j from below = absurd cc
    by a (suc n) found j from below = at (by (a + 1) n) (p (record { 0 = a })) refl found
      where
        at : (find p (map (λ m. record { 0 = m }) (range_with_len (a + 1) n)) ≡ Some q → (j : ℕ) → a + 1 ≤ j → j < q.0 → p (record { 0 = j }) ≡ false)
            → (b : Bool) → p (record { 0 = a }) ≡ b → cond b (Some (record { 0 = a })) (find p (map (λ m. record { 0 = m }) (range_with_len (a + 1) n))) ≡ Some q → p (record { 0 = j }) ≡ false
        at later true is here = let first : PointId = record { 0 = a } in let same : Some first ≡ Some q = here in let one : first ≡ q = cc in let number : a ≡ q.0 = ap (λ (r : PointId). r.0) one in absurd (omega arith)
        at later false is there = on (a == j) refl
          where
            on : (c : Bool) → a == j ≡ c → p (record { 0 = j }) ≡ false
            on true same = let at_a : a ≡ j = eqb-true a j same in ap (λ (m : ℕ). p (record { 0 = m })) (sym at_a) ∙ is
            on false apart = let other : a ≢ j = grind (arith, nat_tests) in later there j (omega arith) below
