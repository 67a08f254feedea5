-- What is known of points while they are placed: how many edges each has left, and which are free.
use Rattle.std.proofs.Common.{◌≡◌, ◌≢◌, ℕ, zero, suc, ◌+◌, ◌==◌, ◌<◌, ◌≤◌, Bool, true, false, cond, ◌&&◌, ◌||◌, not, List, [], ◌∷◌, ◌++◌, map, filter, length, get_or, set, length-set, Option, Some, None}
use Rattle.std.proofs.Common.{refl, ap, sym, subst, ◌∙◌, ◌⊎◌, inl, inr, arith}
use Rattle.std.specs.Prelude.{is_none, replicate}
use Rattle.std.specs.List.{find, range_with_len}
use Rattle.std.proofs.lemmas.Bool.{eqb-true}
use Rattle.std.proofs.lemmas.Bool.Decides.{nat_tests}
use Rattle.std.proofs.lemmas.List.{length-append, length-replicate}
use Rattle.std.proofs.lemmas.List.FromFn.{filter_of_map_range_with_len_more}
use Rattle.std.proofs.lemmas.Option.{none-some}
use Rattle.net_model.specs.declared.ids.PointId.{PointId}
use Rattle.net_model.specs.Moments.{Moments}
use Rattle.closure_model.specs.Keys.{all_points}
use Rattle.closure_model.specs.Orders.{goes, goes_on, contains_point, is_free}
use Rattle.closure_model.specs.Tables.{Graph}
use Rattle.closure_model.proofs.OrderLemmas.{among_last, found_at, found_nowhere}
use Rattle.tournament_queue.specs.First.{IsDueNotAfter, IsFirstDue}
use Rattle.loop_finder.specs.NegativeSuccessors.{point}
use Rattle.loop_finder.specs.OpenEdges.{edge_count, count_below, open_count, AreCountsTo, DifferByEdges, HaveOpenEdges, AreFreed, due_of, AreDue, IsPlacement}
use Rattle.loop_finder.proofs.OpenLemmas.{same_place, other_place}

-- ---- what is counted
counted_if : {X : Type 0} (b : Bool) (x : X) (xs : List X) → length (cond b (x ∷ xs) xs) ≡ cond b 1 0 + length xs
counted_if true x xs = let one : suc (length xs) ≡ 1 + length xs = omega arith in one
counted_if false x xs = let none : length xs ≡ 0 + length xs = omega arith in none

pub counts_more : (graph : Graph) (n : ℕ) (before after : List ℕ) → AreCountsTo graph n before → DifferByEdges graph (point n) before after → AreCountsTo graph (n + 1) after
counts_more graph n before after are more = record {
  count = sym more.count ∙ are.count;
  each = λ k inside. sym (more.each k inside) ∙ ap (λ m. m + edge_count graph (point k) (point n)) (are.each k (let same = more.count in omega (arith, same))) ∙ sym (next k);
}
  where
    next : (k : ℕ) → count_below graph (n + 1) (point k) ≡ count_below graph n (point k) + edge_count graph (point k) (point n)
    next k =
        ap length (filter_of_map_range_with_len_more (goes graph (point k)) point 0 n n (omega arith))
        ∙ length-append (filter (goes graph (point k)) (map point (range_with_len 0 n))) (cond (goes graph (point k) (point n)) (point n ∷ []) [])
        ∙ ap (λ m. count_below graph n (point k) + m) (one (goes graph (point k) (point n)))
      where
        one : (b : Bool) → length (cond b (point n ∷ []) []) ≡ cond b 1 0
        one true = refl
        one false = refl

pub counts_low : (graph : Graph) (n : ℕ) (counts : List ℕ) → AreCountsTo graph n counts → (k : ℕ) → get_or counts k 0 ≤ n
counts_low graph n counts are k = by (counts_at counts are.each k)
  where
    few : (a n : ℕ) → length (filter (goes graph (point k)) (map point (range_with_len a n))) ≤ n
    few a zero = omega arith
    few a (suc n) = (let rest = few (a + 1) n in at (goes graph (point k) (point a)) rest)
      where
        at : (b : Bool) → length (filter (goes graph (point k)) (map point (range_with_len (a + 1) n))) ≤ n → length (cond b (point a ∷ filter (goes graph (point k)) (map point (range_with_len (a + 1) n))) (filter (goes graph (point k)) (map point (range_with_len (a + 1) n)))) ≤ suc n
        at true rest = omega arith
        at false rest = omega arith

    counts_at : (xs : List ℕ) → ((j : ℕ) → j < length xs → get_or xs j 0 ≡ count_below graph n (point j)) → (j : ℕ) → (get_or xs j 0 ≡ 0) ⊎ (get_or xs j 0 ≡ count_below graph n (point j))
    counts_at xs each j = at (past xs j)
      where
        past : (xs : List ℕ) (j : ℕ) → (j < length xs) ⊎ (get_or xs j 0 ≡ 0)
        past [] j = inr refl
        past (x ∷ xs) zero = inl (omega arith)
        past (x ∷ xs) (suc j) = elim (past xs j) [ inl less ↦ inl (omega arith) | inr none ↦ inr none ]

        at : (j < length xs) ⊎ (get_or xs j 0 ≡ 0) → (get_or xs j 0 ≡ 0) ⊎ (get_or xs j 0 ≡ count_below graph n (point j))
        at (inl less) = inr (each j less)
        at (inr none) = inl none

    by : (get_or counts k 0 ≡ 0) ⊎ (get_or counts k 0 ≡ count_below graph n (point k)) → get_or counts k 0 ≤ n
    by (inl none) = omega (arith, none)
    by (inr is) = let most = few 0 n in omega (arith, is, most)

pub counts_none : (graph : Graph) (points : ℕ) (counts : List ℕ) → points ≡ graph.shape.points → counts ≡ replicate {A = ℕ} points 0 → AreCountsTo graph 0 counts
counts_none graph points counts same are = record {
  count = ap length are ∙ (let long : length (replicate {A = ℕ} points 0) ≡ points = length-replicate points 0 in long) ∙ same;
  each = λ k inside. ap (λ (xs : List ℕ). get_or xs k 0) are ∙ all_zero points k;
}
  where
    all_zero : (n k : ℕ) → get_or (replicate {A = ℕ} n 0) k 0 ≡ 0
    all_zero zero k = refl
    all_zero (suc n) zero = refl
    all_zero (suc n) (suc k) = all_zero n k

-- while no point is placed all edges are open
pub none_placed : (graph : Graph) (k : ℕ) → open_count graph [] (point k) ≡ count_below graph graph.shape.points (point k)
none_placed graph k = by (all_points graph.shape)
  where
    by : (ps : List PointId) → length (filter (goes_on graph [] (point k)) ps) ≡ length (filter (goes graph (point k)) ps)
    by [] = refl
    by (p ∷ ps) = at (goes graph (point k) p) (by ps)
      where
        at : (b : Bool) → length (filter (goes_on graph [] (point k)) ps) ≡ length (filter (goes graph (point k)) ps)
            → length (cond (b && true) (p ∷ filter (goes_on graph [] (point k)) ps) (filter (goes_on graph [] (point k)) ps)) ≡ length (cond b (p ∷ filter (goes graph (point k)) ps) (filter (goes graph (point k)) ps))
        at true rest = ap suc rest
        at false rest = rest

contains_other : (ps : List PointId) (q p : PointId) → q.0 == p.0 ≡ false → contains_point (ps ++ q ∷ []) p ≡ contains_point ps p
contains_other [] q p apart = ap (λ b. b || false) apart
contains_other (r ∷ ps) q p apart = ap (λ b. r.0 == p.0 || b) (contains_other ps q p apart)

-- a point that is placed closes the edges that go to it
pub open_less : (graph : Graph) (placed : List PointId) (q : PointId) (k : ℕ) → q.0 < graph.shape.points → contains_point placed q ≡ false
    → open_count graph (placed ++ q ∷ []) (point k) + edge_count graph (point k) q ≡ open_count graph placed (point k)
open_less graph placed q k inside out = reach 0 graph.shape.points (omega arith) (omega arith)
  where
    open_in : List PointId → (a n : ℕ) → ℕ
    open_in ps a n = length (filter (goes_on graph ps (point k)) (map point (range_with_len a n)))

    step : (ps : List PointId) (a n : ℕ) → open_in ps a (suc n) ≡ cond {A = ℕ} (goes graph (point k) (point a) && not (contains_point ps (point a))) 1 0 + open_in ps (a + 1) n
    step ps a n = counted_if (goes_on graph ps (point k) (point a)) (point a) (filter (goes_on graph ps (point k)) (map point (range_with_len (a + 1) n)))

    alike : (a : ℕ) → q.0 == a ≡ false → cond {A = ℕ} (goes graph (point k) (point a) && not (contains_point (placed ++ q ∷ []) (point a))) 1 0 ≡ cond {A = ℕ} (goes graph (point k) (point a) && not (contains_point placed (point a))) 1 0
    alike a apart = ap (λ b. cond {A = ℕ} (goes graph (point k) (point a) && not b) 1 0) (contains_other placed q (point a) apart)

    beyond : (a n : ℕ) → q.0 < a → open_in (placed ++ q ∷ []) a n ≡ open_in placed a n
    beyond a zero past = refl
    beyond a (suc n) past =
        let apart : q.0 == a ≡ false = grind (arith, nat_tests) in
        step (placed ++ q ∷ []) a n ∙ (λ i. alike a apart i + beyond (a + 1) n (omega arith) i) ∙ sym (step placed a n)

    reach : (a n : ℕ) → a ≤ q.0 → q.0 < a + n → open_in (placed ++ q ∷ []) a n + edge_count graph (point k) q ≡ open_in placed a n
    reach a zero low high = absurd (omega arith)
    reach a (suc n) low high = by (q.0 == a) refl (λ later. reach (a + 1) n later (omega arith))
      where
        by : (b : Bool) → q.0 == a ≡ b → (a + 1 ≤ q.0 → open_in (placed ++ q ∷ []) (a + 1) n + edge_count graph (point k) q ≡ open_in placed (a + 1) n)
            → open_in (placed ++ q ∷ []) a (suc n) + edge_count graph (point k) q ≡ open_in placed a (suc n)
        by false apart later =
            let other : q.0 ≢ a = (λ same. let test : q.0 == a ≡ true = grind (arith, nat_tests) in absurd cc) in
            let rest = later (omega arith) in
            let one = step (placed ++ q ∷ []) a n in
            let two = step placed a n in
            let same = alike a apart in
            omega (arith, rest, one, two, same)
        by true here later =
            let is : q.0 ≡ a = eqb-true q.0 a here in
            let rest = beyond (a + 1) n (omega arith) in
            let one = step (placed ++ q ∷ []) a n in
            let two = step placed a n in
            let now : cond {A = ℕ} (goes graph (point k) (point a) && not (contains_point (placed ++ q ∷ []) (point a))) 1 0 ≡ 0 =
            subst (λ (m : ℕ). cond {A = ℕ} (goes graph (point k) (point m) && not (contains_point (placed ++ q ∷ []) (point m))) 1 0 ≡ 0) is (closes (goes graph (point k) q) (contains_point (placed ++ q ∷ []) q) (among_last placed q)) in
            let before : cond {A = ℕ} (goes graph (point k) (point a) && not (contains_point placed (point a))) 1 0 ≡ edge_count graph (point k) q =
            subst (λ (m : ℕ). cond {A = ℕ} (goes graph (point k) (point m) && not (contains_point placed (point m))) 1 0 ≡ edge_count graph (point k) q) is (opens (goes graph (point k) q) (contains_point placed q) out) in
            omega (arith, rest, one, two, now, before)
          where
            closes : (b c : Bool) → c ≡ true → cond {A = ℕ} (b && not c) 1 0 ≡ 0
            closes true c is = ap (λ c. cond {A = ℕ} (not c) 1 0) is
            closes false c is = refl

            opens : (b c : Bool) → c ≡ false → cond {A = ℕ} (b && not c) 1 0 ≡ cond {A = ℕ} b 1 0
            opens true c is = ap (λ c. cond {A = ℕ} (not c) 1 0) is
            opens false c is = refl

-- ---- which points are free
none_is_zero : {X : Type 0} (f : X → Bool) (xs : List X) → is_none (find f xs) ≡ (length (filter f xs) == 0)
none_is_zero f [] = refl
none_is_zero f (x ∷ xs) = by (f x) (none_is_zero f xs)
  where
    by : (b : Bool) → is_none (find f xs) ≡ (length (filter f xs) == 0) → is_none (cond b (Some x) (find f xs)) ≡ (length (cond b (x ∷ filter f xs) (filter f xs)) == 0)
    by true rest = let some : (suc (length (filter f xs)) == 0) ≡ false = grind (arith, nat_tests) in sym some
    by false rest = rest

-- the free points below a number are due, and no others
pub record AreDueBelow (left : List ℕ) (n : ℕ) (due : Moments) : Type 0 where
  pub count : length due ≡ length left
  pub below : (k : ℕ) → k < n → get_or due k None ≡ due_of [] left k
  pub above : (k : ℕ) → n ≤ k → get_or due k None ≡ None

pub due_none : (left : List ℕ) (due : Moments) → due ≡ replicate (length left) None → AreDueBelow left 0 due
due_none left due are = record {
  count = ap length are ∙ length-replicate (length left) None;
  below = λ k less. absurd (omega arith);
  above = λ k past. ap (λ (ms : Moments). get_or ms k None) are ∙ nothing (length left) k;
}
  where
    nothing : (n k : ℕ) → get_or (replicate {A = Option ℕ} n None) k None ≡ None
    nothing zero k = refl
    nothing (suc n) zero = refl
    nothing (suc n) (suc k) = nothing n k

pub due_more : (left : List ℕ) (n : ℕ) (due after : Moments) → n < length left → AreDueBelow left n due → (get_or left n 0 == 0) ≡ true → after ≡ set due n (Some 0) → AreDueBelow left (n + 1) after
due_more left n due after inside are zero_left is = record {
  count = ap length is ∙ length-set due n (Some 0) ∙ are.count;
  below = λ k less. ap (λ (ms : Moments). get_or ms k None) is ∙ by k less (n == k) refl;
  above = λ k past. ap (λ (ms : Moments). get_or ms k None) is ∙ other_place due n k (Some 0) None (let apart : n == k ≡ false = grind (arith, nat_tests) in apart) ∙ are.above k (omega arith);
}
  where
    by : (k : ℕ) → k < n + 1 → (b : Bool) → n == k ≡ b → get_or (set due n (Some 0)) k None ≡ due_of [] left k
    by k less true same = same_place due n k (Some 0) None (let long = are.count in omega (arith, long)) same ∙ sym (ap (λ b. cond b (Some 0) None) (ap (λ (j : ℕ). get_or left j 0 == 0) (sym (eqb-true n k same)) ∙ zero_left))
    by k less false apart =
        let other : n ≢ k = (λ same. let test : n == k ≡ true = grind (arith, nat_tests) in absurd cc) in
        other_place due n k (Some 0) None apart ∙ are.below k (omega (arith, other))

pub due_past : (left : List ℕ) (n : ℕ) (due : Moments) → AreDueBelow left n due → (get_or left n 0 == 0) ≡ false → AreDueBelow left (n + 1) due
due_past left n due are some = record {
  count = are.count;
  below = λ k less. by k less (n == k) refl;
  above = λ k past. are.above k (omega arith);
}
  where
    by : (k : ℕ) → k < n + 1 → (b : Bool) → n == k ≡ b → get_or due k None ≡ due_of [] left k
    by k less true same = let is : n ≡ k = eqb-true n k same in are.above k (omega (arith, is)) ∙ sym (ap (λ b. cond b (Some 0) None) (ap (λ (j : ℕ). get_or left j 0 == 0) (sym is) ∙ some))
    by k less false apart =
        let other : n ≢ k = (λ same. let test : n == k ≡ true = grind (arith, nat_tests) in absurd cc) in
        are.below k (omega (arith, other))

pub due_all : (left : List ℕ) (n : ℕ) (due : Moments) → length left ≤ n → AreDueBelow left n due → AreDue [] left due
due_all left n due done are = record { count = are.count; each = λ k inside. are.below k (let long = are.count in omega (arith, long)) }

-- a placement of no points
pub placement_none : (graph : Graph) (points : ℕ) (placed : List PointId) (left : List ℕ) (due : Moments) → points ≡ graph.shape.points → placed ≡ [] → AreCountsTo graph points left → AreDue [] left due → IsPlacement graph placed left due
placement_none graph points placed left due same none counts are = subst (λ ps. IsPlacement graph ps left due) (sym none) (record {
  count = counts.count;
  counts = λ k inside. counts.each k inside ∙ ap (λ n. count_below graph n (point k)) same ∙ sym (none_placed graph k);
  placed_closed = λ k inside among. absurd cc;
  are_due = are;
})

module _ (graph : Graph) (placed : List PointId) (left : List ℕ) (due : Moments) (are : IsPlacement graph placed left due) where
  long : length due ≡ graph.shape.points
  long = are.are_due.count ∙ are.count

  due_if_free : (k : ℕ) → k < graph.shape.points → get_or due k None ≡ cond (is_free graph placed (point k)) (Some 0) None
  due_if_free k inside =
      are.are_due.each k (let all = long in omega (arith, all))
      ∙ ap (λ m. cond (not (contains_point placed (point k)) && (m == 0)) (Some 0) None) (are.counts k (let all = are.count in omega (arith, all)))
      ∙ ap (λ b. cond (not (contains_point placed (point k)) && b) (Some 0) None) (sym (none_is_zero (goes_on graph placed (point k)) (all_points graph.shape)))

  free_if_due : (k m : ℕ) → k < graph.shape.points → get_or due k None ≡ Some m → is_free graph placed (point k) ≡ true
  free_if_due k m inside is = by (is_free graph placed (point k)) (sym (due_if_free k inside) ∙ is)
    where
      by : (b : Bool) → cond b (Some 0) None ≡ Some m → b ≡ true
      by true some = refl
      by false none = absurd (none-some m none)

  pub none_found : IsFirstDue due None → find (is_free graph placed) (all_points graph.shape) ≡ None
  none_found none = found_nowhere (is_free graph placed) graph.shape.points (λ j less. by j less (is_free graph placed (point j)) refl)
    where
      by : (j : ℕ) → j < graph.shape.points → (b : Bool) → is_free graph placed (point j) ≡ b → is_free graph placed (point j) ≡ false
      by j less false is = is
      by j less true is = absurd (none-some 0 (sym (none (point j) (let all = long in omega (arith, all))) ∙ due_if_free j less ∙ ap (λ b. cond b (Some 0) None) is))

  module _ (m : ℕ) (q : PointId) (first : IsFirstDue due (Some (m, q))) where
    first_inside : q.0 < graph.shape.points
    first_inside = let below = first.0 in let all = long in omega (arith, below, all)

    pub first_found : find (is_free graph placed) (all_points graph.shape) ≡ Some q
    first_found = found_at (is_free graph placed) graph.shape.points q.0 first_inside (free_if_due q.0 m first_inside first.1) (λ j less. by j less (is_free graph placed (point j)) refl)
      where
        by : (j : ℕ) → j < q.0 → (b : Bool) → is_free graph placed (point j) ≡ b → is_free graph placed (point j) ≡ false
        by j less false is = is
        by j less true is =
            let low : j < graph.shape.points = (let inside = first_inside in omega (arith, inside)) in
            absurd (later (first.2 (point j) 0 (let all = long in omega (arith, all)) (due_if_free j low ∙ ap (λ b. cond b (Some 0) None) is)))
          where
            later : IsDueNotAfter (m, q) (0, point j) → ⊥
            later (inl sooner) = absurd (omega arith)
            later (inr (same, lower)) = absurd (omega arith)

  -- a free point
  module _ (q : PointId) (inside : q.0 < graph.shape.points) (free : is_free graph placed q ≡ true) where
    out : contains_point placed q ≡ false
    out = by (contains_point placed q) free
      where
        by : (b : Bool) → (not b && is_none (find (goes_on graph placed q) (all_points graph.shape))) ≡ true → b ≡ false
        by true never = absurd cc
        by false none = refl

    none_left : get_or left q.0 0 ≡ 0
    none_left = are.counts q.0 (let all = are.count in omega (arith, all)) ∙ by (contains_point placed q) free
      where
        by : (b : Bool) → (not b && is_none (find (goes_on graph placed q) (all_points graph.shape))) ≡ true → open_count graph placed q ≡ 0
        by true never = absurd cc
        by false none = eqb-true (open_count graph placed q) 0 (sym (none_is_zero (goes_on graph placed q) (all_points graph.shape)) ∙ none)

    -- a point from which an edge goes to the free one has an edge left
    pub some_left : HaveOpenEdges graph q left
    some_left k within went =
        let is = are.counts k within in
        let less = open_less graph placed q k inside out in
        let one : edge_count graph (point k) q ≡ 1 = ap (λ b. cond b 1 0) went in
        omega (arith, is, less, one)

    module _ (now : List ℕ) (set_due after : Moments) (sets : set_due ≡ set due q.0 None) (counts : DifferByEdges graph q now left) (frees : AreFreed graph q now set_due after) where
      pub placement_more : (more : List PointId) → more ≡ placed ++ q ∷ [] → IsPlacement graph more now after
      placement_more more is = subst (λ ps. IsPlacement graph ps now after) (sym is) (record {
        count = counts.count ∙ are.count;
        counts = λ k below. (let within : k < length left = (let same = counts.count in omega (arith, same)) in
            let was = are.counts k within in
            let differ = counts.each k within in
            let less = open_less graph placed q k inside out in
            omega (arith, was, differ, less));
        placed_closed = λ k below among. (let within : k < length left = (let same = counts.count in omega (arith, same)) in
            let differ = counts.each k within in
            let none = was_closed k within among in
            omega (arith, differ, none));
        are_due = record {
          count = frees.count ∙ ap length sets ∙ length-set due q.0 None ∙ are.are_due.count ∙ sym counts.count;
          each = λ k below. due_now k (let count = frees.count in let all : length set_due ≡ length due = ap length sets ∙ length-set due q.0 None in omega (arith, count, all)) (q.0 == k) refl;
        };
      })
        where
          was_closed : (k : ℕ) → k < length left → contains_point (placed ++ q ∷ []) (point k) ≡ true → get_or left k 0 ≡ 0
          was_closed k within among = by (q.0 == k) refl
            where
              by : (b : Bool) → q.0 == k ≡ b → get_or left k 0 ≡ 0
              by true same = ap (λ (j : ℕ). get_or left j 0) (sym (eqb-true q.0 k same)) ∙ none_left
              by false apart = are.placed_closed k within (sym (contains_other placed q (point k) apart) ∙ among)

          due_now : (k : ℕ) → k < length due → (b : Bool) → q.0 == k ≡ b → get_or after k None ≡ due_of (placed ++ q ∷ []) now k
          due_now k within true same =
              let is : q.0 ≡ k = eqb-true q.0 k same in
              frees.each k (let all : length set_due ≡ length due = ap length sets ∙ length-set due q.0 None in omega (arith, all))
              ∙ ap (λ b. cond (b && (get_or now k 0 == 0)) (Some 0) (get_or set_due k None)) (none_goes (goes graph (point k) q) refl)
              ∙ ap (λ (ms : Moments). get_or ms k None) sets
              ∙ same_place due q.0 k None None (let all = long in omega (arith, all)) same
              ∙ sym (ap (λ b. cond (not b && (get_or now k 0 == 0)) (Some 0) None) (subst (λ (j : ℕ). contains_point (placed ++ q ∷ []) (point j) ≡ true) is (among_last placed q)))
            where
              none_goes : (b : Bool) → goes graph (point k) q ≡ b → goes graph (point k) q ≡ false
              none_goes false not_so = not_so
              none_goes true went =
                  let is : q.0 ≡ k = eqb-true q.0 k same in
                  let here : get_or left k 0 ≡ 0 = ap (λ (j : ℕ). get_or left j 0) (sym is) ∙ none_left in
                  let some = some_left k (let all = are.are_due.count in omega (arith, all)) went in
                  absurd (omega (arith, here, some))
          due_now k within false apart =
              frees.each k (let all : length set_due ≡ length due = ap length sets ∙ length-set due q.0 None in omega (arith, all))
              ∙ ap (λ o. cond (goes graph (point k) q && (get_or now k 0 == 0)) (Some 0) o) (ap (λ (ms : Moments). get_or ms k None) sets ∙ other_place due q.0 k None None apart ∙ are.are_due.each k within)
              ∙ by (goes graph (point k) q) refl
              ∙ sym (ap (λ b. cond (not b && (get_or now k 0 == 0)) (Some 0) None) (contains_other placed q (point k) apart))
            where
              counted : k < length left
              counted = let all = are.are_due.count in omega (arith, all)

              by : (b : Bool) → goes graph (point k) q ≡ b → cond (b && (get_or now k 0 == 0)) (Some 0) (due_of placed left k) ≡ cond (not (contains_point placed (point k)) && (get_or now k 0 == 0)) (Some 0) None
              by true went =
                  (λ i. cond (get_or now k 0 == 0) (Some 0) (cond (not (out_too i) && (not_zero i)) (Some 0) None))
                  ∙ sym (ap (λ b. cond (not b && (get_or now k 0 == 0)) (Some 0) None) out_too)
                where
                  some : 1 ≤ get_or left k 0
                  some = some_left k counted went

                  not_zero : (get_or left k 0 == 0) ≡ false
                  not_zero = let least = some in grind (arith, nat_tests)

                  out_too : contains_point placed (point k) ≡ false
                  out_too = at (contains_point placed (point k)) refl
                    where
                      at : (b : Bool) → contains_point placed (point k) ≡ b → contains_point placed (point k) ≡ false
                      at false not_so = not_so
                      at true among = let none = are.placed_closed k counted among in let least = some in absurd (omega (arith, none, least))
              by false not_so =
                  let differ = counts.each k counted in
                  let none : edge_count graph (point k) q ≡ 0 = ap (λ b. cond b 1 0) not_so in
                  let same : get_or left k 0 ≡ get_or now k 0 = omega (arith, differ, none) in
                  ap (λ m. cond (not (contains_point placed (point k)) && (m == 0)) (Some 0) None) same
