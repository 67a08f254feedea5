-- The parts of a forged network build it: none is refused.
use Rattle.std.proofs.Common.{◌≡◌, ◌≢◌, ℕ, ℤ, pos, zero, suc, ◌+◌, ◌-◌, ◌*◌, ◌-ℤ◌, ◌^◌, ◌<◌, ◌≤◌, ◌≤ℤ◌, ◌==◌, ◌||◌, true, false, List, [], ◌∷◌, ◌++◌, length, map, take, get_or, sum, position, nat_le, int_lt, Some, None, Result, Ok, Err}
use Rattle.std.proofs.Common.{inl, inr, refl, ap, sym, subst, ◌∙◌, arith, rules, append_assoc, length-append}
use Rattle.std.specs.Prelude.{codes, unsigned_abs, IsOk}
use Rattle.std.specs.List.{All, Contains, position_or_len}
use Rattle.std.specs.Fmt.{decimal}
use Rattle.std.specs.Str.{bytes_eq}
use Rattle.std.proofs.lemmas.Bool.{lt-leb, le-leb, ne_eqb, false_from_ne_true, cases_lt}
use Rattle.std.proofs.lemmas.Int.{ints}
use Rattle.std.proofs.lemmas.Slice.Eq.{bytes_eq-Decides}
use Rattle.std.proofs.lemmas.List.{append-nil, get_or_default, length-take-le, length-map}
use Rattle.std.proofs.lemmas.List.Elements.{All-nil, All-head, All-tail, All-push, All-weaker, All-take, All-map}
use Rattle.std.proofs.lemmas.List.Sums.{position_or_len_is, sum_by-le}
use Rattle.closure_model.proofs.Lists.{Contains-head, Contains-tail}
use Rattle.net_model.specs.Limits.{most_points, most_bounds, most_links, most_number, within_limit}
use Rattle.net_model.specs.Network.{Plan, empty}
use Rattle.net_model.specs.BuiltNetwork.{named, with_point, with_bound, with_link, with_part, with_parts, at_place, built}
use Rattle.net_model.specs.declared.fault.BuildFault.{BuildFault}
use Rattle.net_model.specs.declared.part.Bound.{Bound}
use Rattle.net_model.specs.declared.part.Link.{Link}
use Rattle.net_model.specs.declared.part.Part.{Part}
use Rattle.net_model.specs.declared.part.Part.TheVariants as part
use Rattle.net_model.proofs.PartsLemmas.{good_interval}
use Rattle.net_model.proofs.Positions.{None_from_fails}
use Rattle.situation_player.specs.ForgedParts.{start_name, end_name, watch_name, task_points, task_parts, next_parts, parts_from, deadline_part, parts_of_tasks, most_tasks, forged_parts}
use Rattle.situation_player.specs.Generator.{next_state, state_after, drawn}
use Rattle.situation_player.specs.Tasks.{tasks_drawn, cut_drawn, IsSmall}
use Rattle.situation_player.specs.declared.tasks.Task.{Task}
use Rattle.situation_player.proofs.PartLemmas.{count_of}
use Rattle.situation_player.proofs.TaskLemmas.{tasks_small, cut_low, tasks_count, cut_is}
use Rattle.situation_player.proofs.NameLemmas.{point_rank, start_rank, end_rank, watch_rank, bound_rank, v_rank, u_rank, g_rank, h_rank}

same_ok : (a b : Plan) → ◌≡◌ {A = Result Plan BuildFault} (Ok a) (Ok b) → a ≡ b
same_ok a b is = cc

err_ok : (a : Plan) (b : BuildFault) → ◌≡◌ {A = Result Plan BuildFault} (Err b) (Ok a) → ⊥
err_ok a b is = absurd (cc)

-- ---- parts that a network takes
abbrev Takes : Plan → List Part → Plan → Type 0
Takes net parts after = (place : ℕ) → with_parts place net parts ≡ Ok after

takes_one : (net more after : Plan) (p : Part) (parts : List Part) → with_part net p ≡ Ok more → Takes more parts after → Takes net (p ∷ parts) after
takes_one net more after p parts taken rest place = rw (taken, with_parts) (rest (place + 1))

-- what follows a part that is taken
abbrev then_takes : {E : Type 0} → Result Plan E → (E → BuildFault) → (Plan → Result Plan BuildFault) → Result Plan BuildFault
then_takes r bad next = elim r [ Ok more ↦ next more | Err fault ↦ Err (bad fault) ]

followed : {E : Type 0} (r : Result Plan E) (bad : E → BuildFault) (first both : Plan → Result Plan BuildFault) (middle after : Plan)
    → ((more : Plan) → first more ≡ Ok middle → both more ≡ Ok after) → then_takes r bad first ≡ Ok middle → then_takes r bad both ≡ Ok after
followed (Ok more) bad first both middle after later here = later more here
followed (Err fault) bad first both middle after later here = absurd (err_ok middle (bad fault) here)

append_at : (first second : List Part) (net middle after : Plan) (place : ℕ) → with_parts place net first ≡ Ok middle → Takes middle second after
    → with_parts place net (first ++ second) ≡ Ok after
append_at [] second net middle after place here rest =
    let same : middle ≡ net = sym (same_ok net middle here) in
    subst (λ (n : Plan). with_parts place n second ≡ Ok after) same (rest place)
append_at (p ∷ first) second net middle after place here rest =
    followed (with_part net p) (at_place (place + 1)) (λ more. with_parts (place + 1) more first) (λ more. with_parts (place + 1) more (first ++ second)) middle after
    (λ more went. append_at first second more middle after (place + 1) went rest) here

takes_append : (first second : List Part) (net middle after : Plan) → Takes net first middle → Takes middle second after → Takes net (first ++ second) after
takes_append first second net middle after here rest place = append_at first second net middle after place (here place) rest

-- ---- names in order of their places
bytes_differ : (xs ys : List ℕ) → xs ≢ ys → bytes_eq ys xs ≡ false
bytes_differ xs ys differ =
    false_from_ne_true (bytes_eq ys xs) (λ same. let equal : ys ≡ xs = search (rules, same, bytes_eq-Decides) in differ (sym equal))

ranks_differ : (rank : List ℕ → ℕ) (xs ys : List ℕ) → rank xs < rank ys → bytes_eq ys xs ≡ false
ranks_differ rank xs ys less = bytes_differ xs ys (λ same. let equal = ap rank same in omega (arith, less, equal))

abbrev AreRanked : ℕ → List (List ℕ) → Type 0
AreRanked first [] = Unit {0}
AreRanked first (name ∷ names) = (point_rank name ≡ first) × AreRanked (suc first) names

rank_at : (first : ℕ) (names : List (List ℕ)) (k : ℕ) (d : List ℕ) → AreRanked first names → k < length names → point_rank (get_or names k d) ≡ first + k
rank_at first [] k d are inside = absurd (omega (arith, inside))
rank_at first (name ∷ names) zero d (here, are) inside = omega (arith, here)
rank_at first (name ∷ names) (suc k) d (here, are) inside = let later = rank_at (suc first) names k d are (omega (arith, inside)) in omega (arith, later)

-- the place of a name
place_of : (first : ℕ) (names : List (List ℕ)) (name : List ℕ) → AreRanked first names → Contains names name
    → (k : ℕ) × (position (bytes_eq name) names ≡ Some k) × (point_rank name ≡ first + k)
place_of first names name are (k, inside, at) =
    let rank : point_rank name ≡ first + k = ap point_rank (sym at) ∙ rank_at first names k name are inside in
    let same : bytes_eq name (get_or names k []) ≡ true =
    rw (get_or_default names k [] name inside ∙ at) (search (rules, bytes_eq-Decides)) in
    let place : position_or_len (bytes_eq name) names ≡ k = position_or_len_is (bytes_eq name) names k [] (omega arith)
    (λ j before.
    let other = rank_at first names j [] are (omega (arith, before, inside)) in
    ranks_differ point_rank (get_or names j []) name (omega (arith, other, rank, before)))
    (λ within. same) in
    (k, rw place (grind arith), rank)

-- ---- points
abbrev only : List (List ℕ) → Plan
only points = record { points = points; bounds = []; links = []; delay = 0 }

new_point : (names : List (List ℕ)) (name : List ℕ) → All (λ n. point_rank n < point_rank name) names → position (bytes_eq name) names ≡ None
new_point names name all = None_from_fails (bytes_eq name) names (λ k d inside. ranks_differ point_rank (get_or names k d) name (all k d inside))

point_taken : (done : List (List ℕ)) (name : List ℕ) → All (λ n. point_rank n < point_rank name) done → length done < most_points
    → with_point (only done) name ≡ Ok (only (done ++ name ∷ []))
unfolding with_point
point_taken done name all few = let spare_capacity : nat_le most_points (length done) ≡ false = lt-leb most_points (length done) few in rw (new_point done name all, spare_capacity) refl

points_taken : (done rest : List (List ℕ)) (first : ℕ) → All (λ n. point_rank n < first) done → AreRanked first rest → length done + length rest ≤ most_points
    → Takes (only done) (map part.Point rest) (only (done ++ rest))
points_taken done [] first all are few = λ place. ap (λ (ns : List (List ℕ)). Ok (only ns)) (sym (append-nil done))
points_taken done (name ∷ rest) first all (here, are) few =
    let lower = All-weaker (λ n. point_rank n < first) (λ n. point_rank n < point_rank name) (λ n less. omega (arith, less, here)) done all in
    let more = All-push (λ n. point_rank n < suc first) done name (All-weaker (λ n. point_rank n < first) (λ n. point_rank n < suc first) (λ n less. omega (arith, less)) done all) (omega (arith, here)) in
    let long = length-append done (name ∷ []) in
    takes_one (only done) (only (done ++ name ∷ [])) (only (done ++ name ∷ rest)) (part.Point name) (map part.Point rest) (point_taken done name lower (omega (arith, few)))
    (subst (λ (ns : List (List ℕ)). Takes (only (done ++ name ∷ [])) (map part.Point rest) (only ns)) (append_assoc done (name ∷ []) rest)
    (points_taken (done ++ name ∷ []) rest (suc first) more are (omega (arith, few, long))))

-- the names of the points of so many tasks
abbrev names_from : ℕ → ℕ → List (List ℕ)
names_from i zero = []
names_from i (suc n) = start_name i ∷ end_name i ∷ watch_name i ∷ names_from (i + 1) n

names_ranked : (i n : ℕ) → i + n < 2 ^ 32 → AreRanked (3 * i) (names_from i n)
names_ranked i zero small = tt
names_ranked i (suc n) small =
    let same : 3 * (i + 1) ≡ suc (suc (suc (3 * i))) = omega arith in
    let rest : AreRanked (suc (suc (suc (3 * i)))) (names_from (i + 1) n) = subst (λ (k : ℕ). AreRanked k (names_from (i + 1) n)) same (names_ranked (i + 1) n (omega (arith, small))) in
    let second = end_rank i (omega (arith, small)) in
    let third = watch_rank i (omega (arith, small)) in
    (start_rank i (omega (arith, small)), (omega (arith, second), (omega (arith, third), rest)))

names_count : (i n : ℕ) → length (names_from i n) ≡ 3 * n
names_count i zero = refl
names_count i (suc n) = let rest = names_count (i + 1) n in omega (arith, rest)

points_are : (i : ℕ) (tasks : List Task) → parts_from (λ i task. task_points i) i tasks ≡ map part.Point (names_from i (length tasks))
points_are i [] = refl
points_are i (task ∷ tasks) =
    ap (λ (ps : List Part). part.Point (start_name i) ∷ part.Point (end_name i) ∷ part.Point (watch_name i) ∷ ps) (points_are (i + 1) tasks)

-- the points of a task among them
record HasTask (names : List (List ℕ)) (i : ℕ) : Type 0 where
  start : Contains names (start_name i)
  end : Contains names (end_name i)
  watch : Contains names (watch_name i)

has_task : (a n i : ℕ) → a ≤ i → i < a + n → HasTask (names_from a n) i
has_task a zero i above below = absurd (omega (arith, above, below))
has_task a (suc n) i above below =
    elim (cases_lt a i) [
      | inl later ↦ (let has = has_task (a + 1) n i (omega (arith, later)) (omega (arith, below)) in
          record { start = third (start_name i) has.start; end = third (end_name i) has.end; watch = third (watch_name i) has.watch })
      | inr up_to ↦ (let same : a ≡ i = omega (arith, above, up_to) in
          subst (HasTask (names_from a (suc n))) same (record {
            start = Contains-head (start_name a) (end_name a ∷ watch_name a ∷ names_from (a + 1) n);
            end =
                Contains-tail (start_name a) (end_name a ∷ watch_name a ∷ names_from (a + 1) n) (end_name a)
                (Contains-head (end_name a) (watch_name a ∷ names_from (a + 1) n));
            watch =
                Contains-tail (start_name a) (end_name a ∷ watch_name a ∷ names_from (a + 1) n) (watch_name a)
                (Contains-tail (end_name a) (watch_name a ∷ names_from (a + 1) n) (watch_name a) (Contains-head (watch_name a) (names_from (a + 1) n)));
          }))
    ]
  where
    third : (name : List ℕ) → Contains (names_from (a + 1) n) name → Contains (names_from a (suc n)) name
    third name has =
        Contains-tail (start_name a) (end_name a ∷ watch_name a ∷ names_from (a + 1) n) name
        (Contains-tail (end_name a) (watch_name a ∷ names_from (a + 1) n) name (Contains-tail (watch_name a) (names_from (a + 1) n) name has))

-- ---- bounds and links among given points
-- a network of given points, with so many bounds and links; the bounds stand before a place, and so do the ends of the links
record Grown (points : List (List ℕ)) (bound_top link_top bounds links : ℕ) (net : Plan) : Type 0 where
  points_are : net.points ≡ points
  bounds_below : All (λ (b : Bound). bound_rank b.name < bound_top) net.bounds
  links_below : All (λ (l : Link). 3 + l.to.0 < link_top) net.links
  bound_count : length net.bounds ≡ bounds
  link_count : length net.links ≡ links

higher : (points : List (List ℕ)) (b l c d n m : ℕ) (net : Plan) → b ≤ c → l ≤ d → Grown points b l n m net → Grown points c d n m net
higher points b l c d n m net more_bounds more_links grown = record {
  points_are = grown.points_are;
  bounds_below = All-weaker (λ (x : Bound). bound_rank x.name < b) (λ (x : Bound). bound_rank x.name < c) (λ x less. omega (arith, less, more_bounds)) net.bounds grown.bounds_below;
  links_below = All-weaker (λ (x : Link). 3 + x.to.0 < l) (λ (x : Link). 3 + x.to.0 < d) (λ x less. omega (arith, less, more_links)) net.links grown.links_below;
  bound_count = grown.bound_count;
  link_count = grown.link_count;
}

record IsGrown (points : List (List ℕ)) (bound_top link_top bounds links : ℕ) (net : Plan) (parts : List Part) : Type 0 where
  after : Plan
  takes : Takes net parts after
  grown : Grown points bound_top link_top bounds links after

module _ (points : List (List ℕ)) (ranked : AreRanked 3 points) where
  record IsNamed (net : Plan) (name : List ℕ) : Type 0 where
    place : ℕ
    is : named net name ≡ Ok (record { 0 = place })
    rank : point_rank name ≡ 3 + place

  is_named : (net : Plan) (name : List ℕ) → net.points ≡ points → Contains points name → IsNamed net name
  is_named net name same among =
      let (k, at, rank) = place_of 3 points name ranked among in
      record { place = k; is = rw (same, at, named) refl; rank = rank }

  -- one more bound
  module _ (net : Plan) (b l n m : ℕ) (grown : Grown points b l n m net) (name from to : List ℕ) (most : ℤ) where
    bound_grown : Contains points from → Contains points to → b ≤ bound_rank name → within_limit most ≡ true → n < most_bounds
        → (rest : List Part) (c d i j : ℕ) → ((more : Plan) → Grown points (suc (bound_rank name)) l (suc n) m more → IsGrown points c d i j more rest)
        → IsGrown points c d i j net (part.Bound name from to most ∷ rest)
    unfolding with_bound
    bound_grown from_among to_among above small few rest c d i j goes_on =
        let later = goes_on more grows in
        record { after = later.after; takes = takes_one net more later.after (part.Bound name from to most) rest taken later.takes; grown = later.grown }
      where
        x : IsNamed net from
        x = is_named net from grown.points_are from_among

        y : IsNamed net to
        y = is_named net to grown.points_are to_among

        bound : Bound
        bound = record { name = name; from = record { 0 = x.place }; to = record { 0 = y.place }; most = most }

        more : Plan
        more = record net { bounds = net.bounds ++ bound ∷ [] }

        unused : position (λ (o : Bound). bytes_eq name o.name) net.bounds ≡ None
        unused =
            None_from_fails (λ (o : Bound). bytes_eq name o.name) net.bounds
            (λ k e inside. let less = grown.bounds_below k e inside in ranks_differ bound_rank (get_or net.bounds k e).name name (omega (arith, less, above)))

        spare_capacity : nat_le most_bounds (length net.bounds) ≡ false
        spare_capacity = lt-leb most_bounds (length net.bounds) (let count = grown.bound_count in omega (arith, few, count))

        taken : with_part net (part.Bound name from to most) ≡ Ok more
        taken = rw (unused, x.is, y.is, small, spare_capacity) refl

        grows : Grown points (suc (bound_rank name)) l (suc n) m more
        grows = record {
          points_are = grown.points_are;
          bounds_below = All-push (λ (o : Bound). bound_rank o.name < suc (bound_rank name)) net.bounds bound
              (All-weaker (λ (o : Bound). bound_rank o.name < b) (λ (o : Bound). bound_rank o.name < suc (bound_rank name)) (λ o less. omega (arith, less, above)) net.bounds grown.bounds_below)
              (omega arith);
          links_below = grown.links_below;
          bound_count = (let long = length-append net.bounds (bound ∷ []) in let count = grown.bound_count in omega (arith, long, count));
          link_count = grown.link_count;
        }

  -- one more link
  module _ (net : Plan) (b l n m : ℕ) (grown : Grown points b l n m net) (from to : List ℕ) (low high : ℤ) where
    link_grown : Contains points from → Contains points to → point_rank from ≢ point_rank to → l ≤ point_rank to → pos 1 ≤ℤ low → low ≤ℤ high → within_limit high ≡ true
        → m < most_links → (rest : List Part) (c d i j : ℕ) → ((more : Plan) → Grown points b (suc (point_rank to)) n (suc m) more → IsGrown points c d i j more rest)
        → IsGrown points c d i j net (part.Link from low high to ∷ rest)
    unfolding with_link
    link_grown from_among to_among apart above positive interval small few rest c d i j goes_on =
        let later = goes_on more grows in
        record { after = later.after; takes = takes_one net more later.after (part.Link from low high to) rest taken later.takes; grown = later.grown }
      where
        x : IsNamed net from
        x = is_named net from grown.points_are from_among

        y : IsNamed net to
        y = is_named net to grown.points_are to_among

        link : Link
        link = record { from = record { 0 = x.place }; low = low; high = high; to = record { 0 = y.place } }

        more : Plan
        more = record net { links = net.links ++ link ∷ [] }

        not_itself : (x.place == y.place) ≡ false
        not_itself = ne_eqb x.place y.place (λ same. let first = x.rank in let second = y.rank in apart (omega (arith, first, second, same)))

        unused : position (λ (o : Link). o.to.0 == y.place) net.links ≡ None
        unused =
            None_from_fails (λ (o : Link). o.to.0 == y.place) net.links
            (λ k e inside. let less = grown.links_below k e inside in let rank = y.rank in ne_eqb (get_or net.links k e).to.0 y.place (λ same. omega (arith, less, rank, same, above)))

        good : (int_lt low (pos 1) || int_lt high low) ≡ false
        good = good_interval low high positive interval

        spare_capacity : nat_le most_links (length net.links) ≡ false
        spare_capacity = lt-leb most_links (length net.links) (let count = grown.link_count in omega (arith, few, count))

        taken : with_part net (part.Link from low high to) ≡ Ok more
        taken = rw (x.is, y.is, not_itself, unused, good, small, spare_capacity) refl

        grows : Grown points b (suc (point_rank to)) n (suc m) more
        grows = record {
          points_are = grown.points_are;
          bounds_below = grown.bounds_below;
          links_below = All-push (λ (o : Link). 3 + o.to.0 < suc (point_rank to)) net.links link
              (All-weaker (λ (o : Link). 3 + o.to.0 < l) (λ (o : Link). 3 + o.to.0 < suc (point_rank to)) (λ o less. omega (arith, less, above)) net.links grown.links_below)
              (let rank = y.rank in omega (arith, rank));
          bound_count = grown.bound_count;
          link_count = (let long = length-append net.links (link ∷ []) in let count = grown.link_count in omega (arith, long, count));
        }

  -- no more parts
  nothing : (net : Plan) (b l n m : ℕ) → Grown points b l n m net → IsGrown points b l n m net []
  nothing net b l n m grown = record { after = net; takes = λ place. refl; grown = grown }

  counted : (b l x y z w : ℕ) (net : Plan) → x ≡ y → z ≡ w → Grown points b l x z net → Grown points b l y w net
  counted b l x y z w net first second grown =
      subst (λ (k : ℕ). Grown points b l k w net) first (subst (λ (k : ℕ). Grown points b l x k net) second grown)

  same_counts : (a b c d e f g h : ℕ) → a ≡ b → c ≡ d → e ≡ f → g ≡ h → {net : Plan} → {parts : List Part} → IsGrown points a c e g net parts → IsGrown points b d f h net parts
  same_counts a b c d e f g h first second third fourth {net} {parts} is =
      subst (λ (k : ℕ). IsGrown points k d f h net parts) first (subst (λ (k : ℕ). IsGrown points a k f h net parts) second
      (subst (λ (k : ℕ). IsGrown points a c k h net parts) third (subst (λ (k : ℕ). IsGrown points a c e k net parts) fourth is)))

  -- ---- the parts of tasks
  module _ (count : ℕ) (small_count : count < 1000) (has : (i : ℕ) → 1 ≤ i → i < 1 + count → HasTask points i) where
    interval_of : (low high : ℕ) → 1 ≤ low → low ≤ high → (pos 1 ≤ℤ pos low) × (pos low ≤ℤ pos high)
    interval_of low high some order = (omega (arith, ints), omega (arith, ints))

    fits : (n : ℕ) → n < 40 → within_limit (pos n) ≡ true
    fits n few = le-leb n most_number (omega (arith, few))

    task_grown : (i : ℕ) (task : Task) (net : Plan) (n m : ℕ) → 1 ≤ i → i < 1 + count → IsSmall task → n + 2 ≤ most_bounds → m < most_links
        → Grown points (2 * i) (3 * i + 1) n m net → IsGrown points (2 * (i + 1)) (3 * (i + 1) + 1) (n + 2) (m + 1) net (task_parts i task)
    task_grown i task net n m some within small few_bounds few_links grown =
        let its = has i some within in
        let (positive, order) = interval_of task.low task.high small.low small.interval in
        let first = start_rank i (omega (arith, within, small_count)) in
        let second = end_rank i (omega (arith, within, small_count)) in
        let v = v_rank i (omega (arith, within, small_count)) in
        let u = u_rank i (omega (arith, within, small_count)) in
        let high = small.high in
        let early = small.early in
        let late = small.late in
        link_grown net (2 * i) (3 * i + 1) n m grown (start_name i) (end_name i) (pos task.low) (pos task.high) its.start its.end
        (λ same. omega (arith, first, second, same)) (omega (arith, second)) positive order (fits task.high high) few_links
        (part.Bound (codes "v" ++ decimal i) (watch_name i) (end_name i) (pos task.early) ∷ part.Bound (codes "u" ++ decimal i) (end_name i) (watch_name i) (pos task.late) ∷ [])
        (2 * (i + 1)) (3 * (i + 1) + 1) (n + 2) (m + 1)
        (λ linked grown_1.
        bound_grown linked (2 * i) (suc (point_rank (end_name i))) n (suc m) grown_1 (codes "v" ++ decimal i) (watch_name i) (end_name i) (pos task.early) its.watch its.end
        (omega (arith, v)) (fits task.early (omega (arith, early))) (omega (arith, few_bounds))
        (part.Bound (codes "u" ++ decimal i) (end_name i) (watch_name i) (pos task.late) ∷ []) (2 * (i + 1)) (3 * (i + 1) + 1) (n + 2) (m + 1)
        (λ early_bound grown_2.
        bound_grown early_bound (suc (bound_rank (codes "v" ++ decimal i))) (suc (point_rank (end_name i))) (suc n) (suc m) grown_2 (codes "u" ++ decimal i) (end_name i) (watch_name i) (pos task.late)
        its.end its.watch (omega (arith, v, u)) (fits task.late (omega (arith, late))) (omega (arith, few_bounds)) [] (2 * (i + 1)) (3 * (i + 1) + 1) (n + 2) (m + 1)
        (λ late_bound grown_3. nothing late_bound (2 * (i + 1)) (3 * (i + 1) + 1) (n + 2) (m + 1)
        (counted (2 * (i + 1)) (3 * (i + 1) + 1) (suc (suc n)) (n + 2) (suc m) (m + 1) late_bound (omega arith) (omega arith)
        (higher points (suc (bound_rank (codes "u" ++ decimal i))) (suc (point_rank (end_name i))) (2 * (i + 1)) (3 * (i + 1) + 1) (suc (suc n)) (suc m) late_bound
        (omega (arith, u)) (omega (arith, second)) grown_3)))))

    after_parts : (first second : List Part) (b l n m c d i j : ℕ) (net : Plan) → (here : IsGrown points b l n m net first)
        → ((middle : Plan) → Grown points b l n m middle → IsGrown points c d i j middle second) → IsGrown points c d i j net (first ++ second)
    after_parts first second b l n m c d i j net here goes_on =
        let later = goes_on here.after here.grown in
        record { after = later.after; takes = takes_append first second net here.after later.after here.takes later.takes; grown = later.grown }

    tasks_grown : (tasks : List Task) (i : ℕ) (net : Plan) (n m : ℕ) → 1 ≤ i → i + length tasks ≤ 1 + count → All IsSmall tasks → n + 2 * length tasks ≤ most_bounds → m + length tasks ≤ most_links
        → Grown points (2 * i) (3 * i + 1) n m net
        → IsGrown points (2 * (i + length tasks)) (3 * (i + length tasks) + 1) (n + 2 * length tasks) (m + length tasks) net (parts_from task_parts i tasks)
    tasks_grown [] i net n m some within small few_bounds few_links grown =
        same_counts (2 * i) (2 * (i + 0)) (3 * i + 1) (3 * (i + 0) + 1) n (n + 2 * 0) m (m + 0) (omega arith) (omega arith) (omega arith) (omega arith) (nothing net (2 * i) (3 * i + 1) n m grown)
    tasks_grown (task ∷ tasks) i net n m some within small few_bounds few_links grown =
        same_counts (2 * (i + 1 + length tasks)) (2 * (i + suc (length tasks))) (3 * (i + 1 + length tasks) + 1) (3 * (i + suc (length tasks)) + 1) (n + 2 + 2 * length tasks) (n + 2 * suc (length tasks))
        (m + 1 + length tasks) (m + suc (length tasks)) (omega arith) (omega arith) (omega arith) (omega arith)
        (after_parts (task_parts i task) (parts_from task_parts (i + 1) tasks) (2 * (i + 1)) (3 * (i + 1) + 1) (n + 2) (m + 1) (2 * (i + 1 + length tasks)) (3 * (i + 1 + length tasks) + 1)
        (n + 2 + 2 * length tasks) (m + 1 + length tasks) net
        (task_grown i task net n m some (omega (arith, within)) (All-head IsSmall task tasks small) (omega (arith, few_bounds)) (omega (arith, few_links)) grown)
        (λ middle grown_1. tasks_grown tasks (i + 1) middle (n + 2) (m + 1) (omega arith) (omega (arith, within)) (All-tail IsSmall task tasks small) (omega (arith, few_bounds)) (omega (arith, few_links)) grown_1))

    next_grown : (i : ℕ) (task : Task) (net : Plan) (l n m : ℕ) → 1 ≤ i → i < count → IsSmall task → n + 2 ≤ most_bounds → Grown points (1000 + 2 * i) l n m net
        → IsGrown points (1000 + 2 * (i + 1)) l (n + 2) m net (next_parts i task)
    next_grown i task net l n m some within small few_bounds grown =
        let its = has i some (omega (arith, within)) in
        let after = has (i + 1) (omega arith) (omega (arith, within)) in
        let g = g_rank i (omega (arith, within, small_count)) in
        let h = h_rank i (omega (arith, within, small_count)) in
        let slack = small.slack in
        bound_grown net (1000 + 2 * i) l n m grown (codes "g" ++ decimal i) (start_name (i + 1)) (end_name i) (pos 0) after.start its.end (omega (arith, g)) refl (omega (arith, few_bounds))
        (part.Bound (codes "h" ++ decimal i) (end_name i) (start_name (i + 1)) (pos task.slack) ∷ []) (1000 + 2 * (i + 1)) l (n + 2) m
        (λ ordered grown_1.
        bound_grown ordered (suc (bound_rank (codes "g" ++ decimal i))) l (suc n) m grown_1 (codes "h" ++ decimal i) (end_name i) (start_name (i + 1)) (pos task.slack) its.end after.start
        (omega (arith, g, h)) (fits task.slack (omega (arith, slack))) (omega (arith, few_bounds)) [] (1000 + 2 * (i + 1)) l (n + 2) m
        (λ slacked grown_2. nothing slacked (1000 + 2 * (i + 1)) l (n + 2) m
        (subst (λ (k : ℕ). Grown points (1000 + 2 * (i + 1)) l k m slacked) (omega arith)
        (higher points (suc (bound_rank (codes "h" ++ decimal i))) l (1000 + 2 * (i + 1)) l (suc (suc n)) m slacked (omega (arith, h)) (omega arith) grown_2))))

    nexts_grown : (tasks : List Task) (i : ℕ) (net : Plan) (l n m : ℕ) → 1 ≤ i → i + length tasks ≤ count → All IsSmall tasks → n + 2 * length tasks ≤ most_bounds
        → Grown points (1000 + 2 * i) l n m net → IsGrown points (1000 + 2 * (i + length tasks)) l (n + 2 * length tasks) m net (parts_from next_parts i tasks)
    nexts_grown [] i net l n m some within small few_bounds grown =
        same_counts (1000 + 2 * i) (1000 + 2 * (i + 0)) l l n (n + 2 * 0) m m (omega arith) refl (omega arith) refl (nothing net (1000 + 2 * i) l n m grown)
    nexts_grown (task ∷ tasks) i net l n m some within small few_bounds grown =
        same_counts (1000 + 2 * (i + 1 + length tasks)) (1000 + 2 * (i + suc (length tasks))) l l (n + 2 + 2 * length tasks) (n + 2 * suc (length tasks)) m m (omega arith) refl (omega arith) refl
        (after_parts (next_parts i task) (parts_from next_parts (i + 1) tasks) (1000 + 2 * (i + 1)) l (n + 2) m (1000 + 2 * (i + 1 + length tasks)) l (n + 2 + 2 * length tasks) m net
        (next_grown i task net l n m some (omega (arith, within)) (All-head IsSmall task tasks small) (omega (arith, few_bounds)) grown)
        (λ middle grown_1. nexts_grown tasks (i + 1) middle l (n + 2) m (omega arith) (omega (arith, within)) (All-tail IsSmall task tasks small) (omega (arith, few_bounds)) grown_1))

-- ---- the whole
pub small_sum : (tasks : List Task) → All IsSmall tasks → sum (map (λ (task : Task). task.high) tasks) ≤ 40 * length tasks
small_sum tasks small =
    let each = All-weaker IsSmall (λ (task : Task). task.high ≤ 40) (λ task is. let high = is.high in omega (arith, high)) tasks small in
    let bound = sum_by-le (λ x. x) 40 (map (λ (task : Task). task.high) tasks) (All-map (λ x. x ≤ 40) (λ (task : Task). task.high) tasks each) in
    let long = length-map tasks (λ (task : Task). task.high) in
    omega (arith, bound, long)

deadline_fits : (total cut : ℕ) → total ≤ 40000 → cut < 2 → within_limit (pos total -ℤ pos cut) ≡ true
deadline_fits total cut few low = le-leb (unsigned_abs (pos total -ℤ pos cut)) most_number (omega (arith, ints))

-- what forged parts build
pub record IsForged (count : ℕ) (parts : List Part) : Type 0 where
  pub net : Plan
  pub built_so : built parts ≡ Ok net
  pub points : length net.points ≡ 3 * count
  pub links : length net.links ≡ count
  pub bounds : length net.bounds + 1 ≡ 4 * count

module _ (tasks : List Task) (cut : ℕ) (some : 1 ≤ length tasks) (few : length tasks ≤ most_tasks) (small : All IsSmall tasks) (low : cut < 2) where
  abbrev count : ℕ
  count = length tasks

  abbrev names : List (List ℕ)
  names = names_from 1 count

  abbrev prefix : List Task
  prefix = take (count - 1) tasks

  ranked : AreRanked 3 names
  ranked = names_ranked 1 count (omega (arith, few))

  has : (i : ℕ) → 1 ≤ i → i < 1 + count → HasTask names i
  has i above below = has_task 1 count i above below

  prefix_length : length prefix ≡ count - 1
  prefix_length = length-take-le (count - 1) tasks (omega arith)

  points_first : Takes empty (map part.Point names) (only names)
  points_first = points_taken [] names 3 (All-nil (λ n. point_rank n < 3)) ranked (let size = names_count 1 count in omega (arith, size, few))

  at_points : Grown names (2 * 1) (3 * 1 + 1) 0 0 (only names)
  at_points = record {
    points_are = refl;
    bounds_below = All-nil (λ (b : Bound). bound_rank b.name < 2 * 1);
    links_below = All-nil (λ (l : Link). 3 + l.to.0 < 3 * 1 + 1);
    bound_count = refl;
    link_count = refl;
  }

  by_tasks : IsGrown names (2 * (1 + count)) (3 * (1 + count) + 1) (0 + 2 * count) (0 + count) (only names) (parts_from task_parts 1 tasks)
  by_tasks = tasks_grown names ranked count (omega (arith, few)) has tasks 1 (only names) 0 0 (omega arith) (omega arith) small (omega (arith, few)) (omega (arith, few)) at_points

  by_nexts : (net : Plan) → Grown names (2 * (1 + count)) (3 * (1 + count) + 1) (0 + 2 * count) (0 + count) net
      → IsGrown names (1000 + 2 * (1 + length prefix)) (3 * (1 + count) + 1) (0 + 2 * count + 2 * length prefix) (0 + count) net (parts_from next_parts 1 prefix)
  by_nexts net grown =
      nexts_grown names ranked count (omega (arith, few)) has prefix 1 net (3 * (1 + count) + 1) (0 + 2 * count) (0 + count) (omega arith) (omega (arith, prefix_length, some))
      (All-take IsSmall (count - 1) tasks small) (omega (arith, prefix_length, few))
      (higher names (2 * (1 + count)) (3 * (1 + count) + 1) (1000 + 2 * 1) (3 * (1 + count) + 1) (0 + 2 * count) (0 + count) net (omega (arith, few)) (omega arith) grown)

  by_deadline : (net : Plan) → Grown names (1000 + 2 * (1 + length prefix)) (3 * (1 + count) + 1) (0 + 2 * count + 2 * length prefix) (0 + count) net
      → IsGrown names 2001 (3 * (1 + count) + 1) (suc (0 + 2 * count + 2 * length prefix)) (0 + count) net (deadline_part tasks cut ∷ [])
  by_deadline net grown =
      let total = small_sum tasks small in
      bound_grown names ranked net (1000 + 2 * (1 + length prefix)) (3 * (1 + count) + 1) (0 + 2 * count + 2 * length prefix) (0 + count) grown (codes "dl") (start_name 1) (end_name count)
      (pos (sum (map (λ (task : Task). task.high) tasks)) -ℤ pos cut) (has 1 (omega arith) (omega (arith, some))).start (has count some (omega arith)).end (omega (arith, prefix_length, few))
      (deadline_fits (sum (map (λ (task : Task). task.high) tasks)) cut (omega (arith, total, few)) low) (omega (arith, prefix_length, few)) []
      2001 (3 * (1 + count) + 1) (suc (0 + 2 * count + 2 * length prefix)) (0 + count)
      (λ more grown_1. nothing names ranked more 2001 (3 * (1 + count) + 1) (suc (0 + 2 * count + 2 * length prefix)) (0 + count) grown_1)

  by_all : IsGrown names 2001 (3 * (1 + count) + 1) (suc (0 + 2 * count + 2 * length prefix)) (0 + count) (only names)
      (parts_from task_parts 1 tasks ++ (parts_from next_parts 1 prefix ++ deadline_part tasks cut ∷ []))
  by_all =
      after_parts names ranked count (omega (arith, few)) has (parts_from task_parts 1 tasks) (parts_from next_parts 1 prefix ++ deadline_part tasks cut ∷ []) (2 * (1 + count)) (3 * (1 + count) + 1)
      (0 + 2 * count) (0 + count) 2001 (3 * (1 + count) + 1) (suc (0 + 2 * count + 2 * length prefix)) (0 + count) (only names) by_tasks
      (λ middle grown.
      after_parts names ranked count (omega (arith, few)) has (parts_from next_parts 1 prefix) (deadline_part tasks cut ∷ []) (1000 + 2 * (1 + length prefix)) (3 * (1 + count) + 1)
      (0 + 2 * count + 2 * length prefix) (0 + count) 2001 (3 * (1 + count) + 1) (suc (0 + 2 * count + 2 * length prefix)) (0 + count) middle (by_nexts middle grown) by_deadline)

  pub forged : IsForged count (parts_of_tasks tasks cut)
  forged =
      let grown = by_all.grown in
      record {
        net = by_all.after;
        built_so =
            subst (λ (ps : List Part). with_parts 0 empty (ps ++ (parts_from task_parts 1 tasks ++ (parts_from next_parts 1 prefix ++ deadline_part tasks cut ∷ []))) ≡ Ok by_all.after) (sym (points_are 1 tasks))
            (takes_append (map part.Point names) (parts_from task_parts 1 tasks ++ (parts_from next_parts 1 prefix ++ deadline_part tasks cut ∷ [])) empty (only names) by_all.after points_first by_all.takes 0);
        points = ap (length {A = List ℕ}) grown.points_are ∙ names_count 1 count;
        links = grown.link_count ∙ omega arith;
        bounds = (let bounds = grown.bound_count in omega (arith, bounds, prefix_length, some));
      }

-- the parts of tasks are few
parts_few : (tasks : List Task) (cut : ℕ) → length tasks ≤ most_tasks → length (parts_of_tasks tasks cut) < 2 ^ 32
parts_few tasks cut few =
    let first = count_of (λ i task. task_points i) 3 (λ i task. refl) 1 tasks in
    let second = count_of task_parts 3 (λ i task. refl) 1 tasks in
    let prefix : List Task = take (length tasks - 1) tasks in
    let third = count_of next_parts 2 (λ i task. refl) 1 prefix in
    let shorter = length-take-le (length tasks - 1) tasks (omega arith) in
    let last : List Part = deadline_part tasks cut ∷ [] in
    let some = length-append (parts_from (λ i task. task_points i) 1 tasks) (parts_from task_parts 1 tasks ++ (parts_from next_parts 1 prefix ++ last)) in
    let more = length-append (parts_from task_parts 1 tasks) (parts_from next_parts 1 prefix ++ last) in
    let most = length-append (parts_from next_parts 1 prefix) last in
    omega (arith, first, second, third, shorter, some, more, most, few)

-- ---- what is forged from a number
pub forged_parts_build : (start count : ℕ) → 1 ≤ count → count ≤ most_tasks → IsOk (built (forged_parts start count)) × (length (forged_parts start count) < 2 ^ 32)
forged_parts_build start count some few =
    let size = tasks_count start count in
    let is = forged (tasks_drawn start count) (cut_drawn start count) (omega (arith, size, some)) (omega (arith, size, few)) (tasks_small start count) (cut_low start count) in (
      subst IsOk (sym is.built_so) refl,
      parts_few (tasks_drawn start count) (cut_drawn start count) (omega (arith, size, few)),
    )

-- the parts that the code makes
pub forged_parts_are : (number count start : ℕ) → start ≡ number → (drawn_tasks shown : List Task) → drawn_tasks ≡ tasks_drawn start count → shown ≡ drawn_tasks
    → (state cut : ℕ) → state ≡ state_after start (5 * count) → cut ≡ drawn (next_state state) 2 → (made parts : List Part) → made ≡ parts_of_tasks shown cut → parts ≡ made
    → parts ≡ forged_parts number count
forged_parts_are number count start from_start drawn_tasks shown tasks_are same state cut state_is cut_drawn_so made parts made_so parts_are =
    let all : shown ≡ tasks_drawn number count = same ∙ tasks_are ∙ ap (λ (s : ℕ). tasks_drawn s count) from_start in
    let last : cut ≡ cut_drawn number count =
    cut_drawn_so ∙ ap (λ (s : ℕ). drawn (next_state s) 2) state_is ∙ cut_is start count ∙ ap (λ (s : ℕ). cut_drawn s count) from_start in
    parts_are ∙ made_so ∙ ap (λ (ts : List Task). parts_of_tasks ts cut) all ∙ ap (parts_of_tasks (tasks_drawn number count)) last
