-- Strong schedules and reduced edges.
use Rattle.std.proofs.Common.{◌≡◌, ◌≢◌, ◌⊎◌, ℕ, zero, suc, ◌+◌, ◌<◌, ◌≤◌, ℤ, pos, ◌+ℤ◌, ◌≤ℤ◌, Bool, true, false, cond, not, List, [], ◌∷◌, Option, Some, None, map, length, get_or, slice_get, nat_abs, is_none, is_some, refl, ap, sym, subst}
use Rattle.std.proofs.Common.{◌∙◌, inl, inr, arith}
use Rattle.std.specs.List.{list_any, filter, AllByRecursion, AllZip, Contains, position_or_len, slice_index}
use Rattle.std.specs.Option.{option_map}
use Rattle.std.specs.Prelude.{◌==◌}
use Rattle.std.proofs.lemmas.Bool.{cases_lt, cases_Bool, true≢false, eq-eqb, not-true}
use Rattle.std.proofs.lemmas.Bool.Decides.{nat_tests}
use Rattle.std.proofs.lemmas.Int.{ints}
use Rattle.std.proofs.lemmas.List.{length-map, get_or-map}
use Rattle.std.proofs.lemmas.List.Sums.{position_or_len_is}
use Rattle.std.proofs.lemmas.List.Elements.{recursion_from_All, All-contains, Contains-get_or, All-from_recursion}
use Rattle.std.proofs.lemmas.Option.{slice_get-map, slice_get_within, get_or_from_slice_get}
use Rattle.net_model.specs.Network.{Plan, IsPlan, IsPoint, IsLink, IsBound, IsExecutable, activation}
use Rattle.net_model.specs.Edges.{IsLinkOf}
use Rattle.net_model.specs.declared.ids.PointId.{PointId}
use Rattle.net_model.specs.declared.ids.LinkId.{LinkId}
use Rattle.net_model.specs.declared.part.Bound.{Bound}
use Rattle.net_model.specs.declared.part.Edge.{Edge}
use Rattle.net_model.specs.declared.part.Link.{Link}
use Rattle.strategy_model.specs.Situations.{IsSituation, IsDuration, Satisfies, Keeps, moment_in}
use Rattle.strategy_model.specs.Plays.{IsInstant, points_of}
use Rattle.strategy_model.specs.Control.{IsControllable}
use Rattle.strategy_model.specs.Edges.{HoldsIn}
use Rattle.strategy_model.specs.Dispatch.{IsDynamic}
use Rattle.strategy_model.specs.DispatchLaws.{DynamicStrategiesAreTrees}
use Rattle.strategy_model.proofs.LongestLemmas.{longest_of, longest_situation}
use Rattle.strategy_model.proofs.MomentLemmas.{point_at}
use Rattle.strategy_model.proofs.StepLemmas.{points_length}
use Rattle.strategy_model.proofs.PlayLemmas.{link_sound}
use Rattle.strategy_model.proofs.CompareLemmas.{own_size, duration_of, at_least_1}
use Rattle.strategy_model.proofs.KindLemmas.{kind}
use Rattle.strong_plan.specs.Strong.{executed_in, IsRightIn, IsStrongSchedule, IsStronglyControllable}
use Rattle.strong_plan.specs.Chains.{IsChain, ends, goes_on, same_end, apart, sum_of, reduced_weight, IsReduced}
use Rattle.strong_plan.specs.Laws.{HasRoots, KeepsReduced, ReducedEdgesSuffice, ReducedEdgesHold}
use Rattle.strong_plan.proofs.ChainLemmas.{one_chain, chains_meet}
use Rattle.strong_plan.proofs.SumLemmas.{shared, sum_same, sum_most, kept_all, each_also, each_among}

-- ---- along a chain
-- each link of the network takes this long in a schedule
abbrev Takes : Plan → List ℕ → (Link → ℤ) → Type 0
Takes net schedule f = (name : LinkId) (link : Link) → IsLinkOf net name link → pos (moment_in schedule link.to) ≡ (pos (moment_in schedule link.from) +ℤ f link)

along : (net : Plan) (schedule : List ℕ) (f : Link → ℤ) (point : PointId) (chain : List Link) (root : PointId) → Takes net schedule f → IsChain net point chain root
    → pos (moment_in schedule point) ≡ (pos (moment_in schedule root) +ℤ sum_of f chain)
along net schedule f _ _ _ takes (ends point executable) = omega (arith, ints)
along net schedule f _ _ _ takes (goes_on name link chain point root declared to rest) =
    let tail = along net schedule f link.from chain root takes rest in
    let here = takes name link declared in
    let at : moment_in schedule link.to ≡ moment_in schedule point = ap (moment_in schedule) to in
    omega (arith, ints, tail, here, at)

-- each link of a chain is one of the network
abbrev pub IsNetLink : Plan → Link → Type 0
IsNetLink net link = (name : LinkId) × IsLinkOf net name link

pub chain_links : (net : Plan) (point : PointId) (chain : List Link) (root : PointId) → IsChain net point chain root → AllByRecursion (IsNetLink net) chain
chain_links net _ _ _ (ends point executable) = tt
chain_links net _ _ _ (goes_on name link chain point root declared to rest) = ((name, declared), chain_links net link.from chain root rest)

-- ---- the worst situation of two chains: the links of the one take their shortest durations, all others their longest
worst : List Link → Link → ℤ
worst chain link = cond (list_any (same_end link) chain) link.low link.high

worst_in : (chain : List Link) (link : Link) → list_any (same_end link) chain ≡ true → worst chain link ≡ link.low
unfolding worst
worst_in chain link among = ap (λ (b : Bool). cond b link.low link.high) among

worst_out : (chain : List Link) (link : Link) → list_any (same_end link) chain ≡ false → worst chain link ≡ link.high
unfolding worst
worst_out chain link other = ap (λ (b : Bool). cond b link.low link.high) other

worst_sound : (net : Plan) (chain : List Link) (link : Link) → IsLink net link → (pos (nat_abs (worst chain link)) ≡ worst chain link) × (link.low ≤ℤ worst chain link) × (worst chain link ≤ℤ link.high)
worst_sound net chain link sound =
    let positive = sound.positive in
    let interval = sound.interval in
    elim (cases_Bool (list_any (same_end link) chain)) [
      | inl among ↦
          let is = worst_in chain link among in
          (own_size (worst chain link) (omega (arith, ints, is, positive)), omega (arith, ints, is), omega (arith, ints, is, interval))
      | inr other ↦
          let is = worst_out chain link other in
          (own_size (worst chain link) (omega (arith, ints, is, positive, interval)), omega (arith, ints, is, interval), omega (arith, ints, is))
    ]

worst_of : List Link → List Link → List ℕ
worst_of chain links = map (λ (link : Link). nat_abs (worst chain link)) links

worst_durations : (net : Plan) (chain links : List Link) → AllByRecursion (IsLink net) links → AllZip IsDuration links (worst_of chain links)
unfolding worst_of
worst_durations net chain [] sound = tt
worst_durations net chain (link ∷ links) sound =
    let (is, low, high) = worst_sound net chain link sound.0 in
    ((omega (arith, ints, is, low), omega (arith, ints, is, high)), worst_durations net chain links sound.1)

worst_situation : (net : Plan) (chain : List Link) → IsPlan net → IsSituation net (worst_of chain net.links)
worst_situation net chain plan = worst_durations net chain net.links (recursion_from_All (IsLink net) net.links plan.links_sound)

worst_takes : (net : Plan) (plan : IsPlan net) (chain : List Link) (times schedule : List ℕ) → IsRightIn net times (worst_of chain net.links) schedule → Takes net schedule (worst chain)
unfolding worst_of
worst_takes net plan chain times schedule right name link declared =
    let own = (worst_sound net chain link (link_sound net plan name.0 link declared)).0 in
    let duration : slice_get (worst_of chain net.links) name.0 ≡ Some (nat_abs (worst chain link)) = slice_get-map (λ (l : Link). nat_abs (worst chain l)) net.links name.0
    ∙ ap (option_map (λ (l : Link). nat_abs (worst chain l))) declared in
    let lasts = right.lasts name link (nat_abs (worst chain link)) declared duration in
    omega (arith, ints, lasts, own)

-- in it the links of the one chain alone are shortest, those of the other alone longest
worst_apart_in : (chain other : List Link) → sum_of (worst chain) (apart chain other) ≡ sum_of (λ link. link.low) (apart chain other)
worst_apart_in chain other =
    sum_same (worst chain) (λ link. link.low) (apart chain other) (each_also (λ l. (list_any (same_end l) chain ≡ true) × (not (list_any (same_end l) other) ≡ true)) (λ l. worst chain l ≡ l.low) (λ l both. worst_in chain l both.0)
    (apart chain other)
    (kept_all (λ l. list_any (same_end l) chain ≡ true) (λ l. not (list_any (same_end l) other)) chain (each_among chain)))

worst_apart_out : (chain other : List Link) → sum_of (worst chain) (apart other chain) ≡ sum_of (λ link. link.high) (apart other chain)
worst_apart_out chain other =
    sum_same (worst chain) (λ link. link.high) (apart other chain) (each_also (λ l. (list_any (same_end l) other ≡ true) × (not (list_any (same_end l) chain) ≡ true)) (λ l. worst chain l ≡ l.high)
    (λ l both. worst_out chain l (not-true (list_any (same_end l) chain) both.1)) (apart other chain)
    (kept_all (λ l. list_any (same_end l) other ≡ true) (λ l. not (list_any (same_end l) chain)) other (each_among other)))

-- a bound that is kept there holds between the roots
worst_holds : (net : Plan) → IsPlan net → (times schedule : List ℕ) (bound : Bound) (edge : Edge) (reduced : IsReduced net bound edge)
    → IsRightIn net times (worst_of reduced.from_chain net.links) schedule → Keeps schedule bound → HoldsIn schedule edge
worst_holds net plan times schedule bound edge reduced right kept =
    let c = reduced.from_chain in
    let d = reduced.to_chain in
    let f = worst c in
    let takes = worst_takes net plan c times schedule right in
    let begins = along net schedule f bound.from c edge.from takes reduced.from in
    let arrives = along net schedule f bound.to d edge.to takes reduced.to in
    let both = shared f c d (chains_meet net plan bound.from bound.to c d edge.from edge.to reduced.from reduced.to) in
    let shortest = worst_apart_in c d in
    let longest = worst_apart_out c d in
    let weight = reduced.weight in
    omega (arith, ints, begins, arrives, both, shortest, longest, weight, kept)

-- ---- the points of a network
point_number : (net : Plan) (k : ℕ) (d : PointId) → k < length net.points → (get_or (points_of net) k d).0 ≡ k
point_number net k d within =
    let point : PointId = record { 0 = k } in
    ap (λ (p : PointId). p.0) (get_or_from_slice_get (points_of net) k point d (point_at net point within))

-- what holds of each point of the network holds of each in the list
pub each_point : (net : Plan) (P : PointId → Type 0) → ((point : PointId) → IsPoint net point → P point) → AllByRecursion P (points_of net)
each_point net P all =
    recursion_from_All P (points_of net) (λ k d within.
    let size = points_length net in
    let inside : k < length net.points = omega (arith, size, within) in
    let number = point_number net k d inside in
    all (get_or (points_of net) k d) (omega (arith, number, inside)))

of_each_point : (net : Plan) (P : PointId → Type 0) → AllByRecursion P (points_of net) → (point : PointId) → IsPoint net point → P point
of_each_point net P all point within =
    let here : get_or (points_of net) point.0 point ≡ point = get_or_from_slice_get (points_of net) point.0 point point (point_at net point within) in
    let size = points_length net in
    subst P here (All-from_recursion P (points_of net) all point.0 point (omega (arith, size, within)))

-- two functions agree on a list if they agree on each that passes, and only then
map_agree : (f g : PointId → ℕ) (test : PointId → Bool) (points : List PointId) → AllByRecursion (λ p. test p ≡ true → f p ≡ g p) points → map f (filter test points) ≡ map g (filter test points)
map_agree f g test [] all = refl
map_agree f g test (point ∷ points) all = by (test point) refl (map_agree f g test points all.1)
  where
    by : (b : Bool) → test point ≡ b → map f (filter test points) ≡ map g (filter test points) → map f (cond b (point ∷ filter test points) (filter test points)) ≡ map g (cond b (point ∷ filter test points) (filter test points))
    by true passes rest = let here = all.0 passes in λ i. here i ∷ rest i
    by false fails rest = rest

head_same : (a b : ℕ) (xs ys : List ℕ) → a ∷ xs ≡ b ∷ ys → (a ≡ b) × (xs ≡ ys)
head_same a b xs ys same = (cc, cc)

agree_map : (f g : PointId → ℕ) (test : PointId → Bool) (points : List PointId) → map f (filter test points) ≡ map g (filter test points) → AllByRecursion (λ p. test p ≡ true → f p ≡ g p) points
agree_map f g test [] same = tt
agree_map f g test (point ∷ points) same = by (test point) refl same (agree_map f g test points)
  where
    by : (b : Bool) → test point ≡ b → map f (cond b (point ∷ filter test points) (filter test points)) ≡ map g (cond b (point ∷ filter test points) (filter test points))
        → (map f (filter test points) ≡ map g (filter test points) → AllByRecursion (λ p. test p ≡ true → f p ≡ g p) points) → AllByRecursion (λ p. test p ≡ true → f p ≡ g p) (point ∷ points)
    by true passes same rest =
        let (here, tail) = head_same (f point) (g point) (map f (filter test points)) (map g (filter test points)) same in
        (λ _. here, rest tail)
    by false fails same rest = (λ passes. absurd (true≢false (sym passes ∙ fails)), rest same)

-- schedules with the same moments of the executable points
pub none_false : {A : Type 0} (o : Option A) → is_none o ≡ true → is_some o ≡ false
none_false None none = refl
none_false (Some x) none = absurd (true≢false (sym none))

none_true : {A : Type 0} (o : Option A) → is_some o ≡ false → is_none o ≡ true
none_true None none = refl
none_true (Some x) none = absurd (true≢false none)

pub same_moment : (net : Plan) (one other : List ℕ) (point : PointId) → executed_in net one ≡ executed_in net other → IsExecutable net point → moment_in one point ≡ moment_in other point
same_moment net one other point same executable =
    of_each_point net (λ p. is_none (activation net p) ≡ true → moment_in one p ≡ moment_in other p) (agree_map (moment_in one) (moment_in other) (λ p. is_none (activation net p)) (points_of net) same)
    point executable.0 (none_true (activation net point) executable.1)

-- the root of a chain is executable
pub root_executable : (net : Plan) (point : PointId) (chain : List Link) (root : PointId) → IsChain net point chain root → IsExecutable net root
root_executable net _ _ _ (ends point executable) = executable
root_executable net _ _ _ (goes_on name link chain point root declared to rest) = root_executable net link.from chain root rest

-- ---- if a schedule has moments for the links, every point has a root
abbrev pub Rooted : Plan → PointId → Type 0
Rooted net point = (chain : List Link) × (root : PointId) × IsChain net point chain root

climb : (n : ℕ) (net : Plan) → IsPlan net → (times schedule : List ℕ) → IsRightIn net times (longest_of net.links) schedule → (point : PointId) → IsPoint net point → moment_in schedule point < n → Rooted net point
climb zero net plan times schedule right point inside below = absurd (omega (arith, below))
climb (suc n) net plan times schedule right point inside below =
    elim (kind net point inside) [
      | inl executable ↦ ([], point, ends point executable)
      | inr ending ↦
          let name = ending.name in
          let link = ending.link in
          let sound = link_sound net plan name.0 link ending.declared in
          let (duration, lasting, fits) = duration_of net.links (longest_of net.links) name.0 link (longest_situation net plan) ending.declared in
          let least = at_least_1 net link duration sound fits in
          let lasts = right.lasts name link duration ending.declared lasting in
          let at : moment_in schedule link.to ≡ moment_in schedule point = ap (moment_in schedule) ending.ends in
          let (chain, root, is) = climb n net plan times schedule right link.from sound.from_point (omega (arith, lasts, least, at, below)) in
          (link ∷ chain, root, goes_on name link chain point root ending.declared ending.ends is)
    ]

pub roots_of : (net : Plan) (times : List ℕ) → IsPlan net → IsStrongSchedule net times → HasRoots net
roots_of net times plan strong point inside =
    let (schedule, right) = strong.right (longest_of net.links) (longest_situation net plan) in
    climb (suc (moment_in schedule point)) net plan times schedule right point inside (omega arith)

-- ---- a strong schedule keeps the reduced edges
pub reduced_kept : (net : Plan) (times schedule : List ℕ) → IsPlan net → IsStrongSchedule net times → executed_in net schedule ≡ times → KeepsReduced net schedule
reduced_kept net times schedule plan strong has bound edge declared reduced =
    let (its, right) = strong.right (worst_of reduced.from_chain net.links) (worst_situation net reduced.from_chain plan) in
    let kept : Keeps its bound = All-contains (Keeps its) net.bounds bound right.satisfies.keeps declared in
    let holds = worst_holds net plan times its bound edge reduced right kept in
    let same : executed_in net schedule ≡ executed_in net its = has ∙ sym right.has in
    let from = same_moment net schedule its edge.from same (root_executable net bound.from reduced.from_chain edge.from reduced.from) in
    let to = same_moment net schedule its edge.to same (root_executable net bound.to reduced.to_chain edge.to reduced.to) in
    omega (arith, ints, holds, from, to)

pub law_reduced_edges_hold : ReducedEdgesHold
law_reduced_edges_hold net times plan strong =
    (roots_of net times plan strong, λ schedule has. reduced_kept net times schedule plan strong has)

-- ---- the schedule of a situation, made of the moments of the roots and of the durations along the chains
pub place_of : (net : Plan) → IsPlan net → (name : LinkId) (link : Link) → IsLinkOf net name link → position_or_len (λ (l : Link). l.to.0 == link.to.0) net.links ≡ name.0
place_of net plan name link declared = position_or_len_is (λ (l : Link). l.to.0 == link.to.0) net.links name.0 link (let inside = within in omega arith) before (λ inside. here)
  where
    within : name.0 < length net.links
    within = slice_get_within net.links name.0 link declared

    is_link : get_or net.links name.0 link ≡ link
    is_link = get_or_from_slice_get net.links name.0 link link declared

    here : (get_or net.links name.0 link).to.0 == link.to.0 ≡ true
    here = rw is_link (eq-eqb link.to.0 link.to.0 refl)

    before : (k : ℕ) → k < name.0 → (get_or net.links k link).to.0 == link.to.0 ≡ false
    before k earlier =
        let other : (get_or net.links k link).to.0 ≢ (get_or net.links name.0 link).to.0 = plan.links_apart k name.0 link earlier within in
        let other' : (get_or net.links k link).to.0 ≢ link.to.0 = rw is_link at other in
        grind (arith, nat_tests)

-- the duration of a link in a situation
lasting_in : Plan → List ℕ → Link → ℕ
lasting_in net situation link = slice_index situation (position_or_len (λ (l : Link). l.to.0 == link.to.0) net.links)

lasting_is : (net : Plan) → IsPlan net → (situation : List ℕ) (name : LinkId) (link : Link) (duration : ℕ) → IsLinkOf net name link → slice_get situation name.0 ≡ Some duration → lasting_in net situation link ≡ duration
unfolding lasting_in
lasting_is net plan situation name link duration declared lasts =
    ap (slice_index situation) (place_of net plan name link declared) ∙ get_or_from_slice_get situation name.0 duration 0 lasts

total_in : Plan → List ℕ → List Link → ℕ
total_in net situation [] = 0
total_in net situation (link ∷ chain) = lasting_in net situation link + total_in net situation chain

total_is : (net : Plan) (situation : List ℕ) (chain : List Link) → pos (total_in net situation chain) ≡ sum_of (λ link. pos (lasting_in net situation link)) chain
unfolding total_in
total_is net situation [] = refl
total_is net situation (link ∷ chain) = let tail = total_is net situation chain in omega (arith, ints, tail)

-- in a situation each link of the network takes from its shortest duration to its longest
lasting_fits : (net : Plan) → IsPlan net → (situation : List ℕ) → IsSituation net situation → (link : Link) → IsNetLink net link → IsDuration link (lasting_in net situation link)
lasting_fits net plan situation is_situation link its =
    let (duration, lasts, fits) = duration_of net.links situation its.0.0 link is_situation its.1 in
    subst (IsDuration link) (sym (lasting_is net plan situation its.0 link duration its.1 lasts)) fits

module _ (net : Plan) (plan : IsPlan net) (roots : HasRoots net) (moments situation : List ℕ) where
  built_by : (point : PointId) → (point.0 < length net.points) ⊎ (length net.points ≤ point.0) → ℕ
  built_by point (inl inside) = let (chain, root, is) = roots point inside in moment_in moments root + total_in net situation chain
  built_by point (inr outside) = 0

  built : PointId → ℕ
  built point = built_by point (cases_lt point.0 (length net.points))

  built_is : (point : PointId) (chain : List Link) (root : PointId) → IsPoint net point → IsChain net point chain root → built point ≡ moment_in moments root + total_in net situation chain
  unfolding built built_by
  built_is point chain root inside is = by (cases_lt point.0 (length net.points))
    where
      by : (place : (point.0 < length net.points) ⊎ (length net.points ≤ point.0)) → built_by point place ≡ moment_in moments root + total_in net situation chain
      by (inr outside) = absurd (omega (arith, inside, outside))
      by (inl within) =
          let (chain', root', is') = roots point within in
          let (same_chain, same_root) = one_chain net plan point chain' chain root' root is' is in
          λ i. moment_in moments (same_root i) + total_in net situation (same_chain i)

  pub schedule : List ℕ
  schedule = map built (points_of net)

  pub schedule_length : length schedule ≡ length net.points
  unfolding schedule
  schedule_length = length-map (points_of net) built ∙ points_length net

  moment_built : (point : PointId) → IsPoint net point → moment_in schedule point ≡ built point
  unfolding schedule
  moment_built point inside =
      let here : get_or (points_of net) point.0 point ≡ point = get_or_from_slice_get (points_of net) point.0 point point (point_at net point inside) in
      let size = points_length net in
      get_or-map built (points_of net) point.0 point 0 (omega (arith, size, inside)) ∙ ap built here

  moment_is : (point : PointId) (chain : List Link) (root : PointId) → IsPoint net point → IsChain net point chain root → moment_in schedule point ≡ moment_in moments root + total_in net situation chain
  moment_is point chain root inside is = moment_built point inside ∙ built_is point chain root inside is

  pub schedule_lasts : (name : LinkId) (link : Link) (duration : ℕ) → IsLinkOf net name link → slice_get situation name.0 ≡ Some duration → moment_in schedule link.to ≡ moment_in schedule link.from + duration
  unfolding total_in
  schedule_lasts name link duration declared lasts =
      let sound = link_sound net plan name.0 link declared in
      let (chain, root, is) = roots link.from sound.from_point in
      let begins = moment_is link.from chain root sound.from_point is in
      let arrives = moment_is link.to (link ∷ chain) root sound.to_point (goes_on name link chain link.to root declared refl is) in
      let its = lasting_is net plan situation name link duration declared lasts in
      omega (arith, begins, arrives, its)

  pub schedule_has : executed_in net schedule ≡ executed_in net moments
  unfolding total_in
  schedule_has =
      map_agree (moment_in schedule) (moment_in moments) (λ p. is_none (activation net p)) (points_of net)
      (each_point net (λ p. is_none (activation net p) ≡ true → moment_in schedule p ≡ moment_in moments p) (λ point inside passes.
      let executable : IsExecutable net point = (inside, none_false (activation net point) passes) in
      let here = moment_is point [] point inside (ends point executable) in
      omega (arith, here)))

  module _ (is_situation : IsSituation net situation) (keeps : KeepsReduced net moments) where
    bound_keeps : (bound : Bound) → IsBound net bound → Contains net.bounds bound → Keeps schedule bound
    bound_keeps bound sound declared =
        let (c, r, from) = roots bound.from sound.from_point in
        let (d, s, to) = roots bound.to sound.to_point in
        let edge : Edge = record { from = r; to = s; label = None; weight = reduced_weight bound.most c d } in
        let f : Link → ℤ = λ link. pos (lasting_in net situation link) in
        let holds = keeps bound edge declared (record { from_chain = c; to_chain = d; from = from; to = to; ordinary = refl; weight = refl }) in
        let begins = moment_is bound.from c r sound.from_point from in
        let arrives = moment_is bound.to d s sound.to_point to in
        let first_total = total_is net situation c in
        let arrived = total_is net situation d in
        let both = shared f c d (chains_meet net plan bound.from bound.to c d r s from to) in
        let fits = lasting_fits net plan situation is_situation in
        let longest : sum_of f (apart d c) ≤ℤ sum_of (λ link. link.high) (apart d c) = sum_most f (λ link. link.high) (apart d c)
        (each_also (λ l. IsNetLink net l × (not (list_any (same_end l) c) ≡ true)) (λ l. f l ≤ℤ l.high) (λ l its. (fits l its.0).1) (apart d c)
        (kept_all (IsNetLink net) (λ l. not (list_any (same_end l) c)) d (chain_links net bound.to d s to))) in
        let shortest : sum_of (λ link. link.low) (apart c d) ≤ℤ sum_of f (apart c d) = sum_most (λ link. link.low) f (apart c d)
        (each_also (λ l. IsNetLink net l × (not (list_any (same_end l) d) ≡ true)) (λ l. l.low ≤ℤ f l) (λ l its. (fits l its.0).0) (apart c d)
        (kept_all (IsNetLink net) (λ l. not (list_any (same_end l) d)) c (chain_links net bound.from c r from))) in
        omega (arith, ints, holds, begins, arrives, first_total, arrived, both, longest, shortest)

    pub schedule_satisfies : Satisfies net schedule
    schedule_satisfies =
        record {
          complete = schedule_length;
          keeps = λ k d within. bound_keeps (get_or net.bounds k d) (plan.bounds_sound k d within) (Contains-get_or net.bounds k d within);
        }

    pub schedule_right : IsRightIn net (executed_in net moments) situation schedule
    schedule_right = record { has = schedule_has; lasts = schedule_lasts; satisfies = schedule_satisfies }

pub law_reduced_edges_suffice : ReducedEdgesSuffice
law_reduced_edges_suffice net moments plan roots keeps =
    record { right = λ situation is_situation. (schedule net plan roots moments situation, schedule_right net plan roots moments situation is_situation keeps) }

-- ---- a strong schedule is played by a strategy
built_dynamic : (net : Plan) (plan : IsPlan net) (roots : HasRoots net) (moments : List ℕ) → IsDynamic net (schedule net plan roots moments)
built_dynamic net plan roots moments =
    record {
      complete = λ situation is_situation. schedule_length net plan roots moments situation;
      lasting = λ situation name link duration is_situation. schedule_lasts net plan roots moments situation name link duration;
      seen_alone = λ first second t is_first is_second same point executable.
          let equal = same_moment net (schedule net plan roots moments first) (schedule net plan roots moments second) point (schedule_has net plan roots moments first ∙ sym (schedule_has net plan roots moments second)) executable in
          (λ early. equal, λ early. equal);
    }

pub instant_is_controllable : DynamicStrategiesAreTrees → (net : Plan) → IsInstant net → IsStronglyControllable net → IsControllable net
instant_is_controllable trees net instant strongly =
    let (times, strong) = strongly in
    let plan = instant.sound in
    let roots = roots_of net times plan strong in
    let (moments, right) = strong.right (longest_of net.links) (longest_situation net plan) in
    let keeps = reduced_kept net times moments plan strong right.has in
    let (strategy, played) = trees net (schedule net plan roots moments) instant (built_dynamic net plan roots moments) in
    (strategy, λ situation is_situation. (schedule net plan roots moments situation, played situation is_situation, schedule_satisfies net plan roots moments situation is_situation keeps))
