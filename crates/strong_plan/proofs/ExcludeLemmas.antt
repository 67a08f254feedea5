-- What excludes strong schedules, and which is the least.
use Rattle.std.proofs.Common.{◌≡◌, ◌≢◌, ℕ, ◌+◌, ◌≤◌, Bool, true, false, cond, List, [], ◌∷◌, map, length, is_none, refl, ap, subst, arith}
use Rattle.std.specs.List.{AllByRecursion, AllZip, filter}
use Rattle.std.proofs.lemmas.Int.{ints}
use Rattle.net_model.specs.Network.{Plan, IsPlan, activation}
use Rattle.net_model.specs.declared.ids.PointId.{PointId}
use Rattle.net_model.specs.declared.part.Edge.{Edge}
use Rattle.net_model.specs.declared.part.Link.{Link}
use Rattle.strategy_model.specs.Situations.{moment_in}
use Rattle.strategy_model.specs.Plays.{points_of}
use Rattle.strategy_model.specs.Edges.{HoldsIn}
use Rattle.strategy_model.proofs.WalkLemmas.{loops_exclude}
use Rattle.strategy_model.proofs.LongestLemmas.{longest_of, longest_situation}
use Rattle.strategy_model.proofs.PlayLemmas.{link_sound}
use Rattle.strategy_model.proofs.CompareLemmas.{duration_of, at_least_1}
use Rattle.strong_plan.specs.Strong.{executed_in, IsRightIn}
use Rattle.strong_plan.specs.Chains.{IsAllowed, IsLinkWalk}
use Rattle.strong_plan.specs.Laws.{KeepsReduced, LoopsExcludeStrong, RingsExcludeStrong, LeastKeptIsLeast}
use Rattle.strong_plan.proofs.StrongLemmas.{reduced_kept, law_reduced_edges_suffice, each_point, none_false}

allowed_holds : (net : Plan) (schedule : List ℕ) → KeepsReduced net schedule → (edge : Edge) → IsAllowed net edge → HoldsIn schedule edge
allowed_holds net schedule keeps edge allowed =
    let holds = keeps allowed.bound allowed.reduced allowed.declared allowed.is in
    let from : moment_in schedule edge.from ≡ moment_in schedule allowed.reduced.from = ap (moment_in schedule) allowed.from in
    let to : moment_in schedule edge.to ≡ moment_in schedule allowed.reduced.to = ap (moment_in schedule) allowed.to in
    let least = allowed.at_least in
    omega (arith, ints, holds, from, to, least)

all_hold : (net : Plan) (schedule : List ℕ) → KeepsReduced net schedule → (edges : List Edge) → AllByRecursion (IsAllowed net) edges → AllByRecursion (HoldsIn schedule) edges
all_hold net schedule keeps [] all = tt
all_hold net schedule keeps (edge ∷ edges) all = (allowed_holds net schedule keeps edge all.0, all_hold net schedule keeps edges all.1)

pub law_loops_exclude_strong : LoopsExcludeStrong
law_loops_exclude_strong net edges plan all loop strongly =
    let (times, strong) = strongly in
    let (schedule, right) = strong.right (longest_of net.links) (longest_situation net plan) in
    loops_exclude schedule edges loop (all_hold net schedule (reduced_kept net times schedule plan strong right.has) edges all)

-- along links a schedule goes on
later : (net : Plan) → IsPlan net → (times schedule : List ℕ) → IsRightIn net times (longest_of net.links) schedule → (from to : PointId) (links : List Link) → IsLinkWalk net from links to
    → moment_in schedule from + length links ≤ moment_in schedule to
later net plan times schedule right from to [] walk =
    let same : moment_in schedule from ≡ moment_in schedule to = ap (moment_in schedule) walk in
    omega (arith, same)
later net plan times schedule right from to (link ∷ links) walk =
    let ((name, declared), begins, goes) = walk in
    let (duration, lasting, fits) = duration_of net.links (longest_of net.links) name.0 link (longest_situation net plan) declared in
    let least = at_least_1 net link duration (link_sound net plan name.0 link declared) fits in
    let lasts = right.lasts name link duration declared lasting in
    let at : moment_in schedule link.from ≡ moment_in schedule from = ap (moment_in schedule) begins in
    let rest = later net plan times schedule right link.to to links goes in
    omega (arith, lasts, least, at, rest)

nonempty : (links : List Link) → links ≢ [] → 1 ≤ length links
nonempty [] some = absurd (some refl)
nonempty (link ∷ links) some = omega arith

pub law_rings_exclude_strong : RingsExcludeStrong
law_rings_exclude_strong net links plan ring strongly =
    let (times, strong) = strongly in
    let (schedule, right) = strong.right (longest_of net.links) (longest_situation net plan) in
    let (point, walk, some) = ring in
    let round = later net plan times schedule right point point links walk in
    let long = nonempty links some in
    omega (arith, round, long)

-- compared on the points that pass
map_below : (f g : PointId → ℕ) (test : PointId → Bool) (points : List PointId) → AllByRecursion (λ p. test p ≡ true → f p ≤ g p) points → AllZip (λ sooner later. sooner ≤ later) (map f (filter test points)) (map g (filter test points))
map_below f g test [] all = tt
map_below f g test (point ∷ points) all = by (test point) refl (map_below f g test points all.1)
  where
    by : (b : Bool) → test point ≡ b → AllZip (λ sooner later. sooner ≤ later) (map f (filter test points)) (map g (filter test points))
        → AllZip (λ sooner later. sooner ≤ later) (map f (cond b (point ∷ filter test points) (filter test points))) (map g (cond b (point ∷ filter test points) (filter test points)))
    by true passes rest = (all.0 passes, rest)
    by false fails rest = rest

pub law_least_kept_is_least : LeastKeptIsLeast
law_least_kept_is_least net schedule plan roots keeps least =
    record {
      strong = law_reduced_edges_suffice net schedule plan roots keeps;
      least = λ other strong.
          let (its, right) = strong.right (longest_of net.links) (longest_situation net plan) in
          let kept = reduced_kept net other its plan strong right.has in
          subst (λ (times : List ℕ). AllZip (λ sooner later. sooner ≤ later) (executed_in net schedule) times) right.has
          (map_below (moment_in schedule) (moment_in its) (λ p. is_none (activation net p)) (points_of net)
          (each_point net (λ p. is_none (activation net p) ≡ true → moment_in schedule p ≤ moment_in its p) (λ point inside passes. least its kept point (inside, none_false (activation net point) passes))));
    }
