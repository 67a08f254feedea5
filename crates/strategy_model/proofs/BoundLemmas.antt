-- What schedules and strategies that satisfy a network say of its bounds.
use Rattle.std.proofs.Common.{◌≡◌, ℕ, List, [], ◌∷◌, Some, get_or, ap, subst, arith}
use Rattle.std.specs.List.{AllByRecursion, slice_get}
use Rattle.std.proofs.lemmas.Int.{ints}
use Rattle.std.proofs.lemmas.Option.{slice_get_within, get_or_from_slice_get}
use Rattle.net_model.specs.Network.{Plan, IsPlan}
use Rattle.net_model.specs.LooseRules.{IsLooseBound}
use Rattle.net_model.specs.declared.part.Bound.{Bound}
use Rattle.net_model.specs.declared.part.Edge.{Edge}
use Rattle.strategy_model.specs.Situations.{Satisfies, Keeps, moment_in}
use Rattle.strategy_model.specs.Control.{IsControllable}
use Rattle.strategy_model.specs.Edges.{HoldsIn}
use Rattle.strategy_model.proofs.LongestLemmas.{longest_of, longest_situation}

-- a schedule that satisfies the network keeps each of its bounds
pub bound_kept : (net : Plan) (schedule : List ℕ) (place : ℕ) (bound : Bound) → Satisfies net schedule → slice_get net.bounds place ≡ Some bound → Keeps schedule bound
bound_kept net schedule place bound satisfies declared =
    let here : get_or net.bounds place bound ≡ bound = get_or_from_slice_get net.bounds place bound bound declared in
    subst (Keeps schedule) here (satisfies.keeps place bound (slice_get_within net.bounds place bound declared))

-- and so the edge of each
pub edge_of_bound_holds : (net : Plan) (schedule : List ℕ) → Satisfies net schedule → (edge : Edge) → IsLooseBound net edge → HoldsIn schedule edge
edge_of_bound_holds net schedule satisfies edge made =
    let kept = bound_kept net schedule made.place made.bound satisfies made.declared in
    let from : moment_in schedule edge.from ≡ moment_in schedule made.bound.from = ap (moment_in schedule) made.from in
    let to : moment_in schedule edge.to ≡ moment_in schedule made.bound.to = ap (moment_in schedule) made.to in
    let looser = made.looser in
    omega (arith, ints, kept, from, to, looser)

pub edges_of_bounds_hold : (net : Plan) (schedule : List ℕ) → Satisfies net schedule → (edges : List Edge) → AllByRecursion (IsLooseBound net) edges → AllByRecursion (HoldsIn schedule) edges
edges_of_bounds_hold net schedule satisfies [] made = tt
edges_of_bounds_hold net schedule satisfies (edge ∷ edges) made =
    (edge_of_bound_holds net schedule satisfies edge made.0, edges_of_bounds_hold net schedule satisfies edges made.1)

-- a network for which no schedule satisfies every bound is not controllable
pub controllable_has_schedule : (net : Plan) → IsPlan net → IsControllable net → (schedule : List ℕ) × Satisfies net schedule
controllable_has_schedule net plan controllable =
    let play = controllable.1 (longest_of net.links) (longest_situation net plan) in
    (play.0, play.2)
