-- The rounds of a network that is controllable close, and those after them change nothing.
use Rattle.std.proofs.Common.{◌≡◌, ℕ, zero, suc, ◌≤◌, List, [], length, Some, None, refl, ap, sym, subst, ◌∙◌, arith}
use Rattle.std.specs.Prelude.{fold}
use Rattle.net_model.specs.Network.{Plan}
use Rattle.net_model.specs.declared.ids.PointId.{PointId}
use Rattle.closure_model.specs.Closure.{IsClosure}
use Rattle.closure_model.specs.Derivations.{Support, StandsOn, base_support}
use Rattle.closure_model.specs.Orders.{IsOrder, placed_points, lowest_unplaced, cycle_from}
use Rattle.closure_model.specs.ReferenceRound.{with_one, round_made, after_round}
use Rattle.closure_model.specs.ReferenceRounds.{Ending, closed, looped, RoundsEnd, in_cycle, in_order, after_one}
use Rattle.closure_model.specs.RoundLaws.{HasEnding}
use Rattle.closure_model.specs.Tables.{Graph}
use Rattle.closure_model.specs.declared.rows.Made.{Made}
use Rattle.closure_model.proofs.LawProofs.{base_stands_law}
use Rattle.closure_model.proofs.FewRounds.{law_rounds_are_few}
use Rattle.closure_model.proofs.OrderLemmas.{law_cycles_are_met, placed_are_an_order}
use Rattle.closure_model.proofs.RoundsEndings.{law_rounds_always_end}
use Rattle.closure_model.proofs.RoundsLaw.{law_rounds_stand, law_rounds_that_close}
use Rattle.strategy_model.specs.Control.{IsControllable}
use Rattle.strategy_model.specs.Plays.{IsInstant}
use Rattle.closure_laws.proofs.ForwardLemmas.{law_closures_are_forward_tables}
use Rattle.closure_laws.proofs.OrderLemmas.{law_standing_cycles_exclude}
use Rattle.canonical_closure.specs.CanonicalClosure.{support_after, canonical_closure, ControllableHaveCanonicalClosures}

-- ---- rounds after the last one
-- a round in which nothing improves changes nothing
nothing_made : (net : Plan) (support : Support) → round_made net support.table ≡ [] → after_round net support ≡ support
nothing_made net support none = ap (λ (made : List Made). fold (with_one support.nodes) support made) none

stays : (net : Plan) (support : Support) → round_made net support.table ≡ [] → (more : ℕ) → support_after more net support ≡ support
unfolding support_after
stays net support none zero = refl
stays net support none (suc more) = ap (support_after more net) (nothing_made net support none) ∙ stays net support none more

comes_to : (net : Plan) (start after : Support) (rounds : ℕ) (ending : Ending) (order : List PointId) → ending ≡ closed order → RoundsEnd net start rounds after ending → (most : ℕ) → rounds ≤ most
    → support_after most net start ≡ after
unfolding support_after
comes_to net start after rounds ending order is (in_cycle _ first left) most enough = absurd cc
comes_to net start after rounds ending order is (in_order _ left none) most enough = stays net start none most
comes_to net start after rounds ending order is (after_one _ _ more _ left some rest) zero enough = absurd (omega (arith, enough))
comes_to net start after rounds ending order is (after_one _ _ more _ left some rest) (suc most) enough = comes_to net (after_round net start) after more ending order is rest most (omega (arith, enough))

-- ---- what an ending says
closed_is_placed : (net : Plan) (start after : Support) (rounds : ℕ) (ending : Ending) (order : List PointId) → ending ≡ closed order → RoundsEnd net start rounds after ending → lowest_unplaced after.table ≡ None
closed_is_placed net start after rounds ending order is (in_cycle _ first left) = absurd cc
closed_is_placed net start after rounds ending order is (in_order _ left none) = left
closed_is_placed net start after rounds ending order is (after_one _ _ more _ left some rest) = closed_is_placed net (after_round net start) after more ending order is rest

looped_is_unplaced : (net : Plan) (start after : Support) (rounds : ℕ) (ending : Ending) (cycle : List PointId) → ending ≡ looped cycle → RoundsEnd net start rounds after ending
    → (first : PointId) × (lowest_unplaced after.table ≡ Some first)
looped_is_unplaced net start after rounds ending cycle is (in_cycle _ first left) = (first, left)
looped_is_unplaced net start after rounds ending cycle is (in_order _ left none) = absurd cc
looped_is_unplaced net start after rounds ending cycle is (after_one _ _ more _ left some rest) = looped_is_unplaced net (after_round net start) after more ending cycle is rest

-- ---- the closure
closure_from : (net : Plan) → IsInstant net → IsControllable net → (table : Graph) → table ≡ (support_after (suc (length net.points)) net (base_support net)).table
    → IsClosure net table × IsOrder table (placed_points table)
closure_from net instant controllable table is =
    let stands : StandsOn net (base_support net) = base_stands_law net in
    let done = law_rounds_always_end net (base_support net) instant.sound stands in
    by done stands done.ending refl
  where
    Both : Graph → Type 0
    Both graph = IsClosure net graph × IsOrder graph (placed_points graph)

    by : (done : HasEnding net (base_support net)) → StandsOn net (base_support net) → (ending : Ending) → done.ending ≡ ending → Both table
    by done stands (closed order) so =
        let ends : RoundsEnd net (base_support net) done.rounds done.after (closed order) = subst (RoundsEnd net (base_support net) done.rounds done.after) so done.ends in
        let few = law_rounds_are_few net (base_support net) done.after done.rounds (closed order) instant.sound stands ends in
        let there : support_after (suc (length net.points)) net (base_support net) ≡ done.after = comes_to net (base_support net) done.after done.rounds (closed order) order refl ends (suc (length net.points)) few in
        let same : done.after.table ≡ table = sym (is ∙ ap (λ (s : Support). s.table) there) in
        let closure = law_rounds_that_close net (base_support net) done.after done.rounds order instant.sound stands ends in
        let placed = placed_are_an_order done.after.table (closed_is_placed net (base_support net) done.after done.rounds (closed order) order refl ends) in
        subst Both same (closure, placed)
    by done stands (looped cycle) so =
        let (first, left) = looped_is_unplaced net (base_support net) done.after done.rounds done.ending cycle so done.ends in
        let there = (law_rounds_stand net (base_support net) done.after done.rounds done.ending instant.sound stands done.ends).0 in
        absurd (law_standing_cycles_exclude net done.after (cycle_from done.after.table first) instant there (law_cycles_are_met done.after.table first left) controllable)

pub law_controllable_have_canonical_closures : ControllableHaveCanonicalClosures
unfolding canonical_closure
law_controllable_have_canonical_closures net instant controllable =
    let (closure, ordered) = closure_from net instant controllable (canonical_closure net) refl in
    let forward = law_closures_are_forward_tables net (canonical_closure net) closure in
    record { closure = closure; dispatched = record { instant = instant; forward = forward; ordered = ordered } }
