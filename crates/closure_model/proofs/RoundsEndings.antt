-- Rounds end; a cycle of derivable edges is one of the closure, so if the closure has an order the rounds close with it.
use Rattle.std.proofs.Common.{◌≡◌, ◌≢◌, ℕ, zero, suc, ◌<◌, ℤ, pos, ◌≤ℤ◌, ◌<ℤ◌, true, List, [], ◌∷◌, Option, Some, None, refl, ap, sym, subst, ◌∙◌, arith}
use Rattle.std.specs.Prelude.{MatchOption}
use Rattle.std.specs.List.{All}
use Rattle.closure_model.specs.Keys.{Shape}
use Rattle.std.proofs.lemmas.Int.{ints}
use Rattle.net_model.specs.Network.{Plan, IsPlan}
use Rattle.net_model.specs.declared.ids.PointId.{PointId}
use Rattle.closure_model.specs.Closure.{IsClosure, HoldsDerivable}
use Rattle.closure_model.specs.Derivable.{IsDerivableFor, IsLeastDerivable}
use Rattle.closure_model.specs.Derivations.{Support, StandsOn, base_support}
use Rattle.closure_model.specs.Keys.{ordinary_key, edge_of}
use Rattle.closure_model.specs.Orders.{goes, lowest_unplaced, placed_points, cycle_from}
use Rattle.closure_model.specs.ReferenceRound.{round_made, after_round}
use Rattle.closure_model.specs.ReferenceRounds.{Ending, closed, looped, RoundsEnd, in_cycle, in_order, after_one}
use Rattle.closure_model.specs.Tables.{Graph, weight_of}
use Rattle.closure_model.specs.declared.rows.Made.{Made}
use Rattle.closure_model.proofs.LawProofs.{law_standing_is_derivable, law_closure_is_one, base_stands_law}
use Rattle.closure_model.proofs.OrderLemmas.{law_cycles_are_met, law_orders_exclude_cycles}
use Rattle.closure_model.proofs.RoundsLaw.{law_rounds_keep_standing, law_rounds_stand, law_rounds_that_close}
use Rattle.closure_model.proofs.RoundClosure.{standing_fits}
use Rattle.closure_model.proofs.WeightMeasure.{measure, measure_decreases_in_round}
use Rattle.closure_model.specs.ClosureLaws.{CyclesAreInClosures}
use Rattle.closure_model.specs.RoundLaws.{HasEnding, RoundsAlwaysEnd, ClosuresAreOfRounds, RoundsCloseWith}
use Rattle.closure_model.proofs.RowsNeedRows.{gone_edge, goes_from}

-- ---- rounds end
end_by_measure : (net : Plan) → IsPlan net → (most : ℕ) (start : Support) → StandsOn net start → measure net start.table < most → HasEnding net start
end_by_measure net plan zero start stands less = absurd (omega (arith, less))
end_by_measure net plan (suc most) start stands less = by (λ there descends. end_by_measure net plan most (after_round net start) there (omega (arith, descends, less))) (lowest_unplaced start.table) refl (round_made net start.table) refl
  where
    by : (StandsOn net (after_round net start) → measure net (after_round net start).table < measure net start.table → HasEnding net (after_round net start)) → (o : Option PointId) → lowest_unplaced start.table ≡ o → (made : List Made)
        → round_made net start.table ≡ made → HasEnding net start
    by later (Some first) left made is = record { rounds = 0; after = start; ending = looped (cycle_from start.table first); ends = in_cycle start first left }
    by later None left [] is = record { rounds = 1; after = start; ending = closed (placed_points start.table); ends = in_order start left is }
    by later None left (one ∷ made) is =
        let some : round_made net start.table ≢ [] = (λ none. (let both : one ∷ made ≡ [] = sym is ∙ none in absurd cc)) in
        let rest = later (law_rounds_keep_standing net start plan stands).0 (measure_decreases_in_round net start plan stands some) in
        record { rounds = suc rest.rounds; after = rest.after; ending = rest.ending; ends = after_one start rest.after rest.rounds rest.ending left some rest.ends }

pub law_rounds_always_end : RoundsAlwaysEnd
law_rounds_always_end net start plan stands = end_by_measure net plan (suc (measure net start.table)) start stands (omega arith)

-- ---- what an ending says
record IsLooped (table : Graph) (cycle : List PointId) : Type 0 where
  first : PointId
  left : lowest_unplaced table ≡ Some first
  is : cycle ≡ cycle_from table first

looped_by : (net : Plan) (start after : Support) (rounds : ℕ) (ending : Ending) (cycle : List PointId) → ending ≡ looped cycle → RoundsEnd net start rounds after ending → IsLooped after.table cycle
looped_by net start after rounds ending cycle is (in_cycle _ first left) = record { first = first; left = left; is = cc }
looped_by net start after rounds ending cycle is (in_order _ left none) = absurd cc
looped_by net start after rounds ending cycle is (after_one _ _ more _ left some rest) = looped_by net (after_round net start) after more ending cycle is rest

closed_by : (net : Plan) (start after : Support) (rounds : ℕ) (ending : Ending) (order : List PointId) → ending ≡ closed order → RoundsEnd net start rounds after ending → order ≡ placed_points after.table
closed_by net start after rounds ending order is (in_cycle _ first left) = absurd cc
closed_by net start after rounds ending order is (in_order _ left none) = cc
closed_by net start after rounds ending order is (after_one _ _ more _ left some rest) = closed_by net (after_round net start) after more ending order is rest

-- ---- a cycle of derivable edges is one of the closure
goes_in_closure : (net : Plan) (table closure : Graph) → HoldsDerivable net table → IsClosure net closure → (from : PointId) (to : PointId) → goes table from to ≡ true → goes closure from to ≡ true
goes_in_closure net table closure derivable is from to goes_there =
    let (weight, has, negative) = gone_edge table from to goes_there in
    let derived : IsDerivableFor net (ordinary_key from to) weight = derivable (edge_of (ordinary_key from to) weight) has in
    by weight negative derived (weight_of closure (ordinary_key from to)) refl (is.weights (ordinary_key from to))
  where
    below : (u w : ℤ) → u ≤ℤ w → w <ℤ pos 0 → u <ℤ pos 0
    below u w less negative = grind (arith, ints)

    by : (weight : ℤ) → weight <ℤ pos 0 → IsDerivableFor net (ordinary_key from to) weight → (o : Option ℤ) → weight_of closure (ordinary_key from to) ≡ o
        → MatchOption o ((w : ℤ) → ¬ IsDerivableFor net (ordinary_key from to) w) (IsLeastDerivable net (ordinary_key from to)) → goes closure from to ≡ true
    by weight negative derived None none never = absurd (never weight derived)
    by weight negative derived (Some least) some is_least = goes_from closure (record { from = from; to = to; label = None; weight = least }) some refl (below least weight (is_least.least weight derived) negative)

pub law_cycles_are_in_closures : CyclesAreInClosures
law_cycles_are_in_closures net table closure cycle fits derivable is met = record {
  some = met.some;
  points = subst (λ (s : Shape). All (λ (point : PointId). point.0 < s.points) cycle) (fits ∙ sym is.for_network) met.points;
  steps = λ i d inside. goes_in_closure net table closure derivable is _ _ (met.steps i d inside);
  closes = λ d. goes_in_closure net table closure derivable is _ _ (met.closes d);
}

pub law_closures_are_of_rounds : ClosuresAreOfRounds
law_closures_are_of_rounds net table order plan is ordered =
    let stands : StandsOn net (base_support net) = base_stands_law net in
    let done = law_rounds_always_end net (base_support net) plan stands in
    by done stands done.ending refl
  where
    by : (done : HasEnding net (base_support net)) → StandsOn net (base_support net) → (ending : Ending) → done.ending ≡ ending → RoundsCloseWith net table (placed_points table)
    by done stands (closed points) so =
        let ends : RoundsEnd net (base_support net) done.rounds done.after (closed points) = subst (RoundsEnd net (base_support net) done.rounds done.after) so done.ends in
        let same : done.after.table ≡ table = law_closure_is_one net done.after.table table (law_rounds_that_close net (base_support net) done.after done.rounds points plan stands ends) is in
        let placed : points ≡ placed_points done.after.table = closed_by net (base_support net) done.after done.rounds (closed points) points refl ends in
        record {
          rounds = done.rounds;
          after = done.after;
          ends = subst (λ (ps : List PointId). RoundsEnd net (base_support net) done.rounds done.after (closed ps)) (placed ∙ ap placed_points same) ends;
          table_is = same;
        }
    by done stands (looped cycle) so =
        let looped_is = looped_by net (base_support net) done.after done.rounds done.ending cycle so done.ends in
        let met = law_cycles_are_met done.after.table looped_is.first looped_is.left in
        let there = (law_rounds_stand net (base_support net) done.after done.rounds done.ending plan stands done.ends).0 in
        let derivable = law_standing_is_derivable net done.after there in
        let fits = standing_fits net plan done.after there in
        absurd (law_orders_exclude_cycles table order (cycle_from done.after.table looped_is.first) ordered (law_cycles_are_in_closures net done.after.table table (cycle_from done.after.table looped_is.first) fits derivable is met))
