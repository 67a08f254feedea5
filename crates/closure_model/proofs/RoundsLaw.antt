-- Rounds end in one way; what they make stands on the network; and if they close the table is the closure.
use Rattle.std.proofs.Common.{◌≡◌, ℕ, suc, List, map, refl, ap, sym, subst, ◌∙◌}
use Rattle.std.proofs.lemmas.Option.{same_Some}
use Rattle.net_model.specs.Network.{Plan, IsPlan}
use Rattle.net_model.specs.declared.ids.PointId.{PointId}
use Rattle.closure_model.specs.Closure.{IsClosure}
use Rattle.closure_model.specs.Derivations.{Support, StandsOn}
use Rattle.closure_model.specs.Orders.{cycle_from}
use Rattle.closure_model.specs.ReferenceRow.{with_made}
use Rattle.closure_model.specs.ReferenceRound.{round_made, after_round}
use Rattle.closure_model.specs.ReferenceRounds.{Ending, closed, looped, RoundsEnd, in_cycle, in_order, after_one, RoundsEndInOneWay, RoundsKeepStanding, RoundsThatCloseGiveTheClosure, RoundsStand}
use Rattle.closure_model.specs.Tables.{Graph, IsAtMost}
use Rattle.closure_model.specs.declared.rows.Made.{Made}
use Rattle.closure_model.proofs.RoundClosure.{standing_fits, standing_sound, round_gives_closure}
use Rattle.closure_model.proofs.RoundLaw.{StandsAfter, all_stand, goes_on_itself, round_is_grounded}
use Rattle.closure_model.proofs.TableLemmas.{IsAtMost-itself, IsAtMost-trans, all_lowered-at_most}

pub round_stands_after : (net : Plan) (support : Support) → IsPlan net → StandsOn net support → StandsAfter net support.nodes (after_round net support) (with_made support.table (round_made net support.table))
round_stands_after net support plan stands =
    all_stand net support.table support.nodes support support.table (round_made net support.table) stands.table
    (record { stands = stands; on = goes_on_itself support.nodes; table_is = refl })
    (round_is_grounded net support.table plan (standing_fits net plan support stands) (standing_sound net plan support stands))

pub law_rounds_keep_standing : RoundsKeepStanding
law_rounds_keep_standing net support plan stands =
    let after = round_stands_after net support plan stands in
    (after.stands, subst (λ (t : Graph). IsAtMost t support.table) (sym after.table_is) (all_lowered-at_most support.table (map (λ (one : Made). one.edge) (round_made net support.table))))

pub law_rounds_stand : RoundsStand
law_rounds_stand net start after rounds ending plan stands (in_cycle _ first left) = (stands, IsAtMost-itself start.table)
law_rounds_stand net start after rounds ending plan stands (in_order _ left none) = (stands, IsAtMost-itself start.table)
law_rounds_stand net start after rounds ending plan stands (after_one _ _ more _ left some rest) =
    let (here, lower) = law_rounds_keep_standing net start plan stands in
    let (there, lowest) = law_rounds_stand net (after_round net start) after more ending plan here rest in
    (there, IsAtMost-trans after.table (after_round net start).table start.table lowest lower)

closes : (net : Plan) (start after : Support) (rounds : ℕ) (ending : Ending) (order : List PointId) → ending ≡ closed order → IsPlan net → StandsOn net start → RoundsEnd net start rounds after ending → IsClosure net after.table
closes net start after rounds ending order is plan stands (in_cycle _ first left) = absurd cc
closes net start after rounds ending order is plan stands (in_order _ left none) = round_gives_closure net plan start stands none
closes net start after rounds ending order is plan stands (after_one _ _ more _ left some rest) = closes net (after_round net start) after more ending order is plan (law_rounds_keep_standing net start plan stands).0 rest

pub law_rounds_that_close : RoundsThatCloseGiveTheClosure
law_rounds_that_close net start after rounds order plan stands ends = closes net start after rounds (closed order) order refl plan stands ends

-- the same rounds
record AreSame (n m : ℕ) (one two : Support) (ending other : Ending) : Type 0 where
  count : n ≡ m
  support : one ≡ two
  end : ending ≡ other

one_way : (net : Plan) (start one two : Support) (n m : ℕ) (ending other : Ending) → RoundsEnd net start n one ending → RoundsEnd net start m two other → AreSame n m one two ending other
one_way net start one two n m ending other (in_cycle _ first left) (in_cycle _ second there) =
    let same : first ≡ second = same_Some first second (sym left ∙ there) in
    record { count = refl; support = refl; end = ap (λ (p : PointId). looped (cycle_from start.table p)) same }
one_way net start one two n m ending other (in_cycle _ first left) (in_order _ none nothing) = absurd cc
one_way net start one two n m ending other (in_cycle _ first left) (after_one _ _ more _ none some rest) = absurd cc
one_way net start one two n m ending other (in_order _ none nothing) (in_cycle _ second there) = absurd cc
one_way net start one two n m ending other (in_order _ none nothing) (in_order _ none' nothing') = record { count = refl; support = refl; end = refl }
one_way net start one two n m ending other (in_order _ none nothing) (after_one _ _ more _ none' some rest) = absurd (some nothing)
one_way net start one two n m ending other (after_one _ _ more _ none some rest) (in_cycle _ second there) = absurd cc
one_way net start one two n m ending other (after_one _ _ more _ none some rest) (in_order _ none' nothing) = absurd (some nothing)
one_way net start one two n m ending other (after_one _ _ more _ none some rest) (after_one _ _ less _ none' some' rest') =
    let same = one_way net (after_round net start) one two more less ending other rest rest' in
    record { count = ap suc same.count; support = same.support; end = same.end }

pub law_rounds_end_in_one_way : RoundsEndInOneWay
law_rounds_end_in_one_way net start one two n m ending other first second = let same = one_way net start one two n m ending other first second in (same.count, same.support, same.end)
