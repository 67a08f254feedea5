-- If all slots are settled, whatever is derivable in the row is saturated.
use Rattle.std.proofs.Common.{◌≡◌, ℕ, ℤ, ◌≤ℤ◌, Bool, true, false, List, Option, Some, refl, ap, sym, subst, ◌∙◌}
use Rattle.std.specs.Prelude.{slice_get}
use Rattle.std.specs.List.{Contains}
use Rattle.net_model.specs.Network.{Plan, IsPlan}
use Rattle.net_model.specs.declared.ids.PointId.{PointId}
use Rattle.net_model.specs.declared.part.Edge.{Edge}
use Rattle.net_model.proofs.RuleLemmas.{no_case_gives, upper_case_gives, lower_case_gives, cross_case_gives, removal_gives}
use Rattle.net_model.specs.Rules.{no_case, upper_case, lower_case, cross_case, removal}
use Rattle.closure_model.specs.Keys.{Key, key_of, edge_of}
use Rattle.closure_model.specs.Least.{weight_at}
use Rattle.closure_model.specs.Tables.{Graph, IsGraph, IsFor}
use Rattle.closure_model.specs.ReferenceRow.{edge_in, open_weight, IsInRow, of_table, by_no_case, by_upper_case, by_lower_case, by_cross_case, by_removal, consequences, IsAllSettled}
use Rattle.closure_model.specs.declared.rows.Slot.{Slot}
use Rattle.closure_model.proofs.Weights.{le_then}
use Rattle.closure_model.proofs.RuleSteps.{GivesLess, at_weight, no_case_of_less, upper_case_of_less, lower_case_of_less, cross_case_of_less, removal_of_less}
use Rattle.closure_model.proofs.Consequences.{Follows, removal_stands, lower_case_stands, cross_case_stands, no_case_stands, upper_case_stands}
use Rattle.closure_model.proofs.Slots.{IsMet}
use Rattle.closure_model.proofs.SettledSlots.{IsPartly, open_weight_at}

module _ (net : Plan) (table : Graph) (to : PointId) (plan : IsPlan net) (fits : IsFor net table) (sound : IsGraph table) where
  -- ---- all is settled
  module _ (slots : List Slot) (partly : IsPartly net table to plan fits sound slots) (all : IsAllSettled slots) where
    pub is_settled : (place : ℕ) (slot : Slot) (weight : ℤ) → slice_get slots place ≡ Some slot → slot.weight ≡ Some weight → slot.settled ≡ true
    is_settled place slot weight here has = by slot.settled refl
      where
        by : (b : Bool) → slot.settled ≡ b → slot.settled ≡ true
        by true is = is
        by false is = let still_open : weight_at open_weight slots place ≡ Some weight = open_weight_at slots place slot weight here is has in let none = all place in absurd cc

    -- what follows from a saturated premise is saturated
    met_by : (premise edge : Edge) → IsMet to slots premise → ((weight : ℤ) → weight ≤ℤ premise.weight → (given : Option Edge) × GivesLess given edge
        × ((less : Edge) → given ≡ Some less → Follows net table (at_weight premise weight) less)) → IsMet to slots edge
    met_by premise edge met gives =
        let (given, less, follows) = gives met.weight met.less in
        let (made, inside, is) = follows (at_weight edge less.weight) less.gives in
        let same : edge_in to met.slot met.weight ≡ at_weight premise met.weight = ap (λ (k : Key). edge_of k met.weight) met.of_key in
        let found = partly.closed met.place met.slot met.weight met.here (is_settled met.place met.slot met.weight met.here met.has) met.has made (subst (λ (e : Edge). Contains (consequences net table e) made) (sym same) inside) in
        record {
          place = found.place;
          slot = found.slot;
          weight = found.weight;
          here = found.here;
          of_key = found.of_key ∙ ap key_of is;
          has = found.has;
          less = le_then found.weight less.weight edge.weight (subst (λ (e : Edge). found.weight ≤ℤ e.weight) is found.less) less.less;
        }

    pub all_met : (edge : Edge) → IsInRow net table to edge → IsMet to slots edge
    all_met _ (of_table edge has ends) = partly.row.table_met edge has ends
    all_met _ (by_no_case first second edge has derived is) =
        met_by second edge (all_met second derived) (λ weight less. (
          no_case first (at_weight second weight),
          no_case_of_less first second edge weight less (no_case_gives first second edge is),
          λ e given. no_case_stands net table
              (at_weight second weight) sound first e has given,
        ))
    all_met _ (by_upper_case first second edge has derived is) =
        met_by second edge (all_met second derived) (λ weight less. (
          upper_case first (at_weight second weight),
          upper_case_of_less first second edge weight less
              (upper_case_gives first second edge is),
          λ e given. upper_case_stands net table (at_weight second weight) sound first e has given,
        ))
    all_met _ (by_lower_case name second edge derived is) =
        met_by second edge (all_met second derived) (λ weight less. (
          lower_case net name (at_weight second weight),
          lower_case_of_less net name second edge weight less
              (lower_case_gives net name second edge is),
          λ e given. lower_case_stands net table (at_weight second weight) plan name e given,
        ))
    all_met _ (by_cross_case name second edge derived is) =
        met_by second edge (all_met second derived) (λ weight less. (
          cross_case net name (at_weight second weight),
          cross_case_of_less net name second edge weight less
              (cross_case_gives net name second edge is),
          λ e given. cross_case_stands net table (at_weight second weight) plan name e given,
        ))
    all_met _ (by_removal premise edge derived is) =
        met_by premise edge (all_met premise derived) (λ weight less. (
          removal net (at_weight premise weight),
          removal_of_less net premise edge weight less (removal_gives net premise edge is),
          λ e given. removal_stands net table
              (at_weight premise weight) e given,
        ))
