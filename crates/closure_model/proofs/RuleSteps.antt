-- What a reduction does to the edge that it lengthens: the conclusion is at least as heavy, ends where that edge ends, and a lesser
-- weight of the edge gives a conclusion of lesser weight.
use Rattle.std.proofs.Common.{◌≡◌, ℤ, pos, ◌≤ℤ◌, ◌+ℤ◌, ◌-ℤ◌, Option, Some, refl, ap, sym, ◌∙◌, subst, arith}
use Rattle.std.specs.Int.{int_max}
use Rattle.std.proofs.lemmas.Int.{ints, int_max_is}
use Rattle.net_model.specs.Network.{Plan}
use Rattle.net_model.specs.Rules.{joined_weight, no_case, upper_case, lower_case, cross_case, removal}
use Rattle.net_model.specs.declared.ids.LinkId.{LinkId}
use Rattle.net_model.specs.declared.part.Edge.{Edge}
use Rattle.net_model.proofs.AppliedRuleLemmas.{no_case_applies, upper_case_applies, lower_case_applies, cross_case_applies, removal_applies}
use Rattle.net_model.proofs.RuleLemmas.{NoCaseGives, UpperCaseGives, LowerCaseGives, CrossCaseGives, RemovalGives}
use Rattle.closure_model.proofs.Weights.{le_then_lt}

-- ---- sums
pub joined_not_less : (v u : ℤ) → u ≤ℤ (int_max v (pos 0) +ℤ u)
joined_not_less v u = grind (arith, ints, int_max_is)

joined_decreases : (v u w : ℤ) → w ≤ℤ u → (int_max v (pos 0) +ℤ w) ≤ℤ (int_max v (pos 0) +ℤ u)
joined_decreases v u w descends = grind (arith, ints)

moved_not_less : (x u : ℤ) → pos 1 ≤ℤ x → u ≤ℤ (x +ℤ u)
moved_not_less x u low = grind (arith, ints)

moved_decreases : (x u w : ℤ) → w ≤ℤ u → (x +ℤ w) ≤ℤ (x +ℤ u)
moved_decreases x u w descends = grind (arith, ints)

max_not_less : (z y : ℤ) → z ≤ℤ int_max z y
max_not_less z y = grind (arith, ints, int_max_is)

max_decreases : (z w y : ℤ) → w ≤ℤ z → int_max w y ≤ℤ int_max z y
max_decreases z w y descends = grind (arith, ints, int_max_is)

-- ---- what every rule keeps: the conclusion is no lighter than the edge that it lengthens, ends where that one does, and has its
-- label or none
pub record Lengthens (premise edge : Edge) : Type 0 where
  pub not_less : premise.weight ≤ℤ edge.weight
  pub ends : edge.to ≡ premise.to

weight_is : (one other : Edge) → one ≡ other → one.weight ≡ other.weight
weight_is one other same = ap (λ (e : Edge). e.weight) same

to_is : (one other : Edge) → one ≡ other → one.to ≡ other.to
to_is one other same = ap (λ (e : Edge). e.to) same

lengthens : (premise made edge : Edge) → made ≡ edge → premise.weight ≤ℤ made.weight → made.to ≡ premise.to → Lengthens premise edge
lengthens premise made edge is more ends = record { not_less = subst (λ (w : ℤ). premise.weight ≤ℤ w) (weight_is made edge is) more; ends = sym (to_is made edge is) ∙ ends }

pub no_case_lengthens : (first second edge : Edge) → NoCaseGives first second edge → Lengthens second edge
no_case_lengthens first second edge gives = lengthens second _ edge gives.is (joined_not_less first.weight second.weight) refl

pub upper_case_lengthens : (first second edge : Edge) → UpperCaseGives first second edge → Lengthens second edge
upper_case_lengthens first second edge gives = lengthens second _ edge gives.is (joined_not_less first.weight second.weight) refl

pub lower_case_lengthens : (net : Plan) (name : LinkId) (second edge : Edge) (gives : LowerCaseGives net name second edge) → pos 1 ≤ℤ gives.link.low → Lengthens second edge
lower_case_lengthens net name second edge gives low = lengthens second _ edge gives.is (moved_not_less gives.link.low second.weight low) refl

pub cross_case_lengthens : (net : Plan) (name : LinkId) (second edge : Edge) (gives : CrossCaseGives net name second edge) → pos 1 ≤ℤ gives.link.low → Lengthens second edge
cross_case_lengthens net name second edge gives low = lengthens second _ edge gives.is (moved_not_less gives.link.low second.weight low) refl

pub removal_lengthens : (net : Plan) (premise edge : Edge) → RemovalGives net premise edge → Lengthens premise edge
removal_lengthens net premise edge gives = lengthens premise _ edge gives.is (max_not_less premise.weight (pos 0 -ℤ gives.link.low)) refl

-- ---- a lesser weight of the edge that is lengthened
-- the same edge at another weight
abbrev pub at_weight : Edge → ℤ → Edge
at_weight edge weight = record edge { weight = weight }

-- a conclusion at a weight that is no greater
pub record GivesLess (given : Option Edge) (edge : Edge) : Type 0 where
  pub weight : ℤ
  pub gives : given ≡ Some (at_weight edge weight)
  pub less : weight ≤ℤ edge.weight

gives_less : (given : Option Edge) (made edge : Edge) (weight : ℤ) → made ≡ edge → given ≡ Some (at_weight made weight) → weight ≤ℤ made.weight → GivesLess given edge
gives_less given made edge weight is gives less = record {
  weight = weight;
  gives = gives ∙ ap (λ (e : Edge). Some (at_weight e weight)) is;
  less = subst (λ (w : ℤ). weight ≤ℤ w) (weight_is made edge is) less;
}

pub no_case_of_less : (first second edge : Edge) (weight : ℤ) → weight ≤ℤ second.weight → NoCaseGives first second edge → GivesLess (no_case first (at_weight second weight)) edge
no_case_of_less first second edge weight descends gives =
    gives_less _ _ edge (joined_weight first (at_weight second weight)) gives.is
    (no_case_applies first (at_weight second weight) gives.first_ordinary gives.second_ordinary gives.meeting (le_then_lt weight second.weight (pos 0) descends gives.negative))
    (joined_decreases first.weight second.weight weight descends)

pub upper_case_of_less : (first second edge : Edge) (weight : ℤ) → weight ≤ℤ second.weight → UpperCaseGives first second edge → GivesLess (upper_case first (at_weight second weight)) edge
upper_case_of_less first second edge weight descends gives =
    gives_less _ _ edge (joined_weight first (at_weight second weight)) gives.is
    (upper_case_applies first (at_weight second weight) gives.label gives.first_ordinary gives.second_labelled gives.meeting (le_then_lt weight second.weight (pos 0) descends gives.negative))
    (joined_decreases first.weight second.weight weight descends)

pub lower_case_of_less : (net : Plan) (name : LinkId) (second edge : Edge) (weight : ℤ) → weight ≤ℤ second.weight → LowerCaseGives net name second edge → GivesLess (lower_case net name (at_weight second weight)) edge
lower_case_of_less net name second edge weight descends gives =
    gives_less _ _ edge (gives.link.low +ℤ weight) gives.is
    (lower_case_applies net name gives.link (at_weight second weight) gives.declared gives.second_ordinary gives.begins (le_then_lt weight second.weight (pos 0) descends gives.negative))
    (moved_decreases gives.link.low second.weight weight descends)

pub cross_case_of_less : (net : Plan) (name : LinkId) (second edge : Edge) (weight : ℤ) → weight ≤ℤ second.weight → CrossCaseGives net name second edge → GivesLess (cross_case net name (at_weight second weight)) edge
cross_case_of_less net name second edge weight descends gives =
    gives_less _ _ edge (gives.link.low +ℤ weight) gives.is
    (cross_case_applies net name gives.link (at_weight second weight) gives.label gives.declared gives.second_labelled gives.another gives.begins (le_then_lt weight second.weight (pos 0) descends gives.negative))
    (moved_decreases gives.link.low second.weight weight descends)

pub removal_of_less : (net : Plan) (premise edge : Edge) (weight : ℤ) → weight ≤ℤ premise.weight → RemovalGives net premise edge → GivesLess (removal net (at_weight premise weight)) edge
removal_of_less net premise edge weight descends gives =
    gives_less _ _ edge (int_max weight (pos 0 -ℤ gives.link.low)) gives.is
    (removal_applies net (at_weight premise weight) gives.name gives.link gives.declared gives.labelled)
    (max_decreases premise.weight weight (pos 0 -ℤ gives.link.low) descends)
