-- If a rule applies, it gives its edge.
use Rattle.std.proofs.Common.{◌≡◌, ◌≢◌, ℕ, pos, ◌<ℤ◌, ◌-ℤ◌, ◌==◌, not, Bool, true, false, Some, None, refl, ap, arith, is_none, is_some}
use Rattle.std.specs.Int.{int_max}
use Rattle.std.proofs.lemmas.Int.{ints}
use Rattle.std.proofs.lemmas.Bool.{eq-eqb, eqb-true}
use Rattle.net_model.specs.Network.{Plan}
use Rattle.net_model.specs.Edges.{IsLinkOf}
use Rattle.net_model.specs.Rules.{is_ordinary, is_labelled, is_labelled_by, is_negative, joined_weight, no_case, upper_case, moved_to_activation, lower_case, cross_case, removal}
use Rattle.net_model.specs.declared.ids.PointId.{PointId}
use Rattle.net_model.specs.declared.ids.LinkId.{LinkId}
use Rattle.net_model.specs.declared.part.Edge.{Edge}
use Rattle.net_model.specs.declared.part.Link.{Link}

-- ---- tests that hold
ordinary_holds : (edge : Edge) → edge.label ≡ None → is_ordinary edge ≡ true
ordinary_holds edge none = ap is_none none

labelled_holds : (edge : Edge) (label : LinkId) → edge.label ≡ Some label → is_labelled edge ≡ true
labelled_holds edge label some = ap is_some some

same_point_holds : (p q : PointId) → p ≡ q → (p.0 == q.0) ≡ true
same_point_holds p q same = eq-eqb p.0 q.0 (ap (λ (r : PointId). r.0) same)

pub negative_holds : (edge : Edge) → edge.weight <ℤ pos 0 → is_negative edge ≡ true
negative_holds edge below = grind (arith, ints)

-- the label is another link
another_holds : (name : LinkId) (edge : Edge) (label : LinkId) → edge.label ≡ Some label → label ≢ name → not (is_labelled_by name edge) ≡ true
another_holds name edge label some apart = rw some (by (label.0 == name.0) refl)
  where
    by : (b : Bool) → (label.0 == name.0) ≡ b → not b ≡ true
    by true same = absurd (apart (ap (λ (k : ℕ). record { 0 = k }) (eqb-true label.0 name.0 same)))
    by false same = refl

-- ---- the rules
pub no_case_applies : (first second : Edge) → first.label ≡ None → second.label ≡ None → first.to ≡ second.from → second.weight <ℤ pos 0
    → no_case first second ≡ Some (record { from = first.from; to = second.to; label = None; weight = joined_weight first second })
unfolding no_case
no_case_applies first second one two meeting below =
    rw (ordinary_holds first one, ordinary_holds second two, same_point_holds first.to second.from meeting, negative_holds second below) refl

pub upper_case_applies : (first second : Edge) (label : LinkId) → first.label ≡ None → second.label ≡ Some label → first.to ≡ second.from → second.weight <ℤ pos 0
    → upper_case first second ≡ Some (record { from = first.from; to = second.to; label = second.label; weight = joined_weight first second })
unfolding upper_case
upper_case_applies first second label one two meeting below =
    rw (ordinary_holds first one, labelled_holds second label two, same_point_holds first.to second.from meeting, negative_holds second below) refl

pub lower_case_applies : (net : Plan) (name : LinkId) (link : Link) (second : Edge) → IsLinkOf net name link → second.label ≡ None → second.from ≡ link.to → second.weight <ℤ pos 0
    → lower_case net name second ≡ Some (moved_to_activation link second)
unfolding lower_case
lower_case_applies net name link second declared two begins below =
    rw (declared, ordinary_holds second two, same_point_holds second.from link.to begins, negative_holds second below) refl

pub cross_case_applies : (net : Plan) (name : LinkId) (link : Link) (second : Edge) (label : LinkId) → IsLinkOf net name link → second.label ≡ Some label → label ≢ name → second.from ≡ link.to → second.weight <ℤ pos 0
    → cross_case net name second ≡ Some (moved_to_activation link second)
unfolding cross_case
cross_case_applies net name link second label declared two apart begins below =
    rw (declared, labelled_holds second label two, another_holds name second label two apart, same_point_holds second.from link.to begins, negative_holds second below) refl

pub removal_applies : (net : Plan) (premise : Edge) (name : LinkId) (link : Link) → IsLinkOf net name link → premise.label ≡ Some name
    → removal net premise ≡ Some (record premise { label = None; weight = int_max premise.weight (pos 0 -ℤ link.low) })
unfolding removal
removal_applies net premise name link declared labelled = rw (labelled, declared) refl
