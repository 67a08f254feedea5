-- What stands in a forward closed list of edges; that a closed list is one.
use Rattle.std.proofs.Common.{◌≡◌, ◌≢◌, ℕ, ℤ, pos, ◌≤ℤ◌, ◌<ℤ◌, ◌+ℤ◌, ◌-ℤ◌, List, Some, None, refl, ap, ◌∙◌, subst, arith}
use Rattle.std.specs.Prelude.{slice_get}
use Rattle.std.specs.Int.{int_max}
use Rattle.std.specs.List.{Contains}
use Rattle.std.proofs.lemmas.Int.{ints, int_max_is}
use Rattle.std.proofs.lemmas.List.Elements.{All-contains}
use Rattle.net_model.specs.Network.{Plan}
use Rattle.net_model.specs.Edges.{IsLinkOf, IsLabelled, IsEdge}
use Rattle.net_model.specs.Rules.{Follows, joined_weight, moved_to_activation, bound_edge, link_edge}
use Rattle.net_model.specs.ForwardRules.{by_bound, by_link, by_no_case, by_upper_case, by_lower_case, by_cross_case, by_removal}
use Rattle.net_model.specs.declared.ids.LinkId.{LinkId}
use Rattle.net_model.specs.declared.part.Bound.{Bound}
use Rattle.net_model.specs.declared.part.Edge.{Edge}
use Rattle.net_model.specs.declared.part.Link.{Link}
use Rattle.net_model.proofs.ForwardRuleLemmas.{forward_follows}
use Rattle.net_model.proofs.AppliedRuleLemmas.{no_case_applies, upper_case_applies, lower_case_applies, cross_case_applies, removal_applies}
use Rattle.strategy_model.specs.Dispatch.{Stands, IsClosedList, IsForwardClosedList}
use Rattle.strategy_model.specs.DispatchLaws.{ClosedListsAreForwardClosed}

-- ---- sums
max_zero : (v u : ℤ) → pos 0 ≤ℤ v → int_max v (pos 0) +ℤ u ≡ v +ℤ u
max_zero v u from = let same : int_max v (pos 0) ≡ v = grind (arith, ints, int_max_is) in rw same refl

max_negative : (v u : ℤ) → v <ℤ pos 0 → int_max v (pos 0) +ℤ u ≡ u
max_negative v u below = let same : int_max v (pos 0) ≡ pos 0 = grind (arith, ints, int_max_is) in ap (λ (w : ℤ). w +ℤ u) same ∙ from_zero u
  where
    from_zero : (u : ℤ) → pos 0 +ℤ u ≡ u
    from_zero u = grind (arith, ints)

-- ---- what stands in a forward closed list
module _ (net : Plan) (edges : List Edge) (closed : IsForwardClosedList net edges) where
  pub stands_bound : (place : ℕ) (bound : Bound) → slice_get net.bounds place ≡ Some bound → Stands edges (bound_edge bound)
  stands_bound place bound declared = closed.closed (bound_edge bound) (by_bound place bound declared refl)

  pub stands_link : (name : LinkId) (link : Link) → IsLinkOf net name link → Stands edges (link_edge name link)
  stands_link name link declared = closed.closed (link_edge name link) (by_link name link declared refl)

  pub stands_no_case : (first second : Edge) → Contains edges first → Contains edges second → first.label ≡ None → second.label ≡ None → first.to ≡ second.from → second.weight <ℤ pos 0 → pos 0 ≤ℤ first.weight
      → Stands edges (record { from = first.from; to = second.to; label = None; weight = first.weight +ℤ second.weight })
  stands_no_case first second one two first_ordinary second_ordinary meets negative from_zero =
      subst (λ (w : ℤ). Stands edges (record { from = first.from; to = second.to; label = None; weight = w })) (max_zero first.weight second.weight from_zero)
      (closed.closed (record { from = first.from; to = second.to; label = None; weight = joined_weight first second })
      (by_no_case first second one two from_zero (no_case_applies first second first_ordinary second_ordinary meets negative)))

  pub stands_upper_case : (first second : Edge) (label : LinkId) → Contains edges first → Contains edges second → first.label ≡ None → second.label ≡ Some label → first.to ≡ second.from
      → second.weight <ℤ pos 0 → pos 0 ≤ℤ first.weight → Stands edges (record { from = first.from; to = second.to; label = second.label; weight = first.weight +ℤ second.weight })
  stands_upper_case first second label one two first_ordinary second_labelled meets negative from_zero =
      subst (λ (w : ℤ). Stands edges (record { from = first.from; to = second.to; label = second.label; weight = w })) (max_zero first.weight second.weight from_zero)
      (closed.closed (record { from = first.from; to = second.to; label = second.label; weight = joined_weight first second })
      (by_upper_case first second one two from_zero (upper_case_applies first second label first_ordinary second_labelled meets negative)))

  pub stands_lower_case : (name : LinkId) (link : Link) (second : Edge) → IsLinkOf net name link → Contains edges second → second.label ≡ None → second.from ≡ link.to → second.weight <ℤ pos 0 → Stands edges (moved_to_activation link second)
  stands_lower_case name link second declared one ordinary begins negative =
      closed.closed (moved_to_activation link second) (by_lower_case name second one (lower_case_applies net name link second declared ordinary begins negative))

  pub stands_cross_case : (name label : LinkId) (link : Link) (second : Edge) → IsLinkOf net name link → Contains edges second → second.label ≡ Some label → label ≢ name → second.from ≡ link.to → second.weight <ℤ pos 0
      → Stands edges (moved_to_activation link second)
  stands_cross_case name label link second declared one labelled other begins negative =
      closed.closed (moved_to_activation link second) (by_cross_case name second one (cross_case_applies net name link second label declared labelled other begins negative))

  pub stands_removal : (name : LinkId) (link : Link) (premise : Edge) → IsLinkOf net name link → Contains edges premise → premise.label ≡ Some name
      → Stands edges (record premise { label = None; weight = int_max premise.weight (pos 0 -ℤ link.low) })
  stands_removal name link premise declared one labelled =
      closed.closed (record premise { label = None; weight = int_max premise.weight (pos 0 -ℤ link.low) }) (by_removal premise one (removal_applies net premise name link declared labelled))

  -- the edges are edges of the network
  pub edge_sound : (edge : Edge) → Contains edges edge → IsEdge net edge
  edge_sound edge among = All-contains (IsEdge net) edges edge closed.edges_sound among

  -- a label is a link of the network, from the point in which its edge ends
  pub label_sound : (edge : Edge) (label : LinkId) → Contains edges edge → edge.label ≡ Some label → (link : Link) × IsLinkOf net label link × (edge.to ≡ link.from)
  label_sound edge label among labelled = subst (IsLabelled net edge) labelled (edge_sound edge among).labelled

-- ---- closed lists
pub law_closed_lists_are_forward_closed : ClosedListsAreForwardClosed
law_closed_lists_are_forward_closed net edges closed =
    record { edges_sound = closed.edges_sound; closed = λ edge forward. closed.closed edge (forward_follows net edges edge forward) }

module _ (net : Plan) (edges : List Edge) (closed : IsClosedList net edges) where
  -- negative ordinary edges in a row give one over both
  pub stands_over_both : (first second : Edge) → Contains edges first → Contains edges second → first.label ≡ None → second.label ≡ None → first.to ≡ second.from → first.weight <ℤ pos 0 → second.weight <ℤ pos 0
      → Stands edges (record { from = first.from; to = second.to; label = None; weight = second.weight })
  stands_over_both first second one two first_ordinary second_ordinary meets first_negative negative =
      subst (λ (w : ℤ). Stands edges (record { from = first.from; to = second.to; label = None; weight = w })) (max_negative first.weight second.weight first_negative)
      (closed.closed (record { from = first.from; to = second.to; label = None; weight = joined_weight first second })
      (Follows.by_no_case first second one two (no_case_applies first second first_ordinary second_ordinary meets negative)))
