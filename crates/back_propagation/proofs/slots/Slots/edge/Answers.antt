-- Where the slot begins and its label follow from its place.
use Rattle.std.proofs.Common.{◌≡◌, ◌<◌, ◌+◌, ◌/◌, ◌%◌, ◌∙◌, ℕ, length, ap, subst, arith, sym, w64, to_z, of_z}
use Rattle.std.proofs.Math.Facts.{to_z-of_z}
use Rattle.closure_model.specs.declared.rows.Slot.{Slot}
use Rattle.back_propagation.specs.SlimSlots.{label_in, slot_in}
use Rattle.back_propagation.proofs.SlimSteps.{place_stored, slot_is, source_below}
use Rattle.back_propagation.proofs.slots.Slots.edge.Goals as goal

pub overflow_cast-result : goal.overflow_cast-result
overflow_cast-result c =
    let inside = place_stored c.self.inside c.args.self.now c.self.view_is c.args.place c.requires in
    let width : c.len-width.result ≡ length c.self.inside.labels.items = c.len-width.ensures ∙ c.self.inside.labels.ok.0 in
    let below : c.args.place / (c.len-width.result + 1) < c.self.inside.points = subst (λ (n : ℕ). c.args.place / (n + 1) < c.self.inside.points) (sym width) (source_below c.self.inside c.self.invariant c.args.place inside) in
    let few = c.self.invariant.few in
    let source = c.source_in.ensures in
    omega (arith, below, few, source)

pub returns : goal.returns
returns c = λ slot at.
    let width : c.len-width.result ≡ length c.self.inside.labels.items = c.len-width.ensures ∙ c.self.inside.labels.ok.0 in
    let here : slot_in c.self.inside c.args.place ≡ slot = slot_is c.self.inside c.args.self.now c.self.view_is c.args.place c.requires slot at in
    let from : c.source_in.result ≡ slot.from.0 = c.source_in.ensures ∙ (ap (λ (n : ℕ). c.args.place / (n + 1)) width ∙ ap (λ (s : Slot). s.from.0) here) in
    let label : c.label_in.result ≡ slot.label = c.label_in.ensures ∙ ((λ i. label_in (c.as_slice.ensures.value i) ((c.column_in.ensures ∙ ap (λ (n : ℕ). c.args.place % (n + 1)) width) i)) ∙ ap (λ (s : Slot). s.label) here) in
    let kept : to_z w64 (of_z w64 c.args.weight) ≡ c.args.weight = to_z-of_z c.ranges.weight in
    (λ i. record { from = record { 0 = from i }; to = c.args.target; label = label i; weight = kept i })
