use Rattle.std.proofs.Common.{rules, ◌≡◌, ◌<◌, ◌∙◌, pos, length, get_or, ap, arith, w64, to_z, of_z}
use Rattle.std.proofs.lemmas.List.{get_or_default}
use Rattle.closure_model.specs.declared.rows.Slot.{Slot}
use Rattle.back_propagation.specs.SlimSlots.{weight_in_slot}
use Rattle.back_propagation.proofs.SlimSteps.{place_stored, slot_is}
use Rattle.back_propagation.proofs.slots.Slots.weight.Goals as goal

pub index-requires : goal.index-requires
index-requires c =
    let inside = place_stored c.self.inside c.args.self.now c.self.view_is c.args.place c.requires in
    omega (arith, inside, c.self.inside.weights.ok.0)

pub index-requires-2 : goal.index-requires-2
index-requires-2 c =
    let inside = place_stored c.self.inside c.args.self.now c.self.view_is c.args.place c.requires in
    omega (arith, inside, c.self.invariant.marks, c.self.inside.marks.ok.0)

pub returns : goal.returns
returns c = λ slot here.
    let inside = place_stored c.self.inside c.args.self.now c.self.view_is c.args.place c.requires in
    let marked : c.args.place < length c.self.inside.marks.items = omega (arith, inside, c.self.invariant.marks) in
    let kept : to_z w64 (of_z w64 c.index.result.now) ≡ c.index.result.now = search rules in
    let held : c.index.result.now ≡ get_or c.self.inside.weights.items c.args.place (pos 0) = c.index.ensures ∙ get_or_default c.self.inside.weights.items c.args.place c.index.result.now (pos 0) inside in
    let mark : c.index-2.result.now ≡ get_or c.self.inside.marks.items c.args.place 0 = c.index-2.ensures ∙ get_or_default c.self.inside.marks.items c.args.place c.index-2.result.now 0 marked in
    c.weight_in_slot.ensures ∙ ((λ i. weight_in_slot ((kept ∙ held) i) (mark i)) ∙ ap (λ (s : Slot). s.weight) (slot_is c.self.inside c.args.self.now c.self.view_is c.args.place c.requires slot here))
