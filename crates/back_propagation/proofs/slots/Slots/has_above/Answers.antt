use Rattle.std.proofs.Common.{rules, ◌≡◌, ◌==◌, ◌&&◌, ◌<◌, ◌||◌, ◌∙◌, ℕ, ℤ, pos, Bool, true, false, length, get_or, ap, sym, arith, w64, to_z, of_z}
use Rattle.std.specs.Prelude.{int_lt, slice_get, Some}
use Rattle.std.specs.Ordering.{int_eq}
use Rattle.std.proofs.lemmas.List.{get_or_default}
use Rattle.closure_model.specs.ReferenceRow.{has_above}
use Rattle.closure_model.specs.declared.rows.Slot.{Slot}
use Rattle.back_propagation.specs.SlimSlots.{no_weight, slots_of}
use Rattle.back_propagation.specs.declared.slots.Slots.TheInside.{Inside}
use Rattle.back_propagation.proofs.SlimSteps.{place_stored, slot_is, above_in}
use Rattle.back_propagation.proofs.slots.Slots.has_above.Goals as goal

pub index-held-requires : goal.index-held-requires
index-held-requires c =
    let inside = place_stored c.self.inside c.args.self.now c.self.view_is c.args.place c.requires in
    omega (arith, inside, c.self.inside.weights.ok.0)

pub index-requires : goal.index-requires
index-requires c =
    let inside = place_stored c.self.inside c.args.self.now c.self.view_is c.args.place c.requires in
    omega (arith, inside, c.self.invariant.marks, c.self.inside.marks.ok.0)

-- by what is stored
slot_has : (s : Inside) (list : _) (view : slots_of s ≡ list) (place : ℕ) (inside : place < length list) (slot : Slot) (weight : ℤ) → slice_get list place ≡ Some slot
    → has_above slot weight ≡ (int_lt weight (get_or s.weights.items place (pos 0)) || (int_eq (get_or s.weights.items place (pos 0)) no_weight && get_or s.marks.items place 0 == 0))
slot_has s list view place inside slot weight here = ap (λ (x : Slot). has_above x weight) (sym (slot_is s list view place inside slot here)) ∙ above_in weight (get_or s.weights.items place (pos 0)) (get_or s.marks.items place 0)

pub returns-then-weight-held : goal.returns-then-weight-held
returns-then-weight-held c = λ slot here.
    let inside = place_stored c.self.inside c.args.self.now c.self.view_is c.args.place c.requires in
    let given : to_z w64 (of_z w64 c.args.weight) ≡ c.args.weight = search rules in
    let kept : to_z w64 (of_z w64 c.index-held.result.now) ≡ c.index-held.result.now = search rules in
    let held : c.index-held.result.now ≡ get_or c.self.inside.weights.items c.args.place (pos 0) = c.index-held.ensures ∙ get_or_default c.self.inside.weights.items c.args.place c.index-held.result.now (pos 0) inside in
    let less : int_lt c.args.weight (get_or c.self.inside.weights.items c.args.place (pos 0)) ≡ true = (λ i. int_lt (sym given i) (sym (kept ∙ held) i)) ∙ c.if-weight-held.true in
    c.if-weight-held.true
    ∙ sym (slot_has c.self.inside c.args.self.now c.self.view_is c.args.place c.requires slot c.args.weight here
    ∙ ap (λ (b : Bool). b || (int_eq (get_or c.self.inside.weights.items c.args.place (pos 0)) no_weight && get_or c.self.inside.marks.items c.args.place 0 == 0)) less)

pub returns-else-weight-held : goal.returns-else-weight-held
returns-else-weight-held c = λ slot here.
    let inside = place_stored c.self.inside c.args.self.now c.self.view_is c.args.place c.requires in
    let marked : c.args.place < length c.self.inside.marks.items = omega (arith, inside, c.self.invariant.marks) in
    let given : to_z w64 (of_z w64 c.args.weight) ≡ c.args.weight = search rules in
    let kept : to_z w64 (of_z w64 c.index-held.result.now) ≡ c.index-held.result.now = search rules in
    let held : c.index-held.result.now ≡ get_or c.self.inside.weights.items c.args.place (pos 0) = c.index-held.ensures ∙ get_or_default c.self.inside.weights.items c.args.place c.index-held.result.now (pos 0) inside in
    let mark : c.index.result.now ≡ get_or c.self.inside.marks.items c.args.place 0 = c.index.ensures ∙ get_or_default c.self.inside.marks.items c.args.place c.index.result.now 0 marked in
    let not_less : int_lt c.args.weight (get_or c.self.inside.weights.items c.args.place (pos 0)) ≡ false = (λ i. int_lt (sym given i) (sym (kept ∙ held) i)) ∙ c.if-weight-held.false in
    c.is_absent.ensures
    ∙ ((λ i. int_eq ((kept ∙ held) i) no_weight && mark i == 0)
    ∙ sym (slot_has c.self.inside c.args.self.now c.self.view_is c.args.place c.requires slot c.args.weight here
    ∙ ap (λ (b : Bool). b || (int_eq (get_or c.self.inside.weights.items c.args.place (pos 0)) no_weight && get_or c.self.inside.marks.items c.args.place 0 == 0)) not_less))
