use Rattle.std.proofs.Common.{◌≡◌, ◌<◌, ◌∙◌, false, not, length, get_or, ap, arith}
use Rattle.std.proofs.lemmas.List.{get_or_default}
use Rattle.closure_model.specs.declared.rows.Slot.{Slot}
use Rattle.back_propagation.proofs.SlimSteps.{place_stored, slot_is}
use Rattle.back_propagation.proofs.slots.Slots.is_open.Goals as goal

pub index-requires : goal.index-requires
index-requires c =
    let inside = place_stored c.self.inside c.args.self.now c.self.view_is c.args.place c.requires in
    omega (arith, inside, c.self.invariant.settled, c.self.inside.settled.ok.0)

pub returns : goal.returns
returns c = λ slot here.
    let inside = place_stored c.self.inside c.args.self.now c.self.view_is c.args.place c.requires in
    let there : c.args.place < length c.self.inside.settled.items = omega (arith, inside, c.self.invariant.settled) in
    let settled : c.index.result.now ≡ get_or c.self.inside.settled.items c.args.place false = c.index.ensures ∙ get_or_default c.self.inside.settled.items c.args.place c.index.result.now false there in
    ap not (settled ∙ ap (λ (s : Slot). s.settled) (slot_is c.self.inside c.args.self.now c.self.view_is c.args.place c.requires slot here))
