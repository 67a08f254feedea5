use Rattle.std.proofs.Common.{◌≡◌, ◌<◌, ◌∙◌, true, length, get_or, ap, refl, arith}
use Rattle.std.specs.Prelude.{slice_set}
use Rattle.std.specs.Vec.{with_item}
use Rattle.std.proofs.lemmas.List.{get_or_default}
use Rattle.closure_model.specs.declared.rows.Slot.{Slot}
use Rattle.back_propagation.specs.SlimSlots.{slot_in, why_in}
use Rattle.back_propagation.specs.declared.slots.Slots.TheInside.{Inside}
use Rattle.back_propagation.proofs.SlimSteps.{place_stored, slot_is, settled_view}
use Rattle.back_propagation.proofs.slots.Slots.settle.Goals as goal

pub index_mut-requires : goal.index_mut-requires
index_mut-requires c =
    let inside = place_stored c.self.inside c.args.self.now c.self.view_is c.args.place c.requires in
    omega (arith, inside, c.self.invariant.settled, c.self.inside.settled.ok.0)

pub index-requires : goal.index-requires
index-requires c =
    let inside = place_stored c.self.inside c.args.self.now c.self.view_is c.args.place c.requires in
    omega (arith, inside, c.self.invariant.marks, c.self.inside.marks.ok.0)

pub why_in-requires : goal.why_in-requires
why_in-requires c =
    let inside = place_stored c.self.inside c.args.self.now c.self.view_is c.args.place c.requires in
    let marked : c.args.place < length c.self.inside.marks.items = omega (arith, inside, c.self.invariant.marks) in
    let read : c.index.result.now ≡ get_or c.self.inside.marks.items c.args.place 0 = c.index.ensures ∙ get_or_default c.self.inside.marks.items c.args.place c.index.result.now 0 marked in
    let few = c.self.invariant.whys c.args.place in
    let many = ap length c.as_slice.ensures.value in
    omega (arith, read, few, many)

pub returns : goal.returns
returns c = λ slot at.
    let s : Inside = c.self.inside in
    let inside = place_stored c.self.inside c.args.self.now c.self.view_is c.args.place c.requires in
    let here : slot_in c.self.inside c.args.place ≡ slot = slot_is c.self.inside c.args.self.now c.self.view_is c.args.place c.requires slot at in
    let marked : c.args.place < length c.self.inside.marks.items = omega (arith, inside, c.self.invariant.marks) in
    let mark : c.index.result.now ≡ get_or c.self.inside.marks.items c.args.place 0 = c.index.ensures ∙ get_or_default c.self.inside.marks.items c.args.place c.index.result.now 0 marked in
    let why : c.why_in.result ≡ why_in c.self.inside.whys.items (get_or c.self.inside.marks.items c.args.place 0) = c.why_in.ensures ∙ (λ i. why_in (c.as_slice.ensures.value i) (mark i)) in (
      settled_view c.self.inside
          (record {
            points = c.self.inside.points;
            labels = c.self.inside.labels;
            weights = c.self.inside.weights;
            words = c.self.inside.words;
            marks = c.self.inside.marks;
            settled = with_item c.self.inside.settled c.args.place true;
            whys = c.self.inside.whys;
          }) c.args.place
          (record { points = refl; labels = refl; weights = refl; words = refl; marks = refl; settled = refl; whys = refl }) c.self.invariant inside
          ∙ (λ i. slice_set (c.self.view_is i) c.args.place (record (here i) { settled = true })),
      why ∙ ap (λ (x : Slot). x.why) here,
    )
