-- The first of the least of the slots so far is, with one slot more, the lesser of it and of that slot.
use Rattle.std.proofs.Common.{ap, ◌∙◌}
use Rattle.std.specs.Option.{option_map}
use Rattle.closure_model.specs.Least.{lesser}
use Rattle.closure_model.specs.ReferenceRow.{open_weight}
use Rattle.example_references.proofs.LeastSteps.{least_more, least_all, least_inside}
use Rattle.example_references.proofs.rows.next_slot.Goals as goal

pub loop-place-preserved : goal.loop-place-preserved
loop-place-preserved c =
    least_more open_weight c.args.slots.now c.loop-place.place _ c.loop-place.next c.lesser-next.result c.loop-place-test.true c.loop-place.invariant
    (c.lesser-next.ensures ∙ ap (lesser c.loop-place.next) (c.at_place.ensures ∙ ap (option_map (λ w. (c.loop-place.place, w))) c.open_weight.ensures))

pub returns : goal.returns
returns c =
    let next = least_all open_weight c.args.slots.now c.loop-place.place c.loop-place.next c.loop-place-test.false c.loop-place.invariant in
    record { next = next; inside = least_inside open_weight c.args.slots.now c.loop-place.next next }
