use Rattle.std.proofs.Common.{arith, ℕ, ℤ, true, false, None, subst, sym, List, []}
use Rattle.closure_model.specs.declared.rows.Slot.{Slot}
use Rattle.back_propagation.specs.QueuedPlaces.{IsQueued}
use Rattle.back_propagation.proofs.QueuedSteps.{queued_none, queued_more, queued_whole}
use Rattle.back_propagation.proofs.full_rows.queue_all.Goals as goal

abbrev no_slot : Slot
no_slot = record { from = record { 0 = 0 }; label = None; weight = None; why = None; settled = false }

pub loop-place-init : goal.loop-place-init
loop-place-init c = subst (λ (list : List (ℤ × ℕ)). IsQueued (λ _. true) [] list) (sym c.new-queue.ensures) queued_none

pub loop-place-preserved : goal.loop-place-preserved
loop-place-preserved c = queued_more c.args.slots.now c.loop-place.place c.weight.result no_slot c.loop-place.queue c.queue_weight.new.queue (let long = c.len-place-end.ensures in let more = c.loop-place-test.true in
    omega (arith, long, more)) c.weight.ensures c.in_ok-queue_weight.ensures c.loop-place.invariant

pub returns : goal.returns
returns c = queued_whole c.args.slots.now c.loop-place.place c.loop-place.queue (let long = c.len-place-end.ensures in let past = c.loop-place-test.false in omega (arith, long, past)) c.loop-place.invariant
