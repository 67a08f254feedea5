-- The first of the heap comes no later than all of it.
use Rattle.std.proofs.Common.{◌<◌, ℤ, ℕ, length, get_or, pos, arith}
use Rattle.std.specs.BinaryHeap.{heap_items}
use Rattle.back_propagation.specs.QueueOrder.{heap_list}
use Rattle.back_propagation.proofs.QueueSteps.{ahead_by, first_of_heap, read_next, top_among}
use Rattle.back_propagation.proofs.queue.is_ahead.Goals as goal

abbrev no_item : ℤ × ℕ
no_item = (pos 0, 0)

pub returns-in-Some : goal.returns-in-Some
returns-in-Some c =
    let inside : c.args.taken < length c.args.items.now = (let more = c.if-taken-items.false in omega (arith, more)) in
    ahead_by c.args.items.now c.args.taken (heap_list c.args.heap.now) (get_or c.args.items.now c.args.taken no_item) c.in-Some.first.now.0 c.is_not_after.result inside (λ d. read_next c.args.items.now c.args.taken d no_item inside)
    (top_among (heap_items c.args.heap.now) c.in-Some.first.now c.in-Some.ensures.item.3.0 c.in-Some.ensures.lookup) (first_of_heap c.in-Some.first.now (heap_items c.args.heap.now) (c.in-Some.ensures.greatest c.requires))
    c.is_not_after.ensures
