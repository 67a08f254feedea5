-- Each turn settles the next slot, and what was under way stays so.
use Rattle.std.proofs.Common.{◌≡◌, List, [], None, false, get_or, fold, refl, sym, ap, ◌∙◌, subst}
use Rattle.std.specs.Prelude.{slice_set}
use Rattle.closure_model.specs.ReferenceRow.{Making, first_slots, relaxed}
use Rattle.closure_model.specs.declared.rows.Made.{Made}
use Rattle.closure_model.specs.declared.rows.Slot.{Slot}
use Rattle.closure_model.proofs.RowRun.{IsUnderWay, under_way_first}
use Rattle.example_references.specs.NodeTables.{table_in}
use Rattle.example_references.proofs.RowFacts.{still_under_way, progress_fewer}
use Rattle.example_references.proofs.rows.settle_all.Goals as goal

-- the slot that is read if there is none
no_slot : Slot
no_slot = record { from = record { 0 = 0 }; label = None; weight = None; why = None; settled = false }

pub loop-next-init : goal.loop-next-init
loop-next-init c =
    let table = table_in c.args.net.now c.args.nodes.now in
    let start : record { slots = first_slots table c.args.target; made = [] } ≡ record { slots = c.args.slots.now; made = c.new-made.result.items } = λ i. record { slots = sym c.requires i; made = sym c.new-made.ensures.items i } in
    subst (IsUnderWay c.args.net.now table c.args.target) start (under_way_first c.args.net.now table c.args.target)

pub loop-next-smaller : goal.loop-next-smaller
unfolding no_slot
loop-next-smaller c =
    let making : Making = record { slots = c.loop-next.slots; made = c.loop-next.made.items } in
    let slot : Slot = get_or c.loop-next.slots c.in-Some.next.0 no_slot in
    progress_fewer c.args.net.now (table_in c.args.net.now c.args.nodes.now) c.args.target making c.loop-next.invariant c.in-Some.next (sym c.in-Some.ensures.next) slot no_slot refl
    c.settled.result c.edge_in-edge.result c.in_ok-follow.follow.items c.relax_all.new.slots c.push_improved.new.made.items c.settled.ensures c.edge_in-edge.ensures c.in_ok-follow.ensures
    (c.relax_all.ensures ∙ ap (λ (list : List Made). fold relaxed (slice_set c.loop-next.slots c.in-Some.next.0 c.settled.result) list) c.as_slice.ensures.value) c.in_ok-push_improved.ensures

pub loop-next-preserved : goal.loop-next-preserved
unfolding no_slot
loop-next-preserved c =
    let making : Making = record { slots = c.loop-next.slots; made = c.loop-next.made.items } in
    let slot : Slot = get_or c.loop-next.slots c.in-Some.next.0 no_slot in
    still_under_way c.args.net.now (table_in c.args.net.now c.args.nodes.now) c.args.target making c.loop-next.invariant c.in-Some.next (sym c.in-Some.ensures.next) slot no_slot refl
    c.settled.result c.edge_in-edge.result c.in_ok-follow.follow.items c.relax_all.new.slots c.push_improved.new.made.items c.settled.ensures c.edge_in-edge.ensures c.in_ok-follow.ensures
    (c.relax_all.ensures ∙ ap (λ (list : List Made). fold relaxed (slice_set c.loop-next.slots c.in-Some.next.0 c.settled.result) list) c.as_slice.ensures.value) c.in_ok-push_improved.ensures
