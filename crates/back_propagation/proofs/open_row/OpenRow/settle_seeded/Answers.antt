-- Each turn settles the next live slot, and relaxes enough of what follows.
use Rattle.std.proofs.Common.{rules, w64, to_z, of_z, ℕ, Bool, subst, sym, ap, ◌∙◌, is_some}
use Rattle.back_propagation.specs.DeltaRows.{what_follows}
use Rattle.back_propagation.specs.OpenRows.{HasRelaxed, IsRelaxing}
use Rattle.back_propagation.proofs.RowProgress.{HasSettledNext, of_slot, pruned_settling_first, pruned_settling_relaxing, pruned_settling_fewer, pruned_settling_next, pruned_settling_end}
use Rattle.back_propagation.proofs.open_row.OpenRow.settle_seeded.Goals as goal
use Rattle.back_propagation.proofs.open_row.OpenRow.settle_seeded.Goals.{After-settle-why}

pub loop-weight-init : goal.loop-weight-init
loop-weight-init c = record {
  begins = c.requires.row.begins;
  best = c.requires.row.best;
  pruned = pruned_settling_first c.args.basis c.args.target c.args.delta.now c.requires.row.begins c.args.self.now c.new-made.result c.requires.row.seeded c.new-made.ensures;
}

pub next_live-requires : goal.next_live-requires
next_live-requires c = (c.loop-weight.invariant.begins, c.loop-weight.invariant.pruned.queue)

-- what a turn settled
abbrev turn : (c : After-settle-why) → HasSettledNext c.loop-weight.invariant.begins c.loop-weight.self c.next_live.new.self c.settle-why.new.self
turn c =
    let found = c.in-Some.ensures.next c.loop-weight.invariant.begins c.loop-weight.invariant.pruned.queue in
    record {
      next = (c.in-Some.weight, c.in-Some.place);
      slot = found.slot;
      same = c.in-Some.ensures.row;
      found = found;
      settled = (c.settle-why.ensures found.slot found.next.here).0;
    }

pub relax_what_follows-requires-clause-row : goal.relax_what_follows-requires-clause-row
relax_what_follows-requires-clause-row c =
    let found = c.in-Some.ensures.next c.loop-weight.invariant.begins c.loop-weight.invariant.pruned.queue in
    let edge = of_slot c.args.target c.next_live.new.self c.in-Some.weight (to_z w64 (of_z w64 c.in-Some.weight)) c.in-Some.place found c.edge-edge.result (search rules) c.edge-edge.ensures in
    subst (λ (column : ℕ). IsRelaxing c.args.basis c.settle-why.new.self c.edge-edge.result column) (sym c.column_in-column.ensures)
    (pruned_settling_relaxing c.args.basis c.args.target c.args.delta.now c.loop-weight.invariant.begins c.requires.recorded c.loop-weight.invariant.best c.loop-weight.self c.next_live.new.self c.settle-why.new.self c.loop-weight.made
    c.loop-weight.invariant.pruned (turn (goal.at.relax_what_follows-requires-clause-row c).After-settle-why) c.edge-edge.result edge)

pub loop-weight-smaller : goal.loop-weight-smaller
loop-weight-smaller c =
    let found = c.in-Some.ensures.next c.loop-weight.invariant.begins c.loop-weight.invariant.pruned.queue in
    let why = (c.settle-why.ensures found.slot found.next.here).1 in
    let edge = of_slot c.args.target c.next_live.new.self c.in-Some.weight (to_z w64 (of_z w64 c.in-Some.weight)) c.in-Some.place found c.edge-edge.result (search rules) c.edge-edge.ensures in
    let follows = subst (λ (improved : Bool). HasRelaxed c.settle-why.new.self c.relax_what_follows.new.self (what_follows c.args.basis.net.now c.args.basis.table.now c.args.delta.now improved c.edge-edge.result))
    (c.is_some-improved.ensures ∙ ap is_some why) c.in_ok-relax_what_follows.ensures in
    pruned_settling_fewer c.args.basis c.args.target c.args.delta.now c.loop-weight.invariant.begins c.requires.recorded c.loop-weight.invariant.best c.loop-weight.self c.next_live.new.self c.settle-why.new.self c.loop-weight.made
    c.loop-weight.invariant.pruned (turn (goal.at.loop-weight-smaller c).After-settle-why) c.edge-edge.result edge
    c.relax_what_follows.new.self follows

pub loop-weight-preserved : goal.loop-weight-preserved
loop-weight-preserved c =
    let found = c.in-Some.ensures.next c.loop-weight.invariant.begins c.loop-weight.invariant.pruned.queue in
    let why = (c.settle-why.ensures found.slot found.next.here).1 in
    let edge = of_slot c.args.target c.next_live.new.self c.in-Some.weight (to_z w64 (of_z w64 c.in-Some.weight)) c.in-Some.place found c.edge-edge.result (search rules) c.edge-edge.ensures in
    let follows = subst (λ (improved : Bool). HasRelaxed c.settle-why.new.self c.relax_what_follows.new.self (what_follows c.args.basis.net.now c.args.basis.table.now c.args.delta.now improved c.edge-edge.result))
    (c.is_some-improved.ensures ∙ ap is_some why) c.in_ok-relax_what_follows.ensures in
    let pruned = pruned_settling_next c.args.basis c.args.target c.args.delta.now c.loop-weight.invariant.begins c.requires.recorded c.loop-weight.invariant.best c.loop-weight.self c.next_live.new.self c.settle-why.new.self
    c.loop-weight.made c.loop-weight.invariant.pruned (turn (goal.at.loop-weight-preserved c).After-settle-why) c.edge-edge.result edge
    c.relax_what_follows.new.self follows c.push_improved.new.made (c.in_ok-push_improved.ensures c.args.target found.slot why) in
    record { begins = c.loop-weight.invariant.begins; best = c.loop-weight.invariant.best; pruned = pruned }

pub returns : goal.returns
returns c = pruned_settling_end c.args.basis c.args.target c.args.delta.now c.loop-weight.invariant.begins c.requires.recorded c.loop-weight.invariant.best c.loop-weight.self c.next_live.new.self c.loop-weight.made
    c.loop-weight.invariant.pruned c.in_default.ensures.row (c.in_default.ensures.next c.loop-weight.invariant.begins c.loop-weight.invariant.pruned.queue)
