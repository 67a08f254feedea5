use Rattle.std.proofs.Common.{◌≡◌, ◌+◌, ◌++◌, ◌∙◌, ℕ, List, length, ap, sym, subst, take, drop, arith}
use Rattle.closure_model.specs.Tables.{row_of}
use Rattle.std.proofs.Math.Seq.{take-append_seam}
use Rattle.net_model.specs.declared.part.Edge.{Edge}
use Rattle.dispatch_net.specs.declared.dispatch.Conditions.{Conditions}
use Rattle.dispatch_net.specs.Outgoing.{AreOutgoing}
use Rattle.dispatch_net.proofs.OutgoingLemmas.{edges_before, row_more, rows_all}
use Rattle.dispatch_net.proofs.outgoing.outgoing_of.Goals as goal

pub loop-to-preserved : goal.loop-to-preserved
loop-to-preserved c =
    let table = c.args.table.now in
    let lists = c.loop-to.lists.items in
    let new = c.push_row.new.lists in
    let lent = c.as_mut_slice.ensures.value in
    let count : length c.as_mut_slice.result.now ≡ c.args.points = ap (λ (ls : List Conditions). length ls) lent ∙ c.loop-to.invariant.count in
    let before : AreOutgoing (length c.as_mut_slice.result.now) (edges_before table c.loop-to.to) c.as_mut_slice.result.now =
    subst (λ (n : ℕ). AreOutgoing n (edges_before table c.loop-to.to) c.as_mut_slice.result.now) (sym count)
    (subst (AreOutgoing c.args.points (edges_before table c.loop-to.to)) (sym lent) c.loop-to.invariant) in
    let pushed = c.in_ok-push_row.ensures (edges_before table c.loop-to.to) before in
    let back = new ++ drop (length new) lists in
    let whole : take c.loop-to.lists.len back ≡ new = ap (λ (n : ℕ). take n back) (sym (pushed.count ∙ c.as_mut_slice.ensures.len)) ∙ take-append_seam new (drop (length new) lists) in
    subst (AreOutgoing c.args.points (edges_before table (c.loop-to.to + 1))) (sym whole)
    (subst (λ (es : List Edge). AreOutgoing c.args.points es new) (sym (row_more table c.sound.ensures c.loop-to.to (omega (arith, c.requires, c.loop-to-test.true))))
    (subst (λ (n : ℕ). AreOutgoing n (edges_before table c.loop-to.to ++ row_of table (record { 0 = c.loop-to.to })) new) count pushed))

pub returns-clause-lists : goal.returns-clause-lists
returns-clause-lists c =
    let done : c.loop-to.to ≡ c.args.table.now.shape.points = omega (arith, c.loop-to-test.false, c.loop-to.auto.to-end, c.requires) in
    subst (λ (es : List Edge). AreOutgoing c.args.points es c.loop-to.lists.items) (rows_all c.args.table.now c.sound.ensures c.loop-to.to done) c.loop-to.invariant
