use Rattle.std.proofs.Common.{◌+◌, ap, ◌∙◌, sym, subst, arith}
use Rattle.derivation_dag.proofs.MarkLemmas.{AreMarkedBelow, marked_none, marked_taken, marked_passed, marked_all}
use Rattle.derivation_dag.proofs.ancestors.marked.Goals as goal
use Rattle.derivation_dag.proofs.ancestors.marked.Goals.{then-mark+in_ok-push, else-mark}

pub loop-place-preserved : goal.loop-place-preserved
loop-place-preserved c =
    elim c.if-mark.branch [
      | then-mark+in_ok-push w ↦
          subst (AreMarkedBelow c.args.marks.now (c.loop-place.place + 1)) (sym (ap (λ v. v.items) w.found-is ∙ w.in_ok-push.ensures.items))
          (marked_taken c.args.marks.now c.loop-place.place c.loop-place.found.items c.loop-place.invariant w.if-mark.true)
      | else-mark w ↦
          subst (AreMarkedBelow c.args.marks.now (c.loop-place.place + 1)) (sym (ap (λ v. v.items) w.found-is))
          (marked_passed c.args.marks.now c.loop-place.place c.loop-place.found.items c.loop-place.invariant w.if-mark.false)
    ]

pub loop-place-init : goal.loop-place-init
loop-place-init c = subst (AreMarkedBelow c.args.marks.now 0) (sym c.new-found.ensures.items) (marked_none c.args.marks.now)

pub returns : goal.returns
returns c = marked_all c.args.marks.now c.loop-place.place c.loop-place.found.items (omega (arith, c.loop-place-test.false, c.loop-place.auto.place-end)) c.loop-place.invariant
