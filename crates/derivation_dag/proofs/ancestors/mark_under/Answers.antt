use Rattle.std.proofs.Common.{◌-◌, refl, sym, subst, arith}
use Rattle.derivation_dag.proofs.MarkLemmas.{Swept, swept_none, step_premises, step_marked, swept_end}
use Rattle.derivation_dag.proofs.ancestors.mark_under.Goals as goal

pub loop-place-init : goal.loop-place-init
loop-place-init c = swept_none c.args.nodes.now c.args.marks.now _ refl c.requires.size

pub mark_premises-requires : goal.mark_premises-requires
mark_premises-requires c =
    step_premises c.args.nodes.now c.args.marks.now c.loop-place.marks c.loop-place.place (c.loop-place.place - 1) _ c.requires.earlier (omega arith) c.loop-place.invariant

pub loop-place-preserved-then-marks-place : goal.loop-place-preserved-then-marks-place
loop-place-preserved-then-marks-place c =
    subst (λ m. Swept c.args.nodes.now c.args.marks.now m (c.loop-place.place - 1)) (sym c.mark_premises.ensures)
    (step_marked c.args.nodes.now c.args.marks.now c.loop-place.marks c.loop-place.place (c.loop-place.place - 1) _ c.requires.earlier (omega arith) c.loop-place.invariant c.if-marks-place.true)

pub returns-clause-whole : goal.returns-clause-whole
returns-clause-whole c = swept_end c.args.nodes.now c.args.marks.now c.loop-place.marks c.loop-place.place (omega arith) c.loop-place.invariant
