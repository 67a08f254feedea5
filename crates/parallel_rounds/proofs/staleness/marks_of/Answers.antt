-- One mark more.
use Rattle.std.proofs.Common.{◌<◌, List, subst, arith}
use Rattle.std.proofs.lemmas.List.{take_all}
use Rattle.std.proofs.lemmas.List.Elements.{All-get_or}
use Rattle.net_model.specs.declared.ids.PointId.{PointId}
use Rattle.loop_finder.specs.Marks.{AreMarks}
use Rattle.parallel_rounds.proofs.StaleSteps.{marks_more}
use Rattle.parallel_rounds.proofs.staleness.marks_of.Goals as goal

pub index_mut-requires : goal.index_mut-requires
index_mut-requires c =
    omega (arith, c.loop-point.invariant.0, All-get_or (λ (point : PointId). point.0 < c.args.points) c.args.listed.now c.loop-point.point-index (record { 0 = 0 }) c.loop-point-test.true c.requires)

pub loop-point-preserved : goal.loop-point-preserved
loop-point-preserved c =
    marks_more c.args.listed.now c.loop-point.point-index c.args.points c.loop-point.marks.items c.loop-point-test.true c.requires c.loop-point.invariant.0 c.loop-point.invariant.1

pub returns-clause-marks : goal.returns-clause-marks
returns-clause-marks c = subst (λ (listed : List PointId). AreMarks listed c.loop-point.marks.items) (take_all c.loop-point.point-index c.args.listed.now c.loop-point-test.false) c.loop-point.invariant.1
