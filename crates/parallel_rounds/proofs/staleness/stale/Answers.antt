-- One point more.
use Rattle.std.proofs.Common.{Bool, List, [], ◌∷◌, ◌++◌, length, ap, ◌∙◌, arith}
use Rattle.std.specs.Prelude.{filter}
use Rattle.parallel_rounds.specs.Targets.{is_reached}
use Rattle.parallel_rounds.proofs.StaleSteps.{reached_more, stale_are}
use Rattle.parallel_rounds.proofs.staleness.stale.Goals as goal

pub loop-point-preserved : goal.loop-point-preserved
loop-point-preserved c =
    reached_more c.args.table.now c.in_ok-marks.marks.items c.loop-point.point c.loop-point.targets.items c.push_stale.new.targets.items c.loop-point.invariant
    (c.in_ok-push_stale.ensures ∙ ap (λ (marks : List Bool). c.loop-point.targets.items ++ filter (is_reached c.args.table.now marks) (record { 0 = c.loop-point.point } ∷ [])) c.as_slice.ensures.value)

pub returns : goal.returns
returns c =
    stale_are c.args.net.now c.args.table.now c.args.changed.now c.in_ok-marks.marks.items c.loop-point.point c.loop-point.targets.items c.requires.fits
    (omega (arith, c.loop-point-test.false, c.loop-point.auto, ap length c.points.ensures.points)) (omega (arith, c.in_ok-marks.ensures.count, c.loop-point-test.false, c.loop-point.auto)) c.requires.points c.in_ok-marks.ensures.marks
    c.loop-point.invariant
