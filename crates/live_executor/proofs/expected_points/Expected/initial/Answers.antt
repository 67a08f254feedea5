use Rattle.std.proofs.Common.{◌≡◌, None, replicate, length, ap, sym, subst, ◌∙◌}
use Rattle.live_executor.specs.ExpectedPoints.{AreLatest}
use Rattle.live_executor.proofs.ExpectedLemmas.{none_expected}
use Rattle.live_executor.proofs.expected_points.Expected.initial.Goals as goal

pub returns : goal.returns
returns c =
    let setting = c.args.dispatched.now.setting in
    let none : c.in_ok-latest.latest ≡ replicate (length setting.dispatch) None = c.in_ok-latest.ensures ∙ ap (λ n. replicate n None) c.points.ensures.count in
    subst (AreLatest setting (replicate (length setting.dispatch) None)) (sym none) (none_expected setting)
