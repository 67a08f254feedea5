use Rattle.std.proofs.Common.{◌∙◌, ℕ, Some, None, sym, subst, arith}
use Rattle.net_model.specs.declared.ids.PointId.{PointId}
use Rattle.tournament_queue.specs.First.{IsFirstDue}
use Rattle.live_executor.specs.Sound.{made_setting}
use Rattle.live_executor.proofs.ExpectedLemmas.{none_before_first, none_without_first}
use Rattle.live_executor.proofs.CompletionLemmas.{overdue_nowhere}
use Rattle.live_executor.proofs.expected_points.Expected.first_overdue.Goals as goal

pub returns-in_err-latest : goal.returns-in_err-latest
returns-in_err-latest c =
    let network = c.args.dispatched.now in
    let moments = c.args.moments.now in
    let none : IsFirstDue c.args.self.now.latest None = subst (IsFirstDue c.args.self.now.latest) c.in_err-latest.was c.first.ensures in
    c.from_residual.ensures
    ∙ sym (overdue_nowhere (made_setting network) moments c.args.moment
    (λ j inside. none_without_first network.setting moments c.args.moment c.args.self.now.latest c.requires.latest none j (omega (arith, inside, c.points.ensures.count, c.points.ensures.made))))

pub returns-then-moment-latest : goal.returns-then-moment-latest
returns-then-moment-latest c =
    let network = c.args.dispatched.now in
    let moments = c.args.moments.now in
    let first : ℕ × PointId = (c.in_ok-latest.latest, c.in_ok-latest.field-0-1) in
    let is : IsFirstDue c.args.self.now.latest (Some first) = subst (IsFirstDue c.args.self.now.latest) c.in_ok-latest.was c.first.ensures in
    sym (overdue_nowhere (made_setting network) moments c.args.moment
    (λ j inside. none_before_first network.setting moments c.args.moment c.args.self.now.latest c.requires.latest first is c.if-moment-latest.true j (omega (arith, inside, c.points.ensures.count, c.points.ensures.made))))
