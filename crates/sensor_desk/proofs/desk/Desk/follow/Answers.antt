use Rattle.std.proofs.Common.{rules, ◌<◌, length, None, refl, sym, subst, ◌∙◌}
use Rattle.std.specs.Prelude.{take}
use Rattle.std.specs.List.{All}
use Rattle.net_model.specs.declared.ids.PointId.{PointId}
use Rattle.execution_model.specs.Earliest.{FeedsEarliest}
use Rattle.execution_model.specs.Feeds.{IsFed}
use Rattle.sensor_desk.specs.declared.follow_result.Followed.TheVariants as followed
use Rattle.sensor_desk.proofs.FollowerLemmas.{fed_for, followed_by, points_inside}
use Rattle.sensor_desk.proofs.desk.Desk.follow.Goals as goal

pub feed-requires : goal.feed-requires
feed-requires c =
    let findings = c.look_at_all-findings.ensures.so_far in
    let listed = take c.look_at_all-findings.result.count c.look_at_all-findings.new.room in
    subst (λ n. All (λ (point : PointId). point.0 < n) listed) (sym c.requires.executor.points)
    (subst (All (λ (point : PointId). point.0 < length c.args.net.now.points)) (sym findings.listed_is)
    (points_inside c.args.net.now c.args.executor.now.moments c.args.moment c.args.seat.now (length c.args.net.now.points) c.look_at_all-findings.new.seat findings.findings findings.are))

pub returns-in-None-clause-follows : goal.returns-in-None-clause-follows
returns-in-None-clause-follows c =
    let findings = c.look_at_all-findings.ensures.so_far in
    let fed = subst (λ (listed : _). IsFed c.args.executor.now c.args.moment listed c.feed.result c.feed.new.self) findings.listed_is c.feed.ensures.fed in
    let earliest = subst (λ (listed : _). FeedsEarliest c.args.executor.now c.args.moment listed c.feed.result c.feed.new.self) findings.listed_is c.feed.ensures.earliest in record {
      findings = findings.findings;
      are = findings.are;
      answer = followed_by c.args.moment findings.findings c.args.executor.now (followed.Fed c.feed.result) c.feed.new.self None (sym c.in-None.is ∙ findings.late_is) (c.feed.result, refl, fed, earliest);
    }

pub returns-in-None-clause-kept : goal.returns-in-None-clause-kept
returns-in-None-clause-kept c =
    let executor = fed_for c.args.executor.now c.args.moment (take c.look_at_all-findings.result.count c.look_at_all-findings.new.room) c.feed.result c.feed.new.self c.args.net.now c.requires.executor c.feed.ensures.fed in
    (search rules, executor, search rules)
