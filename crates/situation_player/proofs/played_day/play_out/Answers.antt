use Rattle.std.proofs.Common.{ℕ, ◌<◌, List, length, Vec, Global, ◌∙◌, ap, sym, subst, arith}
use Rattle.std.specs.List.{All}
use Rattle.net_model.specs.declared.ids.PointId.{PointId}
use Rattle.net_model.specs.declared.part.Link.{Link}
use Rattle.situation_player.specs.PlayedDays.{lastings_of}
use Rattle.situation_player.proofs.FollowingLemmas.{following_start, timed_all, completing_stand, following_step, following_over, come_all, over_count, read_earliest, read_complete}
use Rattle.situation_player.proofs.played_day.play_out.Goals as goal

pub loop-moment-init : goal.loop-moment-init
loop-moment-init c = record {
  follows = following_start c.args.net.now c.args.situation.now.items c.args.executor.now c.requires.started c.requires.situation;
  lastings =
      c.in_ok-lastings.ensures
      ∙ ap (λ (links : List Link). lastings_of links c.as_slice.result.now) c.links.ensures.links
      ∙ ap (lastings_of c.args.net.now.links) c.as_slice.ensures.value;
}

pub next_moment-requires : goal.next_moment-requires
next_moment-requires c =
    timed_all c.args.net.now c.args.situation.now.items c.loop-moment.executor c.loop-moment.invariant.follows c.as_slice-in-loop-moment.result.now
    (c.as_slice-in-loop-moment.ensures.value ∙ c.loop-moment.invariant.lastings)

pub completing_at-requires : goal.completing_at-requires
completing_at-requires c =
    timed_all c.args.net.now c.args.situation.now.items c.loop-moment.executor c.loop-moment.invariant.follows c.as_slice-in-Some.result.now
    (c.as_slice-in-Some.ensures.value ∙ c.loop-moment.invariant.lastings)

pub feed-requires : goal.feed-requires
feed-requires c =
    subst (λ (points : List PointId). All (λ (point : PointId). point.0 < length c.loop-moment.executor.setting.dispatch) points)
    (sym (c.as_slice-in-Some-2.ensures.value ∙ c.in_ok-completing.ensures))
    (completing_stand c.args.net.now c.args.situation.now.items c.loop-moment.executor c.loop-moment.invariant.follows c.as_slice-in-Some.result.now
    (c.as_slice-in-Some.ensures.value ∙ c.loop-moment.invariant.lastings) c.in-Some.moment)

pub loop-moment-smaller : goal.loop-moment-smaller
loop-moment-smaller c =
    let step =
    following_step c.args.net.now c.args.situation.now.items c.loop-moment.executor c.loop-moment.invariant.follows c.as_slice-in-loop-moment.result.now
    (c.as_slice-in-loop-moment.ensures.value ∙ c.loop-moment.invariant.lastings) c.next_moment.result c.next_moment.ensures c.in-Some.moment c.in-Some.is
    c.as_slice-in-Some-2.result.now c.as_slice-in-Some.result.now (c.as_slice-in-Some.ensures.value ∙ c.loop-moment.invariant.lastings)
    (c.as_slice-in-Some-2.ensures.value ∙ c.in_ok-completing.ensures) c.feed.result c.feed.new.self c.feed.ensures.fed in
    omega (arith, step.1, step.2, step.3)

pub loop-moment-preserved : goal.loop-moment-preserved
loop-moment-preserved c = record {
  follows =
      (following_step c.args.net.now c.args.situation.now.items c.loop-moment.executor c.loop-moment.invariant.follows c.as_slice-in-loop-moment.result.now
      (c.as_slice-in-loop-moment.ensures.value ∙ c.loop-moment.invariant.lastings) c.next_moment.result c.next_moment.ensures c.in-Some.moment c.in-Some.is
      c.as_slice-in-Some-2.result.now c.as_slice-in-Some.result.now (c.as_slice-in-Some.ensures.value ∙ c.loop-moment.invariant.lastings)
      (c.as_slice-in-Some-2.ensures.value ∙ c.in_ok-completing.ensures) c.feed.result c.feed.new.self c.feed.ensures.fed).0;
  lastings = c.loop-moment.invariant.lastings;
}

pub moments_of-requires-clause-points : goal.moments_of-requires-clause-points
moments_of-requires-clause-points c =
    let over = following_over c.args.net.now c.args.situation.now.items c.loop-moment.executor c.loop-moment.invariant.follows c.as_slice-in-loop-moment.result.now
    (c.as_slice-in-loop-moment.ensures.value ∙ c.loop-moment.invariant.lastings) c.next_moment.result c.next_moment.ensures c.in_default.is c.finish.result c.finish.new.self
    c.finish.ensures.finished c.finish.ensures.earliest in
    ap (length {A = List ℕ}) c.points.ensures.points ∙ sym over.points

pub moments_of-requires-clause-moments : goal.moments_of-requires-clause-moments
moments_of-requires-clause-moments c =
    let over = following_over c.args.net.now c.args.situation.now.items c.loop-moment.executor c.loop-moment.invariant.follows c.as_slice-in-loop-moment.result.now
    (c.as_slice-in-loop-moment.ensures.value ∙ c.loop-moment.invariant.lastings) c.next_moment.result c.next_moment.ensures c.in_default.is c.finish.result c.finish.new.self
    c.finish.ensures.finished c.finish.ensures.earliest in
    over_count over.schedule c.finish.new.self.moments (length c.args.net.now.points) over.moments over.complete ∙ sym over.points

pub moments_of-requires-clause-come : goal.moments_of-requires-clause-come
moments_of-requires-clause-come c =
    let over = following_over c.args.net.now c.args.situation.now.items c.loop-moment.executor c.loop-moment.invariant.follows c.as_slice-in-loop-moment.result.now
    (c.as_slice-in-loop-moment.ensures.value ∙ c.loop-moment.invariant.lastings) c.next_moment.result c.next_moment.ensures c.in_default.is c.finish.result c.finish.new.self
    c.finish.ensures.finished c.finish.ensures.earliest in
    come_all over.schedule c.finish.new.self.moments over.moments

pub returns-clause-earliest : goal.returns-clause-earliest
returns-clause-earliest c =
    let over = following_over c.args.net.now c.args.situation.now.items c.loop-moment.executor c.loop-moment.invariant.follows c.as_slice-in-loop-moment.result.now
    (c.as_slice-in-loop-moment.ensures.value ∙ c.loop-moment.invariant.lastings) c.next_moment.result c.next_moment.ensures c.in_default.is c.finish.result c.finish.new.self
    c.finish.ensures.finished c.finish.ensures.earliest in
    read_earliest c.args.net.now c.args.situation.now.items (λ (v : Vec ℕ Global). v.items) c.moments_of.result c.finish.new.self.moments over.schedule over.moments over.earliest c.moments_of.ensures

pub returns-clause-complete : goal.returns-clause-complete
returns-clause-complete c =
    let over = following_over c.args.net.now c.args.situation.now.items c.loop-moment.executor c.loop-moment.invariant.follows c.as_slice-in-loop-moment.result.now
    (c.as_slice-in-loop-moment.ensures.value ∙ c.loop-moment.invariant.lastings) c.next_moment.result c.next_moment.ensures c.in_default.is c.finish.result c.finish.new.self
    c.finish.ensures.finished c.finish.ensures.earliest in
    read_complete (length c.args.net.now.points) (λ (v : Vec ℕ Global). v.items) c.moments_of.result c.finish.new.self.moments over.schedule over.moments over.complete c.moments_of.ensures
