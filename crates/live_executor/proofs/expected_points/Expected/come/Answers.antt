use Rattle.std.proofs.Common.{◌≡◌, ◌<◌, ◌∙◌, ◌+◌, ℕ, None, length, ap, sym, subst, get_or, arith}
use Rattle.std.proofs.lemmas.List.{length-set}
use Rattle.net_model.specs.declared.ids.PointId.{PointId}
use Rattle.net_model.specs.Moments.{Moments}
use Rattle.live_executor.proofs.ExpectedLemmas.{IsNoted, first_noted, noted_more, all_noted}
use Rattle.live_executor.proofs.expected_points.Expected.come.Goals as goal

pub loop-other-init : goal.loop-other-init
loop-other-init c =
    let setting = c.args.dispatched.now.setting in
    let moments = c.args.moments.now in
    let old = c.args.self.now.latest in
    let points = c.activated-other-items.result.now in
    let inside : c.args.point.0 < length old = omega (arith, c.requires.point, c.requires.count) in
    record {
      each = λ other. subst (λ (now : Moments). IsNoted setting moments c.args.point points old 0 now other) (sym c.set.ensures) (first_noted setting moments c.args.point points old inside c.requires.come other);
      count = ap (λ (now : Moments). length now) c.set.ensures ∙ length-set old c.args.point.0 None;
    }

pub loop-other-preserved : goal.loop-other-preserved
loop-other-preserved c =
    let setting = c.args.dispatched.now.setting in
    let moments = c.args.moments.now in
    let old = c.args.self.now.latest in
    let points = c.activated-other-items.result.now in
    let i = c.loop-other.other-index in
    let d : PointId = record { 0 = 0 } in
    let now = c.loop-other.self.latest in
    let latest = c.latest_of-latest.result in
    let below = c.activated-other-items.ensures.inside i d c.loop-other-test.true in
    let within : (get_or points i d).0 < length now = omega (arith, below, c.loop-other.invariant.count, c.requires.count) in
    record {
      each = λ other.
          subst (λ (after : Moments). IsNoted setting moments c.args.point points old (i + 1) after other) (sym c.set-in-loop-other.ensures)
          (noted_more setting moments c.args.point points old i d now latest c.loop-other-test.true within c.latest_of-latest.ensures other (c.loop-other.invariant.each other));
      count = ap (λ (after : Moments). length after) c.set-in-loop-other.ensures ∙ (length-set now (get_or points i d).0 latest ∙ c.loop-other.invariant.count);
    }

pub returns : goal.returns
returns c =
    let setting = c.args.dispatched.now.setting in
    let moments = c.args.moments.now in
    let old = c.args.self.now.latest in
    let points = c.activated-other-items.result.now in
    let all : c.loop-other.other-index ≡ length points = omega (arith, c.loop-other.auto.other-index-end) in
    record {
      each = λ other.
          all_noted setting moments c.args.point points old c.activated-other-items.ensures.activated c.loop-other.self.latest other
          (subst (λ (k : ℕ). IsNoted setting moments c.args.point points old k c.loop-other.self.latest other) all (c.loop-other.invariant.each other));
      count = c.loop-other.invariant.count;
    }
