use Rattle.std.proofs.Common.{◌≡◌, ◌<◌, ◌≤◌, ◌++◌, [], false, length, sym, ap, subst, refl, ◌∙◌, arith, Result, Ok, Err}
use Rattle.std.specs.Result.{OnErr}
use Rattle.plan_port.specs.Lines.{DecideNothing}
use Rattle.plan_port.specs.Reader.{Reader, spare_capacity, Takes, WantsCapacity}
use Rattle.plan_port.specs.ReaderSteps.{has_failed, pieces_given}
use Rattle.plan_port.proofs.FirstLines.{decide_nothing, nothing_is_small}
use Rattle.plan_port.proofs.Readings.{Takes-none, Takes-more, nearer, not_failed, not_has_failed, distance}
use Rattle.plan_port.proofs.lines.LineReader.take_until_decided.Goals as goal

on_err : {A E : Type 0} (result : Result A E) (P : Type 0) → P → OnErr result P
on_err (Ok value) P p = tt
on_err (Err error) P p = p

pub loop-self-init : goal.loop-self-init
loop-self-init g c = (
  [],
  subst (λ (r : Reader). Takes c.args.longest c.args.self.now r [] false (g.P.Port.seen c.args.port.now) (g.P.Port.seen c.args.port.now)) (sym c.forget_text.ensures)
      (Takes-none c.args.longest c.args.self.now (g.P.Port.seen c.args.port.now)),
)

pub returns-in_err-fill-clause-wants : goal.returns-in_err-fill-clause-wants
returns-in_err-fill-clause-wants g c =
    let longest = c.args.longest in
    let before = c.loop-self.self in
    let mid = c.decide-verdict.new.self in
    let same = c.decide-verdict.ensures.same in
    let was : DecideNothing longest (spare_capacity before) before.kept = decide_nothing longest (spare_capacity before) before.kept (sym c.decide-verdict.ensures.value ∙ c.if-is_clear.ensures.unclear refl) in
    let decides : DecideNothing longest (spare_capacity mid) mid.kept = subst (λ (r : Reader). DecideNothing longest (spare_capacity r) r.kept) (sym same) was in
    let facts = c.in_err-fill.ensures in
    on_err c.from_residual.result (WantsCapacity longest c.fill.new.self) (subst (λ (r : Reader). WantsCapacity longest r) (sym facts.kept) (record { long = facts.wants; running = sym c.if-has_ended.ensures; undecided = decides }))

pub loop-self-smaller : goal.loop-self-smaller
loop-self-smaller g c =
    let longest = c.args.longest in
    let before = c.loop-self.self in
    let mid = c.decide-verdict.new.self in
    let same = c.decide-verdict.ensures.same in
    let decides : DecideNothing longest (spare_capacity before) before.kept = decide_nothing longest (spare_capacity before) before.kept (sym c.decide-verdict.ensures.value ∙ c.if-is_clear.ensures.unclear refl) in
    let small : length before.kept ≤ longest = (nothing_is_small longest (spare_capacity before) before.kept decides).0 in
    let size : length mid.kept ≤ longest = omega (arith, small, ap (λ (r : Reader). length r.kept) same) in
    let took = c.in_ok-fill.ensures.takes in
    let decreased = nearer longest mid c.fill.new.self c.in_ok-fill.field-0 took.0 (g.P.Port.seen c.loop-self.port) (g.P.Port.seen c.fill.new.port) (not_failed c.in_ok-fill.field-0 c.in-Bytes.is) took.1
    (sym c.if-has_ended.ensures) size took.2 in
    subst (λ (r : Reader). distance longest c.fill.new.self < distance longest r) same decreased

pub loop-self-preserved : goal.loop-self-preserved
loop-self-preserved g c =
    let longest = c.args.longest in
    let before = c.loop-self.self in
    let mid = c.decide-verdict.new.self in
    let same = c.decide-verdict.ensures.same in
    let inv = c.loop-self.invariant in
    let a = g.P.Port.seen c.args.port.now in
    let b = g.P.Port.seen c.loop-self.port in
    let was : DecideNothing longest (spare_capacity before) before.kept = decide_nothing longest (spare_capacity before) before.kept (sym c.decide-verdict.ensures.value ∙ c.if-is_clear.ensures.unclear refl) in
    let decides : DecideNothing longest (spare_capacity mid) mid.kept = subst (λ (r : Reader). DecideNothing longest (spare_capacity r) r.kept) (sym same) was in
    let took = c.in_ok-fill.ensures.takes in
    let earlier = subst (λ (r : Reader). Takes longest c.args.self.now r inv.0 false a b) (sym same) inv.1 in
    let more = Takes-more longest c.args.self.now mid c.fill.new.self c.in_ok-fill.field-0 took.0 inv.0 a b (g.P.Port.seen c.fill.new.port) earlier took.1 (sym c.if-has_ended.ensures) decides took.2 in
    let kept : has_failed c.in_ok-fill.field-0 ≡ false = not_has_failed c.in_ok-fill.field-0 (not_failed c.in_ok-fill.field-0 c.in-Bytes.is) in
    (inv.0 ++ pieces_given c.in_ok-fill.field-0 took.0, subst (λ f. Takes longest c.args.self.now c.fill.new.self (inv.0 ++ pieces_given c.in_ok-fill.field-0 took.0) f a (g.P.Port.seen c.fill.new.port)) kept more)
