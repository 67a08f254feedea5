use Rattle.std.proofs.Common.{◌∙◌, ◌<◌, ◌-◌, ℤ, pos, Bool, length, sym, arith}
use Rattle.std.specs.Prelude.{◌||◌, slice_get, false}
use Rattle.std.specs.Option.{option_map_or}
use Rattle.std.proofs.lemmas.List.Folds.{list_any_at}
use Rattle.net_model.specs.declared.ids.PointId.{PointId}
use Rattle.dispatch_net.specs.Slim.{over_end, over_wait}
use Rattle.dispatch_net.proofs.held_lists.Held.is_wait_implied.Goals as goal

pub returns-then-is_wait_over : goal.returns-then-is_wait_over
returns-then-is_wait_over c =
    let held = c.args.self.now in
    let test : PointId × ℤ → Bool = λ other. option_map_or (over_end c.args.wait.1 other) (slice_get held.links c.args.wait.0.0) false || over_wait held.lists c.args.wait other in
    let none : PointId × ℤ = (record { 0 = 0 }, pos 0) in
    let within = c.loop-left.invariant.within in
    let inside : c.loop-left.left - 1 < length c.args.others.now = omega (arith, within, c.loop-left-test.true) in
    sym (list_any_at test c.args.others.now (c.loop-left.left - 1) none inside (sym c.is_wait_over.ensures ∙ c.if-is_wait_over.true))
