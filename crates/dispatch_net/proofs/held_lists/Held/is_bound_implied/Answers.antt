use Rattle.std.proofs.Common.{◌∙◌, ◌<◌, ◌-◌, ℤ, pos, Bool, length, sym, arith}
use Rattle.std.specs.Prelude.{◌||◌}
use Rattle.std.proofs.lemmas.List.Folds.{list_any_at}
use Rattle.net_model.specs.declared.ids.PointId.{PointId}
use Rattle.dispatch_net.specs.Slim.{over_point, implied_over_link}
use Rattle.dispatch_net.proofs.held_lists.Held.is_bound_implied.Goals as goal

pub returns-then-is_over : goal.returns-then-is_over
returns-then-is_over c =
    let held = c.args.self.now in
    let test : PointId × ℤ → Bool = λ other. over_point held.lists c.args.bound other || implied_over_link held.links c.args.bound other in
    let none : PointId × ℤ = (record { 0 = 0 }, pos 0) in
    let within = c.loop-left.invariant.within in
    let inside : c.loop-left.left - 1 < length c.args.others.now = omega (arith, within, c.loop-left-test.true) in
    sym (list_any_at test c.args.others.now (c.loop-left.left - 1) none inside (sym c.is_over.ensures ∙ c.if-is_over.true))
