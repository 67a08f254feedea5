use Rattle.std.proofs.Common.{◌≡◌, ◌∙◌, ◌+◌, ◌-◌, ◌<◌, List, length, get_or, set, arith, refl, ap, subst}
use Rattle.net_model.specs.declared.ids.PointId.{PointId}
use Rattle.net_model.specs.declared.part.Link.{Link}
use Rattle.dispatch_net.specs.Dispatchable.{conditions_at}
use Rattle.dispatch_net.specs.Slim.{slim_conditions}
use Rattle.dispatch_net.proofs.DownLemmas.{IsPartway, none_done, all_done, on_others, within, one_done}
use Rattle.dispatch_net.proofs.held_lists.Held.slim.Goals as goal

pub loop-left-init : goal.loop-left-init
loop-left-init c = record {
  links = refl;
  partway = none_done c.args.self.now.links c.args.self.now.lists c.args.order.now c.requires.down;
  within = omega arith;
  spare_capacity = refl;
}

pub thin-requires : goal.thin-requires
thin-requires c =
    let whole = c.args.self.now in
    let now = c.loop-left.self in
    let order = c.args.order.now in
    let i = c.loop-left.left - 1 in
    let none : PointId = record { 0 = 0 } in
    let before = c.loop-left.invariant.within in
    let inside : i < length order = omega (arith, before, c.loop-left-test.true) in
    let same : c.loop-left.left ≡ i + 1 = omega (arith, c.loop-left-test.true) in
    let partway = subst (IsPartway whole.links whole.lists now.lists order) same c.loop-left.invariant.partway in
    record {
      within = within whole.links whole.lists order c.requires.down now.lists i none inside partway;
      on_others = on_others whole.links whole.lists order c.requires.down now.lists i none inside partway;
      spare_capacity = omega (arith, c.requires.spare_capacity, c.loop-left.invariant.spare_capacity, partway.count);
    }

pub loop-left-preserved : goal.loop-left-preserved
loop-left-preserved c =
    let whole = c.args.self.now in
    let now = c.loop-left.self in
    let order = c.args.order.now in
    let i = c.loop-left.left - 1 in
    let none : PointId = record { 0 = 0 } in
    let point = get_or order i none in
    let before = c.loop-left.invariant.within in
    let inside : i < length order = omega (arith, before, c.loop-left-test.true) in
    let same : c.loop-left.left ≡ i + 1 = omega (arith, c.loop-left-test.true) in
    let partway = subst (IsPartway whole.links whole.lists now.lists order) same c.loop-left.invariant.partway in
    record {
      links = c.thin.ensures.links ∙ c.loop-left.invariant.links;
      partway = one_done whole.links whole.lists order c.requires.down now.lists i none inside partway c.thin.new.self.lists
          (c.thin.ensures.lists ∙ ap (λ (links : List Link). set now.lists point.0 (slim_conditions links now.lists (conditions_at now.lists point))) c.loop-left.invariant.links);
      within = omega (arith, inside);
      spare_capacity = c.thin.ensures.spare_capacity ∙ c.loop-left.invariant.spare_capacity;
    }

pub returns-clause-lists : goal.returns-clause-lists
returns-clause-lists c =
    let whole = c.args.self.now in
    let done : c.loop-left.left ≡ 0 = omega (arith, c.loop-left-test.false) in
    all_done whole.links whole.lists c.args.order.now c.requires.down c.loop-left.self.lists
    (subst (IsPartway whole.links whole.lists c.loop-left.self.lists c.args.order.now) done c.loop-left.invariant.partway)
