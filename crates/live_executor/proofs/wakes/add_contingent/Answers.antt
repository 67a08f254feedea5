use Rattle.std.proofs.Common.{◌≡◌, ◌<◌, ◌∙◌, ℕ, ℤ, pos, List, length, ap, arith, sym, get_or, Some, Option}
use Rattle.std.specs.Prelude.{slice_get}
use Rattle.std.specs.Option.{option_map}
use Rattle.net_model.specs.declared.ids.PointId.{PointId}
use Rattle.net_model.specs.declared.ids.LinkId.{LinkId}
use Rattle.net_model.specs.declared.part.Link.{Link}
use Rattle.live_executor.specs.Wakes.{added_to_list, wait_place}
use Rattle.live_executor.proofs.WakesLemmas.{length-added_to_list, gathered_more, got_inside}
use Rattle.live_executor.proofs.wakes.add_contingent.Goals as goal

pub add-requires : goal.add-requires
add-requires c =
    let d : LinkId × ℤ = (record { 0 = 0 }, pos 0) in
    let none : Link = record { from = record { 0 = 0 }; low = pos 0; high = pos 0; to = record { 0 = 0 } } in
    let inside = (c.requires.waits c.loop-link.link-index d c.loop-link-test.true).within in
    let low = (c.requires.links (get_or c.args.waits.now c.loop-link.link-index d).0.0 none inside).to_point in
    omega (arith, low, c.loop-link.invariant.count)

pub loop-link-preserved : goal.loop-link-preserved
loop-link-preserved c =
    let d : LinkId × ℤ = (record { 0 = 0 }, pos 0) in
    let none : Link = record { from = record { 0 = 0 }; low = pos 0; high = pos 0; to = record { 0 = 0 } } in
    let i = c.loop-link.link-index in
    let links = c.args.links.now in
    let k : ℕ = (get_or c.args.waits.now i d).0.0 in
    let at : PointId = (get_or links k none).to in
    let inside : k < length links = (c.requires.waits i d c.loop-link-test.true).within in
    let place : Option PointId = option_map (λ (link : Link). link.to) (slice_get links k) in
    let is : place ≡ Some at = ap (option_map (λ (link : Link). link.to)) (got_inside links k none inside) in
    record {
      gathered = c.in_ok-add.ensures ∙ (ap (λ (ls : List (List PointId)). added_to_list ls at c.args.point) c.loop-link.invariant.gathered
          ∙ sym (gathered_more (wait_place (λ (link : Link). link.to) links) c.args.point c.args.lists.now c.args.waits.now i d at c.loop-link-test.true is));
      count = ap (λ (ls : List (List PointId)). length ls) c.in_ok-add.ensures ∙ (length-added_to_list c.loop-link.lists at c.args.point ∙ c.loop-link.invariant.count);
    }
