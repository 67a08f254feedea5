use Rattle.std.proofs.Common.{◌≡◌, ◌∙◌, ◌+◌, List, Ok, map, drop, sym, ap, subst, arith}
use Rattle.std.proofs.lemmas.Result.{err_from_is_err_and}
use Rattle.serde_json.specs.Data.{Data}
use Rattle.serde_json.specs.View.{view}
use Rattle.plan_json.specs.Document.{item_parts, items_parts, place_after}
use Rattle.plan_json.specs.DocumentReading.{Fails, with_prefix}
use Rattle.plan_json.specs.declared.place.Place.{Place}
use Rattle.plan_json.proofs.ItemsLemmas.{seen_from, one_read, one_refused}
use Rattle.plan_json.proofs.document.push_items.Goals as goal

pub returns-in_err-push_item-clause-parts : goal.returns-in_err-push_item-clause-parts
returns-in_err-push_item-clause-parts c =
    let prefix = c.loop-count.parts.items in
    let list = c.args.list in
    let count = c.loop-count.count in
    let items = c.args.items.now in
    let item = c.index-items-count.result in
    let fault = c.in_err-push_item.field-0.0 in
    let others = map view (drop (count + 1) items) in
    let all = seen_from view items count item c.loop-count-test.true c.index-items-count.is in
    let refused : Fails fault (with_prefix prefix (item_parts (place_after list count) (view item))) =
    subst (λ (place : Place). Fails fault (with_prefix prefix (item_parts place (view item)))) c.after.ensures c.in_err-push_item.ensures.parts in
    let p = err_from_is_err_and c.from_residual.result c.from_residual.ensures.1 in
    rw (p.1, p.2)
    (subst (Fails fault) (ap (λ (values : List Data). with_prefix prefix (items_parts list count values)) (sym all) ∙ c.loop-count.invariant.0) (one_refused prefix list count (view item) others fault refused))

pub loop-count-preserved : goal.loop-count-preserved
loop-count-preserved c =
    let i = c.loop-count.invariant in
    let prefix = c.loop-count.parts.items in
    let list = c.args.list in
    let count = c.loop-count.count in
    let items = c.args.items.now in
    let item = c.index-items-count.result in
    let now = c.push_item.new.parts.items in
    let others = map view (drop (count + 1) items) in
    let e = c.in_ok-push_item.ensures in
    let all = seen_from view items count item c.loop-count-test.true c.index-items-count.is in
    let read : with_prefix prefix (item_parts (place_after list count) (view item)) ≡ Ok now =
    subst (λ (place : Place). with_prefix prefix (item_parts place (view item)) ≡ Ok now) c.after.ensures e.parts in (
      sym (one_read prefix list count (view item) others now read) ∙ (ap (λ (values : List Data). with_prefix prefix (items_parts list count values)) (sym all) ∙ i.0),
      (let more = e.more in let so_far = i.1 in omega (arith, more, so_far)),
      e.few,
    )
