use Rattle.std.proofs.Common.{◌≡◌, ◌+◌, ◌∙◌, length, sym, subst, arith, take}
use Rattle.std.specs.List.{All}
use Rattle.std.proofs.lemmas.List.Elements.{All-contains}
use Rattle.dispatch_net.specs.Dispatchable.{conditions_at, no_conditions}
use Rattle.execution_model.specs.Execution.{Setting}
use Rattle.live_executor.specs.Sound.{IsLowerBound, IsLinkWithin}
use Rattle.live_executor.specs.Wakes.{AreWakesOf}
use Rattle.live_executor.proofs.WakesLemmas.{no_points, one_point_more, all_points, place_inside}
use Rattle.live_executor.proofs.wakes.Wakes.of.Goals as goal

pub loop-number-init : goal.loop-number-init
loop-number-init c =
    no_points (record { links = c.args.dispatch.now.links; dispatch = c.args.dispatch.now.kept }) c.args.points (record { fixes = c.in_ok-fixes.fixes; ends = c.in_ok-ends.ends }) c.in_ok-fixes.ensures c.in_ok-ends.ensures

pub add-requires-clause-bounds : goal.add-requires-clause-bounds
add-requires-clause-bounds c =
    let kept = c.args.dispatch.now.kept in
    let n = c.loop-number.number in
    let same : length kept ≡ length c.loop-number.wakes.fixes = sym c.requires.count ∙ sym c.loop-number.invariant.fixes_count in
    subst (λ m. All (IsLowerBound m) (conditions_at kept (record { 0 = n })).lower_bounds) same (c.requires.sound.bounds n no_conditions (omega (arith, c.requires.count)))

pub add-requires-clause-waits : goal.add-requires-clause-waits
add-requires-clause-waits c = c.requires.sound.waits c.loop-number.number no_conditions (omega (arith, c.requires.count))

pub add-requires-clause-links : goal.add-requires-clause-links
add-requires-clause-links c =
    let same : length c.args.dispatch.now.kept ≡ length c.loop-number.wakes.fixes = sym c.requires.count ∙ sym c.loop-number.invariant.fixes_count in
    subst (λ m. All (IsLinkWithin m) c.args.dispatch.now.links) same c.requires.sound.links

pub loop-number-preserved : goal.loop-number-preserved
loop-number-preserved c =
    let kept = c.args.dispatch.now.kept in
    let links = c.args.dispatch.now.links in
    let n = c.loop-number.number in
    let setting : Setting = record { links = links; dispatch = kept } in
    let points = c.args.points in
    let bounds = subst (λ m. All (IsLowerBound m) (conditions_at kept (record { 0 = n })).lower_bounds) (sym c.requires.count) (c.requires.sound.bounds n no_conditions (omega (arith, c.requires.count))) in
    let ends = subst (λ m. All (IsLinkWithin m) links) (sym c.requires.count) c.requires.sound.links in
    subst (AreWakesOf (record { links = links; dispatch = take (n + 1) kept }) points) (sym c.in_ok-add.ensures)
    (one_point_more setting points n c.loop-number.wakes c.loop-number.invariant (omega arith)
    (λ bound among. (All-contains (IsLowerBound points) (conditions_at kept (record { 0 = n })).lower_bounds bound bounds among).within)
    (λ wait among. place_inside (λ link. link.from) points links wait (λ link there. (All-contains (IsLinkWithin points) links link ends there).from_point))
    (λ wait among. place_inside (λ link. link.to) points links wait (λ link there. (All-contains (IsLinkWithin points) links link ends there).to_point)))

pub returns : goal.returns
returns c =
    all_points (record { links = c.args.dispatch.now.links; dispatch = c.args.dispatch.now.kept }) c.args.points c.loop-number.number c.loop-number.wakes (omega (arith, c.requires.count)) c.loop-number.invariant
