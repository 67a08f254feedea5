use Rattle.std.proofs.Common.{rules, ◌≡◌, ◌+◌, ℤ, pos, false, ◌||◌, sym, subst, get_or}
use mir.Val.{to_z, of_z}
use Rattle.std.proofs.Math.Facts.{to_z-of_z}
use mir.Syntax.{w32}
use Rattle.labelled_graph.specs.Words.{held, SaturatesHeld}
use Rattle.labelled_graph.proofs.WordLemmas.{one_more, AreMet}
use Rattle.labelled_graph.proofs.dense_row.improves_in.Goals as goal

pub loop-place-preserved : goal.loop-place-preserved
loop-place-preserved c =
    let kept : to_z w32 (of_z w32 c.args.weight) ≡ c.args.weight = to_z-of_z c.ranges.weight in
    let first : ℤ = get_or c.args.firsts.now c.loop-place.place (pos 0) in
    let other : ℤ = get_or c.args.there.now c.loop-place.place (pos 0) in
    let first_kept : to_z w32 (of_z w32 (get_or c.args.firsts.now c.loop-place.place (pos 0))) ≡ get_or c.args.firsts.now c.loop-place.place (pos 0) = search rules in
    let other_kept : to_z w32 (of_z w32 (get_or c.args.there.now c.loop-place.place (pos 0))) ≡ get_or c.args.there.now c.loop-place.place (pos 0) = search rules in
    let here : c.descends-improves_in.result ≡ false → SaturatesHeld (held first) (held other) c.args.weight =
    subst (λ (w : ℤ). c.descends-improves_in.result ≡ false → SaturatesHeld (held first) (held other) w) kept
    (subst (λ (w : ℤ). c.descends-improves_in.result ≡ false → SaturatesHeld (held first) (held w) (to_z w32 (of_z w32 c.args.weight))) other_kept
    (subst (λ (w : ℤ). c.descends-improves_in.result ≡ false → SaturatesHeld (held w) (held (to_z w32 (of_z w32 other))) (to_z w32 (of_z w32 c.args.weight))) first_kept c.descends-improves_in.ensures)) in
    let saturates = one_more c.args.firsts.now c.args.there.now c.args.from c.loop-place.place c.args.weight c.loop-place.improves_in c.descends-improves_in.result
    (subst (λ (w : ℤ). c.loop-place.improves_in ≡ false → AreMet c.args.firsts.now c.args.there.now c.args.from c.loop-place.place w) kept c.loop-place.invariant) here in
    subst (λ (w : ℤ). (c.loop-place.improves_in || c.descends-improves_in.result) ≡ false → AreMet c.args.firsts.now c.args.there.now c.args.from (c.loop-place.place + 1) w) (sym kept) saturates
