use Rattle.std.proofs.Common.{rules, w64, to_z, of_z, ◌≡◌, ◌∙◌, ℕ, ◌<◌, ℤ, Bool, pos, List, length, get_or, refl, arith}
use Rattle.cert_checker.specs.Least.{descends, improves_in}
use Rattle.cert_checker.proofs.RowLemmas.{improves_more, improves_end}
use Rattle.cert_checker.proofs.row.improves_in.Goals as goal

pub loop-place-init : goal.loop-place-init
loop-place-init c = refl

pub loop-place-preserved : goal.loop-place-preserved
loop-place-preserved c =
    let firsts : List ℤ = c.args.firsts.now in
    let there : List ℤ = c.args.there.now in
    let place : ℕ = c.loop-place.place in
    let one : to_z w64 (of_z w64 (get_or firsts place (pos 0))) ≡ get_or firsts place (pos 0) = search rules in
    let two : to_z w64 (of_z w64 (get_or there place (pos 0))) ≡ get_or there place (pos 0) = search rules in
    let three : to_z w64 (of_z w64 c.args.second.now.weight) ≡ c.args.second.now.weight = search rules in
    improves_more firsts there c.args.second.now.weight place c.loop-place.improves_in (improves_in firsts there c.args.second.now.weight) c.loop-place.invariant c.descends-improves_in.result
    c.loop-place-test.true (omega (arith, c.loop-place-test.true, c.requires.lengths)) (c.descends-improves_in.ensures ∙ (λ i. descends (one i) (two i) (three i)))

pub returns : goal.returns
returns c =
    improves_end c.args.firsts.now c.args.there.now c.args.second.now.weight c.loop-place.place c.loop-place.improves_in (improves_in c.args.firsts.now c.args.there.now c.args.second.now.weight) c.loop-place.invariant
    (omega (arith, c.loop-place-test.false))
