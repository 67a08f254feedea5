use Rattle.std.proofs.Common.{rules, w64, to_z, of_z, pos, ◌≡◌, ◌∙◌, ℤ, true, false, get_or, sym, arith}
use Rattle.std.proofs.lemmas.List.{get_or_default}
use Rattle.cert_checker.specs.Least.{absent, descends}
use Rattle.cert_checker.proofs.RowLemmas.{improves_at}
use Rattle.cert_checker.proofs.ImprovementLemmas.{each_stays, each_more}
use Rattle.cert_checker.proofs.row.words_improve_in.Goals as goal

pub returns-then-descends : goal.returns-then-descends
returns-then-descends c =
    let long = c.len-from-end.ensures in
    let lengths = c.requires.lengths in
    let first : ℤ = get_or c.args.firsts.now c.loop-from.from absent in
    let one : to_z w64 (of_z w64 (get_or c.args.firsts.now c.loop-from.from (pos 0))) ≡ get_or c.args.firsts.now c.loop-from.from (pos 0) = search rules in
    let same : get_or c.args.firsts.now c.loop-from.from (pos 0) ≡ first = get_or_default c.args.firsts.now c.loop-from.from (pos 0) absent (omega (arith, c.len-from-end.ensures, c.requires.lengths, c.loop-from-test.true)) in
    let two : to_z w64 (of_z w64 c.get.result) ≡ c.get.result = search rules in
    let three : to_z w64 (of_z w64 c.args.second.now.weight) ≡ c.args.second.now.weight = search rules in
    let is : descends first (get_or c.args.there.now c.loop-from.from absent) c.args.second.now.weight ≡ true = sym (c.descends.ensures ∙ (λ i. descends ((one ∙ same) i) ((two ∙ c.get.ensures) i) (three i))) ∙ c.if-descends.true in
    sym (improves_at c.args.firsts.now c.args.there.now c.args.second.now.weight c.loop-from.from (omega (arith, c.loop-from-test.true)) (omega (arith, c.loop-from-test.true)) is)

pub loop-from-preserved : goal.loop-from-preserved
loop-from-preserved c =
    let first : ℤ = get_or c.args.firsts.now c.loop-from.from absent in
    let one : to_z w64 (of_z w64 (get_or c.args.firsts.now c.loop-from.from (pos 0))) ≡ get_or c.args.firsts.now c.loop-from.from (pos 0) = search rules in
    let same : get_or c.args.firsts.now c.loop-from.from (pos 0) ≡ first = get_or_default c.args.firsts.now c.loop-from.from (pos 0) absent (omega (arith, c.len-from-end.ensures, c.requires.lengths, c.loop-from-test.true)) in
    let two : to_z w64 (of_z w64 c.get.result) ≡ c.get.result = search rules in
    let three : to_z w64 (of_z w64 c.args.second.now.weight) ≡ c.args.second.now.weight = search rules in
    let is : descends first (get_or c.args.there.now c.loop-from.from absent) c.args.second.now.weight ≡ false = sym (c.descends.ensures ∙ (λ i. descends ((one ∙ same) i) ((two ∙ c.get.ensures) i) (three i))) ∙ c.if-descends.false in
    each_more c.args.firsts.now c.args.there.now c.args.second.now.weight c.loop-from.from c.loop-from.invariant is

pub returns : goal.returns
returns c =
    let long = c.len-from-end.ensures in
    let lengths = c.requires.lengths in
    sym (each_stays c.args.firsts.now c.args.there.now c.args.second.now.weight (λ k inside. c.loop-from.invariant k (omega (arith, c.loop-from-test.false))))
