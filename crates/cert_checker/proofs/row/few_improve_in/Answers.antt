use Rattle.std.proofs.Common.{rules, w64, to_z, of_z, ◌≡◌, ◌∙◌, pos, true, false, List, get_or, sym, arith}
use Rattle.cert_checker.specs.declared.few.Start.{Start}
use Rattle.cert_checker.specs.Least.{absent, descends}
use Rattle.cert_checker.proofs.ImprovementLemmas.{start_improves, starts_stay, none_more}
use Rattle.cert_checker.proofs.row.few_improve_in.Goals as goal

-- none of a point
none : Start
none = record { from = 0; word = pos 0 }

pub returns-then-descends : goal.returns-then-descends
unfolding none
returns-then-descends c =
    let starts : List Start = c.starts-start-items.result.now in
    let start : Start = get_or starts c.loop-start.start-index none in
    let one : to_z w64 (of_z w64 start.word) ≡ start.word = search rules in
    let two : to_z w64 (of_z w64 c.get.result) ≡ c.get.result = search rules in
    let three : to_z w64 (of_z w64 c.args.second.now.weight) ≡ c.args.second.now.weight = search rules in
    let is : descends start.word (get_or c.args.there.now start.from absent) c.args.second.now.weight ≡ true = sym (c.descends.ensures ∙ (λ i. descends (one i) ((two ∙ c.get.ensures) i) (three i))) ∙ c.if-descends.true in
    sym (start_improves c.args.firsts.now c.args.there.now c.args.second.now.weight starts c.starts-start-items.ensures.words c.starts-start-items.ensures.sound c.loop-start.start-index none c.loop-start-test.true c.requires.lengths is)

pub loop-start-preserved : goal.loop-start-preserved
unfolding none
loop-start-preserved c =
    let starts : List Start = c.starts-start-items.result.now in
    let start : Start = get_or starts c.loop-start.start-index none in
    let one : to_z w64 (of_z w64 start.word) ≡ start.word = search rules in
    let two : to_z w64 (of_z w64 c.get.result) ≡ c.get.result = search rules in
    let three : to_z w64 (of_z w64 c.args.second.now.weight) ≡ c.args.second.now.weight = search rules in
    let is : descends start.word (get_or c.args.there.now start.from absent) c.args.second.now.weight ≡ false = sym (c.descends.ensures ∙ (λ i. descends (one i) ((two ∙ c.get.ensures) i) (three i))) ∙ c.if-descends.false in
    none_more starts c.args.there.now c.args.second.now.weight c.loop-start.start-index none c.loop-start-test.true c.loop-start.invariant is

pub returns : goal.returns
returns c =
    sym (starts_stay c.args.firsts.now c.args.there.now c.args.second.now.weight c.starts-start-items.result.now c.starts-start-items.ensures.words c.starts-start-items.ensures.sound
    (λ k d inside. c.loop-start.invariant k d (omega (arith, c.loop-start-test.false))))
