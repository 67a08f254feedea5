use Rattle.std.proofs.Common.{rules, ◌≡◌, w64, to_z, of_z, ◌∙◌, ◌++◌, ◌∷◌, [], sym, arith}
use Rattle.std.proofs.lemmas.List.{take_more, take_all}
use Rattle.cert_checker.specs.Least.{absent}
use Rattle.cert_checker.proofs.FewLemmas.{row_long}
use Rattle.cert_checker.proofs.few.Few.words.Goals as goal

pub get-requires : goal.get-requires
get-requires c = let long = row_long c.self.inside.points c.self.inside.starts.items c.args.self.now c.self.view_is c.self.invariant in omega (arith, c.loop-from-test.true)

pub loop-from-preserved : goal.loop-from-preserved
loop-from-preserved c =
    let kept : to_z w64 (of_z w64 c.get.result) ≡ c.get.result = search rules in
    let long = row_long c.self.inside.points c.self.inside.starts.items c.args.self.now c.self.view_is c.self.invariant in
    c.in_ok-push.ensures.items
    ∙ ((λ i. c.loop-from.invariant i ++ (kept ∙ c.get.ensures) i ∷ [])
    ∙ sym (take_more c.args.self.now c.loop-from.from absent (omega (arith, c.loop-from-test.true))))

pub returns : goal.returns
returns c = let long = row_long c.self.inside.points c.self.inside.starts.items c.args.self.now c.self.view_is c.self.invariant in c.loop-from.invariant ∙ take_all c.loop-from.from c.args.self.now (omega (arith, c.loop-from-test.false))
