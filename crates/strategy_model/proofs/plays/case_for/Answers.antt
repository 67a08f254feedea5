use Rattle.std.proofs.Common.{◌≡◌, true, false, List, sym, subst, ◌∙◌, arith}
use Rattle.std.specs.Cmp.Lexicographic.{pointwise}
use Rattle.net_model.specs.declared.ids.PointId.{PointId}
use Rattle.strategy_model.specs.Plays.{same_point}
use Rattle.strategy_model.proofs.StepLemmas.{case_found, case_passed}
use Rattle.strategy_model.proofs.plays.case_for.Goals as goal

pub returns-then-eq : goal.returns-then-eq
returns-then-eq c =
    let passes : pointwise same_point c.case-item.result.seen c.args.points.now ≡ true = subst (λ (seen : List PointId). pointwise same_point seen c.args.points.now ≡ true) c.as_slice.ensures (sym c.eq.ensures ∙ c.if-eq.true) in
    sym (c.loop-case.invariant ∙ case_found c.args.cases.now c.loop-case.case-index c.case-item.result c.args.points.now (omega arith) c.case-item.is passes)

pub loop-case-preserved : goal.loop-case-preserved
loop-case-preserved c =
    let fails : pointwise same_point c.case-item.result.seen c.args.points.now ≡ false = subst (λ (seen : List PointId). pointwise same_point seen c.args.points.now ≡ false) c.as_slice.ensures (sym c.eq.ensures ∙ c.if-eq.false) in
    c.loop-case.invariant ∙ case_passed c.args.cases.now c.loop-case.case-index c.case-item.result c.args.points.now (omega arith) c.case-item.is fails
