use Rattle.std.proofs.Common.{◌≡◌, ◌++◌, ◌∷◌, [], replicate, ap, ◌∙◌, arith}
use Rattle.std.proofs.lemmas.List.{replicate-append-replicate}
use Rattle.cert_checker.specs.Least.{absent}
use Rattle.cert_checker.proofs.least.absent_rows.Goals as goal

pub loop-row-preserved : goal.loop-row-preserved
loop-row-preserved c = c.in_ok-push.ensures.items ∙ ((λ i. c.loop-row.invariant i ++ c.absent.ensures i ∷ []) ∙ replicate-append-replicate c.loop-row._row 1 (replicate c.args.points absent))

pub returns : goal.returns
returns c =
    let same : c.loop-row._row ≡ c.args.count = omega (arith, c.loop-row-test.false, c.loop-row.auto._row-end) in
    c.loop-row.invariant ∙ ap (λ n. replicate n (replicate c.args.points absent)) same
