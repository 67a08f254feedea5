use Rattle.std.proofs.Common.{rules, ◌≡◌, ◌∙◌, length, ◌<◌, ◌^◌}
use Rattle.rayon.proofs.ListFacts.{AllZip-weaken}
use Rattle.rayon.proofs.ToStd.{slice-AllZip, first_true-position}
use Rattle.cert_checker.proofs.scan.first_refused.Goals as goal

pub returns : goal.returns
returns g c = λ test computes.
    let done = c.position_first.ensures in
    let items = c.args.items.now in
    let shown = done.2 ∙ c.par_iter.ensures in
    let by_test = AllZip-weaken _ (λ z b. b ≡ test z.now) (λ z b h. computes z b h) done.0 done.1 done.3 in
    let answers = slice-AllZip done.0 items shown (λ x b. b ≡ test x) done.1 by_test in
    let short : length items < 2 ^ 64 = search rules in
    done.4 ∙ first_true-position test items done.1 answers short
