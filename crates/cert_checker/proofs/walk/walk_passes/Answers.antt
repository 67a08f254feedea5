use Rattle.std.proofs.Common.{rules, ◌≡◌, Some, Ok, ◌+◌, length, ◌∙◌, sym, ap}
use Rattle.std.specs.List.{IsFirstAndRest}
use Rattle.cert_checker.specs.Lines.{line_at}
use Rattle.cert_format.specs.JudgementForms.{◌>>=◌}
use Rattle.cert_checker.specs.Walk.{WalkPasses, steps_known, is_negative_walk, walk_passes, walked, returns_to, is_negative_total, total_weight}
use Rattle.cert_checker.proofs.Steps.{closed_walk}
use Rattle.cert_checker.proofs.walk.walk_passes.Goals as goal

pub returns : goal.returns
unfolding walk_passes
returns c =
    let lines = c.args.lines.now in
    let walk = c.args.walk.now in
    let step = c.in-Some.first.now in
    let rest = c.in-Some.rest.now in
    let line = c.in-Some-line_at.first.now in
    let place = length lines + 1 in
    let here : line_at lines step ≡ Some line = search rules in
    let is : IsFirstAndRest walk step rest = search rules in
    let back : returns_to line.from place line (walked lines rest) ≡ Ok tt = sym c.in_ok-returns_to.ensures in
    let left : c.is_negative.result ≡ is_negative_total (place + length rest) (total_weight (walked lines walk)) = search rules in
    let known : steps_known lines place walk ≡ Ok tt = sym c.in_ok-steps_known.ensures in
    left
    ∙ sym (closed_walk place place lines walk step rest line is.0 here back known)
    ∙ sym (ap (λ (p : WalkPasses). p >>= (λ known. is_negative_walk place (walked lines walk))) known)
