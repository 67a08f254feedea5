use Rattle.std.proofs.Common.{◌≡◌, true, [], take, drop}
use Rattle.std.specs.List.{All}
use Rattle.cert_checker.specs.Lines.{in_range}
use Rattle.cert_checker.specs.Judgement.{lines_pass}
use Rattle.cert_checker.proofs.certificate_judge.lines_pass.Given as goal

abbrev pub invariant-loop-index : goal.invariant-loop-index
invariant-loop-index l =
    All (λ x. in_range x.weight ≡ true) (take l.index l.lines) × (lines_pass l.net (take l.index l.lines) (drop l.index l.lines) ≡ lines_pass l.net [] l.lines)
