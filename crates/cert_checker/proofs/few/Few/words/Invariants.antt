use Rattle.std.proofs.Common.{◌≡◌, take}
use Rattle.cert_checker.proofs.few.Few.words.Given as goal

abbrev pub invariant-loop-from : goal.invariant-loop-from
invariant-loop-from l = l.words.items ≡ take l.from l.self
