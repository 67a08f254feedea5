use Rattle.std.proofs.Common.{◌≡◌, ℕ, ◌<◌, false, get_or}
use Rattle.cert_checker.specs.declared.few.Start.{Start}
use Rattle.cert_checker.specs.Least.{absent, descends}
use Rattle.cert_checker.proofs.row.few_improve_in.Given as goal

-- none of those so far improves
abbrev pub invariant-loop-start : goal.invariant-loop-start
invariant-loop-start l = (k : ℕ) (d : Start) → k < l.start-index → descends (get_or l.start-items k d).word (get_or l.there (get_or l.start-items k d).from absent) l.second.weight ≡ false
