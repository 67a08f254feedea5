use Rattle.std.proofs.Common.{◌≡◌, ℕ, ◌<◌, false, get_or}
use Rattle.cert_checker.specs.Least.{absent, descends}
use Rattle.cert_checker.proofs.row.words_improve_in.Given as goal

-- none of those so far improves
abbrev pub invariant-loop-from : goal.invariant-loop-from
invariant-loop-from l = (k : ℕ) → k < l.from → descends (get_or l.firsts k absent) (get_or l.there k absent) l.second.weight ≡ false
