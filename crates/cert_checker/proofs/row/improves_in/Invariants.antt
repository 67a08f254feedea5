use Rattle.std.proofs.Common.{◌≡◌, ◌||◌, drop}
use Rattle.cert_checker.specs.Least.{improves_in}
use Rattle.cert_checker.proofs.row.improves_in.Given as goal

-- what is found so far, or in what is left
abbrev pub invariant-loop-place : goal.invariant-loop-place
invariant-loop-place l = (l.improves_in || improves_in (drop l.place l.firsts) (drop l.place l.there) l.second.weight) ≡ improves_in l.firsts l.there l.second.weight
