use Rattle.std.proofs.Common.{◌≡◌, length}
use Rattle.example_fleet.proofs.plans.plans.Given as goal

-- as many plans as lines that were read
abbrev pub invariant-loop-name : goal.invariant-loop-name
invariant-loop-name l = length l.plans.items ≡ l.name-index
