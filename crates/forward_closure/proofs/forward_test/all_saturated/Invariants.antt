use Rattle.std.proofs.Common.{◌≡◌, ◌<◌, ℕ, get_or, Bool, true}
use Rattle.std.specs.declared.alloc.AllocError.{AllocError}
use Rattle.std.specs.Prelude.{Result, Ok}
use Rattle.forward_closure.proofs.forward_test.all_saturated.Given as goal

abbrev pub invariant-loop-one : goal.invariant-loop-one
invariant-loop-one l = (k : ℕ) → k < l.one-index → (d : Result Bool AllocError) → get_or l.saturated k d ≡ Ok true
