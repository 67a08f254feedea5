use Rattle.std.proofs.Common.{◌≡◌, ◌<◌, ℕ, get_or, Option, None}
use Rattle.std.specs.Prelude.{Result, Ok}
use Rattle.std.specs.declared.alloc.AllocError.{AllocError}
use Rattle.net_model.specs.declared.part.Edge.{Edge}
use Rattle.network_closure.proofs.shared_test.first_found.Given as goal

abbrev pub invariant-loop-one : goal.invariant-loop-one
invariant-loop-one l = (k : ℕ) → k < l.one-index → (d : Result (Option Edge) AllocError) → get_or l.found k d ≡ Ok None
