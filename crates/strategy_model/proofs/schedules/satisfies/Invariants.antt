use Rattle.std.proofs.Common.{◌≡◌, ℕ, ◌<◌, get_or}
use Rattle.net_model.specs.declared.part.Bound.{Bound}
use Rattle.strategy_model.specs.Situations.{Keeps}
use Rattle.strategy_model.proofs.schedules.satisfies.Given as goal

abbrev pub invariant-loop-bound : goal.invariant-loop-bound
invariant-loop-bound l =
    (l.bound-items ≡ l.net.bounds) × ((k : ℕ) (d : Bound) → k < l.bound-index → Keeps l.schedule.items (get_or l.net.bounds k d))
