use Rattle.std.proofs.Common.{◌≡◌, ◌++◌, length, drop, map, List, ℕ}
use Rattle.std.specs.Option.{option_map}
use Rattle.strategy_model.specs.Plays.{moment_so_far, points_of, all_some, schedule_made}
use Rattle.strategy_model.proofs.plays.schedule_made.Given as goal

abbrev pub invariant-loop-k : goal.invariant-loop-k
invariant-loop-k l =
    (length l.schedule.items ≡ l.k) × (schedule_made l.net l.so_far ≡ option_map (λ (rest : List ℕ). l.schedule.items ++ rest) (all_some (map (moment_so_far l.so_far) (drop l.k (points_of l.net)))))
