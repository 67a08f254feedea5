use Rattle.std.proofs.Common.{◌≡◌, ◌++◌, map}
use Rattle.std.specs.List.{flat_map, range_with_len}
use Rattle.play_command.specs.PlayCommand.{happened_in, time_line}
use Rattle.play_command.proofs.plan_day.push_times.Given as goal

abbrev pub invariant-loop-point : goal.invariant-loop-point
invariant-loop-point l = l.answer.text ≡ l.initial.answer.text ++ flat_map (λ point. time_line l.net point (happened_in l.net l.shown point)) (map (λ k. record { 0 = k }) (range_with_len 0 l.point))
