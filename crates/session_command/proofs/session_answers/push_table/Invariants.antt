use Rattle.std.proofs.Common.{◌≡◌, ◌++◌, map}
use Rattle.std.specs.List.{flat_map, range_with_len}
use Rattle.dispatch_net.specs.Dispatchable.{conditions_at}
use Rattle.session_command.specs.SessionAnswers.{conditions_text}
use Rattle.session_command.proofs.session_answers.push_table.Given as goal

abbrev pub invariant-loop-point : goal.invariant-loop-point
invariant-loop-point l =
    l.answer.text ≡ l.initial.answer.text ++ flat_map (λ point. conditions_text l.net point (conditions_at l.dispatch.kept point)) (map (λ k. record { 0 = k }) (range_with_len 0 l.point))
