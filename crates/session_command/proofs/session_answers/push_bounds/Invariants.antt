use Rattle.std.proofs.Common.{◌≡◌, ◌++◌, take}
use Rattle.std.specs.List.{flat_map}
use Rattle.session_command.specs.SessionAnswers.{lower_bound_line}
use Rattle.session_command.proofs.session_answers.push_bounds.Given as goal

abbrev pub invariant-loop-bound : goal.invariant-loop-bound
invariant-loop-bound l = l.answer.text ≡ l.initial.answer.text ++ flat_map (lower_bound_line l.net l.point) (take l.bound-index l.bounds)
