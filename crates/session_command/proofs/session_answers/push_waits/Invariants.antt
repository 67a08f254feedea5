use Rattle.std.proofs.Common.{◌≡◌, ◌++◌, take}
use Rattle.std.specs.List.{flat_map}
use Rattle.session_command.specs.SessionAnswers.{wait_line}
use Rattle.session_command.proofs.session_answers.push_waits.Given as goal

abbrev pub invariant-loop-wait : goal.invariant-loop-wait
invariant-loop-wait l = l.answer.text ≡ l.initial.answer.text ++ flat_map (wait_line l.net l.point) (take l.wait-index l.waits)
