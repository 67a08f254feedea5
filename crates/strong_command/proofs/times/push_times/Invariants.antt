use Rattle.std.proofs.Common.{◌≡◌, ◌++◌, drop}
use Rattle.strong_command.specs.StrongAnswers.{times_text}
use Rattle.strong_command.proofs.times.push_times.Given as goal

abbrev pub invariant-loop-place : goal.invariant-loop-place
invariant-loop-place l = l.answer.text ++ times_text (drop l.place l.names) (drop l.place l.times) ≡ l.fn.answer.text ++ times_text l.names l.times
