use Rattle.std.proofs.Common.{◌≡◌, ◌≤◌, ◌+◌, ◌*◌, ◌++◌, take, length}
use Rattle.event_phase.specs.EventAnswers.{acts_text, most_act}
use Rattle.event_phase.proofs.event_answers.put_acts.Given as goal

abbrev pub invariant-loop-act : goal.invariant-loop-act
invariant-loop-act l = record {
  put : l.answer.text ≡ l.initial.answer.text ++ acts_text l.net (take l.act-index l.acts);
  size : length l.answer.text ≤ length l.initial.answer.text + most_act * l.act-index;
  capacity : l.initial.answer.capacity ≤ l.answer.capacity;
}
