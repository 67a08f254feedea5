use Rattle.std.proofs.Common.{arith}
use Rattle.fleet_command.proofs.StartLemmas.{begins_on}
use Rattle.fleet_command.proofs.fleet_question.put_starts.Goals as goal

pub loop-entry-preserved : goal.loop-entry-preserved
loop-entry-preserved c =
    begins_on c.args.fleet.now c.args.entries.now c.loop-entry.entry-index c.entry-item.result c.loop-entry.answer.text c.say_start.new.said.text c.bytes.result.now c.bytes-in-loop-entry.result.now c.push_named.new.answer.text
    (omega (arith, c.loop-entry-test.true)) c.entry-item.is c.loop-entry.invariant c.say_start.ensures.says c.bytes.ensures.text c.bytes-in-loop-entry.ensures.value c.in_ok-push_named.ensures.text
