use Rattle.std.proofs.Common.{◌≡◌, ◌+◌, ◌≤◌, sym, subst, arith}
use Rattle.plan_port.specs.Reader.{Reader}
use Rattle.command_engine.specs.Limits.{most_input}
use Rattle.command_engine.proofs.EndLemmas.{IsServing, serving_begins, serving_goes, serving_ends, nothing_served, counts_up, numbered}
use Rattle.command_engine.proofs.run_loop.serve.Goals as goal

pub returns-in_default : goal.returns-in_default
returns-in_default g c = nothing_served g.C.Command.machine c.args.command (g.P.Port.seen c.args.port.now)

pub returns-in_default-new : goal.returns-in_default-new
returns-in_default-new g c = nothing_served g.C.Command.machine c.args.command (g.P.Port.seen c.args.port.now)

pub lines-init : goal.lines-init
lines-init g c =
    let seen = g.P.Port.seen c.args.port.now in
    record {
      serving = subst (λ (r : Reader). IsServing g.C.Command.machine c.args.command c.args.command r seen seen) (sym c.in-Ok.ensures) (serving_begins g.C.Command.machine c.args.command seen);
      spare_capacity = omega (arith, c.requires, c.in-Ok-new.ensures.spare_capacity);
    }

pub lines-preserved : goal.lines-preserved
lines-preserved g c = record {
  serving = serving_goes g.C.Command.machine c.args.command c.lines.command c.in-Continue.next c.lines.reader c.take_turn.new.reader (g.P.Port.seen c.args.port.now) (g.P.Port.seen c.lines.port)
      (g.P.Port.seen c.take_turn.new.port) c.lines.invariant.serving c.in-Continue.ensures.turn;
  spare_capacity = c.in-Continue.ensures.spare_capacity;
}

pub lines-smaller : goal.lines-smaller
lines-smaller g c =
    let serving = serving_goes g.C.Command.machine c.args.command c.lines.command c.in-Continue.next c.lines.reader c.take_turn.new.reader (g.P.Port.seen c.args.port.now) (g.P.Port.seen c.lines.port)
    (g.P.Port.seen c.take_turn.new.port) c.lines.invariant.serving c.in-Continue.ensures.turn in
    let more : c.take_turn.new.reader.number ≡ c.lines.reader.number + 1 = counts_up g.C.Command.machine c.args.command c.lines.command c.in-Continue.next c.lines.reader c.take_turn.new.reader (g.P.Port.seen c.lines.port)
    (g.P.Port.seen c.take_turn.new.port) c.in-Continue.ensures.turn in
    let within : c.take_turn.new.reader.number ≤ most_input = numbered g.C.Command.machine c.args.command c.take_turn.new.reader c.in-Continue.ensures.reader serving.running serving.most in
    omega (arith, more, within)

pub returns-in-Finish : goal.returns-in-Finish
returns-in-Finish g c =
    serving_ends g.C.Command.machine c.args.command c.in-Finish.status c.lines.command c.lines.reader c.take_turn.new.reader (g.P.Port.seen c.args.port.now) (g.P.Port.seen c.lines.port)
    (g.P.Port.seen c.take_turn.new.port) c.lines.invariant.serving c.in-Finish.ensures.turn
