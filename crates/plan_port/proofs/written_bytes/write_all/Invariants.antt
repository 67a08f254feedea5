use Rattle.std.proofs.Common.{◌≡◌, ◌-◌, ◌≤◌, length, take}
use Rattle.plan_port.specs.Talk.{WhereShown, with_put}
use Rattle.plan_port.proofs.written_bytes.write_all.Given as goal

abbrev pub invariant-loop-sent : goal.invariant-loop-sent
invariant-loop-sent g l = record {
  within : l.sent ≤ length l.bytes;
  talk : WhereShown (g.P.Port.seen l.initial.port).talk (g.P.Port.seen l.port).talk (λ before after. after ≡ with_put before (take l.sent l.bytes));
  left : (g.P.Port.seen l.port).left ≡ (g.P.Port.seen l.initial.port).left;
  reads : (g.P.Port.seen l.port).read_faults ≡ (g.P.Port.seen l.initial.port).read_faults;
  writes : (g.P.Port.seen l.port).write_faults ≡ (g.P.Port.seen l.initial.port).write_faults;
}

abbrev pub decreases-loop-sent : goal.decreases-loop-sent
decreases-loop-sent g l = length l.bytes - l.sent
