use Rattle.plan_fleet.proofs.FleetStartLemmas.{one_more}
use Rattle.plan_fleet.proofs.fleet_start.gather.Goals as goal

pub loop-one-preserved : goal.loop-one-preserved
loop-one-preserved c =
    one_more c.loop-one.yielded c.loop-one.members.items c.push.new.self.items c.in-Some.one c.in_ok-one.field-0 c.in_ok-opened.field-0 c.loop-one.invariant c.in_ok-one.was c.in_ok-opened.ensures c.in_ok-push.ensures.items
