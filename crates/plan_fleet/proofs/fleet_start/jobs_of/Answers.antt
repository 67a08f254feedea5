use Rattle.std.proofs.Common.{rules}
use Rattle.plan_fleet.proofs.FleetStartLemmas.{as_many, nets_more, numbered_more}
use Rattle.plan_fleet.proofs.fleet_start.jobs_of.Goals as goal

pub loop-plan-preserved : goal.loop-plan-preserved
loop-plan-preserved c =
    let jobs = c.loop-plan.jobs.items in
    let before = c.loop-plan.invariant in
    let pushed = c.in_ok-push.ensures.items in
    record {
      nets = nets_more jobs c.push.new.self.items _ c.loop-plan.yielded c.in-Some.plan before.nets (search rules) pushed;
      places = numbered_more jobs c.push.new.self.items _ before.places (search rules) pushed;
      count = as_many jobs c.push.new.self.items _ c.loop-plan.yielded c.in-Some.plan before.count pushed;
    }
