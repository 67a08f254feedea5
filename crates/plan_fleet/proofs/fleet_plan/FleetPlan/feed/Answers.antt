use Rattle.plan_fleet.proofs.PlanLemmas.{fed_is_plan}
use Rattle.plan_fleet.proofs.fleet_plan.FleetPlan.feed.Goals as goal

pub invariant_of-self-2 : goal.invariant_of-self-2
invariant_of-self-2 c =
    fed_is_plan (record { net = c.self.inside.net; execution = c.self.inside.execution }) c.args.moment c.args.completions.now c.feed-fed.result c.in-Running.executor c.feed-fed.new.self c.after_feed.new.self
    c.self.invariant c.in-Running.is c.feed-fed.ensures.fed c.after_feed.ensures
