use Rattle.plan_fleet.specs.FleetStart.{nets_given}
use Rattle.plan_fleet.proofs.FleetStartLemmas.{all_decided, are_opened}
use Rattle.plan_fleet.proofs.fleet.Fleet.open.Goals as goal

pub gather-requires : goal.gather-requires
gather-requires g c = all_decided c.in_ok-jobs.jobs.items c.in_ok-decided.decided.items c.in_ok-decided.ensures.len c.in_ok-decided.ensures.each

pub returns : goal.returns
returns g c =
    are_opened c.in_ok-jobs.jobs.items (nets_given c.args.plans.items) c.in_ok-decided.decided.items c.in_ok-members.members.items c.in_ok-jobs.ensures.nets c.in_ok-decided.ensures.len c.in_ok-decided.ensures.each
    c.in_ok-members.ensures
