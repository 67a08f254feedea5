use Rattle.example_strong.proofs.schedules.try_plan.Goals as goal

pub strong-requires : goal.strong-requires
strong-requires g c = c.law_plan_numbers_are_shown.ensures _ c.in_ok-net.ensures
