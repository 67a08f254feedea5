use Rattle.std.proofs.Common.{ℤ, sym, subst}
use Rattle.deadline_search.specs.Trials.{IsFoundDeadline, IsLastDeadline}
use Rattle.deadline_search.proofs.GoalLemmas.{stays}
use Rattle.deadline_search.proofs.goal_search.Search.answered.Goals as goal

pub last-requires-clause-last : goal.last-requires-clause-last
last-requires-clause-last g c κs within =
    let net = c.args.self.now.net in
    let goal_sought = c.args.self.now.goal in
    let last : IsLastDeadline net goal_sought c.in-Some.most = subst (IsFoundDeadline net goal_sought) c.in-Some.is c.in_ok-most.ensures in
    subst (λ (n : ℤ). IsLastDeadline net goal_sought n) (sym (stays c.in-Some.most last.deadline.from_lowest last.deadline.to_highest)) last
