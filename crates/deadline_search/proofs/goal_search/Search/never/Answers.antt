use Rattle.deadline_search.proofs.AnswerLemmas.{never_is}
use Rattle.deadline_search.proofs.goal_search.Search.never.Goals as goal

pub returns : goal.returns
returns g c =
    never_is c.args.self.now.net c.args.self.now.goal c.requires.controllable c.requires.named c.law_looser_bounds_keep_control.ensures c.in_ok-refutation.refutation c.requires.none c.in_ok-refutation.ensures
