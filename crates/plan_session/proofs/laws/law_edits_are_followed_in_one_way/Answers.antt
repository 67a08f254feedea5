use Rattle.plan_session.proofs.OneWay.{law_edits_are_followed_in_one_way}
use Rattle.plan_session.proofs.laws.law_edits_are_followed_in_one_way.Goals as goal

pub returns : goal.returns
returns c = law_edits_are_followed_in_one_way c.law_rounds_end_in_one_way.ensures
