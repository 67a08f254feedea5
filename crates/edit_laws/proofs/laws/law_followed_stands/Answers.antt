use Rattle.edit_laws.proofs.FollowedSupport.{law_followed_stands}
use Rattle.edit_laws.proofs.laws.law_followed_stands.Goals as goal

pub returns : goal.returns
returns c = law_followed_stands
