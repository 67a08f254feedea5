use Rattle.plan_session.proofs.Broken.{law_broken_sessions_say_so}
use Rattle.plan_session.proofs.laws.law_broken_sessions_say_so.Goals as goal

pub returns : goal.returns
returns c = law_broken_sessions_say_so
