use Rattle.std.proofs.Common.{◌++◌, [], ◌∷◌, sym, subst}
use Rattle.plan_session.specs.OpenSessions.{FollowsOrRefuses}
use Rattle.session_command.specs.Followed.{AreAccepted, Followed}
use Rattle.session_command.proofs.EditingLemmas.{followed_kept, next_is_accepted}
use Rattle.session_command.proofs.derivations.Derivations.follow.Goals as goal

pub invariant_of-result : goal.invariant_of-result
invariant_of-result g c =
    let before = c.self.inside.session in
    let edit = c.args.edit.now in
    let follows = subst (FollowsOrRefuses before edit) c.in-Followed.is c.in_ok-session.ensures in
    followed_kept _ c.self.inside.followed.items c.push.new.self.items c.of.result c.self.inside.first.value edit before.state c.in-Followed.session.state c.self.inside.report c.in-Followed.report
    c.in_ok-push-in-Followed.ensures.items c.of.ensures c.self.invariant follows.0

-- an accepted edit is not refused
pub returns-in-Refused-clause-edits : goal.returns-in-Refused-clause-edits
returns-in-Refused-clause-edits g c =
    λ accepted.
    let before = c.self.inside.session in
    let edit = c.args.edit.now in
    let refuses = subst (FollowsOrRefuses before edit) c.in-Refused.is c.in_ok-session.ensures in
    let all = subst (λ (followed : Followed). AreAccepted followed.first (followed.edits ++ edit ∷ [])) (sym c.self.view_is) accepted in
    let made = next_is_accepted _ all.0 _ before.state _ edit c.self.invariant all.1 in
    absurd (cc (refuses.0, made.1))
