-- What an edit makes of a session that is not broken.
use Rattle.std.specs.Prelude.{◌≡◌, ◌≢◌, Err}
use Rattle.net_model.specs.EditedNetwork.{edited}
use Rattle.net_model.specs.declared.edit.Edit.{Edit}
use Rattle.net_model.specs.declared.edit.EditFault.TheVariants.{OutOfMemory}
use Rattle.plan_session.specs.Sessions.{SessionView, Accepts}
use Rattle.plan_session.specs.declared.open_session.Edited.{Edited}
use Rattle.plan_session.specs.declared.open_session.Edited.TheVariants.{Followed, Refused}

-- The session follows the edit by as many workers, or the edit is refused, and then the session is as it was.
abbrev pub FollowsOrRefuses : SessionView → Edit → Edited → Type 0
FollowsOrRefuses before edit (Followed after report) = Accepts before.state edit report after.state × (after.workers ≡ before.workers)
FollowsOrRefuses before edit (Refused same cause) = (edited before.state.net edit ≡ Err cause) × (cause ≢ OutOfMemory) × (same ≡ before)
