-- The network of a session, and what an edit makes of it.
use Rattle.std.specs.Prelude.{◌≡◌, ◌≢◌, ℕ, ◌≤◌, Result, Ok, Err}
use Rattle.net_model.specs.EditedNetwork.{edited}
use Rattle.net_model.specs.Network.{Plan, IsPlan, HasPlanNumbers}
use Rattle.net_model.specs.ShownForm.{shown_form}
use Rattle.net_model.specs.declared.edit.Edit.{Edit}
use Rattle.net_model.specs.declared.edit.EditFault.{EditFault}
use Rattle.net_model.specs.declared.edit.EditFault.TheVariants.{OutOfMemory}
use Rattle.work_board.specs.Limits.{most_seats}

-- a network, and how many workers make rounds of its shown form
pub record NetworkView : Type 0 where
  pub net : Plan
  pub workers : ℕ

-- the second network is the shown form of the first, and there are 1 to 64 workers
pub record IsWithShownForm (stated shown : Plan) (workers : ℕ) : Type 0 where
  pub shown_is : shown ≡ shown_form stated
  pub some : 1 ≤ workers
  pub few : workers ≤ most_seats

-- an edit makes a network of another, which has the numbers that a plan may have if the other has them
pub record Makes (old : Plan) (edit : Edit) (new : Plan) : Type 0 where
  pub made : edited old edit ≡ Ok new
  pub plan : IsPlan new
  pub numbers : HasPlanNumbers old → HasPlanNumbers new

-- the network that an edit makes, with as many workers, or why it is refused, but for want of memory
abbrev pub EditsNetwork : NetworkView → Edit → Result NetworkView EditFault → Type 0
EditsNetwork before edit (Ok after) = Makes before.net edit after.net × (after.workers ≡ before.workers)
EditsNetwork before edit (Err cause) = cause ≢ OutOfMemory → edited before.net edit ≡ Err cause
