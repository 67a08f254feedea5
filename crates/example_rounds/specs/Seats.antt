-- What stays the same of a seat while it draws.
use Rattle.std.specs.Prelude.{◌≡◌}
use Rattle.work_board.specs.Boards.{BoardSeatSeen}

-- all but what it owns and how often it found that there is nothing left
pub record SameSeat (before after : BoardSeatSeen) : Type 0 where
  pub board : after.table ≡ before.table
  pub targets : after.view.targets ≡ before.view.targets
  pub drawer : after.view.drawer ≡ before.view.drawer
  pub out : after.view.out ≡ before.view.out
  pub to_split : after.view.to_split ≡ before.view.to_split
