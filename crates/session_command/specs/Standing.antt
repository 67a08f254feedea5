-- How a session stands while its network is edited.
use Rattle.std.specs.Prelude.{List}
use Rattle.net_model.specs.Network.{Plan}
use Rattle.net_model.specs.declared.edit.Edit.{Edit}

-- the network as it was first, the edits that were accepted since, in their order, and the network as it stands
pub record Standing : Type 0 where
  pub first : Plan
  pub edits : List Edit
  pub net : Plan
