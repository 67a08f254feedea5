-- What a store is after it has followed an edit.
use Rattle.std.specs.Prelude.{◌≡◌, ℕ, ◌+◌, ◌≤◌, List, ◌++◌, length, Option}
use Rattle.net_model.specs.Network.{Plan}
use Rattle.closure_model.specs.Derivations.{Support, StandsOn, IsDerivationList, IsTableOf}
use Rattle.closure_model.specs.declared.derivation.Node.{Node}
use Rattle.closure_model.specs.declared.derivation.NodeId.{NodeId}
use Rattle.net_model.specs.declared.edit.Edit.{Edit}
use Rattle.edit_laws.specs.KeptLists.{Renumbering, followed, followed_support}
use Rattle.edit_laws.specs.KeptListLaws.{AreKept}
use Rattle.edit_laws.specs.EditNumbers.{renumbering, new_base_nodes}
use Rattle.support_records.specs.NewNodes.{new_nodes}
use Rattle.support_records.specs.declared.store.Withdrawn.{Withdrawn}

-- a list is a derivation list of a network, and the table is that of the list
pub record IsDerivedOn (net : Plan) (support : Support) : Type 0 where
  pub derived : IsDerivationList net support.nodes
  pub table : IsTableOf net support.nodes support.table

-- the kept nodes are put into it, this many, and then the base nodes of what is new
pub record HasFollowed (old new : Plan) (moves : Renumbering) (before : List Node) (after : Support) (count : ℕ) : Type 0 where
  pub list : after.nodes ≡ (followed moves before).kept ++ new_nodes moves old new
  pub kept : count ≡ length (followed moves before).kept
  pub few : count ≤ length before
  pub derived : IsDerivedOn new after

-- The first nodes are exactly the earlier ones that rest on nothing taken away, in their order, each with its new numbers; then come the
-- base nodes of what is new; what is kept and what is withdrawn are together the earlier nodes; and it stands on the new network.
pub record IsFollowed (old : Plan) (edit : Edit) (new : Plan) (before after : Support) (answer : Withdrawn) : Type 0 where
  pub places : List (Option NodeId)
  pub kept : List Node
  pub are : AreKept (renumbering old edit new) before.nodes (record { places = places; kept = kept })
  pub list : after.nodes ≡ kept ++ new_base_nodes old edit new
  pub count : answer.kept ≡ length kept
  pub counts : answer.kept + answer.withdrawn ≡ length before.nodes
  pub is : after ≡ followed_support new (renumbering old edit new) (new_base_nodes old edit new) before
  pub stands : StandsOn new after
