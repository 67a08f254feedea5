-- What holds of what is kept of a derivation list.
use Rattle.std.specs.Prelude.{◌≡◌, ◌<◌, List, length, Some}
use Rattle.net_model.specs.Network.{Plan, IsPlan}
use Rattle.net_model.specs.declared.edit.Edit.{Edit}
use Rattle.closure_model.specs.Derivations.{node_at, IsDerivationList, PremisesStandEarlier, Support, StandsOn}
use Rattle.closure_model.specs.declared.derivation.Node.{Node}
use Rattle.closure_model.specs.declared.derivation.NodeId.{NodeId}
use Rattle.edit_laws.specs.KeptLists.{Renumbering, IsRenumbering, Following, place_at, followed, IsKeptOrTaken, AreNewBase, followed_support}
use Rattle.edit_laws.specs.EditNumbers.{renumbering, new_base_nodes}

-- what is kept of a derivation list of the old network is one of the edited network
abbrev pub KeptIsDerived : Type 0
KeptIsDerived = (old new : Plan) (moves : Renumbering) (nodes : List Node) → IsRenumbering old new moves → IsDerivationList old nodes
    → IsDerivationList new (followed moves nodes).kept

-- each node has its place or rests on something taken away; places rise; and each kept node is that of an earlier one
pub record AreKept (moves : Renumbering) (nodes : List Node) (after : Following) : Type 0 where
  pub size : length after.places ≡ length nodes
  pub each : (id : NodeId) (node : Node) → node_at nodes id ≡ Some node → IsKeptOrTaken moves nodes after.places after.kept id node (place_at after.places id)
  pub rising : (one two place other : NodeId) → one.0 < two.0 → place_at after.places one ≡ Some place → place_at after.places two ≡ Some other
      → place.0 < other.0
  pub whole : (place : NodeId) → place.0 < length after.kept → (id : NodeId) × (place_at after.places id ≡ Some place)

-- what is kept of a list whose premises stand earlier is what rests on nothing taken away
abbrev pub KeptIsWhatRestsOnNothingTaken : Type 0
KeptIsWhatRestsOnNothingTaken = (moves : Renumbering) (nodes : List Node) → PremisesStandEarlier nodes → AreKept moves nodes (followed moves nodes)

-- what stands on the old network stands, when it has followed the edit, on the edited one
abbrev pub FollowedStands : Type 0
FollowedStands =
    (old new : Plan) (moves : Renumbering) (news : List Node) (support : Support) → IsRenumbering old new moves → AreNewBase old new moves news
    → StandsOn old support → StandsOn new (followed_support new moves news support)

-- the numbers by names are a renumbering
abbrev pub NamesRenumber : Type 0
NamesRenumber = (old : Plan) (edit : Edit) (new : Plan) → IsPlan old → IsPlan new → IsRenumbering old new (renumbering old edit new)

-- the base nodes of what is new are the new base nodes
abbrev pub NewBaseIsWhole : Type 0
NewBaseIsWhole = (old : Plan) (edit : Edit) (new : Plan) → IsPlan old → IsPlan new → AreNewBase old new (renumbering old edit new) (new_base_nodes old edit new)
