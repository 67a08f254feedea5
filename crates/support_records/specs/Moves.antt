-- The numbers that points, bounds and links have in an edited network, as they are stored.
use Rattle.std.specs.Prelude.{◌≡◌, List, None}
use Rattle.std.specs.List.{slice_index_or, All, Contains}
use Rattle.std.specs.Option.{option_map_or}
use Rattle.net_model.specs.Network.{Plan}
use Rattle.net_model.specs.declared.ids.PointId.{PointId}
use Rattle.closure_model.specs.Derivations.{IsDerivationList, base_nodes}
use Rattle.closure_model.specs.declared.derivation.Node.{Node}
use Rattle.net_model.specs.declared.edit.Edit.{Edit}
use Rattle.edit_laws.specs.KeptLists.{Renumbering, IsRenumbering}
use Rattle.edit_laws.specs.EditNumbers.{point_in, renumbering}
use Rattle.support_records.specs.NewNodes.{new_nodes}
use Rattle.support_records.specs.declared.moves.Moves.{Moves}

-- the numbers that are stored
abbrev pub moves_of : Moves → Renumbering
moves_of moves = record {
  points = λ point. option_map_or (λ (other : PointId). other) (point_in moves.points.old.now moves.points.new.now point) point;
  bounds = λ id. slice_index_or moves.bounds.items id.0 None;
  links = λ id. slice_index_or moves.links.items id.0 None;
}

-- they are the numbers by names, from one network to the other
pub record AreMoves (old : Plan) (edit : Edit) (new : Plan) (moves : Moves) : Type 0 where
  pub old_is : moves.points.old.now ≡ old
  pub new_is : moves.points.new.now ≡ new
  pub numbers : moves_of moves ≡ renumbering old edit new

-- a list is a derivation list of a network of which the edited one has these numbers, and what is new is of the edited one
pub record CanFollow (old new : Plan) (moves : Renumbering) (nodes : List Node) : Type 0 where
  pub is : IsRenumbering old new moves
  pub derived : IsDerivationList old nodes
  pub news : All (Contains (base_nodes new)) (new_nodes moves old new)
