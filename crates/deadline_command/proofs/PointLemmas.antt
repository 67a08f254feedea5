-- A point that a network has by a name is one of its points.
use Rattle.std.proofs.Common.{◌≡◌, List, ℕ, Option, Some, None, sym}
use Rattle.std.specs.Prelude.{IfSome}
use Rattle.net_model.specs.Network.{Plan, IsPoint, point_named}
use Rattle.net_model.specs.declared.ids.PointId.{PointId}
use Rattle.net_model.proofs.EditLemmas.{point_within}

pub named_within : (net : Plan) (name : List ℕ) (found : Option PointId) → found ≡ point_named net name → IfSome found (IsPoint net)
named_within net name None is = tt
named_within net name (Some point) is = point_within net name point (sym is)
