-- The places of points in an order, by their numbers.
use Rattle.std.specs.Prelude.{◌≡◌, ℕ, List, length, Option, None}
use Rattle.std.specs.List.{slice_index_or}
use Rattle.net_model.specs.Network.{Plan}
use Rattle.net_model.specs.declared.ids.PointId.{PointId}
use Rattle.cert_checker.specs.TableRefusals.{IsNone, stands_before}
use Rattle.cert_checker.specs.Tables.{place_in}

pub record AreOptionalPlaces (order : List PointId) (places : List (Option ℕ)) : Type 0 where
  pub each : (point : PointId) → slice_index_or places point.0 None ≡ place_in order point

-- a place for each point of the network, if no point stands twice in the order
pub record ArePlacesOf (net : Plan) (order : List PointId) (places : List (Option ℕ)) : Type 0 where
  pub count : length places ≡ length net.points
  pub of_each : AreOptionalPlaces order places
  pub once : IsNone (stands_before order) order
