-- What contracts see of a feeding from a desk, and what a feed does at the desk. This project's own choice.
use Rattle.std.specs.Prelude.{◌≡◌, ◌≢◌, ◌⊎◌, ℕ, suc, ◌==◌, Bool, false, List, [], length, refl, Option, Some, None, is_none, is_some}
use Rattle.std.specs.List.{filter_map, list_all}
use Rattle.std.specs.Option.{option_map_or}
use Rattle.std.specs.Coded.{Coded, code_by, coded×, coded_list}
use Rattle.net_model.specs.Network.{Plan, activation}
use Rattle.net_model.specs.Moments.{Moments}
use Rattle.net_model.specs.declared.ids.LinkId.{LinkId}
use Rattle.net_model.specs.declared.ids.PointId.{PointId}
use Rattle.sensor_desk.specs.Desks.{DeskSeen, DeskSeatSeen, ReadsLink}
use Rattle.sensor_desk.specs.Feeders.{AreFedBy}
use Rattle.sensor_desk.specs.Follower.{open_link}
use Rattle.sensor_desk.specs.Seats.{desk_code, seat_code}
use Rattle.sensor_desk.specs.contracts.feeder.Feeder as feeder
use Rattle.sensor_desk.specs.declared.feeder.Feeder.{Feeder}
use Rattle.desk_feeding.specs.Ordered.{IsInOrder}

-- the desk, the seat by which it is read, and the feeders
pub record FeedingSeen : Type 0 where
  pub desk : DeskSeen
  pub seat : DeskSeatSeen
  pub feeders : List Feeder

abbrev pub feeding_code : Coded FeedingSeen
feeding_code = code_by (DeskSeen × (DeskSeatSeen × List Feeder)) (coded× desk_code (coded× seat_code (coded_list feeder.the_row.coded)))
    (λ feeding. (feeding.desk, (feeding.seat, feeding.feeders))) (λ parts. record { desk = parts.0; seat = parts.1.0; feeders = parts.1.1 }) (λ _. refl)

-- it is of this network
abbrev pub IsFeedingOf : Plan → FeedingSeen → Type 0
IsFeedingOf net feeding = feeding.desk.about.net.value ≡ net

-- the links that end in points
abbrev pub links_to : Plan → List PointId → List LinkId
links_to net points = filter_map (activation net) points

-- whether a link ends in each point
abbrev pub have_links : Plan → List PointId → Bool
have_links net points = list_all (λ point. is_some (activation net point)) points

-- whether no feeder found that a moment stood before
abbrev pub none_met : List Feeder → Bool
none_met feeders = list_all (λ (feeder : Feeder). is_none feeder.met) feeders

-- whether what was read of a link stands at a moment
abbrev pub is_at : (moment : ℕ) → (read : Option ℕ) → Bool
is_at moment read = option_map_or (λ at. at == moment) read false

-- all feeders posted a moment for links, or there is no link
pub record ArePosted (links : List LinkId) (moment : ℕ) (before after : List Feeder) : Type 0 where
  pub posted : ((links ≡ []) × (after ≡ before)) ⊎ AreFedBy links moment before after
  pub count : length after ≡ length before

-- a seat read the link of a point, if the point is open; and whether the link stands at a moment
pub data ReadsIfOpen (net : Plan) (moments : Moments) (moment : ℕ) (point : PointId) (before after : DeskSeatSeen) (stands : Bool) : Type 0 where
  passes : open_link net moments point ≡ None → after ≡ before → stands ≡ false → ReadsIfOpen net moments moment point before after stands
  reads : (link : LinkId) (read : Option ℕ) → open_link net moments point ≡ Some link → ReadsLink before after link read → stands ≡ is_at moment read
      → ReadsIfOpen net moments moment point before after stands

-- a seat read the links of the open points among so many, one after another
pub data HasReadOpen (net : Plan) (moments : Moments) (moment : ℕ) (before : DeskSeatSeen) : (count : ℕ) → DeskSeatSeen → Type 0 where
  none : (after : DeskSeatSeen) → after ≡ before → HasReadOpen net moments moment before 0 after
  further : (count : ℕ) (between after : DeskSeatSeen) (stands : Bool) → HasReadOpen net moments moment before count between
      → ReadsIfOpen net moments moment (record { 0 = count }) between after stands → HasReadOpen net moments moment before (suc count) after

-- A feed of listed points at a moment: all feeders posted the moment for the links that end in them, in the order of the points, and the seat
-- read the link of each point that was open then.
pub record FeedsAtDesk (net : Plan) (moments : Moments) (moment : ℕ) (listed : List PointId) (before after : FeedingSeen) : Type 0 where
  pub ordered : List PointId
  pub order : IsInOrder listed ordered
  pub posted : ArePosted (links_to net ordered) moment before.feeders after.feeders
  pub read : HasReadOpen net moments moment before.seat (length net.points) after.seat
  pub same : after.desk ≡ before.desk
