-- A feeding from a desk: which seats it has, and the capacity of its buffers. This project's own choice.
use Rattle.std.specs.Prelude.{◌≡◌, ℕ, ◌<◌, ◌≤◌, List, length}
use Rattle.std.specs.List.{All}
use Rattle.execution_model.specs.Feeds.{Execution, IsFed}
use Rattle.execution_model.specs.declared.feed_answers.Fed.{Fed}
use Rattle.net_model.specs.declared.ids.PointId.{PointId}
use Rattle.sensor_desk.specs.Desks.{DeskSeen, DeskSeatSeen, IsSeatOfDesk}
use Rattle.sensor_desk.specs.declared.feeder.Feeder.{Feeder}
use Rattle.desk_feeding.specs.Ordered.{IsInOrder}

-- how many points a line of events lists at most
abbrev pub most_listed : ℕ
most_listed = 32768

-- how many feeders there may be
abbrev pub most_feeders : ℕ
most_feeders = 64

-- the listed points are fed in the order of their numbers
pub record IsFedInOrder (before : Execution) (moment : ℕ) (listed : List PointId) (answer : Fed) (after : Execution) : Type 0 where
  pub ordered : List PointId
  pub order : IsInOrder listed ordered
  pub fed : IsFed before moment ordered answer after

-- the seats are of the desk, there is a feeder, and there is capacity for what a line lists and for a point of each link
pub record IsFeeding (desk : DeskSeen) (seat : DeskSeatSeen) (feeders : List Feeder) (ordered links read : ℕ) : Type 0 where
  pub seat_of : IsSeatOfDesk desk seat
  pub some : 0 < length feeders
  pub feeders_of : All (λ (feeder : Feeder). IsSeatOfDesk desk feeder.seat) feeders
  pub ordered_capacity : most_listed ≤ ordered
  pub links_capacity : most_listed ≤ links
  pub read_capacity : length desk.about.net.value.links ≤ read
