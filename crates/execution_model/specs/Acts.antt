-- The acts of a schedule: when its executable points are executed, by moment and then by number.
use Rattle.std.specs.Prelude.{◌≡◌, ℕ, zero, suc, ◌-◌, ◌==◌, ◌&&◌, Bool, List, [], ◌∷◌, ◌++◌, map, filter, is_none, Ok}
use Rattle.net_model.specs.Network.{Plan, activation}
use Rattle.net_model.specs.declared.ids.PointId.{PointId}
use Rattle.strategy_model.specs.Control.{IsEarliest}
use Rattle.strategy_model.specs.Plays.{points_of}
use Rattle.strategy_model.specs.Situations.{moment_in}
use Rattle.closure_model.specs.Tables.{Graph}
use Rattle.closure_laws.specs.Forward.{IsDispatchedForward}
use Rattle.execution_model.specs.Feeds.{Execution, started, next_moment, taken, after_feed, IsWhole}
use Rattle.net_model.specs.Moments.{Moments}
use Rattle.execution_model.specs.Laws.{setting_of, going_on, ended}
use Rattle.execution_model.specs.Streams.{Listing, Shows}
use Rattle.execution_model.specs.Timely.{fed_all}
use Rattle.execution_model.specs.declared.feed_answers.Act.{Act}

-- a schedule executes a point at a moment
abbrev pub executes_at : Plan → List ℕ → (moment : ℕ) → PointId → Bool
executes_at net schedule moment point = is_none (activation net point) && (moment_in schedule point == moment)

-- the acts of a moment
abbrev pub scheduled_at : Plan → List ℕ → (moment : ℕ) → List Act
scheduled_at net schedule moment = map (λ point. record { moment = moment; point = point }) (filter (executes_at net schedule moment) (points_of net))

-- the acts of so many moments from one on
abbrev pub scheduled : Plan → List ℕ → (moment count : ℕ) → List Act
scheduled net schedule moment zero = []
scheduled net schedule moment (suc count) = scheduled_at net schedule moment ++ scheduled net schedule (suc moment) count

-- From the start of a network that is dispatched by a forward closed table with an order, the acts of a feed that is taken are those of the
-- earliest schedule, of the time since the last feed and of the moment itself.
abbrev pub ActsAreEarliest : Type 0
ActsAreEarliest =
    (net : Plan) (table : Graph) (order : List PointId) (listings : List Listing) (listing : Listing) (execution : Execution) (moments : Moments)
    (situation schedule : List ℕ) → IsDispatchedForward net table order → fed_all (started (setting_of net table)) listings ≡ Ok execution
    → taken execution listing.moment listing.points ≡ Ok moments → IsEarliest net situation schedule
    → Shows net (going_on (listings ++ listing ∷ [])) schedule
    → (after_feed execution listing.moment moments).acts ≡ scheduled net schedule (next_moment execution) (suc listing.moment - next_moment execution)

-- and those of the end are all that remain
abbrev pub LastActsAreEarliest : Type 0
LastActsAreEarliest =
    (net : Plan) (table : Graph) (order : List PointId) (listings : List Listing) (execution after : Execution) (situation schedule : List ℕ)
    → IsDispatchedForward net table order → fed_all (started (setting_of net table)) listings ≡ Ok execution → (whole : IsWhole execution after)
    → IsEarliest net situation schedule → Shows net (ended listings) schedule → after.acts ≡ scheduled net schedule (next_moment execution) whole.count
