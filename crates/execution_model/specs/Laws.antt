-- What feeds come to: the first refusal comes exactly when a stream stops being faithful, and the moments are those of the earliest schedule.
use Rattle.std.specs.Prelude.{◌≡◌, ◌↔◌, ℕ, ◌≤◌, true, false, IsSome, List, [], map, Some, None, Ok, length}
use Rattle.std.specs.List.{All}
use Rattle.net_model.specs.Network.{Plan, IsPlan, IsContingent}
use Rattle.net_model.specs.declared.ids.PointId.{PointId}
use Rattle.closure_model.specs.Tables.{Graph, IsGraph}
use Rattle.closure_model.specs.Closure.{IsForwardTable}
use Rattle.strategy_model.specs.Plays.{IsInstant}
use Rattle.strategy_model.specs.Control.{IsEarliest}
use Rattle.closure_laws.specs.Forward.{IsDispatchedForward}
use Rattle.dispatch_net.specs.Dispatchable.{MayDispatch, dispatchable}
use Rattle.net_model.specs.Moments.{Moments, moment_of}
use Rattle.execution_model.specs.Execution.{Setting, acts_at}
use Rattle.net_model.specs.Limits.{most_moment}
use Rattle.execution_model.specs.Feeds.{Execution, started, taken, first_open, IsWhole}
use Rattle.execution_model.specs.Streams.{Listing, Stream, Shows, IsFaithful, fixed_by, IsExecution}
use Rattle.execution_model.specs.Timely.{IsInTime, with_completed, AreInTime, fed_all}

-- the setting of a network that is dispatched by a table
abbrev pub setting_of : Plan → Graph → Setting
setting_of net table = record { links = net.links; dispatch = dispatchable net table }

-- a forward closed table of derivable edges of a network is a sound table
abbrev pub ForwardTablesAreGraphs : Type 0
ForwardTablesAreGraphs = (net : Plan) (table : Graph) → IsPlan net → IsForwardTable net table → IsGraph table

-- an execution of a network: by the links of the network, and with as many points
pub record IsExecutionOf (net : Plan) (execution : Execution) : Type 0 where
  pub instant : IsInstant net
  pub links : execution.setting.links ≡ net.links
  pub dispatch : length execution.setting.dispatch ≡ length net.points
  pub moments : length execution.moments ≡ length net.points

-- a stream of these listings, which continues
abbrev pub going_on : List Listing → Stream
going_on listings = record { listings = listings; done = false }

-- a stream of these listings, said to be done
abbrev pub ended : List Listing → Stream
ended listings = record { listings = listings; done = true }

-- no moment of a list of feeds is beyond the limit
abbrev pub AreWithinLimit : List Listing → Type 0
AreWithinLimit listings = All (λ (listing : Listing). listing.moment ≤ most_moment) listings

-- a feed within the limit is taken exactly if its completions are in time, and then they are the moments that are new
abbrev pub FeedsAreTakenInTime : Type 0
FeedsAreTakenInTime =
    (net : Plan) (execution : Execution) (moment : ℕ) (listed : List PointId) → IsExecutionOf net execution → moment ≤ most_moment
    → (IsInTime execution moment listed ↔ (taken execution moment listed ≡ Ok (with_completed execution moment listed)))
    × ((moments : Moments) → taken execution moment listed ≡ Ok moments → moments ≡ with_completed execution moment listed)

-- from the start of a network that is dispatched by a forward closed table with an order, the feeds of a list are all taken exactly if the list is a faithful
-- stream that continues, and exactly if each is in time
abbrev pub FaithfulStreamsAreTaken : Type 0
FaithfulStreamsAreTaken =
    (net : Plan) (table : Graph) (order : List PointId) (listings : List Listing) → IsDispatchedForward net table order → AreWithinLimit listings
    → (IsFaithful net (going_on listings) ↔ ((execution : Execution) × fed_all (started (setting_of net table)) listings ≡ Ok execution))
    × (IsFaithful net (going_on listings) ↔ AreInTime (started (setting_of net table)) listings)

-- then the moments so far are those of the earliest schedule of every situation that the stream fits, up to its last moment
abbrev pub FeedsExecuteEarliest : Type 0
FeedsExecuteEarliest =
    (net : Plan) (table : Graph) (order : List PointId) (listings : List Listing) (execution : Execution) (situation schedule : List ℕ)
    → IsDispatchedForward net table order → fed_all (started (setting_of net table)) listings ≡ Ok execution
    → IsEarliest net situation schedule → Shows net (going_on listings) schedule
    → execution.moments ≡ fixed_by (going_on listings) schedule

-- the stream may be said to be done exactly if no contingent point is open
abbrev pub DoneWhereNoneIsOpen : Type 0
DoneWhereNoneIsOpen =
    (net : Plan) (table : Graph) (order : List PointId) (listings : List Listing) (execution : Execution) → IsDispatchedForward net table order
    → fed_all (started (setting_of net table)) listings ≡ Ok execution → (IsFaithful net (ended listings) ↔ (first_open execution ≡ None))

-- and the end makes the whole of the earliest schedule of every situation that it fits
abbrev pub EndsAreEarliest : Type 0
EndsAreEarliest =
    (net : Plan) (table : Graph) (order : List PointId) (listings : List Listing) (execution after : Execution) (situation schedule : List ℕ)
    → IsDispatchedForward net table order → fed_all (started (setting_of net table)) listings ≡ Ok execution
    → IsWhole execution after → IsEarliest net situation schedule → Shows net (ended listings) schedule
    → after.moments ≡ map Some schedule

-- a stream has at most one execution
abbrev pub ExecutionsAreOne : Type 0
ExecutionsAreOne =
    (net : Plan) (stream : Stream) (first second : Moments) → IsInstant net → IsExecution net stream first → IsExecution net stream second → first ≡ second

-- and feeds that are all taken make it, up to the last moment, and whole at the end if no contingent point is open
abbrev pub StreamsAreExecuted : Type 0
StreamsAreExecuted =
    (net : Plan) (table : Graph) (order : List PointId) (listings : List Listing) (execution : Execution) → IsDispatchedForward net table order
    → fed_all (started (setting_of net table)) listings ≡ Ok execution → IsExecution net (going_on listings) execution.moments
    × (first_open execution ≡ None → (after : Execution) → IsWhole execution after → IsExecution net (ended listings) after.moments)

-- if a network is dispatched by a table in an order, every contingent point has completed and no moment brings an act, every point has come
abbrev pub NoActsLeftIsWhole : Type 0
NoActsLeftIsWhole =
    (net : Plan) (table : Graph) (order : List PointId) (moments : Moments) (from : ℕ) → IsInstant net → IsGraph table → MayDispatch net table order
    → length moments ≡ length net.points → ((point : PointId) → IsContingent net point → IsSome (moment_of moments point))
    → ((t : ℕ) → from ≤ t → acts_at (setting_of net table) moments t ≡ []) → All IsSome moments
