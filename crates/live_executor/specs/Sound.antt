-- What an executor keeps of a network to execute it.
use Rattle.std.specs.Prelude.{◌≡◌, ℕ, ℤ, ◌<◌, ◌≤◌, List, length, unsigned_abs, IsSome, is_some, true, []}
use Rattle.std.specs.List.{All}
use Rattle.net_model.specs.Network.{Plan}
use Rattle.closure_model.specs.Tables.{Graph, IsGraph}
use Rattle.strategy_model.specs.Plays.{IsInstant}
use Rattle.dispatch_net.specs.Dispatchable.{MayDispatch, dispatchable, DispatchLists}
use Rattle.dispatch_net.specs.Held.{IsSlimOrWhole}
use Rattle.net_model.specs.Limits.{most_points, most_size}
use Rattle.net_model.specs.declared.ids.PointId.{PointId}
use Rattle.net_model.specs.declared.ids.LinkId.{LinkId}
use Rattle.net_model.specs.declared.part.Link.{Link}
use Rattle.dispatch_net.specs.declared.dispatch.Conditions.{Conditions}
use Rattle.net_model.specs.Moments.{Moments, moment_of}
use Rattle.execution_model.specs.Execution.{Setting, link_to, acts_at}
use Rattle.execution_model.specs.Paced.{IsRankedNetwork}
use Rattle.live_executor.specs.ExpectedPoints.{AreActivated}
use Rattle.live_executor.specs.Wakes.{WakeLists, AreWakesOf}

-- a lower bound is after one of so many points, by a number that a network may have
pub record IsLowerBound (points : ℕ) (bound : PointId × ℤ) : Type 0 where
  pub within : bound.0.0 < points
  pub small : unsigned_abs bound.1 ≤ most_size

-- a wait is for one of so many links, by a number that a network may have
pub record IsWait (links : ℕ) (wait : LinkId × ℤ) : Type 0 where
  pub within : wait.0.0 < links
  pub small : unsigned_abs wait.1 ≤ most_size

-- the ends of a link are among so many points, and its durations are numbers that a network may have
pub record IsLinkWithin (points : ℕ) (link : Link) : Type 0 where
  pub from_point : link.from.0 < points
  pub to_point : link.to.0 < points
  pub low : unsigned_abs link.low ≤ most_size
  pub high : unsigned_abs link.high ≤ most_size

-- whatever a network is executed by is of its points and links, and not too great
pub record IsSoundSetting (setting : Setting) : Type 0 where
  pub bounds : All (λ (conditions : Conditions). All (IsLowerBound (length setting.dispatch)) conditions.lower_bounds) setting.dispatch
  pub waits : All (λ (conditions : Conditions). All (IsWait (length setting.links)) conditions.waits) setting.dispatch
  pub links : All (IsLinkWithin (length setting.dispatch)) setting.links
  pub few : length setting.dispatch ≤ most_points

-- a dispatchable network is one of a network in which reaction is instantaneous: what was made of it is that of a table by which the
-- network may be dispatched in some order
pub record IsDispatchOf (net : Plan) (lists : DispatchLists) : Type 0 where
  pub instant : IsInstant net
  pub table : Graph
  pub order : List PointId
  pub graph : IsGraph table
  pub may : MayDispatch net table order
  pub links : lists.links ≡ net.links
  pub made : lists.made ≡ dispatchable net table

-- by what a network is executed: by what is kept; what was made; and which points each point wakes
pub record KeptNetwork : Type 0 where
  pub setting : Setting
  pub made : List Conditions
  pub wakes : WakeLists

abbrev pub kept_network : DispatchLists → WakeLists → KeptNetwork
kept_network lists wakes = record { setting = record { links = lists.links; dispatch = lists.kept }; made = lists.made; wakes = wakes }

-- by what a network is executed: its links, and all lower bounds and waits that were made
abbrev pub made_setting : KeptNetwork → Setting
made_setting network = record { links = network.setting.links; dispatch = network.made }

-- what is kept of a network with so many points: a dispatchable network of it, the whole or what no others imply
pub record IsKeptNetwork (lists : DispatchLists) (points : ℕ) : Type 0 where
  pub net : Plan
  pub dispatched : IsDispatchOf net lists
  pub sound : IsSoundSetting (record { links = lists.links; dispatch = lists.kept })
  pub count : points ≡ length lists.kept
  pub slim_or_whole : IsSlimOrWhole lists.links lists.made lists.kept

-- with the points that each point wakes, and those that it activates
pub record IsKeptWith (lists : DispatchLists) (points : ℕ) (wakes : WakeLists) (activated : List (List PointId)) : Type 0 where
  pub kept : IsKeptNetwork lists points
  pub wakes_are : AreWakesOf (kept_network lists wakes).setting points wakes
  pub activated_are : AreActivated lists.links points activated

-- if each contingent point has come, and no moment brings an act, every point has come
abbrev pub ComesToItsEnd : Setting → Type 0
ComesToItsEnd setting =
    (moments : Moments) → length moments ≡ length setting.dispatch
    → ((point : PointId) → point.0 < length setting.dispatch → is_some (link_to setting point) ≡ true → is_some (moment_of moments point) ≡ true)
    → ((t : ℕ) → acts_at setting moments t ≡ []) → All IsSome moments

-- what is kept of a network executes it as what was made does: the network descends along a rank of its points, and all that was made is kept, or what no
-- others imply
pub record ExecutesTheSame (network : KeptNetwork) : Type 0 where
  pub rank : PointId → ℕ
  pub ranked : IsRankedNetwork (made_setting network) rank
  pub slim_or_whole : IsSlimOrWhole network.setting.links network.made network.setting.dispatch
