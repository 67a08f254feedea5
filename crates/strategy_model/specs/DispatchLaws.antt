-- What forward closed lists of edges give, and what trees play.
use Rattle.std.specs.Prelude.{◌≡◌, ◌↔◌, ◌≤◌, ℕ, List, Some}
use Rattle.std.specs.List.{All}
use Rattle.net_model.specs.Network.{Plan, IsExecutable}
use Rattle.net_model.specs.declared.ids.PointId.{PointId}
use Rattle.net_model.specs.declared.part.Edge.{Edge}
use Rattle.strategy_model.specs.Situations.{IsSituation, Satisfies, moment_in}
use Rattle.strategy_model.specs.Plays.{play, IsInstant}
use Rattle.strategy_model.specs.Control.{Controls, IsControllable, IsEarliest}
use Rattle.strategy_model.specs.Edges.{HoldsOf, HasNoNegativeCycle}
use Rattle.strategy_model.specs.Dispatch.{IsClosedList, IsForwardClosedList, IsOrder, HoldsBack, release_moment, IsDispatched, Dispatches}
use Rattle.strategy_model.specs.Dispatch.{SameCompletions, SameExecutions, IsDynamic}
use Rattle.strategy_model.specs.declared.tree.Tree.{Tree}

-- edges that are true of every strategy that controls the network
abbrev pub AreTrue : Plan → List Edge → Type 0
AreTrue net edges = (strategy : Tree) → Controls strategy net → All (HoldsOf net strategy) edges

-- a closed list of edges is forward closed
abbrev pub ClosedListsAreForwardClosed : Type 0
ClosedListsAreForwardClosed = (net : Plan) (edges : List Edge) → IsClosedList net edges → IsForwardClosedList net edges

-- a forward closed list of edges with an order gives a strategy that controls the network and plays the schedule of lower
-- bounds and waits in every situation
abbrev pub ForwardListsGiveStrategies : Type 0
ForwardListsGiveStrategies =
    (net : Plan) (edges : List Edge) (order : List PointId) → IsInstant net → IsForwardClosedList net edges → IsOrder net edges order
    → (strategy : Tree) × Controls strategy net × Dispatches strategy net edges

-- the schedule of lower bounds and waits satisfies the network
abbrev pub DispatchedSatisfy : Type 0
DispatchedSatisfy =
    (net : Plan) (edges : List Edge) (situation schedule : List ℕ) → IsInstant net → IsForwardClosedList net edges → IsSituation net situation
    → IsDispatched net edges situation schedule → Satisfies net schedule

-- there is one in every situation
abbrev pub DispatchedExist : Type 0
DispatchedExist =
    (net : Plan) (edges : List Edge) (order : List PointId) (situation : List ℕ) → IsInstant net → IsForwardClosedList net edges → IsOrder net edges order
    → IsSituation net situation → (schedule : List ℕ) × IsDispatched net edges situation schedule

-- and no other
abbrev pub DispatchedAreOne : Type 0
DispatchedAreOne =
    (net : Plan) (edges : List Edge) (order : List PointId) (situation first second : List ℕ) → IsInstant net → IsForwardClosedList net edges
    → IsOrder net edges order → IsSituation net situation → IsDispatched net edges situation first → IsDispatched net edges situation second
    → first ≡ second

-- in it an executable point has come by a moment exactly if no edge holds it back beyond that moment
abbrev pub DispatchedComeOnceFree : Type 0
DispatchedComeOnceFree =
    (net : Plan) (edges : List Edge) (situation schedule : List ℕ) (point : PointId) (t : ℕ) → IsDispatched net edges situation schedule
    → IsExecutable net point → (moment_in schedule point ≤ t ↔ ((edge : Edge) → HoldsBack edges point edge → release_moment net schedule edge ≤ t))

-- what it executes up to a moment depends on what is completed up to it alone
abbrev pub DispatchedSeeAlone : Type 0
DispatchedSeeAlone =
    (net : Plan) (edges : List Edge) (order : List PointId) (first second first_schedule second_schedule : List ℕ) (t : ℕ) → IsInstant net
    → IsForwardClosedList net edges → IsOrder net edges order → IsSituation net first → IsSituation net second
    → IsDispatched net edges first first_schedule → IsDispatched net edges second second_schedule
    → SameCompletions net t first_schedule second_schedule → SameExecutions net t first_schedule second_schedule

-- every dynamic execution strategy is what some tree plays
abbrev pub DynamicStrategiesAreTrees : Type 0
DynamicStrategiesAreTrees =
    (net : Plan) (schedule_of : List ℕ → List ℕ) → IsInstant net → IsDynamic net schedule_of → (strategy : Tree)
    × ((situation : List ℕ) → IsSituation net situation → play strategy net situation ≡ Some (schedule_of situation))

-- and what a tree plays in every situation is a dynamic execution strategy
abbrev pub TreesAreDynamic : Type 0
TreesAreDynamic =
    (net : Plan) (strategy : Tree) (schedule_of : List ℕ → List ℕ) → IsInstant net
    → ((situation : List ℕ) → IsSituation net situation → play strategy net situation ≡ Some (schedule_of situation)) → IsDynamic net schedule_of

-- if the edges of the list are true of every strategy that controls the network, it is the earliest schedule
abbrev pub DispatchedAreEarliest : Type 0
DispatchedAreEarliest =
    (net : Plan) (edges : List Edge) (order : List PointId) (situation schedule : List ℕ) → IsInstant net → IsForwardClosedList net edges
    → IsOrder net edges order → AreTrue net edges → IsSituation net situation → IsDispatched net edges situation schedule
    → IsEarliest net situation schedule

-- a closed list of edges without a cycle of negative ordinary edges has an order
abbrev pub ClosedListsHaveOrders : Type 0
ClosedListsHaveOrders = (net : Plan) (edges : List Edge) → IsClosedList net edges → HasNoNegativeCycle edges → (order : List PointId) × IsOrder net edges order

-- so a closed list of edges that are true of every strategy that controls the network decides whether one does
abbrev pub ClosedListsDecide : Type 0
ClosedListsDecide =
    (net : Plan) (edges : List Edge) → IsInstant net → IsClosedList net edges → AreTrue net edges → (IsControllable net ↔ HasNoNegativeCycle edges)

-- what the earliest schedules execute up to a moment depends on what is completed up to it alone
abbrev pub EarliestSeeAlone : Type 0
EarliestSeeAlone =
    (net : Plan) (first second first_schedule second_schedule : List ℕ) (t : ℕ) → IsInstant net → IsEarliest net first first_schedule
    → IsEarliest net second second_schedule → SameCompletions net t first_schedule second_schedule
    → SameExecutions net t first_schedule second_schedule
