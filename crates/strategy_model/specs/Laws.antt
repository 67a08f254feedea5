-- What holds of plays, what the rules keep, and what closed walks of negative total exclude.
use Rattle.std.specs.Prelude.{◌≡◌, ℕ, ◌+◌, ◌<◌, min, List, Some, slice_get}
use Rattle.std.specs.List.{All, AllByRecursion, Contains}
use Rattle.net_model.specs.Network.{Plan, IsPlan}
use Rattle.net_model.specs.Edges.{IsLinkOf, IsEdge}
use Rattle.net_model.specs.Rules.{Follows, IsDerivation}
use Rattle.net_model.specs.LooseRules.{IsLooseBound, IsLooseLink, IsLooseNoCase, IsLooseUpperCase, IsLooseLowerCase, IsLooseCrossCase, IsLooseRemoval}
use Rattle.net_model.specs.LooseRules.{FollowsLoosely, IsLooseDerivation}
use Rattle.net_model.specs.declared.ids.PointId.{PointId}
use Rattle.net_model.specs.declared.ids.LinkId.{LinkId}
use Rattle.net_model.specs.declared.part.Edge.{Edge}
use Rattle.net_model.specs.declared.part.Link.{Link}
use Rattle.strategy_model.specs.Situations.{IsSituation, Satisfies, DifferOnlyIn, moment_in}
use Rattle.strategy_model.specs.Plays.{play, IsInstant}
use Rattle.strategy_model.specs.Control.{Controls, IsControllable, IsEarliest}
use Rattle.strategy_model.specs.Edges.{HoldsIn, HoldsOf, IsNegativeLoop, IsNegativeCycle}
use Rattle.strategy_model.specs.declared.tree.Tree.{Tree}

-- in a play each contingent point comes its link's duration after its activation point
abbrev pub CompletionFollowsActivation : Type 0
CompletionFollowsActivation =
    (net : Plan) (strategy : Tree) (situation schedule : List ℕ) (name : LinkId) (link : Link) (duration : ℕ) → IsInstant net
    → play strategy net situation ≡ Some schedule → IsLinkOf net name link → slice_get situation name.0 ≡ Some duration
    → moment_in schedule link.to ≡ moment_in schedule link.from + duration

-- In two situations that differ in one link the plays of a strategy agree on each point that comes before the sooner of
-- that link's two completions.
abbrev pub PlaysAgree : Type 0
PlaysAgree =
    (net : Plan) (strategy : Tree) (name : LinkId) (link : Link) (first second first_play second_play : List ℕ) → IsInstant net → IsLinkOf net name link
    → IsSituation net first → IsSituation net second → DifferOnlyIn name first second → play strategy net first ≡ Some first_play
    → play strategy net second ≡ Some second_play → (point : PointId)
    → moment_in first_play point < min (moment_in first_play link.to) (moment_in second_play link.to)
    → moment_in first_play point ≡ moment_in second_play point

-- the edge of a bound is true of a strategy that controls the network
abbrev pub BoundKeepsTruth : Type 0
BoundKeepsTruth = (net : Plan) (strategy : Tree) (edge : Edge) → IsInstant net → Controls strategy net → IsLooseBound net edge → HoldsOf net strategy edge

-- the edge of a link is true of a strategy that controls the network
abbrev pub LinkKeepsTruth : Type 0
LinkKeepsTruth = (net : Plan) (strategy : Tree) (edge : Edge) → IsInstant net → Controls strategy net → IsLooseLink net edge → HoldsOf net strategy edge

-- what no-case gives from edges that are true of a controlling strategy is true of it
abbrev pub NoCaseKeepsTruth : Type 0
NoCaseKeepsTruth =
    (net : Plan) (strategy : Tree) (first second edge : Edge) → IsInstant net → Controls strategy net → HoldsOf net strategy first
    → HoldsOf net strategy second → IsLooseNoCase first second edge → HoldsOf net strategy edge

-- what upper-case gives from edges that are true of a controlling strategy is true of it
abbrev pub UpperCaseKeepsTruth : Type 0
UpperCaseKeepsTruth =
    (net : Plan) (strategy : Tree) (first second edge : Edge) → IsInstant net → Controls strategy net → HoldsOf net strategy first
    → HoldsOf net strategy second → IsLooseUpperCase first second edge → HoldsOf net strategy edge

-- what lower-case gives from an edge that is true of a controlling strategy is true of it
abbrev pub LowerCaseKeepsTruth : Type 0
LowerCaseKeepsTruth =
    (net : Plan) (strategy : Tree) (second edge : Edge) → IsInstant net → Controls strategy net → HoldsOf net strategy second
    → IsLooseLowerCase net second edge → HoldsOf net strategy edge

-- what cross-case gives from an edge that is true of a controlling strategy is true of it
abbrev pub CrossCaseKeepsTruth : Type 0
CrossCaseKeepsTruth =
    (net : Plan) (strategy : Tree) (second edge : Edge) → IsInstant net → Controls strategy net → HoldsOf net strategy second
    → IsLooseCrossCase net second edge → HoldsOf net strategy edge

-- what removal gives from an edge that is true of a controlling strategy is true of it
abbrev pub RemovalKeepsTruth : Type 0
RemovalKeepsTruth =
    (net : Plan) (strategy : Tree) (premise edge : Edge) → IsInstant net → Controls strategy net → HoldsOf net strategy premise
    → IsLooseRemoval net premise edge → HoldsOf net strategy edge

-- what follows by one rule from edges that are true of a controlling strategy is true of it
abbrev pub RulesKeepTruth : Type 0
RulesKeepTruth =
    (net : Plan) (strategy : Tree) (earlier : List Edge) (edge : Edge) → IsInstant net → Controls strategy net
    → AllByRecursion (HoldsOf net strategy) earlier → FollowsLoosely net earlier edge → HoldsOf net strategy edge

-- every edge of a derivation is true of every strategy that controls the network
abbrev pub DerivationsAreTrue : Type 0
DerivationsAreTrue = (net : Plan) (strategy : Tree) (edges : List Edge) → IsInstant net → Controls strategy net → IsLooseDerivation net edges
    → All (HoldsOf net strategy) edges

-- what follows by one rule from edges of the network is an edge of it
abbrev pub RulesKeepEdges : Type 0
RulesKeepEdges =
    (net : Plan) (earlier : List Edge) (edge : Edge) → IsPlan net → AllByRecursion (IsEdge net) earlier → FollowsLoosely net earlier edge → IsEdge net edge

-- no schedule keeps every edge of a closed walk of negative total
abbrev pub LoopsExcludeSchedules : Type 0
LoopsExcludeSchedules = (schedule : List ℕ) (edges : List Edge) → IsNegativeLoop edges → AllByRecursion (HoldsIn schedule) edges → ⊥

-- of no strategy that controls the network is every edge of a closed walk of negative total true
abbrev pub LoopsExcludeStrategies : Type 0
LoopsExcludeStrategies =
    (net : Plan) (strategy : Tree) (edges : List Edge) → IsInstant net → AllByRecursion (HoldsOf net strategy) edges → IsNegativeLoop edges
    → Controls strategy net → ⊥

-- a derivation and a closed walk of negative total over its edges exclude every strategy that controls the network
abbrev pub RefutationsExcludeStrategies : Type 0
RefutationsExcludeStrategies =
    (net : Plan) (edges walk : List Edge) → IsInstant net → IsLooseDerivation net edges → All (Contains edges) walk → IsNegativeLoop walk → IsControllable net
    → ⊥

-- a closed walk over bounds of negative total excludes every schedule that satisfies the network
abbrev pub LoopsOfBoundsExcludeSchedules : Type 0
LoopsOfBoundsExcludeSchedules =
    (net : Plan) (edges : List Edge) → IsNegativeLoop edges → AllByRecursion (IsLooseBound net) edges → (schedule : List ℕ) → Satisfies net schedule → ⊥

-- and so it excludes every strategy that controls the network
abbrev pub LoopsOfBoundsExcludeStrategies : Type 0
LoopsOfBoundsExcludeStrategies =
    (net : Plan) (edges : List Edge) → IsInstant net → IsNegativeLoop edges → AllByRecursion (IsLooseBound net) edges → IsControllable net → ⊥

-- a situation has at most one earliest schedule
abbrev pub AtMostOneEarliest : Type 0
AtMostOneEarliest = (net : Plan) (situation first second : List ℕ) → IsEarliest net situation first → IsEarliest net situation second → first ≡ second

-- what an exact rule gives from edges of the network that are true of a controlling strategy is true of it
abbrev pub ExactRulesKeepTruth : Type 0
ExactRulesKeepTruth =
    (net : Plan) (strategy : Tree) (earlier : List Edge) (edge : Edge) → IsInstant net → Controls strategy net → All (IsEdge net) earlier
    → All (HoldsOf net strategy) earlier → Follows net earlier edge → HoldsOf net strategy edge

-- every edge of a derivation by the exact rules is an edge of the network
abbrev pub ExactDerivationsHaveEdges : Type 0
ExactDerivationsHaveEdges = (net : Plan) (edges : List Edge) → IsPlan net → IsDerivation net edges → All (IsEdge net) edges

-- and is true of every strategy that controls the network
abbrev pub ExactDerivationsAreTrue : Type 0
ExactDerivationsAreTrue = (net : Plan) (strategy : Tree) (edges : List Edge) → IsInstant net → Controls strategy net → IsDerivation net edges
    → All (HoldsOf net strategy) edges

-- so a cycle of negative ordinary edges that are derived excludes every strategy that controls the network
abbrev pub NegativeCyclesExcludeStrategies : Type 0
NegativeCyclesExcludeStrategies =
    (net : Plan) (edges cycle : List Edge) → IsInstant net → IsDerivation net edges → All (Contains edges) cycle → IsNegativeCycle cycle → IsControllable net
    → ⊥
