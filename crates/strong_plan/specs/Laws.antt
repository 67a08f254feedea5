-- What holds of strong schedules.
use Rattle.std.specs.Prelude.{◌≡◌, ◌≤◌, ℕ, List}
use Rattle.std.specs.List.{AllByRecursion, Contains}
use Rattle.net_model.specs.Network.{Plan, IsPlan, IsPoint, IsExecutable}
use Rattle.net_model.specs.declared.ids.PointId.{PointId}
use Rattle.net_model.specs.declared.part.Bound.{Bound}
use Rattle.net_model.specs.declared.part.Edge.{Edge}
use Rattle.net_model.specs.declared.part.Link.{Link}
use Rattle.strategy_model.specs.Control.{IsControllable}
use Rattle.strategy_model.specs.Situations.{moment_in}
use Rattle.strategy_model.specs.Edges.{HoldsIn, IsNegativeLoop}
use Rattle.strong_plan.specs.Strong.{executed_in, IsStrongSchedule, IsLeastStrongSchedule, IsStronglyControllable}
use Rattle.strong_plan.specs.Answers.{IsStrongAnswer}
use Rattle.strong_plan.specs.Judgement.{judgement_of}
use Rattle.cert_format.specs.declared.strong_cert.StrongCert.{StrongCert}
use Rattle.strong_plan.specs.declared.judgement.StrongJudgement.TheVariants.{Accepted}
use Rattle.strong_plan.specs.declared.answer.Strong.{Strong}
use Rattle.strong_plan.specs.Chains.{IsChain, IsReduced, IsAllowed, IsRing}

-- every point of the network has a root
abbrev pub HasRoots : Plan → Type 0
HasRoots net = (point : PointId) → IsPoint net point → (chain : List Link) × (root : PointId) × IsChain net point chain root

-- a schedule keeps the reduced edge of every bound
abbrev pub KeepsReduced : Plan → List ℕ → Type 0
KeepsReduced net schedule = (bound : Bound) (edge : Edge) → Contains net.bounds bound → IsReduced net bound edge → HoldsIn schedule edge

-- moments of the executable points are a strong schedule if every point has a root and they keep the reduced edges
abbrev pub ReducedEdgesSuffice : Type 0
ReducedEdgesSuffice =
    (net : Plan) (schedule : List ℕ) → IsPlan net → HasRoots net → KeepsReduced net schedule → IsStrongSchedule net (executed_in net schedule)

-- and only then
abbrev pub ReducedEdgesHold : Type 0
ReducedEdgesHold =
    (net : Plan) (times : List ℕ) → IsPlan net → IsStrongSchedule net times
    → HasRoots net × ((schedule : List ℕ) → executed_in net schedule ≡ times → KeepsReduced net schedule)

-- a strongly controllable network is controllable, whatever its delay: nothing is observed
abbrev pub StrongIsControllable : Type 0
StrongIsControllable = (net : Plan) → IsPlan net → IsStronglyControllable net → IsControllable net

-- a closed walk of negative total over reduced edges, or edges above them, excludes every strong schedule
abbrev pub LoopsExcludeStrong : Type 0
LoopsExcludeStrong = (net : Plan) (edges : List Edge) → IsPlan net → AllByRecursion (IsAllowed net) edges → IsNegativeLoop edges → IsStronglyControllable net
    → ⊥

-- and so does a ring of links
abbrev pub RingsExcludeStrong : Type 0
RingsExcludeStrong = (net : Plan) (links : List Link) → IsPlan net → IsRing net links → IsStronglyControllable net → ⊥

-- moments that keep the reduced edges, of which no others that keep them have an executable point sooner, are the least strong
-- schedule
abbrev pub LeastKeptIsLeast : Type 0
LeastKeptIsLeast =
    (net : Plan) (schedule : List ℕ) → IsPlan net → HasRoots net → KeepsReduced net schedule
    → ((other : List ℕ) → KeepsReduced net other → (point : PointId) → IsExecutable net point → moment_in schedule point ≤ moment_in other point)
    → IsLeastStrongSchedule net (executed_in net schedule)

-- an accepted certificate excludes every strong schedule, whoever wrote it
abbrev pub AcceptedExcludes : Type 0
AcceptedExcludes = (net : Plan) (cert : StrongCert) → IsPlan net → judgement_of net cert ≡ Accepted → IsStronglyControllable net → ⊥

-- two answers to one network are the same: its least strong schedule, or the refutation of its first ring or loop
abbrev pub StrongAnswerIsOne : Type 0
StrongAnswerIsOne = (net : Plan) (one other : Strong) → IsStrongAnswer net one → IsStrongAnswer net other → one ≡ other
