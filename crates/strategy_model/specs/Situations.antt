-- Situations and schedules (Morris, Muscettola and Vidal 2001), in whole moments from 0.
use Rattle.std.specs.Prelude.{◌≡◌, ◌≢◌, ℕ, List, length, slice_index, slice_get, pos, ◌-ℤ◌, ◌≤ℤ◌}
use Rattle.std.specs.List.{All, AllZip}
use Rattle.net_model.specs.Network.{Plan}
use Rattle.net_model.specs.declared.ids.PointId.{PointId}
use Rattle.net_model.specs.declared.ids.LinkId.{LinkId}
use Rattle.net_model.specs.declared.part.Bound.{Bound}
use Rattle.net_model.specs.declared.part.Link.{Link}

-- a duration that nature may pick for a link
abbrev pub IsDuration : Link → ℕ → Type 0
IsDuration link duration = (link.low ≤ℤ pos duration) × (pos duration ≤ℤ link.high)

-- a situation: one duration for each link, in the order of the links
abbrev pub IsSituation : Plan → List ℕ → Type 0
IsSituation net durations = AllZip IsDuration net.links durations

-- the moment of a point in a schedule, which has one moment for each point, in the order of the points
abbrev pub moment_in : List ℕ → PointId → ℕ
moment_in schedule point = slice_index schedule point.0

-- the schedule keeps a bound: `to - from <= most`
abbrev pub Keeps : List ℕ → Bound → Type 0
Keeps schedule bound = (pos (moment_in schedule bound.to) -ℤ pos (moment_in schedule bound.from)) ≤ℤ bound.most

-- the schedule satisfies the network: it has one moment for each point and keeps every bound
pub record Satisfies (net : Plan) (schedule : List ℕ) : Type 0 where
  pub complete : length schedule ≡ length net.points
  pub keeps : All (Keeps schedule) net.bounds

-- two situations that differ in no link but one
abbrev pub DifferOnlyIn : LinkId → List ℕ → List ℕ → Type 0
DifferOnlyIn name first second = (k : ℕ) → k ≢ name.0 → slice_get first k ≡ slice_get second k
