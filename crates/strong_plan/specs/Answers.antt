-- What is answered of a network: its least strong schedule, or a certificate that it has none.
use Rattle.std.specs.Prelude.{◌≡◌, ◌≢◌, ◌⊎◌, ◌≤◌, ◌<◌, ◌++◌, ℕ, negsuc, List, [], Some, None, map, length, slice_get}
use Rattle.std.specs.List.{AllPairs, slice_index_or}
use Rattle.std.specs.Option.{option_map_or}
use Rattle.net_model.specs.Network.{Plan}
use Rattle.net_model.specs.NetworkParts.{point_name}
use Rattle.net_model.specs.declared.ids.PointId.{PointId}
use Rattle.net_model.specs.declared.part.Bound.{Bound}
use Rattle.net_model.specs.declared.part.Edge.{Edge}
use Rattle.net_model.specs.declared.part.Link.{Link}
use Rattle.cert_format.specs.StrongWords.{OfOneKind, HasStrongWeights}
use Rattle.cert_format.specs.declared.strong_cert.StrongCert.{StrongCert}
use Rattle.cert_format.specs.declared.strong_cert.StrongLine.{StrongLine}
use Rattle.earliest_times.specs.Rounds.{edge_at_place}
use Rattle.earliest_times.specs.FirstLoops.{IsFirstLoop}
use Rattle.strong_plan.specs.Strong.{IsLeastStrongSchedule, IsStronglyControllable}
use Rattle.strong_plan.specs.Chains.{IsRing}
use Rattle.strong_plan.specs.ReducedEdges.{reduced_edge}
use Rattle.strong_plan.specs.Judgement.{judgement_of}
use Rattle.strong_plan.specs.declared.judgement.StrongJudgement.TheVariants.{Accepted}
use Rattle.strong_plan.specs.declared.answer.Strong.{Strong}
use Rattle.strong_plan.specs.declared.answer.Strong.TheVariants.{Times, Refuted}

-- The edge of a link by which its activation point stands higher than its contingent point. The least moments that keep these edges are heights: how many links
-- at most lead on from a point. Links have a ring exactly if there are none.
abbrev pub down_edge : Link → Edge
down_edge link = record { from = link.from; to = link.to; label = None; weight = negsuc 0 }

-- the reduced edges of all bounds, in order
abbrev pub AreReduced : Plan → List Edge → Type 0
AreReduced net edges = map (λ (edge : Edge). Some edge) edges ≡ map (reduced_edge net) net.bounds

-- links have no ring
abbrev pub HasNoRing : Plan → Type 0
HasNoRing net = (links : List Link) → IsRing net links → ⊥

-- the points in which the edges at these places begin
abbrev pub points_at : List Edge → List ℕ → List PointId
points_at edges places = map (λ place. (edge_at_place edges place).from) places

-- their names
abbrev pub names_at : Plan → List Edge → List ℕ → List (List ℕ)
names_at net edges places = map (point_name net.points) (points_at edges places)

-- the line of a certificate for the bound at a place, of which this is the reduced edge
abbrev pub reduced_line : Plan → ℕ → Edge → StrongLine
reduced_line net place edge = record {
  bound = option_map_or (λ (bound : Bound). bound.name) (slice_get net.bounds place) [];
  from = point_name net.points edge.from;
  to = point_name net.points edge.to;
  weight = edge.weight;
}

-- the lines for the bounds at these places
abbrev pub lines_at : Plan → List Edge → List ℕ → List StrongLine
lines_at net edges places = map (λ place. reduced_line net place (edge_at_place edges place)) places

-- the names of the points of the walk that a certificate states, line by line
abbrev pub names_of_certificate : StrongCert → List (List ℕ)
names_of_certificate cert = map (λ (line : StrongLine). line.from) cert.by ++ cert.ring

-- points of a walk, none of which comes twice, from the one of least number on
pub record IsFromLowest (points : List PointId) : Type 0 where
  pub once : AllPairs (λ one other. one.0 ≢ other.0) points
  pub lowest : (k : ℕ) → k < length points → (slice_index_or points 0 (record { 0 = 0 })).0 ≤ (slice_index_or points k (record { 0 = 0 })).0

-- the ring that a certificate states is the first loop of the links
pub record StatesFirstRing (net : Plan) (cert : StrongCert) : Type 0 where
  pub places : List ℕ
  pub first : IsFirstLoop (length net.points) (map down_edge net.links) places
  pub lines : cert.by ≡ []
  pub points : cert.ring ≡ names_at net (map down_edge net.links) places

-- links have no ring, and what a certificate states is the first negative loop of the reduced edges, in order of the bounds
pub record StatesFirstLoop (net : Plan) (cert : StrongCert) : Type 0 where
  pub no_ring : HasNoRing net
  pub edges : List Edge
  pub reduced : AreReduced net edges
  pub places : List ℕ
  pub first : IsFirstLoop (length net.points) edges places
  pub lines : cert.by ≡ lines_at net edges places
  pub points : cert.ring ≡ []

-- A refutation: a certificate that is accepted, of a ring if the links have one; no point comes twice in it, and it begins at its lowest. It is of the first
-- such ring or loop.
pub record IsStrongRefutation (net : Plan) (cert : StrongCert) : Type 0 where
  pub accepted : judgement_of net cert ≡ Accepted
  pub excludes : IsStronglyControllable net → ⊥
  pub rings_first : (links : List Link) → IsRing net links → cert.ring ≢ []
  pub points : List PointId
  pub named : names_of_certificate cert ≡ map (point_name net.points) points
  pub from_lowest : IsFromLowest points
  pub of_one_kind : OfOneKind cert
  pub weights : HasStrongWeights cert
  pub first : StatesFirstRing net cert ⊎ StatesFirstLoop net cert

-- what is answered of a network
abbrev pub IsStrongAnswer : Plan → Strong → Type 0
IsStrongAnswer net (Times times) = IsLeastStrongSchedule net times
IsStrongAnswer net (Refuted cert) = IsStrongRefutation net cert
