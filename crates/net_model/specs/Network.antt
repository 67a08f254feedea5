-- Temporal networks with uncertainty (Morris, Muscettola and Vidal 2001), in whole moments.
use Rattle.std.specs.Prelude.{◌≡◌, ◌≢◌, ℕ, ◌<◌, ◌≤◌, ◌==◌, true, List, [], length, map, filter, fold, max, Option, IsTrue, IsSome, IsNone, pos, ◌≤ℤ◌, ◌+◌}
use Rattle.std.specs.Prelude.{unsigned_abs}
use Rattle.std.specs.Option.{option_map, option_and_then}
use Rattle.std.specs.List.{All, AllPairs, IsDistinct, position, enumerate_from}
use Rattle.std.specs.Str.{bytes_eq}
use Rattle.net_model.specs.Names.{is_name}
use Rattle.net_model.specs.declared.ids.PointId.{PointId}
use Rattle.net_model.specs.declared.ids.LinkId.{LinkId}
use Rattle.net_model.specs.declared.ids.BoundId.{BoundId}
use Rattle.net_model.specs.declared.part.Bound.{Bound}
use Rattle.net_model.specs.declared.part.Link.{Link}
use Rattle.net_model.specs.Limits.{most_points, most_links, most_bounds, most_delay, most_size, within_limit, within_size}

-- a network as it is declared: its points by their names, its bounds, its links, each list in the order of declaration, and its
-- delay, how many moments after it happened a completion is shown
pub record Plan : Type 0 where
  pub points : List (List ℕ)
  pub bounds : List Bound
  pub links : List Link
  pub delay : ℕ

-- the point of a name
abbrev pub point_named : Plan → List ℕ → Option PointId
point_named net name = option_map (λ k. record { 0 = k }) (position (bytes_eq name) net.points)

-- the bound of a name
abbrev pub bound_named : Plan → List ℕ → Option BoundId
bound_named net name = option_map (λ k. record { 0 = k }) (position (λ (b : Bound). bytes_eq name b.name) net.bounds)

-- the link that ends in a point
abbrev pub activation : Plan → PointId → Option LinkId
activation net point = option_map (λ k. record { 0 = k }) (position (λ (l : Link). l.to.0 == point.0) net.links)

-- the link that ends in the point of a name
abbrev pub link_named : Plan → List ℕ → Option LinkId
link_named net name = option_and_then (activation net) (point_named net name)

-- the number of a point of the network
abbrev pub IsPoint : Plan → PointId → Type 0
IsPoint net point = point.0 < length net.points

-- a point in which a link ends
abbrev pub IsContingent : Plan → PointId → Type 0
IsContingent net point = IsSome (activation net point)

-- a point of the network in which no link ends
abbrev pub IsExecutable : Plan → PointId → Type 0
IsExecutable net point = IsPoint net point × IsNone (activation net point)

-- a bound between points of the network, with a number that is not too great, nor is it with the delay
pub record IsBound (net : Plan) (bound : Bound) : Type 0 where
  pub named : IsTrue (is_name bound.name)
  pub from_point : IsPoint net bound.from
  pub to_point : IsPoint net bound.to
  pub within : within_size bound.most ≡ true
  pub shown_within : unsigned_abs bound.most + net.delay ≤ most_size

-- a link between two points of the network, with an interval of durations from 1 on that is not empty; its longest duration is not
-- too great, nor is it with the delay
pub record IsLink (net : Plan) (link : Link) : Type 0 where
  pub from_point : IsPoint net link.from
  pub to_point : IsPoint net link.to
  pub apart : link.from.0 ≢ link.to.0
  pub positive : pos 1 ≤ℤ link.low
  pub interval : link.low ≤ℤ link.high
  pub within : within_size link.high ≡ true
  pub shown_within : unsigned_abs link.high + net.delay ≤ most_size

-- a network: names are names and differ, bounds and links are sound, no two links end in one point, and no list and no delay
-- is too long
pub record IsPlan (net : Plan) : Type 0 where
  pub points_named : All (λ name. IsTrue (is_name name)) net.points
  pub points_apart : IsDistinct bytes_eq net.points
  pub bounds_sound : All (IsBound net) net.bounds
  pub bounds_apart : IsDistinct bytes_eq (map (λ (b : Bound). b.name) net.bounds)
  pub links_sound : All (IsLink net) net.links
  pub links_apart : AllPairs (λ (l m : Link). l.to.0 ≢ m.to.0) net.links
  pub few_points : length net.points ≤ most_points
  pub few_bounds : length net.bounds ≤ most_bounds
  pub few_links : length net.links ≤ most_links
  pub short_delay : net.delay ≤ most_delay

-- the numbers of a network are those that a plan may have
pub record HasPlanNumbers (net : Plan) : Type 0 where
  pub bounds : All (λ (b : Bound). within_limit b.most ≡ true) net.bounds
  pub links : All (λ (l : Link). within_limit l.high ≡ true) net.links

-- the links that begin in a point, in order
abbrev pub links_from : Plan → PointId → List LinkId
links_from net point = map (λ (l : ℕ × Link). record { 0 = l.0 }) (filter (λ (l : ℕ × Link). l.1.from.0 == point.0) (enumerate_from 0 net.links))

-- the greatest size of a number, or 0 if there is none
abbrev pub greatest : Plan → ℕ
greatest net = max (fold (λ most (b : Bound). max most (unsigned_abs b.most)) 0 net.bounds)
    (fold (λ most (l : Link). max most (unsigned_abs l.high)) 0 net.links)

-- the network without points, with a delay of 0
abbrev pub empty : Plan
empty = record { points = []; bounds = []; links = []; delay = 0 }
