-- What holds of a dispatchable network as it is stored.
use Rattle.std.specs.Prelude.{◌≡◌, ◌≢◌, ◌⊎◌, ℕ, ℤ, ◌<◌, ◌≤◌, ◌==◌, ◌&&◌, Bool, false, List, length, find, Option, None}
use Rattle.std.specs.List.{All, AllPairs, Contains, list_any, slice_index_or}
use Rattle.std.specs.Option.{option_map_or}
use Rattle.net_model.specs.declared.ids.PointId.{PointId}
use Rattle.net_model.specs.declared.ids.LinkId.{LinkId}
use Rattle.net_model.specs.declared.part.Link.{Link}
use Rattle.dispatch_net.specs.declared.dispatch.Conditions.{Conditions}
use Rattle.dispatch_net.specs.Dispatchable.{conditions_at}
use Rattle.dispatch_net.specs.Slim.{slimmed}

-- numbered items stand in order of number
abbrev pub Rise : {X : Type 0} → (X → ℕ) → List X → Type 0
Rise number items = AllPairs (λ x y. number x < number y) items

-- lower bounds stand in order of the number of their point, waits in that of their link
pub record AreInOrder (conditions : Conditions) : Type 0 where
  pub bounds : Rise (λ (bound : PointId × ℤ). bound.0.0) conditions.lower_bounds
  pub waits : Rise (λ (wait : LinkId × ℤ). wait.0.0) conditions.waits

-- the link that ends in a point
abbrev pub link_ending : List Link → PointId → Option Link
link_ending links point = find (λ (link : Link). link.to.0 == point.0) links

-- for each of so many points the link that ends in it
pub record AreEnds (links : List Link) (points : ℕ) (ends : List (Option Link)) : Type 0 where
  pub count : length ends ≡ points
  pub each : (point : ℕ) → point < points → slice_index_or ends point None ≡ link_ending links (record { 0 = point })

-- a test of the links that end in a point is a test of this one
abbrev pub AreAllEnds : List Link → List (Option Link) → Type 0
AreAllEnds links ends =
    (test : Link → Bool) (point : ℕ) → list_any (λ (link : Link). link.to.0 == point && test link) links ≡ option_map_or test
    (slice_index_or ends point None) false

-- the links of a network, and the lower bounds and waits by which each point is executed
pub record HeldLists : Type 0 where
  pub links : List Link
  pub lists : List Conditions

-- as they are stored: in order, and with the link that ends in each point
pub record AreHeldLists (links : List Link) (ends : List (Option Link)) (lists : List Conditions) : Type 0 where
  pub in_order : All AreInOrder lists
  pub ends_are : AreEnds links (length lists) ends
  pub all_ends : AreAllEnds links ends

-- two lists have the same items, in whatever order
abbrev pub HaveSame : {X : Type 0} → (xs ys : List X) → Type 0
HaveSame {X} xs ys = (test : X → Bool) → list_any test xs ≡ list_any test ys

-- lower bounds of a point are on other points of so many
abbrev pub AreOnOthers : ℕ → PointId → List (PointId × ℤ) → Type 0
AreOnOthers points point bounds = (bound : PointId × ℤ) → Contains bounds bound → (bound.0.0 ≢ point.0) × (bound.0.0 < points)

-- the ranks of points are their places in an order
abbrev pub AreRanks : (order : List PointId) → (ranks : List ℕ) → Type 0
AreRanks order ranks = (place : ℕ) (d : PointId) → place < length order → slice_index_or ranks (slice_index_or order place d).0 0 ≡ place

-- an order has each point once, and the lower bounds of a point are on points before it
pub record GoDown (order : List PointId) (lists : List Conditions) : Type 0 where
  pub whole : (point : PointId) → point.0 < length lists → Contains order point
  pub once : AllPairs (λ p q. p.0 ≢ q.0) order
  pub points : All (λ point. point.0 < length lists) order
  pub descends : (i : ℕ) (d : PointId) (bound : PointId × ℤ) → i < length order → Contains (conditions_at lists (slice_index_or order i d)).lower_bounds bound
      → (k : ℕ) × (k < i) × (slice_index_or order k d ≡ bound.0)

-- all that was made is kept, or what no others imply
abbrev pub IsSlimOrWhole : List Link → (made kept : List Conditions) → Type 0
IsSlimOrWhole links made kept = (kept ≡ made) ⊎ (kept ≡ slimmed links made)

-- what is kept, with an order of the points and capacity for as many lower bounds as there are points
pub record IsKeptInOrder (links : List Link) (made kept : List Conditions) (order : List PointId) (capacity : ℕ) : Type 0 where
  pub slim_or_whole : IsSlimOrWhole links made kept
  pub down : GoDown order kept
  pub spare_capacity : length kept ≤ capacity
