-- Rounds over edges: each point is raised as far as the moments before the round require.
use Rattle.std.specs.Prelude.{◌≡◌, ◌<◌, ◌≤◌, ◌+◌, ◌-◌, ℕ, suc, ℤ, pos, negsuc, List, Option, Some, None, length}
use Rattle.std.specs.List.{slice_index_or}
use Rattle.net_model.specs.declared.part.Edge.{Edge}
use Rattle.strategy_model.specs.Situations.{moment_in}

-- an edge that requires nothing
abbrev pub no_edge : Edge
no_edge = record { from = record { 0 = 0 }; to = record { 0 = 0 }; label = None; weight = pos 0 }

-- the edge at a place
abbrev pub edge_at_place : List Edge → ℕ → Edge
edge_at_place edges place = slice_index_or edges place no_edge

-- how late a point must be for `to - point <= weight`
abbrev pub back : ℕ → ℤ → ℕ
back to (pos n) = to - n
back to (negsuc n) = to + suc n

-- how late an edge requires its first point to be
abbrev pub required_moment : List ℕ → Edge → ℕ
required_moment moments edge = back (moment_in moments edge.to) edge.weight

-- a point was raised by the edge at a place, the first that requires as much
pub record IsRaisedBy (edges : List Edge) (before after : List ℕ) (point place : ℕ) : Type 0 where
  pub within : place < length edges
  pub begins : (edge_at_place edges place).from.0 ≡ point
  pub reached : slice_index_or after point 0 ≡ required_moment before (edge_at_place edges place)
  pub more : slice_index_or before point 0 < slice_index_or after point 0
  pub first : (other : ℕ) → other < place → (edge_at_place edges other).from.0 ≡ point
      → required_moment before (edge_at_place edges other) < slice_index_or after point 0

-- what became of a point in a round: it stayed, or was raised by an edge
abbrev pub Became : List Edge → List ℕ → List ℕ → ℕ → Option ℕ → Type 0
Became edges before after point None = slice_index_or after point 0 ≡ slice_index_or before point 0
Became edges before after point (Some place) = IsRaisedBy edges before after point place

-- a round over so many edges
pub record IsRoundOver (edges : List Edge) (count : ℕ) (before after : List ℕ) (raised : List (Option ℕ)) : Type 0 where
  pub after_length : length after ≡ length before
  pub raised_length : length raised ≡ length before
  pub asks : (place : ℕ) → place < count → required_moment before (edge_at_place edges place) ≤ moment_in after (edge_at_place edges place).from
  pub became : (point : ℕ) → point < length before → Became edges before after point (slice_index_or raised point None)
