-- Several rounds, one after another, from the moments 0 on.
use Rattle.std.specs.Prelude.{◌≡◌, ◌<◌, ℕ, suc, List, [], Option, length, replicate}
use Rattle.std.specs.List.{All, slice_index_or}
use Rattle.net_model.specs.declared.part.Edge.{Edge}
use Rattle.earliest_times.specs.Rounds.{IsRoundOver}

-- for each level the edges that raised points in its round
pub record IsHistory (edges : List Edge) (points : ℕ) (levels : List (List (Option ℕ))) (now : List ℕ) : Type 0 where
  pub tables : ℕ → List ℕ
  pub begins : tables 0 ≡ replicate points 0
  pub arrives : tables (length levels) ≡ now
  pub rounds : (level : ℕ) → level < length levels → IsRoundOver edges (length edges) (tables level) (tables (suc level)) (slice_index_or levels level [])

-- the points of edges are among so many
abbrev pub AreWithin : ℕ → List Edge → Type 0
AreWithin points edges = All (λ edge. (edge.from.0 < points) × (edge.to.0 < points)) edges
