-- The test of a table for forward closedness: which of its edges it saturates forward.
use Rattle.std.specs.Prelude.{◌≡◌, ◌<◌, ◌+◌, ◌%◌, ℕ, ℤ, pos, ◌≤ℤ◌, ◌+ℤ◌, ◌⊎◌, List, [], length, Option, None, Some, slice_index_or}
use Rattle.std.specs.List.{All}
use Rattle.net_model.specs.Network.{Plan}
use Rattle.net_model.specs.declared.ids.LinkId.{LinkId}
use Rattle.net_model.specs.declared.ids.PointId.{PointId}
use Rattle.net_model.specs.declared.part.Edge.{Edge}
use Rattle.closure_model.specs.Tables.{Graph, HasEdge}
use Rattle.labelled_graph.specs.Words.{absent}
use Rattle.network_closure.specs.Saturation.{SaturatesRemoval, SaturatesOverLinks, SaturatesAfter}
use Rattle.forward_closure.specs.Sources.{AreWordsOfSources}
use Rattle.forward_closure.specs.declared.source.Source.{Source}

-- a table saturates an edge with every edge of the table of weight 0 or more before it
abbrev pub SaturatesFirsts : Graph → Edge → Type 0
SaturatesFirsts table edge = (first : Edge) → HasEdge table first → pos 0 ≤ℤ first.weight → SaturatesAfter table first edge

-- a table saturates an edge forward: by the removal of its label, over links, and with every edge of the table of weight 0 or more before it
pub record SaturatesForward (net : Plan) (table : Graph) (edge : Edge) : Type 0 where
  pub removal : SaturatesRemoval net table edge
  pub over_links : SaturatesOverLinks net table edge
  pub firsts : SaturatesFirsts table edge

-- a table saturates its ordinary edges into a point
abbrev pub SaturatesInto : Plan → Graph → PointId → Type 0
SaturatesInto net table to = (edge : Edge) → HasEdge table edge → edge.label ≡ None → edge.to ≡ to → SaturatesForward net table edge

-- a table saturates its edges labelled by a link
abbrev pub SaturatesLabelled : Plan → Graph → LinkId → Type 0
SaturatesLabelled net table link = (edge : Edge) → HasEdge table edge → edge.label ≡ Some link → SaturatesForward net table edge

-- a table saturates the edges of a row: the ordinary edges into the point of that number, or, after the points, the edges labelled by the
-- link of the number that is left
pub record SaturatesForwardRow (net : Plan) (table : Graph) (row : ℕ) : Type 0 where
  pub ordinary : row < length net.points → SaturatesInto net table (record { 0 = row })
  pub labelled : (link : LinkId) → row ≡ length net.points + link.0 → SaturatesLabelled net table link

-- the same for one share of all rows: those whose numbers leave that remainder
abbrev pub SaturatesForwardShare : Plan → Graph → (share shares : ℕ) → Type 0
SaturatesForwardShare net table share shares = (row : ℕ) → row < length net.points + length net.links → row % shares ≡ share
    → SaturatesForwardRow net table row

-- words, one for each point: each is the greatest, or the weight of the edge that a table has from the point to a target with a label
pub record AreWordsOfRow (net : Plan) (table : Graph) (to : PointId) (label : Option LinkId) (words : List ℤ) : Type 0 where
  pub each_point : length words ≡ length net.points
  pub has : (from : PointId) → from.0 < length words → (slice_index_or words from.0 (pos 0) ≡ absent)
      ⊎ HasEdge table (record { from = from; to = to; label = label; weight = slice_index_or words from.0 (pos 0) })

-- words, one for each point, of no edge
pub record AreNoWords (net : Plan) (words : List ℤ) : Type 0 where
  pub each_point : length words ≡ length net.points
  pub none : AreWordsOfSources [] words

-- at each of some first edges, words have no more than the sum of its weight and that of the edge after it
abbrev pub AreMetBy : List Source → List ℤ → ℤ → Type 0
AreMetBy firsts words weight = All (λ first. slice_index_or words first.from.0 (pos 0) ≤ℤ (first.weight +ℤ weight)) firsts
