-- The edges of a sound table are those of its rows, one after another.
use Rattle.std.proofs.Common.{◌≡◌, ℕ, ◌+◌, List, [], ◌∷◌, ◌++◌, length, map, refl, ap, sym, ◌∙◌, arith}
use Rattle.std.specs.Option.{option_map}
use Rattle.std.specs.List.{All, Contains, flat_map, range_with_len}
use Rattle.std.proofs.lemmas.List.{append-nil, map-append}
use Rattle.std.proofs.lemmas.List.Elements.{filter_map-append}
use Rattle.std.proofs.lemmas.List.FromFn.{map-range_with_len_more}
use Rattle.std.proofs.lemmas.Grind.{flat_map-append}
use Rattle.net_model.specs.Network.{Plan, IsPlan}
use Rattle.net_model.specs.Edges.{IsEdge}
use Rattle.net_model.specs.declared.ids.PointId.{PointId}
use Rattle.net_model.specs.declared.part.Edge.{Edge}
use Rattle.closure_model.specs.Closure.{IsClosure}
use Rattle.closure_model.specs.Keys.{Key, Shape, edge_of, all_points, row_keys}
use Rattle.closure_model.specs.Tables.{Graph, weight_of, edges_of, row_of, edges_at, IsGraph}
use Rattle.closure_model.proofs.BaseLemmas.{all_contained}
use Rattle.closure_model.proofs.ListedEdges.{edges_listed, row_listed}
use Rattle.closure_model.proofs.Lists.{Contains-filter_from, Contains-head, Contains-tail}
use Rattle.closure_model.proofs.OrderLemmas.{in_points}
use Rattle.closure_model.proofs.TableLemmas.{listed_edge}
use Rattle.closure_certificates.specs.TableProofs.{entry_of}
use Rattle.closure_certificates.proofs.ClosureLemmas.{edge_is, is_graph}

module _ (table : Graph) where
  edges_at_each : (f : PointId → List Key) (points : List PointId) → edges_at table (flat_map f points) ≡ flat_map (λ point. edges_at table (f point)) points
  edges_at_each f [] = refl
  edges_at_each f (point ∷ points) =
      filter_map-append (λ (key : Key). option_map (edge_of key) (weight_of table key)) (f point) (flat_map f points)
      ∙ ap (λ (edges : List Edge). edges_at table (f point) ++ edges) (edges_at_each f points)

  each_row : IsGraph table → (points : List PointId) → ((point : PointId) → Contains points point → Contains (all_points table.shape) point)
      → flat_map (λ point. edges_at table (row_keys table.shape point)) points ≡ flat_map (row_of table) points
  each_row sound [] inside = refl
  each_row sound (point ∷ points) inside =
      ap (λ (row : List Edge). row ++ flat_map (λ p. edges_at table (row_keys table.shape p)) points) (sym (row_listed table sound point (in_points table point (inside point (Contains-head point points)))))
      ∙ ap (λ (edges : List Edge). row_of table point ++ edges) (each_row sound points (λ p among. inside p (Contains-tail point points p among)))

  -- the edges of the rows of points are those of the table
  pub rows_whole : IsGraph table → flat_map (row_of table) (all_points table.shape) ≡ edges_of table
  rows_whole sound =
      sym (edges_listed table sound ∙ (edges_at_each (row_keys table.shape) (all_points table.shape) ∙ each_row sound (all_points table.shape) (λ p among. among)))

  -- the edges of the rows of so many points
  abbrev pub rows_before : ℕ → List Edge
  rows_before n = flat_map (row_of table) (map (λ k. record { 0 = k }) (range_with_len 0 n))

-- the edges of a row of a closure are edges of the network
pub row_edges : (net : Plan) (table : Graph) (to : PointId) → IsPlan net → IsClosure net table → All (IsEdge net) (row_of table to)
row_edges net table to plan closure =
    all_contained (IsEdge net) (row_of table to) (λ edge among. edge_is net table plan closure edge (listed_edge table edge (Contains-filter_from _ (edges_of table) edge among)))

module _ (net : Plan) (table : Graph) where
  -- one row more
  pub rows_more : (k : ℕ) → map (entry_of net) (rows_before table (k + 1)) ≡ map (entry_of net) (rows_before table k) ++ map (entry_of net) (row_of table (record { 0 = k }))
  rows_more k =
      let number : ℕ → PointId = λ n. record { 0 = n } in
      ap (λ (points : List PointId). map (entry_of net) (flat_map (row_of table) points)) (map-range_with_len_more number 0 k k (omega arith))
      ∙ (ap (map (entry_of net)) (flat_map-append (row_of table) (map number (range_with_len 0 k)) (number k ∷ []) ∙ ap (λ (row : List Edge). rows_before table k ++ row) (append-nil (row_of table (number k))))
      ∙ map-append (entry_of net) (rows_before table k) (row_of table (number k)))

  -- all rows
  pub all_rows : (k : ℕ) → IsPlan net → IsClosure net table → k ≡ length net.points → rows_before table k ≡ edges_of table
  all_rows k plan closure is =
      ap (λ (n : ℕ). rows_before table n) (is ∙ ap (λ (s : Shape). s.points) (sym closure.for_network)) ∙ rows_whole table (is_graph net table plan closure)
