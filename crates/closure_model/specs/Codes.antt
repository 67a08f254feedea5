-- Tables as data, for a type whose model is a table.
use Rattle.std.specs.Prelude.{ℕ, ℤ, List, Option, refl}
use Rattle.std.specs.Coded.{Coded, code_by, coded_ℕ, coded_ℤ, coded_list, coded_option, coded×}
use Rattle.std.specs.FinMap as map_of
use Rattle.net_model.specs.declared.ids.PointId.{PointId}
use Rattle.net_model.specs.declared.ids.LinkId.{LinkId}
use Rattle.closure_model.specs.Keys.{Key, key_cmp}
use Rattle.closure_model.specs.Tables.{Graph}

-- a point as data
abbrev pub point_code : Coded PointId
point_code = code_by ℕ coded_ℕ (λ point. point.0) (λ k. record { 0 = k }) (λ _. refl)

-- a link as data
abbrev pub link_code : Coded LinkId
link_code = code_by ℕ coded_ℕ (λ link. link.0) (λ k. record { 0 = k }) (λ _. refl)

-- a key as data
abbrev pub key_code : Coded Key
key_code =
    code_by (PointId × (PointId × Option LinkId)) (coded× point_code (coded× point_code (coded_option link_code))) (λ key. (key.to, (key.from, key.label)))
    (λ parts. record { to = parts.0; from = parts.1.0; label = parts.1.1 }) (λ _. refl)

-- a table as data
abbrev pub graph_code : Coded Graph
graph_code =
    code_by (ℕ × (List PointId × map_of.FinMap key_cmp ℤ)) (coded× coded_ℕ (coded× (coded_list point_code) (map_of.code key_code coded_ℤ)))
    (λ graph. (graph.shape.points, (graph.shape.activations, graph.weights)))
    (λ parts. record { shape = record { points = parts.0; activations = parts.1.0 }; weights = parts.1.1 }) (λ _. refl)
