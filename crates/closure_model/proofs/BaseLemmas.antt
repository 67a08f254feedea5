-- The base table of a network: it is sound, has the base edges, and is the weakest that has them.
use Rattle.std.proofs.Common.{◌≡◌, ℕ, zero, suc, ◌+◌, ◌-◌, ℤ, pos, ◌-ℤ◌, ◌≤ℤ◌, ◌≤◌, ◌<◌, true, ◌⊎◌, List, [], ◌∷◌, map, length, get_or, Some, ap, sym, subst, ◌∙◌, inl, inr, arith}
use Rattle.std.specs.Prelude.{slice_get, unsigned_abs}
use Rattle.std.specs.Option.{option_map}
use Rattle.std.specs.List.{All, Contains, enumerate_from}
use Rattle.std.proofs.lemmas.Int.{ints}
use Rattle.std.proofs.lemmas.Bool.Decides.{nat_tests}
use Rattle.std.proofs.lemmas.Option.{slice_get-map, slice_get-get_or}
use Rattle.std.proofs.lemmas.List.Elements.{All-contains, Contains-get_or, Contains-append_cases, Contains-append_right}
use Rattle.std.proofs.Math.ListN.{length-map}
use Rattle.net_model.specs.Limits.{most_points, most_links, most_size, most_weight, within_size, IsWeight}
use Rattle.net_model.specs.Network.{Plan, IsPlan, IsBound, IsLink}
use Rattle.net_model.specs.Rules.{bound_edge, link_edge}
use Rattle.net_model.specs.ForwardRules as forward
use Rattle.net_model.specs.declared.ids.PointId.{PointId}
use Rattle.net_model.specs.declared.part.Bound.{Bound}
use Rattle.net_model.specs.declared.part.Edge.{Edge}
use Rattle.net_model.specs.declared.part.Link.{Link}
use Rattle.closure_model.specs.Keys.{key_of, Shape, shape_of, IsKey}
use Rattle.closure_model.specs.Tables.{Graph, HasAtMost, no_edges, IsAtMost, IsGraph, HasBase, base_edges, base_table}
use Rattle.closure_model.specs.TableLaws.{BaseTableIsWeakest, ForwardClosedTablesHaveTheBase}
use Rattle.closure_model.proofs.Lists.{Contains-tail, Contains-none, Contains-map, Contains-map_from}
use Rattle.closure_model.proofs.TableLemmas.{table_of-given, table_of-has, all_lowered-shape}

pub slice_get-contained : {X : Type 0} (xs : List X) (x : X) → Contains xs x → (k : ℕ) × (slice_get xs k ≡ Some x)
slice_get-contained xs x (k, inside, at) = (k, slice_get-get_or xs k x inside ∙ ap Some at)

pub all_contained : {X : Type 0} (P : X → Type 0) (xs : List X) → ((x : X) → Contains xs x → P x) → All P xs
all_contained P xs each k d inside = each (get_or xs k d) (Contains-get_or xs k d inside)

pub numbered : {X : Type 0} (n : ℕ) (xs : List X) (e : ℕ × X) → Contains (enumerate_from n xs) e → (n ≤ e.0) × (slice_get xs (e.0 - n) ≡ Some e.1)
numbered n [] e inside = absurd (Contains-none e inside)
numbered n (x ∷ xs) e (zero, inside, at) =
    let place : n ≡ e.0 = ap (λ (p : ℕ × _). p.0) at in
    let item : x ≡ e.1 = ap (λ (p : ℕ × _). p.1) at in
    let none : e.0 - n ≡ 0 = omega arith in
    (omega arith, ap (slice_get (x ∷ xs)) none ∙ ap Some item)
numbered n (x ∷ xs) e (suc k, inside, at) =
    let (low, there) = numbered (n + 1) xs e (k, omega arith, at) in
    let next : e.0 - n ≡ suc (e.0 - (n + 1)) = omega arith in
    (omega arith, ap (slice_get (x ∷ xs)) next ∙ there)

pub numbered_contained : {X : Type 0} (n : ℕ) (xs : List X) (k : ℕ) (x : X) → slice_get xs k ≡ Some x → Contains (enumerate_from n xs) (n + k, x)
numbered_contained n [] k x at = absurd cc
numbered_contained n (y ∷ ys) zero x at = let place : n ≡ n + 0 = omega arith in let item : y ≡ x = cc in (0, omega arith, λ i. (place i, item i))
numbered_contained n (y ∷ ys) (suc k) x at =
    let moved : n + 1 + k ≡ n + suc k = omega arith in
    Contains-tail (n, y) (enumerate_from (n + 1) ys) (n + suc k, x) (subst (λ (m : ℕ). Contains (enumerate_from (n + 1) ys) (m, x)) moved (numbered_contained (n + 1) ys k x at))

-- ---- sound edges
pub within : (weight : ℤ) → within_size weight ≡ true → IsWeight weight
within weight small = grind (arith, nat_tests)

within_turned : (weight : ℤ) → pos 1 ≤ℤ weight → within_size weight ≡ true → IsWeight (pos 0 -ℤ weight)
within_turned weight positive small = let here : unsigned_abs weight ≤ most_size = grind (arith, nat_tests) in by weight positive here
  where
    by : (w : ℤ) → pos 1 ≤ℤ w → unsigned_abs w ≤ most_size → unsigned_abs (pos 0 -ℤ w) ≤ most_weight
    by w low high = omega (arith, ints)

module _ (net : Plan) (sound : IsPlan net) where
  bound_sound : (bound : Bound) → Contains net.bounds bound → IsKey (shape_of net) (key_of (bound_edge bound)) × IsWeight bound.most
  bound_sound bound inside =
      let is = All-contains (IsBound net) net.bounds bound sound.bounds_sound inside in
      (record { to_point = is.to_point; from_point = is.from_point; labelled = tt }, within bound.most is.within)

  link_sound : (e : ℕ × Link) → slice_get net.links e.0 ≡ Some e.1 → Contains net.links e.1 → IsKey (shape_of net) (key_of (link_edge (record { 0 = e.0 }) e.1)) × IsWeight (pos 0 -ℤ e.1.high)
  link_sound e at inside =
      let is = All-contains (IsLink net) net.links e.1 sound.links_sound inside in (
        record { to_point = is.from_point; from_point = is.to_point; labelled = slice_get-map (λ (l : Link). l.from) net.links e.0 ∙ ap (option_map (λ (l : Link). l.from)) at },
        within_turned e.1.high (omega (arith, ints, is.positive, is.interval)) is.within,
      )

  base_edge_sound : (edge : Edge) → Contains (base_edges net) edge → IsKey (shape_of net) (key_of edge) × IsWeight edge.weight
  base_edge_sound edge inside = by (Contains-append_cases (map bound_edge net.bounds) (map (λ (e : ℕ × Link). link_edge (record { 0 = e.0 }) e.1) (enumerate_from 0 net.links)) edge inside)
    where
      by : Contains (map bound_edge net.bounds) edge ⊎ Contains (map (λ (e : ℕ × Link). link_edge (record { 0 = e.0 }) e.1) (enumerate_from 0 net.links)) edge → IsKey (shape_of net) (key_of edge) × IsWeight edge.weight
      by (inl here) =
          let (bound, at, is) = Contains-map_from bound_edge net.bounds edge here in
          subst (λ (e : Edge). IsKey (shape_of net) (key_of e) × IsWeight e.weight) is (bound_sound bound at)
      by (inr there) =
          let (e, at, is) = Contains-map_from (λ (e : ℕ × Link). link_edge (record { 0 = e.0 }) e.1) (enumerate_from 0 net.links) edge there in
          let place : slice_get net.links e.0 ≡ Some e.1 = let same : e.0 - 0 ≡ e.0 = omega arith in ap (slice_get net.links) (sym same) ∙ (numbered 0 net.links e at).1 in
          subst (λ (e : Edge). IsKey (shape_of net) (key_of e) × IsWeight e.weight) is (link_sound e place (contained_get net.links e.0 e.1 place))
        where
          contained_get : (links : List Link) (k : ℕ) (link : Link) → slice_get links k ≡ Some link → Contains links link
          contained_get [] k link at = absurd cc
          contained_get (l ∷ ls) zero link at = let same : l ≡ link = cc in (0, omega arith, same)
          contained_get (l ∷ ls) (suc k) link at = Contains-tail l ls link (contained_get ls k link at)

  pub base_shape : (base_table net).shape ≡ shape_of net
  base_shape = all_lowered-shape (no_edges (shape_of net)) (base_edges net)

  pub base_sound : IsGraph (base_table net)
  base_sound = record {
    keys = λ edge has. subst (λ shape. IsKey shape (key_of edge)) (sym base_shape) (base_edge_sound edge (table_of-given (shape_of net) (base_edges net) edge has)).0;
    weights = λ edge has. (base_edge_sound edge (table_of-given (shape_of net) (base_edges net) edge has)).1;
    begins = subst (λ (shape : Shape). All (λ (p : PointId). p.0 < shape.points) shape.activations) (sym base_shape) (all_contained (λ (p : PointId). p.0 < length net.points) (map (λ (l : Link). l.from) net.links) begins);
    few_points = subst (λ (shape : Shape). shape.points ≤ most_points) (sym base_shape) sound.few_points;
    few_links = subst (λ (shape : Shape). length shape.activations ≤ most_links) (sym base_shape) (let count : length (map (λ (l : Link). l.from) net.links) ≡ length net.links = simp length-map in omega (arith, sound.few_links));
  }
    where
      begins : (p : PointId) → Contains (map (λ (l : Link). l.from) net.links) p → p.0 < length net.points
      begins p inside =
          let (link, at, is) = Contains-map_from (λ (l : Link). l.from) net.links p inside in
          subst (λ (q : PointId). q.0 < length net.points) is (All-contains (IsLink net) net.links link sound.links_sound at).from_point

  -- the edges of bounds and of links are of keys that there are and of weights that a table may hold
  pub bound_edges_sound : All (λ (bound : Bound). IsKey (shape_of net) (key_of (bound_edge bound)) × IsWeight bound.most) net.bounds
  bound_edges_sound = all_contained (λ (bound : Bound). IsKey (shape_of net) (key_of (bound_edge bound)) × IsWeight bound.most) net.bounds bound_sound

  pub link_edges_sound : All (λ (e : ℕ × Link). IsKey (shape_of net) (key_of (link_edge (record { 0 = e.0 }) e.1)) × IsWeight (pos 0 -ℤ e.1.high)) (enumerate_from 0 net.links)
  link_edges_sound = all_contained (λ (e : ℕ × Link). IsKey (shape_of net) (key_of (link_edge (record { 0 = e.0 }) e.1)) × IsWeight (pos 0 -ℤ e.1.high)) (enumerate_from 0 net.links) each
    where
      each : (e : ℕ × Link) → Contains (enumerate_from 0 net.links) e → IsKey (shape_of net) (key_of (link_edge (record { 0 = e.0 }) e.1)) × IsWeight (pos 0 -ℤ e.1.high)
      each e inside =
          let edge : Edge = link_edge (record { 0 = e.0 }) e.1 in
          base_edge_sound edge (Contains-append_right (map bound_edge net.bounds) (map (λ (e : ℕ × Link). link_edge (record { 0 = e.0 }) e.1) (enumerate_from 0 net.links)) edge
          (Contains-map (λ (e : ℕ × Link). link_edge (record { 0 = e.0 }) e.1) (enumerate_from 0 net.links) e inside))

base_has : (net : Plan) → HasBase net (base_table net)
base_has net = all_contained (HasAtMost (base_table net)) (base_edges net) (table_of-has (shape_of net) (base_edges net))

base_weakest : (net : Plan) (graph : Graph) → HasBase net graph → IsAtMost graph (base_table net)
base_weakest net graph base edge has = All-contains (HasAtMost graph) (base_edges net) edge base (table_of-given (shape_of net) (base_edges net) edge has)

pub law_base_table_is_weakest : BaseTableIsWeakest
law_base_table_is_weakest net sound = (base_sound net sound, base_has net, base_weakest net)

pub forward_closed_has_base : ForwardClosedTablesHaveTheBase
forward_closed_has_base net graph closed = all_contained (HasAtMost graph) (base_edges net) has
  where
    has : (edge : Edge) → Contains (base_edges net) edge → HasAtMost graph edge
    has edge inside = by (Contains-append_cases (map bound_edge net.bounds) (map (λ (e : ℕ × Link). link_edge (record { 0 = e.0 }) e.1) (enumerate_from 0 net.links)) edge inside)
      where
        by : Contains (map bound_edge net.bounds) edge ⊎ Contains (map (λ (e : ℕ × Link). link_edge (record { 0 = e.0 }) e.1) (enumerate_from 0 net.links)) edge → HasAtMost graph edge
        by (inl here) =
            let (bound, at, is) = Contains-map_from bound_edge net.bounds edge here in
            let (place, declared) = slice_get-contained net.bounds bound at in
            closed edge (forward.by_bound place bound declared is)
        by (inr there) =
            let (e, at, is) = Contains-map_from (λ (e : ℕ × Link). link_edge (record { 0 = e.0 }) e.1) (enumerate_from 0 net.links) edge there in
            let same : e.0 - 0 ≡ e.0 = omega arith in
            closed edge (forward.by_link (record { 0 = e.0 }) e.1 (ap (slice_get net.links) (sym same) ∙ (numbered 0 net.links e at).1) is)
