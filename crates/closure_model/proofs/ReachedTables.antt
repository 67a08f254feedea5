-- The base table holds derivable edges only, and so does every table that rules reach from it.
use Rattle.std.proofs.Common.{◌≡◌, ℕ, ◌+◌, ◌<◌, ◌⊎◌, List, map, length, get_or, Some, refl, ap, sym, ◌∙◌, subst, inl, inr, zero-add}
use Rattle.std.specs.Prelude.{slice_get}
use Rattle.std.specs.List.{Contains, enumerate_from}
use Rattle.std.proofs.lemmas.List.Elements.{Contains-append_cases}
use Rattle.std.proofs.lemmas.List.FromFn.{length-enumerate_from, get_or-enumerate_from}
use Rattle.std.proofs.lemmas.Option.{slice_get_read}
use Rattle.net_model.specs.Network.{Plan}
use Rattle.net_model.specs.Rules.{bound_edge, link_edge}
use Rattle.net_model.specs.declared.part.Edge.{Edge}
use Rattle.net_model.specs.declared.part.Link.{Link}
use Rattle.closure_model.specs.Keys.{shape_of}
use Rattle.closure_model.specs.Tables.{Graph, HasEdge, edges_of, base_edges, base_table}
use Rattle.closure_model.specs.Derivable.{IsDerivable, by_bound, by_link}
use Rattle.closure_model.specs.Closure.{HoldsDerivable, IsReached, base, more}
use Rattle.closure_model.proofs.Lists.{Contains-map_from}
use Rattle.closure_model.proofs.TableLemmas.{table_of-given, listed_edge, lowered-cases}
use Rattle.closure_model.proofs.DerivableEdges.{follows_derivable}
use Rattle.closure_model.proofs.BaseLemmas.{slice_get-contained}

module _ {X : Type 0} where
  pub numbered_at : (xs : List X) (e : ℕ × X) → Contains (enumerate_from 0 xs) e → slice_get xs e.0 ≡ Some e.1
  numbered_at xs e (k, inside, at) =
      let within : k < length xs = simp length-enumerate_from at inside in
      let found : get_or (enumerate_from 0 xs) k e ≡ (0 + k, get_or xs k e.1) = get_or-enumerate_from 0 xs k e within in
      let same : e ≡ (0 + k, get_or xs k e.1) = sym at ∙ found in
      let number : e.0 ≡ k = ap (λ (p : ℕ × X). p.0) same ∙ zero-add k in
      let value : e.1 ≡ get_or xs k e.1 = ap (λ (p : ℕ × X). p.1) same in
      ap (slice_get xs) number ∙ slice_get_read xs (length xs) k e.1 refl within value

pub base_edge_derivable : (net : Plan) (edge : Edge) → Contains (base_edges net) edge → IsDerivable net edge
base_edge_derivable net edge inside =
    by (Contains-append_cases (map bound_edge net.bounds) (map (λ (e : ℕ × Link). link_edge (record { 0 = e.0 }) e.1) (enumerate_from 0 net.links)) edge inside)
  where
    by : Contains (map bound_edge net.bounds) edge ⊎ Contains (map (λ (e : ℕ × Link). link_edge (record { 0 = e.0 }) e.1) (enumerate_from 0 net.links)) edge → IsDerivable net edge
    by (inl there) =
        let (bound, held, is) = Contains-map_from bound_edge net.bounds edge there in
        let (place, declared) = slice_get-contained net.bounds bound held in
        by_bound place bound edge declared is
    by (inr there) =
        let (e, held, is) = Contains-map_from (λ (e : ℕ × Link). link_edge (record { 0 = e.0 }) e.1) (enumerate_from 0 net.links) edge there in
        by_link (record { 0 = e.0 }) e.1 edge (numbered_at net.links e held) is

pub base_derivable : (net : Plan) → HoldsDerivable net (base_table net)
base_derivable net edge has = base_edge_derivable net edge (table_of-given (shape_of net) (base_edges net) edge has)

pub reached_derivable : (net : Plan) (table : Graph) → IsReached net table → HoldsDerivable net table
reached_derivable net table (base t is) edge has = base_derivable net edge (subst (λ (g : Graph). HasEdge g edge) is has)
reached_derivable net table (more before t made reached follows is) edge has =
    by (λ e held. reached_derivable net before reached e held) (lowered-cases before made edge (subst (λ (g : Graph). HasEdge g edge) is has))
  where
    by : HoldsDerivable net before → (edge ≡ made) ⊎ HasEdge before edge → IsDerivable net edge
    by earlier (inl same) = subst (IsDerivable net) (sym same) (follows_derivable net (edges_of before) (λ e inside. earlier e (listed_edge before e inside)) made follows)
    by earlier (inr held) = earlier edge held
