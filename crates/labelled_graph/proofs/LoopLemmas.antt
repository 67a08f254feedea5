-- One step of each loop over a table, over plain variables.
use Rattle.std.proofs.Common.{◌≡◌, ℕ, ◌+◌, ◌<◌, List, [], ◌∷◌, ◌++◌, map, fold, length, take, get_or, ap, sym, subst, ◌∙◌, arith}
use Rattle.std.specs.List.{All, enumerate_from}
use Rattle.std.proofs.lemmas.List.{map-append, map_more}
use Rattle.std.proofs.lemmas.List.Sums.{fold-append}
use Rattle.std.proofs.lemmas.List.FromFn.{get_or-enumerate_from, length-enumerate_from}
use Rattle.net_model.specs.Network.{Plan, IsPlan}
use Rattle.net_model.specs.Rules.{bound_edge, link_edge}
use Rattle.net_model.specs.declared.part.Bound.{Bound}
use Rattle.net_model.specs.declared.part.Edge.{Edge}
use Rattle.net_model.specs.declared.part.Link.{Link}
use Rattle.closure_model.specs.Keys.{Shape, shape_of}
use Rattle.closure_model.specs.Tables.{Graph, lowered, no_edges, base_table}
use Rattle.closure_model.proofs.BaseLemmas.{bound_edges_sound, link_edges_sound}
use Rattle.closure_model.proofs.Lists.{numbered_more}
use Rattle.closure_model.proofs.TableLemmas.{all_lowered-shape}
use Rattle.labelled_graph.specs.Changes.{IsEdgeFor}

-- ---- lists that a loop maps, element by element
pub mapped_more : {A B : Type 0} (f : A → B) (xs : List A) (k : ℕ) (d : A) → k < length xs → (was now : List B) → was ≡ map f (take k xs) → now ≡ was ++ f (get_or xs k d) ∷ [] → now ≡ map f (take (k + 1) xs)
mapped_more f xs k d inside was now held step = step ∙ ap (λ ys. ys ++ f (get_or xs k d) ∷ []) held ∙ sym (map_more f xs k d inside)

-- ---- lowering
-- an edge for the table before the loop is one for the table in it
pub edge_still_for : (before now : Graph) (given : List Edge) (edge : Edge) → now ≡ fold lowered before given → IsEdgeFor before.shape edge → IsEdgeFor now.shape edge
edge_still_for before now given edge is for = let shape : now.shape ≡ before.shape = ap (λ (g : Graph). g.shape) is ∙ all_lowered-shape before given in subst (λ s. IsEdgeFor s edge) (sym shape) for

pub link_edge_for : (shape : Shape) (links : List Link) (k : ℕ) (d : Link) → All (λ e. IsEdgeFor shape (link_edge (record { 0 = e.0 }) e.1)) (enumerate_from 0 links) → k < length links
    → IsEdgeFor shape (link_edge (record { 0 = k }) (get_or links k d))
link_edge_for shape links k d all inside =
    let long : k < length (enumerate_from 0 links) = omega (arith, length-enumerate_from 0 links) in
    let read : get_or (enumerate_from 0 links) k (0, d) ≡ (k, get_or links k d) = get_or-enumerate_from 0 links k (0, d) inside ∙ (let same : 0 + k ≡ k = omega arith in ap (λ (m : ℕ). (m, get_or links k d)) same) in
    subst (λ (e : ℕ × Link). IsEdgeFor shape (link_edge (record { 0 = e.0 }) e.1)) read (all k (0, d) long)

-- the edges of links, by their places
abbrev pub link_edges : List Link → List Edge
link_edges links = map (λ (e : ℕ × Link). link_edge (record { 0 = e.0 }) e.1) (enumerate_from 0 links)

pub links_lowered-more : (before now after : Graph) (links : List Link) (k : ℕ) (d : Link) → k < length links
    → now ≡ fold lowered before (link_edges (take k links))
    → after ≡ lowered now (link_edge (record { 0 = k }) (get_or links k d))
    → after ≡ fold lowered before (link_edges (take (k + 1) links))
links_lowered-more before now after links k d inside held step =
    let f : ℕ × Link → Edge = λ e. link_edge (record { 0 = e.0 }) e.1 in
    let last : Edge = link_edge (record { 0 = k }) (get_or links k d) in
    let split : map f (enumerate_from 0 (take (k + 1) links)) ≡ map f (enumerate_from 0 (take k links)) ++ last ∷ [] = ap (map f) (numbered_more k links d inside)
    ∙ map-append f (enumerate_from 0 (take k links)) ((k, get_or links k d) ∷ []) in
    step ∙ ap (λ g. lowered g last) held ∙ sym (fold-append lowered before (map f (enumerate_from 0 (take k links))) (last ∷ [])) ∙ sym (ap (fold lowered before) split)

-- ---- the base table, by bounds and then by links
pub base_made : (net : Plan) (start middle done : Graph) (bounds : List Bound) (links : List Link) → start ≡ no_edges (shape_of net) → middle ≡ fold lowered start (map bound_edge bounds) → bounds ≡ net.bounds
    → done ≡ fold lowered middle (link_edges links) → links ≡ net.links → done ≡ base_table net
base_made net start middle done bounds links empty by_bounds same_bounds by_links same_links =
    by_links
    ∙ (λ i. fold lowered (by_bounds i) (link_edges (same_links i)))
    ∙ (λ i. fold lowered (fold lowered (empty i) (map bound_edge (same_bounds i))) (link_edges net.links))
    ∙ sym (fold-append lowered (no_edges (shape_of net)) (map bound_edge net.bounds) (link_edges net.links))

-- the edges of links are for the table that the bounds have lowered
pub links_for : (net : Plan) → IsPlan net → (start middle : Graph) (bounds : List Bound) (links : List Link) → start ≡ no_edges (shape_of net) → middle ≡ fold lowered start (map bound_edge bounds) → links ≡ net.links
    → All (λ e. IsEdgeFor middle.shape (link_edge (record { 0 = e.0 }) e.1)) (enumerate_from 0 links)
links_for net sound start middle bounds links empty by_bounds same_links =
    let shape : middle.shape ≡ shape_of net = ap (λ (g : Graph). g.shape) by_bounds ∙ all_lowered-shape start (map bound_edge bounds) ∙ ap (λ (g : Graph). g.shape) empty in
    subst (λ ls. All (λ (e : ℕ × Link). IsEdgeFor middle.shape (link_edge (record { 0 = e.0 }) e.1)) (enumerate_from 0 ls)) (sym same_links)
    (subst (λ s. All (λ (e : ℕ × Link). IsEdgeFor s (link_edge (record { 0 = e.0 }) e.1)) (enumerate_from 0 net.links)) (sym shape) (link_edges_sound net sound))

pub bounds_for : (net : Plan) → IsPlan net → (start : Graph) (bounds : List Bound) → start ≡ no_edges (shape_of net) → bounds ≡ net.bounds → All (λ bound. IsEdgeFor start.shape (bound_edge bound)) bounds
bounds_for net sound start bounds empty same_bounds =
    subst (λ bs. All (λ (b : Bound). IsEdgeFor start.shape (bound_edge b)) bs) (sym same_bounds) (subst (λ (g : Graph). All (λ (b : Bound). IsEdgeFor g.shape (bound_edge b)) net.bounds) (sym empty) (bound_edges_sound net sound))
