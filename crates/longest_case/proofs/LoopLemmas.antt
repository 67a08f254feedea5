-- Walks that grow edge by edge.
use Rattle.std.proofs.Common.{◌≡◌, ℕ, ◌+◌, ◌<◌, ◌+ℤ◌, List, [], ◌∷◌, ◌++◌, length, take, get_or, refl, ap, sym, subst, ◌∙◌, arith}
use Rattle.std.proofs.lemmas.Int.{ints}
use Rattle.std.proofs.lemmas.List.{take_more}
use Rattle.net_model.specs.declared.ids.PointId.{PointId}
use Rattle.net_model.specs.declared.part.Edge.{Edge}
use Rattle.strategy_model.specs.Edges.{IsWalk, total}

-- an edge that begins where a walk ends goes on from it
walk_and_edge : (from : PointId) (walk : List Edge) (at : PointId) (edge : Edge) → IsWalk from walk at → edge.from ≡ at → IsWalk from (walk ++ edge ∷ []) edge.to
walk_and_edge from [] at edge is meets = (meets ∙ sym is, refl)
walk_and_edge from (first ∷ walk) at edge is meets = (is.0, walk_and_edge first.to walk at edge is.1 meets)

total_and_edge : (walk : List Edge) (edge : Edge) → total (walk ++ edge ∷ []) ≡ total walk +ℤ edge.weight
total_and_edge [] edge = let weight = edge.weight in omega (arith, ints)
total_and_edge (first ∷ walk) edge = let rest = total_and_edge walk edge in omega (arith, ints, rest)

-- the same of the first edges of a list
pub walk_more : (from at : PointId) (edges : List Edge) (i : ℕ) (d : Edge) → i < length edges → IsWalk from (take i edges) at → (get_or edges i d).from ≡ at → IsWalk from (take (i + 1) edges) (get_or edges i d).to
walk_more from at edges i d inside is meets =
    subst (λ (walk : List Edge). IsWalk from walk (get_or edges i d).to) (sym (take_more edges i d inside)) (walk_and_edge from (take i edges) at (get_or edges i d) is meets)

pub total_more : (edges : List Edge) (i : ℕ) (d : Edge) → i < length edges → total (take (i + 1) edges) ≡ total (take i edges) +ℤ (get_or edges i d).weight
total_more edges i d inside = ap total (take_more edges i d inside) ∙ total_and_edge (take i edges) (get_or edges i d)
