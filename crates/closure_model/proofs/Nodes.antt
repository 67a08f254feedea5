-- Nodes of a derivation list by their numbers: in the nodes before one, and after one more.
use Rattle.std.proofs.Common.{◌≡◌, ℕ, zero, suc, min, ◌<◌, ◌⊎◌, List, [], ◌∷◌, ◌++◌, length, get_or, take, Some, refl, ap, sym, ◌∙◌, inl, inr, arith}
use Rattle.std.specs.Prelude.{slice_get}
use Rattle.std.specs.List.{Contains}
use Rattle.std.proofs.lemmas.List.{get_or-take, length-take}
use Rattle.std.proofs.lemmas.Option.{slice_get_read, slice_get_within, get_or_from_slice_get}
use Rattle.net_model.specs.declared.part.Edge.{Edge}
use Rattle.closure_model.specs.Derivations.{node_at, edge_at}
use Rattle.closure_model.specs.declared.derivation.Node.{Node}
use Rattle.closure_model.specs.declared.derivation.NodeId.{NodeId}
use Rattle.closure_model.proofs.Slots.{some_of_map}

module _ {X : Type 0} where
  -- an item among the first ones
  pub among_first : (n : ℕ) (xs : List X) (k : ℕ) (x : X) → slice_get (take n xs) k ≡ Some x → (k < n) × (slice_get xs k ≡ Some x)
  among_first n xs k x here =
      let inside : k < length (take n xs) = slice_get_within (take n xs) k x here in
      let both : k < min n (length xs) = simp length-take at inside in
      let below : k < n = omega arith in
      let within : k < length xs = omega arith in
      let at : get_or (take n xs) k x ≡ x = get_or_from_slice_get (take n xs) k x x here in
      (below, slice_get_read xs (length xs) k x refl within (sym at ∙ get_or-take n xs k x below))

  -- an item of a list that has one more
  pub before_push : (xs : List X) (y : X) (k : ℕ) (x : X) → slice_get xs k ≡ Some x → slice_get (xs ++ y ∷ []) k ≡ Some x
  before_push [] y k x here = absurd cc
  before_push (z ∷ zs) y zero x here = here
  before_push (z ∷ zs) y (suc k) x here = before_push zs y k x here

  pub at_push : (xs : List X) (y : X) → slice_get (xs ++ y ∷ []) (length xs) ≡ Some y
  at_push [] y = refl
  at_push (z ∷ zs) y = at_push zs y

  pub push_cases : (xs : List X) (y : X) (k : ℕ) (x : X) → slice_get (xs ++ y ∷ []) k ≡ Some x → (slice_get xs k ≡ Some x) ⊎ ((k ≡ length xs) × (y ≡ x))
  push_cases [] y zero x here = inr (refl, cc)
  push_cases [] y (suc k) x here = absurd cc
  push_cases (z ∷ zs) y zero x here = inl here
  push_cases (z ∷ zs) y (suc k) x here = one_more (push_cases zs y k x here)
    where
      one_more : (slice_get zs k ≡ Some x) ⊎ ((k ≡ length zs) × (y ≡ x)) → (slice_get zs k ≡ Some x) ⊎ ((suc k ≡ suc (length zs)) × (y ≡ x))
      one_more (inl there) = inl there
      one_more (inr (last, is)) = inr (ap suc last, is)

  pub listed_at : (xs : List X) (k : ℕ) (x : X) → slice_get xs k ≡ Some x → Contains xs x
  listed_at xs k x here = (k, slice_get_within xs k x here, get_or_from_slice_get xs k x x here)

-- the premise that a rule reads from the nodes before one
pub record IsPremise (nodes : List Node) (limit : ℕ) (id : NodeId) (edge : Edge) : Type 0 where
  pub node : Node
  pub earlier : id.0 < limit
  pub here : node_at nodes id ≡ Some node
  pub is : node.edge ≡ edge

pub premise_read : (nodes : List Node) (limit : ℕ) (id : NodeId) (edge : Edge) → edge_at (take limit nodes) id ≡ Some edge → IsPremise nodes limit id edge
premise_read nodes limit id edge read =
    let (node, there, is) = some_of_map (λ (m : Node). m.edge) (slice_get (take limit nodes) id.0) edge read in
    let (earlier, here) = among_first limit nodes id.0 node there in
    record { node = node; earlier = earlier; here = here; is = is }
