-- The steps along a cycle, one after another.
use Rattle.std.proofs.Common.{◌≡◌, ℕ, ◌+◌, ◌<◌, List, [], ◌∷◌, ◌++◌, length, drop, get_or, Some, append_assoc, ap, sym, ◌∙◌, subst}
use Rattle.std.specs.List.{AllZip}
use Rattle.std.proofs.lemmas.List.{drop_more}
use Rattle.net_model.specs.declared.ids.PointId.{PointId}
use Rattle.net_model.specs.declared.part.Edge.{Edge}
use Rattle.closure_model.specs.Derivations.{IsNodeOf, IsNewest}
use Rattle.closure_model.specs.Keys.{Shape, key_of, ordinary_key}
use Rattle.closure_model.specs.ReferenceRound.{node_for}
use Rattle.closure_model.specs.ReferenceRounds.{keys_from}
use Rattle.closure_model.specs.declared.derivation.Node.{Node}
use Rattle.closure_model.specs.declared.derivation.NodeId.{NodeId}
use Rattle.closure_model.proofs.Newest.{newest_exists}
use Rattle.closure_model.proofs.RoundLaw.{node_for_is}

-- what is found as the node of a key is its node
pub found_is_node : (nodes : List Node) (edge : Edge) (id : NodeId) → Some id ≡ node_for nodes edge → IsNodeOf nodes (key_of edge) id
found_is_node nodes edge id some =
    let shape : Shape = record { points = 0; activations = [] } in
    let (found, newest) = newest_exists shape nodes (key_of edge) in
    let same : found ≡ Some id = sym (node_for_is nodes edge found newest) ∙ sym some in
    subst (IsNewest nodes (key_of edge)) same newest

-- the steps so far, from the first point to the last one: with those of the rest they are whole
abbrev pub AreStepsTo : List Node → (first last : PointId) → List PointId → ℕ → List NodeId → Type 0
AreStepsTo nodes first last points i steps = (rest : List NodeId) → AllZip (IsNodeOf nodes) (keys_from first last (drop i points)) rest → AllZip (IsNodeOf nodes) (keys_from first first points) (steps ++ rest)

module _ (nodes : List Node) (first last : PointId) (points : List PointId) (i : ℕ) (steps : List NodeId) (progress : AreStepsTo nodes first last points i steps) where
  pub steps_more : (point d : PointId) (id : NodeId) → i < length points → point ≡ get_or points i d → IsNodeOf nodes (ordinary_key last point) id → AreStepsTo nodes first point points (i + 1) (steps ++ id ∷ [])
  steps_more point d id inside here is rest zip =
      let left : drop i points ≡ point ∷ drop (i + 1) points = drop_more points i d inside ∙ ap (λ (p : PointId). p ∷ drop (i + 1) points) (sym here) in
      subst (AllZip (IsNodeOf nodes) (keys_from first first points)) (sym (append_assoc steps (id ∷ []) rest))
      (progress (id ∷ rest) (subst (λ (ps : List PointId). AllZip (IsNodeOf nodes) (keys_from first last ps) (id ∷ rest)) (sym left) (is, zip)))

  pub steps_whole : (id : NodeId) → drop i points ≡ [] → IsNodeOf nodes (ordinary_key last first) id → AllZip (IsNodeOf nodes) (keys_from first first points) (steps ++ id ∷ [])
  steps_whole id ended is = progress (id ∷ []) (subst (λ (ps : List PointId). AllZip (IsNodeOf nodes) (keys_from first last ps) (id ∷ [])) (sym ended) (is, tt))
