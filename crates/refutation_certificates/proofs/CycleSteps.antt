-- The steps of a walk along a cycle, one after another.
use Rattle.std.proofs.Common.{◌≡◌, ℕ, ◌+◌, ◌<◌, List, [], ◌∷◌, ◌++◌, length, drop, get_or, append_assoc, ap, sym, ◌∙◌, subst}
use Rattle.std.specs.List.{AllByRecursion, AllZip}
use Rattle.std.proofs.lemmas.List.{drop_more}
use Rattle.net_model.specs.declared.ids.PointId.{PointId}
use Rattle.closure_model.specs.Derivations.{IsNodeOf}
use Rattle.closure_model.specs.Keys.{ordinary_key}
use Rattle.closure_model.specs.ReferenceRounds.{keys_from}
use Rattle.closure_model.specs.Tables.{Graph}
use Rattle.closure_model.specs.declared.derivation.Node.{Node}
use Rattle.closure_model.specs.declared.derivation.NodeId.{NodeId}
use Rattle.refutation_certificates.specs.RuleLines.{HasWeight}

-- the steps so far, from the first point to the last one: the keys of the rest have weights, and with the rest the steps are whole
pub record IsUnderWay (nodes : List Node) (table : Graph) (first last : PointId) (points : List PointId) (i : ℕ) (steps : List NodeId) : Type 0 where
  pub given : AllByRecursion (HasWeight table) (keys_from first last (drop i points))
  pub whole : (rest : List NodeId) → AllZip (IsNodeOf nodes) (keys_from first last (drop i points)) rest → AllZip (IsNodeOf nodes) (keys_from first first points) (steps ++ rest)

module _ (nodes : List Node) (table : Graph) (first : PointId) (points : List PointId) where
  pub walk_first : AllByRecursion (HasWeight table) (keys_from first first points) → IsUnderWay nodes table first first points 0 []
  walk_first given = record { given = given; whole = λ rest zip. zip }

  module _ (last : PointId) (i : ℕ) (steps : List NodeId) (progress : IsUnderWay nodes table first last points i steps) where
    module _ (point : PointId) (inside : i < length points) (here : point ≡ get_or points i point) where
      left : drop i points ≡ point ∷ drop (i + 1) points
      left = drop_more points i point inside ∙ ap (λ (p : PointId). p ∷ drop (i + 1) points) (sym here)

      given_on : AllByRecursion (HasWeight table) (keys_from first last (point ∷ drop (i + 1) points))
      given_on = subst (λ (ps : List PointId). AllByRecursion (HasWeight table) (keys_from first last ps)) left progress.given

      pub walk_key : HasWeight table (ordinary_key last point)
      walk_key = given_on.0

      pub walk_next : (id : NodeId) → IsNodeOf nodes (ordinary_key last point) id → IsUnderWay nodes table first point points (i + 1) (steps ++ id ∷ [])
      walk_next id is = record {
        given = given_on.1;
        whole = λ rest zip. subst (AllZip (IsNodeOf nodes) (keys_from first first points)) (sym (append_assoc steps (id ∷ []) rest))
            (progress.whole (id ∷ rest) (subst (λ (ps : List PointId). AllZip (IsNodeOf nodes) (keys_from first last ps) (id ∷ rest)) (sym left) (is, zip)));
      }

    module _ (ended : drop i points ≡ []) where
      pub walk_last : HasWeight table (ordinary_key last first)
      walk_last = let closing : AllByRecursion (HasWeight table) (keys_from first last []) = subst (λ (ps : List PointId). AllByRecursion (HasWeight table) (keys_from first last ps)) ended progress.given in closing.0

      pub walk_done : (id : NodeId) → IsNodeOf nodes (ordinary_key last first) id → AllZip (IsNodeOf nodes) (keys_from first first points) (steps ++ id ∷ [])
      walk_done id is = progress.whole (id ∷ []) (subst (λ (ps : List PointId). AllZip (IsNodeOf nodes) (keys_from first last ps) (id ∷ [])) (sym ended) (is, tt))
