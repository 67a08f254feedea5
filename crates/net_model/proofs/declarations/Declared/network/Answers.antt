use Rattle.std.proofs.Common.{◌∙◌, refl, subst, List, ℕ, map}
use Rattle.std.proofs.lemmas.List.{map-id}
use Rattle.net_model.specs.NameIndex.{IsNameIndex}
use Rattle.net_model.specs.declared.part.Bound.{Bound}
use Rattle.net_model.proofs.DeclarationLemmas.{stored-declared}
use Rattle.net_model.proofs.declarations.Declared.network.Goals as goal

pub invariant_of-result : goal.invariant_of-result
invariant_of-result c =
    let points = c.in_ok-point_index.point_index.items in
    let bounds = c.in_ok-bound_index.bound_index.items in
    stored-declared _ c.self.inside c.self.invariant (c.in_ok-points.ensures.items ∙ c.as_slice-3.ensures.keys) refl refl refl refl
    (subst (λ (names : List (List ℕ)). IsNameIndex names points) (map-id c.as_slice.result.now ∙ c.as_slice.ensures.keys) c.in_ok-point_index.ensures)
    (subst (λ (items : List Bound). IsNameIndex (map (λ (b : Bound). b.name) items) bounds) c.as_slice-2.ensures.value c.in_ok-bound_index.ensures)
