-- Lists of points as vectors of vectors.
use Rattle.std.proofs.Common.{◌≡◌, ℕ, ◌+◌, ◌<◌, List, [], ◌∷◌, ◌++◌, length, map, get_or, ap, sym, ◌∙◌}
use Rattle.std.specs.Prelude.{replicate, slice_set}
use Rattle.std.proofs.lemmas.List.{map-append, map-set, get_or-map, replicate_more}
use Rattle.net_model.specs.declared.ids.PointId.{PointId}
use Rattle.live_executor.specs.Wakes.{added_to_list}

module _ {X : Type 0} (shows : X → List PointId) where
  pub empty_more : (lists : List X) (n : ℕ) (list : X) → map shows lists ≡ replicate n [] → shows list ≡ [] → map shows (lists ++ list ∷ []) ≡ replicate (n + 1) []
  empty_more lists n list before empty = map-append shows lists (list ∷ []) ∙ ((λ i. before i ++ empty i ∷ []) ∙ replicate_more n [])

  pub added_shown : (lists : List X) (place point : PointId) (old new : X) → place.0 < length lists → old ≡ get_or lists place.0 old → shows new ≡ shows old ++ point ∷ []
      → map shows (slice_set lists place.0 new) ≡ added_to_list (map shows lists) place point
  added_shown lists place point old new inside is pushed =
      map-set shows lists place.0 new
      ∙ ap (slice_set (map shows lists) place.0) (pushed ∙ ap (λ (points : List PointId). points ++ point ∷ []) (ap shows is ∙ sym (get_or-map shows lists place.0 old [] inside)))
