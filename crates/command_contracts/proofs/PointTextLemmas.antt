-- Lines that are put point by point.
use Rattle.std.proofs.Common.{◌≡◌, ℕ, ◌+◌, List, [], ◌∷◌, ◌++◌, map, ap, sym, ◌∙◌, arith, append-nil, append_assoc}
use Rattle.std.specs.List.{flat_map, range_with_len}
use Rattle.std.proofs.lemmas.Grind.{flat_map-append}
use Rattle.std.proofs.lemmas.List.FromFn.{map-range_with_len_more}
use Rattle.net_model.specs.declared.ids.PointId.{PointId}

abbrev numbered : ℕ → PointId
numbered k = record { 0 = k }

-- what is put for the points below a number, and for one more
pub points_put : (text : PointId → List ℕ) (first before after : List ℕ) (k : ℕ) → before ≡ first ++ flat_map text (map numbered (range_with_len 0 k)) → after ≡ before ++ text (numbered k)
    → after ≡ first ++ flat_map text (map numbered (range_with_len 0 (k + 1)))
points_put text first before after k held pushed =
    let all : List PointId = map numbered (range_with_len 0 k) in
    let one : flat_map text (numbered k ∷ []) ≡ text (numbered k) = append-nil (text (numbered k)) in
    let more : map numbered (range_with_len 0 (k + 1)) ≡ all ++ numbered k ∷ [] = map-range_with_len_more numbered 0 k k (omega arith) in
    pushed
    ∙ (ap (λ (b : List ℕ). b ++ text (numbered k)) held
    ∙ (append_assoc first (flat_map text all) (text (numbered k))
    ∙ ap (λ (b : List ℕ). first ++ b) (ap (λ (b : List ℕ). flat_map text all ++ b) (sym one) ∙ (sym (flat_map-append text all (numbered k ∷ [])) ∙ ap (flat_map text) (sym more)))))
