-- Two bounds that belong together: one point comes at least a number of moments after another and at most another number.
use Rattle.std.specs.Prelude.{ℕ, ℤ, neg_ℤ, List, [], ◌∷◌, ◌++◌, codes}
use Rattle.net_model.specs.declared.part.Part.{Part}
use Rattle.net_model.specs.declared.part.Part.TheVariants as part

-- The two bounds of `low <= to - from <= high`, in the order in which they are declared: that one point comes at most `high` after the
-- other, by the name with `.max` at its end, and at least `low` after it, by the name with `.min`.
abbrev pub between_parts : (name from : List ℕ) → (low high : ℤ) → (to : List ℕ) → List Part
between_parts name from low high to =
    part.Bound (name ++ codes ".max") from to high ∷ part.Bound (name ++ codes ".min") to from (neg_ℤ low) ∷ []
