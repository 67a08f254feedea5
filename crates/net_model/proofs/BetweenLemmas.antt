-- Two bounds that belong together can be declared.
use Rattle.std.proofs.Common.{◌≡◌, ◌∙◌, refl, ap, true, ℕ, ℤ, zero, suc, pos, negsuc, neg_ℤ, nat_le, unsigned_abs, List, [], ◌∷◌, ◌++◌, length, codes, arith, IsTrue}
use Rattle.std.specs.List.{All}
use Rattle.std.proofs.lemmas.Bool.{and_parts, leb-true}
use Rattle.std.proofs.lemmas.List.Elements.{All-nil, All-cons}
use Rattle.net_model.specs.Between.{between_parts}
use Rattle.net_model.specs.Limits.{within_limit, most_number}
use Rattle.net_model.specs.Names.{is_name, is_short_name, most_short}
use Rattle.net_model.specs.NetworkParts.{IsDeclarable}
use Rattle.net_model.specs.declared.part.Part.TheVariants as part
use Rattle.net_model.proofs.NameLemmas.{short_named}

-- the opposite of a number of a plan is one
opposite_size : (n : ℤ) → unsigned_abs (neg_ℤ n) ≡ unsigned_abs n
opposite_size (pos zero) = refl
opposite_size (pos (suc n)) = refl
opposite_size (negsuc n) = refl

opposite_within : (n : ℤ) → within_limit n ≡ true → within_limit (neg_ℤ n) ≡ true
opposite_within n within = ap (λ (size : ℕ). nat_le size most_number) (opposite_size n) ∙ within

-- two bounds that belong together can be declared if their line can be spelled
pub declarable_pair : (name from : List ℕ) (low high : ℤ) (to : List ℕ) → IsTrue (is_short_name name) → IsTrue (is_name from) → within_limit low ≡ true → within_limit high ≡ true → IsTrue (is_name to)
    → All IsDeclarable (between_parts name from low high to)
declarable_pair name from low high to short from_named low_small high_small to_named =
    let parts = and_parts (is_name name) (nat_le (length name) most_short) short in
    let few = leb-true (length name) most_short parts.1 in
    let max : IsDeclarable (part.Bound (name ++ codes ".max") from to high) = (short_named name (codes ".max") parts.0 few refl (omega arith), from_named, to_named, high_small) in
    let min : IsDeclarable (part.Bound (name ++ codes ".min") to from (neg_ℤ low)) = (short_named name (codes ".min") parts.0 few refl (omega arith), to_named, from_named, opposite_within low low_small) in
    All-cons IsDeclarable (part.Bound (name ++ codes ".max") from to high) (part.Bound (name ++ codes ".min") to from (neg_ℤ low) ∷ []) max
    (All-cons IsDeclarable (part.Bound (name ++ codes ".min") to from (neg_ℤ low)) [] min (All-nil IsDeclarable))
