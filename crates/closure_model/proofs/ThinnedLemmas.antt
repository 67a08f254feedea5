-- Lists of what follows, without what is saturated.
use Rattle.std.proofs.Common.{◌≡◌, zero, suc, ℤ, pos, ◌≤ℤ◌, ◌<ℤ◌, Bool, true, false, cond, List, [], ◌∷◌, ◌++◌, Option, Some, None, refl, ap, arith}
use Rattle.std.specs.Prelude.{filter}
use Rattle.std.specs.List.{Contains, flat_map}
use Rattle.std.proofs.lemmas.Int.{ints}
use Rattle.net_model.specs.Rules.{no_case, upper_case}
use Rattle.net_model.specs.declared.part.Edge.{Edge}
use Rattle.net_model.proofs.RuleLemmas.{no_case_gives, upper_case_gives}
use Rattle.closure_model.specs.PrunedRows.{IsThinned, at_end, keeps, leaves}
use Rattle.closure_model.specs.ReferenceRow.{given, from_first}
use Rattle.closure_model.specs.Tables.{Graph, HasAtMost}
use Rattle.closure_model.specs.declared.rows.Made.{Made}
use Rattle.closure_model.specs.declared.rows.Why.{Why}
use Rattle.closure_model.specs.declared.rows.Why.TheVariants.{No, Up}
use Rattle.closure_model.proofs.Lists.{Contains-head, Contains-tail, Contains-none}

pub thinned_itself : (table : Graph) (all : List Made) → IsThinned table all all
thinned_itself table [] = at_end
thinned_itself table (made ∷ all) = keeps made all all (thinned_itself table all)

pub thinned_append : (table : Graph) (one few other less : List Made) → IsThinned table one few → IsThinned table other less → IsThinned table (one ++ other) (few ++ less)
thinned_append table _ _ other less at_end rest = rest
thinned_append table _ _ other less (keeps made all few here) rest = keeps made (all ++ other) (few ++ less) (thinned_append table all few other less here rest)
thinned_append table _ _ other less (leaves made all few met here) rest = leaves made (all ++ other) (few ++ less) met (thinned_append table all few other less here rest)

pub thinned_all : (table : Graph) (all : List Made) → ((made : Made) → Contains all made → HasAtMost table made.edge) → IsThinned table all []
thinned_all table [] met = at_end
thinned_all table (made ∷ all) met = leaves made all [] (met made (Contains-head made all)) (thinned_all table all (λ one inside. met one (Contains-tail made all one inside)))

pub thinned_flat : {X : Type 0} (table : Graph) (f : X → List Made) (keep : X → Bool) (xs : List X) → ((x : X) → Contains xs x → keep x ≡ false → (made : Made) → Contains (f x) made → HasAtMost table made.edge)
    → IsThinned table (flat_map f xs) (flat_map f (filter keep xs))
thinned_flat table f keep [] met = at_end
thinned_flat table f keep (x ∷ xs) met = by (keep x) refl (thinned_flat table f keep xs (λ y inside. met y (Contains-tail x xs y inside)))
  where
    by : (b : Bool) → keep x ≡ b → IsThinned table (flat_map f xs) (flat_map f (filter keep xs)) → IsThinned table (f x ++ flat_map f xs) (flat_map f (cond b (x ∷ filter keep xs) (filter keep xs)))
    by true is rest = thinned_append table (f x) (f x) (flat_map f xs) (flat_map f (filter keep xs)) (thinned_itself table (f x)) rest
    by false is rest = thinned_append table (f x) [] (flat_map f xs) (flat_map f (filter keep xs)) (thinned_all table (f x) (met x (Contains-head x xs) is)) rest

-- thinned twice
pub thinned_on : (table : Graph) (all few less : List Made) → IsThinned table all few → IsThinned table few less → IsThinned table all less
thinned_on table _ _ less at_end rest = rest
thinned_on table _ _ _ (keeps made all few here) (keeps _ _ less rest) = keeps made all less (thinned_on table all few less here rest)
thinned_on table _ _ less (keeps made all few here) (leaves _ _ _ met rest) = leaves made all less met (thinned_on table all few less here rest)
thinned_on table _ _ less (leaves made all few met here) rest = leaves made all less met (thinned_on table all few less here rest)

-- ---- what a rule gives
pub given_is : (why : Why) (o : Option Edge) (made : Made) → Contains (given why o) made → o ≡ Some made.edge
given_is why None made inside = absurd (Contains-none made inside)
given_is why (Some other) made (zero, inside, at) = ap (λ (m : Made). Some m.edge) at
given_is why (Some other) made (suc k, inside, at) = absurd (omega arith)

nothing_given : (why : Why) (o : Option Edge) → o ≡ None → given why o ≡ []
nothing_given why None is = refl
nothing_given why (Some edge) is = absurd cc

-- nothing follows with a first premise from an edge of weight 0 or more
pub heavy_first : (edge first : Edge) → pos 0 ≤ℤ edge.weight → from_first edge first ≡ []
heavy_first edge first heavy =
    let none : no_case first edge ≡ None = no_none (no_case first edge) refl in
    let also : upper_case first edge ≡ None = up_none (upper_case first edge) refl in
    let one = nothing_given (No first edge) (no_case first edge) none in
    let two = nothing_given (Up first edge) (upper_case first edge) also in
    λ i. one i ++ two i
  where
    clash : edge.weight <ℤ pos 0 → ⊥
    clash below = apart edge.weight heavy below
      where
        apart : (w : ℤ) → pos 0 ≤ℤ w → w <ℤ pos 0 → ⊥
        apart w up down = grind (arith, ints)

    no_none : (o : Option Edge) → no_case first edge ≡ o → o ≡ None
    no_none None is = refl
    no_none (Some other) is = absurd (clash (no_case_gives first edge other is).negative)

    up_none : (o : Option Edge) → upper_case first edge ≡ o → o ≡ None
    up_none None is = refl
    up_none (Some other) is = absurd (clash (upper_case_gives first edge other is).negative)

pub heavy_all : (edge : Edge) (list : List Edge) → pos 0 ≤ℤ edge.weight → flat_map (from_first edge) list ≡ []
heavy_all edge [] heavy = refl
heavy_all edge (first ∷ list) heavy =
    let here = heavy_first edge first heavy in
    let rest = heavy_all edge list heavy in
    λ i. here i ++ rest i
