-- Words depart from their places for one cause.
use Rattle.std.proofs.Common.{◌≡◌, ℕ, List, [], ◌∷◌, Option, Some, None, Ok, Err, sym, ◌∙◌, arith, inl, inr}
use Rattle.net_model.specs.Places.{Place, of_name, of_short_name, of_natural, of_integer, Fits, Misfits, FirstMisfits, DepartsFrom}
use Rattle.net_model.specs.declared.format.FormatKind.{FormatKind}

pub never : {A B : Type 0} (x : A) (kind : FormatKind) → Ok x ≡ Err kind → B
never x kind same = absurd (cc)

pub misfit_one : (place : Place) (word : List ℕ) (a b : FormatKind) → Misfits place word a → Misfits place word b → a ≡ b
misfit_one of_name word a b x y = x.1 ∙ sym y.1
misfit_one (of_integer limit) word a b (inl x) (inl y) = x.1 ∙ sym y.1
misfit_one (of_integer limit) word a b (inl x) (inr y) = absurd (let none = x.0 in let some = y.0 in cc)
misfit_one (of_integer limit) word a b (inr x) (inl y) = absurd (let some = x.0 in let none = y.0 in cc)
misfit_one (of_integer limit) word a b (inr x) (inr y) = x.2 ∙ sym y.2
misfit_one of_short_name word a b x y = x.1 ∙ sym y.1
misfit_one (of_natural limit) word a b (inl x) (inl y) = x.1 ∙ sym y.1
misfit_one (of_natural limit) word a b (inl x) (inr y) = absurd (let none = x.0 in let some = y.0 in cc)
misfit_one (of_natural limit) word a b (inr x) (inl y) = absurd (let some = x.0 in let none = y.0 in cc)
misfit_one (of_natural limit) word a b (inr x) (inr y) = x.2 ∙ sym y.2

pub fits_or_not : (place : Place) (word : List ℕ) (kind : FormatKind) → Fits place word → Misfits place word kind → ⊥
fits_or_not of_name word kind fits x = let some = fits in let none = x.0 in absurd (cc)
fits_or_not (of_integer limit) word kind fits (inl x) = let some = fits.0 in let none = x.0 in absurd (cc)
fits_or_not (of_integer limit) word kind fits (inr x) = absurd (omega (arith, fits.1, x.1))
fits_or_not of_short_name word kind fits x = let some = fits in let none = x.0 in absurd (cc)
fits_or_not (of_natural limit) word kind fits (inl x) = let some = fits.0 in let none = x.0 in absurd (cc)
fits_or_not (of_natural limit) word kind fits (inr x) = absurd (omega (arith, fits.1, x.1))

pub first_one : (places : List Place) (words : List (List ℕ)) (a b : FormatKind) → FirstMisfits places words a → FirstMisfits places words b → a ≡ b
first_one [] words a b x y = absurd x
first_one (place ∷ places) [] a b x y = absurd x
first_one (place ∷ places) (word ∷ words) a b (inl x) (inl y) = misfit_one place word a b x y
first_one (place ∷ places) (word ∷ words) a b (inl x) (inr y) = absurd (fits_or_not place word a y.0 x)
first_one (place ∷ places) (word ∷ words) a b (inr x) (inl y) = absurd (fits_or_not place word b x.0 y)
first_one (place ∷ places) (word ∷ words) a b (inr x) (inr y) = first_one places words a b x.1 y.1

pub departs_from_one : (form : Option (List Place)) (others : List (List ℕ)) (a b : FormatKind) → DepartsFrom form others a → DepartsFrom form others b → a ≡ b
departs_from_one None others a b x y = x ∙ sym y
departs_from_one (Some places) others a b (inl x) (inl y) = x.1 ∙ sym y.1
departs_from_one (Some places) others a b (inl x) (inr y) = absurd (x.0 y.0)
departs_from_one (Some places) others a b (inr x) (inl y) = absurd (y.0 x.0)
departs_from_one (Some places) others a b (inr x) (inr y) = first_one places others a b x.1 y.1
