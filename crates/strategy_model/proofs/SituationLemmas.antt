-- The situations of a network, as a list.
use Rattle.std.proofs.Common.{◌≡◌, ◌⊎◌, ℕ, zero, suc, pos, ◌+◌, ◌-◌, ◌<◌, ◌≤◌, Bool, true, false, cond, List, [], ◌∷◌, ◌++◌, map, filter, nat_abs, refl, ap, sym, subst, arith, inl, inr}
use Rattle.std.specs.List.{AllZip, AllByRecursion, range_with_len, flat_map}
use Rattle.std.proofs.lemmas.Bool.{cases_eq}
use Rattle.std.proofs.lemmas.Int.{ints}
use Rattle.std.proofs.lemmas.List.Elements.{recursion_from_All}
use Rattle.net_model.specs.Network.{Plan, IsPlan, IsLink}
use Rattle.net_model.specs.declared.part.Link.{Link}
use Rattle.strategy_model.specs.Situations.{IsSituation, IsDuration}
use Rattle.strategy_model.proofs.CompareLemmas.{own_size}

-- among the items of a list
abbrev pub Among : {A : Type 0} → List A → A → Type 0
Among [] y = ⊥
Among (x ∷ xs) y = (x ≡ y) ⊎ Among xs y

among_left : {A : Type 0} (xs ys : List A) (y : A) → Among xs y → Among (xs ++ ys) y
among_left [] ys y among = absurd among
among_left (x ∷ xs) ys y (inl here) = inl here
among_left (x ∷ xs) ys y (inr later) = inr (among_left xs ys y later)

among_right : {A : Type 0} (xs ys : List A) (y : A) → Among ys y → Among (xs ++ ys) y
among_right [] ys y among = among
among_right (x ∷ xs) ys y among = inr (among_right xs ys y among)

among_either : {A : Type 0} (xs ys : List A) (y : A) → Among (xs ++ ys) y → Among xs y ⊎ Among ys y
among_either [] ys y among = inr among
among_either (x ∷ xs) ys y (inl here) = inl (inl here)
among_either (x ∷ xs) ys y (inr later) =
    elim (among_either xs ys y later) [ inl left ↦ inl (inr left) | inr right ↦ inr right ]

among_map : {A B : Type 0} (f : A → B) (xs : List A) (x : A) → Among xs x → Among (map f xs) (f x)
among_map f [] x among = absurd among
among_map f (y ∷ xs) x (inl here) = inl (ap f here)
among_map f (y ∷ xs) x (inr later) = inr (among_map f xs x later)

from_map : {A B : Type 0} (f : A → B) (xs : List A) (y : B) → Among (map f xs) y → (x : A) × Among xs x × (f x ≡ y)
from_map f [] y among = absurd among
from_map f (x ∷ xs) y (inl here) = (x, inl refl, here)
from_map f (x ∷ xs) y (inr later) = let found = from_map f xs y later in (found.0, inr found.1, found.2)

among_flat : {A B : Type 0} (f : A → List B) (xs : List A) (x : A) (y : B) → Among xs x → Among (f x) y → Among (flat_map f xs) y
among_flat f [] x y among its = absurd among
among_flat {A} {B} f (z ∷ xs) x y (inl here) its =
    among_left (f z) (flat_map f xs) y (subst (λ (w : A). Among (f w) y) (sym here) its)
among_flat f (z ∷ xs) x y (inr later) its = among_right (f z) (flat_map f xs) y (among_flat f xs x y later its)

from_flat : {A B : Type 0} (f : A → List B) (xs : List A) (y : B) → Among (flat_map f xs) y → (x : A) × Among xs x × Among (f x) y
from_flat f [] y among = absurd among
from_flat f (x ∷ xs) y among =
    elim (among_either (f x) (flat_map f xs) y among) [
      | inl here ↦ (x, inl refl, here)
      | inr later ↦ let found = from_flat f xs y later in (found.0, inr found.1, found.2)
    ]

pub among_kept : {A : Type 0} (test : A → Bool) (xs : List A) (y : A) → Among xs y → test y ≡ true → Among (filter test xs) y
among_kept test [] y among passes = absurd among
among_kept {A} test (x ∷ xs) y (inl here) passes =
    subst (λ (b : Bool). Among (cond b (x ∷ filter test xs) (filter test xs)) y) (sym (subst (λ (z : A). test z ≡ true) (sym here) passes)) (inl here)
among_kept test (x ∷ xs) y (inr later) passes = by (test x) (among_kept test xs y later passes)
  where
    by : (b : Bool) → Among (filter test xs) y → Among (cond b (x ∷ filter test xs) (filter test xs)) y
    by true rest = inr rest
    by false rest = rest

pub from_kept : {A : Type 0} (test : A → Bool) (xs : List A) (y : A) → Among (filter test xs) y → Among xs y × (test y ≡ true)
from_kept test [] y among = absurd among
from_kept {A} test (x ∷ xs) y among = by (test x) refl among (from_kept test xs y)
  where
    by : (b : Bool) → test x ≡ b → Among (cond b (x ∷ filter test xs) (filter test xs)) y → (Among (filter test xs) y → Among xs y × (test y ≡ true)) → Among (x ∷ xs) y × (test y ≡ true)
    by true passes (inl here) rest = (inl here, subst (λ (z : A). test z ≡ true) here passes)
    by true passes (inr later) rest = let found = rest later in (inr found.0, found.1)
    by false fails later rest = let found = rest later in (inr found.0, found.1)

among_range : (a n k : ℕ) → a ≤ k → k < a + n → Among (range_with_len a n) k
among_range a zero k from below = absurd (omega (arith, from, below))
among_range a (suc n) k from below =
    elim (cases_eq a k) [
      | inl here ↦ inl here
      | inr other ↦ inr (among_range (a + 1) n k (omega (arith, from, other)) (omega (arith, below)))
    ]

from_range : (a n k : ℕ) → Among (range_with_len a n) k → (a ≤ k) × (k < a + n)
from_range a zero k among = absurd among
from_range a (suc n) k (inl here) = (omega (arith, here), omega (arith, here))
from_range a (suc n) k (inr later) = let found = from_range (a + 1) n k later in (omega (arith, found), omega (arith, found))

-- the durations that nature may pick for a link
durations_of : Link → List ℕ
durations_of link = range_with_len (nat_abs link.low) (nat_abs link.high + 1 - nat_abs link.low)

sizes : (net : Plan) (link : Link) → IsLink net link → (pos (nat_abs link.low) ≡ link.low) × (pos (nat_abs link.high) ≡ link.high)
sizes net link sound =
    let positive = sound.positive in
    let interval = sound.interval in
    (own_size link.low positive, own_size link.high (omega (arith, ints, positive, interval)))

has_duration : (net : Plan) (link : Link) (duration : ℕ) → IsLink net link → IsDuration link duration → Among (durations_of link) duration
unfolding durations_of
has_duration net link duration sound fits =
    let (low, high) = sizes net link sound in
    let (shortest, longest) = fits in
    let interval = sound.interval in
    among_range (nat_abs link.low) (nat_abs link.high + 1 - nat_abs link.low) duration (omega (arith, ints, low, shortest)) (omega (arith, ints, low, high, shortest, longest, interval))

is_duration : (net : Plan) (link : Link) (duration : ℕ) → IsLink net link → Among (durations_of link) duration → IsDuration link duration
unfolding durations_of
is_duration net link duration sound among =
    let (low, high) = sizes net link sound in
    let interval = sound.interval in
    let (from, below) = from_range (nat_abs link.low) (nat_abs link.high + 1 - nat_abs link.low) duration among in
    (omega (arith, ints, low, from), omega (arith, ints, low, high, from, below, interval))

-- one duration for each link, in every combination
all_picks : List Link → List (List ℕ)
all_picks [] = [] ∷ []
all_picks (link ∷ links) = flat_map (λ duration. map (λ picks. duration ∷ picks) (all_picks links)) (durations_of link)

has_picks : (net : Plan) (links : List Link) (picks : List ℕ) → AllByRecursion (IsLink net) links → AllZip IsDuration links picks → Among (all_picks links) picks
unfolding all_picks
has_picks net [] [] sound fits = inl refl
has_picks net [] (duration ∷ picks) sound fits = absurd fits
has_picks net (link ∷ links) [] sound fits = absurd fits
has_picks net (link ∷ links) (duration ∷ picks) sound fits =
    among_flat (λ duration. map (λ picks. duration ∷ picks) (all_picks links)) (durations_of link) duration (duration ∷ picks) (has_duration net link duration sound.0 fits.0)
    (among_map (λ (picks : List ℕ). duration ∷ picks) (all_picks links) picks (has_picks net links picks sound.1 fits.1))

are_picks : (net : Plan) (links : List Link) (picks : List ℕ) → AllByRecursion (IsLink net) links → Among (all_picks links) picks → AllZip IsDuration links picks
unfolding all_picks
are_picks net [] picks sound (inl here) = subst (AllZip IsDuration []) here tt
are_picks net [] picks sound (inr later) = absurd later
are_picks net (link ∷ links) picks sound among =
    let (duration, its, mapped) = from_flat (λ duration. map (λ picks. duration ∷ picks) (all_picks links)) (durations_of link) picks among in
    let (rest, rest_among, is) = from_map (λ (picks : List ℕ). duration ∷ picks) (all_picks links) picks mapped in
    subst (AllZip IsDuration (link ∷ links)) is (is_duration net link duration sound.0 its, are_picks net links rest sound.1 rest_among)

pub situations_of : Plan → List (List ℕ)
situations_of net = all_picks net.links

pub has_situation : (net : Plan) (situation : List ℕ) → IsPlan net → IsSituation net situation → Among (situations_of net) situation
unfolding situations_of
has_situation net situation plan is_situation =
    has_picks net net.links situation (recursion_from_All (IsLink net) net.links plan.links_sound) is_situation

pub are_situations : (net : Plan) (situation : List ℕ) → IsPlan net → Among (situations_of net) situation → IsSituation net situation
unfolding situations_of
are_situations net situation plan among =
    are_picks net net.links situation (recursion_from_All (IsLink net) net.links plan.links_sound) among
