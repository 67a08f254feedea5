-- The words of two rows, place by place.
use Rattle.std.proofs.Common.{◌≡◌, ℕ, ◌+◌, ◌<◌, ◌≤◌, ℤ, pos, ◌+ℤ◌, ◌≤ℤ◌, ◌<ℤ◌, unsigned_abs, w64, SFits, Bool, true, false, ◌||◌, List, [], ◌∷◌, length, get_or, drop, drop-cons, drop_of_length-le, zero, suc, refl, sym, ap, ◌∙◌, subst}
use Rattle.std.proofs.Common.{arith}
use Rattle.std.proofs.lemmas.Int.{ints}
use Rattle.std.proofs.Math.Bool.{or-false}
use Rattle.std.proofs.lemmas.Bool.{or_left, or_right}
use Rattle.net_model.specs.Limits.{most_weight}
use Rattle.cert_checker.specs.Least.{absent, descends, improves_in}

-- a place at which the word of a first premise improves
abbrev pub ImprovesSomewhere : List ℤ → List ℤ → ℤ → Type 0
ImprovesSomewhere firsts there weight = (k : ℕ) × (k < length firsts) × (descends (get_or firsts k absent) (get_or there k absent) weight ≡ true)

pub improves_somewhere : (firsts there : List ℤ) (weight : ℤ) → improves_in firsts there weight ≡ true → ImprovesSomewhere firsts there weight
improves_somewhere [] there weight is = absurd (cc)
improves_somewhere (first ∷ firsts) [] weight is = absurd (cc)
improves_somewhere (first ∷ firsts) (other ∷ there) weight is = by (descends first other weight) refl is (improves_somewhere firsts there weight)
  where
    by : (b : Bool) → descends first other weight ≡ b → (b || improves_in firsts there weight) ≡ true → (improves_in firsts there weight ≡ true → ImprovesSomewhere firsts there weight)
        → ImprovesSomewhere (first ∷ firsts) (other ∷ there) weight
    by true here is later = (0, omega arith, here)
    by false here is later = let (k, within, descends) = later is in (suc k, omega arith, descends)

pub improves_at : (firsts there : List ℤ) (weight : ℤ) (k : ℕ) → k < length firsts → k < length there → descends (get_or firsts k absent) (get_or there k absent) weight ≡ true → improves_in firsts there weight ≡ true
improves_at [] there weight k within also is = absurd (omega arith)
improves_at (first ∷ firsts) [] weight k within also is = absurd (omega arith)
improves_at (first ∷ firsts) (other ∷ there) weight zero within also is = or_left (descends first other weight) (improves_in firsts there weight) is
improves_at (first ∷ firsts) (other ∷ there) weight (suc k) within also is =
    or_right (descends first other weight) (improves_in firsts there weight) (improves_at firsts there weight k (omega arith) (omega arith) is)

or_apart : (a b c : Bool) → ((a || b) || c) ≡ (a || (b || c))
or_apart true b c = refl
or_apart false b c = refl

-- what improves in the rests of two rows improves at their first place or after it
module _ (firsts there : List ℤ) (weight : ℤ) (k : ℕ) (before whole : Bool) (so_far : (before || improves_in (drop k firsts) (drop k there) weight) ≡ whole) where
  pub improves_more : (here : Bool) → k < length firsts → k < length there → here ≡ descends (get_or firsts k (pos 0)) (get_or there k (pos 0)) weight
      → ((before || here) || improves_in (drop (k + 1) firsts) (drop (k + 1) there) weight) ≡ whole
  improves_more here within also is =
      let next : k + 1 ≡ suc k = omega arith in
      ap (λ (n : ℕ). (before || here) || improves_in (drop n firsts) (drop n there) weight) next
      ∙ (or_apart before here (improves_in (drop (suc k) firsts) (drop (suc k) there) weight)
      ∙ ((λ i. before || (is i || improves_in (drop (suc k) firsts) (drop (suc k) there) weight))
      ∙ (sym (λ i. before || improves_in (drop-cons firsts k (pos 0) within i) (drop-cons there k (pos 0) also i) weight) ∙ so_far)))

  pub improves_end : length firsts ≤ k → before ≡ whole
  improves_end past = sym (or-false before) ∙ (sym (ap (λ (rest : List ℤ). before || improves_in rest (drop k there) weight) (drop_of_length-le firsts past)) ∙ so_far)

-- a weight that is not below 0 and a negative one that is judged have a sum of 64 bits
pub sum_fits : (high weight h w : ℤ) → h ≡ high → w ≡ weight → pos 0 ≤ℤ high → SFits w64 high → weight <ℤ pos 0 → unsigned_abs weight ≤ most_weight → SFits w64 (h +ℤ w)
sum_fits high weight h w same_high same above fits below small =
    subst (SFits w64) (λ i. sym same_high i +ℤ sym same i) (omega (arith, ints, above, fits, below, small))
