-- The weights of reduced edges are small: their links are links of the network, and none counts twice.
use Rattle.std.proofs.Common.{◌≡◌, ℕ, ◌+◌, ◌*◌, ◌<◌, ◌≤◌, ℤ, pos, ◌≤ℤ◌, Bool, true, false, cond, not, List, [], ◌∷◌, ◌++◌, length, slice_get, eqb, refl, ap, sym, subst, ◌∙◌, inl, inr, arith}
use Rattle.std.specs.List.{AllByRecursion, Contains, IsDistinct, filter, list_any}
use Rattle.std.specs.Prelude.{unsigned_abs}
use Rattle.std.proofs.lemmas.Bool.{eqb-true, eqb-false, ne_eqb, or_cases, true≢false, not-true}
use Rattle.std.proofs.lemmas.Int.{ints}
use Rattle.std.proofs.lemmas.List.{length-append}
use Rattle.std.proofs.lemmas.List.Elements.{All-contains}
use Rattle.std.proofs.lemmas.Option.{same_Some, slice_get_within, get_or_from_slice_get}
use Rattle.std.proofs.lemmas.Map.Steps.{length-le_from_distinct_below}
use Rattle.net_model.specs.Network.{Plan, IsPlan}
use Rattle.net_model.specs.declared.part.Bound.{Bound}
use Rattle.net_model.specs.declared.part.Edge.{Edge}
use Rattle.net_model.specs.declared.part.Link.{Link}
use Rattle.strategy_model.proofs.PlayLemmas.{link_sound}
use Rattle.strong_plan.specs.Chains.{same_end, apart, sum_of, IsReduced}
use Rattle.strong_plan.specs.Numbers.{HasShownNumbers, most_shown}
use Rattle.strong_plan.proofs.StrongLemmas.{IsNetLink, chain_links}
use Rattle.strong_plan.proofs.SumLemmas.{kept_all}
use Rattle.strong_plan.proofs.ReducedEdgeLemmas.{ends_of, each_other, distinct}

-- a number is none of these
abbrev IsOther : ℕ → List ℕ → Type 0
IsOther n others = AllByRecursion (λ (m : ℕ). eqb n m ≡ false) others

other_kept : (n : ℕ) (test : Link → Bool) (links : List Link) → IsOther n (ends_of links) → IsOther n (ends_of (filter test links))
other_kept n test [] others = tt
other_kept n test (link ∷ links) others = by (test link) (other_kept n test links others.1)
  where
    by : (b : Bool) → IsOther n (ends_of (filter test links)) → IsOther n (ends_of (cond b (link ∷ filter test links) (filter test links)))
    by true rest = (others.0, rest)
    by false rest = rest

distinct_kept : (test : Link → Bool) (links : List Link) → IsDistinct eqb (ends_of links) → IsDistinct eqb (ends_of (filter test links))
unfolding IsDistinct
distinct_kept test [] differ = tt
distinct_kept test (link ∷ links) differ = by (test link) (distinct_kept test links differ.1)
  where
    by : (b : Bool) → IsDistinct eqb (ends_of (filter test links)) → IsDistinct eqb (ends_of (cond b (link ∷ filter test links) (filter test links)))
    by true rest = (other_kept link.to.0 test links differ.0, rest)
    by false rest = rest

other_both : (n : ℕ) (one other : List Link) → IsOther n (ends_of one) → IsOther n (ends_of other) → IsOther n (ends_of (one ++ other))
other_both n [] other first then = then
other_both n (link ∷ one) other first then = (first.0, other_both n one other first.1 then)

distinct_both : (one other : List Link) → IsDistinct eqb (ends_of one) → IsDistinct eqb (ends_of other) → AllByRecursion (λ (link : Link). IsOther link.to.0 (ends_of other)) one → IsDistinct eqb (ends_of (one ++ other))
unfolding IsDistinct
distinct_both [] other first then apart = then
distinct_both (link ∷ one) other first then apart = (other_both link.to.0 one other first.0 apart.0, distinct_both one other first.1 then apart.1)

-- the numbers of links of the network
abbrev numbers_of : (net : Plan) (links : List Link) → AllByRecursion (IsNetLink net) links → List ℕ
numbers_of net [] all = []
numbers_of net (link ∷ links) all = all.0.0.0 ∷ numbers_of net links all.1

numbers_count : (net : Plan) (links : List Link) (all : AllByRecursion (IsNetLink net) links) → length (numbers_of net links all) ≡ length links
numbers_count net [] all = refl
numbers_count net (link ∷ links) all = let rest = numbers_count net links all.1 in omega (arith, rest)

number_other : (net : Plan) (link : Link) (its : IsNetLink net link) (links : List Link) (all : AllByRecursion (IsNetLink net) links) → IsOther link.to.0 (ends_of links) → IsOther its.0.0 (numbers_of net links all)
number_other net link its [] all others = tt
number_other net link its (next ∷ links) all others = (
  ne_eqb its.0.0 all.0.0.0 (λ same.
      let one : link ≡ next = same_Some link next (sym its.1 ∙ ap (slice_get net.links) same ∙ all.0.1) in
      eqb-false link.to.0 next.to.0 others.0 (ap (λ (l : Link). l.to.0) one)),
  number_other net link its links all.1 others.1,
)

numbers_distinct : (net : Plan) (links : List Link) (all : AllByRecursion (IsNetLink net) links) → IsDistinct eqb (ends_of links) → IsDistinct eqb (numbers_of net links all)
unfolding IsDistinct
numbers_distinct net [] all differ = tt
numbers_distinct net (link ∷ links) all differ = (number_other net link all.0 links all.1 differ.0, numbers_distinct net links all.1 differ.1)

numbers_below : (net : Plan) (links : List Link) (all : AllByRecursion (IsNetLink net) links) (q : ℕ) → list_any (eqb q) (numbers_of net links all) ≡ true → q < length net.links
numbers_below net [] all q among = absurd (true≢false (sym among))
numbers_below net (link ∷ links) all q among =
    elim (or_cases (eqb q all.0.0.0) (list_any (eqb q) (numbers_of net links all.1)) among) [
      | inl here ↦
          let same = eqb-true q all.0.0.0 here in
          let inside = slice_get_within net.links all.0.0.0 link all.0.1 in
          omega (arith, same, inside)
      | inr later ↦ numbers_below net links all.1 q later
    ]

-- links of the network that end in different points are no more than its links
few : (net : Plan) (links : List Link) → AllByRecursion (IsNetLink net) links → IsDistinct eqb (ends_of links) → length links ≤ length net.links
few net links all differ =
    let least = length-le_from_distinct_below (numbers_of net links all) (length net.links) (numbers_distinct net links all differ) (numbers_below net links all) in
    let count = numbers_count net links all in
    omega (arith, least, count)

both_all : (P : Link → Type 0) (one other : List Link) → AllByRecursion P one → AllByRecursion P other → AllByRecursion P (one ++ other)
both_all P [] other first then = then
both_all P (link ∷ one) other first then = (first.0, both_all P one other first.1 then)

first_of : (P Q : Link → Type 0) (links : List Link) → AllByRecursion (λ link. P link × Q link) links → AllByRecursion P links
first_of P Q [] all = tt
first_of P Q (link ∷ links) all = (all.0.0, first_of P Q links all.1)

-- the links of one chain that aren't in the other, and those of the other that aren't in the one
few_apart : (net : Plan) → IsPlan net → (bound : Bound) (edge : Edge) (reduced : IsReduced net bound edge) → length (apart reduced.from_chain reduced.to_chain) + length (apart reduced.to_chain reduced.from_chain) ≤ length net.links
few_apart net plan bound edge reduced =
    let c = reduced.from_chain in
    let d = reduced.to_chain in
    let not_in : List Link → Link → Bool = λ chain link. not (list_any (same_end link) chain) in
    let ours = kept_all (IsNetLink net) (not_in d) c (chain_links net bound.from c edge.from reduced.from) in
    let theirs = kept_all (IsNetLink net) (not_in c) d (chain_links net bound.to d edge.to reduced.to) in
    let own = first_of (IsNetLink net) (λ link. not_in d link ≡ true) (apart c d) ours in
    let their = first_of (IsNetLink net) (λ link. not_in c link ≡ true) (apart d c) theirs in
    let differ = distinct_both (apart c d) (apart d c) (distinct_kept (not_in d) c (distinct net plan bound.from c edge.from reduced.from)) (distinct_kept (not_in c) d (distinct net plan bound.to d edge.to reduced.to))
    (others (apart c d) d (not_in c) ours) in
    let least = few net (apart c d ++ apart d c) (both_all (IsNetLink net) (apart c d) (apart d c) own their) differ in
    let count = length-append (apart c d) (apart d c) in
    omega (arith, least, count)
  where
    others : (links d : List Link) (test : Link → Bool) → AllByRecursion (λ link. IsNetLink net link × (not (list_any (same_end link) d) ≡ true)) links → AllByRecursion (λ (link : Link). IsOther link.to.0 (ends_of (filter test d))) links
    others [] d test all = tt
    others (link ∷ links) d test all = (other_kept link.to.0 test d (each_other link d (not-true (list_any (same_end link) d) all.0.1)), others links d test all.1)

-- the sum over links of numbers that the shown form of a plan may have
sum_small : (net : Plan) (Q : Link → Type 0) (f : Link → ℤ) → ((link : Link) → IsNetLink net link → (pos 0 ≤ℤ f link) × (f link ≤ℤ pos 1001000000)) → (links : List Link) → AllByRecursion (λ link. IsNetLink net link × Q link) links
    → (pos 0 ≤ℤ sum_of f links) × (sum_of f links ≤ℤ pos (1001000000 * length links))
sum_small net Q f fits [] all = (omega (arith, ints), omega (arith, ints))
sum_small net Q f fits (link ∷ links) all =
    let (least, most) = sum_small net Q f fits links all.1 in
    let (here, here_most) = fits link all.0.0 in
    (omega (arith, ints, least, here), omega (arith, ints, most, here_most))

module _ (net : Plan) (plan : IsPlan net) (numbers : HasShownNumbers net) where
  high_size : (link : Link) → IsNetLink net link → unsigned_abs link.high ≤ most_shown
  high_size link its =
      let within = slice_get_within net.links its.0.0 link its.1 in
      subst (λ (l : Link). unsigned_abs l.high ≤ most_shown) (get_or_from_slice_get net.links its.0.0 link link its.1) (numbers.links its.0.0 link within)

  low_fits : (link : Link) → IsNetLink net link → (pos 0 ≤ℤ link.low) × (link.low ≤ℤ pos 1001000000)
  low_fits link its =
      let sound = link_sound net plan its.0.0 link its.1 in
      let positive = sound.positive in
      let interval = sound.interval in
      let size = high_size link its in
      (omega (arith, ints, positive), omega (arith, ints, positive, interval, size))

  high_fits : (link : Link) → IsNetLink net link → (pos 0 ≤ℤ link.high) × (link.high ≤ℤ pos 1001000000)
  high_fits link its =
      let sound = link_sound net plan its.0.0 link its.1 in
      let positive = sound.positive in
      let interval = sound.interval in
      let size = high_size link its in
      (omega (arith, ints, positive, interval), omega (arith, ints, positive, interval, size))

  -- the weight of a reduced edge, in range of a certificate
  pub reduced_size : (bound : Bound) (edge : Edge) → Contains net.bounds bound → IsReduced net bound edge → unsigned_abs edge.weight ≤ 1000000000000
  reduced_size bound edge declared reduced =
      let c = reduced.from_chain in
      let d = reduced.to_chain in
      let (low_least, low_most) = sum_small net (λ link. not (list_any (same_end link) d) ≡ true) (λ link. link.low) low_fits (apart c d)
      (kept_all (IsNetLink net) (λ link. not (list_any (same_end link) d)) c (chain_links net bound.from c edge.from reduced.from)) in
      let (high_least, high_most) = sum_small net (λ link. not (list_any (same_end link) c) ≡ true) (λ link. link.high) high_fits (apart d c)
      (kept_all (IsNetLink net) (λ link. not (list_any (same_end link) c)) d (chain_links net bound.to d edge.to reduced.to)) in
      let own = few_apart net plan bound edge reduced in
      let links = plan.few_links in
      let most = All-contains (λ (b : Bound). unsigned_abs b.most ≤ most_shown) net.bounds bound numbers.bounds declared in
      let weight = reduced.weight in
      omega (arith, ints, low_least, low_most, high_least, high_most, own, links, most, weight)
