-- What comes first of all stands at the top of a tournament.
use Rattle.std.proofs.Common.{◌≡◌, ◌≢◌, ◌⊎◌, ℕ, zero, suc, ◌+◌, ◌-◌, ◌*◌, ◌/◌, ◌<◌, ◌≤◌, ◌∙◌, List, length, Option, Some, None, inl, inr, arith, sym, subst, ap, refl}
use Rattle.std.specs.Prelude.{slice_set, replicate}
use Rattle.std.specs.List.{slice_index_or}
use Rattle.std.proofs.lemmas.Bool.{cases_lt, cases_eq}
use Rattle.std.proofs.lemmas.List.{get_or_past, get_or-set_same, get_or-set_other, get_or-replicate, length-replicate, length-set}
use Rattle.std.proofs.lemmas.Option.{none-some, same_Some}
use Rattle.net_model.specs.declared.ids.PointId.{PointId}
use Rattle.net_model.specs.Moments.{Moments, moment_of}
use Rattle.tournament_queue.specs.First.{IsDueNotAfter, IsFirstDue}
use Rattle.tournament_queue.specs.Tournament.{at, entry, IsNoLater, IsFirstOf, AreFirst, AreFirstBut, IsTournament}

-- ---- the order

pub not_after_twice : (one two three : ℕ × PointId) → IsDueNotAfter one two → IsDueNotAfter two three → IsDueNotAfter one three
not_after_twice one two three (inl less) (inl more) = inl (omega arith)
not_after_twice one two three (inl less) (inr same) = inl (let equal = same.0 in omega (arith, less, equal))
not_after_twice one two three (inr same) (inl more) = inl (let equal = same.0 in omega (arith, more, equal))
not_after_twice one two three (inr same) (inr equal) = inr (same.0 ∙ equal.0, (let low = same.1 in let high = equal.1 in omega (arith, low, high)))

pub no_later_twice : (one two three : Option (ℕ × PointId)) → IsNoLater one two → IsNoLater two three → IsNoLater one three
no_later_twice one two three first second last is =
    let middle = second last is in
    let found = first middle.0 middle.1 in
    (found.0, found.1, not_after_twice found.0 middle.0 last found.2 middle.2)

pub no_later_itself : (one : Option (ℕ × PointId)) → IsNoLater one one
no_later_itself one first is = (first, is, inr (refl, omega arith))

-- of two points the one that is due sooner comes first
pub first_is_second : (one other : ℕ × PointId) → IsDueNotAfter other one → IsFirstOf (Some one) (Some other) (Some other)
first_is_second one other before = record {
  either = inr refl;
  before_one = λ second is. (other, refl, subst (IsDueNotAfter other) (same_Some one second is) before);
  before_other = no_later_itself (Some other);
}

pub first_is_one : (one other : ℕ × PointId) → IsDueNotAfter one other → IsFirstOf (Some one) (Some other) (Some one)
first_is_one one other before = record {
  either = inl refl;
  before_one = no_later_itself (Some one);
  before_other = λ second is. (one, refl, subst (IsDueNotAfter one) (same_Some other second is) before);
}

-- what is due comes first of itself and what is not
pub first_of_none : (other : Option (ℕ × PointId)) → IsFirstOf None other other
first_of_none other = record { either = inr refl; before_one = λ second is. absurd (none-some second is); before_other = no_later_itself other }

pub first_and_none : (one : Option (ℕ × PointId)) → IsFirstOf one None one
first_and_none one = record { either = inl refl; before_one = no_later_itself one; before_other = λ second is. absurd (none-some second is) }

-- ---- one place recomputed

-- what comes first right above a place is found, and then only the place above that is left
pub found_above : (firsts : List (Option (ℕ × PointId))) (below place : ℕ) (first : Option (ℕ × PointId))
    → 1 ≤ place → below < length firsts → (below ≡ 2 * place) ⊎ (below ≡ 2 * place + 1) → AreFirstBut below firsts
    → IsFirstOf (at firsts (2 * place)) (at firsts (2 * place + 1)) first → AreFirstBut place (slice_set firsts place first)
found_above firsts below place first some inside above others is other more within not_even not_odd =
    let long : length (slice_set firsts place first) ≡ length firsts = length-set firsts place first in
    let even : at (slice_set firsts place first) (2 * other) ≡ at firsts (2 * other) = get_or-set_other firsts place (2 * other) first None not_even in
    let odd : at (slice_set firsts place first) (2 * other + 1) ≡ at firsts (2 * other + 1) = get_or-set_other firsts place (2 * other + 1) first None not_odd in
    rw (even, odd) (by_place (cases_eq other place))
  where
    by_place : (other ≡ place) ⊎ (other ≡ place → ⊥) → IsFirstOf (at firsts (2 * other)) (at firsts (2 * other + 1)) (at (slice_set firsts place first) other)
    by_place (inl same) =
        let its : at (slice_set firsts place first) other ≡ first = ap (at (slice_set firsts place first)) same ∙ get_or-set_same firsts place first None (omega (arith, inside, above)) in
        rw (its, same) is
    by_place (inr apart) =
        rw (get_or-set_other firsts place other first None apart)
        (others other more (let long : length (slice_set firsts place first) ≡ length firsts = length-set firsts place first in omega (arith, within, long)) (omega (arith, above, apart)) (omega (arith, above, apart)))

-- ---- the top

module _ (due : Moments) (firsts : List (Option (ℕ × PointId))) (tree : IsTournament due firsts) where
  half_no_later : (place : ℕ) → 2 ≤ place → place < length firsts → IsNoLater (at firsts (place / 2)) (at firsts place)
  half_no_later place deep inside =
      let half : ℕ = place / 2 in
      let size = tree.size in
      let two = tree.first half (omega arith) (omega (arith, size, inside)) in
      elim (cases_eq place (2 * half)) [
        | inl even ↦ subst (λ (k : ℕ). IsNoLater (at firsts half) (at firsts k)) (sym even) two.before_one
        | inr apart ↦ subst (λ (k : ℕ). IsNoLater (at firsts half) (at firsts k)) (let odd : 2 * half + 1 ≡ place = omega (arith, apart) in odd) two.before_other
      ]

  -- no place comes before the top
  top_no_later : (most place : ℕ) → place ≤ most → 1 ≤ place → place < length firsts → IsNoLater (at firsts 1) (at firsts place)
  top_no_later zero place small some inside = absurd (omega arith)
  top_no_later (suc most) place small some inside = elim (cases_lt place 2) [
    | inl less ↦ (let is : 1 ≡ place = omega arith in subst (λ (k : ℕ). IsNoLater (at firsts 1) (at firsts k)) is (no_later_itself (at firsts 1)))
    | inr deep ↦
        (let half : ℕ = place / 2 in
        let size = tree.size in
        no_later_twice (at firsts 1) (at firsts half) (at firsts place)
        (top_no_later most half (omega arith) (omega arith) (omega arith))
        (half_no_later place deep inside))
  ]

  -- what a place contains is a point that is due
  abbrev IsDueIn : ℕ × PointId → Type 0
  IsDueIn one = (one.1.0 < length due) × (moment_of due one.1 ≡ Some one.0)

  entry_due : (point : PointId) → point.0 < length due → (moment : Option ℕ) → moment_of due point ≡ moment → (one : ℕ × PointId) → entry point moment ≡ Some one → IsDueIn one
  entry_due point below None is one its = absurd (none-some one its)
  entry_due point below (Some m) is one its = subst IsDueIn (same_Some (m, point) one its) (below, is)

  held_due : (left place : ℕ) → length firsts ≤ place + left → 1 ≤ place → place < length firsts → (one : ℕ × PointId) → at firsts place ≡ Some one → IsDueIn one
  held_due zero place deep some inside one is = absurd (omega arith)
  held_due (suc left) place deep some inside one is = elim (cases_lt place (length due)) [
    | inl inner ↦
        (let size = tree.size in
        let two = tree.first place some (omega (arith, size, inner)) in
        elim two.either [
          | inl same ↦ held_due left (2 * place) (omega arith) (omega arith) (omega (arith, size, inner)) one (sym same ∙ is)
          | inr same ↦ held_due left (2 * place + 1) (omega arith) (omega arith) (omega (arith, size, inner)) one (sym same ∙ is)
        ])
    | inr leaf ↦
        (let size = tree.size in
        let point : PointId = record { 0 = place - length due } in
        let below : point.0 < length due = omega (arith, size, inside) in
        let same : length due + point.0 ≡ place = omega (arith, leaf) in
        entry_due point below (moment_of due point) refl one (sym (tree.points point below) ∙ (ap (at firsts) same ∙ is)))
  ]

  -- what the top contains is due first
  pub top_is_first : (first : Option (ℕ × PointId)) → 1 < length firsts → at firsts 1 ≡ first → IsFirstDue due first
  top_is_first first some is = by first is
    where
      before : (point : PointId) (moment : ℕ) → point.0 < length due → moment_of due point ≡ Some moment → ((one : ℕ × PointId) × (at firsts 1 ≡ Some one) × IsDueNotAfter one (moment, point))
      before point moment below its =
          let size = tree.size in
          top_no_later (length due + point.0) (length due + point.0) (omega arith) (omega arith) (omega (arith, size, below)) (moment, point)
          (tree.points point below ∙ ap (entry point) its)

      not_due : at firsts 1 ≡ None → (point : PointId) → point.0 < length due → (moment : Option ℕ) → moment_of due point ≡ moment → moment ≡ None
      not_due none point below None its = refl
      not_due none point below (Some moment) its = let one = before point moment below its in absurd (none-some one.0 (sym none ∙ one.1))

      by : (first : Option (ℕ × PointId)) → at firsts 1 ≡ first → IsFirstDue due first
      by None none = λ point below. not_due none point below (moment_of due point) refl
      by (Some one) top =
          let due_one = held_due (length firsts) 1 (omega arith) (omega arith) some one top in (
            due_one.0,
            due_one.1,
            λ point moment below its.
                let found = before point moment below its in
                subst (λ (o : ℕ × PointId). IsDueNotAfter o (moment, point)) (same_Some found.0 one (sym found.1 ∙ top)) found.2,
          )

-- of no point nothing is due
pub none_first : (due : Moments) → length due ≡ 0 → IsFirstDue due None
none_first due none point below = absurd (omega (arith, none, below))

-- ---- the tree of points of which none is due, and one whose points change

nothing_at : {X : Type 0} (n i : ℕ) → slice_index_or (replicate {A = Option X} n None) i None ≡ None
nothing_at {X} n i = elim (cases_lt i n) [
  | inl less ↦ get_or-replicate n i None None less
  | inr past ↦ get_or_past (replicate {A = Option X} n None) i None (let long = length-replicate {A = Option X} n None in omega (arith, long, past))
]

pub none_due : (points : ℕ) → IsTournament (replicate points None) (replicate (2 * points) None)
none_due points =
    let nothing : (place : ℕ) → at (replicate (2 * points) None) place ≡ None = nothing_at (2 * points) in
    record {
      size = length-replicate (2 * points) None ∙ sym (ap (λ k. 2 * k) (length-replicate points None));
      points = λ point below. nothing (length (replicate points None) + point.0) ∙ sym (ap (entry point) (nothing_at points point.0));
      first = λ place some inside. rw (nothing (2 * place), nothing (2 * place + 1), nothing place) (first_of_none None);
    }

module _ (due : Moments) (firsts : List (Option (ℕ × PointId))) (tree : IsTournament due firsts) (point : PointId) (moment : Option ℕ) (inside : point.0 < length due) where
  abbrev leaf : ℕ
  leaf = length due + point.0

  abbrev changed : List (Option (ℕ × PointId))
  changed = slice_set firsts leaf (entry point moment)

  -- but for the place above the point all is known
  pub known_but_above : AreFirstBut leaf changed
  known_but_above place some within not_even not_odd =
      let size = tree.size in
      let long : length changed ≡ length firsts = length-set firsts leaf (entry point moment) in
      let below : 2 * place + 1 < length firsts = omega (arith, within, long) in
      let apart : place ≢ leaf = omega (arith, below, size) in
      rw (get_or-set_other firsts leaf (2 * place) (entry point moment) None not_even, get_or-set_other firsts leaf (2 * place + 1) (entry point moment) None not_odd, get_or-set_other firsts leaf place (entry point moment) None apart)
      (tree.first place some below)

  -- and once that is found it is the tree of the points
  pub found_again : (now : List (Option (ℕ × PointId))) → length now ≡ length changed → AreFirst now
      → ((place : ℕ) → length changed ≤ 2 * place → at now place ≡ at changed place) → IsTournament (slice_set due point.0 moment) now
  found_again now count first leaves = record {
    size = count ∙ (length-set firsts leaf (entry point moment) ∙ (tree.size ∙ sym (ap (λ k. 2 * k) (length-set due point.0 moment))));
    points = λ other below. by other (let long = length-set due point.0 moment in omega (arith, long, below)) (cases_eq other.0 point.0);
    first = first;
  }
    where
      by : (other : PointId) → other.0 < length due → (other.0 ≡ point.0) ⊎ (other.0 ≡ point.0 → ⊥)
          → at now (length (slice_set due point.0 moment) + other.0) ≡ entry other (moment_of (slice_set due point.0 moment) other)
      by other below is =
          let size = tree.size in
          let long = length-set due point.0 moment in
          let whole = length-set firsts leaf (entry point moment) in
          let place : length (slice_set due point.0 moment) + other.0 ≡ length due + other.0 = omega (arith, long) in
          let kept : at now (length due + other.0) ≡ at changed (length due + other.0) = leaves (length due + other.0) (omega (arith, size, whole)) in
          ap (at now) place ∙ (kept ∙ its is)
        where
          its : (other.0 ≡ point.0) ⊎ (other.0 ≡ point.0 → ⊥) → at changed (length due + other.0) ≡ entry other (moment_of (slice_set due point.0 moment) other)
          its (inl same) =
              let equal : other ≡ point = ap (λ k. record { 0 = k }) same in
              let size = tree.size in
              rw equal (get_or-set_same firsts leaf (entry point moment) None (omega (arith, size, inside)) ∙ sym (ap (entry point) (get_or-set_same due point.0 moment None inside)))
          its (inr apart) =
              get_or-set_other firsts leaf (length due + other.0) (entry point moment) None (omega (arith, apart))
              ∙ (tree.points other below ∙ sym (ap (entry other) (get_or-set_other due point.0 other.0 moment None apart)))
