-- The steps of a seat at the table of its words, by what it knows.
use Rattle.std.proofs.Common.{◌≡◌, ℕ, List, [], refl, ap, sym, subst, ◌∙◌}
use mathlib.Core.Option.{none}
use Rattle.atomic_table.specs.Table.{State, Me, step, keeps, Allows, Joins}
use Rattle.atomic_table.specs.declared.shared.Seat.{Seat as Place}
use Rattle.atomic_table.proofs.Lists.{set_else}
use Rattle.shared_seats.specs.Seats.{SeatSeen, view_of, seen_at}
use Rattle.shared_seats.specs.Standings.{both_of}
use Rattle.shared_seats.specs.Steps.{shown, MayStep, MayJoin}
use Rattle.shared_seats.specs.declared.standing.Standing.{Standing}
use Rattle.shared_seats.specs.declared.standing.Standing.TheVariants.{Live, Spent}

module _ {V K : Type 0} (nothing : V) (holds : K → List ℕ → List (Standing V) → Type 0) (key seen : K) (same : key ≡ seen) where
  abbrev Mine : Type 0
  Mine = Me (Unit {0}) (Standing V)

  abbrev Holds : K → State (Unit {0}) (Standing V) → Type 0
  Holds k s = holds k s.words s.views

  module _ (place : Place (Unit {0}) (Standing V)) (live : place.me ≡ (Live (view_of nothing place.me.0), [])) (seat : SeatSeen V) (view_is : seen_at nothing place ≡ seat) where
    live_now : place.me ≡ (Live seat.view, [])
    live_now = live ∙ ap (λ (s : SeatSeen V). (Live s.view, [])) view_is

    -- ---- a step at a word
    pub steps : (count : V → ℕ) (finding : ℕ → ℕ → ℕ → V → ℕ → V → Type 0) (slots word first second : ℕ) (after : ℕ → ℕ)
        → MayStep (holds seen) count word after seat.view (finding word first second seat.view)
        → Allows (Holds key) slots place.id place.me word after (shown count finding (step slots word first second none) place.me)
    steps count finding slots word first second after may =
        subst (λ (k : K). Allows (Holds k) slots place.id place.me word after (shown count finding (step slots word first second none) place.me)) (sym same)
        (subst (λ (m : Mine). Allows (Holds seen) slots place.id m word after (shown count finding (step slots word first second none) m)) (sym live_now)
        (λ s rule _ at small.
        let found = may s.words s.views place.id rule at small in
        (Live found.0, keeps, tt, found.1, record { view = seat.view; was = refl; later = found.0; shows = found.3; same = found.2; is = refl })))

    -- ---- a seat is joined into another
    pub joins : (joined_with : V → V → V) (other : Place (Unit {0}) (Standing V)) → other.me ≡ (Live (view_of nothing other.me.0), []) → (its : SeatSeen V) → seen_at nothing other ≡ its
        → MayJoin (holds seen) seat.view its.view (joined_with seat.view its.view) → Joins (Holds key) place.id place.me.0 other.id other.me.0 (both_of joined_with place.me.0 other.me.0) Spent
    joins joined_with other live_other its its_is may =
        subst (λ (k : K). Joins (Holds k) place.id place.me.0 other.id other.me.0 (both_of joined_with place.me.0 other.me.0) Spent) (sym same)
        (subst (λ (p : Mine × Mine). Joins (Holds seen) place.id p.0.0 other.id p.1.0 (both_of joined_with p.0.0 p.1.0) Spent)
        (λ i. (sym live_now i, sym (live_other ∙ ap (λ (s : SeatSeen V). (Live s.view, [])) its_is) i))
        (λ s rule at apart there.
        may s.words s.views place.id other.id rule at (sym (set_else s.views place.id other.id (Live (joined_with seat.view its.view)) apart) ∙ there) apart))
