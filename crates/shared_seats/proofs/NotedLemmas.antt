-- What each live seat knows stays so when seats are split and joined, and after a step.
use Rattle.std.proofs.Common.{◌≡◌, ℕ, List, [], ◌∷◌, ◌++◌, get_or, set, refl, sym, subst, ◌∙◌}
use Rattle.std.specs.List.{All}
use Rattle.std.proofs.lemmas.List.Elements.{All-nil, All-cons, All-set, All-push, All-append}
use mathlib.Core.Option.{some}
use lib.ListN.{get_elem?}
use Rattle.shared_seats.specs.NotedViews.{bare_view, split_from, split_off, joined_with, IsKnown, AreKnown}
use Rattle.shared_seats.specs.Standings.{OfLive}
use Rattle.shared_seats.specs.declared.noted.Noted.{Noted}
use Rattle.shared_seats.specs.declared.standing.Standing.{Standing}
use Rattle.shared_seats.specs.declared.standing.Standing.TheVariants.{Live, Spent}
use Rattle.shared_seats.proofs.StandingLemmas.{all_at}

module _ {A N L : Type 0} (Holds : N → Type 0) (about : A) where
  pub bare_known : (to_split : ℕ) → AreKnown {L = L} Holds about (Live (bare_view about to_split) ∷ [])
  bare_known to_split =
      All-cons (OfLive (IsKnown Holds about)) (Live (bare_view about to_split)) [] (record { about_is = refl; notes = All-nil Holds }) (All-nil (OfLive (IsKnown Holds about)))

  module _ (seats : List (Standing (Noted A N L))) (are : AreKnown Holds about seats) (seat : ℕ) (view : Noted A N L) (at : get_elem? seats seat ≡ some (Live view)) where
    pub known_at : IsKnown Holds about view
    known_at = all_at (OfLive (IsKnown Holds about)) seats seat (Live view) at are

    pub split_known : AreKnown Holds about (set seats seat (Live (split_from view)) ++ Live (split_off view) ∷ [])
    split_known =
        All-push (OfLive (IsKnown Holds about)) (set seats seat (Live (split_from view))) (Live (split_off view))
        (All-set (OfLive (IsKnown Holds about)) seats seat (Live (split_from view)) (record { about_is = known_at.about_is; notes = known_at.notes }) are)
        (record { about_is = known_at.about_is; notes = All-nil Holds })

    pub join_known : (other : ℕ) (joining : Noted A N L) → get_elem? seats other ≡ some (Live joining) → AreKnown Holds about (set (set seats seat (Live (joined_with view joining))) other Spent)
    join_known other joining there =
        let its = all_at (OfLive (IsKnown Holds about)) seats other (Live joining) there are in
        All-set (OfLive (IsKnown Holds about)) (set seats seat (Live (joined_with view joining))) other Spent tt
        (All-set (OfLive (IsKnown Holds about)) seats seat (Live (joined_with view joining))
        (record { about_is = known_at.about_is; notes = All-append Holds view.notes joining.notes known_at.notes its.notes }) are)

    -- a step after which each note still holds, in another sense perhaps, and the seat has more notes that do
    module _ (Later : N → Type 0) (still : (note : N) → Holds note → Later note) where
      notes_later : (notes : List N) → All Holds notes → All Later notes
      notes_later notes all k d lt = still (get_or notes k d) (all k d lt)

      later : (standing : Standing (Noted A N L)) → OfLive (IsKnown Holds about) standing → OfLive (IsKnown Later about) standing
      later (Live view) known = record { about_is = known.about_is; notes = notes_later view.notes known.notes }
      later Spent known = tt

      pub step_known : (after : Noted A N L) → after.about ≡ view.about → (notes : List N) → after.notes ≡ view.notes ++ notes → All Later notes → AreKnown Later about (set seats seat (Live after))
      step_known after same notes notes_are hold =
          All-set (OfLive (IsKnown Later about)) seats seat (Live after)
          (record {
            about_is = same ∙ known_at.about_is;
            notes = subst (All Later) (sym notes_are) (All-append Later view.notes notes (notes_later view.notes known_at.notes) hold);
          })
          (λ k d lt. later (get_or seats k d) (are k d lt))
