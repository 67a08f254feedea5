-- What the calls of a desk require and answer, by what their steps note.
use Rattle.std.proofs.Common.{◌≡◌, ℕ, zero, suc, ◌+◌, ◌-◌, List, [], ◌∷◌, map, length, None, refl, ap, subst, ◌∙◌, arith}
use Rattle.std.specs.Prelude.{replicate}
use Rattle.shared_seats.specs.declared.standing.Standing.TheVariants.{Live}
use Rattle.shared_seats.proofs.NotedLemmas.{bare_known}
use Rattle.net_model.specs.declared.ids.LinkId.{LinkId}
use Rattle.sensor_desk.specs.DeskHistory.{opens}
use Rattle.sensor_desk.specs.DeskRule.{NoteStands, IsReachedBy}
use Rattle.sensor_desk.specs.Desks.{DeskSeatSeen, Steps}
use Rattle.sensor_desk.specs.Steps.{IsFoundMoment, StepFound}
use Rattle.sensor_desk.specs.Views.{View, first_view}
use Rattle.sensor_desk.specs.Words.{words_of_entries, moment_word, place_of_word}
use Rattle.sensor_desk.specs.declared.view.About.{About}

-- ---- a desk that was just made
no_words : (n : ℕ) → replicate n 0 ≡ map moment_word (replicate n None)
no_words zero = refl
no_words (suc n) = ap (λ (l : List ℕ). 0 ∷ l) (no_words n)

zeroes : (n : ℕ) → replicate (n + 1) 0 ≡ words_of_entries (replicate n None)
zeroes n =
    let one : n + 1 ≡ suc n = omega arith in
    ap (λ (k : ℕ). replicate k 0) one ∙ ap (λ (l : List ℕ). 0 ∷ l) (no_words n)

pub opens_empty : (about : About) (words : List ℕ) → words ≡ replicate (length about.net.value.links + 1) 0 → IsReachedBy about words (Live (first_view about) ∷ [])
opens_empty about words are = record {
  steps = [];
  entries = replicate (length about.net.value.links) None;
  history = opens (replicate (length about.net.value.links) None) refl;
  words_are = are ∙ zeroes (length about.net.value.links);
  known = bare_known (NoteStands (replicate (length about.net.value.links) None)) about (about.seats - 1);
}

-- ---- a step of a seat: what was noted is of the link whose word it is
module _ (seat : DeskSeatSeen) (link : LinkId) (place : ℕ) (at : place ≡ place_of_word link) where
  module _ (after_of : View → LinkId → View) (word : ℕ) (new : DeskSeatSeen) (table : new.table ≡ seat.table) (noted : StepFound after_of place seat.view word new.view) where
    same_number : noted.link.0 ≡ link.0
    same_number = let one : suc noted.link.0 ≡ suc link.0 = noted.at ∙ at in omega (arith, one)

    same_link : noted.link ≡ link
    same_link = λ i. record { 0 = same_number i }

    view_after : new.view ≡ after_of seat.view link
    view_after = noted.is ∙ ap (after_of seat.view) same_link

    pub step_ends : {X : Type 0} (answer_of : ℕ → X) (later : View → LinkId → ℕ → View) → after_of seat.view link ≡ later seat.view link word → (result : X) → result ≡ answer_of word
        → Steps answer_of later seat new link result
    step_ends answer_of later same result given = record {
      word = word;
      found = subst (λ (l : LinkId). IsFoundMoment seat.view l word) same_link noted.found;
      given = given;
      after_is = λ i. record { table = table i; view = (view_after ∙ same) i };
    }
