-- Each step of a desk keeps the rule: one word and one seat change, and the history is one step longer.
use Rattle.std.proofs.Common.{◌≡◌, ◌≢◌, ℕ, zero, suc, ◌+◌, ◌-◌, ◌<◌, ◌⊎◌, List, [], ◌∷◌, ◌++◌, length, get_or, set, map, eqb, eq-eqb, ne_eqb, Bool, cond, Option, Some, None, refl, ap, sym, subst, ◌∙◌, inl, inr, arith}
use Rattle.std.specs.List.{All}
use Rattle.std.proofs.lemmas.Bool.{cases_eq}
use Rattle.std.proofs.lemmas.List.{map-set}
use Rattle.std.proofs.lemmas.List.Elements.{All-nil, All-push}
use Rattle.std.proofs.Math.ListN as lists
use mathlib.Core.Option.{some}
use lib.ListN.{get_elem?}
use prog.Atomic.{either}
use Rattle.atomic_table.proofs.Lists.{exchanged}
use Rattle.shared_seats.specs.NotedViews.{AreKnown}
use Rattle.shared_seats.specs.declared.standing.Standing.{Standing}
use Rattle.shared_seats.specs.declared.standing.Standing.TheVariants.{Live}
use Rattle.shared_seats.proofs.NotedLemmas.{known_at}
use Rattle.net_model.specs.declared.ids.LinkId.{LinkId}
use Rattle.sensor_desk.specs.DeskHistory.{Entries, DeskStep, DeskHistory, steps, moment_at, moment_standing_after, noted_by, stepped}
use Rattle.sensor_desk.specs.DeskRule.{NoteStands, IsPastOfDesk, IsReachedBy}
use Rattle.sensor_desk.specs.Views.{View, notes_of}
use Rattle.sensor_desk.specs.Words.{moment_word, held, words_of_entries, place_of_word}
use Rattle.sensor_desk.specs.declared.view.About.{About}
use Rattle.sensor_desk.specs.declared.view.Note.{Note}
use Rattle.sensor_desk.proofs.HistoryLemmas.{here, stands_on, history_sized}

-- ---- words
pub held_none : (word : ℕ) → word ≡ 0 → held word ≡ None
held_none word is = ap (λ (b : Bool). cond b None (Some (word - 1))) (eq-eqb word 0 is)

pub held_some : (word : ℕ) → word ≢ 0 → held word ≡ Some (word - 1)
held_some word other = ap (λ (b : Bool). cond b None (Some (word - 1))) (ne_eqb word 0 other)

pub held_word : (stands : Option ℕ) → held (moment_word stands) ≡ stands
held_word None = refl
held_word (Some moment) = held_some (moment + 1) (λ e. omega arith) ∙ ap Some (omega arith)

pub word_held : (word : ℕ) → moment_word (held word) ≡ word
word_held word = by (cases_eq word 0)
  where
    back : (n : ℕ) → n ≢ 0 → n - 1 + 1 ≡ n
    back zero other = absurd (other refl)
    back (suc n) other = omega arith

    by : (word ≡ 0) ⊎ (word ≢ 0) → moment_word (held word) ≡ word
    by (inl is) = ap moment_word (held_none word is) ∙ sym is
    by (inr other) = ap moment_word (held_some word other) ∙ back word other

-- the word of a link
pub word_at : (entries : Entries) (link : LinkId) → get_or (words_of_entries entries) (place_of_word link) 0 ≡ moment_word (moment_at entries link)
word_at entries link = lists.get_or-map moment_word entries link.0 None

pub words_after : (entries : Entries) (step : DeskStep) (word : ℕ) → word ≡ moment_word (noted_by step) → set (words_of_entries entries) (place_of_word step.link) word ≡ words_of_entries (stepped entries step)
words_after entries step word is = ap (λ (n : ℕ). 0 ∷ set (map moment_word entries) step.link.0 n) is ∙ ap (λ (l : List ℕ). 0 ∷ l) (sym (map-set moment_word entries step.link.0 (noted_by step)))

-- the word after a post, and after a load
pub word_posted : (word moment : ℕ) → either (eqb word 0) (moment + 1) word ≡ moment_word (moment_standing_after (held word) (Some moment))
word_posted word moment =
    exchanged word 0 (moment + 1) (λ (n : ℕ). n ≡ moment_word (moment_standing_after (held word) (Some moment)))
    (λ is. ap (λ (o : Option ℕ). moment_word (moment_standing_after o (Some moment))) (sym (held_none word is)))
    (λ other. sym (word_held word) ∙ (ap moment_word (held_some word other) ∙ ap (λ (o : Option ℕ). moment_word (moment_standing_after o (Some moment))) (sym (held_some word other))))

pub stands_still : (stands : Option ℕ) → moment_standing_after stands None ≡ stands
stands_still None = refl
stands_still (Some moment) = refl

-- ---- a step at the word of a link
module _ (about : About) (words : List ℕ) (seats : List (Standing View)) (reached : IsReachedBy about words seats) (seat : ℕ) (link : LinkId) (is : link.0 < length about.net.value.links) where
  abbrev pub found : ℕ
  found = get_or words (place_of_word link) 0

  pub finds : held found ≡ moment_at reached.entries link
  finds = ap (λ (ws : List ℕ). held (get_or ws (place_of_word link) 0)) reached.words_are ∙ (ap held (word_at reached.entries link) ∙ held_word (moment_at reached.entries link))

  module _ (post_moment : Option ℕ) where
    abbrev pub step : DeskStep
    step = record { seat = seat; link = link; post_moment = post_moment; found = held found }

    within : link.0 < length reached.entries
    within = subst (λ (n : ℕ). link.0 < n) (sym (history_sized (length about.net.value.links) reached.steps reached.entries reached.history)) is

    pub note_on : (note : Note) → NoteStands reached.entries note → NoteStands (stepped reached.entries step) note
    note_on note stands = stands_on reached.entries step within finds note.link note.moment stands

    -- what stands for the link after the step, as a note
    pub noted_stands : (stands : Option ℕ) → noted_by step ≡ stands → All (NoteStands (stepped reached.entries step)) (notes_of link stands)
    noted_stands None is_none = All-nil (NoteStands (stepped reached.entries step))
    noted_stands (Some moment) is_some =
        All-push (NoteStands (stepped reached.entries step)) [] (record { link = link; moment = moment }) (All-nil (NoteStands (stepped reached.entries step))) (here reached.entries step within ∙ is_some)

    pub reached_after : (word : ℕ) → word ≡ moment_word (noted_by step) → (after : List (Standing View)) → AreKnown (NoteStands (stepped reached.entries step)) about after
        → IsReachedBy about (set words (place_of_word link) word) after
    reached_after word noted after known = record {
      steps = reached.steps ++ step ∷ [];
      entries = stepped reached.entries step;
      history = steps reached.steps (reached.steps ++ step ∷ []) reached.entries (stepped reached.entries step) step reached.history is finds refl refl;
      words_are = ap (λ (ws : List ℕ). set ws (place_of_word link) word) reached.words_are ∙ words_after reached.entries step word noted;
      known = known;
    }

-- what a seat knows of the past
pub past_of : (about : About) (words : List ℕ) (seats : List (Standing View)) (reached : IsReachedBy about words seats) (seat : ℕ) (view : View) → get_elem? seats seat ≡ some (Live view) → IsPastOfDesk view reached.entries
past_of about words seats reached seat view at =
    let known = known_at (NoteStands reached.entries) about seats reached.known seat view at in record {
      steps = reached.steps;
      history = subst (λ (a : About). DeskHistory (length a.net.value.links) reached.steps reached.entries) (sym known.about_is) reached.history;
      notes = known.notes;
    }
