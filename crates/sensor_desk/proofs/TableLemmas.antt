-- The steps of a desk keep its rule, and what they note.
use Rattle.std.proofs.Common.{◌≡◌, ℕ, ◌+◌, ◌-◌, ◌<◌, ◌⊎◌, List, [], ◌++◌, length, set, Option, Some, None, refl, ap, sym, subst, ◌∙◌, inl, inr, arith}
use Rattle.std.specs.Prelude.{◌==◌, if◌then◌else◌}
use Rattle.std.specs.List.{All}
use Rattle.std.proofs.lemmas.List.{append-nil}
use Rattle.std.proofs.lemmas.List.Elements.{All-nil}
use Rattle.net_model.specs.declared.ids.LinkId.{LinkId}
use Rattle.shared_seats.specs.NotedViews.{AreKnown, count_to_split, split_from, split_off, joined_with}
use Rattle.shared_seats.specs.Steps.{MayStep, MaySplit, MayJoin}
use Rattle.shared_seats.specs.declared.standing.Standing.{Standing}
use Rattle.shared_seats.specs.declared.standing.Standing.TheVariants.{Live}
use Rattle.shared_seats.proofs.NotedLemmas.{split_known, join_known, step_known}
use Rattle.sensor_desk.specs.DeskHistory.{Entries, moment_standing_after, stepped}
use Rattle.sensor_desk.specs.DeskRule.{NoteStands, IsReachedBy}
use Rattle.sensor_desk.specs.Steps.{StepFound, posting, reading, looking}
use Rattle.sensor_desk.specs.Views.{View, posted, read, looked, notes_of}
use Rattle.sensor_desk.specs.Words.{held, moment_word, place_of_word}
use Rattle.sensor_desk.specs.declared.view.About.{About}
use Rattle.sensor_desk.specs.declared.view.Note.{Note}
use Rattle.sensor_desk.proofs.RuleLemmas as rule
use Rattle.sensor_desk.proofs.RuleLemmas.{finds, found, note_on, word_held, word_posted, stands_still, reached_after, noted_stands, past_of}

-- the notes that a step adds: none, or that of what it found to stand
abbrev AreNotes : LinkId → Option ℕ → (ℕ → List Note) → Type 0
AreNotes link post_moment notes = ((word : ℕ) → notes word ≡ []) ⊎ ((word : ℕ) → notes word ≡ notes_of link (moment_standing_after (held word) post_moment))

-- ---- a step at the word of a link, which becomes that of what stands after the step
module _ (about : About) (view : View) (link : LinkId) (is : link.0 < length about.net.value.links) where
  module _ (post_moment : Option ℕ) (word_after : ℕ → ℕ) (words_are : (word : ℕ) → word_after word ≡ moment_word (moment_standing_after (held word) post_moment)) (after_of : View → LinkId → ℕ → View)
      (same : (word : ℕ) → (after_of view link word).about ≡ view.about) (counts : (word : ℕ) → count_to_split (after_of view link word) ≡ count_to_split view)
      (notes : ℕ → List Note) (adds : (word : ℕ) → (after_of view link word).notes ≡ view.notes ++ notes word) (are : AreNotes link post_moment notes) where
    stand : (words : List ℕ) (seats : List (Standing View)) (reached : IsReachedBy about words seats) (seat : ℕ) → AreNotes link post_moment notes
        → All (NoteStands (stepped reached.entries (rule.step about words seats reached seat link is post_moment))) (notes (found about words seats reached seat link is))
    stand words seats reached seat (inl none_added) =
        let now : Entries = stepped reached.entries (rule.step about words seats reached seat link is post_moment) in
        subst (All (NoteStands now)) (sym (none_added (found about words seats reached seat link is))) (All-nil (NoteStands now))
    stand words seats reached seat (inr one_added) =
        let word : ℕ = found about words seats reached seat link is in
        let now : Entries = stepped reached.entries (rule.step about words seats reached seat link is post_moment) in
        subst (All (NoteStands now)) (sym (one_added word)) (noted_stands about words seats reached seat link is post_moment (moment_standing_after (held word) post_moment) refl)

    allowed : MayStep (IsReachedBy about) count_to_split (place_of_word link) word_after view (λ word after. StepFound (λ v l. after_of v l word) (place_of_word link) view word after)
    allowed words seats seat reached at small =
        let word : ℕ = found about words seats reached seat link is in
        let now : Entries = stepped reached.entries (rule.step about words seats reached seat link is post_moment) in (
          after_of view link word,
          reached_after about words seats reached seat link is post_moment (word_after word) (words_are word) (set seats seat (Live (after_of view link word)))
              (step_known (NoteStands reached.entries) about seats reached.known seat view at (NoteStands now) (note_on about words seats reached seat link is post_moment)
              (after_of view link word) (same word) (notes word) (adds word) (stand words seats reached seat are)),
          counts word,
          record {
            link = link;
            at = refl;
            found = record { entries = reached.entries; past = past_of about words seats reached seat view at; is = finds about words seats reached seat link is };
            is = refl;
          },
        )

    pub allows : (told : About) → told ≡ about → (place : ℕ) → place ≡ place_of_word link
        → MayStep (IsReachedBy told) count_to_split place word_after view (λ word after. StepFound (λ v l. after_of v l word) place view word after)
    allows told same_about place at =
        subst (λ (p : About × ℕ). MayStep (IsReachedBy p.0) count_to_split p.1 word_after view (λ word after. StepFound (λ v l. after_of v l word) p.1 view word after)) (λ i. (sym same_about i, sym at i)) allowed

  module _ (told : About) (same : told ≡ about) (place : ℕ) (at : place ≡ place_of_word link) where
    pub posts : (moment : ℕ) → MayStep (IsReachedBy told) count_to_split place (λ word. if word == 0 then moment + 1 else word) view (posting place 0 (moment + 1) view)
    posts moment =
        let given : ℕ = moment + 1 - 1 in
        let back : moment ≡ given = omega arith in
        allows (Some given) (λ word. if word == 0 then moment + 1 else word) (λ word. word_posted word moment ∙ ap (λ (m : ℕ). moment_word (moment_standing_after (held word) (Some m))) back)
        (λ v l word. posted v l word given) (λ word. refl) (λ word. refl) (λ word. notes_of link (moment_standing_after (held word) (Some given))) (λ word. refl) (inr (λ word. refl)) told same place at

    load_words : (word : ℕ) → word ≡ moment_word (moment_standing_after (held word) None)
    load_words word = sym (ap moment_word (stands_still (held word)) ∙ word_held word)

    pub reads : MayStep (IsReachedBy told) count_to_split place (λ word. word) view (reading place 0 0 view)
    reads =
        allows None (λ word. word) load_words (λ v l word. read v l word) (λ word. refl) (λ word. refl) (λ word. notes_of link (held word)) (λ word. refl)
        (inr (λ word. ap (notes_of link) (sym (stands_still (held word))))) told same place at

    pub looks : MayStep (IsReachedBy told) count_to_split place (λ word. word) view (looking place 0 0 view)
    looks =
        allows None (λ word. word) load_words (λ v l word. looked v l word) (λ word. refl) (λ word. refl) (λ word. []) (λ word. sym (append-nil view.notes)) (inl (λ word. refl)) told same place at

-- ---- seats are split and joined
module _ (about : About) where
  same_words : (words : List ℕ) (seats after : List (Standing View)) (reached : IsReachedBy about words seats) → AreKnown (NoteStands reached.entries) about after → IsReachedBy about words after
  same_words words seats after reached known = record { steps = reached.steps; entries = reached.entries; history = reached.history; words_are = reached.words_are; known = known }

  pub splits : (view : View) → MaySplit (IsReachedBy about) view (split_from view) (split_off view)
  splits view words seats seat reached at = same_words words seats _ reached (split_known (NoteStands reached.entries) about seats reached.known seat view at)

  pub joins : (view joining : View) → MayJoin (IsReachedBy about) view joining (joined_with view joining)
  joins view joining words seats seat other reached at there apart =
      same_words words seats _ reached (join_known (NoteStands reached.entries) about seats reached.known seat view at other joining there)
