-- The end of a desk: what its words say, and the execution of the stream that they give.
use Rattle.std.proofs.Common.{◌≡◌, ◌≢◌, ℕ, zero, suc, ◌+◌, ◌<◌, ◌⊎◌, pos, true, false, List, [], ◌∷◌, length, get_or, map, Option, Some, None, refl, ap, sym, subst, ◌∙◌, inl, inr, arith}
use Rattle.std.specs.Prelude.{slice_get}
use Rattle.std.proofs.lemmas.Bool.{cases_eq}
use Rattle.std.proofs.lemmas.Option.{same_Some, slice_get_within, slice_get-get_or}
use Rattle.std.proofs.lemmas.List.{get_or-map, length-map}
use mathlib.Core.Option.{some, some-injective, some-ne-none}
use lib.ListN.{get_elem?}
use Rattle.shared_seats.specs.Steps.{IsLast}
use Rattle.shared_seats.specs.declared.standing.Standing.{Standing}
use Rattle.net_model.specs.Moments.{Moments, moment_of}
use Rattle.net_model.specs.Network.{Plan, IsPlan}
use Rattle.net_model.specs.declared.ids.LinkId.{LinkId}
use Rattle.net_model.specs.declared.ids.PointId.{PointId}
use Rattle.net_model.specs.declared.part.Link.{Link}
use Rattle.strategy_model.proofs.KindLemmas.{Ending}
use Rattle.strategy_model.specs.Situations.{moment_in}
use Rattle.execution_model.specs.Earliest.{FinishesAreEarliest}
use Rattle.execution_model.specs.Feeds.{Execution}
use Rattle.execution_model.specs.declared.feed_answers.Finished.TheVariants as finished
use Rattle.execution_model.proofs.PlaceLemmas.{ending_point}
use Rattle.sensor_desk.specs.Comparison.{Agrees, IsAgreed, IsClosing, AreCompared, stream_of, ExecutesWhole, Closes}
use Rattle.sensor_desk.specs.DeskHistory.{Entries, moment_at}
use Rattle.sensor_desk.specs.DeskRule.{IsReachedBy}
use Rattle.sensor_desk.specs.Views.{View}
use Rattle.sensor_desk.specs.Words.{held, place_of_word}
use Rattle.sensor_desk.specs.declared.end.Closing.{Closing}
use Rattle.sensor_desk.specs.declared.end.Closing.TheVariants.{Agreed, Differs}
use Rattle.sensor_desk.specs.declared.view.About.{About}
use Rattle.sensor_desk.proofs.RuleLemmas.{held_word, word_at, past_of}
use Rattle.sensor_desk.proofs.StreamLemmas.{shows}

-- a word that is read
pub read_at : (words : List ℕ) (place number word : ℕ) → place ≡ number → get_elem? words place ≡ some word → get_or words number 0 ≡ word
read_at words place number word same at = by words number (subst (λ (n : ℕ). get_elem? words n ≡ some word) same at)
  where
    by : (words : List ℕ) (n : ℕ) → get_elem? words n ≡ some word → get_or words n 0 ≡ word
    by [] n found = absurd (some-ne-none word (sym found))
    by (x ∷ xs) zero found = some-injective x word found
    by (x ∷ xs) (suc n) found = by xs n found

-- if all is agreed after a whole execution, the words give its stream
module _ (net : Plan) (plan : IsPlan net) (entries : Entries) (execution : Execution) (agreed : (name : LinkId) → name.0 < length net.links → Agrees net execution.moments (moment_at entries) name)
    (count : length execution.moments ≡ length net.points) (law : FinishesAreEarliest) where
  pub executes : ExecutesWhole net execution (stream_of net entries)
  executes table order listings before dispatched fed finish =
      let whole = law before finished.Complete execution finish net table order listings dispatched fed in
      let (situation, fits) = whole.answered.0 refl in
      let keeps = whole.keeps refl situation fits.schedule fits.earliest fits.shows in
      let moments : execution.moments ≡ map Some fits.schedule = keeps.2.moments in
      let long : length fits.schedule ≡ length net.points = sym (length-map fits.schedule Some) ∙ (ap (λ (ms : Moments). length ms) (sym moments) ∙ count) in
      let are : (point : PointId) (ending : Ending net point) → moment_at entries ending.name ≡ Some (moment_in fits.schedule point) =
      λ point ending.
      agreed ending.name (inside ending) ending.link ending.declared
      ∙ (ap (λ (p : PointId). moment_of execution.moments p) ending.ends
      ∙ (ap (λ (ms : Moments). moment_of ms point) moments
      ∙ get_or-map Some fits.schedule point.0 0 None (subst (λ (n : ℕ). point.0 < n) (sym long) (ending_point net plan point ending)))) in
      record {
        situation = situation;
        fits = record { schedule = fits.schedule; earliest = fits.earliest; shows = shows net plan entries fits.schedule are };
        fixed = moments;
      }
    where
      inside : {point : PointId} (ending : Ending net point) → ending.name.0 < length net.links
      inside ending = slice_get_within net.links ending.name.0 ending.link ending.declared

-- ---- the words at the end
module _ (about : About) (words : List ℕ) (seats : List (Standing View)) (reached : IsReachedBy about words seats) where
  word_is : (name : LinkId) → held (get_or words (place_of_word name) 0) ≡ moment_at reached.entries name
  word_is name =
      ap (λ (ws : List ℕ). held (get_or ws (place_of_word name) 0)) reached.words_are
      ∙ (ap held (word_at reached.entries name) ∙ held_word (moment_at reached.entries name))

  pub closing_of : (net : Plan) (moments : Moments) (closing : Closing) → AreCompared net moments words closing → IsClosing net moments (moment_at reached.entries) closing
  closing_of net moments Agreed all = λ name inside link at. sym (word_is name) ∙ all name inside link at
  closing_of net moments (Differs first) (all, apart) = (
    (λ name before link there. sym (word_is name) ∙ all name before link there),
    record { link = apart.link; at = apart.at; other = λ same. apart.other (word_is first ∙ same) },
  )

pub closes : (about : About) (words : List ℕ) (view : View) → IsLast (IsReachedBy about) view words → (net : Plan) → IsPlan net → (execution : Execution) (closing : Closing) → AreCompared net execution.moments words closing
    → length execution.moments ≡ length net.points → FinishesAreEarliest → Closes net view execution closing
closes about words view left net plan execution closing compared count law =
    let answer = closing_of about words left.seats left.rule net execution.moments closing compared in record {
      entries = left.rule.entries;
      past = past_of about words left.seats left.rule left.seat view left.at;
      answer = answer;
      executes = λ is. executes net plan left.rule.entries execution (subst (λ (c : Closing). IsClosing net execution.moments (moment_at left.rule.entries) c) is answer) count law;
    }

-- ---- one link after another
module _ (net : Plan) (moments : Moments) (words : List ℕ) where
  abbrev word_shows : LinkId → Option ℕ
  word_shows name = held (get_or words (place_of_word name) 0)

  abbrev pub AgreeBelow : ℕ → Type 0
  AgreeBelow n = (name : LinkId) → name.0 < n → Agrees net moments word_shows name

  pub agree_none : AgreeBelow 0
  agree_none name less = absurd (omega arith)

  module _ (n : ℕ) (link : Link) (at : slice_get net.links n ≡ Some link) (word : ℕ) (read : get_or words (suc n) 0 ≡ word) where
    pub agree_more : AgreeBelow n → held word ≡ moment_of moments link.to → AgreeBelow (n + 1)
    agree_more below same name less other there = by (cases_eq name.0 n)
      where
        by : (name.0 ≡ n) ⊎ (name.0 ≢ n) → word_shows name ≡ moment_of moments other.to
        by (inl is) =
            let one : other ≡ link = same_Some other link (sym there ∙ (ap (λ (k : ℕ). slice_get net.links k) is ∙ at)) in
            ap (λ (k : ℕ). held (get_or words (suc k) 0)) is ∙ (ap held read ∙ (same ∙ ap (λ (l : Link). moment_of moments l.to) (sym one)))
        by (inr apart) = below name (omega arith) other there

    pub differs_here : AgreeBelow n → (first : LinkId) → first.0 ≡ n → held word ≢ moment_of moments link.to → IsClosing net moments word_shows (Differs first)
    differs_here below first is other = (
      (λ name less. below name (subst (λ (k : ℕ). name.0 < k) is less)),
      record {
        link = link;
        at = ap (λ (k : ℕ). slice_get net.links k) is ∙ at;
        other = λ same. other (sym (ap (λ (k : ℕ). held (get_or words (suc k) 0)) is ∙ ap held read) ∙ same);
      },
    )

  -- by the test of one link
  module _ (n : ℕ) (inside : n < length net.links) where
    abbrev here : Link
    here = get_or net.links n (record { from = record { 0 = 0 }; low = pos 0; high = pos 0; to = record { 0 = 0 } })

    stands : slice_get net.links n ≡ Some here
    stands = slice_get-get_or net.links n (record { from = record { 0 = 0 }; low = pos 0; high = pos 0; to = record { 0 = 0 } }) inside

    pub agreed_more : AgreeBelow n → IsAgreed net moments words n true → AgreeBelow (n + 1)
    agreed_more below agrees = agree_more n here stands (get_or words (suc n) 0) refl below (agrees here stands)

    pub differs_first : AgreeBelow n → IsAgreed net moments words n false → AreCompared net moments words (Differs (record { 0 = n }))
    differs_first below agrees = differs_here n here stands (get_or words (suc n) 0) refl below (record { 0 = n }) refl (agrees here stands)
