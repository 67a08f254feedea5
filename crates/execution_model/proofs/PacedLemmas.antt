-- The moments so far of every state that an execution reaches keep to what was made.
use Rattle.std.proofs.Common.{◌≡◌, ◌≢◌, ◌⊎◌, ℕ, zero, suc, ◌+◌, ◌<◌, ◌≤◌, ℤ, true, false, List, [], ◌∷◌, map, length, get_or, Option, Some, None, Ok, Err, is_some, refl, ap, sym, subst, ◌∙◌, inl, inr, arith}
use Rattle.std.specs.Prelude.{◌||◌, ◌==◌, slice_get, unsigned_abs}
use Rattle.std.specs.List.{Contains, list_all}
use Rattle.std.specs.Option.{option_map_or}
use Rattle.std.proofs.lemmas.Bool.{cases_Bool, and_parts, and_from, or_cases, or_left, or_right, eqb-true}
use Rattle.std.proofs.lemmas.Bool.Decides.{nat_tests}
use Rattle.std.proofs.lemmas.Option.{none-some, same_Some}
use Rattle.net_model.specs.declared.ids.PointId.{PointId}
use Rattle.net_model.specs.declared.ids.LinkId.{LinkId}
use Rattle.net_model.specs.declared.part.Link.{Link}
use Rattle.dispatch_net.specs.declared.dispatch.Conditions.{Conditions}
use Rattle.dispatch_net.specs.Dispatchable.{conditions_at, no_conditions}
use Rattle.net_model.specs.Moments.{Moments, moment_of}
use Rattle.execution_model.specs.Execution.{Setting, has_come, has_gone_by, link_to, meets_bound, meets_wait_for, meets_wait, meets, acted, time_runs, points_of}
use Rattle.execution_model.specs.Feeds.{started, completed_at, refusal_of, completions_taken}
use Rattle.execution_model.specs.Timely.{CompletesInTime}
use Rattle.execution_model.specs.declared.feed_answers.Why.{Why}
use Rattle.execution_model.proofs.PlaceLemmas.{gone_by, from_gone_by}
use Rattle.execution_model.proofs.CutLemmas.{came}
use Rattle.execution_model.proofs.MomentLemmas.{length-acted, acted_keeps, acted_from, due_parts, length-completed_at, completed_keeps, moment_of_other, moment_completed, within_from_some}
use Rattle.execution_model.proofs.TimelyLemmas.{in_time_from}
use Rattle.execution_model.specs.Paced.{IsRankedNetwork, ArePaced}
use Rattle.dispatch_net.proofs.SlimLists.{list_passes, passes_each}

-- later moments know what earlier ones did
abbrev pub Keeps : (before after : Moments) → Type 0
Keeps before after = (point : PointId) (m : ℕ) → moment_of before point ≡ Some m → moment_of after point ≡ Some m

-- so what was met stays met, and later on what asks for no more is met too
module _ (before after : Moments) (keeps : Keeps before after) (t u : ℕ) (later : t ≤ u) (n k : ℤ) (no_more : unsigned_abs k ≤ unsigned_abs n) where
  pub gone_later : (point : PointId) → has_gone_by before t point n ≡ true → has_gone_by after u point k ≡ true
  gone_later point gone = let (m, is, within) = from_gone_by before t point n gone in gone_by after u point k m (keeps point m is) (omega (arith, within, later, no_more))

  come_later : (point : PointId) → has_come before point ≡ true → has_come after point ≡ true
  come_later point come = let (m, is) = came before point come in ap is_some (keeps point m is)

  pub wait_for_later : (link : Link) → meets_wait_for before t n link ≡ true → meets_wait_for after u k link ≡ true
  wait_for_later link met =
      let (is_activated, ends) = and_parts (has_come before link.from) (has_come before link.to || has_gone_by before t link.from n) met in
      and_from (has_come after link.from) (has_come after link.to || has_gone_by after u link.from k) (come_later link.from is_activated)
      (elim (or_cases (has_come before link.to) (has_gone_by before t link.from n) ends) [
        | inl come ↦ or_left (has_come after link.to) (has_gone_by after u link.from k) (come_later link.to come)
        | inr gone ↦ or_right (has_come after link.to) (has_gone_by after u link.from k) (gone_later link.from gone)
      ])

module _ (setting : Setting) (before after : Moments) (keeps : Keeps before after) (t : ℕ) where
  wait_later : (wait : LinkId × ℤ) → meets_wait setting before t wait ≡ true → meets_wait setting after t wait ≡ true
  wait_later wait met = by (slice_get setting.links wait.0.0) met
    where
      by : (o : Option Link) → option_map_or (meets_wait_for before t wait.1) o false ≡ true → option_map_or (meets_wait_for after t wait.1) o false ≡ true
      by None met = met
      by (Some link) met = wait_for_later before after keeps t t (omega arith) wait.1 wait.1 (omega arith) link met

  pub meets_later : (c : Conditions) → meets setting before t c ≡ true → meets setting after t c ≡ true
  meets_later c met =
      let (bounds, waits) = and_parts (list_all (meets_bound before t) c.lower_bounds) (list_all (meets_wait setting before t) c.waits) met in
      and_from (list_all (meets_bound after t) c.lower_bounds) (list_all (meets_wait setting after t) c.waits)
      (list_passes (meets_bound after t) c.lower_bounds (λ bound among. gone_later before after keeps t t (omega arith) bound.1 bound.1 (omega arith) bound.0 (passes_each (meets_bound before t) c.lower_bounds bound bounds among)))
      (list_passes (meets_wait setting after t) c.waits (λ wait among. wait_later wait (passes_each (meets_wait setting before t) c.waits wait waits among)))

pub none_yet : (points : List PointId) (k : ℕ) → get_or (map (λ (p : PointId). let none : Option ℕ = None in none) points) k None ≡ None
none_yet [] k = refl
none_yet (p ∷ ps) zero = refl
none_yet (p ∷ ps) (suc k) = none_yet ps k

module _ (setting : Setting) (rank : PointId → ℕ) (ranked : IsRankedNetwork setting rank) where
  pub started_paced : ArePaced setting (started setting).moments
  started_paced = record {
    executed = λ point moment is. absurd (none-some moment (sym (none_yet (points_of setting) point.0) ∙ is));
    completed = λ link moment among is. absurd (none-some moment (sym (none_yet (points_of setting) link.to.0) ∙ is));
  }

  module _ (moments : Moments) (paced : ArePaced setting moments) (long : length moments ≡ length setting.dispatch) where
    pub acted_paced : (t : ℕ) → ArePaced setting (acted setting moments t)
    acted_paced t = record { executed = executed; completed = completed }
      where
        executed : (point : PointId) (moment : ℕ) → moment_of (acted setting moments t) point ≡ Some moment
            → meets setting (acted setting moments t) moment (conditions_at setting.dispatch point) ≡ true
        executed point moment is =
            meets_later setting moments (acted setting moments t) (acted_keeps setting moments t long) moment (conditions_at setting.dispatch point)
            (elim (acted_from setting moments t long point moment is) [
              | inl before ↦ paced.executed point moment before
              | inr now ↦ subst (λ m. meets setting moments m (conditions_at setting.dispatch point) ≡ true) (sym now.0) (due_parts setting moments t point now.1).2
            ])

        completed : (link : Link) (moment : ℕ) → Contains setting.links link → moment_of (acted setting moments t) link.to ≡ Some moment
            → (activated : ℕ) × (moment_of (acted setting moments t) link.from ≡ Some activated) × (activated + unsigned_abs link.low ≤ moment)
        completed link moment among is =
            elim (acted_from setting moments t long link.to moment is) [
              | inl before ↦ (let (a, a_is, late) = paced.completed link moment among before in (a, acted_keeps setting moments t long link.from a a_is, late))
              | inr now ↦ absurd (none-some link (sym (due_parts setting moments t link.to now.1).0 ∙ ranked.one_link link among))
            ]

    pub completed_paced : (moment : ℕ) (point : PointId) → refusal_of setting moments moment point ≡ None → ArePaced setting (completed_at moments moment point)
    completed_paced moment point free = by (in_time_from setting moments moment point free)
      where
        same_number : (other : PointId) → other.0 == point.0 ≡ true → other ≡ point
        same_number other same = ap (λ (k : ℕ). record { 0 = k }) (eqb-true other.0 point.0 same)

        apart : (other : PointId) → other.0 == point.0 ≡ false → other.0 ≢ point.0
        apart other differs = grind (arith, nat_tests)

        at_point : (m : ℕ) → moment_of moments point ≡ None → moment_of (completed_at moments moment point) point ≡ Some m → m ≡ moment
        at_point m new is =
            let inside : point.0 < length (completed_at moments moment point) = within_from_some (completed_at moments moment point) point m is in
            same_Some m moment (sym is ∙ moment_completed moments moment point (omega (arith, inside, length-completed_at moments moment point)))

        by : CompletesInTime setting moments moment point → ArePaced setting (completed_at moments moment point)
        by timely = record { executed = λ p m is. executed p m is (cases_Bool (p.0 == point.0)); completed = λ link m among is. completed link m among is (cases_Bool (link.to.0 == point.0)) }
          where
            keeps : Keeps moments (completed_at moments moment point)
            keeps = completed_keeps moments moment point timely.is_open

            executed : (p : PointId) (m : ℕ) → moment_of (completed_at moments moment point) p ≡ Some m → (p.0 == point.0 ≡ true) ⊎ (p.0 == point.0 ≡ false)
                → meets setting (completed_at moments moment point) m (conditions_at setting.dispatch p) ≡ true
            executed p m is (inl same) =
                let none : conditions_at setting.dispatch p ≡ no_conditions = ap (conditions_at setting.dispatch) (same_number p same) ∙ ranked.contingent point timely.link timely.ends in
                ap (meets setting (completed_at moments moment point) m) none
            executed p m is (inr other) =
                meets_later setting moments (completed_at moments moment point) keeps m (conditions_at setting.dispatch p)
                (paced.executed p m (sym (moment_of_other moments moment point p (apart p other)) ∙ is))

            completed : (link : Link) (m : ℕ) → Contains setting.links link → moment_of (completed_at moments moment point) link.to ≡ Some m → (link.to.0 == point.0 ≡ true) ⊎ (link.to.0 == point.0 ≡ false)
                → (activated : ℕ) × (moment_of (completed_at moments moment point) link.from ≡ Some activated) × (activated + unsigned_abs link.low ≤ m)
            completed link m among is (inl same) =
                let its : link_to setting point ≡ Some link = ap (link_to setting) (sym (same_number link.to same)) ∙ ranked.one_link link among in
                let one : timely.link ≡ link = same_Some timely.link link (sym timely.ends ∙ its) in
                let active : moment_of moments link.from ≡ Some timely.activated = subst (λ (l : Link). moment_of moments l.from ≡ Some timely.activated) one timely.active in
                let soon : timely.activated + unsigned_abs link.low ≤ moment = subst (λ (l : Link). timely.activated + unsigned_abs l.low ≤ moment) one timely.not_too_soon in
                let when : m ≡ moment = at_point m timely.is_open (subst (λ (p : PointId). moment_of (completed_at moments moment point) p ≡ Some m) (same_number link.to same) is) in
                (timely.activated, keeps link.from timely.activated active, omega (arith, soon, when))
            completed link m among is (inr other) =
                let (a, a_is, late) = paced.completed link m among (sym (moment_of_other moments moment point link.to (apart link.to other)) ∙ is) in
                (a, keeps link.from a a_is, late)

  pub time_paced : (count : ℕ) (moments : Moments) (t : ℕ) → ArePaced setting moments → length moments ≡ length setting.dispatch → ArePaced setting (time_runs setting moments t count)
  time_paced zero moments t paced long = paced
  time_paced (suc count) moments t paced long = time_paced count (acted setting moments t) (suc t) (acted_paced moments paced long t) (length-acted setting moments t)

  -- paced moments, as many as there are points
  abbrev pub PacedWhole : Moments → Type 0
  PacedWhole moments = ArePaced setting moments × (length moments ≡ length setting.dispatch)

  pub taken_paced : (listed : List PointId) (moments after : Moments) (moment : ℕ) → ArePaced setting moments → length moments ≡ length setting.dispatch
      → completions_taken setting moments moment listed ≡ Ok after → PacedWhole after
  taken_paced [] moments after moment paced long took = let same : moments ≡ after = cc in (subst (ArePaced setting) same paced, ap (λ (m : Moments). length m) (sym same) ∙ long)
  taken_paced (point ∷ others) moments after moment paced long took =
      by (refusal_of setting moments moment point) refl took
      (λ here now. taken_paced others (completed_at moments moment point) after moment now (length-completed_at moments moment point ∙ long) here)
    where
      by : (o : Option Why) → refusal_of setting moments moment point ≡ o → option_map_or Err o (completions_taken setting (completed_at moments moment point) moment others) ≡ Ok after
          → (completions_taken setting (completed_at moments moment point) moment others ≡ Ok after → ArePaced setting (completed_at moments moment point) → PacedWhole after)
          → PacedWhole after
      by None free took rest = rest took (completed_paced moments paced long moment point free)
      by (Some why) refused took rest = absurd cc
