-- The acts of an execution that keeps to a schedule are those of the schedule.
use Rattle.std.proofs.Common.{◌≡◌, ℕ, zero, suc, ◌+◌, ◌-◌, ◌≤◌, ◌<◌, Bool, true, false, List, ◌∷◌, ◌++◌, length, map, filter, inl, inr, refl, ap, sym, ◌∙◌, arith}
use Rattle.std.specs.Prelude.{◌&&◌, ◌==◌, if◌then◌else◌}
use Rattle.std.specs.List.{range_with_len}
use Rattle.std.proofs.lemmas.Bool.{cases_order, eq-eqb, ne_eqb}
use Rattle.std.proofs.lemmas.List.{append-nil, append_assoc}
use Rattle.net_model.specs.Network.{Plan, IsPoint, IsExecutable, activation}
use Rattle.net_model.specs.declared.ids.PointId.{PointId}
use Rattle.closure_model.specs.Tables.{Graph}
use Rattle.strategy_model.specs.Situations.{moment_in}
use Rattle.strategy_model.proofs.KindLemmas.{kind, ending_known, none_from_test}
use Rattle.dispatch_net.proofs.ExecutionLemmas.{dispatchable_length}
use Rattle.net_model.specs.Moments.{Moments}
use Rattle.execution_model.specs.Execution.{Setting, is_due, acts_at, acted, acts_while}
use Rattle.execution_model.specs.Feeds.{Execution, next_moment, moments_to, after_feed}
use Rattle.execution_model.specs.Streams.{Listing}
use Rattle.execution_model.specs.Timely.{with_completed}
use Rattle.execution_model.specs.Laws.{setting_of}
use Rattle.execution_model.specs.Acts.{executes_at, scheduled_at, scheduled}
use Rattle.execution_model.specs.declared.feed_answers.Act.{Act}
use Rattle.execution_model.proofs.MomentLemmas.{come_not_due}
use Rattle.execution_model.proofs.CutLemmas.{IsCut, IsSeen, IsRun, is_due_now, not_due_before, never_due}
use Rattle.execution_model.proofs.TimeLemmas.{NoneComes, none_seen, moment_runs}
use Rattle.execution_model.proofs.FittingLemmas.{IsNext, KeepsTo, none_before, seen}

-- ---- lists
abbrev point_numbered : ℕ → PointId
point_numbered k = record { 0 = k }

-- tests that agree at each point keep the same points
same_kept : (p q : PointId → Bool) (a n : ℕ) → ((k : ℕ) → a ≤ k → k < a + n → p (record { 0 = k }) ≡ q (record { 0 = k }))
    → filter p (map (λ k. record { 0 = k }) (range_with_len a n)) ≡ filter q (map (λ k. record { 0 = k }) (range_with_len a n))
same_kept p q a zero same = refl
same_kept p q a (suc n) same =
    let rest = same_kept p q (a + 1) n (λ k from below. same k (omega (arith, from)) (omega (arith, below))) in
    let here : p (record { 0 = a }) ≡ q (record { 0 = a }) = same a (omega arith) (omega arith) in
    let first : PointId = record { 0 = a } in
    (λ i. if here i then first ∷ rest i else rest i)

-- the acts of one more moment stand last
scheduled_on : (net : Plan) (schedule : List ℕ) (t n : ℕ) → scheduled net schedule t (suc n) ≡ scheduled net schedule t n ++ scheduled_at net schedule (t + n)
scheduled_on net schedule t zero =
    let same : t ≡ t + 0 = omega arith in
    append-nil (scheduled_at net schedule t) ∙ ap (scheduled_at net schedule) same
scheduled_on net schedule t (suc n) =
    let same : suc t + n ≡ t + suc n = omega arith in
    ap (λ (acts : List Act). scheduled_at net schedule t ++ acts) (scheduled_on net schedule (suc t) n ∙ ap (λ (m : ℕ). scheduled net schedule (suc t) n ++ scheduled_at net schedule m) same)
    ∙ sym (append_assoc (scheduled_at net schedule t) (scheduled net schedule (suc t) n) (scheduled_at net schedule (t + suc n)))

module _ (net : Plan) (table : Graph) (schedule : List ℕ) (run : IsRun net table schedule) where
  -- ---- a moment
  module _ (moments : Moments) (t : ℕ) (sees : IsSeen net schedule moments t) where
    at_its_moment : (point : PointId) → IsExecutable net point → (now : Bool) → moment_in schedule point == t ≡ now → executes_at net schedule t point ≡ now
    at_its_moment point executable now is = (λ i. none_from_test (activation net point) executable.1 i && is i)

    executable_due : (point : PointId) → IsExecutable net point → is_due (setting_of net table) moments t point ≡ executes_at net schedule t point
    executable_due point executable =
        elim (cases_order (moment_in schedule point) t) [
          | inl now ↦ is_due_now net table schedule run moments t sees point executable now ∙ sym (at_its_moment point executable true (eq-eqb (moment_in schedule point) t now))
          | inr (inl before) ↦
              come_not_due (setting_of net table) moments t point (moment_in schedule point) (sees.known point executable.0 before)
              ∙ sym (at_its_moment point executable false (ne_eqb (moment_in schedule point) t (λ same. omega (arith, same, before))))
          | inr (inr after) ↦
              not_due_before net table schedule run moments t sees point executable after
              ∙ sym (at_its_moment point executable false (ne_eqb (moment_in schedule point) t (λ same. omega (arith, same, after))))
        ]

    -- a point is due exactly if the schedule executes it
    due_is : (point : PointId) → IsPoint net point → is_due (setting_of net table) moments t point ≡ executes_at net schedule t point
    due_is point within =
        elim (kind net point within) [
          | inl executable ↦ executable_due point executable
          | inr ending ↦ never_due net table schedule run moments t sees point ending ∙ sym (ap (λ (b : Bool). b && (moment_in schedule point == t)) (ending_known net point ending))
        ]

    pub acts_are : acts_at (setting_of net table) moments t ≡ scheduled_at net schedule t
    acts_are =
        let long = dispatchable_length net table run.for in
        ap (map (λ point. let act : Act = record { moment = t; point = point } in act))
        (ap (λ (n : ℕ). filter (is_due (setting_of net table) moments t) (map point_numbered (range_with_len 0 n))) long
        ∙ same_kept (is_due (setting_of net table) moments t) (executes_at net schedule t) 0 (length net.points) (λ k from below. due_is (record { 0 = k }) (omega (arith, below))))

  -- ---- time that runs
  pub acts_while_are : (count : ℕ) (moments : Moments) (t : ℕ) → IsCut net schedule moments t → NoneComes net schedule t (t + count)
      → acts_while (setting_of net table) moments t count ≡ scheduled net schedule t count
  acts_while_are zero moments t cut none = refl
  acts_while_are (suc count) moments t cut none =
      let quiet : NoneComes net schedule t (suc t) = λ point ending at_least below. none point ending at_least (omega (arith, below)) in
      let first = acts_are moments t (none_seen net table schedule run moments t cut quiet) in
      let rest = acts_while_are count (acted (setting_of net table) moments t) (suc t) (moment_runs net table schedule run moments t cut quiet)
      (λ point ending at_least below. none point ending (omega (arith, at_least)) (omega (arith, below))) in
      (λ i. first i ++ rest i)

  -- ---- a feed
  module _ (execution : Execution) (listing : Listing) (keeps : KeepsTo net table schedule execution) (is : IsNext net schedule (next_moment execution) listing) where
    abbrev acts_made : Setting → List Act
    acts_made setting =
        acts_while setting execution.moments (next_moment execution) (moments_to execution listing.moment) ++ acts_at setting (with_completed execution listing.moment listing.points) listing.moment

    pub fed_acts : (after_feed execution listing.moment (with_completed execution listing.moment listing.points)).acts
        ≡ scheduled net schedule (next_moment execution) (suc listing.moment - next_moment execution)
    fed_acts =
        let later = is.later in
        let next = next_moment execution in
        let count = moments_to execution listing.moment in
        let there : next + count ≡ listing.moment = omega (arith, later) in
        let one_more : suc count ≡ suc listing.moment - next = omega (arith, later) in
        let before = none_before net table schedule run next listing is in
        let first = acts_while_are count execution.moments next keeps.cut (λ point ending at_least below. before point ending at_least (omega (arith, below, there))) in
        let last =
        acts_are (with_completed execution listing.moment listing.points) listing.moment (seen net table schedule run execution listing keeps is) ∙ ap (scheduled_at net schedule) (sym there) in
        ap acts_made keeps.setting
        ∙ (λ i. first i ++ last i)
        ∙ sym (scheduled_on net schedule next count)
        ∙ ap (scheduled net schedule next) one_more
