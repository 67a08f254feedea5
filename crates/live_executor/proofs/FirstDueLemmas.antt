-- What is due first, and what the acts of a moment leave.
use Rattle.std.proofs.Common.{◌≡◌, ℕ, ◌+◌, ◌-◌, ◌<◌, ◌≤◌, true, false, cond, List, [], ◌∷◌, ◌++◌, length, Option, Some, None, refl, ap, sym, subst, ◌∙◌, arith, inl, inr, append_assoc, append-nil}
use Rattle.std.specs.Prelude.{IfSome, nat_le, is_none}
use Rattle.std.proofs.lemmas.Bool.{le-leb, true≢false}
use Rattle.std.proofs.lemmas.Bool.Decides.{nat_tests}
use Rattle.std.proofs.lemmas.List.Sums.{sum_by-set}
use Rattle.std.proofs.lemmas.Option.{none-some}
use Rattle.net_model.specs.declared.ids.PointId.{PointId}
use Rattle.net_model.specs.Moments.{Moments, moment_of}
use Rattle.execution_model.specs.Execution.{Setting, is_due, acts_at, time_runs, acts_while}
use Rattle.execution_model.specs.Feeds.{completed_at}
use Rattle.execution_model.specs.Paced.{IsMadeOneByOne, done, next}
use Rattle.execution_model.specs.declared.feed_answers.Act.{Act}
use Rattle.execution_model.proofs.AtOnceLemmas.{law_one_by_one_is_at_once}
use Rattle.execution_model.proofs.MomentLemmas.{come_not_due, due_parts}
use Rattle.execution_model.proofs.OneByOneLemmas.{law_acts_come_one_by_one}
use Rattle.live_executor.specs.ExecutionStates.{has_become_due, NoneDueBefore, IsLowestDue, IsFirstMoment, IsFirstBefore, ExecutionSoFar, StandsAt, Reaches, MayComeAt, Executes, MakesActs, Runs, AreSomeMade, HasRun, points_left}
use Rattle.tournament_queue.specs.First.{IsFirstDue}
use Rattle.live_executor.specs.Due.{holds_from}
use Rattle.live_executor.specs.Limits.{end_of_time}
use Rattle.live_executor.specs.Sound.{KeptNetwork, made_setting, ExecutesTheSame}
use Rattle.live_executor.specs.WokenPoints.{IsAwake}
use Rattle.live_executor.proofs.SameLemmas.{due_same}
use Rattle.live_executor.proofs.SettleLemmas.{left_acted}
use Rattle.live_executor.proofs.TimeLemmas.{IsIdle, leaps, rests}

-- ---- what is due first
module _ (due : Moments) where
  -- what is due later has not begun
  pub holds_not_yet : (t : ℕ) (o : Option ℕ) → ((m : ℕ) → o ≡ Some m → t < m) → holds_from o t ≡ false
  holds_not_yet t None later = refl
  holds_not_yet t (Some m) later = (let more = later m refl in let no : nat_le m t ≡ false = grind (arith, nat_tests) in no)

  pub lowest_is : (t moment : ℕ) (point : PointId) → IsFirstDue due (Some (moment, point)) → moment ≤ t → IsLowestDue due t (Some point)
  lowest_is t moment point first is_reached = (
    first.0,
    ap (λ (o : Option ℕ). holds_from o t) first.1 ∙ le-leb moment t is_reached,
    λ none other less. holds_not_yet t (moment_of due other) (λ m is.
        let inside : other.0 < length due = (let low = first.0 in omega (arith, low, less)) in
        let from : t ≤ moment = none point moment first.0 first.1 in
        elim (first.2 other m inside is) [ inl sooner_one ↦ omega (arith, from, sooner_one) | inr same ↦ absurd (let no_more = same.1 in omega (arith, no_more, less)) ]),
  )

  pub none_lowest_after : (t moment : ℕ) (point : PointId) → IsFirstDue due (Some (moment, point)) → t < moment → IsLowestDue due t None
  none_lowest_after t moment point first later = λ other inside.
      holds_not_yet t (moment_of due other) (λ m is. elim (first.2 other m inside is) [ inl sooner_one ↦ omega (arith, later, sooner_one) | inr same ↦ (let equal = same.0 in omega (arith, later, equal)) ])

  pub none_lowest : (t : ℕ) → IsFirstDue due None → IsLowestDue due t None
  none_lowest t none = λ other inside. holds_not_yet t (moment_of due other) (λ m is. absurd (none-some m (sym (none other inside) ∙ is)))

  pub first_moment : (moment : ℕ) (point : PointId) → IsFirstDue due (Some (moment, point)) → IsFirstMoment due (Some moment)
  first_moment moment point first =
      ((λ other m inside is. elim (first.2 other m inside is) [ inl sooner_one ↦ omega (arith, sooner_one) | inr same ↦ (let equal = same.0 in omega (arith, equal)) ]), (point, first.0, first.1))

-- ---- how many are left
pub left_completed : (moments : Moments) (t : ℕ) (point : PointId) → point.0 < length moments → moment_of moments point ≡ None → points_left (completed_at moments t point) + 1 ≡ points_left moments
left_completed moments t point inside new =
    let one : Option ℕ → ℕ = λ (m : Option ℕ). cond (is_none m) 1 0 in
    let set : points_left (completed_at moments t point) + one (moment_of moments point) ≡ points_left moments + one (Some t) = sum_by-set one moments point.0 (Some t) None inside in
    let before : one (moment_of moments point) ≡ 1 = ap one new in
    omega (arith, set, before)

-- ---- when none is due before a later moment
module _ (setting : Setting) (now later : ℕ) (moments : Moments) (counts : List ℕ) (due : Moments) (awake : IsAwake setting now moments counts due) where
  pub awake_later : now ≤ later → NoneDueBefore due later → IsAwake setting later moments counts due
  awake_later from none = record {
    moments_count = awake.moments_count;
    counts_count = awake.counts_count;
    due_count = awake.due_count;
    counted = awake.counted;
    known = λ point inside. ((λ t above. (awake.known point inside).0 t (omega (arith, from, above))), by (moment_of due point) (λ m is. none point m (omega (arith, inside, awake.due_count)) is));
  }
    where
      by : (o : Option ℕ) → ((m : ℕ) → o ≡ Some m → later ≤ m) → IfSome o (λ moment. later ≤ moment)
      by None each = tt
      by (Some m) each = each m refl

  pub known_none_before : NoneDueBefore due now
  known_none_before point moment inside is = subst (λ (o : Option ℕ). IfSome o (λ m. now ≤ m)) is (awake.known point (omega (arith, inside, awake.due_count))).1

  -- no point is due before the first moment
  idle_before : (t : ℕ) → now ≤ t → t < later → NoneDueBefore due later → (point : PointId) → point.0 < length setting.dispatch → is_due setting moments t point ≡ false
  idle_before t from below none point inside =
      (awake.known point inside).0 t from ∙ holds_not_yet due t (moment_of due point) (λ m is. let more = none point m (omega (arith, inside, awake.due_count)) is in omega (arith, below, more))

-- if all have come it stays so
pub awake_at_end : (setting : Setting) (now any : ℕ) (moments : Moments) (counts : List ℕ) (due : Moments) → IsAwake setting now moments counts due
    → ((point : PointId) → point.0 < length moments → (m : ℕ) × (moment_of moments point ≡ Some m)) → IsAwake setting any moments counts due
awake_at_end setting now any moments counts due awake come = record {
  moments_count = awake.moments_count;
  counts_count = awake.counts_count;
  due_count = awake.due_count;
  counted = awake.counted;
  known = λ point inside. ((λ t from. never point inside t ∙ sym (ap (λ (o : Option ℕ). holds_from o t) (none point inside))), subst (λ (o : Option ℕ). IfSome o (λ m. any ≤ m)) (sym (none point inside)) tt);
}
  where
    never : (point : PointId) → point.0 < length setting.dispatch → (t : ℕ) → is_due setting moments t point ≡ false
    never point inside t = (let (m, is) = come point (omega (arith, inside, awake.moments_count)) in come_not_due setting moments t point m is)

    none : (point : PointId) → point.0 < length setting.dispatch → moment_of due point ≡ None
    none point inside = by (moment_of due point) refl
      where
        by : (o : Option ℕ) → moment_of due point ≡ o → o ≡ None
        by None is = refl
        by (Some d) is =
            let begins : holds_from (moment_of due point) (now + d) ≡ true = ap (λ (o : Option ℕ). holds_from o (now + d)) is ∙ le-leb d (now + d) (omega arith) in
            absurd (true≢false (sym begins ∙ (sym ((awake.known point inside).0 (now + d) (omega arith)) ∙ never point inside (now + d))))

-- ---- how an execution continues
-- it stands right at a later moment too, as long as no point is due before
pub stands_later : (network : KeptNetwork) (now later : ℕ) (state : ExecutionSoFar) → StandsAt network now state → now ≤ later → NoneDueBefore state.due later → StandsAt network later state
stands_later network now later state stands from none = record {
  awake = awake_later network.setting now later state.moments state.counts state.due stands.awake from none;
  expected = stands.expected;
  count = stands.count;
  few = stands.few;
  paced = stands.paced;
}

-- whatever acts and points are kept
pub stands_with : (network : KeptNetwork) (now : ℕ) (state : ExecutionSoFar) (acts : List Act) (came : List PointId) → StandsAt network now state → StandsAt network now (record state { acts = acts; came = came })
stands_with network now state acts came stands =
    record { awake = stands.awake; expected = stands.expected; count = stands.count; few = stands.few; paced = stands.paced }

pub goes_nowhere : (network : KeptNetwork) (t : ℕ) (state : ExecutionSoFar) → StandsAt network t state → Reaches network t state.moments [] state state
goes_nowhere network t state stands = record { moments_are = refl; acts_are = sym (append-nil state.acts); stands = stands; trace = λ before since. since }

pub goes_further : (network : KeptNetwork) (t u : ℕ) (old now new : ExecutionSoFar) (between after : Moments) (acts more : List Act) → Reaches network t between acts old now → Reaches network u after more now new
    → Reaches network u after (acts ++ more) old new
goes_further network t u old now new between after acts more one next_one = record {
  moments_are = next_one.moments_are;
  acts_are = next_one.acts_are ∙ (ap (λ (before : List Act). before ++ more) one.acts_are ∙ append_assoc old.acts acts more);
  stands = next_one.stands;
  trace = λ before since. next_one.trace before (one.trace before since);
}

-- ---- the acts of a moment
module _ (network : KeptNetwork) (same : ExecutesTheSame network) (t : ℕ) (now : ExecutionSoFar) (stands : StandsAt network t now) where
  abbrev made : Setting
  made = made_setting network

  known_due : (point : PointId) → point.0 < length now.moments → is_due made now.moments t point ≡ has_become_due now.due t point
  known_due point inside =
      sym (due_same network same now.moments stands.paced t point) ∙ (stands.awake.known point (omega (arith, inside, stands.awake.moments_count))).0 t (omega arith)

  module _ (point : PointId) (lowest : IsLowestDue now.due t (Some point)) where
    lowest_inside : point.0 < length now.moments
    lowest_inside = (let low = lowest.0 in omega (arith, low, stands.awake.due_count, stands.awake.moments_count))

    lowest_due : is_due made now.moments t point ≡ true
    lowest_due = known_due point lowest_inside ∙ lowest.1

    pub lowest_may_come : t < end_of_time → MayComeAt network t now point
    lowest_may_come soon = record {
      is_new = (due_parts made now.moments t point lowest_due).1;
      inside = omega (arith, lowest_inside, stands.count);
      paced = (law_acts_come_one_by_one made same.rank now.moments same.ranked stands.paced stands.count t point (omega (arith, lowest_inside, stands.count)) lowest_due).1;
      soon = soon;
    }

    pub one_less_left : (new : ExecutionSoFar) → Executes network t point now new → points_left new.moments < points_left now.moments
    one_less_left new goes =
        let left = left_completed now.moments t point lowest_inside (due_parts made now.moments t point lowest_due).1 in
        let same_left : points_left new.moments ≡ points_left (completed_at now.moments t point) = ap (λ (moments : Moments). points_left moments) goes.moments_are in
        omega (arith, left, same_left)

    pub one_act_more : (old new : ExecutionSoFar) → AreSomeMade network t old now → Executes network t point now new → AreSomeMade network t old new
    one_act_more old new so_far goes = record {
      made = so_far.made ++ act ∷ [];
      goes = record { moments_are = refl; acts_are = all.acts_are; stands = all.stands; trace = all.trace };
      leads = λ rest after comes. subst (λ (acts : List Act). IsMadeOneByOne made t old.moments acts after) (sym (append_assoc so_far.made (act ∷ []) rest))
          (so_far.leads (act ∷ rest) after
          (next now.moments after point rest (omega (arith, lowest_inside, stands.count)) lowest_due lower
          (subst (λ (moments : Moments). IsMadeOneByOne made t moments rest after) goes.moments_are comes)));
    }
      where
        act : Act
        act = record { moment = t; point = point }

        all : Reaches network t (completed_at now.moments t point) (so_far.made ++ act ∷ []) old new
        all = goes_further network t t old now new now.moments (completed_at now.moments t point) so_far.made (act ∷ []) so_far.goes goes

        lower : (other : PointId) → other.0 < point.0 → is_due made now.moments t other ≡ false
        lower other less = known_due other (omega (arith, less, lowest_inside)) ∙ lowest.2 (known_none_before network.setting t t now.moments now.counts now.due stands.awake) other less

  module _ (none : IsLowestDue now.due t None) where
    all_made : (point : PointId) → point.0 < length network.made → is_due made now.moments t point ≡ false
    all_made point inside = known_due point (omega (arith, inside, stands.count)) ∙ none point (omega (arith, inside, stands.count, stands.awake.due_count, stands.awake.moments_count))

    stands_next : StandsAt network (t + 1) now
    stands_next = stands_later network t (t + 1) now stands (omega arith) (λ point moment inside is.
        let from : t ≤ moment = known_none_before network.setting t t now.moments now.counts now.due stands.awake point moment inside is in
        let not_yet : nat_le moment t ≡ false = sym (ap (λ (o : Option ℕ). holds_from o t) is) ∙ none point inside in
        let after : t < moment = grind (arith, nat_tests) in
        omega (arith, after))

    pub acts_made : (old : ExecutionSoFar) → StandsAt network t old → AreSomeMade network t old now → MakesActs network t old now
    acts_made old before so_far =
        let whole : IsMadeOneByOne made t old.moments so_far.made now.moments =
        subst (λ (all : List Act). IsMadeOneByOne made t old.moments all now.moments) (append-nil so_far.made) (so_far.leads [] now.moments (done now.moments all_made)) in
        let all = law_one_by_one_is_at_once made same.rank old.moments now.moments t so_far.made same.ranked before.paced before.count whole in
        record {
          moments_are = all.0;
          acts_are = so_far.goes.acts_are ∙ ap (λ (later : List Act). old.acts ++ later) all.1;
          stands = stands_next;
          trace = so_far.goes.trace;
        }

pub none_made : (network : KeptNetwork) (t : ℕ) (old : ExecutionSoFar) → StandsAt network t old → AreSomeMade network t old old
none_made network t old stands = record { made = []; goes = goes_nowhere network t old stands; leads = λ rest after comes. comes }

-- ---- time
module _ (network : KeptNetwork) (same : ExecutesTheSame network) (from until : ℕ) (old : ExecutionSoFar) where
  pub not_run : from ≤ until → StandsAt network from old → HasRun network from until old old
  not_run range stands =
      let zero_time : from - from ≡ 0 = omega arith in
      record {
        next = from;
        later = omega arith;
        earlier = range;
        runs = record {
          moments_are = sym (ap (time_runs (made_setting network) old.moments from) zero_time);
          acts_are = sym (ap (λ n. old.acts ++ acts_while (made_setting network) old.moments from n) zero_time ∙ append-nil old.acts);
          stands = stands;
          trace = λ before since. since;
        };
      }

  module _ (now : ExecutionSoFar) (run : HasRun network from until old now) where
    abbrev stands : StandsAt network run.next now
    stands = run.runs.stands

    idle : (later : ℕ) → NoneDueBefore now.due later → (u : ℕ) → run.next ≤ u → u < later → IsIdle (made_setting network) now.moments u
    idle later none u above below point inside =
        sym (due_same network same now.moments stands.paced u point)
        ∙ idle_before network.setting run.next later now.moments now.counts now.due stands.awake u above below none point (omega (arith, inside, stands.count, stands.awake.moments_count))

    module _ (moment : ℕ) (first : IsFirstBefore now.due until (Some moment)) where
      abbrev its_first : IsFirstMoment now.due (Some moment)
      its_first = first.1

      next_no_later : run.next ≤ moment
      next_no_later = (let (point, inside, is) = its_first.1 in known_none_before network.setting run.next run.next now.moments now.counts now.due stands.awake point moment inside is)

      pub stands_at : StandsAt network moment now
      stands_at = stands_later network run.next moment now stands next_no_later its_first.0

      module _ (new : ExecutionSoFar) (acts : MakesActs network moment now new) where
        pub fewer_left : points_left new.moments < points_left now.moments
        fewer_left =
            let (point, inside, is) = its_first.1 in
            let within : point.0 < length now.moments = omega (arith, inside, stands.awake.due_count, stands.awake.moments_count) in
            let begins : has_become_due now.due moment point ≡ true = ap (λ (o : Option ℕ). holds_from o moment) is ∙ le-leb moment moment (omega arith) in
            subst (λ (moments : Moments). points_left moments < points_left now.moments) (sym acts.moments_are)
            (left_acted (made_setting network) now.moments moment point stands.count (omega (arith, within, stands.count)) (known_due network same moment now stands_at point within ∙ begins))

        pub run_on : HasRun network from until old new
        run_on =
            let setting = made_setting network in
            let leap = leaps setting old.moments from run.next moment now.moments run.later next_no_later stands.count run.runs.moments_are (idle moment its_first.0) in
            let so_far = acts_while setting old.moments from (run.next - from) in
            record {
              next = moment + 1;
              later = (let low = run.later in omega (arith, low, next_no_later));
              earlier = (let before = first.0 in omega (arith, before));
              runs = record {
                moments_are = acts.moments_are ∙ leap.0;
                acts_are = acts.acts_are ∙ (ap (λ (before : List Act). before ++ acts_at setting now.moments moment) run.runs.acts_are
                    ∙ (append_assoc old.acts so_far (acts_at setting now.moments moment) ∙ ap (λ (later : List Act). old.acts ++ later) leap.1));
                stands = acts.stands;
                trace = λ before since. acts.trace before (run.runs.trace before since);
              };
            }

    pub run_ends : IsFirstBefore now.due until None → Runs network from until old now
    run_ends none =
        let rest = rests (made_setting network) old.moments from run.next until now.moments run.later run.earlier stands.count run.runs.moments_are (idle until none) in
        record {
          moments_are = rest.0;
          acts_are = run.runs.acts_are ∙ ap (λ (later : List Act). old.acts ++ later) rest.1;
          stands = stands_later network run.next until now stands run.earlier none;
          trace = run.runs.trace;
        }
