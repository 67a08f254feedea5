-- A feed is taken exactly if its completions are in time.
use Rattle.std.proofs.Common.{◌≡◌, ◌≢◌, ℕ, ◌+◌, ◌<◌, ◌≤◌, ℤ, pos, Bool, true, false, List, [], ◌∷◌, length, get_or, Option, Some, None, Result, Ok, Err, is_some, refl, ap, sym, subst, ◌∙◌, arith}
use Rattle.std.specs.Prelude.{◌≤ℤ◌, nat_lt, nat_le, unsigned_abs, find, if◌then◌else◌}
use Rattle.std.specs.List.{All, Contains, IsDistinct}
use Rattle.std.specs.Option.{option_map, option_map_or, option_and_then}
use Rattle.std.proofs.lemmas.Int.{ints}
use Rattle.std.proofs.lemmas.Bool.{le-ltb, lt-ltb, le-leb, ne_eqb, true≢false}
use Rattle.std.proofs.lemmas.Map.Keys.{IsDistinct-cons, IsDistinct-head, IsDistinct-tail}
use Rattle.std.proofs.lemmas.Bool.Decides.{nat_tests}
use Rattle.std.proofs.lemmas.Option.{none-some, same_Some}
use Rattle.std.proofs.lemmas.List.Elements.{All-nil, All-cons, All-head, All-tail, All-contains, All-from_recursion, recursion_from_All}
use Rattle.net_model.specs.Network.{Plan, IsPlan, IsLink, IsPoint}
use Rattle.net_model.specs.declared.ids.PointId.{PointId}
use Rattle.net_model.specs.declared.part.Link.{Link}
use Rattle.closure_model.specs.Orders.{contains_point}
use Rattle.closure_model.proofs.OrderLemmas.{find_some, find_none, among_from, from_among}
use Rattle.strategy_model.specs.Plays.{same_point}
use Rattle.net_model.specs.Moments.{Moments, moment_of}
use Rattle.execution_model.specs.Execution.{Setting, points_of, link_to}
use Rattle.net_model.specs.Limits.{most_moment}
use Rattle.execution_model.specs.Feeds.{Execution, next_moment, moments_to, moments_before, refusal_of_duration, activated_before, refusal_of_completion, refusal_of, completed_at, completions_taken, latest_of, is_overdue, overdue_why}
use Rattle.execution_model.specs.Feeds.{first_overdue, none_overdue, completed_in, refusal_of_moment, taken}
use Rattle.execution_model.specs.Timely.{CompletesInTime, IsInTime, with_completed}
use Rattle.execution_model.specs.Laws.{IsExecutionOf, FeedsAreTakenInTime}
use Rattle.execution_model.specs.declared.feed_answers.Why.{Why}
use Rattle.execution_model.specs.declared.feed_answers.Why.TheVariants as why
use Rattle.execution_model.proofs.LinkLemmas.{link_to_is_sound, link_to_is_point}
use Rattle.execution_model.proofs.MomentLemmas.{length-time_runs, length-completed_at, moment_completed, moment_of_other, completed_all, moment_not_listed, moment_listed, Contains-point}

-- ---- durations
-- a link's durations are at least one moment
pub least_duration : (low : ℤ) → pos 1 ≤ℤ low → 1 ≤ unsigned_abs low
least_duration low positive = grind (arith, ints)

greatest_duration : (low high : ℤ) → pos 1 ≤ℤ low → low ≤ℤ high → 1 ≤ unsigned_abs high
greatest_duration low high positive interval = grind (arith, ints)

duration_fits : (x y t : ℕ) (p q : Why) (b c : Bool) → nat_lt t x ≡ b → nat_lt y t ≡ c → (if b then Some p else if c then Some q else None) ≡ None → (x ≤ t) × (t ≤ y)
duration_fits x y t p q true c soon late free = absurd (cc)
duration_fits x y t p q false true soon late free = absurd (cc)
duration_fits x y t p q false false soon late free = (grind (arith, nat_tests), grind (arith, nat_tests))

duration_free : (x y t : ℕ) (p q : Why) → x ≤ t → t ≤ y → (if nat_lt t x then Some p else if nat_lt y t then Some q else None) ≡ None
duration_free x y t p q soon late =
    let one : nat_lt t x ≡ false = le-ltb t x soon in
    let two : nat_lt y t ≡ false = le-ltb y t late in
    let none : Option Why = None in
    ap (λ (b : Bool). if b then Some p else if nat_lt y t then Some q else none) one ∙ ap (λ (b : Bool). if b then Some q else none) two

-- ---- one completion
-- why a listed point is refused, by the moment that it has
abbrev refusal_at : Moments → (moment : ℕ) → PointId → Link → Option ℕ → Option Why
refusal_at moments moment point link (Some completed) = Some (why.Twice point completed)
refusal_at moments moment point link None = option_map_or (refusal_of_duration moment point link) (activated_before moments moment link) (Some (why.NotActive point))

module _ (setting : Setting) (moments : Moments) (moment : ℕ) (point : PointId) where
  implied_over_link : (link : Link) (activated : ℕ) → link_to setting point ≡ Some link → moment_of moments point ≡ None → moment_of moments link.from ≡ Some activated
      → refusal_of_duration moment point link activated ≡ None
      → CompletesInTime setting moments moment point
  implied_over_link link activated ends new active free =
      let fits =
      duration_fits (activated + unsigned_abs link.low) (activated + unsigned_abs link.high) moment (why.TooSoon point (activated + unsigned_abs link.low))
      (why.Overdue point (activated + unsigned_abs link.high)) (nat_lt moment (activated + unsigned_abs link.low)) (nat_lt (activated + unsigned_abs link.high) moment) refl refl free in
      record { link = link; ends = ends; is_open = new; activated = activated; active = active; not_too_soon = fits.0; not_too_late = fits.1 }

  -- a completion that is not refused is in time
  pub in_time_from : refusal_of setting moments moment point ≡ None → CompletesInTime setting moments moment point
  in_time_from free = by_link (link_to setting point) refl free
    where
      by_before : (link : Link) (activated : ℕ) → link_to setting point ≡ Some link → moment_of moments point ≡ None → moment_of moments link.from ≡ Some activated → (b : Bool)
          → option_map_or (refusal_of_duration moment point link) (if b then Some activated else None) (Some (why.NotActive point)) ≡ None → CompletesInTime setting moments moment point
      by_before link activated ends new active true free = implied_over_link link activated ends new active free
      by_before link activated ends new active false free = absurd (cc)

      by_active : (link : Link) → link_to setting point ≡ Some link → moment_of moments point ≡ None → (a : Option ℕ) → moment_of moments link.from ≡ a
          → option_map_or (refusal_of_duration moment point link) (option_and_then (λ activated. if nat_lt activated moment then Some activated else None) a) (Some (why.NotActive point)) ≡ None
          → CompletesInTime setting moments moment point
      by_active link ends new None active free = absurd (cc)
      by_active link ends new (Some activated) active free = by_before link activated ends new active (nat_lt activated moment) free

      by_moment : (link : Link) → link_to setting point ≡ Some link → (o : Option ℕ) → moment_of moments point ≡ o
          → refusal_at moments moment point link o ≡ None
          → CompletesInTime setting moments moment point
      by_moment link ends None new free = by_active link ends new (moment_of moments link.from) refl free
      by_moment link ends (Some completed) come free = absurd (cc)

      by_link : (o : Option Link) → link_to setting point ≡ o → option_map_or (refusal_of_completion moments moment point) o (Some (why.NotContingent point)) ≡ None
          → CompletesInTime setting moments moment point
      by_link None none free = absurd (cc)
      by_link (Some link) ends free = by_moment link ends (moment_of moments point) refl free

  -- and one that is in time, over a link of one moment at least, is not refused
  pub free_from : (timely : CompletesInTime setting moments moment point) → 1 ≤ unsigned_abs timely.link.low → refusal_of setting moments moment point ≡ None
  free_from timely least =
      let link : Link = timely.link in
      let not_active : Option Why = Some (why.NotActive point) in
      let before : nat_lt timely.activated moment ≡ true = lt-ltb timely.activated moment (omega (arith, timely.not_too_soon)) in
      let active : activated_before moments moment link ≡ Some timely.activated =
      ap (option_and_then (λ activated. if nat_lt activated moment then Some activated else None)) timely.active
      ∙ ap (λ (b : Bool). let none : Option ℕ = None in if b then Some timely.activated else none) before in
      ap (λ (o : Option Link). option_map_or (refusal_of_completion moments moment point) o (Some (why.NotContingent point))) timely.ends
      ∙ ap (refusal_at moments moment point link) timely.is_open
      ∙ ap (λ (o : Option ℕ). option_map_or (refusal_of_duration moment point link) o not_active) active
      ∙ duration_free (timely.activated + unsigned_abs link.low) (timely.activated + unsigned_abs link.high) moment (why.TooSoon point (timely.activated + unsigned_abs link.low))
      (why.Overdue point (timely.activated + unsigned_abs link.high)) timely.not_too_soon timely.not_too_late

-- ---- a point that should have completed
record IsLate (setting : Setting) (moments : Moments) (moment : ℕ) (point : PointId) : Type 0 where
  link : Link
  ends : link_to setting point ≡ Some link
  is_open : moment_of moments point ≡ None
  activated : ℕ
  active : moment_of moments link.from ≡ Some activated
  reached : activated + unsigned_abs link.high ≤ moment

module _ (setting : Setting) (moments : Moments) (moment : ℕ) where
  abbrev latest_over : Option Link → Option ℕ
  latest_over o = option_and_then (λ (link : Link). option_map (λ activated. activated + unsigned_abs link.high) (moment_of moments link.from)) o

  late_from : (point : PointId) → is_overdue setting moments moment point ≡ true → IsLate setting moments moment point
  late_from point late = by (moment_of moments point) refl (link_to setting point) refl late
    where
      by_active : (link : Link) → link_to setting point ≡ Some link → moment_of moments point ≡ None → (a : Option ℕ) → moment_of moments link.from ≡ a
          → option_map_or (λ latest. nat_le latest moment) (option_map (λ activated. activated + unsigned_abs link.high) a) false ≡ true → IsLate setting moments moment point
      by_active link ends new None active reached = absurd (true≢false (sym reached))
      by_active link ends new (Some activated) active reached = record { link = link; ends = ends; is_open = new; activated = activated; active = active; reached = grind (arith, nat_tests) }

      by : (o : Option ℕ) → moment_of moments point ≡ o → (l : Option Link) → link_to setting point ≡ l
          → option_map_or (λ latest. nat_le latest moment) (if is_some o then None else latest_over l) false ≡ true → IsLate setting moments moment point
      by (Some m) come l ends reached = absurd (true≢false (sym reached))
      by None new None ends reached = absurd (true≢false (sym reached))
      by None new (Some link) ends reached = by_active link ends new (moment_of moments link.from) refl reached

  latest_is : (point : PointId) → (late : IsLate setting moments moment point) → latest_of setting moments point ≡ Some (late.activated + unsigned_abs late.link.high)
  latest_is point late =
      ap (λ (o : Option ℕ). if is_some o then None else latest_over (link_to setting point)) late.is_open
      ∙ ap latest_over late.ends
      ∙ ap (option_map (λ activated. activated + unsigned_abs late.link.high)) late.active

  late_overdue : (point : PointId) → IsLate setting moments moment point → is_overdue setting moments moment point ≡ true
  late_overdue point late =
      ap (λ (o : Option ℕ). option_map_or (λ latest. nat_le latest moment) o false) (latest_is point late) ∙ le-leb (late.activated + unsigned_abs late.link.high) moment late.reached

  -- if none is late, none is overdue
  none_late_free : ((point : PointId) → IsLate setting moments moment point → ⊥) → first_overdue setting moments moment ≡ None
  none_late_free none = by (find (is_overdue setting moments moment) (points_of setting)) refl
    where
      by : (o : Option PointId) → find (is_overdue setting moments moment) (points_of setting) ≡ o → first_overdue setting moments moment ≡ None
      by None found = ap (option_and_then (overdue_why setting moments)) found
      by (Some point) found =
          let passes : is_overdue setting moments moment point ≡ true = (find_some (is_overdue setting moments moment) (points_of setting) point found).passes in
          absurd (none point (late_from point passes))

  -- and if none is overdue, no point is late
  free_none_late : first_overdue setting moments moment ≡ None → (point : PointId) → point.0 < length setting.dispatch → IsLate setting moments moment point → ⊥
  free_none_late free point inside late = by (find (is_overdue setting moments moment) (points_of setting)) refl
    where
      by : (o : Option PointId) → find (is_overdue setting moments moment) (points_of setting) ≡ o → ⊥
      by None found = true≢false (sym (late_overdue point late) ∙ find_none (is_overdue setting moments moment) (points_of setting) point found (Contains-point setting point inside))
      by (Some first) found =
          let passes : is_overdue setting moments moment first ≡ true = (find_some (is_overdue setting moments moment) (points_of setting) first found).passes in
          let its = late_from first passes in
          let latest : ℕ = its.activated + unsigned_abs its.link.high in
          let cause : Why = why.Overdue first latest in
          let is : first_overdue setting moments moment ≡ Some cause = ap (option_and_then (overdue_why setting moments)) found ∙ ap (option_map (why.Overdue first)) (latest_is first its) in
          none-some cause (sym free ∙ is)

-- ---- the completions of a feed
-- the listed completions are taken: each in time and once, and then they are the moments that are new
record AreTaken (setting : Setting) (moments : Moments) (moment : ℕ) (listed : List PointId) (after : Moments) : Type 0 where
  once : IsDistinct same_point listed
  completes : All (CompletesInTime setting moments moment) listed
  are : after ≡ completed_all moments moment listed

module _ (net : Plan) (setting : Setting) (links : setting.links ≡ net.links) (plan : IsPlan net) (moment : ℕ) where
  least_of : (point : PointId) (link : Link) → link_to setting point ≡ Some link → 1 ≤ unsigned_abs link.low
  least_of point link ends = let sound = link_to_is_sound net setting links plan point link ends in least_duration link.low sound.positive

  greatest_of : (point : PointId) (link : Link) → link_to setting point ≡ Some link → 1 ≤ unsigned_abs link.high
  greatest_of point link ends = let sound = link_to_is_sound net setting links plan point link ends in greatest_duration link.low link.high sound.positive sound.interval

  point_of : (moments : Moments) → length moments ≡ length net.points → (point : PointId) (link : Link) → link_to setting point ≡ Some link → point.0 < length moments
  point_of moments long point link ends = let within : point.0 < length net.points = link_to_is_point net setting links plan point link ends in omega arith

  -- what is in time after another completion of the moment was so before it, and is of another point
  apart_after : (moments : Moments) (first point : PointId) → first.0 < length moments → CompletesInTime setting (completed_at moments moment first) moment point → first.0 ≢ point.0
  apart_after moments first point inside timely same =
      let come : moment_of (completed_at moments moment first) point ≡ Some moment =
      ap (λ (k : ℕ). moment_of (completed_at moments moment first) (record { 0 = k })) (sym same) ∙ moment_completed moments moment first inside in
      none-some moment (sym timely.is_open ∙ come)

  in_time_before : (moments : Moments) (first point : PointId) → first.0 < length moments → CompletesInTime setting (completed_at moments moment first) moment point
      → CompletesInTime setting moments moment point
  in_time_before moments first point inside timely =
      record {
        link = timely.link;
        ends = timely.ends;
        is_open = sym (moment_of_other moments moment first point (λ same. apart_after moments first point inside timely (sym same))) ∙ timely.is_open;
        activated = timely.activated;
        active = sym (moment_of_other moments moment first timely.link.from activation_apart) ∙ timely.active;
        not_too_soon = timely.not_too_soon;
        not_too_late = timely.not_too_late;
      }
    where
      activation_apart : timely.link.from.0 ≢ first.0
      activation_apart same =
          let come : moment_of (completed_at moments moment first) timely.link.from ≡ Some moment =
          ap (λ (k : ℕ). moment_of (completed_at moments moment first) (record { 0 = k })) same ∙ moment_completed moments moment first inside in
          let now : timely.activated ≡ moment = same_Some timely.activated moment (sym timely.active ∙ come) in
          let least = least_of point timely.link timely.ends in
          absurd (omega (arith, now, least, timely.not_too_soon))

  -- what is in time is so after the completion of another point
  in_time_after : (moments : Moments) (first point : PointId) → moment_of moments first ≡ None → first.0 ≢ point.0 → CompletesInTime setting moments moment point
      → CompletesInTime setting (completed_at moments moment first) moment point
  in_time_after moments first point new apart timely =
      record {
        link = timely.link;
        ends = timely.ends;
        is_open = moment_of_other moments moment first point (λ same. apart (sym same)) ∙ timely.is_open;
        activated = timely.activated;
        active = moment_of_other moments moment first timely.link.from activation_apart ∙ timely.active;
        not_too_soon = timely.not_too_soon;
        not_too_late = timely.not_too_late;
      }
    where
      activation_apart : timely.link.from.0 ≢ first.0
      activation_apart same =
          let none : moment_of moments timely.link.from ≡ None = ap (λ (k : ℕ). moment_of moments (record { 0 = k })) same ∙ new in
          none-some timely.activated (sym none ∙ timely.active)

  -- what is taken after the first
  abbrev rest_taken : Moments → PointId → List PointId → Result Moments Why
  rest_taken moments point others = completions_taken setting (completed_at moments moment point) moment others

  taken_means : (moments after : Moments) (listed : List PointId) → length moments ≡ length net.points → completions_taken setting moments moment listed ≡ Ok after
      → AreTaken setting moments moment listed after
  unfolding IsDistinct
  taken_means moments after [] long took = record { once = tt; completes = All-nil (CompletesInTime setting moments moment); are = sym (let same : moments ≡ after = cc in same) }
  taken_means moments after (point ∷ others) long took =
      by (refusal_of setting moments moment point) refl took (λ here. taken_means (completed_at moments moment point) after others (length-completed_at moments moment point ∙ long) here)
    where
      by : (o : Option Why) → refusal_of setting moments moment point ≡ o → option_map_or Err o (rest_taken moments point others) ≡ Ok after
          → (rest_taken moments point others ≡ Ok after → AreTaken setting (completed_at moments moment point) moment others after)
          → AreTaken setting moments moment (point ∷ others) after
      by (Some cause) refused took rest = absurd (cc)
      by None free took rest =
          let first = in_time_from setting moments moment point free in
          let inside : point.0 < length moments = point_of moments long point first.link first.ends in
          let more = rest took in
          let apart : All (λ q. same_point point q ≡ false) others =
          λ k d low. ne_eqb point.0 (get_or others k d).0 (apart_after moments point (get_or others k d) inside (more.completes k d low)) in
          record {
            once = IsDistinct-cons same_point point others (recursion_from_All (λ q. same_point point q ≡ false) others apart) more.once;
            completes = All-cons (CompletesInTime setting moments moment) point others first (λ k d low. in_time_before moments point (get_or others k d) inside (more.completes k d low));
            are = more.are;
          }

  taken_if : (moments : Moments) (listed : List PointId) → length moments ≡ length net.points → IsDistinct same_point listed → All (CompletesInTime setting moments moment) listed
      → completions_taken setting moments moment listed ≡ Ok (completed_all moments moment listed)
  taken_if moments [] long once completes = refl
  taken_if moments (point ∷ others) long once completes =
      let first : CompletesInTime setting moments moment point = All-head (CompletesInTime setting moments moment) point others completes in
      let free : refusal_of setting moments moment point ≡ None = free_from setting moments moment point first (least_of point first.link first.ends) in
      let apart : All (λ q. same_point point q ≡ false) others = All-from_recursion (λ q. same_point point q ≡ false) others (IsDistinct-head same_point point others once) in
      let others_complete : All (CompletesInTime setting moments moment) others = All-tail (CompletesInTime setting moments moment) point others completes in
      ap (λ (o : Option Why). option_map_or Err o (completions_taken setting (completed_at moments moment point) moment others)) free
      ∙ taken_if (completed_at moments moment point) others (length-completed_at moments moment point ∙ long) (IsDistinct-tail same_point point others once)
      (λ k d low. in_time_after moments point (get_or others k d) first.is_open (other_number point (get_or others k d) (apart k d low)) (others_complete k d low))
    where
      other_number : (p q : PointId) → same_point p q ≡ false → p.0 ≢ q.0
      other_number p q apart = grind (arith, nat_tests)

-- ---- a feed
-- what comes of the moments after the completions of a moment, or of their refusal
abbrev continued : Execution → (moment : ℕ) → Result Moments Why → Result Moments Why
continued execution moment (Ok moments) = none_overdue execution.setting moment moments
continued execution moment (Err cause) = Err cause

module _ (net : Plan) (execution : Execution) (of : IsExecutionOf net execution) (moment : ℕ) (listed : List PointId) where
  long_before : length (moments_before execution moment) ≡ length net.points
  long_before = length-time_runs execution.setting execution.moments (next_moment execution) (moments_to execution moment) (of.moments ∙ sym of.dispatch) ∙ of.dispatch

  link_sound : (point : PointId) (link : Link) → link_to execution.setting point ≡ Some link → IsLink net link
  link_sound = link_to_is_sound net execution.setting of.links of.instant.sound

  link_point : (point : PointId) (link : Link) → link_to execution.setting point ≡ Some link → IsPoint net point
  link_point = link_to_is_point net execution.setting of.links of.instant.sound

  now_listed : (point : PointId) → IsPoint net point → contains_point listed point ≡ true → moment_of (with_completed execution moment listed) point ≡ Some moment
  now_listed point within among = let long = long_before in moment_listed moment (moments_before execution moment) listed point (omega arith) among

  as_before : (point : PointId) → contains_point listed point ≡ false → moment_of (with_completed execution moment listed) point ≡ moment_of (moments_before execution moment) point
  as_before point not_listed = moment_not_listed moment (moments_before execution moment) listed point not_listed

  -- after completions in time no point is late
  none_late : IsInTime execution moment listed → (point : PointId) → IsLate execution.setting (with_completed execution moment listed) moment point → ⊥
  none_late timely point late = by (contains_point listed point) refl (contains_point listed late.link.from) refl
    where
      by : (a : Bool) → contains_point listed point ≡ a → (b : Bool) → contains_point listed late.link.from ≡ b → ⊥
      by true among b is = none-some moment (sym late.is_open ∙ now_listed point (link_point point late.link late.ends) among)
      by false not_listed true among =
          let sound = link_sound point late.link late.ends in
          let now : late.activated ≡ moment = same_Some late.activated moment (sym late.active ∙ now_listed late.link.from sound.from_point among) in
          let greatest = greatest_duration late.link.low late.link.high sound.positive sound.interval in
          absurd (omega (arith, now, greatest, late.reached))
      by false not_listed false before =
          let there : Contains listed point =
          timely.none_left point late.link late.activated late.ends (sym (as_before point not_listed) ∙ late.is_open) (sym (as_before late.link.from before) ∙ late.active) late.reached in
          true≢false (sym (among_from listed point there) ∙ not_listed)

  in_time_taken : moment ≤ most_moment → IsInTime execution moment listed → taken execution moment listed ≡ Ok (with_completed execution moment listed)
  in_time_taken within timely =
      let after : Moments = with_completed execution moment listed in
      let not_before : nat_lt moment (next_moment execution) ≡ false = le-ltb moment (next_moment execution) timely.later in
      let not_beyond : nat_lt most_moment moment ≡ false = le-ltb most_moment moment within in
      let none : Option Why = None in
      let free : refusal_of_moment execution moment ≡ None =
      ap (λ (b : Bool). if b then option_map why.NotLater execution.last else if nat_lt most_moment moment then Some why.MomentLimit else none) not_before
      ∙ ap (λ (b : Bool). if b then Some why.MomentLimit else none) not_beyond in
      ap (λ (o : Option Why). option_map_or Err o (completed_in execution moment listed)) free
      ∙ ap (continued execution moment) (taken_if net execution.setting of.links of.instant.sound moment (moments_before execution moment) listed long_before timely.once timely.completes)
      ∙ ap (λ (o : Option Why). option_map_or Err o (Ok after)) (none_late_free execution.setting after moment (none_late timely))

  later_from : refusal_of_moment execution moment ≡ None → next_moment execution ≤ moment
  later_from free = by execution.last refl (nat_lt moment (next_moment execution)) refl free
    where
      by : (last : Option ℕ) → execution.last ≡ last → (b : Bool) → nat_lt moment (next_moment execution) ≡ b
          → (if b then option_map why.NotLater last else if nat_lt most_moment moment then Some why.MomentLimit else None) ≡ None → next_moment execution ≤ moment
      by (Some m) is true before free = absurd (cc)
      by None is true before free =
          let first : next_moment execution ≡ 0 = ap (λ (last : Option ℕ). option_map_or (λ m. m + 1) last 0) is in
          omega (arith, first)
      by last is false not_before free = grind (arith, nat_tests)

  in_time_of : (after : Moments) → next_moment execution ≤ moment → AreTaken execution.setting (moments_before execution moment) moment listed after
      → first_overdue execution.setting after moment ≡ None → IsInTime execution moment listed
  in_time_of after later took free = record { later = later; once = took.once; completes = took.completes; none_left = none_left }
    where
      none_left : (point : PointId) (link : Link) (activated : ℕ) → link_to execution.setting point ≡ Some link → moment_of (moments_before execution moment) point ≡ None
          → moment_of (moments_before execution moment) link.from ≡ Some activated → activated + unsigned_abs link.high ≤ moment → Contains listed point
      none_left point link activated ends new active reached = by (contains_point listed point) refl (contains_point listed link.from) refl
        where
          by : (a : Bool) → contains_point listed point ≡ a → (b : Bool) → contains_point listed link.from ≡ b → Contains listed point
          by true among b is = from_among listed point among
          by false not_listed true among =
              let its = All-contains (CompletesInTime execution.setting (moments_before execution moment) moment) listed link.from took.completes (from_among listed link.from among) in
              absurd (none-some activated (sym its.is_open ∙ active))
          by false not_listed false before =
              let inside : point.0 < length execution.setting.dispatch = let within = link_point point link ends in let long = of.dispatch in omega arith in
              let late : IsLate execution.setting (with_completed execution moment listed) moment point =
              record { link = link; ends = ends; is_open = as_before point not_listed ∙ new; activated = activated; active = as_before link.from before ∙ active; reached = reached } in
              absurd (free_none_late execution.setting after moment free point inside (subst (λ moments. IsLate execution.setting moments moment point) (sym took.are) late))

  in_time_where_taken : (after : Moments) → taken execution moment listed ≡ Ok after → IsInTime execution moment listed × (after ≡ with_completed execution moment listed)
  in_time_where_taken after took = by (refusal_of_moment execution moment) refl took
    where
      by_overdue : (made : Moments) → next_moment execution ≤ moment → AreTaken execution.setting (moments_before execution moment) moment listed made → (o : Option Why)
          → first_overdue execution.setting made moment ≡ o
          → option_map_or Err o (Ok made) ≡ Ok after → IsInTime execution moment listed × (after ≡ with_completed execution moment listed)
      by_overdue made later are (Some cause) is took = absurd (cc)
      by_overdue made later are None free took = let same : made ≡ after = cc in (in_time_of made later are free, sym same ∙ are.are)

      by_taken : next_moment execution ≤ moment → (r : Result Moments Why) → completions_taken execution.setting (moments_before execution moment) moment listed ≡ r
          → continued execution moment r ≡ Ok after
          → IsInTime execution moment listed × (after ≡ with_completed execution moment listed)
      by_taken later (Err cause) is took = absurd (cc)
      by_taken later (Ok made) is took =
          by_overdue made later (taken_means net execution.setting of.links of.instant.sound moment (moments_before execution moment) made listed long_before is)
          (first_overdue execution.setting made moment) refl took

      by : (o : Option Why) → refusal_of_moment execution moment ≡ o → option_map_or Err o (completed_in execution moment listed) ≡ Ok after
          → IsInTime execution moment listed × (after ≡ with_completed execution moment listed)
      by (Some cause) refused took = absurd (cc)
      by None free took = by_taken (later_from free) (completions_taken execution.setting (moments_before execution moment) moment listed) refl took

pub taken_in_time : FeedsAreTakenInTime
taken_in_time net execution moment listed of within = (
  (in_time_taken net execution of moment listed within, λ took. (in_time_where_taken net execution of moment listed (with_completed execution moment listed) took).0),
  λ moments took. (in_time_where_taken net execution of moment listed moments took).1,
)
