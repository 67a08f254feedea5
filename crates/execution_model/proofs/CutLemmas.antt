-- The moments so far that are those of a schedule before a moment, and that one moment's completions and acts make them those before the
-- next one.
use Rattle.std.proofs.Common.{◌≡◌, ℕ, suc, ◌+◌, ◌≤◌, ◌<◌, ℤ, pos, true, false, List, length, map, min, Option, Some, None, is_some, is_none, inl, inr, refl, ap, sym, subst, ◌∙◌, arith}
use Rattle.std.specs.Prelude.{slice_get, unsigned_abs, ◌<ℤ◌, ◌≤ℤ◌, ◌-ℤ◌, ◌&&◌, ◌||◌}
use Rattle.std.specs.List.{Contains, list_all}
use Rattle.std.specs.Option.{option_map, option_map_or}
use Rattle.std.proofs.lemmas.Bool.{cases_lt, cases_order, and_parts, and_from, and_right, or_cases, or_left, or_right, true≢false, false_from_ne_true}
use Rattle.std.proofs.lemmas.Int.{ints}
use Rattle.std.proofs.lemmas.List.Elements.{All-contains, All-weaker, All-contains_itself, Contains-append_left, Contains-append_right, Contains-append_cases}
use Rattle.std.proofs.lemmas.Option.{none-some, same_Some, slice_get-map}
use Rattle.net_model.specs.Network.{Plan, IsPlan, IsPoint, IsExecutable}
use Rattle.net_model.specs.Edges.{IsLinkOf}
use Rattle.net_model.specs.declared.ids.PointId.{PointId}
use Rattle.net_model.specs.declared.ids.LinkId.{LinkId}
use Rattle.net_model.specs.declared.part.Link.{Link}
use Rattle.closure_model.specs.Keys.{Shape}
use Rattle.closure_model.specs.Tables.{Graph, IsFor, IsGraph}
use Rattle.closure_model.proofs.Lists.{Contains-map, Contains-map_from}
use Rattle.strategy_model.specs.Situations.{IsSituation, moment_in}
use Rattle.strategy_model.proofs.PlayLemmas.{link_sound}
use Rattle.strategy_model.proofs.CompareLemmas.{duration_of}
use Rattle.strategy_model.proofs.KindLemmas.{Ending, kind}
use Rattle.dispatch_net.specs.Dispatchable.{dispatchable, conditions_at}
use Rattle.dispatch_net.specs.declared.dispatch.Conditions.{Conditions}
use Rattle.dispatch_net.specs.Execution.{IsExecutedBy, IsFirstNotBefore, required_by_bound, required_by_wait, required_moments}
use Rattle.dispatch_net.specs.Laws.{AreExact}
use Rattle.dispatch_net.proofs.ExactLemmas.{law_lists_are_exact}
use Rattle.dispatch_net.proofs.ExecutionLemmas.{dispatchable_length, point_count}
use Rattle.dispatch_net.proofs.SlimLists.{list_passes, passes_each}
use Rattle.net_model.specs.Moments.{Moments, moment_of}
use Rattle.execution_model.specs.Execution.{Setting, has_come, has_gone_by, meets_bound, meets_wait_for, meets_wait, meets, is_due, link_to, acted}
use Rattle.execution_model.specs.Laws.{setting_of}
use Rattle.execution_model.proofs.LinkLemmas.{executable_has_none}
use Rattle.execution_model.proofs.MomentLemmas.{length-acted, moment_due, moment_not_due, due_from, contingent_not_due, acted_keeps}
use Rattle.execution_model.proofs.PlaceLemmas.{link_found, ending_point, gone_by, from_gone_by}

-- the moments so far are those of the schedule before a moment
pub record IsCut (net : Plan) (schedule : List ℕ) (moments : Moments) (t : ℕ) : Type 0 where
  pub long : length moments ≡ length net.points
  pub known : (point : PointId) → IsPoint net point → moment_in schedule point < t → moment_of moments point ≡ Some (moment_in schedule point)
  pub unknown : (point : PointId) → IsPoint net point → t ≤ moment_in schedule point → moment_of moments point ≡ None

-- and the completions of the moment are taken too
pub record IsSeen (net : Plan) (schedule : List ℕ) (moments : Moments) (t : ℕ) : Type 0 where
  pub long : length moments ≡ length net.points
  pub known : (point : PointId) → IsPoint net point → moment_in schedule point < t → moment_of moments point ≡ Some (moment_in schedule point)
  pub completed : (point : PointId) → Ending net point → moment_in schedule point ≡ t → moment_of moments point ≡ Some t
  pub not_yet : (point : PointId) → Ending net point → t < moment_in schedule point → moment_of moments point ≡ None
  pub unknown : (point : PointId) → IsExecutable net point → t ≤ moment_in schedule point → moment_of moments point ≡ None

-- how long a link lasts in a schedule
pub record Lasts (schedule : List ℕ) (link : Link) : Type 0 where
  pub duration : ℕ
  pub is : moment_in schedule link.to ≡ moment_in schedule link.from + duration
  pub low : unsigned_abs link.low ≤ duration
  pub high : duration ≤ unsigned_abs link.high
  pub positive : 1 ≤ unsigned_abs link.low

-- a network, a table for it, and the schedule that is executed in a situation
pub record IsRun (net : Plan) (table : Graph) (schedule : List ℕ) : Type 0 where
  pub plan : IsPlan net
  pub for : IsFor net table
  pub sound : IsGraph table
  pub situation : List ℕ
  pub is_situation : IsSituation net situation
  pub executed : IsExecutedBy net (dispatchable net table) situation schedule

-- a point without a moment comes no sooner, and a moment is that of the schedule
module _ (net : Plan) (schedule : List ℕ) (moments : Moments) (t : ℕ) (cut : IsCut net schedule moments t) where
  pub not_sooner : (point : PointId) → IsPoint net point → moment_of moments point ≡ None → t ≤ moment_in schedule point
  not_sooner point within unknown =
      elim (cases_lt (moment_in schedule point) t) [
        | inl less ↦ absurd (none-some (moment_in schedule point) (sym unknown ∙ cut.known point within less))
        | inr above ↦ above
      ]

  pub cut_value : (point : PointId) (m : ℕ) → IsPoint net point → moment_of moments point ≡ Some m → (m ≡ moment_in schedule point) × (m < t)
  cut_value point m within found =
      elim (cases_lt (moment_in schedule point) t) [
        | inl less ↦ (let is : moment_in schedule point ≡ m = same_Some (moment_in schedule point) m (sym (cut.known point within less) ∙ found) in (sym is, omega (arith, is, less)))
        | inr above ↦ absurd (none-some m (sym (cut.unknown point within above) ∙ found))
      ]

-- ---- sizes
size_low : (low : ℤ) (d : ℕ) → pos 1 ≤ℤ low → low ≤ℤ pos d → (unsigned_abs low ≤ d) × (1 ≤ unsigned_abs low)
size_low low d positive below = (grind (arith, ints), grind (arith, ints))

size_high : (high : ℤ) (d : ℕ) → pos d ≤ℤ high → d ≤ unsigned_abs high
size_high high d below = grind (arith, ints)

some_positive : (n : ℤ) → pos 0 <ℤ n → 1 ≤ unsigned_abs n
some_positive n above = grind (arith, ints)

pub came : (moments : Moments) (point : PointId) → has_come moments point ≡ true → (m : ℕ) × (moment_of moments point ≡ Some m)
came moments point come = by (moment_of moments point) refl come
  where
    by : (o : Option ℕ) → moment_of moments point ≡ o → is_some o ≡ true → (m : ℕ) × (moment_of moments point ≡ Some m)
    by None none come = absurd (true≢false (sym come))
    by (Some m) found come = (m, found)

module _ (net : Plan) (table : Graph) (schedule : List ℕ) (run : IsRun net table schedule) where
  pub lasts : (name : LinkId) (link : Link) → IsLinkOf net name link → Lasts schedule link
  lasts name link declared =
      let (d, its, fits) = duration_of net.links run.situation name.0 link run.is_situation declared in
      let (low, positive) = size_low link.low d (link_sound net run.plan name.0 link declared).positive fits.0 in
      record { duration = d; is = run.executed.contingent name link d declared its; low = low; high = size_high link.high d fits.1; positive = positive }

  -- a link of a wait
  waited : (label : LinkId) (to : PointId) → slice_get table.shape.activations label.0 ≡ Some to → (link : Link) × IsLinkOf net label link
  waited label to labelled = by (slice_get net.links label.0) refl
    where
      read : slice_get table.shape.activations label.0 ≡ option_map (λ (link : Link). link.from) (slice_get net.links label.0)
      read = ap (λ (s : Shape). slice_get s.activations label.0) run.for ∙ slice_get-map (λ (link : Link). link.from) net.links label.0

      by : (o : Option Link) → slice_get net.links label.0 ≡ o → (link : Link) × IsLinkOf net label link
      by None none = absurd (none-some to (sym (read ∙ ap (option_map (λ (link : Link). link.from)) none) ∙ labelled))
      by (Some link) declared = (link, declared)

  abbrev setting : Setting
  setting = setting_of net table

  module _ (moments : Moments) (t : ℕ) (seen : IsSeen net schedule moments t) where
    -- a moment so far is that of the schedule
    pub seen_value : (point : PointId) (m : ℕ) → IsPoint net point → moment_of moments point ≡ Some m → (m ≡ moment_in schedule point) × (m ≤ t)
    seen_value point m within found =
        elim (cases_order (moment_in schedule point) t) [
          | inl same ↦ (elim (kind net point within) [
            | inl executable ↦ absurd (none-some m (sym (seen.unknown point executable (omega (arith, same))) ∙ found))
            | inr ending ↦ (let is : t ≡ m = same_Some t m (sym (seen.completed point ending same) ∙ found) in (omega (arith, is, same), omega (arith, is)))
          ])
          | inr (inl less) ↦ (let is : moment_in schedule point ≡ m = same_Some (moment_in schedule point) m (sym (seen.known point within less) ∙ found) in (sym is, omega (arith, is, less)))
          | inr (inr above) ↦ (elim (kind net point within) [
            | inl executable ↦ absurd (none-some m (sym (seen.unknown point executable (omega (arith, above))) ∙ found))
            | inr ending ↦ absurd (none-some m (sym (seen.not_yet point ending above) ∙ found))
          ])
        ]

    seen_completed : (point : PointId) → Ending net point → moment_in schedule point ≤ t → moment_of moments point ≡ Some (moment_in schedule point)
    seen_completed point ending by_then =
        elim (cases_lt (moment_in schedule point) t) [
          | inl less ↦ seen.known point (ending_point net run.plan point ending) less
          | inr above ↦
              (let same : moment_in schedule point ≡ t = omega (arith, above, by_then) in seen.completed point ending same ∙ ap (λ (m : ℕ). let o : Option ℕ = Some m in o) (sym same))
        ]

    module _ (point : PointId) (executable : IsExecutable net point) where
      abbrev conditions : Conditions
      conditions = conditions_at (dispatchable net table) point

      abbrev required : List ℕ
      required = required_moments net schedule conditions

      abbrev required_by_bounds : List ℕ
      required_by_bounds = map (required_by_bound schedule) conditions.lower_bounds

      abbrev required_by_waits : List ℕ
      required_by_waits = map (required_by_wait net schedule) conditions.waits

      exact : AreExact table point conditions
      exact = (law_lists_are_exact net table point run.for run.sound executable.0).0 executable

      is_first : IsFirstNotBefore required (moment_in schedule point)
      is_first = run.executed.executable point executable

      -- a lower bound requires a moment after its point
      bound_sound : (bound : PointId × ℤ) → Contains conditions.lower_bounds bound → IsPoint net bound.0 × (1 ≤ unsigned_abs bound.1)
      bound_sound bound among =
          let (above, has) = (exact.bounds bound.0 bound.1).0 among in
          let inside : bound.0.0 < table.shape.points = (run.sound.keys (record { from = point; to = bound.0; label = None; weight = pos 0 -ℤ bound.1 }) has).to_point in
          (omega (arith, inside, point_count net table run.for), some_positive bound.1 above)

      wait_sound : (wait : LinkId × ℤ) → Contains conditions.waits wait → (link : Link) × IsLinkOf net wait.0 link × (1 ≤ unsigned_abs wait.1)
      wait_sound wait among =
          let (above, found) = (exact.waits wait.0 wait.1).0 among in
          let (activation, has) = found in
          let labelled : slice_get table.shape.activations wait.0.0 ≡ Some activation =
          (run.sound.keys (record { from = point; to = activation; label = Some wait.0; weight = pos 0 -ℤ wait.1 }) has).labelled in
          let (link, declared) = waited wait.0 activation labelled in
          (link, declared, some_positive wait.1 above)

      -- what a wait requires
      wait_is : (wait : LinkId × ℤ) (link : Link) → IsLinkOf net wait.0 link
          → required_by_wait net schedule wait ≡ min (moment_in schedule link.to) (moment_in schedule link.from + unsigned_abs wait.1)
      wait_is wait link declared =
          ap (λ (o : Option Link). option_map_or (λ (l : Link). min (moment_in schedule l.to) (moment_in schedule l.from + unsigned_abs wait.1)) o 0) declared

      wait_met_is : (wait : LinkId × ℤ) (link : Link) → IsLinkOf net wait.0 link → meets_wait setting moments t wait ≡ meets_wait_for moments t wait.1 link
      wait_met_is wait link declared = ap (λ (o : Option Link). option_map_or (meets_wait_for moments t wait.1) o false) declared

      required_by_then : moment_in schedule point ≤ t → (m : ℕ) → Contains required m → m ≤ t
      required_by_then by_then m among =
          let met : m ≤ moment_in schedule point = All-contains (λ n. n ≤ moment_in schedule point) required m is_first.meets among in
          omega (arith, met, by_then)

      -- from its moment on, what is required is met
      bound_met : moment_in schedule point ≤ t → (bound : PointId × ℤ) → Contains conditions.lower_bounds bound → meets_bound moments t bound ≡ true
      bound_met by_then bound among =
          let (within, positive) = bound_sound bound among in
          let asks : moment_in schedule bound.0 + unsigned_abs bound.1 ≤ t = required_by_then by_then (required_by_bound schedule bound)
          (Contains-append_left required_by_bounds required_by_waits (required_by_bound schedule bound) (Contains-map (required_by_bound schedule) conditions.lower_bounds bound among)) in
          gone_by moments t bound.0 bound.1 (moment_in schedule bound.0) (seen.known bound.0 within (omega (arith, asks, positive))) asks

      wait_met : moment_in schedule point ≤ t → (wait : LinkId × ℤ) → Contains conditions.waits wait → meets_wait setting moments t wait ≡ true
      wait_met by_then wait among = by (wait_sound wait among)
        where
          asks : required_by_wait net schedule wait ≤ t
          asks =
              required_by_then by_then (required_by_wait net schedule wait)
              (Contains-append_right required_by_bounds required_by_waits (required_by_wait net schedule wait) (Contains-map (required_by_wait net schedule) conditions.waits wait among))

          by : (link : Link) × IsLinkOf net wait.0 link × (1 ≤ unsigned_abs wait.1) → meets_wait setting moments t wait ≡ true
          by (link, declared, positive) =
              let is = wait_is wait link declared in
              let its = lasts wait.0 link declared in
              let lasting = its.is in
              let low = its.low in
              let one = its.positive in
              let sooner : moment_in schedule link.from < t = omega (arith, is, asks, lasting, low, one, positive) in
              let is_activated = seen.known link.from (link_sound net run.plan wait.0.0 link declared).from_point sooner in
              let ending : Ending net link.to = record { name = wait.0; link = link; declared = declared; ends = refl } in
              wait_met_is wait link declared
              ∙ and_from (has_come moments link.from) (has_come moments link.to || has_gone_by moments t link.from wait.1) (ap is_some is_activated)
              (elim (cases_lt t (moment_in schedule link.to)) [
                | inl later ↦
                    or_right (has_come moments link.to) (has_gone_by moments t link.from wait.1)
                    (gone_by moments t link.from wait.1 (moment_in schedule link.from) is_activated (omega (arith, is, asks, later)))
                | inr by_now ↦ or_left (has_come moments link.to) (has_gone_by moments t link.from wait.1) (ap is_some (seen_completed link.to ending by_now))
              ])

      met_by_then : moment_in schedule point ≤ t → meets setting moments t conditions ≡ true
      met_by_then by_then =
          and_from (list_all (meets_bound moments t) conditions.lower_bounds) (list_all (meets_wait setting moments t) conditions.waits)
          (list_passes (meets_bound moments t) conditions.lower_bounds (bound_met by_then))
          (list_passes (meets_wait setting moments t) conditions.waits (wait_met by_then))

      -- and if it is met, the moment has come
      required_met : meets setting moments t conditions ≡ true → (m : ℕ) → Contains required m → m ≤ t
      required_met met m among =
          let (bounds_met, waits_met) = and_parts (list_all (meets_bound moments t) conditions.lower_bounds) (list_all (meets_wait setting moments t) conditions.waits) met in
          elim (Contains-append_cases required_by_bounds required_by_waits m among) [
            | inl one ↦ by_bound bounds_met one
            | inr two ↦ by_wait waits_met two
          ]
        where
          by_bound : list_all (meets_bound moments t) conditions.lower_bounds ≡ true → Contains required_by_bounds m → m ≤ t
          by_bound bounds_met one =
              let bounds = conditions.lower_bounds in
              let (bound, listed, is) = Contains-map_from (required_by_bound schedule) bounds m one in
              let (k, found, within) = from_gone_by moments t bound.0 bound.1 (passes_each (meets_bound moments t) bounds bound bounds_met listed) in
              let same = (seen_value bound.0 k (bound_sound bound listed).0 found).0 in
              omega (arith, is, within, same)

          by_link : (wait : LinkId × ℤ) (link : Link) → IsLinkOf net wait.0 link → meets_wait_for moments t wait.1 link ≡ true → required_by_wait net schedule wait ≤ t
          by_link wait link declared holds =
              let is = wait_is wait link declared in
              let link_is = link_sound net run.plan wait.0.0 link declared in
              let (is_activated, over) = and_parts (has_come moments link.from) (has_come moments link.to || has_gone_by moments t link.from wait.1) holds in
              elim (or_cases (has_come moments link.to) (has_gone_by moments t link.from wait.1) over) [
                | inl come ↦
                    (let (k, found) = came moments link.to come in
                    let value = seen_value link.to k link_is.to_point found in
                    let same = value.0 in
                    let by_now = value.1 in
                    omega (arith, is, same, by_now))
                | inr gone ↦
                    (let (k, found, within) = from_gone_by moments t link.from wait.1 gone in
                    let same = (seen_value link.from k link_is.from_point found).0 in
                    omega (arith, is, same, within))
              ]

          by_wait : list_all (meets_wait setting moments t) conditions.waits ≡ true → Contains required_by_waits m → m ≤ t
          by_wait waits_met two =
              let waits = conditions.waits in
              let (wait, listed, is) = Contains-map_from (required_by_wait net schedule) waits m two in
              let (link, declared, positive) = wait_sound wait listed in
              let holds : meets_wait_for moments t wait.1 link ≡ true = sym (wait_met_is wait link declared) ∙ passes_each (meets_wait setting moments t) waits wait waits_met listed in
              let asks = by_link wait link declared holds in
              subst (λ n. n ≤ t) is asks

      come_where_met : meets setting moments t conditions ≡ true → moment_in schedule point ≤ t
      come_where_met met =
          is_first.first t (All-weaker (Contains required) (λ m. m ≤ t) (required_met met) required (All-contains_itself required))

      -- so the point is due exactly at its moment
      pub is_due_now : moment_in schedule point ≡ t → is_due setting moments t point ≡ true
      is_due_now now =
          due_from setting moments t point (executable_has_none net setting refl point executable) (seen.unknown point executable (omega (arith, now))) (met_by_then (omega (arith, now)))

      pub not_due_before : t < moment_in schedule point → is_due setting moments t point ≡ false
      not_due_before before =
          and_right (is_none (link_to setting point) && is_none (moment_of moments point)) (meets setting moments t conditions)
          (false_from_ne_true (meets setting moments t conditions) (λ met. let come = come_where_met met in omega (arith, come, before)))

    -- after the acts of the moment the moments so far are those before the next one
    dispatch_length : length setting.dispatch ≡ length net.points
    dispatch_length = dispatchable_length net table run.for

    kept : (point : PointId) (m : ℕ) → moment_of moments point ≡ Some m → moment_of (acted setting moments t) point ≡ Some m
    kept = acted_keeps setting moments t (seen.long ∙ sym dispatch_length)

    comes_now : (point : PointId) → IsExecutable net point → moment_in schedule point ≡ t → moment_of (acted setting moments t) point ≡ Some t
    comes_now point executable now =
        let within = executable.0 in
        moment_due setting moments t point (omega (arith, within, dispatch_length)) (is_due_now point executable now)

    stays : (point : PointId) → IsPoint net point → is_due setting moments t point ≡ false → moment_of (acted setting moments t) point ≡ moment_of moments point
    stays point within not_due = moment_not_due setting moments t point (omega (arith, within, dispatch_length)) not_due

    pub never_due : (point : PointId) → Ending net point → is_due setting moments t point ≡ false
    never_due point ending = contingent_not_due setting moments t point ending.link (link_found net run.plan setting refl point ending)

    pub acts_cut : IsCut net schedule (acted setting moments t) (suc t)
    acts_cut = record { long = length-acted setting moments t ∙ dispatch_length; known = known; unknown = unknown }
      where
        at_once : (point : PointId) → IsPoint net point → moment_in schedule point ≡ t → moment_of (acted setting moments t) point ≡ Some t
        at_once point within now =
            elim (kind net point within) [ inl executable ↦ comes_now point executable now | inr ending ↦ kept point t (seen.completed point ending now) ]

        known : (point : PointId) → IsPoint net point → moment_in schedule point < suc t → moment_of (acted setting moments t) point ≡ Some (moment_in schedule point)
        known point within by_then =
            elim (cases_lt (moment_in schedule point) t) [
              | inl less ↦ kept point (moment_in schedule point) (seen.known point within less)
              | inr above ↦
                  (let now : moment_in schedule point ≡ t = omega (arith, above, by_then) in
                  at_once point within now ∙ ap (λ (m : ℕ). let o : Option ℕ = Some m in o) (sym now))
            ]

        unknown : (point : PointId) → IsPoint net point → suc t ≤ moment_in schedule point → moment_of (acted setting moments t) point ≡ None
        unknown point within after =
            elim (kind net point within) [
              | inl executable ↦ stays point within (not_due_before point executable (omega (arith, after))) ∙ seen.unknown point executable (omega (arith, after))
              | inr ending ↦ stays point within (never_due point ending) ∙ seen.not_yet point ending (omega (arith, after))
            ]
