-- The schedule of lower bounds and waits: the moments of points along an order.
use Rattle.std.proofs.Common.{◌≡◌, ◌⊎◌, ℕ, zero, suc, ◌+◌, ◌<◌, ◌≤◌, ◌&&◌, Bool, true, false, cond, min, max, unsigned_abs, List, [], ◌∷◌, Option, Some, None, length, map, get_or, refl, ap, sym, ◌∙◌, subst, arith, inl, inr}
use Rattle.std.specs.Prelude.{slice_get}
use Rattle.std.specs.Option.{option_map_or, option_map}
use Rattle.std.specs.List.{All, AllByRecursion, Contains, slice_index}
use Rattle.std.proofs.lemmas.Bool.{and_parts, and_from, cases_lt}
use Rattle.std.proofs.lemmas.Option.{none-some, same_Some, slice_get-map, slice_get-get_or, get_or_from_slice_get}
use Rattle.std.proofs.lemmas.List.{length-map}
use Rattle.std.proofs.lemmas.List.Elements.{All-weaker, All-contains, All-contains_itself, All-from_recursion, recursion_from_All, Contains-append_right}
use Rattle.net_model.specs.Network.{Plan, IsPlan, IsPoint, IsExecutable}
use Rattle.net_model.specs.Edges.{IsLinkOf}
use Rattle.net_model.specs.Rules.{is_negative}
use Rattle.net_model.specs.declared.ids.PointId.{PointId}
use Rattle.net_model.specs.declared.ids.LinkId.{LinkId}
use Rattle.net_model.specs.declared.part.Edge.{Edge}
use Rattle.net_model.specs.declared.part.Link.{Link}
use Rattle.strategy_model.specs.Situations.{IsSituation, moment_in}
use Rattle.strategy_model.specs.Plays.{same_point, points_of}
use Rattle.strategy_model.specs.Dispatch.{IsForwardClosedList, IsOrder, HoldsBack, ComesAtOnce, IsDispatched, release_moment, completion_in}
use Rattle.strategy_model.specs.DispatchLaws.{DispatchedExist}
use Rattle.strategy_model.proofs.MomentLemmas.{pick, same_from_test, test_from_same, point_at}
use Rattle.strategy_model.proofs.StepLemmas.{points_length}
use Rattle.strategy_model.proofs.PlayLemmas.{link_sound, one_link}
use Rattle.strategy_model.proofs.CompareLemmas.{duration_of}
use Rattle.strategy_model.proofs.ClosedLemmas.{edge_sound, label_sound}
use Rattle.strategy_model.proofs.OrderLemmas.{rank, rank_within, descends_to, descends_to_activation}
use Rattle.strategy_model.proofs.KindLemmas.{not_ending}
use Rattle.strategy_model.proofs.ViolationLemmas.{bound_release_moment, wait_release_moment, completion_is}

-- an edge that holds a point back
abbrev binds : PointId → Edge → Bool
binds point edge = same_point edge.from point && is_negative edge

-- how long after its end an edge holds a point back, in a situation: a wait ends with its label's duration
abbrev delay : List ℕ → Edge → ℕ
delay situation edge =
    option_map_or (λ label. min (slice_index situation label.0) (unsigned_abs edge.weight)) edge.label (unsigned_abs edge.weight)

-- the greatest of 0 and the moments up to which edges hold a point back, by the moments of other points
abbrev latest : List ℕ → (PointId → ℕ) → PointId → List Edge → ℕ
latest situation moment point [] = 0
latest situation moment point (edge ∷ edges) =
    cond (binds point edge) (max (moment edge.to + delay situation edge) (latest situation moment point edges)) (latest situation moment point edges)

-- the moment of a contingent point, by that of its activation point
abbrev ends_at : (PointId → ℕ) → PointId → List Link → List ℕ → Option ℕ
ends_at moment point (link ∷ links) (duration ∷ durations) =
    cond (same_point link.to point) (Some (moment link.from + duration)) (ends_at moment point links durations)
ends_at moment point links durations = None

abbrev or_latest : Option ℕ → ℕ → ℕ
or_latest completion otherwise = option_map_or (λ moment. moment) completion otherwise

-- the moment of a point, by those of the points before it
abbrev next_value : Plan → List Edge → List ℕ → (PointId → ℕ) → PointId → ℕ
next_value net edges situation moment point =
    or_latest (ends_at moment point net.links situation) (latest situation moment point edges)

-- the moment of a point whose place in the order is below a number
abbrev value : Plan → List Edge → List ℕ → ℕ → PointId → ℕ
value net edges situation zero point = 0
value net edges situation (suc limit) point = next_value net edges situation (value net edges situation limit) point

-- the schedule of lower bounds and waits in a situation
pub lower_schedule : Plan → List Edge → List PointId → List ℕ → List ℕ
lower_schedule net edges order situation = map (value net edges situation (suc (length order))) (points_of net)

-- ---- the moments decide
latest_same : (situation : List ℕ) (first second : PointId → ℕ) (point : PointId) (edges : List Edge) → AllByRecursion (λ edge. binds point edge ≡ true → first edge.to ≡ second edge.to) edges
    → latest situation first point edges ≡ latest situation second point edges
latest_same situation first second point [] same = refl
latest_same situation first second point (edge ∷ edges) same =
    by (binds point edge) same.0 (latest_same situation first second point edges same.1)
  where
    by : (b : Bool) → (b ≡ true → first edge.to ≡ second edge.to) → latest situation first point edges ≡ latest situation second point edges
        → cond b (max (first edge.to + delay situation edge) (latest situation first point edges)) (latest situation first point edges) ≡ cond b
        (max (second edge.to + delay situation edge) (latest situation second point edges)) (latest situation second point edges)
    by true here rest = ap (λ (m : ℕ). max (m + delay situation edge) (latest situation first point edges)) (here refl) ∙ ap (max (second edge.to + delay situation edge)) rest
    by false here rest = rest

ends_same : (first second : PointId → ℕ) (point : PointId) (links : List Link) (durations : List ℕ) → AllByRecursion (λ link. same_point link.to point ≡ true → first link.from ≡ second link.from) links
    → ends_at first point links durations ≡ ends_at second point links durations
ends_same first second point [] durations same = refl
ends_same first second point (link ∷ links) [] same = refl
ends_same first second point (link ∷ links) (duration ∷ durations) same =
    by (same_point link.to point) same.0 (ends_same first second point links durations same.1)
  where
    by : (b : Bool) → (b ≡ true → first link.from ≡ second link.from) → ends_at first point links durations ≡ ends_at second point links durations
        → cond b (Some (first link.from + duration)) (ends_at first point links durations) ≡ cond b (Some (second link.from + duration)) (ends_at second point links durations)
    by true here rest = ap (λ (m : ℕ). Some (m + duration)) (here refl)
    by false here rest = rest

-- ---- the greatest
-- the edges hold a point back up to a moment at most
abbrev HeldUpTo : List ℕ → (PointId → ℕ) → PointId → ℕ → List Edge → Type 0
HeldUpTo situation moment point most edges = AllByRecursion (λ edge. binds point edge ≡ true → moment edge.to + delay situation edge ≤ most) edges

not_above : (situation : List ℕ) (moment : PointId → ℕ) (point : PointId) (most : ℕ) (edges : List Edge) → latest situation moment point edges ≤ most → HeldUpTo situation moment point most edges
not_above situation moment point most [] below = tt
not_above situation moment point most (edge ∷ edges) below =
    by (binds point edge) (not_above situation moment point most edges) below
  where
    by : (b : Bool) → (latest situation moment point edges ≤ most → HeldUpTo situation moment point most edges)
        → cond b (max (moment edge.to + delay situation edge) (latest situation moment point edges)) (latest situation moment point edges) ≤ most
        → (b ≡ true → moment edge.to + delay situation edge ≤ most) × HeldUpTo situation moment point most edges
    by true rest within = (λ here. omega (arith, within), rest (omega (arith, within)))
    by false rest within = (λ here. absurd cc, rest within)

-- an edge of a list that holds a point back up to a moment
record Reaches (situation : List ℕ) (moment : PointId → ℕ) (point : PointId) (edges : List Edge) (most : ℕ) : Type 0 where
  pub edge : Edge
  pub among : Contains edges edge
  pub binding : binds point edge ≡ true
  pub is : moment edge.to + delay situation edge ≡ most

later_reaches : (situation : List ℕ) (moment : PointId → ℕ) (point : PointId) (edge : Edge) (edges : List Edge) (least most : ℕ) → least ≡ most → Reaches situation moment point edges least
    → Reaches situation moment point (edge ∷ edges) most
later_reaches situation moment point edge edges least most same reaches =
    record {
      edge = reaches.edge;
      among = Contains-append_right (edge ∷ []) edges reaches.edge reaches.among;
      binding = reaches.binding;
      is = reaches.is ∙ same;
    }

reached : (situation : List ℕ) (moment : PointId → ℕ) (point : PointId) (edges : List Edge) → (latest situation moment point edges ≡ 0) ⊎ Reaches situation moment point edges (latest situation moment point edges)
reached situation moment point [] = inl refl
reached situation moment point (edge ∷ edges) = by (binds point edge) refl (reached situation moment point edges)
  where
    rest : ℕ
    rest = latest situation moment point edges

    here : ℕ
    here = moment edge.to + delay situation edge

    by : (b : Bool) → binds point edge ≡ b → (rest ≡ 0) ⊎ Reaches situation moment point edges rest → (cond b (max here rest) rest ≡ 0) ⊎ Reaches situation moment point (edge ∷ edges) (cond b (max here rest) rest)
    by false binding (inl none) = inl none
    by false binding (inr reaches) = inr (later_reaches situation moment point edge edges rest rest refl reaches)
    by true binding (inl none) = inr (record { edge = edge; among = (0, omega arith, refl); binding = binding; is = omega (arith, none) })
    by true binding (inr reaches) =
        elim (cases_le here rest) [
          | inl below ↦ inr (later_reaches situation moment point edge edges rest (max here rest) (omega (arith, below)) reaches)
          | inr above ↦ inr (record { edge = edge; among = (0, omega arith, refl); binding = binding; is = omega (arith, above) })
        ]
      where
        cases_le : (m n : ℕ) → (m ≤ n) ⊎ (n ≤ m)
        cases_le m n = elim (cases_lt m n) [ inl below ↦ inl (omega (arith, below)) | inr above ↦ inr above ]

-- ---- the completions
record Ends (moment : PointId → ℕ) (point : PointId) (links : List Link) (durations : List ℕ) (at : ℕ) : Type 0 where
  pub place : ℕ
  pub link : Link
  pub duration : ℕ
  pub declared : slice_get links place ≡ Some link
  pub lasts : slice_get durations place ≡ Some duration
  pub ends : link.to ≡ point
  pub is : moment link.from + duration ≡ at

ends_by : (moment : PointId → ℕ) (point : PointId) (links : List Link) (durations : List ℕ) (at : ℕ) → ends_at moment point links durations ≡ Some at → Ends moment point links durations at
ends_by moment point [] durations at found = absurd (none-some at found)
ends_by moment point (link ∷ links) [] at found = absurd (none-some at found)
ends_by moment point (link ∷ links) (duration ∷ durations) at found =
    elim (pick (same_point link.to point) (Some (moment link.from + duration)) (ends_at moment point links durations) (Some at) found) [
      | inl here ↦ record { place = 0; link = link; duration = duration; declared = refl; lasts = refl; ends = same_from_test link.to point here.0; is = same_Some (moment link.from + duration) at here.1 }
      | inr later ↦
          let rest = ends_by moment point links durations at later.1 in
          record { place = suc rest.place; link = rest.link; duration = rest.duration; declared = rest.declared; lasts = rest.lasts; ends = rest.ends; is = rest.is }
    ]

-- a point in which a link ends has a completion
has_end : (moment : PointId → ℕ) (links : List Link) (durations : List ℕ) (place : ℕ) (link : Link) (duration : ℕ) → slice_get links place ≡ Some link → slice_get durations place ≡ Some duration
    → ends_at moment link.to links durations ≡ None → ⊥
has_end moment [] durations place link duration declared its none = absurd (none-some link declared)
has_end moment (l ∷ links) [] place link duration declared its none = absurd (none-some duration its)
has_end moment (l ∷ links) (d ∷ durations) zero link duration declared its none =
    let same : same_point l.to link.to ≡ true = test_from_same l.to link.to (ap (λ (x : Link). x.to) (same_Some l link declared)) in
    let found : Some (moment l.from + d) ≡ None = subst (λ (b : Bool). cond b (Some (moment l.from + d)) (ends_at moment link.to links durations) ≡ None) same none in
    none-some (moment l.from + d) (sym found)
has_end moment (l ∷ links) (d ∷ durations) (suc place) link duration declared its none =
    by (same_point l.to link.to) none (has_end moment links durations place link duration declared its)
  where
    by : (b : Bool) → cond b (Some (moment l.from + d)) (ends_at moment link.to links durations) ≡ None → (ends_at moment link.to links durations ≡ None → ⊥) → ⊥
    by true found rest = none-some (moment l.from + d) (sym found)
    by false missing rest = rest missing

module _ (net : Plan) (edges : List Edge) (order : List PointId) (situation : List ℕ) (plan : IsPlan net) (closed : IsForwardClosedList net edges) (ordered : IsOrder net edges order) (is_situation : IsSituation net situation) where
  by_test : (point : PointId) (edge : Edge) → Contains edges edge → binds point edge ≡ true → HoldsBack edges point edge
  by_test point edge among binding =
      let (here, negative) = and_parts (same_point edge.from point) (is_negative edge) binding in
      record { among = among; begins = same_from_test edge.from point here; negative = negative }

  to_test : (point : PointId) (edge : Edge) → HoldsBack edges point edge → binds point edge ≡ true
  to_test point edge holds =
      and_from (same_point edge.from point) (is_negative edge) (test_from_same edge.from point holds.begins) holds.negative

  -- what is one before a point in the order gives it one moment
  next_same : (first second : PointId → ℕ) (point : PointId) → ((other : PointId) → rank order other < rank order point → first other ≡ second other) → next_value net edges situation first point ≡ next_value net edges situation second point
  next_same first second point before =
      let ends = ends_same first second point net.links situation (recursion_from_All (λ link. same_point link.to point ≡ true → first link.from ≡ second link.from) net.links links_same) in
      let latests = latest_same situation first second point edges (recursion_from_All (λ edge. binds point edge ≡ true → first edge.to ≡ second edge.to) edges edges_same) in
      ap (λ (o : Option ℕ). or_latest o (latest situation first point edges)) ends ∙ ap (or_latest (ends_at second point net.links situation)) latests
    where
      edges_same : All (λ edge. binds point edge ≡ true → first edge.to ≡ second edge.to) edges
      edges_same =
          All-weaker (Contains edges) (λ edge. binds point edge ≡ true → first edge.to ≡ second edge.to) (λ edge among binding. before edge.to (descends_to net edges order plan closed ordered point edge (by_test point edge among binding)))
          edges (All-contains_itself edges)

      links_same : All (λ link. same_point link.to point ≡ true → first link.from ≡ second link.from) net.links
      links_same place other inside here =
          let link : Link = get_or net.links place other in
          let name : LinkId = record { 0 = place } in
          let descends = descends_to_activation net edges order plan closed ordered name link (slice_get-get_or net.links place other inside) in
          let same : rank order link.to ≡ rank order point = ap (rank order) (same_from_test link.to point here) in
          before link.from (omega (arith, descends, same))

  stable : (limit other : ℕ) (point : PointId) → rank order point < limit → rank order point < other → value net edges situation limit point ≡ value net edges situation other point
  stable zero other point within within_other = absurd (omega (arith, within))
  stable (suc limit) zero point within within_other = absurd (omega (arith, within_other))
  stable (suc limit) (suc other) point within within_other =
      next_same (value net edges situation limit) (value net edges situation other) point (λ before lower. stable limit other before (omega (arith, lower, within)) (omega (arith, lower, within_other)))

  -- the moment of each point
  abbrev moment : PointId → ℕ
  moment = value net edges situation (suc (length order))

  in_order : (point : PointId) → IsPoint net point → rank order point < length order
  in_order point within = rank_within order point (ordered.complete point within)

  moment_is_next : (point : PointId) → IsPoint net point → moment point ≡ next_value net edges situation moment point
  moment_is_next point within =
      let inside = in_order point within in
      next_same (value net edges situation (length order)) moment point (λ before lower. stable (length order) (suc (length order)) before (omega (arith, lower, inside)) (omega (arith, lower, inside)))

  abbrev schedule : List ℕ
  schedule = lower_schedule net edges order situation

  schedule_at : (point : PointId) → IsPoint net point → moment_in schedule point ≡ moment point
  unfolding lower_schedule
  schedule_at point within =
      get_or_from_slice_get schedule point.0 (moment point) 0 (slice_get-map moment (points_of net) point.0 ∙ ap (option_map moment) (point_at net point within))

  ends_after : (name : LinkId) (link : Link) (duration : ℕ) → IsLinkOf net name link → slice_get situation name.0 ≡ Some duration → moment link.to ≡ moment link.from + duration
  ends_after name link duration declared its =
      let sound = link_sound net plan name.0 link declared in
      moment_is_next link.to sound.to_point ∙ by (ends_at moment link.to net.links situation) refl
    where
      by : (o : Option ℕ) → ends_at moment link.to net.links situation ≡ o → or_latest o (latest situation moment link.to edges) ≡ moment link.from + duration
      by None none = absurd (has_end moment net.links situation name.0 link duration declared its none)
      by (Some at) found =
          let ends = ends_by moment link.to net.links situation at found in
          let same : ends.place ≡ name.0 = one_link net plan ends.place name.0 ends.link link ends.declared declared (ap (λ (p : PointId). p.0) ends.ends) in
          let its_link : ends.link ≡ link = same_Some ends.link link (sym ends.declared ∙ ap (slice_get net.links) same ∙ declared) in
          let its_duration : ends.duration ≡ duration = same_Some ends.duration duration (sym ends.lasts ∙ ap (slice_get situation) same ∙ its) in
          let from : moment ends.link.from ≡ moment link.from = ap (λ (l : Link). moment l.from) its_link in
          let is = ends.is in
          omega (arith, from, its_duration, is)

  moment_is_latest : (point : PointId) → IsExecutable net point → moment point ≡ latest situation moment point edges
  moment_is_latest point executable = moment_is_next point executable.0 ∙ by (ends_at moment point net.links situation) refl
    where
      by : (o : Option ℕ) → ends_at moment point net.links situation ≡ o → or_latest o (latest situation moment point edges) ≡ latest situation moment point edges
      by None none = refl
      by (Some at) found =
          let ends = ends_by moment point net.links situation at found in
          absurd (not_ending net point executable (record { name = record { 0 = ends.place }; link = ends.link; declared = ends.declared; ends = ends.ends }))

  -- a link's completion in the schedule
  completes_after : (name : LinkId) (link : Link) → IsLinkOf net name link → completion_in net schedule name ≡ moment link.from + slice_index situation name.0
  completes_after name link declared =
      let (duration, its, fits) = duration_of net.links situation name.0 link is_situation declared in
      let at = get_or_from_slice_get situation name.0 duration 0 its in
      let sound = link_sound net plan name.0 link declared in
      completion_is net schedule name link declared ∙ schedule_at link.to sound.to_point ∙ ends_after name link duration declared its ∙ ap (λ (d : ℕ). moment link.from + d) (sym at)

  awaits : (edge : Edge) → Contains edges edge → release_moment net schedule edge ≡ moment edge.to + delay situation edge
  awaits edge among = by edge.label refl
    where
      to : moment_in schedule edge.to ≡ moment edge.to
      to = schedule_at edge.to (edge_sound net edges closed edge among).to_point

      delays : (label : Option LinkId) → edge.label ≡ label → delay situation edge ≡ option_map_or (λ name. min (slice_index situation name.0) (unsigned_abs edge.weight)) label (unsigned_abs edge.weight)
      delays label is =
          ap (λ (o : Option LinkId). option_map_or (λ name. min (slice_index situation name.0) (unsigned_abs edge.weight)) o (unsigned_abs edge.weight)) is

      by : (label : Option LinkId) → edge.label ≡ label → release_moment net schedule edge ≡ moment edge.to + delay situation edge
      by None ordinary =
          let asks = bound_release_moment net schedule edge ordinary in
          let delayed = delays None ordinary in
          omega (arith, asks, delayed, to)
      by (Some name) labelled =
          let asks = wait_release_moment net schedule edge name labelled in
          let delayed = delays (Some name) labelled in
          let (link, declared, ends) = label_sound net edges closed edge name among labelled in
          let completes = completes_after name link declared in
          let from : moment edge.to ≡ moment link.from = ap moment ends in
          omega (arith, asks, delayed, to, completes, from)

  comes_at_once : (point : PointId) → IsExecutable net point → ComesAtOnce net edges schedule point
  comes_at_once point executable =
      let is = schedule_at point executable.0 ∙ moment_is_latest point executable in
      record {
        not_before = λ edge holds.
            let all = All-from_recursion (λ edge. binds point edge ≡ true → moment edge.to + delay situation edge ≤ latest situation moment point edges) edges
            (not_above situation moment point (latest situation moment point edges) edges (omega arith)) in
            let below = All-contains (λ edge. binds point edge ≡ true → moment edge.to + delay situation edge ≤ latest situation moment point edges) edges edge all holds.among (to_test point edge holds) in
            let asks = awaits edge holds.among in
            omega (arith, is, below, asks);
        reached = elim (reached situation moment point edges) [
          | inl none ↦ inl (is ∙ none)
          | inr reaches ↦ inr (reaches.edge, by_test point reaches.edge reaches.among reaches.binding, awaits reaches.edge reaches.among ∙ reaches.is ∙ sym is)
        ];
      }

  is_dispatched : IsDispatched net edges situation schedule
  unfolding lower_schedule
  is_dispatched = record {
    complete = length-map (points_of net) moment ∙ points_length net;
    executable = comes_at_once;
    contingent = λ name link duration declared its.
        let sound = link_sound net plan name.0 link declared in
        schedule_at link.to sound.to_point ∙ ends_after name link duration declared its ∙ ap (λ (m : ℕ). m + duration) (sym (schedule_at link.from sound.from_point));
  }

pub lower_is_dispatched : (net : Plan) (edges : List Edge) (order : List PointId) (situation : List ℕ) → IsPlan net → IsForwardClosedList net edges → IsOrder net edges order → IsSituation net situation
    → IsDispatched net edges situation (lower_schedule net edges order situation)
unfolding lower_schedule
lower_is_dispatched net edges order situation plan closed ordered is_situation =
    is_dispatched net edges order situation plan closed ordered is_situation

pub law_dispatched_exist : DispatchedExist
law_dispatched_exist net edges order situation instant closed ordered is_situation =
    (lower_schedule net edges order situation, lower_is_dispatched net edges order situation instant.sound closed ordered is_situation)
