-- The schedule of lower bounds and waits depends at each moment on the completions up to it alone.
use Rattle.std.proofs.Common.{◌≡◌, ℕ, zero, suc, ◌<◌, ◌≤◌, List, Option, Some, None, refl, ap, sym, ◌∙◌, arith, inl, inr}
use Rattle.std.proofs.lemmas.Bool.{cases_lt}
use Rattle.net_model.specs.Network.{Plan, IsPlan, IsPoint, IsExecutable}
use Rattle.net_model.specs.Edges.{IsLinkOf}
use Rattle.net_model.specs.declared.ids.PointId.{PointId}
use Rattle.net_model.specs.declared.ids.LinkId.{LinkId}
use Rattle.net_model.specs.declared.part.Edge.{Edge}
use Rattle.net_model.specs.declared.part.Link.{Link}
use Rattle.strategy_model.specs.Situations.{IsSituation, moment_in}
use Rattle.strategy_model.specs.Dispatch.{IsForwardClosedList, IsOrder, HoldsBack, ComesAtOnce, IsDispatched, SameCompletions, release_moment}
use Rattle.strategy_model.specs.DispatchLaws.{DispatchedComeOnceFree, DispatchedAreOne, DispatchedSeeAlone}
use Rattle.strategy_model.proofs.PlayLemmas.{link_sound}
use Rattle.strategy_model.proofs.CompareLemmas.{duration_of}
use Rattle.strategy_model.proofs.EarliestLemmas.{both_ways, place_by_place}
use Rattle.strategy_model.proofs.ClosedLemmas.{edge_sound, label_sound}
use Rattle.strategy_model.proofs.OrderLemmas.{rank, descends_to, descends_to_activation}
use Rattle.strategy_model.proofs.KindLemmas.{kind}
use Rattle.strategy_model.proofs.ViolationLemmas.{bound_release_moment, wait_release_moment, completion_is}

-- a point comes no later than at a moment up to which whatever holds it back does so at most
pub no_later : (net : Plan) (edges : List Edge) (schedule : List ℕ) (point : PointId) (m : ℕ) → ComesAtOnce net edges schedule point → ((edge : Edge) → HoldsBack edges point edge → release_moment net schedule edge ≤ m)
    → moment_in schedule point ≤ m
no_later net edges schedule point m comes held =
    elim comes.reached [
      | inl none ↦ omega (arith, none)
      | inr (edge, holds, is) ↦ let below = held edge holds in omega (arith, below, is)
    ]

pub law_dispatched_come_once_free : DispatchedComeOnceFree
law_dispatched_come_once_free net edges situation schedule point t dispatched executable =
    let comes = dispatched.executable point executable in
    (λ by_then edge holds. let held = comes.not_before edge holds in omega (arith, held, by_then), no_later net edges schedule point t comes)

-- if a point comes up to a moment in one schedule, it comes no later in another
abbrev ComesSooner : List ℕ → List ℕ → ℕ → PointId → Type 0
ComesSooner first second m point = moment_in first point ≤ m → moment_in second point ≤ moment_in first point

module _ (net : Plan) (edges : List Edge) (order : List PointId) (plan : IsPlan net) (closed : IsForwardClosedList net edges) (ordered : IsOrder net edges order) where
  -- What holds a point back in one schedule holds it back no longer in another, if its end and the completions up to then come no later.
  held_no_longer : (first second : List ℕ) (point : PointId) (edge : Edge) → HoldsBack edges point edge → release_moment net first edge ≤ moment_in first point
      → ComesSooner first second (moment_in first point) edge.to → ((name : LinkId) (link : Link) → IsLinkOf net name link → edge.to ≡ link.from → ComesSooner first second (moment_in first point) link.to)
      → release_moment net second edge ≤ moment_in first point
  held_no_longer first second point edge holds awaits before completed = by edge.label refl
    where
      by : (label : Option LinkId) → edge.label ≡ label → release_moment net second edge ≤ moment_in first point
      by None ordinary =
          let asks = bound_release_moment net first edge ordinary in
          let asks_second = bound_release_moment net second edge ordinary in
          let sooner = before (omega (arith, awaits, asks)) in
          omega (arith, awaits, asks, asks_second, sooner)
      by (Some name) labelled =
          let (link, declared, ends) = label_sound net edges closed edge name holds.among labelled in
          let asks = wait_release_moment net first edge name labelled in
          let asks_second = wait_release_moment net second edge name labelled in
          let completion = completion_is net first name link declared in
          let completion_second = completion_is net second name link declared in
          elim (cases_lt (moment_in first point) (moment_in first link.to)) [
            | inl not_yet ↦ let sooner = before (omega (arith, awaits, asks, completion, not_yet)) in omega (arith, awaits, asks, asks_second, completion, not_yet, sooner)
            | inr by_then ↦ let sooner = completed name link declared ends by_then in omega (arith, asks_second, completion_second, by_then, sooner)
          ]

  module _ (first second : List ℕ) (t : ℕ) (first_comes : (point : PointId) → IsExecutable net point → ComesAtOnce net edges first point) (second_comes : (point : PointId) → IsExecutable net point
      → ComesAtOnce net edges second point) (same : SameCompletions net t first second) where
    -- up to a moment, whatever comes in the first comes no later in the second
    up_to : (limit : ℕ) (point : PointId) → rank order point < limit → IsPoint net point → moment_in first point ≤ t → moment_in second point ≤ moment_in first point
    up_to zero point within is_point by_then = absurd (omega (arith, within))
    up_to (suc limit) point within is_point by_then =
        elim (kind net point is_point) [
          | inl executable ↦ no_later net edges second point (moment_in first point) (second_comes point executable)
              (λ edge holds. held_no_longer first second point edge holds ((first_comes point executable).not_before edge holds)
              (λ sooner. let descends = descends_to net edges order plan closed ordered point edge holds in up_to limit edge.to (omega (arith, descends, within))
              (edge_sound net edges closed edge holds.among).to_point (omega (arith, sooner, by_then)))
              (λ name link declared ends sooner. let agree = (same name link declared).0 (omega (arith, sooner, by_then)) in omega (arith, agree)))
          | inr ending ↦
              let at : moment_in first ending.link.to ≡ moment_in first point = ap (moment_in first) ending.ends in
              let at_second : moment_in second ending.link.to ≡ moment_in second point = ap (moment_in second) ending.ends in
              let agree = (same ending.name ending.link ending.declared).0 (omega (arith, at, by_then)) in
              omega (arith, at, at_second, agree)
        ]

  -- in one situation, whatever comes in one schedule comes no later in another
  sooner_in : (situation first second : List ℕ) → IsSituation net situation → IsDispatched net edges situation first → IsDispatched net edges situation second → (limit : ℕ) (point : PointId) → rank order point < limit → IsPoint net point
      → moment_in second point ≤ moment_in first point
  sooner_in situation first second is_situation is_first is_second zero point within is_point = absurd (omega (arith, within))
  sooner_in situation first second is_situation is_first is_second (suc limit) point within is_point =
      elim (kind net point is_point) [
        | inl executable ↦ no_later net edges second point (moment_in first point) (is_second.executable point executable) (λ edge holds.
            let descends = descends_to net edges order plan closed ordered point edge holds in
            let sooner = sooner_in situation first second is_situation is_first is_second limit edge.to (omega (arith, descends, within)) (edge_sound net edges closed edge holds.among).to_point in
            held_no_longer first second point edge holds ((is_first.executable point executable).not_before edge holds) (λ by_then. sooner) (λ name link declared ends by_then.
            let (duration, its, fits) = duration_of net.links situation name.0 link is_situation declared in
            let lasts = is_first.contingent name link duration declared its in
            let lasts_second = is_second.contingent name link duration declared its in
            let from : moment_in first edge.to ≡ moment_in first link.from = ap (moment_in first) ends in
            let from_second : moment_in second edge.to ≡ moment_in second link.from = ap (moment_in second) ends in
            omega (arith, lasts, lasts_second, from, from_second, sooner)))
        | inr ending ↦
            let (duration, its, fits) = duration_of net.links situation ending.name.0 ending.link is_situation ending.declared in
            let lasts = is_first.contingent ending.name ending.link duration ending.declared its in
            let lasts_second = is_second.contingent ending.name ending.link duration ending.declared its in
            let at : moment_in first ending.link.to ≡ moment_in first point = ap (moment_in first) ending.ends in
            let at_second : moment_in second ending.link.to ≡ moment_in second point = ap (moment_in second) ending.ends in
            let descends = descends_to_activation net edges order plan closed ordered ending.name ending.link ending.declared in
            let same_place : rank order ending.link.to ≡ rank order point = ap (rank order) ending.ends in
            let sooner = sooner_in situation first second is_situation is_first is_second limit ending.link.from (omega (arith, descends, same_place, within)) (link_sound net plan ending.name.0 ending.link ending.declared).from_point in
            omega (arith, lasts, lasts_second, at, at_second, sooner)
      ]

pub law_dispatched_see_alone : DispatchedSeeAlone
law_dispatched_see_alone net edges order first second first_schedule second_schedule t instant closed ordered is_first is_second first_dispatched second_dispatched same point executable = (
  λ by_then. let late = later by_then in let early = sooner (omega (arith, by_then, late)) in omega (arith, late, early),
  λ by_then. let early = sooner by_then in let late = later (omega (arith, by_then, early)) in
      omega (arith, late, early),
)
  where
    later : moment_in first_schedule point ≤ t → moment_in second_schedule point ≤ moment_in first_schedule point
    later by_then = up_to net edges order instant.sound closed ordered first_schedule second_schedule t first_dispatched.executable second_dispatched.executable same (suc (rank order point)) point (omega arith) executable.0 by_then

    sooner : moment_in second_schedule point ≤ t → moment_in first_schedule point ≤ moment_in second_schedule point
    sooner by_then = up_to net edges order instant.sound closed ordered second_schedule first_schedule t second_dispatched.executable first_dispatched.executable
        (λ name link declared. let agree = same name link declared in (λ before. sym (agree.1 before), λ before. sym (agree.0 before))) (suc (rank order point)) point
        (omega arith) executable.0 by_then

pub law_dispatched_are_one : DispatchedAreOne
law_dispatched_are_one net edges order situation first second instant closed ordered is_situation is_first is_second =
    both_ways first second (place_by_place first second (is_first.complete ∙ sym is_second.complete)
    (λ k within. sooner_in net edges order instant.sound closed ordered situation second first is_situation is_second is_first (suc (rank order (record { 0 = k }))) (record { 0 = k }) (omega arith)
    (let size = is_first.complete in omega (arith, within, size))))
    (place_by_place second first (is_second.complete ∙ sym is_first.complete)
    (λ k within. sooner_in net edges order instant.sound closed ordered situation first second is_situation is_first is_second (suc (rank order (record { 0 = k }))) (record { 0 = k }) (omega arith)
    (let size = is_second.complete in omega (arith, within, size))))
