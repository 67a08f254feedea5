-- No edge of a closed list is violated by the schedule of lower bounds and waits: from a violated edge a rule gives one of
-- a lower measure.
use Rattle.std.proofs.Common.{◌≡◌, ◌⊎◌, ℕ, zero, suc, ℤ, pos, negsuc, ◌+◌, ◌*◌, ◌<◌, ◌≤◌, ◌<ℤ◌, ◌≤ℤ◌, ◌+ℤ◌, ◌-ℤ◌, min, unsigned_abs, List, Option, Some, None, refl, ap, sym, ◌∙◌, arith, inl, inr}
use Rattle.std.specs.Prelude.{slice_get}
use Rattle.std.specs.Int.{int_max}
use Rattle.std.specs.Option.{option_map_or}
use Rattle.std.specs.List.{Contains}
use Rattle.std.proofs.lemmas.Int.{ints, int_max_is}
use Rattle.std.proofs.lemmas.Bool.{cases_eq}
use Rattle.std.proofs.lemmas.Option.{none-some, same_Some}
use Rattle.net_model.specs.Network.{Plan, IsPlan, IsExecutable}
use Rattle.net_model.specs.Edges.{IsLinkOf}
use Rattle.net_model.specs.Rules.{moved_to_activation}
use Rattle.net_model.specs.declared.ids.LinkId.{LinkId}
use Rattle.net_model.specs.declared.part.Edge.{Edge}
use Rattle.net_model.specs.declared.part.Link.{Link}
use Rattle.net_model.proofs.AppliedRuleLemmas.{negative_holds}
use Rattle.strategy_model.specs.Situations.{IsSituation, IsDuration, moment_in}
use Rattle.strategy_model.specs.Dispatch.{Stands, IsForwardClosedList, HoldsBack, IsDispatched, release_moment, moment_after_edge, completion_in}
use Rattle.strategy_model.proofs.PlayLemmas.{link_sound}
use Rattle.strategy_model.proofs.CompareLemmas.{duration_of}
use Rattle.strategy_model.proofs.ExactLemmas.{below_zero}
use Rattle.strategy_model.proofs.ClosedLemmas.{stands_link, stands_no_case, stands_upper_case, stands_lower_case, stands_cross_case, stands_removal, edge_sound, label_sound}
use Rattle.strategy_model.proofs.KindLemmas.{Ending, kind}

-- an edge is violated: its second point comes too late after its first, and, if it has a label, its first comes before the label's
-- completion
pub record Violated (net : Plan) (schedule : List ℕ) (edge : Edge) : Type 0 where
  pub late : (pos (moment_in schedule edge.from) +ℤ edge.weight) <ℤ pos (moment_in schedule edge.to)
  pub sooner : (label : LinkId) → edge.label ≡ Some label → moment_in schedule edge.from < completion_in net schedule label

-- 1 for a label
abbrev pub mark : Option LinkId → ℕ
mark None = 0
mark (Some label) = 1

mark_small : (label : Option LinkId) → mark label ≤ 1
mark_small None = omega arith
mark_small (Some label) = omega arith

abbrev pub measure : List ℕ → Edge → ℕ
measure schedule edge = 2 * (moment_in schedule edge.to + moment_in schedule edge.from) + mark edge.label

-- the size of a number below 0
pub size_of : (n : ℤ) → n <ℤ pos 0 → pos (unsigned_abs n) ≡ pos 0 -ℤ n
size_of (pos n) negative = absurd (omega (arith, ints))
size_of (negsuc n) negative = let same : suc n ≡ 0 + suc n = omega arith in ap pos same

-- a lower bound asks for n after its end
pub bound_release_moment : (net : Plan) (schedule : List ℕ) (edge : Edge) → edge.label ≡ None → release_moment net schedule edge ≡ moment_after_edge schedule edge
bound_release_moment net schedule edge ordinary =
    ap (λ (label : Option LinkId). option_map_or (λ name. min (completion_in net schedule name) (moment_after_edge schedule edge)) label (moment_after_edge schedule edge)) ordinary

-- a wait asks for the lesser of that and the completion
pub wait_release_moment : (net : Plan) (schedule : List ℕ) (edge : Edge) (name : LinkId) → edge.label ≡ Some name → release_moment net schedule edge ≡ min (completion_in net schedule name) (moment_after_edge schedule edge)
wait_release_moment net schedule edge name labelled =
    ap (λ (label : Option LinkId). option_map_or (λ name. min (completion_in net schedule name) (moment_after_edge schedule edge)) label (moment_after_edge schedule edge)) labelled

-- the completion of a link is the moment of its contingent point
pub completion_is : (net : Plan) (schedule : List ℕ) (name : LinkId) (link : Link) → IsLinkOf net name link → completion_in net schedule name ≡ moment_in schedule link.to
completion_is net schedule name link declared =
    ap (λ (o : Option Link). option_map_or (λ link. moment_in schedule link.to) o 0) declared

-- an ordinary edge has no label
unlabelled : {P : Type 0} (edge : Edge) (label : LinkId) → edge.label ≡ None → edge.label ≡ Some label → P
unlabelled edge label ordinary labelled = absurd (none-some label (sym ordinary ∙ labelled))

-- a contingent point comes a duration of its link after its activation point
pub record Lasts (schedule : List ℕ) (link : Link) : Type 0 where
  pub duration : ℕ
  pub fits : IsDuration link duration
  pub positive : pos 1 ≤ℤ link.low
  pub is : moment_in schedule link.to ≡ moment_in schedule link.from + duration

pub lasts : (net : Plan) (edges : List Edge) (situation schedule : List ℕ) → IsPlan net → IsSituation net situation → IsDispatched net edges situation schedule → (name : LinkId) (link : Link) → IsLinkOf net name link → Lasts schedule link
lasts net edges situation schedule plan is_situation dispatched name link declared =
    let (duration, its, fits) = duration_of net.links situation name.0 link is_situation declared in
    record { duration = duration; fits = fits; positive = (link_sound net plan name.0 link declared).positive; is = dispatched.contingent name link duration declared its }

module _ (net : Plan) (edges : List Edge) (situation schedule : List ℕ) (plan : IsPlan net) (closed : IsForwardClosedList net edges) (is_situation : IsSituation net situation) (dispatched : IsDispatched net edges situation schedule) where
  its_lasts : (name : LinkId) (link : Link) → IsLinkOf net name link → Lasts schedule link
  its_lasts = lasts net edges situation schedule plan is_situation dispatched

  -- what is violated and stands in the list stands there as an edge that is violated, of the same measure
  violated_entry : (made : Edge) (stands : Stands edges made) → Violated net schedule made → Violated net schedule stands.entry
  violated_entry made stands violated =
      let from : moment_in schedule stands.entry.from ≡ moment_in schedule made.from = ap (moment_in schedule) stands.from in
      let to : moment_in schedule stands.entry.to ≡ moment_in schedule made.to = ap (moment_in schedule) stands.to in
      let at_most = stands.at_most in
      let late = violated.late in
      record {
        late = omega (arith, ints, from, to, at_most, late);
        sooner = λ label labelled. let before = violated.sooner label (sym stands.label ∙ labelled) in omega (arith, from, before);
      }

  same_measure : (made : Edge) (stands : Stands edges made) → measure schedule stands.entry ≡ measure schedule made
  same_measure made stands =
      let from : moment_in schedule stands.entry.from ≡ moment_in schedule made.from = ap (moment_in schedule) stands.from in
      let to : moment_in schedule stands.entry.to ≡ moment_in schedule made.to = ap (moment_in schedule) stands.to in
      let label : mark stands.entry.label ≡ mark made.label = ap mark stands.label in
      omega (arith, from, to, label)

  -- One step: no edge of the list below a measure is violated, so none of a measure one higher is.
  module _ (limit : ℕ) (below : (edge : Edge) → Contains edges edge → measure schedule edge < limit → Violated net schedule edge → ⊥) where
    impossible : (made : Edge) → Stands edges made → measure schedule made < limit → Violated net schedule made → ⊥
    impossible made stands low violated =
        let same = same_measure made stands in
        below stands.entry stands.among (omega (arith, same, low)) (violated_entry made stands violated)

    -- a negative edge from a contingent point: lower-case or cross-case
    moved : (edge : Edge) (link : Link) (name : LinkId) → IsLinkOf net name link → link.to ≡ edge.from → Stands edges (moved_to_activation link edge) → measure schedule edge < suc limit → Violated net schedule edge → ⊥
    moved edge link name declared ends stands low violated =
        let lasting = its_lasts name link declared in
        let from : moment_in schedule link.to ≡ moment_in schedule edge.from = ap (moment_in schedule) ends in
        let is = lasting.is in
        let shortest = lasting.fits.0 in
        let positive = lasting.positive in
        let late = violated.late in
        impossible (moved_to_activation link edge) stands (omega (arith, ints, from, is, shortest, positive, low)) (record {
          late = omega (arith, ints, from, is, shortest, late);
          sooner = λ label labelled. let before = violated.sooner label labelled in omega (arith, from, is, before);
        })

    -- a negative edge from an executable point holds it back
    held_back : (edge : Edge) → Contains edges edge → edge.weight <ℤ pos 0 → IsExecutable net edge.from → release_moment net schedule edge ≤ moment_in schedule edge.from
    held_back edge among negative executable =
        (dispatched.executable edge.from executable).not_before edge (record { among = among; begins = refl; negative = negative_holds edge negative })

    ordinary_negative : (edge : Edge) → Contains edges edge → edge.label ≡ None → edge.weight <ℤ pos 0 → measure schedule edge < suc limit → Violated net schedule edge → ⊥
    ordinary_negative edge among ordinary negative low violated =
        elim (kind net edge.from (edge_sound net edges closed edge among).from_point) [
          | inl executable ↦
              let late = violated.late in
              let size = size_of edge.weight negative in
              let held = held_back edge among negative executable in
              let asks = bound_release_moment net schedule edge ordinary in
              omega (arith, ints, late, size, held, asks)
          | inr ending ↦ moved edge ending.link ending.name ending.declared ending.ends (stands_lower_case net edges closed ending.name ending.link edge ending.declared among ordinary (sym ending.ends) negative) low violated
        ]

    -- an ordinary edge from 0 on
    module _ (edge : Edge) (among : Contains edges edge) (ordinary : edge.label ≡ None) (from_zero : pos 0 ≤ℤ edge.weight) (low : measure schedule edge < suc limit) (violated : Violated net schedule edge) where
      -- and the ordinary edge by which its end is held back: no-case
      before_bound : (next : Edge) → HoldsBack edges edge.to next → next.label ≡ None → release_moment net schedule next ≡ moment_in schedule edge.to → ⊥
      before_bound next holds next_ordinary reached =
          let negative = below_zero next holds.negative in
          let size = size_of next.weight negative in
          let asks = bound_release_moment net schedule next next_ordinary in
          let late = violated.late in
          let marked = mark_small edge.label in
          let made : Edge = record { from = edge.from; to = next.to; label = None; weight = edge.weight +ℤ next.weight } in
          impossible made (stands_no_case net edges closed edge next among holds.among ordinary next_ordinary (sym holds.begins) negative from_zero) (omega (arith, ints, size, negative, asks, reached, low)) (record {
            late = omega (arith, ints, size, asks, reached, late);
            sooner = λ label labelled. absurd (none-some label labelled);
          })

      -- and a labelled one from its end, before whose completion the end comes: upper-case
      before_wait : (next : Edge) (name : LinkId) → Contains edges next → edge.to ≡ next.from → next.weight <ℤ pos 0
          → next.label ≡ Some name → (pos (moment_in schedule edge.to) +ℤ next.weight) ≤ℤ pos (moment_in schedule next.to) → moment_in schedule edge.to ≤ completion_in net schedule name
          → moment_in schedule next.to < moment_in schedule edge.to → ⊥
      before_wait next name next_among meets negative labelled asks before descends =
          let late = violated.late in
          let marked = mark_small next.label in
          let made : Edge = record { from = edge.from; to = next.to; label = next.label; weight = edge.weight +ℤ next.weight } in
          impossible made (stands_upper_case net edges closed edge next name among next_among ordinary labelled meets negative from_zero) (omega (arith, marked, descends, low)) (record {
            late = omega (arith, ints, asks, late);
            sooner = λ label its.
                let same : completion_in net schedule label ≡ completion_in net schedule name = ap (completion_in net schedule) (same_Some label name (sym its ∙ labelled)) in
                omega (arith, ints, same, before, late, from_zero);
          })

      -- its end is held back by another edge
      before_held : (next : Edge) → HoldsBack edges edge.to next → release_moment net schedule next ≡ moment_in schedule edge.to → ⊥
      before_held next holds reached = by next.label refl
        where
          by : (label : Option LinkId) → next.label ≡ label → ⊥
          by None next_ordinary = before_bound next holds next_ordinary reached
          by (Some name) labelled =
              let negative = below_zero next holds.negative in
              let size = size_of next.weight negative in
              let asks = wait_release_moment net schedule next name labelled in
              let (link, declared, ends) = label_sound net edges closed next name holds.among labelled in
              let completion = completion_is net schedule name link declared in
              let lasting = its_lasts name link declared in
              let is = lasting.is in
              let shortest = lasting.fits.0 in
              let positive = lasting.positive in
              let to : moment_in schedule next.to ≡ moment_in schedule link.from = ap (moment_in schedule) ends in
              before_wait next name holds.among (sym holds.begins) negative labelled (omega (arith, ints, asks, reached, size)) (omega (arith, asks, reached))
              (omega (arith, ints, asks, reached, completion, is, to, shortest, positive, size, negative))

      -- its end is a contingent point: upper-case with the edge of its link
      before_completion : Ending net edge.to → ⊥
      before_completion ending =
          let link = ending.link in
          let stands = stands_link net edges closed ending.name link ending.declared in
          let next = stands.entry in
          let lasting = its_lasts ending.name link ending.declared in
          let is = lasting.is in
          let (shortest, longest) = lasting.fits in
          let positive = lasting.positive in
          let at_most = stands.at_most in
          let negative : next.weight <ℤ pos 0 = omega (arith, ints, at_most, shortest, longest, positive) in
          let end : moment_in schedule link.to ≡ moment_in schedule edge.to = ap (moment_in schedule) ending.ends in
          let to : moment_in schedule next.to ≡ moment_in schedule link.from = ap (moment_in schedule) stands.to in
          let completion = completion_is net schedule ending.name link ending.declared in
          before_wait next ending.name stands.among (sym ending.ends ∙ sym stands.from) negative stands.label (omega (arith, ints, at_most, longest, is, end, to)) (omega (arith, completion, end))
          (omega (arith, ints, is, end, to, shortest, positive))

      ordinary_from_zero : ⊥
      ordinary_from_zero =
          elim (kind net edge.to (edge_sound net edges closed edge among).to_point) [
            | inl executable ↦ elim (dispatched.executable edge.to executable).reached [
              | inl at_zero ↦ let late = violated.late in omega (arith, ints, at_zero, late, from_zero)
              | inr (next, holds, reached) ↦ before_held next holds reached
            ]
            | inr ending ↦ before_completion ending
          ]

    -- a labelled edge from 0 on: removal
    labelled_from_zero : (edge : Edge) (name : LinkId) → Contains edges edge → edge.label ≡ Some name → pos 0 ≤ℤ edge.weight → measure schedule edge < suc limit → Violated net schedule edge → ⊥
    labelled_from_zero edge name among labelled from_zero low violated =
        let (link, declared, ends) = label_sound net edges closed edge name among labelled in
        let positive = (its_lasts name link declared).positive in
        let made : Edge = record edge { label = None; weight = int_max edge.weight (pos 0 -ℤ link.low) } in
        let same : int_max edge.weight (pos 0 -ℤ link.low) ≡ edge.weight = grind (arith, ints, int_max_is) in
        let late = violated.late in
        let marked : mark edge.label ≡ 1 = ap mark labelled in
        impossible made (stands_removal net edges closed name link edge declared among labelled) (omega (arith, marked, low)) (record {
          late = omega (arith, ints, same, late);
          sooner = λ label its. absurd (none-some label its);
        })

    -- a negative labelled edge
    labelled_negative : (edge : Edge) (name : LinkId) → Contains edges edge → edge.label ≡ Some name → edge.weight <ℤ pos 0 → measure schedule edge < suc limit → Violated net schedule edge → ⊥
    labelled_negative edge name among labelled negative low violated =
        elim (kind net edge.from (edge_sound net edges closed edge among).from_point) [
          | inl executable ↦
              let size = size_of edge.weight negative in
              let held = held_back edge among negative executable in
              let asks = wait_release_moment net schedule edge name labelled in
              let late = violated.late in
              let before = violated.sooner name labelled in
              omega (arith, ints, size, held, asks, late, before)
          | inr ending ↦ elim (cases_eq name.0 ending.name.0) [
            | inl same ↦
                let its : completion_in net schedule name ≡ moment_in schedule edge.from = completion_is net schedule name ending.link (ap (slice_get net.links) same ∙ ending.declared) ∙ ap (moment_in schedule) ending.ends in
                let before = violated.sooner name labelled in
                omega (arith, its, before)
            | inr other ↦ moved edge ending.link ending.name ending.declared ending.ends (stands_cross_case net edges closed ending.name name ending.link edge ending.declared among labelled (λ same. other (ap (λ (l : LinkId). l.0) same))
                (sym ending.ends) negative) low violated
          ]
        ]

    -- a number below 0 or from 0 on
    sign : (n : ℤ) → (n <ℤ pos 0) ⊎ (pos 0 ≤ℤ n)
    sign (pos n) = inr (omega (arith, ints))
    sign (negsuc n) = inl (omega (arith, ints))

    not_violated : (edge : Edge) → Contains edges edge → measure schedule edge < suc limit → Violated net schedule edge → ⊥
    not_violated edge among low violated = by edge.label refl (sign edge.weight)
      where
        by : (label : Option LinkId) → edge.label ≡ label → (edge.weight <ℤ pos 0) ⊎ (pos 0 ≤ℤ edge.weight) → ⊥
        by None ordinary (inl negative) = ordinary_negative edge among ordinary negative low violated
        by None ordinary (inr from_zero) = ordinary_from_zero edge among ordinary from_zero low violated
        by (Some name) labelled (inl negative) = labelled_negative edge name among labelled negative low violated
        by (Some name) labelled (inr from_zero) = labelled_from_zero edge name among labelled from_zero low violated

  none_below : (limit : ℕ) (edge : Edge) → Contains edges edge → measure schedule edge < limit → Violated net schedule edge → ⊥
  none_below zero edge among low violated = absurd (omega (arith, low))
  none_below (suc limit) edge among low violated = not_violated limit (none_below limit) edge among low violated

  -- no edge of the list is violated
  pub none_violated : (edge : Edge) → Contains edges edge → Violated net schedule edge → ⊥
  none_violated edge among violated = none_below (suc (measure schedule edge)) edge among (omega arith) violated
