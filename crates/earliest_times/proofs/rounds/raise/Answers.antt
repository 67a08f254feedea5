use Rattle.std.proofs.Common.{◌≡◌, ◌≤◌, ◌<◌, ◌+◌, ℕ, List, Some, get_or, set, sym, ap, subst, ◌∙◌, arith}
use Rattle.std.proofs.lemmas.List.{get_or_read}
use Rattle.earliest_times.specs.Rounds.{no_edge, edge_at_place, required_moment, IsRoundOver}
use Rattle.earliest_times.proofs.RoundLemmas.{round_stays, round_raises}
use Rattle.earliest_times.proofs.rounds.raise.Goals.{then-index-required_moment, else-index-required_moment}
use Rattle.earliest_times.proofs.rounds.raise.Goals as goal

pub loop-place-preserved : goal.loop-place-preserved
loop-place-preserved c =
    let edges = c.args.edges.now in
    let before = c.args.before.now in
    let place = c.loop-place.place in
    let after = c.loop-place.after.items in
    let raised = c.loop-place.raised.items in
    let edge = edge_at_place edges place in
    let inside = c.requires.inside place no_edge c.loop-place-test.true in
    let ask : c.required_moment-required_moment.result ≡ required_moment before edge = c.required_moment-required_moment.ensures in
    let now : c.index.result.now ≡ get_or after edge.from.0 0 =
    let same = c.loop-place.invariant.after_length in
    let reach = inside.0 in
    get_or_read after edge.from.0 c.index.result.now (omega (arith, same, reach)) c.index.ensures 0 in
    elim c.if-index-required_moment.branch [
      | then-index-required_moment w ↦
          let less : c.index.result.now < c.required_moment-required_moment.result = w.if-index-required_moment.true in
          let next = round_raises edges place before after raised c.loop-place.invariant c.loop-place-test.true inside.0 (omega (arith, less, ask, now)) in
          let after_is : c.if-index-required_moment.after.items ≡ set after edge.from.0 (required_moment before edge) = ap (λ v. v.items) w.after-is ∙ ap (set after edge.from.0) ask in
          let raised_is : c.if-index-required_moment.raised.items ≡ set raised edge.from.0 (Some place) = ap (λ v. v.items) w.raised-is in
          subst (λ (a : List ℕ). IsRoundOver edges (place + 1) before a c.if-index-required_moment.raised.items) (sym after_is)
          (subst (IsRoundOver edges (place + 1) before (set after edge.from.0 (required_moment before edge))) (sym raised_is) next)
      | else-index-required_moment w ↦
          let most : c.required_moment-required_moment.result ≤ c.index.result.now = w.if-index-required_moment.false in
          let next = round_stays edges place before after raised c.loop-place.invariant (omega (arith, most, ask, now)) in
          let after_is : c.if-index-required_moment.after.items ≡ after = ap (λ v. v.items) w.after-is in
          let raised_is : c.if-index-required_moment.raised.items ≡ raised = ap (λ v. v.items) w.raised-is in
          subst (λ (a : List ℕ). IsRoundOver edges (place + 1) before a c.if-index-required_moment.raised.items) (sym after_is) (subst (IsRoundOver edges (place + 1) before after) (sym raised_is) next)
    ]
