use Rattle.std.proofs.Common.{◌≡◌, ◌≤◌, ℕ, map, length, sym, ap, subst, ◌∙◌, rules}
use Rattle.std.specs.List.{All}
use Rattle.std.specs.Prelude.{unsigned_abs}
use Rattle.net_model.specs.declared.part.Edge.{Edge}
use Rattle.strategy_model.specs.Edges.{HoldsIn}
use Rattle.earliest_times.specs.History.{AreWithin}
use Rattle.earliest_times.specs.Least.{AreLeast}
use Rattle.strong_plan.specs.Answers.{down_edge}
use Rattle.strong_plan.specs.declared.answer.Strong.TheVariants.{Refuted}
use Rattle.strong_plan.proofs.HeightLemmas.{down_within, down_small, rooted, no_ring}
use Rattle.strong_plan.proofs.least_schedule.strong.Goals as goal

pub least_moments-requires-clause-within : goal.least_moments-requires-clause-within
least_moments-requires-clause-within c =
    let net = c.args.net.now in
    let points : c.points-points.result.now ≡ net.points = c.points-points.ensures.points in
    let edges : c.as_slice.result.now ≡ map down_edge net.links = c.as_slice.ensures.value ∙ c.in_ok-edges.ensures ∙ ap (map down_edge) c.links.ensures.links in
    subst (λ (n : ℕ). AreWithin n c.as_slice.result.now) (sym (ap length points)) (subst (AreWithin (length net.points)) (sym edges) (down_within net c.links.ensures.sound))

pub least_moments-requires-clause-sizes : goal.least_moments-requires-clause-sizes
least_moments-requires-clause-sizes c =
    let net = c.args.net.now in
    let edges : c.as_slice.result.now ≡ map down_edge net.links = c.as_slice.ensures.value ∙ c.in_ok-edges.ensures ∙ ap (map down_edge) c.links.ensures.links in
    subst (All (λ (edge : Edge). unsigned_abs edge.weight ≤ 5000000000000)) (sym edges) (down_small net)

pub by_bounds-requires-clause-roots : goal.by_bounds-requires-clause-roots
by_bounds-requires-clause-roots c =
    let net = c.args.net.now in
    let edges : c.as_slice.result.now ≡ map down_edge net.links = c.as_slice.ensures.value ∙ c.in_ok-edges.ensures ∙ ap (map down_edge) c.links.ensures.links in
    let heights = c.in-Moments.field-0 in
    let its : AreLeast (length c.points-points.result.now) c.as_slice.result.now heights = search rules in
    rooted net c.links.ensures.sound heights (subst (All (HoldsIn heights)) edges its.keep)

pub by_bounds-requires-clause-no_ring : goal.by_bounds-requires-clause-no_ring
by_bounds-requires-clause-no_ring c =
    let net = c.args.net.now in
    let edges : c.as_slice.result.now ≡ map down_edge net.links = c.as_slice.ensures.value ∙ c.in_ok-edges.ensures ∙ ap (map down_edge) c.links.ensures.links in
    let heights = c.in-Moments.field-0 in
    let its : AreLeast (length c.points-points.result.now) c.as_slice.result.now heights = search rules in
    no_ring net heights (subst (All (HoldsIn heights)) edges its.keep)

pub returns-clause-one : goal.returns-clause-one
returns-clause-one c = λ other answers. c.law_strong_answer_is_one.ensures c.args.net.now (Refuted c.in_ok-cert-in-Loop.cert) other c.in_ok-cert-in-Loop.ensures answers
