use Rattle.std.proofs.Common.{◌≡◌, ◌≤◌, ℕ, List, length, sym, ap, subst, ◌∙◌, rules}
use Rattle.std.specs.List.{All}
use Rattle.std.specs.Prelude.{unsigned_abs}
use Rattle.net_model.specs.declared.part.Edge.{Edge}
use Rattle.earliest_times.specs.History.{AreWithin}
use Rattle.earliest_times.specs.Least.{AreLeast}
use Rattle.strong_plan.specs.Strong.{executed_in, IsLeastStrongSchedule}
use Rattle.strong_plan.proofs.EdgesLemmas.{edges_within, moments_least}
use Rattle.strong_plan.proofs.CertificateLemmas.{edges_small}
use Rattle.strong_plan.proofs.least_schedule.by_bounds.Goals as goal

pub least_moments-requires-clause-within : goal.least_moments-requires-clause-within
least_moments-requires-clause-within c =
    let points : length c.points.result.now ≡ length c.args.net.now.points = ap length c.points.ensures.points in
    let its = edges_within c.args.net.now c.points.ensures.sound c.in_ok-edges.edges.items c.in_ok-edges.ensures in
    subst (λ (n : ℕ). AreWithin n c.as_slice.result.now) (sym points) (subst (AreWithin (length c.args.net.now.points)) (sym c.as_slice.ensures.value) its)

pub least_moments-requires-clause-sizes : goal.least_moments-requires-clause-sizes
least_moments-requires-clause-sizes c =
    subst (All (λ (edge : Edge). unsigned_abs edge.weight ≤ 5000000000000)) (sym c.as_slice.ensures.value) (edges_small c.args.net.now c.points.ensures.sound c.requires.numbers c.in_ok-edges.edges.items c.in_ok-edges.ensures)

pub returns-in-Moments : goal.returns-in-Moments
returns-in-Moments c =
    let net = c.args.net.now in
    let edges = c.in_ok-edges.edges.items in
    let moments = c.in-Moments.moments in
    let points : length c.points.result.now ≡ length net.points = ap length c.points.ensures.points in
    let its : AreLeast (length c.points.result.now) c.as_slice.result.now moments = search rules in
    let least : AreLeast (length net.points) edges moments = subst (λ (n : ℕ). AreLeast n edges moments) points (subst (λ (es : List Edge). AreLeast (length c.points.result.now) es moments) c.as_slice.ensures.value its) in
    let strong = moments_least net c.points.ensures.sound edges c.in_ok-edges.ensures c.requires.roots moments least in
    let times : c.new.result ≡ executed_in net moments = c.new.ensures ∙ c.in_ok-times-in-Moments.ensures ∙ ap (executed_in net) c.as_slice-in-Moments.ensures in
    subst (IsLeastStrongSchedule net) (sym times) strong
