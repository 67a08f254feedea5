use Rattle.std.proofs.Common.{◌≡◌, ◌∙◌, ◌-◌, ◌<◌, ℕ, suc, ap, sym, length, arith}
use Rattle.std.specs.Option.{option_map}
use Rattle.strong_plan.specs.ReducedEdges.{chain_within, chain_of}
use Rattle.strong_plan.proofs.RootPathLemmas.{root_path_after, step_up}
use Rattle.strong_plan.proofs.chain.root_path.Goals as goal

pub loop-links-init : goal.loop-links-init
unfolding chain_of
loop-links-init c =
    let net = c.args.net.now in
    let point = c.args.point in
    let whole : suc (length net.points) - 0 ≡ suc (length net.points) = omega arith in
    (c.requires, ap (λ (r : ℕ). option_map (root_path_after 0 point) (chain_within net r point)) whole)

pub loop-links-preserved : goal.loop-links-preserved
loop-links-preserved c =
    let net = c.args.net.now in
    let points : length c.points.result.now ≡ length net.points = ap length c.points.ensures.points in
    let below : c.loop-links.links < suc (length net.points) = omega (arith, points) in
    (c.in-Some.ensures.sound.from_point, sym (step_up net (length net.points) c.loop-links.links c.loop-links.at c.in-Some.link below (sym c.in-Some.ensures.link)) ∙ c.loop-links.invariant.1)
