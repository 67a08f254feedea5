use Rattle.std.proofs.Common.{pos, None, length, get_or, sym, ap, ◌∙◌, subst}
use Rattle.std.proofs.lemmas.List.Sums.{fold_more}
use Rattle.net_model.specs.declared.part.Edge.{Edge}
use Rattle.cert_checker.specs.Least.{IsSizedFor, Weights, no_weights, with_entry}
use Rattle.cert_checker.proofs.LeastLemmas.{for_entry, placed}
use Rattle.cert_checker.proofs.least.LeastWeights.of.Goals as goal

-- no edge
none : Edge
none = record { from = record { 0 = 0 }; to = record { 0 = 0 }; label = None; weight = pos 0 }

pub lower-requires : goal.lower-requires
unfolding none
lower-requires c =
    let sound = c.requires c.loop-edge.edge-index none c.loop-edge-test.true in
    placed c.args.net.now c.loop-edge.least (get_or c.args.edges.now c.loop-edge.edge-index none) c.loop-edge.invariant.shape sound.is_edge

pub loop-edge-preserved : goal.loop-edge-preserved
unfolding none
loop-edge-preserved c =
    let index = c.loop-edge.edge-index in
    let edge : Edge = get_or c.args.edges.now index none in
    let start : Weights = no_weights (length c.args.net.now.points) (length c.args.net.now.links) in
    let sound = c.requires index none c.loop-edge-test.true in
    record {
      least = c.in_ok-lower.ensures ∙ ap (λ (t : Weights). with_entry t edge) c.loop-edge.invariant.least ∙ sym (fold_more with_entry start c.args.edges.now index none c.loop-edge-test.true);
      shape = subst (λ (t : Weights). IsSizedFor (length c.args.net.now.points) (length c.args.net.now.links) t) (sym c.in_ok-lower.ensures)
          (for_entry (length c.args.net.now.points) (length c.args.net.now.links) c.loop-edge.least edge c.loop-edge.invariant.shape (placed c.args.net.now c.loop-edge.least edge c.loop-edge.invariant.shape sound.is_edge));
    }
