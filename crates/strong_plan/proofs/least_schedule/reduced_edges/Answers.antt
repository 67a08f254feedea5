use Rattle.std.proofs.Common.{◌≡◌, ◌<◌, ◌++◌, ◌∷◌, [], List, Some, map, length, get_or, sym, ap, subst, ◌∙◌}
use Rattle.std.specs.Option.{IsSome}
use Rattle.std.proofs.lemmas.List.{map_push, map_more}
use Rattle.net_model.specs.declared.part.Bound.{Bound}
use Rattle.net_model.specs.declared.part.Edge.{Edge}
use Rattle.net_model.specs.Network.{IsBound}
use Rattle.strong_plan.specs.ReducedEdges.{reduced_edge}
use Rattle.strong_plan.proofs.EdgesLemmas.{has_reduced}
use Rattle.strong_plan.proofs.least_schedule.reduced_edges.Goals as goal

pub unwrap-edge-requires : goal.unwrap-edge-requires
unwrap-edge-requires c =
    let net = c.args.net.now in
    let bound = c.bound-item.result in
    let plan = c.bounds-bound-items.ensures.sound in
    let inside : c.loop-bound.bound-index < length net.bounds = subst (λ (bs : List Bound). c.loop-bound.bound-index < length bs) c.bounds-bound-items.ensures.bounds c.loop-bound-test.true in
    let is : bound ≡ get_or net.bounds c.loop-bound.bound-index bound = c.bound-item.is ∙ ap (λ (bs : List Bound). get_or bs c.loop-bound.bound-index bound) c.bounds-bound-items.ensures.bounds in
    let sound : IsBound net bound = subst (IsBound net) (sym is) (plan.bounds_sound c.loop-bound.bound-index bound inside) in
    subst IsSome (sym c.reduced_edge.ensures) (has_reduced net plan c.requires bound sound)

pub loop-bound-preserved : goal.loop-bound-preserved
loop-bound-preserved c =
    let net = c.args.net.now in
    let bound = c.bound-item.result in
    let i = c.loop-bound.bound-index in
    let edges = c.loop-bound.edges.items in
    let inside : i < length net.bounds = subst (λ (bs : List Bound). i < length bs) c.bounds-bound-items.ensures.bounds c.loop-bound-test.true in
    let is : bound ≡ get_or net.bounds i bound = c.bound-item.is ∙ ap (λ (bs : List Bound). get_or bs i bound) c.bounds-bound-items.ensures.bounds in
    let made : Some c.unwrap-edge.result ≡ reduced_edge net (get_or net.bounds i bound) = sym c.unwrap-edge.ensures ∙ c.reduced_edge.ensures ∙ ap (reduced_edge net) is in
    let grown : map (λ (e : Edge). Some e) c.push.new.self.items ≡ map (λ (e : Edge). Some e) edges ++ Some c.unwrap-edge.result ∷ [] = ap (map (λ (e : Edge). Some e)) c.in_ok-push.ensures.items
    ∙ map_push (λ (e : Edge). Some e) edges c.unwrap-edge.result in
    (c.bounds-bound-items.ensures.bounds, grown ∙ (λ j. c.loop-bound.invariant.1 j ++ made j ∷ []) ∙ sym (map_more (reduced_edge net) net.bounds i bound inside))
