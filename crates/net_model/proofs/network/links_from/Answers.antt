use Rattle.std.proofs.Common.{◌∙◌, ap, sym, ◌++◌, ◌∷◌, []}
use Rattle.net_model.proofs.NetworkLemmas.{links_from_more_yes, links_from_more_no}
use Rattle.net_model.proofs.network.links_from.Goals as goal
use Rattle.net_model.proofs.network.links_from.Goals.{then-eq+in_ok-push, else-eq}

pub loop-place-preserved : goal.loop-place-preserved
loop-place-preserved c =
    let place = c.loop-place.place in let links = c.args.links.now in
    elim c.if-eq.branch [
      | then-eq+in_ok-push w ↦ ap (λ v. v.items) w.found-is ∙ w.in_ok-push.ensures.items ∙ ap (λ ids. ids ++ record { 0 = place } ∷ []) c.loop-place.invariant
          ∙ sym (links_from_more_yes c.args.point.0 place links _ c.loop-place-test.true (sym w.if-eq.ensures))
      | else-eq w ↦ ap (λ v. v.items) w.found-is ∙ c.loop-place.invariant ∙ sym (links_from_more_no c.args.point.0 place links _ c.loop-place-test.true (sym w.if-eq.ensures))
    ]
