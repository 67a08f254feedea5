use Rattle.std.proofs.Common.{◌∙◌, List, length, ap, sym, subst}
use Rattle.closure_model.specs.Derivations.{Support}
use Rattle.closure_model.specs.declared.derivation.Node.{Node}
use Rattle.support_records.specs.FollowedStores.{HasFollowed}
use Rattle.support_records.specs.Moves.{moves_of, CanFollow}
use Rattle.support_records.proofs.StoreLemmas.{can_follow, is_followed}
use Rattle.support_records.proofs.store.Store.follow.Goals as goal

pub follow_into-requires-clause-can : goal.follow_into-requires-clause-can
follow_into-requires-clause-can c =
    let moves = c.in_ok-moves.moves in
    let nodes_is = c.dag.ensures ∙ ap (λ (s : Support). s.nodes) c.self.view_is in
    subst (CanFollow moves.points.old.now moves.points.new.now (moves_of moves)) (sym nodes_is)
    (can_follow c.args.old.now c.args.edit.now c.args.new.now moves c.in_ok-moves.ensures c.args.self.now.nodes c.sound.ensures c.sound-2.ensures c.requires.derived)

pub returns : goal.returns
returns c =
    let moves = c.in_ok-moves.moves in
    let nodes_is = c.dag.ensures ∙ ap (λ (s : Support). s.nodes) c.self.view_is in
    let has = subst (λ (ns : List Node). HasFollowed moves.points.old.now moves.points.new.now (moves_of moves) ns c.follow_into.new.after c.in_ok-kept.kept) nodes_is c.in_ok-kept.ensures in
    let earlier = c.len.ensures ∙ ap (λ (ns : List Node). length ns) (c.dag-2.ensures ∙ ap (λ (s : Support). s.nodes) c.self.view_is) in
    is_followed c.args.old.now c.args.edit.now c.args.new.now moves c.in_ok-moves.ensures c.args.self.now c.follow_into.new.after c.counted-answer.result
    c.sound.ensures c.sound-2.ensures c.requires (subst (HasFollowed moves.points.old.now moves.points.new.now (moves_of moves) c.args.self.now.nodes c.follow_into.new.after) (sym c.counted-answer.ensures.kept) has)
    (c.counted-answer.ensures.all ∙ earlier)
