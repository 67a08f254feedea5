use Rattle.std.proofs.Common.{◌≡◌, sym, ◌∙◌, subst, ap, List, Option, Some}
use Rattle.closure_model.specs.declared.derivation.NodeId.{NodeId}
use Rattle.edit_laws.specs.KeptLists.{moved_node}
use Rattle.support_records.specs.Moves.{moves_of}
use Rattle.support_records.proofs.FollowLemmas.{kept_given, kept_more}
use Rattle.support_records.proofs.kept_nodes.keep_all.Goals as goal

pub keep-requires-clause-follows : goal.keep-requires-clause-follows
keep-requires-clause-follows c = λ node some.
    kept_given c.args.moves.now.points.old.now c.args.moves.now.points.new.now (moves_of c.args.moves.now) c.args.before.now c.requires.can c.loop-place.place c.loop-place.places.items c.loop-place.after c.loop-place.invariant
    c.node.result.now c.node.ensures node
    (subst (λ (ps : List (Option NodeId)). moved_node (moves_of c.args.moves.now) ps c.node.result.now ≡ Some node) c.as_slice.ensures.value (sym c.node-moved.ensures ∙ some))

pub loop-place-preserved : goal.loop-place-preserved
loop-place-preserved c =
    kept_more c.args.moves.now.points.old.now c.args.moves.now.points.new.now (moves_of c.args.moves.now) c.args.before.now c.requires.can c.loop-place.place c.loop-place.places.items c.loop-place.after c.loop-place.invariant
    c.node.result.now c.node.ensures c.node-moved.result
    (c.node-moved.ensures ∙ ap (λ (ps : List (Option NodeId)). moved_node (moves_of c.args.moves.now) ps c.node.result.now) c.as_slice.ensures.value)
    c.in_ok-keep.field-0 c.push.new.self.items c.keep.new.after (c.in_ok-keep.ensures.kept c.loop-place.places.items) c.in_ok-push.ensures.items c.in_ok-keep.ensures.derived
