use Rattle.std.proofs.Common.{◌++◌, ◌∙◌, List, length, ap}
use Rattle.closure_model.specs.declared.derivation.Node.{Node}
use Rattle.support_records.specs.Moves.{moves_of}
use Rattle.support_records.proofs.StoreLemmas.{has_followed}
use Rattle.support_records.proofs.kept_nodes.follow_into.Goals as goal

pub returns : goal.returns
returns c =
    has_followed c.args.moves.now.points.old.now c.args.moves.now.points.new.now (moves_of c.args.moves.now) c.args.before.now c.keep_all.new.after.nodes c.add_all.new.after c.len-kept.result c.in_ok-keep_all.ensures.kept
    (c.in_ok-add_all.ensures.added ∙ ap (λ (ns : List Node). c.keep_all.new.after.nodes ++ ns) (c.as_slice.ensures.value ∙ c.in_ok-nodes.ensures)) (c.len-kept.ensures
    ∙ ap (λ (ns : List Node). length ns) c.dag.ensures) c.in_ok-add_all.ensures.derived
