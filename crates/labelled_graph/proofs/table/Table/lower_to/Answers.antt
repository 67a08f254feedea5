use Rattle.std.proofs.Common.{rules, ◌≡◌, ◌<◌, ◌∙◌, false, sym, length}
use Rattle.closure_model.specs.Keys.{key_of}
use Rattle.closure_model.specs.Tables.{has_at_most}
use Rattle.labelled_graph.proofs.StoredLemmas.{row_there, row_target, short_label, none_set, one_set, on_error, lowered_kept, lowered_set}
use Rattle.labelled_graph.proofs.table.Table.lower_to.Goals as goal

pub index_mut-row-requires : goal.index_mut-row-requires
index_mut-row-requires c = (let inside : c.args.edge.now.to.0 < length c.self.inside.rows.items = row_there c.self.inside.rows.items c.self.inside.activations.items c.self.invariant c.args.self.now c.self.view_is c.args.edge.now.to
    c.requires.key.to_point in search rules)

pub set-requires-clause-to : goal.set-requires-clause-to
set-requires-clause-to c = sym (row_target c.self.inside.rows.items c.self.inside.activations.items c.self.invariant c.args.self.now c.self.view_is c.args.edge.now.to c.requires.key.to_point c.index_mut-row.result.now
    c.index_mut-row.ensures.value)

pub set-requires-clause-label : goal.set-requires-clause-label
set-requires-clause-label c = short_label c.self.inside.rows.items c.self.inside.activations.items c.self.invariant c.args.self.now c.self.view_is (key_of c.args.edge.now) c.requires.key

pub invariant_of-self : goal.invariant_of-self
invariant_of-self c = (none_set c.self.inside.rows.items c.self.inside.activations.items c.self.invariant c.args.self.now c.self.view_is c.args.edge.now.to.0 c.index_mut-row.result.now c.set.new.self c.index_mut-row.ensures.value
    c.in_err-set.ensures.unchanged).0

pub returns-in_err-set-clause-unchanged : goal.returns-in_err-set-clause-unchanged
returns-in_err-set-clause-unchanged c = on_error (none_set c.self.inside.rows.items c.self.inside.activations.items c.self.invariant c.args.self.now c.self.view_is c.args.edge.now.to.0 c.index_mut-row.result.now c.set.new.self
    c.index_mut-row.ensures.value c.in_err-set.ensures.unchanged).1 c.from_residual.result

pub returns-then-has_at_most-clause-lowered : goal.returns-then-has_at_most-clause-lowered
returns-then-has_at_most-clause-lowered c = lowered_kept c.args.self.now c.args.edge.now (sym c.has_at_most.ensures ∙ c.if-has_at_most.true)

pub invariant_of-self-2 : goal.invariant_of-self-2
invariant_of-self-2 c = (one_set c.self.inside.rows.items c.self.inside.activations.items c.self.invariant c.args.self.now c.self.view_is
    (key_of c.args.edge.now) c.args.edge.now.weight c.requires.key c.requires.weight c.index_mut-row.result.now c.set.new.self c.index_mut-row.ensures.value c.in_ok-set.ensures.set).0

pub returns-clause-lowered : goal.returns-clause-lowered
returns-clause-lowered c =
    let less : has_at_most c.args.self.now c.args.edge.now ≡ false = sym c.has_at_most.ensures ∙ c.if-has_at_most.false in
    lowered_set c.args.self.now _ c.args.edge.now less (one_set c.self.inside.rows.items c.self.inside.activations.items c.self.invariant c.args.self.now c.self.view_is
    (key_of c.args.edge.now) c.args.edge.now.weight c.requires.key c.requires.weight c.index_mut-row.result.now c.set.new.self c.index_mut-row.ensures.value c.in_ok-set.ensures.set).1
