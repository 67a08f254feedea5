use Rattle.std.proofs.Common.{rules, ◌<◌, sym, subst, length}
use Rattle.std.specs.Prelude.{IsSome}
use Rattle.closure_model.specs.Keys.{key_of}
use Rattle.labelled_graph.proofs.StoredLemmas.{present_key, sound_graph, row_there, row_target, row_reads, short_label, one_set}
use Rattle.labelled_graph.proofs.table.Table.raise_to.Goals as goal

pub index_mut-row-requires : goal.index_mut-row-requires
index_mut-row-requires c =
    let sound = sound_graph c.self.inside.rows.items c.self.inside.activations.items c.self.invariant c.args.self.now c.self.view_is in
    let is_key = present_key c.args.self.now sound (key_of c.args.edge.now) c.requires.present in
    let inside : c.args.edge.now.to.0 < length c.self.inside.rows.items =
    row_there c.self.inside.rows.items c.self.inside.activations.items c.self.invariant c.args.self.now c.self.view_is c.args.edge.now.to is_key.to_point in
    search rules

pub replace-requires-clause-to : goal.replace-requires-clause-to
replace-requires-clause-to c =
    let sound = sound_graph c.self.inside.rows.items c.self.inside.activations.items c.self.invariant c.args.self.now c.self.view_is in
    let is_key = present_key c.args.self.now sound (key_of c.args.edge.now) c.requires.present in
    sym (row_target c.self.inside.rows.items c.self.inside.activations.items c.self.invariant c.args.self.now c.self.view_is c.args.edge.now.to is_key.to_point c.index_mut-row.result.now c.index_mut-row.ensures.value)

pub replace-requires-clause-label : goal.replace-requires-clause-label
replace-requires-clause-label c =
    let sound = sound_graph c.self.inside.rows.items c.self.inside.activations.items c.self.invariant c.args.self.now c.self.view_is in
    let is_key = present_key c.args.self.now sound (key_of c.args.edge.now) c.requires.present in
    short_label c.self.inside.rows.items c.self.inside.activations.items c.self.invariant c.args.self.now c.self.view_is (key_of c.args.edge.now) is_key

pub replace-requires-clause-present : goal.replace-requires-clause-present
replace-requires-clause-present c =
    let sound = sound_graph c.self.inside.rows.items c.self.inside.activations.items c.self.invariant c.args.self.now c.self.view_is in
    let is_key = present_key c.args.self.now sound (key_of c.args.edge.now) c.requires.present in
    subst IsSome (sym (row_reads c.self.inside.rows.items c.self.inside.activations.items c.self.invariant c.args.self.now c.self.view_is (key_of c.args.edge.now) is_key c.index_mut-row.result.now c.index_mut-row.ensures.value))
    c.requires.present

pub invariant_of-self : goal.invariant_of-self
invariant_of-self c =
    let sound = sound_graph c.self.inside.rows.items c.self.inside.activations.items c.self.invariant c.args.self.now c.self.view_is in
    let is_key = present_key c.args.self.now sound (key_of c.args.edge.now) c.requires.present in
    (one_set c.self.inside.rows.items c.self.inside.activations.items c.self.invariant c.args.self.now c.self.view_is (key_of c.args.edge.now) c.args.edge.now.weight is_key c.requires.weight c.index_mut-row.result.now c.replace.new.self
    c.index_mut-row.ensures.value c.replace.ensures).0

pub returns : goal.returns
returns c =
    let sound = sound_graph c.self.inside.rows.items c.self.inside.activations.items c.self.invariant c.args.self.now c.self.view_is in
    let is_key = present_key c.args.self.now sound (key_of c.args.edge.now) c.requires.present in
    (one_set c.self.inside.rows.items c.self.inside.activations.items c.self.invariant c.args.self.now c.self.view_is (key_of c.args.edge.now) c.args.edge.now.weight is_key c.requires.weight c.index_mut-row.result.now c.replace.new.self
    c.index_mut-row.ensures.value c.replace.ensures).1
