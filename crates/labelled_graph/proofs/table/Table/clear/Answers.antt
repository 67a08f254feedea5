use Rattle.std.proofs.Common.{rules, ◌<◌, sym, length}
use Rattle.closure_model.specs.Keys.{key_of}
use Rattle.labelled_graph.proofs.StoredLemmas.{present_key, sound_graph, row_there, row_target, one_gone}
use Rattle.labelled_graph.proofs.table.Table.clear.Goals as goal

pub index_mut-row-requires : goal.index_mut-row-requires
index_mut-row-requires c =
    let inside : c.args.edge.now.to.0 < length c.self.inside.rows.items = row_there c.self.inside.rows.items c.self.inside.activations.items c.self.invariant c.args.self.now c.self.view_is c.args.edge.now.to
    (present_key c.args.self.now (sound_graph c.self.inside.rows.items c.self.inside.activations.items c.self.invariant c.args.self.now c.self.view_is) (key_of c.args.edge.now) c.requires).to_point in
    search rules

pub remove-requires : goal.remove-requires
remove-requires c = sym (row_target c.self.inside.rows.items c.self.inside.activations.items c.self.invariant c.args.self.now c.self.view_is c.args.edge.now.to
    (present_key c.args.self.now (sound_graph c.self.inside.rows.items c.self.inside.activations.items c.self.invariant c.args.self.now c.self.view_is) (key_of c.args.edge.now) c.requires).to_point c.index_mut-row.result.now
    c.index_mut-row.ensures.value)

pub invariant_of-self : goal.invariant_of-self
invariant_of-self c = (one_gone c.self.inside.rows.items c.self.inside.activations.items c.self.invariant c.args.self.now c.self.view_is (key_of c.args.edge.now)
    (present_key c.args.self.now (sound_graph c.self.inside.rows.items c.self.inside.activations.items c.self.invariant c.args.self.now c.self.view_is) (key_of c.args.edge.now) c.requires) c.index_mut-row.result.now c.remove.new.self
    c.index_mut-row.ensures.value c.remove.ensures).0

pub returns : goal.returns
returns c = (one_gone c.self.inside.rows.items c.self.inside.activations.items c.self.invariant c.args.self.now c.self.view_is (key_of c.args.edge.now)
    (present_key c.args.self.now (sound_graph c.self.inside.rows.items c.self.inside.activations.items c.self.invariant c.args.self.now c.self.view_is) (key_of c.args.edge.now) c.requires) c.index_mut-row.result.now c.remove.new.self
    c.index_mut-row.ensures.value c.remove.ensures).1
