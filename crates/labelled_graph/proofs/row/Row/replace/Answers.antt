use Rattle.std.proofs.Common.{set}
use Rattle.labelled_graph.proofs.MirrorLemmas.{kept_set}
use Rattle.labelled_graph.proofs.RowLemmas.{set_found, not_missed}
use Rattle.labelled_graph.proofs.row.Row.replace.Goals as goal

pub invariant_of-self : goal.invariant_of-self
invariant_of-self c = kept_set c.self.inside.target c.self.inside.entries.items (set c.self.inside.entries.items c.in-Ok.place c.of.result) c.self.inside.ordinary c.write_word.new.ordinary c.args.self.now c.args.edge.now c.self.invariant
    c.self.view_is c.requires.to (set_found c.self.inside.target c.self.inside.entries.items c.args.self.now c.self.view_is c.self.invariant.rises c.as_slice.result.now c.as_slice.ensures.value c.args.edge.now c.requires.to c.of.result
    c.of.ensures c.in-Ok.place c.in-Ok.ensures.place) c.write_word.ensures

pub returns-in-Ok : goal.returns-in-Ok
returns-in-Ok c = (set_found c.self.inside.target c.self.inside.entries.items c.args.self.now c.self.view_is c.self.invariant.rises c.as_slice.result.now c.as_slice.ensures.value c.args.edge.now c.requires.to c.of.result c.of.ensures
    c.in-Ok.place c.in-Ok.ensures.place).1

pub returns-in_default : goal.returns-in_default
returns-in_default c = absurd (not_missed c.self.inside.target c.self.inside.entries.items c.args.self.now c.self.view_is c.self.invariant.rises c.as_slice.result.now c.as_slice.ensures.value c.args.edge.now c.requires.to
    c.in_default.field-0 c.in_default.ensures.place c.requires.present)
