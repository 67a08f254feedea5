use Rattle.labelled_graph.proofs.MirrorLemmas.{kept_gone}
use Rattle.labelled_graph.proofs.RowLemmas.{gone_found, gone_missed}
use Rattle.labelled_graph.proofs.row.Row.remove.Goals as goal

pub invariant_of-self : goal.invariant_of-self
invariant_of-self c = kept_gone c.self.inside.target c.self.inside.entries.items c.remove.new.self.items c.self.inside.ordinary c.erase_word.new.ordinary c.args.self.now c.args.edge.now c.self.invariant c.self.view_is c.requires
    (gone_found c.self.inside.target c.self.inside.entries.items c.args.self.now c.self.view_is c.self.invariant.rises c.as_slice.result.now c.as_slice.ensures.value c.args.edge.now c.requires c.in-Ok.place c.in-Ok.ensures.place
    c.remove.new.self.items c.remove.ensures.items) c.erase_word.ensures

pub returns-in-Ok : goal.returns-in-Ok
returns-in-Ok c = (gone_found c.self.inside.target c.self.inside.entries.items c.args.self.now c.self.view_is c.self.invariant.rises c.as_slice.result.now c.as_slice.ensures.value c.args.edge.now c.requires c.in-Ok.place
    c.in-Ok.ensures.place c.remove.new.self.items c.remove.ensures.items).1

pub returns-in_default : goal.returns-in_default
returns-in_default c = gone_missed c.self.inside.target c.self.inside.entries.items c.args.self.now c.self.view_is c.self.invariant.rises c.as_slice.result.now c.as_slice.ensures.value c.args.edge.now c.requires c.in_default.field-0
    c.in_default.ensures.place
