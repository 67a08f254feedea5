use Rattle.std.proofs.Common.{◌∙◌, ap, insert, set}
use Rattle.labelled_graph.proofs.MirrorLemmas.{kept_set}
use Rattle.labelled_graph.proofs.RowLemmas.{set_found, set_missed}
use Rattle.labelled_graph.proofs.row.Row.put.Goals as goal

pub invariant_of-self : goal.invariant_of-self
invariant_of-self c = kept_set c.self.inside.target c.self.inside.entries.items (set c.self.inside.entries.items c.in-Ok.place c.of.result) c.self.inside.ordinary c.write_word.new.ordinary c.args.self.now c.args.edge.now c.self.invariant
    c.self.view_is c.requires.to (set_found c.self.inside.target c.self.inside.entries.items c.args.self.now c.self.view_is c.self.invariant.rises c.as_slice.result.now c.as_slice.ensures.value c.args.edge.now c.requires.to c.of.result
    c.of.ensures c.in-Ok.place c.in-Ok.ensures.place) c.write_word.ensures

pub invariant_of-self-in-Err : goal.invariant_of-self-in-Err
invariant_of-self-in-Err c = kept_set c.self.inside.target c.self.inside.entries.items c.insert.new.self.items c.self.inside.ordinary c.write_word-in-Err.new.ordinary c.args.self.now c.args.edge.now c.self.invariant c.self.view_is
    c.requires.to (set_missed c.self.inside.target c.self.inside.entries.items c.args.self.now c.self.view_is c.self.invariant.rises c.as_slice.result.now c.as_slice.ensures.value c.args.edge.now c.requires.to c.of-in-Err.result
    c.of-in-Err.ensures c.in-Err.place c.in-Err.ensures.place c.insert.new.self.items (c.in_ok-insert-in-Err.ensures.items ∙ ap (λ es. insert es c.in-Err.place c.of-in-Err.result) c.reserve_one.ensures.items)) c.write_word-in-Err.ensures

pub returns-in-Ok-clause-set : goal.returns-in-Ok-clause-set
returns-in-Ok-clause-set c = (set_found c.self.inside.target c.self.inside.entries.items c.args.self.now c.self.view_is c.self.invariant.rises c.as_slice.result.now c.as_slice.ensures.value c.args.edge.now c.requires.to c.of.result
    c.of.ensures c.in-Ok.place c.in-Ok.ensures.place).1

pub returns-in_ok-insert-in-Err-clause-set : goal.returns-in_ok-insert-in-Err-clause-set
returns-in_ok-insert-in-Err-clause-set c = (set_missed c.self.inside.target c.self.inside.entries.items c.args.self.now c.self.view_is c.self.invariant.rises c.as_slice.result.now c.as_slice.ensures.value c.args.edge.now c.requires.to
    c.of-in-Err.result c.of-in-Err.ensures c.in-Err.place c.in-Err.ensures.place c.insert.new.self.items (c.in_ok-insert-in-Err.ensures.items ∙ ap (λ es. insert es c.in-Err.place c.of-in-Err.result) c.reserve_one.ensures.items)).1
