use Rattle.std.proofs.Common.{◌∙◌}
use Rattle.labelled_graph.proofs.MirrorLemmas.{kept_merged}
use Rattle.labelled_graph.proofs.row.Row.merge.Goals as goal

pub invariant_of-self : goal.invariant_of-self
invariant_of-self c = kept_merged c.self.inside.target c.self.inside.entries.items c.in_ok-self-inside.field-0.items c.as_slice.result.now c.args.new.now c.self.inside.ordinary c.write_words.new.ordinary c.args.self.now c.self.invariant
    (c.self.view_is ∙ c.keep_words.ensures) c.requires c.as_slice.ensures.value c.in_ok-self-inside.ensures c.write_words.ensures
