use Rattle.labelled_graph.proofs.MirrorLemmas.{mirror_of_all}
use Rattle.labelled_graph.proofs.row.Row.all_words.Goals as goal

pub returns : goal.returns
returns c = mirror_of_all c.self.inside.target c.self.inside.entries.items c.as_slice.result.now c.args.points c.in_ok-words.words c.write_words.new.ordinary c.args.self.now c.self.view_is c.self.invariant.rises c.as_slice.ensures.value
    c.in_ok-words.ensures c.write_words.ensures
