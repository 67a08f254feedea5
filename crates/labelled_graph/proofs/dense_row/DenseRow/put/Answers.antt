use Rattle.std.proofs.Common.{rules, ◌≡◌, ◌∙◌, ap, set, w32, to_z, of_z}
use Rattle.labelled_graph.proofs.WordLemmas.{row_put}
use Rattle.labelled_graph.proofs.dense_row.DenseRow.put.Goals as goal

pub returns-then-place-len : goal.returns-then-place-len
returns-then-place-len c =
    let kept : to_z w32 (of_z w32 c.word_of.result) ≡ c.word_of.result = search rules in
    row_put c.self.inside.words.items _ c.args.self.now c.args.from.0 c.args.weight c.self.view_is (ap (set c.self.inside.words.items c.args.from.0) (kept ∙ c.word_of.ensures))
