use Rattle.std.proofs.Common.{rules, ◌≡◌, pos, ◌+ℤ◌, ◌≤ℤ◌, ◌∙◌, ap, arith}
use Rattle.std.specs.Prelude.{int_lt}
use Rattle.std.specs.Int.{int_max, int_min}
use Rattle.std.proofs.lemmas.Int.{ints}
use Rattle.labelled_graph.specs.Words.{absent}
use Rattle.labelled_graph.proofs.WordLemmas.{improves_under}
use Rattle.labelled_graph.proofs.dense_row.descends.Goals as goal

pub returns : goal.returns
returns c none =
    let most : c.args.first ≤ℤ absent = (let range = c.ranges.first in omega (arith, ints, range)) in
    let limit : c.limited.result ≡ int_min c.args.there (absent +ℤ c.args.weight) = search rules in
    let below : c.goes_below.result ≡ int_lt (int_max c.args.first (pos 0) +ℤ c.args.weight) c.limited.result = search rules in
    improves_under c.args.first c.args.there c.args.weight c.goes_below.result (below ∙ ap (int_lt (int_max c.args.first (pos 0) +ℤ c.args.weight)) limit) c.requires.negative most none
