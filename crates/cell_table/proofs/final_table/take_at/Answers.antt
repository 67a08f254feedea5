use Rattle.std.proofs.Common.{rules, ◌≡◌, ◌+◌}
use Rattle.closure_model.specs.Keys.{key_of}
use Rattle.cell_table.proofs.TakeLemmas.{taken_one, held_edge, key_there, small_of}
use Rattle.cell_table.proofs.final_table.take_at.Goals as goal

pub weight_of_word-requires : goal.weight_of_word-requires
weight_of_word-requires c =
    let (key, is, at) = key_there c.args.table.now c.args.ends.now c.args.points c.args.place c.requires.shape c.requires.place in
    small_of c.args.word (c.requires.can key is at)

pub lower_to-requires-clause-weight : goal.lower_to-requires-clause-weight
lower_to-requires-clause-weight c =
    let same : c.edge_at-edge.result.weight ≡ c.in-Some.weight = search rules in
    c.requires.can (key_of c.edge_at-edge.result) c.edge_at-edge.ensures.key c.edge_at-edge.ensures.place c.edge_at-edge.result.weight
    (held_edge c.args.word c.weight_of_word.result c.in-Some.weight c.edge_at-edge.result.weight c.weight_of_word.ensures c.in-Some.is same)

pub returns-in_ok-lower_to-in-Some : goal.returns-in_ok-lower_to-in-Some
returns-in_ok-lower_to-in-Some c =
    let same : c.edge_at-edge.result.weight ≡ c.in-Some.weight = search rules in
    taken_one c.args.table.now c.lower_to.new.self (c.args.place + 1) c.args.word c.edge_at-edge.result
    (held_edge c.args.word c.weight_of_word.result c.in-Some.weight c.edge_at-edge.result.weight c.weight_of_word.ensures c.in-Some.is same)
    c.edge_at-edge.ensures.key c.edge_at-edge.ensures.place (c.in_ok-lower_to-in-Some.ensures.lowered.1)
