use Rattle.std.proofs.Common.{rules}
use Rattle.std.proofs.lemmas.Fn.{always_returns_same}
use Rattle.closure_model.specs.Keys.{key_cmp}
use Rattle.labelled_graph.specs.Entries.{key_into, key_with}
use Rattle.labelled_graph.proofs.RowLemmas.{searched_place}
use Rattle.labelled_graph.proofs.row.place_of.Goals as goal

-- the closure compares an entry with the key
pub returns-clause-range : goal.returns-clause-range
returns-clause-range c = c.binary_search_by.ensures.bound

pub returns-clause-place : goal.returns-clause-place
returns-clause-place c = λ to rises.
    let facts = c.binary_search_by.ensures in
    let by_key = facts.position (λ entry. key_cmp (key_into to entry) (key_with to c.args.from c.args.label)) (always_returns_same _ _ _ (λ a r f called. search rules)) in
    searched_place to c.args.entries.now (key_with to c.args.from c.args.label) rises c.binary_search_by.result facts.bound by_key
