use Rattle.std.proofs.Common.{◌∙◌, ap, sym, subst}
use Rattle.closure_model.specs.Tables.{Graph, IsGraph}
use Rattle.closure_model.proofs.BaseLemmas.{base_shape, base_sound}
use Rattle.labelled_graph.proofs.LoopLemmas.{base_made, bounds_for, links_for}
use Rattle.labelled_graph.proofs.table.Table.of.Goals as goal

pub lower_to_bounds-requires : goal.lower_to_bounds-requires
lower_to_bounds-requires c = bounds_for c.args.net.now c.bounds.ensures.sound c.in_ok-table.table c.bounds.result.now c.in_ok-table.ensures c.bounds.ensures.bounds

pub lower_to_links-requires-clause-sound : goal.lower_to_links-requires-clause-sound
lower_to_links-requires-clause-sound c =
    links_for c.args.net.now c.links.ensures.sound c.in_ok-table.table c.lower_to_bounds.new.self c.bounds.result.now c.links.result.now c.in_ok-table.ensures c.in_ok-lower_to_bounds.ensures c.links.ensures.links

pub returns-clause-base : goal.returns-clause-base
returns-clause-base c =
    base_made c.args.net.now c.in_ok-table.table c.lower_to_bounds.new.self c.lower_to_links.new.self c.bounds.result.now c.links.result.now c.in_ok-table.ensures c.in_ok-lower_to_bounds.ensures c.bounds.ensures.bounds
    c.in_ok-lower_to_links.ensures c.links.ensures.links

pub returns-clause-shape : goal.returns-clause-shape
returns-clause-shape c =
    ap (λ (g : Graph). g.shape) (base_made c.args.net.now c.in_ok-table.table c.lower_to_bounds.new.self c.lower_to_links.new.self c.bounds.result.now c.links.result.now c.in_ok-table.ensures c.in_ok-lower_to_bounds.ensures
    c.bounds.ensures.bounds c.in_ok-lower_to_links.ensures c.links.ensures.links)
    ∙ base_shape c.args.net.now c.links.ensures.sound

pub returns-clause-sound : goal.returns-clause-sound
returns-clause-sound c =
    subst IsGraph
    (sym (base_made c.args.net.now c.in_ok-table.table c.lower_to_bounds.new.self c.lower_to_links.new.self c.bounds.result.now c.links.result.now c.in_ok-table.ensures c.in_ok-lower_to_bounds.ensures c.bounds.ensures.bounds
    c.in_ok-lower_to_links.ensures c.links.ensures.links))
    (base_sound c.args.net.now c.links.ensures.sound)
