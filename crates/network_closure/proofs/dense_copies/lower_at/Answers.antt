use Rattle.net_model.specs.declared.part.Edge.{Edge}
use Rattle.std.proofs.Common.{◌≡◌, Some}
use Rattle.network_closure.specs.Saturation.{IsEdgeBetween}
use Rattle.network_closure.proofs.CopyLemmas.{found_is, found_lowered, found_storable, lowered_among}
use Rattle.network_closure.proofs.dense_copies.lower_at.Goals as goal

pub lower_to_found-requires : goal.lower_to_found-requires
lower_to_found-requires c = found_storable c.args.net.now c.args.table.now c.args.dense.now c.requires.table c.requires.dense c.args.from c.args.to c.args.label c.edge_between-found.result c.edge_between-found.ensures

pub returns : goal.returns
returns c =
    lowered_among c.args.net.now c.args.table.now c.lower_to_found.new.table (λ (edge : Edge). c.edge_between-found.result ≡ Some edge) (IsEdgeBetween c.args.dense.now c.args.from c.args.to c.args.label)
    (found_lowered c.args.net.now c.args.table.now c.lower_to_found.new.table c.args.dense.now c.requires.table c.requires.dense c.args.from c.args.to c.args.label c.edge_between-found.result c.edge_between-found.ensures
    c.in_ok-lower_to_found.ensures)
    (found_is c.args.dense.now c.args.from c.args.to c.args.label c.edge_between-found.result c.edge_between-found.ensures)
