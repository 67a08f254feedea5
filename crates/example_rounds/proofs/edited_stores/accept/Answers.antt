use Rattle.std.proofs.Common.{◌∙◌, ap}
use Rattle.net_model.specs.Network.{Plan}
use Rattle.closure_model.specs.Derivations.{Support, StandsOn, edges_of_nodes}
use Rattle.closure_model.specs.Keys.{shape_of}
use Rattle.closure_model.specs.Tables.{Graph, IsFor, no_edges}
use Rattle.closure_model.proofs.TableLemmas.{all_lowered-shape}
use Rattle.example_rounds.proofs.edited_stores.accept.Goals as goal

fits : (net : Plan) (support : Support) → StandsOn net support → IsFor net support.table
fits net support stands = ap (λ (t : Graph). t.shape) stands.table ∙ all_lowered-shape (no_edges (shape_of net)) (edges_of_nodes support.nodes)

pub improving_edge-requires : goal.improving_edge-requires
improving_edge-requires c = fits c.args.net.now c.args.store.now c.requires

pub accept-requires-clause-for_network : goal.accept-requires-clause-for_network
accept-requires-clause-for_network c = fits c.args.net.now c.args.store.now c.requires
