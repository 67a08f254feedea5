use Rattle.std.proofs.Common.{◌≡◌, ◌<◌, length, sym, subst}
use Rattle.net_model.specs.Network.{Plan}
use Rattle.closure_model.specs.Derivable.{IsDerivable}
use Rattle.network_closure.proofs.PartialClosureLemmas.{derivable_is}
use Rattle.forward_closure.specs.Rows.{row_edge_into}
use Rattle.forward_closure.proofs.search.Search.begin_before.Goals as goal

pub begin-requires : goal.begin-requires
begin-requires c =
    let edge = row_edge_into c.args.row.target c.args.edge in
    let below = (derivable_is c.self.inside.net.now c.sound.ensures edge (subst (λ (net : Plan). IsDerivable net edge) (sym c.self.view_is) c.requires.edge)).from_point in
    let put = c.put_row.ensures in
    let is = c.self.view_is in
    let same : c.put_row.new.self ≡ c.self.inside.net.now = cc in
    subst (λ (net : Plan). c.args.edge.from.0 < length net.points) (sym same) below
