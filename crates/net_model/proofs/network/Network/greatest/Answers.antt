use Rattle.std.proofs.Common.{◌≡◌, pos, w64, ◌∙◌, ap, arith}
use Rattle.std.proofs.lemmas.Int.{to_z_pos, fits_signed_from_abs}
use Rattle.net_model.specs.Network.{greatest}
use Rattle.net_model.specs.StoredNetwork.{plan_of}
use Rattle.net_model.proofs.NetworkLemmas.{greatest-le}
use Rattle.net_model.proofs.network.Network.greatest.Goals as goal

pub overflow_cast-result : goal.overflow_cast-result
overflow_cast-result c =
    let small = greatest-le (plan_of c.self.inside) c.self.invariant.plan in
    let is : c.max.result ≡ greatest (plan_of c.self.inside) = cc in
    fits_signed_from_abs w64 (pos c.max.result) (omega arith)

pub returns : goal.returns
returns c =
    let small = greatest-le (plan_of c.self.inside) c.self.invariant.plan in
    let is : c.max.result ≡ greatest (plan_of c.self.inside) = cc in
    to_z_pos w64 c.max.result (omega arith) ∙ ap pos (is ∙ ap greatest c.self.view_is)
