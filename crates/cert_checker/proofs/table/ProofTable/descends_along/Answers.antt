use Rattle.std.proofs.Common.{rules, ◌≡◌, position}
use Rattle.cert_checker.specs.Tables.{rises}
use Rattle.cert_checker.proofs.TestOutcomeLemmas.{found_within}
use Rattle.cert_checker.proofs.table.ProofTable.descends_along.Goals as goal

pub refused_at-requires : goal.refused_at-requires
refused_at-requires g c =
    let found : c.first_refused-found.result ≡ position (rises c.args.order.now) c.args.self.now.edges = search rules in
    found_within (rises c.args.order.now) c.args.self.now.edges c.first_refused-found.result found
