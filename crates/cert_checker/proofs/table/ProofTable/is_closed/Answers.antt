use Rattle.std.proofs.Common.{rules, ◌≡◌, position}
use Rattle.cert_checker.specs.Tables.{has_open_conclusion}
use Rattle.cert_checker.proofs.TestOutcomeLemmas.{found_within}
use Rattle.cert_checker.proofs.table.ProofTable.is_closed.Goals as goal

pub refused_at-requires : goal.refused_at-requires
refused_at-requires g c =
    let test = has_open_conclusion c.args.self.now.net c.args.self.now.edges in
    let found : c.first_refused-found.result ≡ position (has_open_conclusion c.args.self.now.net c.args.self.now.edges) c.args.self.now.edges = search rules in
    found_within test c.args.self.now.edges c.first_refused-found.result found
