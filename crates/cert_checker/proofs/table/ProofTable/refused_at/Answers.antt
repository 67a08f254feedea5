use Rattle.std.proofs.Common.{◌+◌, sym, ap, ◌∙◌}
use Rattle.cert_checker.specs.Sound.{Stated}
use Rattle.cert_checker.proofs.TestOutcomeLemmas.{none_refused, refused_first}
use Rattle.cert_checker.proofs.table.ProofTable.refused_at.Goals as goal

pub returns-in-None : goal.returns-in-None
returns-in-None c = λ test is. none_refused test c.args.self.now.first c.args.why c.args.self.now.edges (sym c.in-None.is ∙ is)

pub returns-in-Some : goal.returns-in-Some
returns-in-Some c = λ test is. refused_first test c.args.self.now.first c.args.why c.args.self.now.edges c.in-Some.place (c.self.inside.first + c.in-Some.place) (ap (λ (t : Stated). t.first + c.in-Some.place) c.self.view_is)
    (sym c.in-Some.is ∙ is)
