use Rattle.std.proofs.Common.{ap, sym, ◌∙◌, subst}
use Rattle.cert_checker.specs.OpenEntries.{is_open_before}
use Rattle.cert_checker.specs.Sound.{IsSoundEdge, Stated}
use Rattle.cert_checker.proofs.ScanLemmas.{before_end}
use Rattle.cert_checker.proofs.table.ProofTable.opens_before.Goals as goal

pub returns : goal.returns
returns c =
    let second = c.args.second.now in
    let sound : IsSoundEdge c.self.inside.net second = subst (λ (t : Stated). IsSoundEdge t.net second) (sym c.self.view_is) c.requires.sound in
    c.improves_before.ensures ∙ before_end c.self.inside.net c.self.inside.first c.self.inside.edges.items c.self.inside.least c.self.invariant second sound c.requires.negative
    ∙ ap (λ (t : Stated). is_open_before t.edges second) c.self.view_is
