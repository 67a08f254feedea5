use Rattle.std.proofs.Common.{not, sym, ap, ◌∙◌, subst}
use Rattle.cert_checker.specs.Least.{IsSmallEdge}
use Rattle.cert_checker.specs.Sound.{Stated}
use Rattle.cert_checker.specs.Tables.{stands_among}
use Rattle.cert_checker.proofs.table.ProofTable.lacks.Goals as goal

pub returns : goal.returns
returns c =
    let edge = c.args.edge.now in
    let small : IsSmallEdge c.self.inside.net edge = subst (λ (t : Stated). IsSmallEdge t.net edge) (sym c.self.view_is) c.requires in
    ap not (c.has_word_at_most.ensures c.self.inside.net c.self.inside.first c.self.inside.edges.items c.self.invariant small ∙ ap (λ (t : Stated). stands_among t.edges edge) c.self.view_is)
