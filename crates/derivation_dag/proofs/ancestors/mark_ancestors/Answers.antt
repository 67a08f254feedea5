use Rattle.std.proofs.Common.{length, refl, ap, ◌∙◌, sym, subst}
use Rattle.derivation_dag.specs.Marks.{IsMarked, marked_with}
use Rattle.derivation_dag.proofs.MarkLemmas.{ancestors_from}
use Rattle.derivation_dag.proofs.ancestors.mark_ancestors.Goals as goal

pub returns : goal.returns
returns c =
    let nodes = c.args.nodes.now in
    let ids = c.args.ids.now in
    let marked_first = c.mark_all.ensures ∙ ap (λ m. marked_with m ids) c.requires.none in
    λ found are.
    ancestors_from nodes ids (length nodes) c.mark_under.new.marks found refl c.requires.within
    (λ id is. let (top, first, descent) = c.mark_under.ensures.under id is in (top, subst (λ m. IsMarked m top) marked_first first, descent))
    (λ id top first descent. c.mark_under.ensures.whole id top (subst (λ m. IsMarked m top) (sym marked_first) first) descent)
    are
