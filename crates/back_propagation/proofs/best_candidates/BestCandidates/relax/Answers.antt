-- The mark of the key says whether it has a candidate.
use Rattle.std.proofs.Common.{◌≡◌, ◌∙◌, ◌-◌, ◌+◌, Some, length, refl, ap, arith}
use Rattle.std.proofs.lemmas.Option.{slice_get_read}
use Rattle.back_propagation.proofs.best_candidates.BestCandidates.relax.Goals as goal

pub add-requires-clause-none : goal.add-requires-clause-none
add-requires-clause-none c = slice_get_read c.args.self.now.marks.items (length c.args.self.now.marks.items) c.args.candidate.to c.index-mark.result.now refl c.requires.to c.index-mark.ensures ∙ ap Some c.if-mark-eq0.true

pub compare-requires-clause-one : goal.compare-requires-clause-one
compare-requires-clause-one c =
    let some = c.if-mark-eq0.false in
    let next : c.index-mark.result.now ≡ c.index-mark.result.now - 1 + 1 = omega (arith, some) in
    slice_get_read c.args.self.now.marks.items (length c.args.self.now.marks.items) c.args.candidate.to c.index-mark.result.now refl c.requires.to c.index-mark.ensures ∙ ap Some next
