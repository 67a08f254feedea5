-- The candidate that is not worse is the one for the key.
use Rattle.std.proofs.Common.{rules, ◌≡◌, ◌∙◌, ℤ, ap, refl, w64, to_z, of_z}
use Rattle.std.specs.Prelude.{slice_get, slice_set}
use Rattle.back_propagation.specs.BestCandidates.{HasCandidate}
use Rattle.back_propagation.proofs.BestSteps.{taken_replaced}
use Rattle.back_propagation.proofs.best_candidates.BestCandidates.compare.Goals as goal

pub returns-then-is_better : goal.returns-then-is_better
returns-then-is_better c =
    let total : to_z w64 (of_z w64 c.args.candidate.total) ≡ c.args.candidate.total = search rules in
    let weight : to_z w64 (of_z w64 c.args.candidate.weight) ≡ c.args.candidate.weight = search rules in
    let held : HasCandidate c.args.self.now c.candidate-held.result = record {
      k = c.args.one;
      mark = ap (slice_get c.args.self.now.marks.items) c.candidate-held.ensures.to ∙ c.requires.one;
      begin = c.candidate-held.ensures.begin;
      total = c.candidate-held.ensures.total;
    } in
    taken_replaced c.args.self.now _ c.args.candidate c.candidate-held.result c.requires.apart held c.candidate-held.ensures.to c.if-is_better.ensures refl
    (ap (λ (w : ℤ). slice_set c.args.self.now.begins.items c.args.one (w, c.args.candidate.place)) weight)
    (ap (slice_set c.args.self.now.totals.items c.args.one) total)
