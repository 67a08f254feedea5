-- The candidate is relaxed exactly if it is below what the table has.
use Rattle.std.proofs.Common.{◌∙◌, ◌<◌, ◌∷◌, [], ℕ, ap, sym, subst}
use Rattle.back_propagation.specs.BestCandidates.{HasTaken}
use Rattle.back_propagation.specs.declared.best_candidates.Candidate.{Candidate}
use Rattle.back_propagation.proofs.SeedSteps.{no_candidate, one_candidate}
use Rattle.back_propagation.proofs.BestSteps.{taken_nothing}
use Rattle.back_propagation.proofs.open_row.OpenRow.relax_candidate_over.Goals as goal

pub relax-requires-clause-to : goal.relax-requires-clause-to
relax-requires-clause-to c = subst (λ (n : ℕ). c.candidate_over.result.to < n) (sym c.requires.keys) c.candidate_over.ensures.inside

pub returns-then-not-passes : goal.returns-then-not-passes
returns-then-not-passes c =
    subst (HasTaken c.args.candidates.now c.args.candidates.now) (sym (no_candidate c.args.table.now c.args.self.now.width c.args.edge.now c.args.column c.args.first.now (sym c.passes.ensures ∙ c.if-not-passes.true)))
    (taken_nothing c.args.candidates.now c.requires.apart)

pub returns : goal.returns
returns c =
    let lists = ap (λ (candidate : Candidate). candidate ∷ []) c.candidate_over.ensures.candidate ∙ sym (one_candidate c.args.table.now c.args.self.now.width c.args.edge.now c.args.column c.args.first.now (sym c.passes.ensures
    ∙ c.if-not-passes.false)) in
    subst (HasTaken c.args.candidates.now c.relax.new.self) lists c.in_ok-relax.ensures
