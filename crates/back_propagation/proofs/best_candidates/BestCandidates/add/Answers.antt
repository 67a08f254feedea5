-- The candidate is the last one, and its key has its mark.
use Rattle.std.proofs.Common.{rules, ◌≡◌, ◌∙◌, ◌+◌, ◌∷◌, ◌++◌, [], ℤ, ap, w64, to_z, of_z, arith, length, length-append}
use Rattle.std.specs.Prelude.{slice_set}
use Rattle.std.proofs.lemmas.Option.{slice_get_within}
use Rattle.back_propagation.proofs.BestSteps.{taken_added}
use Rattle.back_propagation.proofs.best_candidates.BestCandidates.add.Goals as goal

pub index_mut-requires : goal.index_mut-requires
index_mut-requires c = let inside = slice_get_within c.args.self.now.marks.items c.args.candidate.to 0 c.requires.none in omega (arith, inside, c.args.self.now.marks.ok.0)

pub returns : goal.returns
returns c =
    let total : to_z w64 (of_z w64 c.args.candidate.total) ≡ c.args.candidate.total = search rules in
    let weight : to_z w64 (of_z w64 c.args.candidate.weight) ≡ c.args.candidate.weight = search rules in
    let count : c.len.result ≡ length c.args.self.now.begins.items + 1 =
    c.len.ensures ∙ (c.push.new.self.ok.0 ∙ (ap length c.in_ok-push.ensures.items ∙ length-append c.args.self.now.begins.items ((to_z w64 (of_z w64 c.args.candidate.weight), c.args.candidate.place) ∷ []))) in
    taken_added c.args.self.now _ c.args.candidate c.requires.apart c.requires.none (ap (slice_set c.args.self.now.marks.items c.args.candidate.to) count)
    (c.in_ok-push.ensures.items ∙ ap (λ (w : ℤ). c.args.self.now.begins.items ++ (w, c.args.candidate.place) ∷ []) weight)
    (c.in_ok-push-2.ensures.items ∙ ap (λ (t : ℤ). c.args.self.now.totals.items ++ t ∷ []) total)
