use Rattle.std.proofs.Common.{◌≡◌, ◌⊎◌, ◌/◌, ◌*◌, ◌+◌, ℕ, ◌≤◌, ◌∙◌, length, arith, inl, inr}
use Rattle.std.proofs.lemmas.Bool.{cases_eq}
use Rattle.std.proofs.lemmas.List.{length-set, get_or-set_other}
use Rattle.tournament_queue.proofs.TournamentLemmas.{found_above}
use Rattle.std.specs.Prelude.{None}
use Rattle.tournament_queue.proofs.firsts.find_above.Goals as goal

pub slice_copy_out-first_of-in-loop-place : goal.slice_copy_out-first_of-in-loop-place
slice_copy_out-first_of-in-loop-place c = let i = c.loop-place.invariant in omega (arith, i.inside, i.count, c.requires.even)

pub loop-place-preserved : goal.loop-place-preserved
loop-place-preserved c =
    let i = c.loop-place.invariant in
    let below = c.loop-place.place in
    let half : ℕ = below / 2 in
    let firsts = c.loop-place.firsts in
    let long = length-set firsts half c.first_of.result in
    let above : (below ≡ 2 * half) ⊎ (below ≡ 2 * half + 1) = elim (cases_eq below (2 * half)) [ inl even ↦ inl even | inr apart ↦ inr (omega (arith, apart)) ] in
    record {
      some = omega arith;
      inside = omega (arith, i.inside, long);
      others = found_above firsts below half c.first_of.result (omega arith) i.inside above i.others c.first_of.ensures;
      count = long ∙ i.count;
      leaves = λ leaf deep. get_or-set_other firsts half leaf c.first_of.result None (omega (arith, deep, i.inside, i.count)) ∙ i.leaves leaf deep;
    }
