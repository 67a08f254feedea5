use Rattle.std.proofs.Common.{◌≤ℤ◌, ◌+ℤ◌, ℕ, pos, get_or, subst, arith}
use Rattle.std.proofs.lemmas.List.{get_or_default}
use Rattle.std.proofs.lemmas.Int.{ints}
use mir.Val.{to_z, of_z}
use mir.Syntax.{w32}
use Rattle.network_closure.proofs.ConsequenceLemmas.{below_next}
use Rattle.forward_closure.specs.declared.source.Source.{Source}
use Rattle.forward_closure.proofs.RowLemmas.{no_source}
use Rattle.forward_closure.proofs.forward_test.are_met.Goals as goal

pub loop-first-preserved : goal.loop-first-preserved
loop-first-preserved c =
    below_next (λ (k : ℕ). (d : Source) → get_or c.args.words.now (get_or c.args.firsts.now k d).from.0 (pos 0) ≤ℤ ((get_or c.args.firsts.now k d).weight +ℤ to_z w32 (of_z w32 c.args.weight))) c.loop-first.first-index
    c.loop-first.invariant (λ d.
    subst (λ (s : Source). get_or c.args.words.now s.from.0 (pos 0) ≤ℤ (s.weight +ℤ to_z w32 (of_z w32 c.args.weight))) (get_or_default c.args.firsts.now c.loop-first.first-index no_source d c.loop-first-test.true)
    (let test = c.if-words-first.false in grind (arith, ints)))
