use Rattle.std.proofs.Common.{◌≡◌, ◌<◌, ◌∙◌, ℕ, get_or, refl, subst, sym, arith}
use mir.Val.{to_z, of_z}
use mir.Syntax.{w32}
use Rattle.std.proofs.lemmas.Int.{ints}
use Rattle.std.proofs.lemmas.List.{length-set}
use Rattle.std.proofs.lemmas.List.Elements.{Contains-get_or}
use Rattle.forward_closure.proofs.RowLemmas.{words_begin, words_more, no_source}
use Rattle.forward_closure.proofs.forward_test.set_words.Goals as goal

pub loop-source-init : goal.loop-source-init
loop-source-init c = record { long = refl; are = λ before. words_begin before c.args.row.now c.args.words.now.items }

pub loop-source-preserved : goal.loop-source-preserved
loop-source-preserved c =
    let may = c.requires c.loop-source.source-index no_source c.loop-source-test.true in
    let small = may.1 in
    let kept : to_z w32 (of_z w32 (get_or c.args.row.now c.loop-source.source-index no_source).weight) ≡ (get_or c.args.row.now c.loop-source.source-index no_source).weight = omega (arith, ints, small) in
    record {
      long = length-set c.loop-source.words.items _ _ ∙ c.loop-source.invariant.long;
      are = λ before begin.
          words_more before c.args.row.now c.loop-source.words.items (get_or c.args.row.now c.loop-source.source-index no_source) (to_z w32 (of_z w32 (get_or c.args.row.now c.loop-source.source-index no_source).weight)) kept
          (subst (λ (n : ℕ). (get_or c.args.row.now c.loop-source.source-index no_source).from.0 < n) (sym c.loop-source.invariant.long) may.0) (Contains-get_or c.args.row.now c.loop-source.source-index no_source c.loop-source-test.true)
          (c.loop-source.invariant.are before begin);
    }
