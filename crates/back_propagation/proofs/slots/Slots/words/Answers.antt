-- The words of one column stand one after another.
use Rattle.std.proofs.Common.{◌≡◌, ◌<◌, ◌∙◌, ◌+◌, ◌*◌, ◌%◌, ◌^◌, ℕ, length, ap, sym, subst, arith}
use Rattle.std.specs.Prelude.{slice_range}
use Rattle.back_propagation.specs.SlimSlots.{width_in}
use Rattle.back_propagation.proofs.SlimSteps.{column_ends, words_stand}
use Rattle.back_propagation.proofs.slots.Slots.words.Goals as goal

pub word_place-begin-requires : goal.word_place-begin-requires
word_place-begin-requires c =
    let width : c.len-width.result ≡ length c.self.inside.labels.items = c.len-width.ensures ∙ c.self.inside.labels.ok.0 in
    let ends = column_ends c.self.inside c.self.invariant c.args.place in
    let column : c.column_in.result ≡ c.args.place % width_in c.self.inside = c.column_in.ensures ∙ ap (λ (n : ℕ). c.args.place % (n + 1)) width in
    subst (λ (n : ℕ). n * c.self.inside.points + 0 < 2 ^ 64) (sym column) (omega (arith, ends, c.self.invariant.small, c.self.invariant.words))

pub returns : goal.returns
returns c = λ head slot other at there same.
    let width : c.len-width.result ≡ length c.self.inside.labels.items = c.len-width.ensures ∙ c.self.inside.labels.ok.0 in
    let whole : c.args.place % width_in c.self.inside * c.self.inside.points + 0 ≡ c.args.place % width_in c.self.inside * c.self.inside.points = omega arith in
    let begin : c.word_place-begin.result ≡ c.args.place % width_in c.self.inside * c.self.inside.points = c.word_place-begin.ensures
    ∙ (ap (λ (n : ℕ). n * c.self.inside.points + 0) (c.column_in.ensures ∙ ap (λ (n : ℕ). c.args.place % (n + 1)) width) ∙ whole) in
    words_stand c.self.inside c.args.self.now c.self.view_is c.self.invariant c.args.place c.requires
    (slice_range c.deref.result.now c.word_place-begin.result (c.word_place-begin.result + c.self.inside.points))
    (λ i. slice_range (c.deref.ensures.value i) (begin i) (begin i + c.self.inside.points)) head slot other at there same
