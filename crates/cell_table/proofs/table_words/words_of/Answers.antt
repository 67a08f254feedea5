use Rattle.std.proofs.Common.{rules, ◌≡◌, ◌+◌, ◌*◌, ℕ, ap, ◌∙◌}
use Rattle.cell_table.proofs.FillLemmas.{first_word, next_word, all_words}
use Rattle.cell_table.proofs.table_words.words_of.Goals as goal

pub loop-place-init : goal.loop-place-init
loop-place-init c = search (rules, first_word)

pub loop-place-preserved : goal.loop-place-preserved
loop-place-preserved c =
    next_word c.args.table.now c.loop-place.place c.loop-place.words.items c.push-in-loop-place.new.self.items c.word_at.result (c.in_ok-push-2.ensures).items c.loop-place.invariant c.word_at.ensures

pub returns : goal.returns
returns c =
    let count : c.loop-place.place ≡ (c.args.points + c.args.links) * c.args.points = search rules in
    all_words c.args.table.now c.loop-place.place c.loop-place.words.items
    (ap (λ (n : ℕ). n + 1) count ∙ (λ i. (c.requires.points i + c.requires.links i) * c.requires.points i + 1)) c.loop-place.invariant
