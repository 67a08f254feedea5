use Rattle.std.proofs.Common.{◌≡◌, ◌∙◌, ap, ◌++◌, ◌∷◌, [], List, ℕ, take}
use Rattle.std.proofs.lemmas.List.{take_all}
use Rattle.texts.proofs.PrintedLineLemmas.{line_pushed}
use Rattle.texts.proofs.printed_lines.push_line.Goals as goal

pub returns : goal.returns
returns c =
    let others = c.args.others.now in
    let whole : take c.loop-word.word-index others ≡ others = take_all c.loop-word.word-index others c.loop-word-test.false in
    c.in_ok-push-2.ensures.items
    ∙ (ap (λ (xs : List ℕ). xs ++ 10 ∷ []) c.loop-word.invariant
    ∙ rw whole (line_pushed c.args.out.now.items c.args.first.now others))
