use Rattle.std.proofs.Common.{◌≡◌, ◌++◌, ℕ, List, sym, ap, ◌∙◌}
use Rattle.std.proofs.lemmas.List.{append-nil}
use Rattle.texts.specs.Lines.{lines}
use Rattle.multiplexed_commands.specs.NamedLines.{named}
use Rattle.multiplexed_commands.proofs.NamedLineLemmas.{lines_named, lines_whole}
use Rattle.multiplexed_commands.proofs.named_lines.push_named.Goals as goal

pub returns-clause-text : goal.returns-clause-text
returns-clause-text c =
    let same : lines_named c.args.name.now (lines c.args.text.now) ≡ named c.args.name.now c.args.text.now = ap (lines_named c.args.name.now) (lines_whole c.args.text.now c.requires) in
    sym (append-nil c.loop-line.answer.text)
    ∙ (ap (λ (ls : List (List ℕ)). c.loop-line.answer.text ++ lines_named c.args.name.now ls) (sym c.in_default.ensures.lines)
    ∙ (c.loop-line.invariant.goes_on ∙ ap (λ (put : List ℕ). c.args.answer.now.text ++ put) same))
