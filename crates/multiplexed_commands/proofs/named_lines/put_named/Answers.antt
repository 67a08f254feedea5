use Rattle.std.proofs.Common.{◌≡◌, ◌≤◌, ◌+◌, ◌++◌, ℕ, List, length, refl, sym, ap, ◌∙◌, subst, arith}
use Rattle.std.proofs.lemmas.List.{append-nil}
use Rattle.texts.specs.Lines.{lines}
use Rattle.multiplexed_commands.specs.NamedLines.{named}
use Rattle.multiplexed_commands.proofs.NamedLineLemmas.{lines_named, lines_whole}
use Rattle.multiplexed_commands.proofs.named_lines.put_named.Goals as goal

pub loop-line-init : goal.loop-line-init
loop-line-init c =
    let same : lines_named c.args.name.now (lines c.args.text.now) ≡ named c.args.name.now c.args.text.now = ap (lines_named c.args.name.now) (lines_whole c.args.text.now c.requires.whole) in
    record {
      goes_on = refl;
      spare_capacity = subst (λ (put : List ℕ). length c.args.answer.now.text + length put + 1 ≤ c.args.answer.now.capacity) (sym same) c.requires.spare_capacity;
      capacity = omega arith;
    }

pub returns-clause-text : goal.returns-clause-text
returns-clause-text c =
    let same : lines_named c.args.name.now (lines c.args.text.now) ≡ named c.args.name.now c.args.text.now = ap (lines_named c.args.name.now) (lines_whole c.args.text.now c.requires.whole) in
    sym (append-nil c.loop-line.answer.text)
    ∙ (ap (λ (ls : List (List ℕ)). c.loop-line.answer.text ++ lines_named c.args.name.now ls) (sym c.in_default.ensures.lines)
    ∙ (c.loop-line.invariant.goes_on ∙ ap (λ (put : List ℕ). c.args.answer.now.text ++ put) same))
