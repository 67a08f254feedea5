use Rattle.std.proofs.Common.{◌≡◌, ℕ, ◌+◌, ◌<◌, ◌≤◌, List, map, fold, drop, drop_of_length-le, length, sym, ap, ◌∙◌}
use Rattle.std.specs.Borrow.{Bor}
use Rattle.std.specs.List.{slice_index_or}
use Rattle.std.proofs.lemmas.List.{at_drop_more}
use Rattle.clap.specs.Words.{App, Rule, app_of, with_rule}
use Rattle.command_words.specs.Syntax.{Text}
use Rattle.command_words.specs.ClapRules.{clap_rule_for}
use Rattle.command_words.proofs.command.with_names.Goals as goal

module _ (rule : Text → Rule) where
  -- what the names from a place on make of a command
  abbrev rest : List (Bor Text) → App → App
  rest names app = fold with_rule app (map rule (map (λ name. name.now) names))

  one_more : (names : List (Bor Text)) (i : ℕ) (d : Bor Text) (before after : App) (made : Rule) → i < length names → made ≡ rule (slice_index_or names i d).now
      → after ≡ with_rule before made → rest (drop (i + 1) names) after ≡ rest (drop i names) before
  one_more names i d before after made lt is grown =
      ap (rest (drop (i + 1) names)) (grown ∙ ap (with_rule before) is) ∙ sym (at_drop_more (λ l. rest l before) names i d lt)

  at_the_end : (names : List (Bor Text)) (i : ℕ) (app whole : App) → length names ≤ i → rest (drop i names) app ≡ whole → app ≡ whole
  at_the_end names i app whole past same = sym (ap (λ l. rest l app) (drop_of_length-le names past)) ∙ same

pub loop-name-preserved : goal.loop-name-preserved
loop-name-preserved c =
    let grown = c.in_ok-command.ensures.shape c.argument.ensures.local in
    one_more (clap_rule_for c.args.kind) c.args.names.now c.loop-name.name-index _ (app_of c.loop-name.command) (app_of c.in_ok-command.command) _ c.loop-name-test.true c.argument.ensures.rule grown
    ∙ c.loop-name.invariant

pub returns : goal.returns
returns c = at_the_end (clap_rule_for c.args.kind) c.args.names.now c.loop-name.name-index (app_of c.loop-name.command) _ c.loop-name-test.false c.loop-name.invariant
