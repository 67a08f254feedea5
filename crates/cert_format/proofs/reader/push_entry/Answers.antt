use Rattle.std.proofs.Common.{rules, List, ◌++◌, ◌∷◌, [], ap, ◌∙◌}
use Rattle.cert_format.specs.declared.entry.Entry.{Entry}
use Rattle.cert_format.proofs.EdgeLemmas.{same_entry_again}
use Rattle.cert_format.proofs.reader.push_entry.Goals as goal

pub returns-clause-kept : goal.returns-clause-kept
returns-clause-kept c =
    let before : List Entry = c.args.entries.now.items in
    c.in_ok-push.ensures.items ∙ ap (λ (entry : Entry). before ++ entry ∷ []) (same_entry_again c.args.entry _ _ (search rules))
