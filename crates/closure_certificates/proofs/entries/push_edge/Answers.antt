use Rattle.std.proofs.Common.{rules, List, ◌++◌, ◌∷◌, [], ap, ◌∙◌}
use Rattle.cert_format.specs.declared.entry.Entry.{Entry}
use Rattle.closure_certificates.proofs.EntryLemmas.{ordinary_entry, labelled_entry}
use Rattle.closure_certificates.proofs.entries.push_edge.Goals as goal

pub returns-in_ok-push-in-None : goal.returns-in_ok-push-in-None
returns-in_ok-push-in-None c =
    let before : List Entry = c.args.entries.now.items in
    let edge = c.args.edge.now in
    c.in_ok-push-in-None.ensures.items
    ∙ ap (λ (entry : Entry). before ++ entry ∷ []) (ordinary_entry c.args.net.now edge.from edge.to edge.weight edge.label _ _ _ _ c.point_name-from.ensures c.point_name.ensures (search rules) c.in-None.is)

pub returns-in_ok-push-in-Some : goal.returns-in_ok-push-in-Some
returns-in_ok-push-in-Some c =
    let before : List Entry = c.args.entries.now.items in
    let edge = c.args.edge.now in
    c.in_ok-push-in-Some.ensures.items
    ∙ ap (λ (entry : Entry). before ++ entry ∷ []) (labelled_entry c.args.net.now edge.from edge.to edge.weight edge.label c.in-Some.label _ _ _ _ c.point_name-from.ensures c.link_name.ensures (search rules) c.in-Some.is)
