use Rattle.std.proofs.Common.{◌≡◌, ◌∙◌, ◌++◌, ◌∷◌, [], Ok, sym, subst}
use Rattle.net_model.specs.EditedNetwork.{edited}
use Rattle.session_command.specs.EditHistory.{edits_in, first_in}
use Rattle.session_command.specs.Followed.{EditsMake, Past}
use Rattle.session_command.specs.Standing.{Standing}
use Rattle.session_command.proofs.EditingLemmas.{make_more}
use Rattle.session_command.proofs.edited_session.Editing.accept.Goals as goal

pub invariant_of-self-2 : goal.invariant_of-self-2
invariant_of-self-2 g c =
    let before = c.self.inside.net in
    let kept = c.self.inside.history in
    let after = c.args.net in
    let edit = c.args.edit.now in
    let made : edited before edit ≡ Ok after = subst (λ (standing : Standing). edited standing.net edit ≡ Ok after) (sym c.self.view_is) c.requires in
    let more = make_more (edits_in kept) (first_in before kept) before after edit c.self.invariant.made made in
    let past : c.in_ok-history.history ≡ record { first = first_in before kept; edits = edits_in kept ++ edit ∷ [] } =
    c.in_ok-history.ensures ∙ (λ i. record { first = first_in (c.replace-before.ensures.value i) (c.take-history.ensures.value i); edits = edits_in (c.take-history.ensures.value i) ++ edit ∷ [] }) in
    record {
      made = subst (EditsMake c.in_ok-history.history.first c.in_ok-history.history.edits) (sym c.replace-before.ensures.after) (subst (λ (p : Past). EditsMake p.first p.edits after) (sym past) more);
      verdict_so = tt;
    }
