use Rattle.std.proofs.Common.{◌++◌, [], ◌∷◌, List, take, ap, sym, ◌∙◌, subst}
use Rattle.net_model.specs.Network.{Plan}
use Rattle.net_model.specs.declared.edit.Edit.{Edit}
use Rattle.session_command.specs.Followed.{AreAccepted}
use Rattle.session_command.proofs.EditingLemmas.{next_makes, taken_more}
use Rattle.session_command.proofs.derivations.Derivations.follow_all.Goals as goal

pub loop-edit-preserved : goal.loop-edit-preserved
loop-edit-preserved g c =
    let so_far = c.loop-edit.invariant in
    let first = c.args.self.first in
    let edit = c.edit-item.result in
    let next : AreAccepted first ((c.args.self.edits ++ take c.loop-edit.edit-index c.args.edits.now) ++ edit ∷ []) =
    next_makes first c.requires.accepted.0 c.args.self.edits c.args.edits.now c.loop-edit.edit-index edit c.loop-edit-test.true c.edit-item.is c.requires.accepted.1 in
    let accepted = subst (λ (net : Plan). AreAccepted net (c.loop-edit.derivations.edits ++ edit ∷ [])) (sym so_far.0)
    (subst (λ (edits : List Edit). AreAccepted first (edits ++ edit ∷ [])) (sym so_far.1) next) in (
      c.in_ok-derivations.ensures.first ∙ so_far.0,
      taken_more c.args.self.edits c.args.edits.now _ c.loop-edit.edit-index edit c.loop-edit-test.true c.edit-item.is
          (c.in_ok-derivations.ensures.edits accepted ∙ ap (λ (edits : List Edit). edits ++ edit ∷ []) so_far.1),
    )
