use Rattle.std.proofs.Common.{◌≡◌, sym, ap, subst, Err, ◌∙◌}
use Rattle.net_model.specs.BuiltNetwork.{with_part}
use Rattle.net_model.specs.EditedNetwork.{Edits, added, cause_of}
use Rattle.net_model.specs.Network.{Plan}
use Rattle.net_model.specs.declared.edit.EditFault.{EditFault}
use Rattle.net_model.proofs.EditLemmas.{refused_part, made_of}
use Rattle.net_model.proofs.network.Network.with_part.Goals as goal

pub returns-in-Err : goal.returns-in-Err
returns-in-Err c =
    let copied : c.in_ok-declared.declared ≡ c.args.self.now = c.in_ok-declared.ensures
    ∙ ap (λ (net : Plan). record { points = c.points.result.now; bounds = c.bounds.result.now; links = c.links.result.now; delay = net.delay }) c.self.view_is
    ∙ made_of c.args.self.now c.points.result.now c.bounds.result.now c.links.result.now c.points.ensures.points c.bounds.ensures.bounds c.links.ensures.links in
    subst (λ (cause : EditFault). Edits (Err cause) (added (with_part c.args.self.now c.args.part.now))) (sym c.of_edit.ensures)
    (subst (λ (net : Plan). Edits (Err (cause_of c.in-Err.fault)) (added (with_part net c.args.part.now))) copied
    (refused_part c.in_ok-declared.declared c.add.new.self c.in-Err.fault (with_part c.in_ok-declared.declared c.args.part.now) c.in-Err.ensures))
