use Rattle.std.proofs.Common.{◌<◌, ◌∙◌, length, ap, sym, subst, arith}
use Rattle.std.specs.Prelude.{IfSome, Option}
use Rattle.net_model.specs.declared.part.Link.{Link}
use Rattle.execution_model.specs.Execution.{Setting, link_to}
use Rattle.live_executor.specs.Sound.{KeptNetwork, IsLinkWithin}
use Rattle.live_executor.proofs.SoundLemmas.{kept_length, link_sound}
use Rattle.live_executor.proofs.dispatched_network.Dispatched.link_to.Goals as goal

pub link_to-requires : goal.link_to-requires
link_to-requires c =
    let kept = c.self.inside in
    let inside : c.args.point.0 < length kept.dispatch.kept = subst (λ (n : KeptNetwork). c.args.point.0 < length n.setting.dispatch) (sym c.self.view_is) c.requires in
    omega (arith, inside, kept_length kept.dispatch c.self.invariant.kept.slim_or_whole)

pub returns-clause-link : goal.returns-clause-link
returns-clause-link c = c.link_to.ensures ∙ ap (λ (n : KeptNetwork). link_to n.setting c.args.point) c.self.view_is

pub returns-clause-sound : goal.returns-clause-sound
returns-clause-sound c =
    let kept = c.self.inside in
    let setting : Setting = record { links = kept.dispatch.links; dispatch = kept.dispatch.kept } in
    subst (λ (n : KeptNetwork). IfSome c.link_to.result (IsLinkWithin (length n.setting.dispatch))) c.self.view_is
    (subst (λ (o : Option Link). IfSome o (IsLinkWithin (length kept.dispatch.kept))) (sym c.link_to.ensures) (link_sound setting c.args.point c.self.invariant.kept.sound))
