use Rattle.std.proofs.Common.{◌≡◌, ◌∙◌, ℕ, Some, ap, false, sym, subst}
use Rattle.std.specs.Prelude.{is_some}
use Rattle.dispatch_net.specs.Dispatchable.{conditions_at}
use Rattle.dispatch_net.specs.declared.dispatch.Conditions.{Conditions}
use Rattle.net_model.specs.Moments.{moment_of}
use Rattle.execution_model.specs.Execution.{link_to, is_due}
use Rattle.live_executor.specs.Due.{PassesFrom}
use Rattle.live_executor.specs.Sound.{KeptNetwork}
use Rattle.live_executor.proofs.DueLemmas.{MayBeDue, due_from_both}
use Rattle.live_executor.proofs.dispatched_network.Dispatched.due_from.Goals as goal

pub returns : goal.returns
returns c =
    let setting = c.args.self.now.setting in
    let no_link : is_some (link_to setting c.args.point) ≡ false = cc in
    let no_moment : is_some (moment_of c.args.moments.now c.args.point) ≡ false = cc in
    let conditions : Conditions = record { lower_bounds = c.lower_bounds.result.now; waits = c.waits.result.now } in
    let may : MayBeDue setting c.args.moments.now c.args.point c.links.result.now conditions = record {
      no_link = no_link;
      no_moment = no_moment;
      same_links = c.links.ensures.links ∙ ap (λ (n : KeptNetwork). n.setting.links) c.self.view_is;
      bounds = c.lower_bounds.ensures ∙ ap (λ (n : KeptNetwork). (conditions_at n.setting.dispatch c.args.point).lower_bounds) c.self.view_is;
      waits = c.waits.ensures ∙ ap (λ (n : KeptNetwork). (conditions_at n.setting.dispatch c.args.point).waits) c.self.view_is;
    } in
    subst (λ (first : ℕ). PassesFrom (λ t. is_due setting c.args.moments.now t c.args.point) (Some first)) (sym c.max.ensures)
    (due_from_both setting c.args.moments.now c.args.point c.links.result.now conditions may c.in_ok-bounds.bounds c.in_ok-waits.waits c.in_ok-bounds.ensures c.in_ok-waits.ensures)
