use Rattle.std.proofs.Common.{◌≡◌, ◌∙◌, ap, rules, subst, sym, w64, to_z, of_z}
use Rattle.std.proofs.lemmas.Result.{IfOk-weaker}
use Rattle.net_model.specs.Network.{Plan}
use Rattle.net_model.specs.ShownForm.{shown_form}
use Rattle.strategy_model.specs.Control.{IsControllable}
use Rattle.closure_certificates.specs.Certified.{Certifies, Proves}
use Rattle.verdicts.proofs.VerdictLemmas.{decides_yes}
use Rattle.deadline_search.specs.Goals.{with_goal}
use Rattle.deadline_search.proofs.goal_search.Search.proof.Goals as goal

pub returns : goal.returns
returns g c =
    let net = c.in_ok-net.net in
    let at = with_goal c.args.self.now.net c.args.self.now.goal c.args.most in
    let number : to_z w64 (of_z w64 c.args.most) ≡ c.args.most = search rules in
    let is : net ≡ at = c.in_ok-net.ensures ∙ ap (with_goal c.args.self.now.net c.args.self.now.goal) number in
    let controls = (c.law_controllable_is_shown.ensures net c.sound.ensures).0 (subst IsControllable (sym is) c.requires.deadline.kept) in
    IfOk-weaker c.certify_by_closure.result (Certifies (shown_form net)) (Proves (shown_form at)) (λ cert decides. subst (λ (n : Plan). Proves (shown_form n) cert) is (decides_yes (shown_form net) cert controls decides))
    c.certify_by_closure.ensures
