use Rattle.std.proofs.Common.{◌≡◌, ◌∙◌, ap, rules, subst, w64, to_z, of_z}
use Rattle.std.proofs.lemmas.Result.{IfOk-weaker}
use Rattle.net_model.specs.Network.{Plan}
use Rattle.net_model.specs.ShownForm.{shown_form}
use Rattle.refutation_certificates.specs.Refutations.{Refutes}
use Rattle.closure_certificates.specs.Certified.{Certifies}
use Rattle.strategy_model.specs.Control.{IsControllable}
use Rattle.verdicts.proofs.VerdictLemmas.{decides_no}
use Rattle.deadline_search.specs.Goals.{with_goal}
use Rattle.deadline_search.proofs.goal_search.Search.refutation.Goals as goal

pub returns : goal.returns
returns g c =
    let net = c.in_ok-net.net in
    let at = with_goal c.args.self.now.net c.args.self.now.goal c.args.most in
    let number : to_z w64 (of_z w64 c.args.most) ≡ c.args.most = search rules in
    let is : net ≡ at = c.in_ok-net.ensures ∙ ap (with_goal c.args.self.now.net c.args.self.now.goal) number in
    let never : ¬ IsControllable (shown_form net) =
    λ controls. c.requires.none (record { from_lowest = c.requires.low; to_highest = c.requires.high; kept = subst IsControllable is ((c.law_controllable_is_shown.ensures net c.sound.ensures).1 controls) }) in
    IfOk-weaker c.certify_by_rounds.result (Certifies (shown_form net)) (Refutes (shown_form at)) (λ cert decides. subst (λ (n : Plan). Refutes (shown_form n) cert) is (decides_no (shown_form net) cert never decides))
    c.certify_by_rounds.ensures
