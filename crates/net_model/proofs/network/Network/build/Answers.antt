use Rattle.std.proofs.Common.{◌≡◌, subst, ap, sym, ◌∙◌, IfOk, Result, Ok}
use Rattle.net_model.specs.Network.{Plan, HasPlanNumbers}
use Rattle.net_model.specs.BuiltNetwork.{with_parts}
use Rattle.net_model.specs.declared.fault.BuildFault.{BuildFault}
use Rattle.net_model.proofs.DelayLemmas.{built_delay}
use Rattle.net_model.proofs.PlanNumbers.{built_numbers}
use Rattle.net_model.proofs.network.Network.build.Goals as goal

pub returns-clause-numbers : goal.returns-clause-numbers
returns-clause-numbers c =
    let parts = c.args.parts.now in
    let made = ap (λ (net : Plan). with_parts 0 net parts) (sym c.empty-declared.ensures) ∙ c.in_ok-add_all.ensures ∙ ap Ok (sym c.in_ok-net.ensures) in
    subst (λ (answer : Result Plan BuildFault). IfOk answer HasPlanNumbers) made (built_numbers parts)

pub returns-clause-no_delay : goal.returns-clause-no_delay
returns-clause-no_delay c =
    let parts = c.args.parts.now in
    let made = ap (λ (net : Plan). with_parts 0 net parts) (sym c.empty-declared.ensures) ∙ c.in_ok-add_all.ensures ∙ ap Ok (sym c.in_ok-net.ensures) in
    subst (λ (answer : Result Plan BuildFault). IfOk answer (λ (net : Plan). net.delay ≡ 0)) made (built_delay parts)
