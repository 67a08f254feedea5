use Rattle.std.proofs.Common.{◌≡◌, ◌∙◌, ap, sym, map, position}
use Rattle.std.specs.Option.{option_map}
use Rattle.std.specs.Str.{bytes_eq}
use Rattle.net_model.specs.Network.{bound_named}
use Rattle.net_model.specs.StoredNetwork.{plan_of}
use Rattle.net_model.specs.declared.part.Bound.{Bound}
use Rattle.net_model.proofs.NetworkLemmas.{bound_named-names_of}
use Rattle.net_model.proofs.network.Network.named_bound.Goals as goal
use Rattle.net_model.proofs.network.Network.named_bound.Goals.{After-place_of}

-- what the index finds is the bound of the name
found : (c : After-place_of) → option_map (λ k. record { 0 = k }) c.place_of.result ≡ bound_named c.args.self.now c.args.name.now
found c =
    let bounds = ap (λ items. position (bytes_eq c.args.name.now) (map (λ (b : Bound). b.name) items)) c.as_slice.ensures.value in
    ap (option_map (λ k. record { 0 = k })) (c.place_of.ensures ∙ bounds) ∙ bound_named-names_of (plan_of c.self.inside) c.args.name.now ∙ ap (λ net. bound_named net c.args.name.now) c.self.view_is

pub returns-in_err-place : goal.returns-in_err-place
returns-in_err-place c = c.from_residual.ensures ∙ ap (option_map (λ k. record { 0 = k })) (sym c.in_err-place.was) ∙ found (goal.at.returns-in_err-place c).After-place_of

pub returns : goal.returns
returns c = ap (option_map (λ k. record { 0 = k })) (sym c.in_ok-place.was) ∙ found (goal.at.returns c).After-place_of
