use Rattle.std.proofs.Common.{◌≡◌, ◌∙◌, ℕ, ap, sym, List, position}
use Rattle.std.specs.Option.{option_map}
use Rattle.std.specs.Str.{bytes_eq}
use Rattle.net_model.specs.Network.{bound_named}
use Rattle.net_model.specs.Declarations.{plan_declared}
use Rattle.net_model.proofs.NetworkLemmas.{bound_named-names_of}
use Rattle.net_model.proofs.declarations.Declared.named_bound.Goals as goal
use Rattle.net_model.proofs.declarations.Declared.named_bound.Goals.{After-get_index_of}

-- what the set of the names answers is the bound of the name
found : (c : After-get_index_of) → option_map (λ k. record { 0 = k }) c.get_index_of.result ≡ bound_named c.args.self.now c.args.name.now
found c =
    let keys = ap (λ (names : List (List ℕ)). position (bytes_eq c.args.name.now) names) c.self.invariant.bound_names in
    ap (option_map (λ k. record { 0 = k })) (c.get_index_of.ensures.index ∙ keys) ∙ bound_named-names_of (plan_declared c.self.inside) c.args.name.now ∙ ap (λ net. bound_named net c.args.name.now) c.self.view_is

pub returns-in_err-place : goal.returns-in_err-place
returns-in_err-place c = c.from_residual.ensures ∙ ap (option_map (λ k. record { 0 = k })) (sym c.in_err-place.was) ∙ found (goal.at.returns-in_err-place c).After-get_index_of

pub returns : goal.returns
returns c = ap (option_map (λ k. record { 0 = k })) (sym c.in_ok-place.was) ∙ found (goal.at.returns c).After-get_index_of
