-- What is read of the shown form of a network.
use Rattle.std.proofs.Common.{◌≡◌, ℕ, List, ap}
use Rattle.std.specs.Option.{option_map}
use Rattle.std.specs.Str.{bytes_eq}
use Rattle.net_model.proofs.Positions.{position-map}
use Rattle.net_model.specs.Network.{Plan, bound_named}
use Rattle.net_model.specs.ShownForm.{shown_bound, shown_form}
use Rattle.net_model.specs.declared.ids.BoundId.{BoundId}
use Rattle.net_model.specs.declared.part.Bound.{Bound}

-- the same bounds have names
pub bound_named_shown : (net : Plan) (name : List ℕ) → bound_named (shown_form net) name ≡ bound_named net name
bound_named_shown net name =
    ap (option_map (λ k. let id : BoundId = record { 0 = k } in id)) (position-map (λ (b : Bound). bytes_eq name b.name) (shown_bound net) net.bounds)
