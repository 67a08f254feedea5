-- How what is declared is stored while a network is made: the names of the points and those of the bounds in sets that keep their order, and for each point the
-- link that ends in it.
use Rattle.std.specs.Prelude.{◌≡◌, ℕ, ◌<◌, length, map, None}
use Rattle.std.specs.List.{slice_index_or}
use Rattle.net_model.specs.Network.{Plan, IsPlan, activation}
use Rattle.net_model.specs.declared.part.Bound.{Bound}
use Rattle.net_model.specs.declared.declarations.Declared.TheInside.{Inside}

-- the network that was declared
abbrev pub plan_declared : Inside → Plan
plan_declared net = record { points = net.points.keys; bounds = net.bounds.items; links = net.links.items; delay = net.delay }

pub record IsDeclared (net : Inside) : Type 0 where
  pub plan : IsPlan (plan_declared net)
  pub bound_names : net.bound_names.keys ≡ map (λ (b : Bound). b.name) net.bounds.items
  pub ending_count : length net.ending.items ≡ length net.points.keys
  pub ending : (p : ℕ) → p < length net.points.keys → slice_index_or net.ending.items p None ≡ activation (plan_declared net) (record { 0 = p })
