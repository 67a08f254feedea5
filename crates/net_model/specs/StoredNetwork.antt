-- How a network is stored: its three lists and its delay, the indexes of its points and of its bounds by their names, and for each
-- point the link that ends in it.
use Rattle.std.specs.Prelude.{◌≡◌, ℕ, ◌<◌, length, map, None}
use Rattle.std.specs.List.{slice_index_or}
use Rattle.net_model.specs.NameIndex.{IsNameIndex}
use Rattle.net_model.specs.Network.{Plan, IsPlan, activation}
use Rattle.net_model.specs.declared.part.Bound.{Bound}
use Rattle.net_model.specs.declared.network.Network.TheInside.{Inside}

-- the network that is stored
abbrev pub plan_of : Inside → Plan
plan_of net = record { points = net.points.items; bounds = net.bounds.items; links = net.links.items; delay = net.delay }

-- what holds of every stored network: it is sound, each index is that of the names of its list, and for each point the link that ends in it stands there
pub record IsStored (net : Inside) : Type 0 where
  pub plan : IsPlan (plan_of net)
  pub point_index : IsNameIndex net.points.items net.point_index.items
  pub bound_index : IsNameIndex (map (λ (b : Bound). b.name) net.bounds.items) net.bound_index.items
  pub ending_count : length net.ending.items ≡ length net.points.items
  pub ending : (p : ℕ) → p < length net.points.items → slice_index_or net.ending.items p None ≡ activation (plan_of net) (record { 0 = p })
