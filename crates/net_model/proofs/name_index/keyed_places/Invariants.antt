use Rattle.std.proofs.Common.{ℕ, ◌<◌, map}
use Rattle.std.specs.List.{All, Contains}
use Rattle.net_model.specs.NameIndex.{places_of, IsKeyed}
use Rattle.net_model.proofs.name_index.keyed_places.Given as goal

abbrev pub invariant-loop-place : goal.invariant-loop-place
invariant-loop-place g l = record {
  each : (p : ℕ) → p < l.place → Contains (places_of l.keyed.items) p;
  keys : All (IsKeyed (map g.T.Named.name_of l.items)) l.keyed.items;
}
