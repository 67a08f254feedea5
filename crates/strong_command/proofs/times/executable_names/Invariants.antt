use Rattle.std.proofs.Common.{◌≡◌, map, take, is_none}
use Rattle.std.specs.List.{filter}
use Rattle.net_model.specs.Network.{activation}
use Rattle.net_model.specs.NetworkParts.{point_name}
use Rattle.strategy_model.specs.Plays.{points_of}
use Rattle.strong_command.proofs.times.executable_names.Given as goal

abbrev pub invariant-loop-k : goal.invariant-loop-k
invariant-loop-k l = l.names.items ≡ map (point_name l.net.points) (filter (λ p. is_none (activation l.net p)) (take l.k (points_of l.net)))
