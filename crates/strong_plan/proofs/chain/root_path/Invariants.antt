use Rattle.std.proofs.Common.{◌≡◌, ◌-◌, length, suc}
use Rattle.std.specs.Option.{option_map}
use Rattle.net_model.specs.Network.{IsPoint}
use Rattle.strong_plan.specs.ReducedEdges.{chain_within, chain_of}
use Rattle.strong_plan.proofs.RootPathLemmas.{root_path_after}
use Rattle.strong_plan.proofs.chain.root_path.Given as goal

abbrev pub invariant-loop-links : goal.invariant-loop-links
invariant-loop-links l =
    IsPoint l.net l.at × (option_map (root_path_after l.links l.at) (chain_within l.net (suc (length l.net.points) - l.links) l.at) ≡ option_map (root_path_after 0 l.fn.point) (chain_of l.net l.fn.point))
