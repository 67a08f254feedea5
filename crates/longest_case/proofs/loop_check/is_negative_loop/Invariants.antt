use Rattle.std.proofs.Common.{◌≡◌, take}
use Rattle.strategy_model.specs.Edges.{IsWalk, total}
use Rattle.longest_case.proofs.loop_check.is_negative_loop.Given as goal

abbrev pub invariant-loop-edge : goal.invariant-loop-edge
invariant-loop-edge l = record { walked : IsWalk l.begin (take l.edge-index l.walk) l.at; counted : l.total ≡ total (take l.edge-index l.walk) }
