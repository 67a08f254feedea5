use Rattle.std.proofs.Common.{◌≡◌, ◌++◌, ℕ, map, take}
use Rattle.std.specs.Prelude.{filter}
use Rattle.std.specs.List.{enumerate_from}
use Rattle.net_model.specs.declared.part.Bound.{Bound}
use Rattle.closure_model.specs.Derivations.{bound_node}
use Rattle.support_records.specs.Moves.{moves_of}
use Rattle.support_records.specs.NewNodes.{is_bound_new}
use Rattle.support_records.proofs.new_base.push_new_bounds.Given as goal

abbrev pub invariant-loop-place : goal.invariant-loop-place
invariant-loop-place l =
    l.nodes.items ≡ l.initial.nodes.items ++ map bound_node (filter (λ (e : ℕ × Bound). is_bound_new (moves_of l.moves) l.moves.points.old.now e.1) (take l.place (enumerate_from 0 l.moves.points.new.now.bounds)))
