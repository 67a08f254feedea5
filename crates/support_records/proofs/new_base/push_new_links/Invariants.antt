use Rattle.std.proofs.Common.{◌≡◌, ◌++◌, ℕ, map, take}
use Rattle.std.specs.Prelude.{filter}
use Rattle.std.specs.List.{enumerate_from}
use Rattle.net_model.specs.declared.part.Link.{Link}
use Rattle.closure_model.specs.Derivations.{link_node}
use Rattle.support_records.specs.Moves.{moves_of}
use Rattle.support_records.specs.NewNodes.{is_link_new}
use Rattle.support_records.proofs.new_base.push_new_links.Given as goal

abbrev pub invariant-loop-place : goal.invariant-loop-place
invariant-loop-place l =
    l.nodes.items ≡ l.initial.nodes.items ++ map link_node (filter (λ (e : ℕ × Link). is_link_new (moves_of l.moves) l.moves.points.old.now l.moves.points.new.now e.1) (take l.place (enumerate_from 0 l.moves.points.new.now.links)))
