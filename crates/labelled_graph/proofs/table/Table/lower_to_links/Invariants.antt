use Rattle.std.proofs.Common.{◌≡◌, ℕ, map, take, fold}
use Rattle.std.specs.List.{enumerate_from}
use Rattle.net_model.specs.Rules.{link_edge}
use Rattle.net_model.specs.declared.part.Link.{Link}
use Rattle.closure_model.specs.Tables.{lowered}
use Rattle.labelled_graph.proofs.table.Table.lower_to_links.Given as goal

abbrev pub invariant-loop-place : goal.invariant-loop-place
invariant-loop-place l = l.self ≡ fold lowered l.initial.self (map (λ (e : ℕ × Link). link_edge (record { 0 = e.0 }) e.1) (enumerate_from 0 (take l.place l.links)))
