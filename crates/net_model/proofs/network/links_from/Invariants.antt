use Rattle.std.proofs.Common.{◌≡◌, ◌==◌, ℕ, map, filter, take}
use Rattle.std.specs.List.{enumerate_from}
use Rattle.net_model.specs.declared.part.Link.{Link}
use Rattle.net_model.proofs.network.links_from.Given as goal

abbrev pub invariant-loop-place : goal.invariant-loop-place
invariant-loop-place l = l.found.items ≡ map (λ (e : ℕ × Link). record { 0 = e.0 }) (filter (λ (e : ℕ × Link). e.1.from.0 == l.point.0) (enumerate_from 0 (take l.place l.links)))
