use Rattle.std.proofs.Common.{◌≡◌, drop}
use Rattle.std.specs.Prelude.{◌==◌, find}
use Rattle.net_model.specs.declared.part.Link.{Link}
use Rattle.example_executions.proofs.lists.link_into.Given as goal

abbrev pub invariant-loop-link : goal.invariant-loop-link
invariant-loop-link l =
    find (λ (link : Link). link.to.0 == l.point.0) l.links ≡ find (λ (link : Link). link.to.0 == l.point.0) (drop l.link-index l.links)
