use Rattle.std.proofs.Common.{◌≡◌, ℕ, ◌<◌, ◌==◌, false, get_or}
use Rattle.net_model.specs.declared.part.Link.{Link}
use Rattle.example_references.proofs.consequence_lists.place_into.Given as goal

abbrev pub invariant-loop-place : goal.invariant-loop-place
invariant-loop-place l = (k : ℕ) (d : Link) → k < l.place → (get_or l.links k d).to.0 == l.point.0 ≡ false
