use Rattle.std.proofs.Common.{◌≡◌, ◌<◌, ℕ, get_or}
use Rattle.std.specs.declared.cmp.Ordering.TheVariants.{Less}
use Rattle.net_model.specs.declared.ids.PointId.{PointId}
use Rattle.closure_model.specs.Keys.{key_cmp}
use Rattle.labelled_graph.specs.Entries.{key_into, key_with}
use Rattle.labelled_graph.specs.declared.entry.Entry.{Entry}
use Rattle.labelled_graph.proofs.row.place_soon.Given as goal

abbrev pub invariant-loop-place : goal.invariant-loop-place
invariant-loop-place l = (to : PointId) (j : ℕ) (d : Entry) → j < l.place → key_cmp (key_into to (get_or l.entries j d)) (key_with to l.from l.label) ≡ Less
