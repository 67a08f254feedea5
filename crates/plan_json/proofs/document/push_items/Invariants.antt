use Rattle.std.proofs.Common.{◌≡◌, ◌≤◌, map, drop, length}
use Rattle.net_model.specs.Limits.{most_lines}
use Rattle.serde_json.specs.View.{view}
use Rattle.plan_json.specs.Document.{items_parts}
use Rattle.plan_json.specs.DocumentReading.{with_prefix}
use Rattle.plan_json.proofs.document.push_items.Given as goal

-- the parts so far and those of what is left are those of all, and there are no fewer parts than items that were read
abbrev pub invariant-loop-count : goal.invariant-loop-count
invariant-loop-count l =
    (with_prefix l.parts.items (items_parts l.list l.count (map view (drop l.count l.items))) ≡ with_prefix l.fn.parts.items (items_parts l.list 0 (map view l.items)))
    × (l.count ≤ length l.parts.items) × (length l.parts.items ≤ most_lines)
