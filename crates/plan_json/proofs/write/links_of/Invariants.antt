use Rattle.std.proofs.Common.{◌≡◌, ◌++◌, map, drop}
use Rattle.serde_json.specs.View.{view}
use Rattle.plan_json.specs.DocumentText.{link_data}
use Rattle.plan_json.proofs.write.links_of.Given as goal

-- the values so far and those of what is left are those of all
abbrev pub invariant-loop-link : goal.invariant-loop-link
invariant-loop-link l = map view l.values.items ++ map (link_data l.net.points) (drop l.link-index l.link-items) ≡ map (link_data l.net.points) l.link-items
