-- When a reduction of the labelled distance graph applies, and what it then gives (Morris and Muscettola 2005, in this project's exact
-- form), by labels, ends and signs.
use Rattle.std.specs.Prelude.{◌≡◌, ◌≢◌, pos, ◌-ℤ◌, ◌<ℤ◌, Some, None, IsSome}
use Rattle.std.specs.Int.{int_max}
use Rattle.net_model.specs.Edges.{Meet}
use Rattle.net_model.specs.Rules.{joined_weight}
use Rattle.net_model.specs.declared.ids.LinkId.{LinkId}
use Rattle.net_model.specs.declared.part.Edge.{Edge}
use Rattle.net_model.specs.declared.part.Link.{Link}

-- no-case: two edges without a label are consecutive, and the second is below 0
pub record NoCaseApplies (first second : Edge) : Type 0 where
  pub first_ordinary : first.label ≡ None
  pub second_ordinary : second.label ≡ None
  pub meeting : Meet first second
  pub negative : second.weight <ℤ pos 0

-- upper-case: an edge without a label is followed by one with a label, which is below 0
pub record UpperCaseApplies (first second : Edge) : Type 0 where
  pub first_ordinary : first.label ≡ None
  pub second_labelled : IsSome second.label
  pub meeting : Meet first second
  pub negative : second.weight <ℤ pos 0

-- what either gives: the edge over both edges, with the label of the second
abbrev pub joined : Edge → Edge → Edge
joined first second = record { from = first.from; to = second.to; label = second.label; weight = joined_weight first second }

-- lower-case: an edge without a label, below 0, begins in the contingent point of a link
pub record LowerCaseApplies (link : Link) (second : Edge) : Type 0 where
  pub ordinary : second.label ≡ None
  pub begins : second.from ≡ link.to
  pub negative : second.weight <ℤ pos 0

-- cross-case: an edge labelled by another link, below 0, begins in the contingent point of a link
pub record CrossCaseApplies (name : LinkId) (link : Link) (second : Edge) : Type 0 where
  pub labelled : IsSome second.label
  pub another : second.label ≢ Some name
  pub begins : second.from ≡ link.to
  pub negative : second.weight <ℤ pos 0

-- what removal gives from an edge that a link labels
abbrev pub without_label : Link → Edge → Edge
without_label link premise = record premise { label = None; weight = int_max premise.weight (pos 0 -ℤ link.low) }
