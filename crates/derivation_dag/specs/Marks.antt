-- Marks of the nodes of a list, by their numbers.
use Rattle.std.specs.Prelude.{◌≡◌, ◌↔◌, ◌<◌, Bool, true, false, List, fold}
use Rattle.std.specs.List.{slice_index_or, slice_set, list_any, Contains, AllPairs}
use Rattle.closure_model.specs.Derivations.{premises_of}
use Rattle.closure_model.specs.declared.derivation.NodeId.{NodeId}
use Rattle.closure_model.specs.declared.derivation.Rule.{Rule}

-- the mark of a node
abbrev pub mark_of : List Bool → NodeId → Bool
mark_of marks id = slice_index_or marks id.0 false

-- a node is marked
abbrev pub IsMarked : List Bool → NodeId → Type 0
IsMarked marks id = mark_of marks id ≡ true

-- a premise of a rule is marked
abbrev pub marks_premise : List Bool → Rule → Bool
marks_premise marks rule = list_any (mark_of marks) (premises_of rule)

-- the marks with some nodes marked besides
abbrev pub marked_with : List Bool → List NodeId → List Bool
marked_with marks ids = fold (λ m id. slice_set m id.0 true) marks ids

-- the numbers of the marked nodes, in order, each once
pub record AreMarked (marks : List Bool) (found : List NodeId) : Type 0 where
  pub each : (id : NodeId) → Contains found id ↔ IsMarked marks id
  pub in_order : AllPairs (λ (first second : NodeId). first.0 < second.0) found
