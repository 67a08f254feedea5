-- A derivation list of which some nodes are held, each under its number.
use Rattle.std.specs.Prelude.{◌≡◌, ◌≤◌, ◌⊎◌, ℕ, Bool, true, false, List, Some, length, map, slice_get, slice_index_or}
use Rattle.std.specs.List.{All, Contains}
use Rattle.closure_model.specs.Derivations.{node_at, premises_of, IsUnder, AreAncestors}
use Rattle.closure_model.specs.declared.derivation.Node.{Node}
use Rattle.closure_model.specs.declared.derivation.NodeId.{NodeId}
use Rattle.derivation_dag.specs.Numbers.{NumbersNodes}
use Rattle.derivation_dag.specs.declared.numbers.Numbers.{Numbers}
use Rattle.derivation_dag.specs.declared.pruned_dag.Numbered.{Numbered}

-- nodes of a list, each with the number that it has there
abbrev pub AreNumbered : List Node → List Numbered → Type 0
AreNumbered whole held = All (λ (one : Numbered). node_at whole one.id ≡ Some one.node) held

-- the numbers of nodes
abbrev pub numbers_in : List Numbered → List NodeId
numbers_in held = map (λ (one : Numbered). one.id) held

-- what is held of a list: some of its nodes, how many it has, and the node of each key
pub record IsHeld (whole : List Node) (held : List Numbered) (count : ℕ) (numbers : Numbers) : Type 0 where
  pub each : AreNumbered whole held
  pub counted : count ≡ length whole
  pub newest : NumbersNodes whole numbers

-- nodes with their numbers are those on which given ones rest, and these, in order of making
pub record AreAncestorsIn (whole : List Node) (ids : List NodeId) (found : List Numbered) : Type 0 where
  pub numbered : AreNumbered whole found
  pub ancestors : AreAncestors whole ids (numbers_in found)

-- a node is a given one, or one on which a given one rests
abbrev pub IsUnderOne : List Node → List NodeId → NodeId → Type 0
IsUnderOne whole ids below = (id : NodeId) × Contains ids id × IsUnder whole below id

-- the node at a place has a number
pub record IsPlaceOf (found : List Numbered) (id : NodeId) (place : ℕ) : Type 0 where
  pub one : Numbered
  pub here : slice_get found place ≡ Some one
  pub is : one.id ≡ id

-- some numbers were marked besides, which are among those of the nodes: a mark for each place of a node
pub record AreMarkedBesides (found : List Numbered) (old new : List Bool) (ids : List NodeId) : Type 0 where
  pub size : length new ≡ length old
  pub there : (id : NodeId) → Contains ids id → Contains (numbers_in found) id
  pub only : (place : ℕ) (one : Numbered) → slice_get found place ≡ Some one → slice_index_or new place false ≡ true → (slice_index_or old place false ≡ true) ⊎ Contains ids one.id

-- each marked node is a given one, or one on which a given one rests
abbrev pub AreMarkedUnder : List Node → List NodeId → List Numbered → List Bool → Type 0
AreMarkedUnder whole ids found marks = (place : ℕ) (one : Numbered) → slice_get found place ≡ Some one → slice_index_or marks place false ≡ true → IsUnderOne whole ids one.id

-- so is each from a place on
abbrev pub AreUnderFrom : List Node → List NodeId → List Numbered → ℕ → Type 0
AreUnderFrom whole ids found place = (k : ℕ) (one : Numbered) → place ≤ k → slice_get found k ≡ Some one → IsUnderOne whole ids one.id

-- the premises of each node from a place on are among the nodes
abbrev pub HavePremisesFrom : List Numbered → ℕ → Type 0
HavePremisesFrom found place = (k : ℕ) (one : Numbered) → place ≤ k → slice_get found k ≡ Some one → (premise : NodeId) → Contains (premises_of one.node.rule) premise → Contains (numbers_in found) premise
