-- What a strategy of a network is worth in a relaxed one.
use Rattle.std.specs.Prelude.{◌≡◌, ℕ, ◌≤◌, List, Some, Ok}
use Rattle.std.specs.List.{AllZip}
use Rattle.net_model.specs.EditedNetwork.{edited}
use Rattle.net_model.specs.Network.{Plan, IsPlan}
use Rattle.net_model.specs.declared.edit.Edit.{Edit}
use Rattle.strategy_model.specs.Situations.{IsSituation}
use Rattle.strategy_model.specs.Plays.{play}
use Rattle.strategy_model.specs.Control.{Controls, IsControllable, IsEarliest}
use Rattle.strategy_model.specs.declared.tree.Tree.{Tree}
use Rattle.relaxation_laws.specs.DelayedStrategies.{IsDynamicAsShown}
use Rattle.relaxation_laws.specs.Relaxations.{IsRelaxed, Relaxes}

-- a network is relaxed to itself, and if it is relaxed to another and that to a third, it is relaxed to the third
pub record RelaxationsCompose : Type 0 where
  pub itself : (net : Plan) → IsRelaxed net net
  pub composed : (net other third : Plan) → IsRelaxed net other → IsRelaxed other third → IsRelaxed net third

-- what an edit that drops a bound, loosens it, or narrows the interval of a link makes of a network is relaxed
abbrev pub EditsRelax : Type 0
EditsRelax = (net : Plan) (edit : Edit) (new : Plan) → Relaxes net edit → edited net edit ≡ Ok new → IsRelaxed net new

-- a lower delay relaxes a network
abbrev pub LowerDelaysRelax : Type 0
LowerDelaysRelax = (net : Plan) (delay : ℕ) → delay ≤ net.delay → IsRelaxed net (record net { delay = delay })

-- with the same delay, a strategy that controls a network controls each to which it is relaxed
abbrev pub SameStrategiesControlRelaxed : Type 0
SameStrategiesControlRelaxed =
    (strategy : Tree) (net other : Plan) → IsRelaxed net other → net.delay ≡ other.delay → Controls strategy net → Controls strategy other

-- every execution strategy that is dynamic under the delay of a network is what some tree plays
abbrev pub DynamicAsShownAreTrees : Type 0
DynamicAsShownAreTrees =
    (net : Plan) (schedule_of : List ℕ → List ℕ) → IsPlan net → IsDynamicAsShown net schedule_of → (strategy : Tree)
    × ((situation : List ℕ) → IsSituation net situation → play strategy net situation ≡ Some (schedule_of situation))

-- and what a tree plays in every situation is one
abbrev pub TreesAreDynamicAsShown : Type 0
TreesAreDynamicAsShown =
    (net : Plan) (strategy : Tree) (schedule_of : List ℕ → List ℕ) → IsPlan net
    → ((situation : List ℕ) → IsSituation net situation → play strategy net situation ≡ Some (schedule_of situation)) → IsDynamicAsShown net schedule_of

-- what a strategy plays that controls a network, some strategy plays in each network to which that is relaxed, and controls it
abbrev pub RelaxedArePlayedAlike : Type 0
RelaxedArePlayedAlike =
    (strategy : Tree) (net other : Plan) → IsPlan net → IsRelaxed net other → Controls strategy net → (another : Tree) × Controls another other
    × ((situation : List ℕ) → IsSituation other situation → play another other situation ≡ play strategy net situation)

-- so what a controllable network is relaxed to is controllable
abbrev pub RelaxedAreControllable : Type 0
RelaxedAreControllable = (net other : Plan) → IsPlan net → IsRelaxed net other → IsControllable net → IsControllable other

-- and in each situation its earliest schedule has no point later
abbrev pub RelaxedAreNoLater : Type 0
RelaxedAreNoLater =
    (net other : Plan) (situation schedule relaxed : List ℕ) → IsPlan net → IsRelaxed net other → IsEarliest net situation schedule
    → IsEarliest other situation relaxed → AllZip (λ sooner later. sooner ≤ later) relaxed schedule
