-- What the delay changes: a network is played, controlled and earliest as its shown form is.
use Rattle.std.specs.Prelude.{◌≡◌, ◌↔◌, ℕ, List, Some}
use Rattle.std.specs.List.{All, Contains}
use Rattle.std.specs.Option.{option_map}
use Rattle.net_model.specs.Network.{Plan, IsPlan}
use Rattle.net_model.specs.ShownForm.{shown_form, shown_situation}
use Rattle.net_model.specs.LooseRules.{IsLooseDerivation}
use Rattle.net_model.specs.declared.part.Edge.{Edge}
use Rattle.strategy_model.specs.Situations.{IsSituation, Satisfies}
use Rattle.strategy_model.specs.Plays.{play, IsInstant}
use Rattle.strategy_model.specs.InstantPlays.{instant_play}
use Rattle.strategy_model.specs.Control.{Controls, IsControllable, IsEarliest}
use Rattle.strategy_model.specs.Edges.{HoldsIn, HoldsOf, TakesLongest, IsNegativeLoop}
use Rattle.strategy_model.specs.ShownSchedules.{shown_schedule}
use Rattle.strategy_model.specs.declared.tree.Tree.{Tree}

-- if the delay is 0 the plays are those of instantaneous reaction
abbrev pub NoDelayIsInstant : Type 0
NoDelayIsInstant = (net : Plan) (strategy : Tree) (situation : List ℕ) → net.delay ≡ 0 → play strategy net situation ≡ instant_play strategy net situation

-- the play in the shown form is the play as it is shown, and there is one exactly if there is the other
abbrev pub PlaysAreShown : Type 0
PlaysAreShown =
    (net : Plan) (strategy : Tree) (situation : List ℕ)
    → play strategy (shown_form net) (shown_situation net situation) ≡ option_map (shown_schedule net) (play strategy net situation)

-- a schedule satisfies the network exactly if it satisfies the shown form as it is shown
abbrev pub SatisfiesAsShown : Type 0
SatisfiesAsShown = (net : Plan) (schedule : List ℕ) → IsPlan net → (Satisfies net schedule ↔ Satisfies (shown_form net) (shown_schedule net schedule))

-- the situations of the shown form are those of the network as they are shown
abbrev pub SituationsAreShown : Type 0
SituationsAreShown =
    (net : Plan) (situation : List ℕ) → IsPlan net
    → (IsSituation net situation → IsSituation (shown_form net) (shown_situation net situation))
    × (IsSituation (shown_form net) situation → (stated : List ℕ) × IsSituation net stated × (shown_situation net stated ≡ situation))

-- a strategy controls a network exactly if it controls the shown form
abbrev pub ControlIsShown : Type 0
ControlIsShown = (net : Plan) (strategy : Tree) → IsPlan net → (Controls strategy net ↔ Controls strategy (shown_form net))

-- so a network is controllable exactly if its shown form is
abbrev pub ControllableIsShown : Type 0
ControllableIsShown = (net : Plan) → IsPlan net → (IsControllable net ↔ IsControllable (shown_form net))

-- the earliest schedules of the shown form are those of the network as they are shown
abbrev pub EarliestIsShown : Type 0
EarliestIsShown =
    (net : Plan) (situation : List ℕ) → IsPlan net
    → ((schedule : List ℕ) → IsEarliest net situation schedule → IsEarliest (shown_form net) (shown_situation net situation) (shown_schedule net schedule))
    × ((schedule : List ℕ) → IsSituation net situation → IsEarliest (shown_form net) (shown_situation net situation) schedule
    → (stated : List ℕ) × IsEarliest net situation stated × (shown_schedule net stated ≡ schedule))

-- an edge is true of a strategy if it holds of the shown moments of its play in every situation, a labelled one if it holds in those in
-- which its link takes its longest duration
abbrev pub HoldsAsShown : Plan → Tree → Edge → Type 0
HoldsAsShown net strategy edge =
    (situation schedule : List ℕ) → IsSituation net situation → TakesLongest net situation edge.label → play strategy net situation ≡ Some schedule
    → HoldsIn (shown_schedule net schedule) edge

-- which is its truth in the shown form
abbrev pub TruthIsShown : Type 0
TruthIsShown = (net : Plan) (strategy : Tree) (edge : Edge) → IsPlan net → (HoldsAsShown net strategy edge ↔ HoldsOf (shown_form net) strategy edge)

-- the shown form of a network is an instant network
abbrev pub ShownFormIsInstant : Type 0
ShownFormIsInstant = (net : Plan) → IsPlan net → IsInstant (shown_form net)

-- so a derivation in the shown form and a closed walk of negative total over its edges exclude every strategy that controls the network
abbrev pub ShownRefutationsExclude : Type 0
ShownRefutationsExclude =
    (net : Plan) (edges walk : List Edge) → IsPlan net → IsLooseDerivation (shown_form net) edges → All (Contains edges) walk → IsNegativeLoop walk
    → IsControllable net → ⊥
