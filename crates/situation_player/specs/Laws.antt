-- What holds of situations by number.
use Rattle.std.specs.Prelude.{◌≡◌, ℕ, List}
use Rattle.net_model.specs.Network.{Plan, IsPlan}
use Rattle.strategy_model.specs.Situations.{IsSituation}
use Rattle.situation_player.specs.Numbered.{numbered}

-- every situation of a network has a number
abbrev pub SituationsHaveNumbers : Type 0
SituationsHaveNumbers = (net : Plan) (situation : List ℕ) → IsPlan net → IsSituation net situation → (number : ℕ) × (numbered number net.links ≡ situation)

-- and the situation of every number is one of the network
abbrev pub NumbersAreSituations : Type 0
NumbersAreSituations = (net : Plan) (number : ℕ) → IsPlan net → IsSituation net (numbered number net.links)
