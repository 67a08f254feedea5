-- Dynamic controllability (Morris, Muscettola and Vidal 2001).
use Rattle.std.specs.Prelude.{◌≡◌, ℕ, ◌≤◌, List, Some}
use Rattle.std.specs.List.{AllZip}
use Rattle.net_model.specs.Network.{Plan}
use Rattle.strategy_model.specs.Situations.{IsSituation, Satisfies}
use Rattle.strategy_model.specs.Plays.{play}
use Rattle.strategy_model.specs.declared.tree.Tree.{Tree}

-- a strategy controls a network if it has, in every situation, a play that satisfies the network
abbrev pub Controls : Tree → Plan → Type 0
Controls strategy net =
    (situation : List ℕ) → IsSituation net situation → (schedule : List ℕ) × (play strategy net situation ≡ Some schedule) × Satisfies net schedule

-- a network is dynamically controllable if some strategy controls it
abbrev pub IsControllable : Plan → Type 0
IsControllable net = (strategy : Tree) × Controls strategy net

-- the earliest schedule of a situation: a strategy that controls the network plays it there, and no such strategy plays any point sooner
-- there (Hunsberger 2009, in this project's form)
pub record IsEarliest (net : Plan) (situation schedule : List ℕ) : Type 0 where
  pub is_situation : IsSituation net situation
  pub strategy : Tree
  pub controls : Controls strategy net
  pub played : play strategy net situation ≡ Some schedule
  pub earliest : (other : Tree) (played : List ℕ) → Controls other net → play other net situation ≡ Some played
      → AllZip (λ sooner later. sooner ≤ later) schedule played
