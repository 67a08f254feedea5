-- The input of a port in memory. No public clause cites this module.
use Rattle.std.specs.Prelude.{◌≡◌, ℕ, ◌-◌, List, [], ◌∷◌, ◌++◌, take, drop}
use Rattle.plan_port.specs.Talk.{Piece}

-- the pieces taken, the bytes that are left, and for how many more pieces there is capacity
pub record Supply : Type 0 where
  pub taken : List Piece
  pub left : List ℕ
  pub spare_capacity : ℕ

-- a piece of this many bytes was taken from the start, after so many bytes were put
pub record Gives (old new : Supply) (size put_before : ℕ) : Type 0 where
  pub taken : new.taken ≡ old.taken ++ record { bytes = take size old.left; put_before = put_before } ∷ []
  pub left : new.left ≡ drop size old.left
  pub spare_capacity : new.spare_capacity ≡ old.spare_capacity - 1
