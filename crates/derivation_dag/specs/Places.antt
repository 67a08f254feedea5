-- The place of an ordinary key among those between some points, and the number that stands there.
use Rattle.std.specs.Prelude.{ℕ, zero, suc, ◌*◌, ◌+◌, ◌||◌, List, Option, Some, None, is_some, nat_le, if◌then◌else◌}
use Rattle.closure_model.specs.Keys.{Key}
use Rattle.closure_model.specs.declared.derivation.NodeId.{NodeId}

-- for each place a number, counted from 1, or 0
pub record Counted : Type 0 where
  pub points : ℕ
  pub counted : List ℕ

-- the place of a key, if it is an ordinary one between so many points
abbrev pub dense_place : ℕ → Key → Option ℕ
dense_place points key = if is_some key.label || nat_le points key.from.0 || nat_le points key.to.0 then None else Some (key.to.0 * points + key.from.0)

-- a number that is counted from 1, or none for 0
abbrev pub recorded : ℕ → Option NodeId
recorded zero = None
recorded (suc n) = Some (record { 0 = n })
