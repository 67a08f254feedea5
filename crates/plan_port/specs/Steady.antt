-- A port in memory with a fixed capacity.
use Rattle.std.specs.Prelude.{◌≡◌, ℕ, ◌-◌, ◌<◌, ◌≤◌, min, Bool, true, false, List, [], ◌∷◌, length, take, drop, Option, Some, None}
use Rattle.plan_port.specs.Talk.{Talk, Seen, silence, with_pieces, with_put}
use Rattle.plan_port.specs.declared.ports.Took.{Took}
use Rattle.plan_port.specs.declared.ports.Took.TheVariants.{Bytes, End, Failed}
use Rattle.plan_port.specs.declared.ports.Sent.{Sent}
use Rattle.plan_port.specs.declared.ports.Sent.TheVariants.{Wrote}
use Rattle.plan_port.specs.declared.ports.Sent.TheVariants.{Failed as NotSent}

-- what the port keeps of what was said over it, what is left of its input, how many more bytes it has capacity to keep, and whether it has kept all bytes that
-- were put
pub record Steady : Type 0 where
  pub kept : Talk
  pub left : List ℕ
  pub spare_capacity : ℕ
  pub whole : Bool

-- the talk, which is shown only if all bytes that were put are kept
abbrev pub shown : (whole : Bool) → Talk → Option Talk
shown true talk = Some talk
shown false talk = None

-- what contracts see of it: what is left always, the talk while it is whole, and no failed call
abbrev pub seen_of : Steady → Seen
seen_of port =
    record { talk = shown port.whole port.kept; left = Some port.left; read_faults = 0; write_faults = 0 }

-- a port over which nothing was said
abbrev pub unused_port : (input : List ℕ) → (spare_capacity : ℕ) → Steady
unused_port input spare_capacity = record { kept = silence; left = input; spare_capacity = spare_capacity; whole = true }

-- the port after a take of this many bytes
abbrev pub after_piece : Steady → ℕ → Steady
after_piece port size =
    record port { kept = with_pieces port.kept (take size port.left ∷ []); left = drop size port.left }

-- the port after a put of this piece, for which there is capacity
abbrev pub after_kept : Steady → List ℕ → Steady
after_kept port piece = record port { kept = with_put port.kept piece; spare_capacity = port.spare_capacity - length piece }

-- the port after a put that did not fit
abbrev pub after_lost : Steady → Steady
after_lost port = record port { whole = false }

-- a take gives the most that the place and what is left allow, from the start of what is left. It never fails.
abbrev pub TakesMost : Steady → Steady → Took → List ℕ → Type 0
TakesMost old new (Bytes size) into =
    (0 < size)
    × (size ≡ min (length into) (length old.left))
    × (take size into ≡ take size old.left)
    × (new ≡ after_piece old size)
TakesMost old new End into = (old.left ≡ []) × (new ≡ old)
TakesMost old new Failed into = ⊥

-- a put writes its whole piece. It is kept if there is capacity for it, and lost if there is not. It never fails.
abbrev pub PutsWhole : Steady → Steady → Sent → List ℕ → Type 0
PutsWhole old new (Wrote size) piece =
    (size ≡ length piece)
    × (length piece ≤ old.spare_capacity → new ≡ after_kept old piece)
    × (old.spare_capacity < length piece → new ≡ after_lost old)
PutsWhole old new NotSent piece = ⊥
