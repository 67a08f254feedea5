-- From when on a point is due.
use Rattle.std.specs.Prelude.{◌≡◌, ℕ, nat_le, Bool, false, Option}
use Rattle.std.specs.Option.{option_map_or}

-- a moment is no earlier than one from which on something holds
abbrev pub holds_from : Option ℕ → (t : ℕ) → Bool
holds_from first t = option_map_or (λ moment. nat_le moment t) first false

-- a test of moments passes from a first moment on, or at none
abbrev pub PassesFrom : (ℕ → Bool) → Option ℕ → Type 0
PassesFrom test first = (t : ℕ) → test t ≡ holds_from first t
