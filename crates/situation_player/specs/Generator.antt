-- The generator of numbers: the one that the C standard prints as its example (ISO C 1990, `rand`), with a state of 31 bits.
use Rattle.std.specs.Prelude.{ℕ, zero, suc, ◌+◌, ◌*◌, ◌/◌, ◌%◌}

-- the state after a draw: 1103515245 times the state, plus 12345, modulo 2^31
unfoldable pub next_state : ℕ → ℕ
next_state state = (1103515245 * state + 12345) % 2147483648

-- the state after so many draws
abbrev pub state_after : (start draws : ℕ) → ℕ
state_after start zero = start
state_after start (suc draws) = next_state (state_after start draws)

-- what is drawn below a number, if this is the state after the draw: the remainder when the state's quotient by 65536 is divided by the
-- number
abbrev pub drawn : (state below : ℕ) → ℕ
drawn state below = (state / 65536) % below
