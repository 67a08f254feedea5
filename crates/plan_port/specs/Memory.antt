-- A port in memory.
use Rattle.std.specs.Prelude.{◌≡◌, ◌⊎◌, ℕ, ◌-◌, ◌<◌, min, Bool, true, false, ◌==◌, if◌then◌else◌, List, [], ◌∷◌, length, take, drop, Some, slice_index}
use Rattle.std.specs.List.{list_any}
use Rattle.plan_port.specs.Talk.{Talk, Seen, silence, raised, with_pieces, with_put, with_failed_take, with_failed_put}
use Rattle.plan_port.specs.declared.ports.Took.{Took}
use Rattle.plan_port.specs.declared.ports.Took.TheVariants.{Bytes, End, Failed}
use Rattle.plan_port.specs.declared.ports.Sent.{Sent}
use Rattle.plan_port.specs.declared.ports.Sent.TheVariants.{Wrote}

-- what was said over the port, what is left of its input, the cuts and the numbers of the calls that fail, and the
-- four counts: of takes, of puts, and of those that failed
pub record Memory : Type 0 where
  pub talk : Talk
  pub left : List ℕ
  pub cuts : List ℕ
  pub failing_takes : List ℕ
  pub failing_puts : List ℕ
  pub takes : ℕ
  pub puts : ℕ
  pub read_faults : ℕ
  pub write_faults : ℕ

-- what contracts see of it: all that they see of any port
abbrev pub seen_of : Memory → Seen
seen_of port =
    record { talk = Some port.talk; left = Some port.left; read_faults = port.read_faults; write_faults = port.write_faults }

-- a port over which nothing was said
abbrev pub unused_port : (input cuts failing_takes failing_puts : List ℕ) → Memory
unused_port input cuts failing_takes failing_puts =
    record {
      talk = silence;
      left = input;
      cuts = cuts;
      failing_takes = failing_takes;
      failing_puts = failing_puts;
      takes = 0;
      puts = 0;
      read_faults = 0;
      write_faults = 0;
    }

-- the call with this number is listed
abbrev pub is_listed : List ℕ → ℕ → Bool
is_listed listed number = list_any (λ x. x == number) listed

-- how many bytes the take with this number may give: as many as its cut says, if that is a number above 0
abbrev pub limit : List ℕ → ℕ → ℕ → ℕ
limit cuts number place =
    let cut = slice_index cuts (number - 1) in (if cut == 0 then place else min place cut)

-- the port after a take of this many bytes
abbrev pub after_piece : Memory → ℕ → Memory
after_piece port size =
    record port { talk = with_pieces port.talk (take size port.left ∷ []); left = drop size port.left }

-- the port after a take that failed
abbrev pub after_failed_take : Memory → Memory
after_failed_take port =
    record port { talk = with_failed_take port.talk; read_faults = raised port.read_faults }

-- the port after a put that failed
abbrev pub after_failed_put : Memory → Memory
after_failed_put port =
    record port { talk = with_failed_put port.talk; write_faults = raised port.write_faults }

-- a take is the one with the next number. It fails if that is listed, or if there is no memory to keep its piece. Else it gives the most that its cut, the
-- place and what is left allow, from the start of what is left.
abbrev pub TakesNext : Memory → Memory → Took → List ℕ → Type 0
TakesNext old new (Bytes size) into =
    let number = raised old.takes in
    (is_listed old.failing_takes number ≡ false)
    × (0 < size)
    × (size ≡ min (limit old.cuts number (length into)) (length old.left))
    × (take size into ≡ take size old.left)
    × (new ≡ after_piece (record old { takes = number }) size)
TakesNext old new End into =
    let number = raised old.takes in
    (is_listed old.failing_takes number ≡ false) × (old.left ≡ []) × (new ≡ record old { takes = number })
TakesNext old new Failed into =
    let number = raised old.takes in
    ((is_listed old.failing_takes number ≡ true) ⊎ (0 < length old.left))
    × (new ≡ after_failed_take (record old { takes = number }))

-- a put is the one with the next number. It fails if that is listed, or if there is no memory to keep the piece. Else it writes the whole piece.
abbrev pub PutsNext : Memory → Memory → Sent → List ℕ → Type 0
PutsNext old new (Wrote size) piece =
    let number = raised old.puts in
    (is_listed old.failing_puts number ≡ false)
    × (size ≡ length piece)
    × (new ≡ record old { talk = with_put old.talk piece; puts = number })
PutsNext old new _ piece = new ≡ after_failed_put (record old { puts = raised old.puts })
