-- The forms of a judgement: its steps, of which each passes with something or ends the judgement with a cause.
use Rattle.std.specs.Prelude.{Bool, true, false, Option, Some, None, Result, Ok, Err}

-- the next step, with what the first one passes with
infixl 10 ◌>>=◌
abbrev pub ◌>>=◌ : {A B E : Type 0} → Result A E → (A → Result B E) → Result B E
(Ok x) >>= next = next x
(Err why) >>= next = Err why

-- a test that must be true, or else this fault
abbrev pub unless : {E : Type 0} → Bool → E → Result (Unit {0}) E
unless true why = Ok tt
unless false why = Err why

-- what is there, or else this fault
abbrev pub there : {A E : Type 0} → Option A → E → Result A E
there (Some item) why = Ok item
there None why = Err why
