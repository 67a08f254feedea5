-- A text of one of two kinds.
use Rattle.std.specs.Prelude.{ℕ, List}
use Rattle.command_engine.specs.Readers.{Reader}
use Rattle.command_engine.specs.declared.machines.Stop.{Stop}
use Rattle.command_engine.specs.declared.line_texts.Parse.{Parse}
use Rattle.command_engine.specs.declared.line_texts.Parse.TheVariants.{Continue, Parsed, Refused}
use Rattle.command_engine.specs.declared.alternatives.Either.{Either}
use Rattle.command_engine.specs.declared.alternatives.Either.TheVariants.{Left, Right}

-- what a line brings of a text that is within another: the outer one goes on if the inner one does
abbrev pub step_within : {S T V F : Type 0} → (S → T) → Parse S V F → Parse T V F
step_within wrap (Continue state) = Continue (wrap state)
step_within wrap (Parsed value) = Parsed value
step_within wrap (Refused fault) = Refused fault

module _ {A B V F : Type 0} (left : Reader A V F) (right : Reader B V F) where
  abbrev pub longest_of : Either A B → ℕ
  longest_of (Left text) = left.longest text
  longest_of (Right text) = right.longest text

  abbrev pub reads_of : Either A B → ℕ → List ℕ → Parse (Either A B) V F
  reads_of (Left text) number line = step_within Left (left.reads text number line)
  reads_of (Right text) number line = step_within Right (right.reads text number line)

  abbrev pub stops_of : Either A B → ℕ → Stop → F
  stops_of (Left text) number stop = left.stops text number stop
  stops_of (Right text) number stop = right.stops text number stop

  -- the reader of a text of either kind
  abbrev pub either_reader : Reader (Either A B) V F
  either_reader = record { longest = longest_of; reads = reads_of; stops = stops_of }
