-- A text, and after it another.
use Rattle.std.specs.Prelude.{◌≡◌, ◌⊎◌, ℕ, ◌+◌, List, ◌++◌, length}
use Rattle.command_engine.specs.Grammars.{Grammar}
use Rattle.command_engine.specs.Readers.{Reader, Outcome, Given, Faulty, reading}
use Rattle.command_engine.specs.declared.machines.Stop.{Stop}
use Rattle.command_engine.specs.declared.line_texts.Parse.{Parse}
use Rattle.command_engine.specs.declared.line_texts.Parse.TheVariants.{Continue, Parsed, Refused}
use Rattle.command_engine.specs.declared.pairs.Then.{Then}
use Rattle.command_engine.specs.declared.pairs.Then.TheVariants.{First, Second}

-- the two values, if the first is known
abbrev pub with_first : {V W F : Type 0} → V → Outcome W F → Outcome (V × W) F
with_first value (Given other number spare_capacity rest) = Given (value, other) number spare_capacity rest
with_first value (Faulty fault) = Faulty fault

module _ {A V B W F : Type 0} where
  -- after a line of the first text, if the second begins so
  abbrev pub first_step : B → Parse A V F → Parse (Then A V B) (V × W) F
  first_step second (Continue text) = Continue (First text second)
  first_step second (Parsed value) = Continue (Second value second)
  first_step second (Refused fault) = Refused fault

  -- after a line of the second text, if the first said this
  abbrev pub second_step : V → Parse B W F → Parse (Then A V B) (V × W) F
  second_step value (Continue text) = Continue (Second value text)
  second_step value (Parsed other) = Parsed (value, other)
  second_step value (Refused fault) = Refused fault

  module _ (first : Reader A V F) (second : Reader B W F) where
    abbrev pub longest_of : Then A V B → ℕ
    longest_of (First text other) = first.longest text
    longest_of (Second value text) = second.longest text

    abbrev pub reads_of : Then A V B → ℕ → List ℕ → Parse (Then A V B) (V × W) F
    reads_of (First text other) number line = first_step other (first.reads text number line)
    reads_of (Second value text) number line = second_step value (second.reads text number line)

    abbrev pub stops_of : Then A V B → ℕ → Stop → F
    stops_of (First text other) number stop = first.stops text number stop
    stops_of (Second value text) number stop = second.stops text number stop

    -- the reader of the first text, and after it of the second
    abbrev pub then_reader : Reader (Then A V B) (V × W) F
    then_reader = record { longest = longest_of; reads = reads_of; stops = stops_of }

    -- the second text is read over the lines that are left after the first
    abbrev pub then_reading : B → Outcome V F → Outcome (V × W) F
    then_reading other (Given value number spare_capacity rest) =
        with_first value (reading second (record { state = other; number = number; spare_capacity = spare_capacity }) rest)
    then_reading other (Faulty fault) = Faulty fault

module _ {V W F : Type 0} (first : Grammar V F) (second : ℕ → Grammar W F) (past : ℕ) where
  -- the lines divide into a text that declares a value and what stands after it
  pub record Divides (lines : List (List ℕ)) (value : V) : Type 0 where
    pub text : List (List ℕ)
    pub rest : List (List ℕ)
    pub whole : lines ≡ text ++ rest
    pub declared : first.declares lines value rest

  -- the grammar of what stands after the first text, by how many lines stand before it in the input
  abbrev pub second_after : {lines : List (List ℕ)} {value : V} → Divides lines value → Grammar W F
  second_after divided = second (past + length divided.text)

  -- The grammar of a text and another after it, which gets how many lines stand before its own: both declare their values, and the faults
  -- are those of the first, and, after it, of the second.
  abbrev pub then_grammar : Grammar (V × W) F
  then_grammar = record {
    declares = λ lines value rest. (divided : Divides lines value.0) × (second_after divided).declares divided.rest value.1 rest;
    longest = λ lines longest. first.longest lines longest ⊎ ((value : V) × (divided : Divides lines value)
        × (second_after divided).longest divided.rest longest);
    refuses = λ lines next fault. first.refuses lines next fault
        ⊎ ((value : V) × (divided : Divides lines value) × (second_after divided).refuses divided.rest next fault);
  }
