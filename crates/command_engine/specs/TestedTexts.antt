-- A text whose value is tested at the line that gives it: it gives what the test makes of the value, or is refused at that line.
use Rattle.std.specs.Prelude.{◌≡◌, ◌⊎◌, ℕ, ◌+◌, List, [], ◌∷◌, ◌++◌, length, Result, Ok, Err}
use Rattle.command_engine.specs.Grammars.{Grammar, Next, Line, number_after}
use Rattle.command_engine.specs.Readers.{Reader}
use Rattle.command_engine.specs.declared.line_texts.Parse.{Parse}
use Rattle.command_engine.specs.declared.line_texts.Parse.TheVariants.{Continue, Parsed, Refused}
use Rattle.command_engine.specs.declared.tested_texts.Tested.{Tested}

module _ {S Q V W F : Type 0} (reader : Reader S V F) (tests : Q → V → ℕ → Result W F) where
  -- what comes of a value, by its test
  abbrev pub step_by : Result W F → Parse (Tested S Q) W F
  step_by (Ok other) = Parsed other
  step_by (Err fault) = Refused fault

  -- what a line of the text brings, by its number
  abbrev pub step_tested : Q → ℕ → Parse S V F → Parse (Tested S Q) W F
  step_tested test number (Continue text) = Continue (record { text = text; test = test })
  step_tested test number (Parsed value) = step_by (tests test value number)
  step_tested test number (Refused fault) = Refused fault

  -- the reader of the text with its test
  abbrev pub tested_reader : Reader (Tested S Q) W F
  tested_reader = record {
    longest = λ tested. reader.longest tested.text;
    reads = λ tested number line. step_tested tested.test number (reader.reads tested.text number line);
    stops = λ tested number stop. reader.stops tested.text number stop;
  }

module _ {Q V W F : Type 0} (grammar : Grammar V F) (tests : Q → V → ℕ → Result W F) (test : Q) (past : ℕ) where
  -- the lines declare a value that passes the test, by the number of the line that ends the text
  pub record PassesTest (lines : List (List ℕ)) (other : W) (rest : List (List ℕ)) : Type 0 where
    pub value : V
    pub text : List (List ℕ)
    pub whole : lines ≡ text ++ rest
    pub declared : grammar.declares lines value rest
    pub passes : tests test value (past + length text) ≡ Ok other

  -- the line that comes ends the text, and the value does not pass
  pub record FailsTest (lines : List (List ℕ)) (next : Next) (fault : F) : Type 0 where
    pub line : List ℕ
    pub value : V
    pub comes : next ≡ Line line
    pub declared : grammar.declares (lines ++ line ∷ []) value []
    pub fails : tests test value (number_after past lines) ≡ Err fault

  -- the grammar of the text with its test
  abbrev pub tested_grammar : Grammar W F
  tested_grammar = record {
    declares = PassesTest;
    longest = grammar.longest;
    refuses = λ lines next fault. grammar.refuses lines next fault ⊎ FailsTest lines next fault;
  }
