-- The grammar of a text that is read line by line, free of any reader; and that a reader reads by it.
use Rattle.std.specs.Prelude.{◌≡◌, ◌↔◌, ℕ, ◌+◌, List, [], ◌∷◌, ◌++◌, length}
use Rattle.command_engine.specs.Readers.{Reader}
use Rattle.command_engine.specs.declared.machines.Stop.{Stop}
use Rattle.command_engine.specs.declared.line_texts.Parse.TheVariants.{Continue, Parsed, Refused}

-- what comes after lines: one more, or none, for a cause
pub data Next : Type 0 where
  Line : List ℕ → Next
  NoLine : Stop → Next

-- A grammar of texts, of which `V` are the values and `F` the faults. `declares`: the lines begin with a text that declares a value, and the other lines stand
-- after it. `longest`: after these lines, with which a text may begin, one more is wanted, and it may have so many bytes. `refuses`: it is wanted, and if this
-- comes, the text has its first fault there.
pub record Grammar (V F : Type 0) : Type 1 where
  pub declares : List (List ℕ) → V → List (List ℕ) → Type 0
  pub longest : List (List ℕ) → ℕ → Type 0
  pub refuses : List (List ℕ) → Next → F → Type 0

-- the number of the line after these, if so many stand before them in the input
abbrev pub number_after : ℕ → List (List ℕ) → ℕ
number_after past lines = past + length lines + 1

module _ {S V F : Type 0} (reader : Reader S V F) where
  -- these lines lead from a state to another, if so many stand before them in the input
  abbrev pub Leads : S → ℕ → List (List ℕ) → S → Type 0
  Leads from past [] to = from ≡ to
  Leads from past (line ∷ lines) to = (next : S) × (reader.reads from (past + 1) line ≡ Continue next) × Leads next (past + 1) lines to

  -- the fault of what comes in a state, by the number of the line
  abbrev pub FaultOf : S → ℕ → Next → F → Type 0
  FaultOf state number (Line line) fault = reader.reads state number line ≡ Refused fault
  FaultOf state number (NoLine stop) fault = reader.stops state number stop ≡ fault

  module _ (start : S) (past : ℕ) where
    -- the lines lead to a state in which the last line of the text gives its value
    pub record ReadsText (lines : List (List ℕ)) (value : V) (rest : List (List ℕ)) : Type 0 where
      pub prefix : List (List ℕ)
      pub last : List ℕ
      pub state : S
      pub whole : lines ≡ prefix ++ last ∷ rest
      pub leads : Leads start past prefix state
      pub gives : reader.reads state (number_after past prefix) last ≡ Parsed value

    -- what is read, as a grammar
    abbrev pub language : Grammar V F
    language = record {
      declares = ReadsText;
      longest = λ lines longest. (state : S) × Leads start past lines state × (reader.longest state ≡ longest);
      refuses = λ lines next fault. (state : S) × Leads start past lines state × FaultOf state (number_after past lines) next fault;
    }

-- A reader that begins in a state, if so many lines stand before the text, reads by a grammar: it gives the values that the lines declare, wants the lines that
-- are wanted, and refuses what the grammar refuses, with the same fault.
pub record ReadsBy {S V F : Type 0} (reader : Reader S V F) (start : S) (past : ℕ) (grammar : Grammar V F) : Type 0 where
  pub declares : (lines : List (List ℕ)) (value : V) (rest : List (List ℕ)) → grammar.declares lines value rest ↔ ReadsText reader start past lines value rest
  pub longest : (lines : List (List ℕ)) (longest : ℕ) → grammar.longest lines longest ↔ (language reader start past).longest lines longest
  pub refuses : (lines : List (List ℕ)) (next : Next) (fault : F) → grammar.refuses lines next fault ↔ (language reader start past).refuses lines next fault
