-- The input of a command that reads a text and answers once, by the grammar of the text: what it declares, and its first refusal.
use Rattle.std.specs.Prelude.{◌≡◌, ◌⊎◌, ℕ, ◌-◌, List, [], ◌∷◌, ◌++◌, length, map}
use Rattle.texts.specs.Lines.{InputLine, input_lines, lines, line_size}
use Rattle.plan_port.specs.Lines.{Coming, Comes, TooLong, TooMuch, coming}
use Rattle.command_engine.specs.Grammars.{Grammar, Next, Line, NoLine}
use Rattle.command_engine.specs.Limits.{most_input}
use Rattle.command_engine.specs.Readers.{Refusing}
use Rattle.command_engine.specs.declared.endings.End.{End}
use Rattle.command_engine.specs.declared.machines.Stop.TheVariants.{LineTooLong, InputTooMuch, InputEnded}

-- the bytes of lines
abbrev pub texts : List InputLine → List (List ℕ)
texts lines = map (λ line. line.text) lines

-- how many bytes an input may still have after these lines
abbrev pub capacity_after : ℕ → List InputLine → ℕ
capacity_after spare_capacity [] = spare_capacity
capacity_after spare_capacity (line ∷ lines) = capacity_after (spare_capacity - line_size line) lines

-- what comes, by what comes of the next line
abbrev pub next_by : Coming → List ℕ → Next
next_by Comes text = Line text
next_by TooLong text = NoLine LineTooLong
next_by TooMuch text = NoLine InputTooMuch

-- what comes if these lines are still to come, of which the first may have so many bytes, and all together so many
abbrev pub next_of : (longest spare_capacity : ℕ) → List InputLine → Next
next_of longest spare_capacity [] = NoLine InputEnded
next_of longest spare_capacity (line ∷ others) = next_by (coming longest spare_capacity line) line.text

-- the number of the last line before these, with which all lines end
abbrev pub last_before : (rest all : List (List ℕ)) → ℕ
last_before rest all = length all - length rest

module _ {V F : Type 0} (grammar : Grammar V F) where
  -- these lines come after those before them: one more is wanted each time, and it is not too long, or the input too much by it
  abbrev pub ComeAfter : (before : List (List ℕ)) (spare_capacity : ℕ) → List InputLine → Type 0
  ComeAfter before spare_capacity [] = Unit {0}
  ComeAfter before spare_capacity (line ∷ lines) =
      (longest : ℕ) × grammar.longest before longest × (coming longest spare_capacity line ≡ Comes)
      × ComeAfter (before ++ line.text ∷ []) (spare_capacity - line_size line) lines

  -- the first refusal of an input: the lines before it come, and what comes next is refused
  pub record IsFirstRefusal (input : List InputLine) (fault : F) : Type 0 where
    pub before : List InputLine
    pub rest : List InputLine
    pub longest : ℕ
    pub divided : input ≡ before ++ rest
    pub come : ComeAfter [] most_input before
    pub wanted : grammar.longest (texts before) longest
    pub refused : grammar.refuses (texts before) (next_of longest (capacity_after most_input before) rest) fault

  -- the first lines of an input come and declare a value; the rest stands after the text, and decides nothing
  pub record DeclaresBy (used rest : List InputLine) (value : V) : Type 0 where
    pub come : ComeAfter [] most_input used
    pub declared : grammar.declares (texts (used ++ rest)) value (texts rest)

  -- an input declares a value by first lines that come
  pub record DeclaresWithinLimits (input : List InputLine) (value : V) : Type 0 where
    pub used : List InputLine
    pub rest : List InputLine
    pub divided : input ≡ used ++ rest
    pub declares : DeclaresBy used rest value

  module _ (refusing : Refusing F) where
    -- the line of a refusal is put, and the run ends as it says
    abbrev pub PutsRefusal : F → List ℕ → End → Type 0
    PutsRefusal fault put end = (put ≡ refusing.line fault) × (end ≡ refusing.end fault)

    -- the input declares a value, and what is put answers it, by the number of the line that ends the text; or the first refusal of
    -- the input is put
    abbrev pub AnswersLineOrRefuses : (V → ℕ → List ℕ → End → Type 0) → (input put : List ℕ) → End → Type 0
    AnswersLineOrRefuses answers input put end =
        ((value : V) × (after : List (List ℕ)) × grammar.declares (lines input) value after × answers value (last_before after (lines input)) put end)
        ⊎ ((fault : F) × IsFirstRefusal (input_lines input) fault × PutsRefusal fault put end)

    -- What a command promises that reads a text and answers once. `answers`: it puts the answer to what the input declares, by the number of the line that ends
    -- the text, or the first refusal of the input. `declared`: if the input declares a value by lines that come, it puts the answer to that. `refuses`: if the
    -- input has a first refusal, it puts that.
    pub record AnswersLine (answering : V → ℕ → List ℕ → End → Type 0) (input put : List ℕ) (end : End) : Type 0 where
      pub answers : AnswersLineOrRefuses answering input put end
      pub declared : (value : V) (within : DeclaresWithinLimits (input_lines input) value) → answering value (length within.used) put end
      pub refuses : (fault : F) → IsFirstRefusal (input_lines input) fault → PutsRefusal fault put end

    -- the same if the answer does not depend on the number of that line
    abbrev pub AnswersOrRefuses : (V → List ℕ → End → Type 0) → (input put : List ℕ) → End → Type 0
    AnswersOrRefuses answers input put end = AnswersLineOrRefuses (λ value number. answers value) input put end

    -- what a command promises that reads a text and answers once, if the answer does not depend on the number of the line that ends the
    -- text
    abbrev pub AnswersText : (V → List ℕ → End → Type 0) → (input put : List ℕ) → End → Type 0
    AnswersText answering input put end = AnswersLine (λ value number. answering value) input put end
