-- The engine by which a network is decided: its word, and which networks it takes.
use Rattle.std.specs.Prelude.{◌≡◌, ◌⊎◌, ℕ, Bool, true, List, [], ◌∷◌, ◌++◌, codes, nat_le, Option, Some, None, Result, Ok, Err, if◌then◌else◌}
use Rattle.std.specs.Str.{bytes_eq}
use Rattle.net_model.specs.Network.{Plan}
use Rattle.cell_table.specs.Limits.{key_count, most_keys}
use Rattle.command_words.specs.Syntax.{Text as Word}
use Rattle.common_answers.specs.declared.faults.Fault.{Fault}
use Rattle.common_answers.specs.declared.faults.Fault.TheVariants.{Cells as BeyondCells}
use Rattle.input_texts.specs.declared.plan_input.Notation.{Notation}
use Rattle.input_texts.specs.declared.plan_input.Notation.TheVariants.{Text, Json}
use Rattle.check_command.specs.declared.engine.Engine.{Engine}
use Rattle.check_command.specs.declared.engine.Engine.TheVariants.{Rounds, Cells}
use Rattle.check_command.specs.declared.engine.EngineTest.{EngineTest}

-- the name of the option
abbrev pub engine_name : Word
engine_name = codes "engine"

-- the word that names an engine
abbrev pub engine_word : Engine → Word
engine_word Rounds = codes "rounds"
engine_word Cells = codes "cells"

-- the engine that a word names
abbrev pub engine_of : Word → Option Engine
engine_of word = if bytes_eq word (codes "rounds") then Some Rounds else (if bytes_eq word (codes "cells") then Some Cells else None)

-- the engine by the value of the option: rounds if it is not given
abbrev pub engine_given : Option Word → Option Engine
engine_given None = Some Rounds
engine_given (Some word) = engine_of word

-- the value of the option, if it is given, is the word of this engine; if it is not, this is the engine of rounds
abbrev pub SaysEngine : Option Word → Engine → Type 0
SaysEngine None engine = engine ≡ Rounds
SaysEngine (Some word) engine = word ≡ engine_word engine

-- an engine is spelled in two ways: by the name of the option and then its word, or by both as one word with `=` between
abbrev pub SpellsEngine : Engine → List Word → Type 0
SpellsEngine engine words = (words ≡ codes "--engine" ∷ engine_word engine ∷ []) ⊎ (words ≡ (codes "--engine=" ++ engine_word engine) ∷ [])

-- an engine takes a network: that of cells one whose keys cells hold, that of rounds any
abbrev pub takes : Engine → Plan → Bool
takes Rounds net = true
takes Cells net = nat_le (key_count net) most_keys

-- the number by which a plan is refused that ends in a line: the line's; if it is a document, 0
abbrev pub reported_line : Notation → (number : ℕ) → ℕ
reported_line Text number = number
reported_line Json number = 0

-- a network that the engine takes passes; another is refused by the number of the line that ends the plan, or of a document by 0
abbrev pub engine_tests : EngineTest → Plan → (number : ℕ) → Result Plan Fault
engine_tests test net number = if takes test.engine net then Ok net else Err (BeyondCells (reported_line test.notation number))
