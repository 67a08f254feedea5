-- A phase that answers each line by the number of the line, and wants no memory.
use Rattle.std.specs.Prelude.{◌≡◌, ℕ, Bool, true, false, List, [], ◌∷◌, codes}
use Rattle.std.specs.Str.{bytes_eq}
use Rattle.std.specs.Fmt.{decimal}
use Rattle.texts.specs.PrintedLines.{printed_line}
use Rattle.texts.specs.Limits.{most_line}
use Rattle.command_engine.specs.Machine.{Machine}
use Rattle.command_engine.specs.declared.endings.End.TheVariants as ends
use Rattle.command_engine.specs.declared.machines.Flow.{Flow}
use Rattle.command_engine.specs.declared.machines.Flow.TheVariants.{Continue, Finish}
use Rattle.example_commands.specs.declared.tally.Tally.{Tally}
use Rattle.example_commands.specs.declared.tally.FromCount.{FromCount}

-- how many bytes a line of the phase has at most
abbrev pub most_tally : ℕ
most_tally = 64

-- the line `stop` ends the run; each other line is answered by the number from which the phase began and its own
abbrev pub Replies : Bool → Tally → ℕ → List ℕ → Flow Tally → Type 0
Replies true tally number answer flow = (answer ≡ []) × (flow ≡ Finish ends.Done)
Replies false tally number answer flow =
    (answer ≡ printed_line (codes "at" ∷ decimal tally.from ∷ decimal number ∷ [])) × (flow ≡ Continue tally)

abbrev pub tally_machine : Machine Tally
tally_machine = record {
  longest = λ tally. most_line;
  takes = λ tally number line answer flow. Replies (bytes_eq line (codes "stop")) tally number answer flow;
  stops = λ tally number stop answer end. (answer ≡ printed_line (codes "error" ∷ codes "no-stop" ∷ decimal number ∷ [])) × (end ≡ ends.Fault);
  may_want = λ tally. ⊥;
  spare_capacity = λ tally. most_tally;
}

-- the phase begins from the number of lines of a text
abbrev pub Begins : FromCount → ℕ → List ℕ → Flow Tally → Type 0
Begins start lines answer flow =
    (answer ≡ printed_line (codes "from" ∷ decimal lines ∷ [])) × (flow ≡ Continue (record { from = lines }))
