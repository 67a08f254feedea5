-- A command that answers lines, and then, at the line `go`, serves another phase through one wrap.
use Rattle.std.specs.Prelude.{◌≡◌, ℕ, Bool, true, false, List, [], ◌∷◌, codes}
use Rattle.std.specs.Str.{bytes_eq}
use Rattle.std.specs.Fmt.{decimal}
use Rattle.texts.specs.PrintedLines.{printed_line}
use Rattle.texts.specs.Limits.{most_line}
use Rattle.command_engine.specs.Machine.{Machine}
use Rattle.command_engine.specs.Phases.{Within}
use Rattle.command_engine.specs.declared.endings.End.{End}
use Rattle.command_engine.specs.declared.endings.End.TheVariants as ends
use Rattle.command_engine.specs.declared.machines.Stop.{Stop}
use Rattle.command_engine.specs.declared.machines.Flow.{Flow}
use Rattle.command_engine.specs.declared.machines.Flow.TheVariants.{Continue}
use Rattle.example_commands.specs.Tally.{Begins, tally_machine}
use Rattle.example_commands.specs.declared.tally_command.TallyCommand.{TallyCommand}
use Rattle.example_commands.specs.declared.tally_command.TallyCommand.TheVariants.{Open, Tallying}

-- the line `go` begins the tally, from the number of lines kept; each other line is kept
abbrev pub Replies : Bool → (kept number : ℕ) → List ℕ → Flow TallyCommand → Type 0
Replies true kept number answer flow = Within Tallying (Begins (record {}) kept) answer flow
Replies false kept number answer flow = (answer ≡ printed_line (codes "kept" ∷ decimal number ∷ [])) × (flow ≡ Continue (Open number))

abbrev pub TallyCommandTakes : TallyCommand → ℕ → List ℕ → List ℕ → Flow TallyCommand → Type 0
TallyCommandTakes (Open kept) number line answer flow = Replies (bytes_eq line (codes "go")) kept number answer flow
TallyCommandTakes (Tallying tally) number line answer flow = Within Tallying (tally_machine.takes tally number line) answer flow

abbrev pub TallyCommandStops : TallyCommand → ℕ → Stop → List ℕ → End → Type 0
TallyCommandStops (Open kept) number stop answer end = (answer ≡ printed_line (codes "error" ∷ codes "no-go" ∷ decimal number ∷ [])) × (end ≡ ends.Fault)
TallyCommandStops (Tallying tally) number stop answer end = tally_machine.stops tally number stop answer end

-- memory may be wanted before `go`, and not after it
abbrev pub MayWant : TallyCommand → Type 0
MayWant (Open kept) = Unit {0}
MayWant (Tallying tally) = tally_machine.may_want tally

abbrev pub capacity_of : TallyCommand → ℕ
capacity_of (Open kept) = 0
capacity_of (Tallying tally) = tally_machine.spare_capacity tally

abbrev pub tally_command_machine : Machine TallyCommand
tally_command_machine = record {
  longest = λ desk. most_line;
  takes = TallyCommandTakes;
  stops = TallyCommandStops;
  may_want = MayWant;
  spare_capacity = capacity_of;
}
