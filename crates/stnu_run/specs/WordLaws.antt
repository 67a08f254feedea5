-- What the laws of words speak of.
use Rattle.std.specs.Prelude.{◌≡◌, ◌↔◌, ℕ, List}
use Rattle.stnu_run.specs.DefinedRuns.{DefinedRun}
use Rattle.command_contracts.specs.declared.status.Status.{Status}

-- the words are not refused: no run of theirs ends with 2
abbrev pub AreTaken : (words : List (List ℕ)) → Type 0
AreTaken words = (input put : List ℕ) (status : Status) → DefinedRun words input put status → ¬ (status.0 ≡ 2)

-- the defined runs of these words are those of the others
abbrev pub SameRuns : (words others : List (List ℕ)) → Type 0
SameRuns words others = (input put : List ℕ) (status : Status) → DefinedRun words input put status ↔ DefinedRun others input put status
