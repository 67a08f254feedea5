-- Claims of what is put for words and an input: of each defined run, and of each run over a port.
use Rattle.std.specs.Prelude.{◌≡◌, ℕ, List, ◌++◌}
use Rattle.plan_port.specs.Talk.{Seen}
use Rattle.command_engine.specs.Serves.{WhereBothShown}
use Rattle.command_contracts.specs.Statuses.{StatusHasCause}
use Rattle.command_contracts.specs.declared.status.Status.{Status}
use Rattle.stnu_run.specs.DefinedRuns.{DefinedRun, program_of}

-- what is claimed of words, an input, and the bytes and the exit status for these
abbrev pub RunClaim : Type 1
RunClaim = (words : List (List ℕ)) (input put : List ℕ) → Status → Type 0

-- a claim holds of each defined run
abbrev pub HoldsOfDefinedRuns : RunClaim → Type 0
HoldsOfDefinedRuns Claimed =
    (words : List (List ℕ)) (input put : List ℕ) (status : Status) → DefinedRun words input put status → Claimed words input put status

-- over a port that shows its bytes, a claim holds of what a run put in which no call failed, and for which there was memory
abbrev pub HoldsOfRun : RunClaim → (words : List (List ℕ)) → Status → (before after : Seen) → Type 0
HoldsOfRun Claimed words status before after =
    WhereBothShown before after (λ was is input untaken. (put : List ℕ) → is.put ≡ was.put ++ put
    → ¬ (status.0 ≡ 5) → ¬ (status.0 ≡ 6) → ¬ (status.0 ≡ 8) → Claimed words input put status)

-- so it does of each run whose status has its cause
abbrev pub HoldsOfRuns : RunClaim → Type 0
HoldsOfRuns Claimed =
    (words : List (List ℕ)) (status : Status) (before after : Seen) → StatusHasCause (program_of words) status before after
    → HoldsOfRun Claimed words status before after
