-- What holds of each defined run holds of each run over a port.
use Rattle.std.proofs.Common.{◌≡◌, ℕ, List}
use Rattle.plan_port.proofs.Talks.{WhereShown-so}
use Rattle.stnu_run.specs.DefinedRuns.{DefinedRun, program_of}
use Rattle.command_contracts.specs.ExactBytes.{IsPrefixOfDefined}
use Rattle.command_engine.specs.Single.{IsPrefix}
use Rattle.command_contracts.specs.declared.status.Status.{Status}
use Rattle.stnu_run.specs.RunClaims.{HoldsOfDefinedRuns, HoldsOfRuns, RunClaim}
use Rattle.stnu_run.specs.RunLaws.{IsOnlyRun, RunsAreOnlyDefined}

pub of_runs : (Claimed : RunClaim) → HoldsOfDefinedRuns Claimed → HoldsOfRuns Claimed
of_runs Claimed law words status before after caused =
    WhereShown-so before.talk after.talk _ _ (λ was is inner.
    WhereShown-so before.left after.left _ _ (λ input untaken has put all no_take no_put memory. law words input put status (has put all no_take no_put memory).defined) inner) caused.input

-- what was put is the only run that is defined
pub only_defined : ((words : List (List ℕ)) (input a b : List ℕ) (x y : Status) → DefinedRun words input a x → DefinedRun words input b y → (a ≡ b) × (x ≡ y))
    → ((words : List (List ℕ)) (input put all : List ℕ) (status : Status) → IsPrefixOfDefined (program_of words) input put → DefinedRun words input all status → IsPrefix put all)
    → RunsAreOnlyDefined
only_defined one prefixes words status before after caused exact = record {
  whole = of_runs IsOnlyRun (λ ws input put ends defines other also defined. one ws input put other ends also defines defined) words status before after caused;
  without_memory = λ no_memory.
      WhereShown-so before.talk after.talk _ _ (λ was is inner.
      WhereShown-so before.left after.left _ _ (λ input untaken has put all whole ending defines. prefixes words input put whole ending ((has put all).no_memory no_memory) defines) inner) exact;
}
