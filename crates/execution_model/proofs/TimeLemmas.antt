-- Time that runs while no contingent point comes makes the moments so far those of the schedule before a later moment.
use Rattle.std.proofs.Common.{◌≡◌, ℕ, zero, suc, ◌+◌, ◌≤◌, ◌<◌, List, subst, arith}
use Rattle.net_model.specs.Network.{Plan}
use Rattle.net_model.specs.declared.ids.PointId.{PointId}
use Rattle.closure_model.specs.Tables.{Graph}
use Rattle.strategy_model.specs.Situations.{moment_in}
use Rattle.strategy_model.proofs.KindLemmas.{Ending}
use Rattle.net_model.specs.Moments.{Moments}
use Rattle.execution_model.specs.Execution.{acted, time_runs}
use Rattle.execution_model.specs.Laws.{setting_of}
use Rattle.execution_model.proofs.PlaceLemmas.{ending_point}
use Rattle.execution_model.proofs.CutLemmas.{IsCut, IsSeen, IsRun, acts_cut}

-- no contingent point comes from one moment on up to another
abbrev pub NoneComes : Plan → List ℕ → (from to : ℕ) → Type 0
NoneComes net schedule from to = (point : PointId) → Ending net point → from ≤ moment_in schedule point → moment_in schedule point < to → ⊥

pub cut_same : (net : Plan) (schedule : List ℕ) (moments : Moments) (t u : ℕ) → t ≡ u → IsCut net schedule moments t → IsCut net schedule moments u
cut_same net schedule moments t u same cut = subst (IsCut net schedule moments) same cut

module _ (net : Plan) (table : Graph) (schedule : List ℕ) (run : IsRun net table schedule) where
  -- if no contingent point comes at a moment, its completions are none
  pub none_seen : (moments : Moments) (t : ℕ) → IsCut net schedule moments t → NoneComes net schedule t (suc t) → IsSeen net schedule moments t
  none_seen moments t cut none = record {
    long = cut.long;
    known = cut.known;
    completed = λ point ending now. absurd (none point ending (omega (arith, now)) (omega (arith, now)));
    not_yet = λ point ending above. cut.unknown point (ending_point net run.plan point ending) (omega (arith, above));
    unknown = λ point executable above. cut.unknown point executable.0 above;
  }

  pub moment_runs : (moments : Moments) (t : ℕ) → IsCut net schedule moments t → NoneComes net schedule t (suc t) → IsCut net schedule (acted (setting_of net table) moments t) (suc t)
  moment_runs moments t cut none = acts_cut net table schedule run moments t (none_seen moments t cut none)

  pub time_cut : (count : ℕ) (moments : Moments) (t : ℕ) → IsCut net schedule moments t → NoneComes net schedule t (t + count)
      → IsCut net schedule (time_runs (setting_of net table) moments t count) (t + count)
  time_cut zero moments t cut none = cut_same net schedule moments t (t + 0) (omega arith) cut
  time_cut (suc count) moments t cut none =
      let next = moment_runs moments t cut (λ point ending at_least below. none point ending at_least (omega (arith, below))) in
      cut_same net schedule (time_runs (setting_of net table) (acted (setting_of net table) moments t) (suc t) count) (suc t + count) (t + suc count) (omega arith)
      (time_cut count (acted (setting_of net table) moments t) (suc t) next (λ point ending at_least below. none point ending (omega (arith, at_least)) (omega (arith, below))))
