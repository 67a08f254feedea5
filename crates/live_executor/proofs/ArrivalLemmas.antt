-- A point that comes, and is executed.
use Rattle.std.proofs.Common.{◌≡◌, ℕ, ◌<◌, List, [], ◌∷◌, ◌++◌, length, ap, sym, subst, ◌∙◌, arith, append-nil}
use Rattle.net_model.specs.declared.ids.PointId.{PointId}
use Rattle.net_model.specs.Moments.{Moments}
use Rattle.execution_model.specs.Feeds.{completed_at}
use Rattle.execution_model.specs.Paced.{ArePaced}
use Rattle.execution_model.specs.declared.feed_answers.Act.{Act}
use Rattle.execution_model.proofs.MomentLemmas.{length-completed_at}
use Rattle.live_executor.specs.ExpectedPoints.{AreLatest}
use Rattle.live_executor.specs.ExecutionStates.{ExecutionSoFar, StandsAt, MayComeAt, Comes, Executes}
use Rattle.live_executor.specs.Sound.{KeptNetwork, made_setting}
use Rattle.live_executor.specs.Trace.{KeepsTrace}
use Rattle.live_executor.specs.WokenPoints.{IsAwake}
use Rattle.live_executor.proofs.FirstDueLemmas.{stands_with}
use Rattle.live_executor.proofs.UndoLemmas.{one_more_since}

module _ (network : KeptNetwork) (t : ℕ) (point : PointId) (old : ExecutionSoFar) (stands : StandsAt network t old) (may : MayComeAt network t old point) where
  pub its_place : point.0 < length old.moments
  its_place = (let inside = may.inside in omega (arith, inside, stands.count))

  as_long : length (completed_at old.moments t point) ≡ length old.moments
  as_long = length-completed_at old.moments t point

  -- what is kept is right for the moments that it leaves
  pub comes : (new : ExecutionSoFar) → new.moments ≡ completed_at old.moments t point → IsAwake network.setting t new.moments new.counts new.due → AreLatest network.setting new.moments new.latest
      → new.acts ≡ old.acts → new.came ≡ old.came ++ point ∷ [] → Comes network t point old new
  comes new moments_are awake expected acts_are came_is = record {
    moments_are = moments_are;
    acts_are = acts_are ∙ sym (append-nil old.acts);
    stands = record {
      awake = awake;
      expected = expected;
      count = ap (λ (moments : Moments). length moments) moments_are ∙ (as_long ∙ stands.count);
      few = (let same = ap (λ (moments : Moments). length moments) moments_are in omega (arith, same, as_long, stands.few));
      paced = subst (ArePaced (made_setting network)) (sym moments_are) may.paced;
    };
    trace = subst (λ (moments : Moments). KeepsTrace old.came old.moments new.came moments) (sym moments_are)
        (one_more_since old.moments old.came new.came point t its_place may.is_new came_is);
  }

-- a point that came is executed when its act is made
pub executes : (network : KeptNetwork) (t : ℕ) (point : PointId) (old now : ExecutionSoFar) (acts : List Act) → Comes network t point old now → acts ≡ now.acts ++ record { moment = t; point = point } ∷ []
    → Executes network t point old (record now { acts = acts })
executes network t point old now acts comes pushed = record {
  moments_are = comes.moments_are;
  acts_are = pushed ∙ ap (λ (before : List Act). before ++ record { moment = t; point = point } ∷ []) (comes.acts_are ∙ append-nil old.acts);
  stands = stands_with network t now acts now.came comes.stands;
  trace = comes.trace;
}
