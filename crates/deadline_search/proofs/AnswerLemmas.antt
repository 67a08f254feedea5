-- What is answered at the end of a search is so.
use Rattle.std.proofs.Common.{◌≡◌, ◌⊎◌, inl, inr, ℤ, pos, ◌-ℤ◌, ◌≤ℤ◌, ◌<ℤ◌, ◌<◌, ◌≤◌, Result, Ok, Err, length, subst, refl, arith}
use Rattle.std.specs.Result.{IsErr, IsErrAnd}
use Rattle.std.proofs.lemmas.Int.{ints}
use Rattle.net_model.specs.Limits.{most_bounds}
use Rattle.net_model.specs.Network.{Plan, IsPlan}
use Rattle.net_model.specs.declared.ids.PointId.{PointId}
use Rattle.strategy_model.specs.Control.{IsControllable}
use Rattle.strategy_model.specs.LooserLaws.{LooserBoundsKeepControl}
use Rattle.cert_format.specs.declared.certificate.Certificate.{Certificate}
use Rattle.forward_closure.specs.declared.decision.ForwardClosed.{ForwardClosed}
use Rattle.verdicts.specs.Decisions.{IsOrderedForwardTable}
use Rattle.verdicts.specs.Verdict.{IsVerdictBy}
use Rattle.verdicts.specs.declared.verdict.Verdict.TheVariants.{Controllable, Refuted}
use Rattle.deadline_search.specs.Answers.{Answers, IsAnswerOf, ProvesAt, RefutesAt}
use Rattle.deadline_search.specs.Deadlines.{IsDeadline, IsFull, highest, lowest}
use Rattle.deadline_search.specs.Goals.{IsGoalName}
use Rattle.deadline_search.specs.Trials.{IsLastDeadline}
use Rattle.deadline_search.specs.declared.answer.Deadline.{Deadline}
use Rattle.deadline_search.specs.declared.answer.DeadlineFault.{DeadlineFault}
use Rattle.deadline_search.specs.declared.answer.DeadlineFault.TheVariants.{Full, OutOfMemory}
use Rattle.deadline_search.specs.declared.answer.Deadline.TheVariants.{NotControllable, Never, Least, Floor}
use Rattle.deadline_search.specs.declared.goal.Goal.{Goal}
use Rattle.deadline_search.proofs.GoalLemmas.{none_by_highest, tightest_at_lowest, tightest_by_one}

-- the number before the last deadline is none, if that is not the lowest
pub before_last : (net : Plan) (goal : Goal) (most before : ℤ) → before ≡ most -ℤ pos 1 → IsLastDeadline net goal most → lowest <ℤ most → ¬ IsDeadline net goal before
before_last net goal most before is last above = by last.last
  where
    by : ((most ≡ lowest) ⊎ (¬ IsDeadline net goal (most -ℤ pos 1))) → ¬ IsDeadline net goal before
    by (inl at_lowest) = λ deadline. absurd (omega (arith, ints, at_lowest, above))
    by (inr none) = λ deadline. none (subst (IsDeadline net goal) is deadline)

-- a controllable network and a goal with its name
module _ (net : Plan) (goal : Goal) (controls : IsControllable net) (named : IsGoalName net goal.name) where
  pub never_is : LooserBoundsKeepControl → (refutation : Certificate) → (¬ IsDeadline net goal highest) → RefutesAt net goal highest refutation → IsAnswerOf net goal.from goal.to (Never goal.name refutation)
  never_is law refutation none refuted = record {
    controllable = controls;
    named = named;
    says = record { none = none_by_highest law net goal none; refuted = refuted };
  }

  pub floor_is : LooserBoundsKeepControl → (most : ℤ) (proof : Certificate) → IsDeadline net goal most → most ≤ℤ lowest → ProvesAt net goal most proof → IsAnswerOf net goal.from goal.to (Floor goal.name proof)
  floor_is law most proof deadline low proves =
      let same : most ≡ lowest = omega (arith, ints, low, deadline.from_lowest) in
      record {
        controllable = controls;
        named = named;
        says = record { tightest = tightest_at_lowest law net goal (subst (IsDeadline net goal) same deadline); proved = subst (λ (n : ℤ). ProvesAt net goal n proof) same proves };
      }

  pub least_is : LooserBoundsKeepControl → (most : ℤ) (proof refutation : Certificate) → IsLastDeadline net goal most → lowest <ℤ most → ProvesAt net goal most proof → RefutesAt net goal (most -ℤ pos 1) refutation
      → IsAnswerOf net goal.from goal.to (Least goal.name most proof refutation)
  least_is law most proof refutation last above proves refutes = record {
    controllable = controls;
    named = named;
    says = record {
      tightest = tightest_by_one law net goal most (most -ℤ pos 1) refl last.deadline (before_last net goal most (most -ℤ pos 1) refl last above);
      above_lowest = above;
      proved = proves;
      refuted = refutes;
    };
  }

-- if memory runs out nothing is said
pub memory_is : (net : Plan) (from to : PointId) (answer : Result Deadline DeadlineFault) → IsErr answer → IsErrAnd answer (λ (fault : DeadlineFault). fault ≡ OutOfMemory) → Answers net from to answer
memory_is net from to (Ok deadline) err is = absurd (cc)
memory_is net from to (Err OutOfMemory) err is = tt
memory_is net from to (Err Full) err is = absurd (cc)

-- what is answered of a network by its verdict
module _ (net : Plan) where
  pub full_is : (stated shown : Plan) (closed : ForwardClosed) → IsVerdictBy IsOrderedForwardTable net (Controllable stated shown closed) → IsPlan stated → most_bounds ≤ length stated.bounds → IsFull net
  full_is stated shown closed (is, by) plan many = record {
    controllable = subst IsControllable is by.controllable;
    bounds = subst (λ (n : Plan). length n.bounds ≡ most_bounds) is (omega (arith, many, plan.few_bounds));
  }

  pub answer_is : (stated shown : Plan) (closed : ForwardClosed) (from to : PointId) (deadline : Deadline) → IsVerdictBy IsOrderedForwardTable net (Controllable stated shown closed) → length stated.bounds < most_bounds → IsAnswerOf stated from to deadline
      → Answers net from to (Ok deadline)
  answer_is stated shown closed from to deadline (is, by) spare_capacity answer =
      let few : length net.bounds < most_bounds = subst (λ (n : Plan). length n.bounds < most_bounds) is spare_capacity in
      ((λ full. absurd (omega (arith, few, full.bounds))), subst (λ (n : Plan). IsAnswerOf n from to deadline) is answer)

  pub refuted_is : (refutation : Certificate) (from to : PointId) → IsVerdictBy IsOrderedForwardTable net (Refuted refutation) → Answers net from to (Ok (NotControllable refutation))
  refuted_is refutation from to verdict = ((λ full. verdict.0 full.controllable), verdict)
