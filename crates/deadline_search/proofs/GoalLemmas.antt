-- The bound of a goal can be added, and a deadline stays one if it is put off.
use Rattle.std.proofs.Common.{◌≡◌, ◌≢◌, ℕ, ℤ, List, [], ◌∷◌, ◌++◌, length, Result, Ok, Err, refl, subst, ◌∙◌, true, false, arith, pos, ◌-ℤ◌, ◌≤ℤ◌, ◌<ℤ◌, ap, w64, to_z, of_z}
use Rattle.std.specs.Prelude.{nat_le, unsigned_abs}
use Rattle.std.specs.List.{AllZip}
use Rattle.std.specs.Int.Signed.{≤ℤ_refl}
use Rattle.std.proofs.lemmas.Bool.{leb-true, lt-leb}
use Rattle.std.proofs.lemmas.Int.{fits_signed_from_abs, ints, to_z-of_z}
use Rattle.std.proofs.lemmas.List.Elements.{AllZip-push}
use Rattle.net_model.specs.BuiltNetwork.{named, with_bound}
use Rattle.net_model.specs.EditedNetwork.{Edits, added, edited}
use Rattle.net_model.specs.Limits.{most_bounds, most_number, within_limit}
use Rattle.net_model.specs.Network.{Plan, IsPlan, IsPoint}
use Rattle.net_model.specs.NetworkParts.{point_name}
use Rattle.net_model.specs.declared.edit.Edit.TheVariants.{AddBound}
use Rattle.net_model.specs.declared.edit.EditFault.{EditFault}
use Rattle.net_model.specs.declared.edit.EditFault.TheVariants as fault
use Rattle.net_model.specs.declared.ids.PointId.{PointId}
use Rattle.net_model.specs.declared.part.Bound.{Bound}
use Rattle.refutation_certificates.proofs.ItemNames.{named_point}
use Rattle.strategy_model.specs.Control.{IsControllable}
use Rattle.strategy_model.specs.LooserLaws.{IsLoosened, LooserBoundsKeepControl}
use Rattle.deadline_search.specs.Deadlines.{IsDeadline, IsTightest, highest, lowest}
use Rattle.deadline_search.specs.Goals.{goal_bound, with_goal}
use Rattle.deadline_search.specs.Trials.{IsGoalFor}
use Rattle.deadline_search.specs.declared.goal.Goal.{Goal}

-- a number from the lowest to the highest is one that a plan may have
pub within_range : (most : ℤ) → lowest ≤ℤ most → most ≤ℤ highest → within_limit most ≡ true
within_range most low high = grind (arith, ints)

-- such a number is read back as it was written
pub stays : (most : ℤ) → lowest ≤ℤ most → most ≤ℤ highest → to_z w64 (of_z w64 most) ≡ most
stays most low high =
    let small = leb-true (unsigned_abs most) most_number (within_range most low high) in
    to_z-of_z w64 most (fits_signed_from_abs w64 most (omega (arith, small)))

-- and so is the number before it, if it is not the lowest
pub stays_before : (most : ℤ) → lowest <ℤ most → most ≤ℤ highest → to_z w64 (of_z w64 (to_z w64 (of_z w64 most) -ℤ pos 1)) ≡ most -ℤ pos 1
stays_before most above high =
    let was : to_z w64 (of_z w64 most) ≡ most = stays most (omega (arith, ints, above)) high in
    let here : to_z w64 (of_z w64 (most -ℤ pos 1)) ≡ most -ℤ pos 1 = stays (most -ℤ pos 1) (omega (arith, ints, above)) (omega (arith, ints, high)) in
    ap (λ (n : ℤ). to_z w64 (of_z w64 (n -ℤ pos 1))) was ∙ here

-- the name of a point names it
name_known : (net : Plan) (point : PointId) → IsPlan net → IsPoint net point → named net (point_name net.points point) ≡ Ok point
name_known net point plan inside = rw (named_point net plan point inside, named) refl

bound_added : (net : Plan) (goal : Goal) (most : ℤ) → IsPlan net → IsGoalFor net goal → within_limit most ≡ true
    → with_bound net goal.name (point_name net.points goal.from) (point_name net.points goal.to) most ≡ Ok (with_goal net goal most)
unfolding with_bound
bound_added net goal most plan for within =
    let spare_capacity : nat_le most_bounds (length net.bounds) ≡ false = lt-leb most_bounds (length net.bounds) for.spare_capacity in
    rw (for.free, name_known net goal.from plan for.from_point, name_known net goal.to plan for.to_point, within, spare_capacity) refl

-- the edit that adds the bound of a goal gives the network with it
pub goal_added : (net : Plan) (goal : Goal) (most : ℤ) → IsPlan net → IsGoalFor net goal → lowest ≤ℤ most → most ≤ℤ highest
    → edited net (AddBound goal.name (point_name net.points goal.from) (point_name net.points goal.to) most) ≡ Ok (with_goal net goal most)
goal_added net goal most plan for low high = ap added (bound_added net goal most plan for (within_range most low high))

-- an edit that is accepted is not refused but for want of memory
never_refused : (more : Plan) (cause : EditFault) → cause ≢ fault.OutOfMemory → Edits (Err cause) (Ok more) → ⊥
never_refused more fault.OutOfMemory other edits = other refl
never_refused more fault.DuplicateName other edits = absurd (cc)
never_refused more fault.UnknownName other edits = absurd (cc)
never_refused more fault.TwoLinksOnPoint other edits = absurd (cc)
never_refused more fault.LinkToItself other edits = absurd (cc)
never_refused more fault.BadInterval other edits = absurd (cc)
never_refused more (fault.Limit which) other edits = absurd (cc)
never_refused more (fault.StillUsed user) other edits = absurd (cc)

-- what the edit makes is the network with the bound, and it is refused for want of memory alone
module _ (net : Plan) (goal : Goal) (most : ℤ) (plan : IsPlan net) (for : IsGoalFor net goal) (low : lowest ≤ℤ most) (high : most ≤ℤ highest) (from to : List ℕ) (number : ℤ)
    (from_is : from ≡ point_name net.points goal.from) (to_is : to ≡ point_name net.points goal.to) (number_is : number ≡ most) where
  accepted : edited net (AddBound goal.name from to number) ≡ Ok (with_goal net goal most)
  accepted = rw (from_is, to_is, number_is) (goal_added net goal most plan for low high)

  pub makes_goal : (more : Plan) → Edits (Ok more) (edited net (AddBound goal.name from to number)) → more ≡ with_goal net goal most
  makes_goal more makes =
      let wanted : edited net (AddBound goal.name from to number) ≡ Ok (with_goal net goal most) = accepted in
      grind (arith, makes, wanted)

  pub refuses_none : (cause : EditFault) → cause ≢ fault.OutOfMemory → Edits (Err cause) (edited net (AddBound goal.name from to number)) → ⊥
  refuses_none cause other refuses = never_refused (with_goal net goal most) cause other (subst (λ (r : Result Plan EditFault). Edits (Err cause) r) accepted refuses)

-- bounds allow as much as they do
same_loosened : (bounds : List Bound) → AllZip IsLoosened bounds bounds
same_loosened [] = tt
same_loosened (bound ∷ bounds) = ((refl, refl, ≤ℤ_refl bound.most), same_loosened bounds)

-- what can be kept with a number can be kept with a greater one
pub kept_later : LooserBoundsKeepControl → (net : Plan) (goal : Goal) (low high : ℤ) → low ≤ℤ high → IsControllable (with_goal net goal low) → IsControllable (with_goal net goal high)
kept_later law net goal low high later (strategy, controls) =
    let looser : AllZip IsLoosened (net.bounds ++ goal_bound goal low ∷ []) (net.bounds ++ goal_bound goal high ∷ []) =
    AllZip-push IsLoosened net.bounds net.bounds (goal_bound goal low) (goal_bound goal high) (same_loosened net.bounds) (refl, refl, later) in
    (strategy, law strategy (with_goal net goal low) (net.bounds ++ goal_bound goal high ∷ []) looser controls)

-- so a deadline that is put off is one
pub put_off : LooserBoundsKeepControl → (net : Plan) (goal : Goal) (low high : ℤ) → low ≤ℤ high → high ≤ℤ highest → IsDeadline net goal low → IsDeadline net goal high
put_off law net goal low high later limit deadline = record {
  from_lowest = omega (arith, ints, later, deadline.from_lowest);
  to_highest = limit;
  kept = kept_later law net goal low high later deadline.kept;
}

-- if the greatest number is no deadline, none is
pub none_by_highest : LooserBoundsKeepControl → (net : Plan) (goal : Goal) → (¬ IsDeadline net goal highest) → (most : ℤ) → ¬ IsDeadline net goal most
none_by_highest law net goal never most = λ deadline. never (put_off law net goal most highest deadline.to_highest (≤ℤ_refl highest) deadline)

-- if the number before a deadline is none, it is the tightest
pub tightest_by_one : LooserBoundsKeepControl → (net : Plan) (goal : Goal) (most before : ℤ) → before ≡ most -ℤ pos 1 → IsDeadline net goal most → (¬ IsDeadline net goal before) → IsTightest net goal most
tightest_by_one law net goal most before is deadline never = record {
  deadline = deadline;
  later = λ other above limit. put_off law net goal most other above limit deadline;
  least = λ other below earlier. never (put_off law net goal other before (omega (arith, ints, is, below)) (omega (arith, ints, is, deadline.to_highest)) earlier);
}

-- the least number that a plan may have is the tightest if it is a deadline
pub tightest_at_lowest : LooserBoundsKeepControl → (net : Plan) (goal : Goal) → IsDeadline net goal lowest → IsTightest net goal lowest
tightest_at_lowest law net goal deadline = tightest_by_one law net goal lowest (lowest -ℤ pos 1) refl deadline (λ before. absurd (omega (arith, ints, before.from_lowest)))
