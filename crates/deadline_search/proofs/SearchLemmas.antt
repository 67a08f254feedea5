-- What is found of the network with the bound of a goal at a number decides whether the number is a deadline.
use Rattle.std.proofs.Common.{◌≡◌, ℤ, ◌≤ℤ◌, Bool, Option, Some, None, sym, ◌∙◌, subst, true≢false}
use Rattle.std.specs.Bool.{Decides}
use Rattle.std.specs.Option.{is_some}
use Rattle.net_model.specs.Network.{Plan, IsPlan}
use Rattle.net_model.specs.ShownForm.{shown_form}
use Rattle.strategy_model.specs.Control.{IsControllable}
use Rattle.strategy_model.specs.ShownLaws.{ControllableIsShown}
use Rattle.verdicts.specs.Decisions.{IsDecidedBy}
use Rattle.verdicts.proofs.VerdictLemmas.{shown_decides, shown_excludes}
use Rattle.deadline_search.specs.Deadlines.{IsDeadline, highest, lowest}
use Rattle.deadline_search.specs.Goals.{with_goal}
use Rattle.deadline_search.specs.declared.goal.Goal.{Goal}

-- it is one exactly if a table of the shown form of that network is found
pub deadline_by : {T : Type 0} (By : Plan → T → Type 0) → ControllableIsShown → (net : Plan) (goal : Goal) (most : ℤ) (more shown : Plan) → IsPlan more → more ≡ with_goal net goal most → shown ≡ shown_form more
    → lowest ≤ℤ most → most ≤ℤ highest → (found : Option T) → IsDecidedBy By shown found → (is : Bool) → is ≡ is_some found → Decides is (IsDeadline net goal most)
deadline_by By law net goal most more shown plan bound as_shown low high (Some closed) decided is same = (
  λ yes. record { from_lowest = low; to_highest = high; kept = subst IsControllable bound (shown_decides By law more shown closed plan as_shown decided).controllable },
  λ deadline. same,
)
deadline_by By law net goal most more shown plan bound as_shown low high None never is same = (
  λ yes. absurd (true≢false (sym yes ∙ same)),
  λ deadline. absurd (shown_excludes law more shown plan as_shown never (subst IsControllable (sym bound) deadline.kept)),
)
