-- A moment more of time that runs.
use Rattle.std.proofs.Common.{◌≡◌, ℕ, suc, ◌+◌, ◌-◌, ◌<◌, List, ◌++◌, length, Option, ap, sym, subst, ◌∙◌, append_assoc, arith}
use Rattle.std.specs.Prelude.{IsSome}
use Rattle.std.specs.List.{All}
use Rattle.net_model.specs.Moments.{Moments}
use Rattle.execution_model.specs.Execution.{Setting, acts_at, acted, time_runs, acts_while}
use Rattle.execution_model.specs.Feeds.{Execution, next_moment, last_of, IsWhole}
use Rattle.execution_model.specs.declared.feed_answers.Act.{Act}
use Rattle.execution_model.specs.declared.feed_answers.Why.{Why}

one_less : (t until : ℕ) → t < until → until - t ≡ suc (until - (t + 1))
one_less t until less = omega arith

plus_one : (t : ℕ) → suc t ≡ t + 1
plus_one t = omega arith

module _ (setting : Setting) (t until : ℕ) (less : t < until) where
  pub run_on : (moments after : Moments) → after ≡ acted setting moments t → time_runs setting moments t (until - t) ≡ time_runs setting after (t + 1) (until - (t + 1))
  run_on moments after are =
      ap (time_runs setting moments t) (one_less t until less) ∙ ap (λ u. time_runs setting (acted setting moments t) u (until - (t + 1))) (plus_one t)
      ∙ ap (λ (m : Moments). time_runs setting m (t + 1) (until - (t + 1))) (sym are)

  pub acts_on : (moments after : Moments) (acts more : List Act) → after ≡ acted setting moments t → more ≡ acts ++ acts_at setting moments t
      → acts ++ acts_while setting moments t (until - t) ≡ more ++ acts_while setting after (t + 1) (until - (t + 1))
  acts_on moments after acts more are pushed =
      let rest : List Act = acts_while setting (acted setting moments t) (suc t) (until - (t + 1)) in
      ap (λ n. acts ++ acts_while setting moments t n) (one_less t until less) ∙ sym (append_assoc acts (acts_at setting moments t) rest)
      ∙ ap (λ (list : List Act). list ++ rest) (sym pushed)
      ∙ ap (λ u. more ++ acts_while setting (acted setting moments t) u (until - (t + 1))) (plus_one t)
      ∙ ap (λ (m : Moments). more ++ acts_while setting m (t + 1) (until - (t + 1))) (sym are)

-- an execution, by its parts
abbrev pub execution_of : Setting → Moments → Option ℕ → List Act → Option Why → Execution
execution_of setting moments last acts refused = record { setting = setting; moments = moments; last = last; acts = acts; refused = refused }

-- time that runs from a moment, so many more, until each point has come
pub record RunsWhole (setting : Setting) (before moments : Moments) (last latest : Option ℕ) (acts : List Act) (from count : ℕ) : Type 0 where
  pub long : length before ≡ length setting.dispatch
  pub runs : moments ≡ time_runs setting before from count
  pub makes : acts ≡ acts_while setting before from count
  pub latest_is : latest ≡ last_of last acts
  pub come : All IsSome moments

-- it makes an execution whole
pub whole_by : (setting : Setting) (before moments : Moments) (last latest : Option ℕ) (old acts : List Act) (refused : Option Why) (from count : ℕ)
    → from ≡ next_moment (execution_of setting before last old refused) → RunsWhole setting before moments last latest acts from count
    → IsWhole (execution_of setting before last old refused) (execution_of setting moments latest acts refused)
whole_by setting before moments last latest old acts refused from count begins whole =
    let record { long = long; runs = runs; makes = makes; latest_is = is; come = come } = whole in
    let execution : Execution = record { setting = setting; moments = before; last = last; acts = old; refused = refused } in
    let now : moments ≡ time_runs setting before (next_moment execution) count = runs ∙ ap (λ t. time_runs setting before t count) begins in
    let made : acts ≡ acts_while setting before (next_moment execution) count = makes ∙ ap (λ t. acts_while setting before t count) begins in
    record {
      count = count;
      long = long;
      come = subst (All IsSome) now come;
      after_it = λ i. record { setting = setting; moments = now i; last = (is ∙ ap (last_of last) made) i; acts = made i; refused = refused };
    }
