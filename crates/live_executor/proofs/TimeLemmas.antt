-- Time by leaps is time by steps: if no point is due nothing changes.
use Rattle.std.proofs.Common.{◌≡◌, ℕ, zero, suc, ◌+◌, ◌-◌, ◌<◌, ◌≤◌, false, List, [], ◌++◌, length, refl, ap, sym, ◌∙◌, arith, append_assoc, append-nil}
use Rattle.net_model.specs.declared.ids.PointId.{PointId}
use Rattle.net_model.specs.Moments.{Moments}
use Rattle.execution_model.specs.Execution.{Setting, is_due, acts_at, acted, time_runs, acts_while}
use Rattle.execution_model.specs.declared.feed_answers.Act.{Act}
use Rattle.execution_model.proofs.MomentLemmas.{none_due_no_acts, no_acts_same, time_runs_on}

-- no point is due at t
abbrev pub IsIdle : Setting → Moments → (t : ℕ) → Type 0
IsIdle setting moments t = (point : PointId) → point.0 < length setting.dispatch → is_due setting moments t point ≡ false

plus_zero : (t : ℕ) → t ≡ t + 0
plus_zero t = omega arith

zero_plus : (b : ℕ) → 0 + b ≡ b
zero_plus b = omega arith

plus_suc : (t a : ℕ) → suc t + a ≡ t + suc a
plus_suc t a = omega arith

suc_plus : (a b : ℕ) → suc a + b ≡ suc (a + b)
suc_plus a b = omega arith

module _ (setting : Setting) where
  -- time in which no point is due
  pub record IsStill (moments : Moments) (t count : ℕ) : Type 0 where
    pub same : time_runs setting moments t count ≡ moments
    pub no_acts : acts_while setting moments t count ≡ []

  pub still : (moments : Moments) (t count : ℕ) → length moments ≡ length setting.dispatch → ((u : ℕ) → t ≤ u → u < t + count → IsIdle setting moments u) → IsStill moments t count
  still moments t zero whole idle = record { same = refl; no_acts = refl }
  still moments t (suc count) whole idle =
      let here = idle t (omega arith) (omega arith) in
      let no_acts = none_due_no_acts setting moments t here in
      let acted_same = no_acts_same setting moments t whole no_acts in
      let later = still moments (suc t) count whole (λ u above below. idle u (omega arith) (omega arith)) in
      record {
        same = ap (λ (m : Moments). time_runs setting m (suc t) count) acted_same ∙ later.same;
        no_acts = ap (λ (acts : List Act). acts ++ acts_while setting (acted setting moments t) (suc t) count) no_acts
            ∙ ap (λ (m : Moments). acts_while setting m (suc t) count) acted_same ∙ later.no_acts;
      }

  -- the acts of time are those of its two parts, one after the other
  pub acts_split : (moments : Moments) (t a b : ℕ) → acts_while setting moments t (a + b) ≡ acts_while setting moments t a ++ acts_while setting (time_runs setting moments t a) (t + a) b
  acts_split moments t zero b = ap (acts_while setting moments t) (zero_plus b) ∙ ap (λ u. acts_while setting moments u b) (plus_zero t)
  acts_split moments t (suc a) b =
      let now = acts_at setting moments t in
      let next = acted setting moments t in
      ap (acts_while setting moments t) (suc_plus a b) ∙ ap (λ acts. now ++ acts) (acts_split next (suc t) a b)
      ∙ sym (append_assoc now (acts_while setting next (suc t) a) (acts_while setting (time_runs setting next (suc t) a) (suc t + a) b))
      ∙ ap (λ u. (now ++ acts_while setting next (suc t) a) ++ acts_while setting (time_runs setting next (suc t) a) u b) (plus_suc t a)

  -- time continues from the moments that it has come to
  module _ (first : Moments) (from a : ℕ) (moments : Moments) (next : ℕ) (start : from + a ≡ next) (are : moments ≡ time_runs setting first from a) where
    runs_on : (c : ℕ) → time_runs setting first from (a + c) ≡ time_runs setting moments next c
    runs_on c =
        time_runs_on setting first from a c ∙ ap (λ (m : Moments). time_runs setting m (from + a) c) (sym are) ∙ ap (λ u. time_runs setting moments u c) start

    acts_on : (c : ℕ) → acts_while setting first from (a + c) ≡ acts_while setting first from a ++ acts_while setting moments next c
    acts_on c =
        acts_split first from a c ∙ ap (λ (m : Moments). acts_while setting first from a ++ acts_while setting m (from + a) c) (sym are)
        ∙ ap (λ u. acts_while setting first from a ++ acts_while setting moments u c) start

  module _ (first : Moments) (from next moment : ℕ) (moments : Moments) (after : from ≤ next) (later : next ≤ moment) (whole : length moments ≡ length setting.dispatch)
      (are : moments ≡ time_runs setting first from (next - from)) (idle : (u : ℕ) → next ≤ u → u < moment → IsIdle setting moments u) where
    rest : IsStill moments next (moment - next)
    rest = still moments next (moment - next) whole (λ u above below. idle u above (omega arith))

    -- at the end of time in which no point is due the moments are the same
    pub rests : (moments ≡ time_runs setting first from (moment - from)) × (acts_while setting first from (next - from) ≡ acts_while setting first from (moment - from))
    rests =
        let a = next - from in
        let b = moment - next in
        let start : from + (next - from) ≡ next = omega arith in
        let total : moment - from ≡ (next - from) + (moment - next) = omega arith in (
          sym (ap (time_runs setting first from) total ∙ runs_on first from a moments next start are b ∙ rest.same),
          sym (ap (acts_while setting first from) total ∙ acts_on first from a moments next start are b
              ∙ ap (λ acts. acts_while setting first from a ++ acts) rest.no_acts ∙ append-nil (acts_while setting first from a)),
        )

    -- and then the acts of the next moment are made
    pub leaps : (acted setting moments moment ≡ time_runs setting first from (moment + 1 - from))
        × (acts_while setting first from (next - from) ++ acts_at setting moments moment ≡ acts_while setting first from (moment + 1 - from))
    leaps =
        let a = moment - from in
        let start : from + (moment - from) ≡ moment = omega arith in
        let total : moment + 1 - from ≡ (moment - from) + 1 = omega arith in
        let before = rests in (
          sym (ap (time_runs setting first from) total ∙ runs_on first from a moments moment start before.0 1),
          sym (ap (acts_while setting first from) total ∙ acts_on first from a moments moment start before.0 1 ∙ ap (λ acts. acts ++ (acts_at setting moments moment ++ [])) (sym before.1)
              ∙ ap (λ acts. acts_while setting first from (next - from) ++ acts) (append-nil (acts_at setting moments moment))),
        )
