-- Acts that are made one by one, the lowest first, are those that are made at once.
use Rattle.std.proofs.Common.{◌≡◌, ◌≢◌, ◌⊎◌, ℕ, zero, suc, ◌+◌, ◌<◌, ◌≤◌, Bool, true, false, List, ◌∷◌, map, filter, length, Some, refl, ap, sym, subst, ◌∙◌, inl, inr, arith}
use Rattle.std.specs.Prelude.{◌==◌, if◌then◌else◌}
use Rattle.std.specs.List.{range_with_len}
use Rattle.std.proofs.lemmas.Bool.{cases_lt, eqb-true}
use Rattle.std.proofs.lemmas.Bool.Decides.{nat_tests}
use Rattle.net_model.specs.declared.ids.PointId.{PointId}
use Rattle.net_model.specs.Moments.{Moments, moment_of}
use Rattle.execution_model.specs.Execution.{Setting, is_due, acts_at, acted}
use Rattle.execution_model.specs.Feeds.{completed_at}
use Rattle.execution_model.specs.declared.feed_answers.Act.{Act}
use Rattle.execution_model.proofs.MomentLemmas.{same_moments, length-acted, moment_acted, no_acts_same, none_due_no_acts, length-completed_at, moment_completed, moment_of_other, come_not_due, past_none}
use Rattle.execution_model.specs.Paced.{IsRankedNetwork, ArePaced, IsMadeOneByOne, done, next, OneByOneIsAtOnce}
use Rattle.execution_model.proofs.OneByOneLemmas.{law_acts_come_one_by_one}

-- ---- a list of points whose lowest passes
numbered : ℕ → PointId
numbered k = record { 0 = k }

filters_same : (p q : PointId → Bool) (a n : ℕ) → ((k : ℕ) → a ≤ k → p (record { 0 = k }) ≡ q (record { 0 = k })) → filter p (map (λ k. record { 0 = k }) (range_with_len a n)) ≡ filter q (map (λ k. record { 0 = k }) (range_with_len a n))
filters_same p q a zero same = refl
filters_same p q a (suc n) same =
    let rest = filters_same p q (a + 1) n (λ k from. same k (omega (arith, from))) in
    let first : PointId = record { 0 = a } in
    λ i. if same a (omega arith) i then first ∷ rest i else rest i

lowest_first : (p q : PointId → Bool) (point : PointId) (a n : ℕ) → a ≤ point.0 → point.0 < a + n → p point ≡ true → q point ≡ false
    → ((other : PointId) → other.0 < point.0 → p other ≡ false) → ((other : PointId) → other.0 ≢ point.0 → q other ≡ p other)
    → filter p (map (λ k. record { 0 = k }) (range_with_len a n)) ≡ point ∷ filter q (map (λ k. record { 0 = k }) (range_with_len a n))
lowest_first p q point a zero from below passes fails lowest others = absurd (omega (arith, from, below))
lowest_first p q point a (suc n) from below passes fails lowest others = by (cases_lt a point.0) (λ later. lowest_first p q point (a + 1) n later (omega (arith, below)) passes fails lowest others)
  where
    first : PointId
    first = record { 0 = a }

    rest : List PointId
    rest = map (λ k. record { 0 = k }) (range_with_len (a + 1) n)

    by : (a < point.0) ⊎ (point.0 ≤ a) → (a + 1 ≤ point.0 → filter p (map (λ k. record { 0 = k }) (range_with_len (a + 1) n)) ≡ point ∷ filter q (map (λ k. record { 0 = k }) (range_with_len (a + 1) n)))
        → filter p (record { 0 = a } ∷ map (λ k. record { 0 = k }) (range_with_len (a + 1) n)) ≡ point ∷ filter q (record { 0 = a } ∷ map (λ k. record { 0 = k }) (range_with_len (a + 1) n))
    by (inl less) further =
        let here : PointId = record { 0 = a } in
        let later : List PointId = map (λ k. record { 0 = k }) (range_with_len (a + 1) n) in
        let p_no : p here ≡ false = lowest here less in
        let q_no : q here ≡ false = others here (λ same. omega (arith, same, less)) ∙ p_no in
        ap (λ (b : Bool). if b then here ∷ filter p later else filter p later) p_no
        ∙ (further (omega (arith, less)) ∙ sym (ap (λ (b : Bool). point ∷ (if b then here ∷ filter q later else filter q later)) q_no))
    by (inr reached) further =
        let here : PointId = record { 0 = a } in
        let later : List PointId = map (λ k. record { 0 = k }) (range_with_len (a + 1) n) in
        let at : a ≡ point.0 = omega (arith, from, reached) in
        let is : here ≡ point = ap (λ (k : ℕ). let r : PointId = record { 0 = k } in r) at in
        let p_yes : p here ≡ true = ap p is ∙ passes in
        let q_no : q here ≡ false = ap q is ∙ fails in
        let same : filter p later ≡ filter q later = filters_same p q (a + 1) n (λ k after. sym (others (record { 0 = k }) (λ equal. omega (arith, equal, after, at)))) in
        ap (λ (b : Bool). if b then here ∷ filter p later else filter p later) p_yes
        ∙ ((λ i. is i ∷ same i) ∙ sym (ap (λ (b : Bool). point ∷ (if b then here ∷ filter q later else filter q later)) q_no))

module _ (setting : Setting) (rank : PointId → ℕ) (ranked : IsRankedNetwork setting rank) (t : ℕ) where
  module _ (moments : Moments) (paced : ArePaced setting moments) (long : length moments ≡ length setting.dispatch) (point : PointId) (inside : point.0 < length setting.dispatch) (due : is_due setting moments t point ≡ true) where
    abbrev one : Moments
    one = completed_at moments t point

    others : (other : PointId) → other.0 ≢ point.0 → is_due setting one t other ≡ is_due setting moments t other
    others = (law_acts_come_one_by_one setting rank moments ranked paced long t point inside due).0

    now_at : moment_of one point ≡ Some t
    now_at = moment_completed moments t point (omega (arith, inside, long))

    itself : is_due setting one t point ≡ false
    itself = come_not_due setting one t point t now_at

    acts_step : ((other : PointId) → other.0 < point.0 → is_due setting moments t other ≡ false) → acts_at setting moments t ≡ record { moment = t; point = point } ∷ acts_at setting one t
    acts_step lowest =
        ap (λ (ps : List PointId). map (λ p. let act : Act = record { moment = t; point = p } in act) ps)
        (lowest_first (is_due setting moments t) (is_due setting one t) point 0 (length setting.dispatch) (omega arith) (omega (arith, inside)) due itself lowest others)

    acted_step : acted setting one t ≡ acted setting moments t
    acted_step = same_moments (acted setting one t) (acted setting moments t) (length-acted setting one t ∙ sym (length-acted setting moments t)) each
      where
        here : (other : PointId) → other.0 < length setting.dispatch → (b : Bool) → other.0 == point.0 ≡ b → moment_of (acted setting one t) other ≡ moment_of (acted setting moments t) other
        here other within true same =
            let is : other ≡ point = ap (λ (k : ℕ). let r : PointId = record { 0 = k } in r) (eqb-true other.0 point.0 same) in
            let after : moment_of (acted setting one t) point ≡ Some t = moment_acted setting one t point inside ∙ (λ i. if itself i then Some t else now_at i) in
            let before : moment_of (acted setting moments t) point ≡ Some t = moment_acted setting moments t point inside ∙ ap (λ (b : Bool). if b then Some t else moment_of moments point) due in
            subst (λ (p : PointId). moment_of (acted setting one t) p ≡ moment_of (acted setting moments t) p) (sym is) (after ∙ sym before)
        here other within false differs =
            let apart : other.0 ≢ point.0 = grind (arith, nat_tests) in
            let its = moment_of_other moments t point other apart in
            let same = others other apart in
            moment_acted setting one t other within ∙ ((λ i. if same i then Some t else its i) ∙ sym (moment_acted setting moments t other within))

        each : (other : PointId) → moment_of (acted setting one t) other ≡ moment_of (acted setting moments t) other
        each other =
            elim (cases_lt other.0 (length setting.dispatch)) [
              | inl within ↦ here other within (other.0 == point.0) refl
              | inr past ↦
                  (let a = length-acted setting one t in
                  let b = length-acted setting moments t in
                  past_none (acted setting one t) other (omega (arith, a, past)) ∙ sym (past_none (acted setting moments t) other (omega (arith, b, past))))
            ]

  at_once : (moments after : Moments) (acts : List Act) → ArePaced setting moments → length moments ≡ length setting.dispatch → IsMadeOneByOne setting t moments acts after
      → (after ≡ acted setting moments t) × (acts ≡ acts_at setting moments t)
  at_once moments after acts paced long (done same none) =
      let nothing = none_due_no_acts setting moments t none in
      (sym (no_acts_same setting moments t long nothing), sym nothing)
  at_once moments after acts paced long (next same later point rest inside due lowest goes_on) =
      let (leads, are) = at_once (completed_at moments t point) later rest ((law_acts_come_one_by_one setting rank moments ranked paced long t point inside due).1) (length-completed_at moments t point ∙ long) goes_on in
      (leads ∙ acted_step moments paced long point inside due, (ap (λ (xs : List Act). record { moment = t; point = point } ∷ xs) are) ∙ sym (acts_step moments paced long point inside due lowest))

pub law_one_by_one_is_at_once : OneByOneIsAtOnce
law_one_by_one_is_at_once setting rank moments after t acts ranked paced long made = at_once setting rank ranked t moments after acts paced long made
