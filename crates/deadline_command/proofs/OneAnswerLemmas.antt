-- A network has one tightest deadline between two of its points, with one certificate on each side.
use Rattle.std.proofs.Common.{◌≡◌, ◌⊎◌, inl, inr, ℕ, ◌<◌, ℤ, Bool, true, false, pos, ◌-ℤ◌, ◌<ℤ◌, List, Option, Some, None, IsSome, int_lt, sym, ap, ◌∙◌, subst, refl, arith}
use Rattle.std.proofs.lemmas.Bool.{cases_order}
use Rattle.std.proofs.lemmas.Bool.Decides.{nat_tests}
use Rattle.std.proofs.lemmas.Int.{ints}
use Rattle.net_model.specs.Network.{Plan, bound_named}
use Rattle.net_model.specs.ShownForm.{shown_form}
use Rattle.net_model.specs.declared.ids.PointId.{PointId}
use Rattle.cert_format.specs.declared.certificate.Certificate.{Certificate}
use Rattle.closure_certificates.specs.Certified.{Certifies}
use Rattle.closure_certificates.proofs.LawProofs.{law_certificates_are_one}
use Rattle.deadline_search.specs.Answers.{IsAnswerOf, IsNever, IsLeastDeadline, IsFloor}
use Rattle.deadline_search.specs.Deadlines.{IsTightest, highest, lowest}
use Rattle.deadline_search.specs.Goals.{IsGoalName, goal_name, with_goal}
use Rattle.deadline_search.specs.declared.answer.Deadline.{Deadline}
use Rattle.deadline_search.specs.declared.answer.Deadline.TheVariants.{NotControllable, Never, Least, Floor}

none_is_some : {A : Type 0} (found : Option A) → found ≡ None → IsSome found → ⊥
none_is_some None none some = absurd (cc)
none_is_some (Some one) none some = absurd (cc)

-- ---- the tightest one
int_order : (m n : ℤ) → (m <ℤ n) ⊎ ((n <ℤ m) ⊎ (m ≡ n))
int_order m n = by (int_lt m n) (int_lt n m) refl refl
  where
    by : (below above : Bool) → int_lt m n ≡ below → int_lt n m ≡ above → (m <ℤ n) ⊎ ((n <ℤ m) ⊎ (m ≡ n))
    by true above is also = inl (grind (arith, ints, nat_tests))
    by false true is also = inr (inl (grind (arith, ints, nat_tests)))
    by false false is also = inr (inr (grind (arith, ints, nat_tests)))

module _ (net : Plan) where
  -- ---- the name of the goal
  earlier : (name other : List ℕ) (one : IsGoalName net name) (two : IsGoalName net other) → one.place < two.place → ⊥
  earlier name other one two below =
      none_is_some (bound_named net (goal_name one.place)) (ap (bound_named net) (sym one.is) ∙ one.free) (two.first one.place below)

  name_one : (name other : List ℕ) → IsGoalName net name → IsGoalName net other → name ≡ other
  name_one name other one two = elim (cases_order one.place two.place) [
    | inl same ↦ one.is ∙ (ap goal_name same ∙ sym two.is)
    | inr rest ↦ elim rest [ inl below ↦ absurd (earlier name other one two below) | inr above ↦ absurd (earlier other name two one above) ]
  ]

  -- what is said of the goal of one name is said of that of the other
  said_of : (Says : List ℕ → Type 0) (name other : List ℕ) → IsGoalName net name → IsGoalName net other → Says other → (name ≡ other) × Says name
  said_of Says name other named also says = let same = name_one name other named also in (same, subst Says (sym same) says)

  module _ (from to : PointId) where
    abbrev IsNeverOf : Certificate → List ℕ → Type 0
    IsNeverOf cert name = IsNever net (record { name = name; from = from; to = to }) cert

    abbrev IsLeastOf : ℤ → (proof refutation : Certificate) → List ℕ → Type 0
    IsLeastOf most proof refutation name = IsLeastDeadline net (record { name = name; from = from; to = to }) most proof refutation

    abbrev IsFloorOf : Certificate → List ℕ → Type 0
    IsFloorOf cert name = IsFloor net (record { name = name; from = from; to = to }) cert

    -- the certificate of the network with the bound at a number
    certificate_one : (name : List ℕ) (most : ℤ) (cert other : Certificate) → Certifies (shown_form (with_goal net (record { name = name; from = from; to = to }) most)) cert
        → Certifies (shown_form (with_goal net (record { name = name; from = from; to = to }) most)) other → cert ≡ other
    certificate_one name most cert other = law_certificates_are_one (shown_form (with_goal net (record { name = name; from = from; to = to }) most)) cert other

    -- ---- two answers of one goal
    tightest_one : (name : List ℕ) (most other : ℤ) → IsTightest net (record { name = name; from = from; to = to }) most → IsTightest net (record { name = name; from = from; to = to }) other → most ≡ other
    tightest_one name most other one two = elim (int_order most other) [
      | inl below ↦ absurd (two.least most below one.deadline)
      | inr rest ↦ elim rest [ inl above ↦ absurd (one.least other above two.deadline) | inr same ↦ same ]
    ]

    never_one : (name : List ℕ) (cert other : Certificate) → IsNeverOf cert name → IsNeverOf other name → cert ≡ other
    never_one name cert other one two = certificate_one name highest cert other (inr one.refuted) (inr two.refuted)

    floor_one : (name : List ℕ) (cert other : Certificate) → IsFloorOf cert name → IsFloorOf other name → cert ≡ other
    floor_one name cert other one two = certificate_one name lowest cert other (inl one.proved) (inl two.proved)

    least_one : (name : List ℕ) (most other : ℤ) (proof refutation proof' refutation' : Certificate) → IsLeastOf most proof refutation name → IsLeastOf other proof' refutation' name
        → Least name most proof refutation ≡ Least name other proof' refutation'
    least_one name most other proof refutation proof' refutation' one two =
        let same = tightest_one name most other one.tightest two.tightest in
        let there = subst (λ (m : ℤ). IsLeastOf m proof' refutation' name) (sym same) two in
        ap (λ (p : Certificate). Least name most p refutation) (certificate_one name most proof proof' (inl one.proved) (inl there.proved))
        ∙ (ap (Least name most proof') (certificate_one name (most -ℤ pos 1) refutation refutation' (inr one.refuted) (inr there.refuted))
        ∙ ap (λ (m : ℤ). Least name m proof' refutation') same)

    -- a network has one answer at most
    pub answer_one : (deadline other : Deadline) → IsAnswerOf net from to deadline → IsAnswerOf net from to other → deadline ≡ other
    answer_one (NotControllable cert) (NotControllable cert') one two = ap NotControllable (law_certificates_are_one (shown_form net) cert cert' (inr one.1) (inr two.1))
    answer_one (NotControllable cert) (Never name' cert') one two = absurd (one.0 two.controllable)
    answer_one (NotControllable cert) (Least name' most' proof' cert') one two = absurd (one.0 two.controllable)
    answer_one (NotControllable cert) (Floor name' proof') one two = absurd (one.0 two.controllable)
    answer_one (Never name cert) (NotControllable cert') one two = absurd (two.0 one.controllable)
    answer_one (Never name cert) (Never name' cert') one two =
        let said = said_of (IsNeverOf cert') name name' one.named two.named two.says in
        ap (Never name) (never_one name cert cert' one.says said.1) ∙ ap (λ (n : List ℕ). Never n cert') said.0
    answer_one (Never name cert) (Least name' most' proof' cert') one two =
        let said = said_of (IsLeastOf most' proof' cert') name name' one.named two.named two.says in
        absurd (one.says.none most' said.1.tightest.deadline)
    answer_one (Never name cert) (Floor name' proof') one two =
        let said = said_of (IsFloorOf proof') name name' one.named two.named two.says in
        absurd (one.says.none lowest said.1.tightest.deadline)
    answer_one (Least name most proof cert) (NotControllable cert') one two = absurd (two.0 one.controllable)
    answer_one (Least name most proof cert) (Never name' cert') one two =
        let said = said_of (IsNeverOf cert') name name' one.named two.named two.says in
        absurd (said.1.none most one.says.tightest.deadline)
    answer_one (Least name most proof cert) (Least name' most' proof' cert') one two =
        let said = said_of (IsLeastOf most' proof' cert') name name' one.named two.named two.says in
        least_one name most most' proof cert proof' cert' one.says said.1 ∙ ap (λ (n : List ℕ). Least n most' proof' cert') said.0
    answer_one (Least name most proof cert) (Floor name' proof') one two =
        let said = said_of (IsFloorOf proof') name name' one.named two.named two.says in
        absurd (one.says.tightest.least lowest one.says.above_lowest said.1.tightest.deadline)
    answer_one (Floor name proof) (NotControllable cert') one two = absurd (two.0 one.controllable)
    answer_one (Floor name proof) (Never name' cert') one two =
        let said = said_of (IsNeverOf cert') name name' one.named two.named two.says in
        absurd (said.1.none lowest one.says.tightest.deadline)
    answer_one (Floor name proof) (Least name' most' proof' cert') one two =
        let said = said_of (IsLeastOf most' proof' cert') name name' one.named two.named two.says in
        absurd (said.1.tightest.least lowest said.1.above_lowest one.says.tightest.deadline)
    answer_one (Floor name proof) (Floor name' proof') one two =
        let said = said_of (IsFloorOf proof') name name' one.named two.named two.says in
        ap (Floor name) (floor_one name proof proof' one.says said.1) ∙ ap (λ (n : List ℕ). Floor n proof') said.0
