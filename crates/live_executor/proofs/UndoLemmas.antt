-- Moments that are taken back.
use Rattle.std.proofs.Common.{◌≡◌, ◌≢◌, ℕ, ◌+◌, ◌<◌, Bool, true, false, List, [], ◌∷◌, ◌++◌, length, get_or, take, None, refl, ap, sym, subst, ◌∙◌, arith}
use Rattle.std.specs.Prelude.{◌||◌, ◌==◌, slice_set, if◌then◌else◌}
use Rattle.std.proofs.lemmas.Bool.{eqb-true, true≢false}
use Rattle.std.proofs.lemmas.Bool.Decides.{nat_tests}
use Rattle.std.proofs.lemmas.List.{get_or-set_same, get_or-set_other}
use Rattle.std.specs.List.{All}
use Rattle.std.proofs.lemmas.List.Elements.{All-append, All-cons, All-nil}
use Rattle.std.proofs.lemmas.List.Folds.{list_any_more, list_any-append}
use Rattle.closure_model.specs.Orders.{contains_point}
use Rattle.net_model.specs.declared.ids.PointId.{PointId}
use Rattle.net_model.specs.Moments.{Moments, moment_of}
use Rattle.execution_model.specs.Feeds.{completed_at}
use Rattle.execution_model.proofs.MomentLemmas.{same_moments, length-completed_at, moment_of_other}
use Rattle.live_executor.specs.Trace.{HaveComeSince, KeepsTrace}

-- the moments of these points are taken away
abbrev pub AreTakenBack : List PointId → (old new : Moments) → Type 0
AreTakenBack came old new = (point : PointId) → moment_of new point ≡ (if contains_point came point then None else moment_of old point)

pub taken_more : (came : List PointId) (i : ℕ) (d : PointId) (old now : Moments) → i < length came → (get_or came i d).0 < length now → AreTakenBack (take i came) old now
    → AreTakenBack (take (i + 1) came) old (slice_set now (get_or came i d).0 None)
taken_more came i d old now inside within back point = by ((get_or came i d).0 == point.0) refl (contains_point (take i came) point) refl
  where
    grows : contains_point (take (i + 1) came) point ≡ (contains_point (take i came) point || (get_or came i d).0 == point.0)
    grows = list_any_more (λ (other : PointId). other.0 == point.0) came i d inside

    or_true : (a : Bool) → (a || true) ≡ true
    or_true true = refl
    or_true false = refl

    or_false : (a : Bool) → (a || false) ≡ a
    or_false true = refl
    or_false false = refl

    by : (b : Bool) → (get_or came i d).0 == point.0 ≡ b → (a : Bool) → contains_point (take i came) point ≡ a
        → moment_of (slice_set now (get_or came i d).0 None) point ≡ (if contains_point (take (i + 1) came) point then None else moment_of old point)
    by true same a is =
        let at : (get_or came i d).0 ≡ point.0 = eqb-true (get_or came i d).0 point.0 same in
        let there : contains_point (take (i + 1) came) point ≡ true = grows ∙ (ap (λ (b : Bool). contains_point (take i came) point || b) same ∙ or_true (contains_point (take i came) point)) in
        let none : moment_of (slice_set now (get_or came i d).0 None) (get_or came i d) ≡ None = get_or-set_same now (get_or came i d).0 None None within in
        ap (λ (k : ℕ). moment_of (slice_set now (get_or came i d).0 None) (record { 0 = k })) (sym at) ∙ none ∙ sym (ap (λ (b : Bool). if b then None else moment_of old point) there)
    by false differs a is =
        let apart : point.0 ≢ (get_or came i d).0 = grind (arith, nat_tests) in
        let same : contains_point (take (i + 1) came) point ≡ contains_point (take i came) point = grows ∙ (ap (λ (b : Bool). contains_point (take i came) point || b) differs ∙ or_false (contains_point (take i came) point)) in
        get_or-set_other now (get_or came i d).0 point.0 None None apart ∙ (back point ∙ sym (ap (λ (b : Bool). if b then None else moment_of old point) same))

pub all_back : (came : List PointId) (old now before : Moments) → AreTakenBack came old now → length now ≡ length old → HaveComeSince before came old → now ≡ before
all_back came old now before back long since = same_moments now before (long ∙ sym since.long) (λ point. back point ∙ by point (contains_point came point) refl)
  where
    by : (point : PointId) (b : Bool) → contains_point came point ≡ b → (if b then None else moment_of old point) ≡ moment_of before point
    by point true is = sym (since.new point is)
    by point false is = since.same point is

-- ---- what has come since
pub none_since : (moments : Moments) (came : List PointId) → came ≡ [] → HaveComeSince moments came moments
none_since moments came none = record {
  long = refl;
  new = λ point among. absurd (true≢false (sym among ∙ ap (λ (points : List PointId). contains_point points point) none));
  same = λ point absent. refl;
}

pub one_more_since : (moments : Moments) (came came_now : List PointId) (point : PointId) (moment : ℕ) → point.0 < length moments → moment_of moments point ≡ None → came_now ≡ came ++ point ∷ []
    → KeepsTrace came moments came_now (completed_at moments moment point)
one_more_since moments came came_now point moment inside open_now pushed before since = record {
  long = since.long ∙ sym (length-completed_at moments moment point);
  new = λ other among. new other (contains_point came other) refl among;
  same = λ other absent. same other (contains_point came other) refl absent;
}
  where
    both : (other : PointId) → contains_point came_now other ≡ (contains_point came other || contains_point (point ∷ []) other)
    both other = ap (λ (points : List PointId). contains_point points other) pushed ∙ list_any-append (λ (one : PointId). one.0 == other.0) came (point ∷ [])

    one : (other : PointId) (b : Bool) → point.0 == other.0 ≡ b → contains_point (point ∷ []) other ≡ b
    one other true is = ap (λ (b : Bool). b || false) is
    one other false is = ap (λ (b : Bool). b || false) is

    its : (other : PointId) → contains_point came other ≡ false → point.0 == other.0 ≡ true → moment_of before other ≡ None
    its other absent at = sym (since.same other absent) ∙ subst (λ (k : ℕ). moment_of moments (record { 0 = k }) ≡ None) (eqb-true point.0 other.0 at) open_now

    new : (other : PointId) (b : Bool) → contains_point came other ≡ b → contains_point came_now other ≡ true → moment_of before other ≡ None
    new other true is among = since.new other is
    new other false is among = by (point.0 == other.0) refl
      where
        by : (b : Bool) → point.0 == other.0 ≡ b → moment_of before other ≡ None
        by true at = its other is at
        by false apart = absurd (true≢false (sym among ∙ (both other ∙ (λ i. is i || one other false apart i))))

    same : (other : PointId) (b : Bool) → contains_point came other ≡ b → contains_point came_now other ≡ false → moment_of (completed_at moments moment point) other ≡ moment_of before other
    same other true is absent = absurd (true≢false (sym (both other ∙ ap (λ (b : Bool). b || contains_point (point ∷ []) other) is) ∙ absent))
    same other false is absent = by (point.0 == other.0) refl
      where
        by : (b : Bool) → point.0 == other.0 ≡ b → moment_of (completed_at moments moment point) other ≡ moment_of before other
        by true at = absurd (true≢false (sym (both other ∙ (λ i. is i || one other true at i)) ∙ absent))
        by false apart =
            let differs : other.0 ≢ point.0 = grind (arith, nat_tests) in
            moment_of_other moments moment point other differs ∙ since.same other is

pub inside_more : (n : ℕ) (came came_now : List PointId) (point : PointId) → point.0 < n → came_now ≡ came ++ point ∷ [] → All (λ (other : PointId). other.0 < n) came → All (λ (other : PointId). other.0 < n) came_now
inside_more n came came_now point inside pushed before =
    subst (λ (points : List PointId). All (λ (other : PointId). other.0 < n) points) (sym pushed)
    (All-append (λ (other : PointId). other.0 < n) came (point ∷ []) before (All-cons (λ (other : PointId). other.0 < n) point [] inside (All-nil (λ (other : PointId). other.0 < n))))
