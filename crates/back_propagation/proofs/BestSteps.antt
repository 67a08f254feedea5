-- The best candidates for the keys of a row, as candidates are relaxed.
use Rattle.std.proofs.Common.{◌≡◌, ◌≢◌, ℕ, ◌+◌, ◌<◌, ◌≤◌, ℤ, ◌==◌, Bool, true, false, ◌⊎◌, List, [], ◌∷◌, ◌++◌, length, take, get_or, Some, refl, ap, sym, subst, ◌∙◌, inl, inr, arith, length-append}
use Rattle.std.specs.Prelude.{slice_get, slice_set}
use Rattle.std.specs.List.{Contains, flat_map}
use Rattle.std.proofs.Math.ListN.{length-set}
use Rattle.std.proofs.lemmas.Bool.{eqb-true}
use Rattle.std.proofs.lemmas.Bool.Decides.{nat_tests}
use Rattle.std.proofs.lemmas.Int.{ints}
use Rattle.std.proofs.lemmas.List.{take_all, take_more, flat_map_more}
use Rattle.std.proofs.lemmas.List.Elements.{Contains-append_left, Contains-append_right, Contains-append_cases}
use Rattle.std.proofs.lemmas.Option.{same_Some}
use Rattle.closure_model.proofs.BaseLemmas.{slice_get-contained}
use Rattle.closure_model.proofs.Lists.{Contains-head, Contains-cases, Contains-none}
use Rattle.closure_model.proofs.Nodes.{before_push, at_push, push_cases, listed_at}
use Rattle.closure_model.proofs.Slots.{set_same, set_other}
use Rattle.back_propagation.specs.BestKeys.{IsNoWorse}
use Rattle.back_propagation.specs.BestCandidates.{AreApart, HasTaken, HasCandidate, IsCovered, IsNoWorseThan}
use Rattle.back_propagation.specs.declared.best_candidates.BestCandidates.{BestCandidates}
use Rattle.back_propagation.specs.declared.best_candidates.Candidate.{Candidate}

pub no_worse_then : (t w : ℤ) (p : ℕ) (t' w' : ℤ) (p' : ℕ) (t'' w'' : ℤ) (p'' : ℕ) → IsNoWorse t w p t' w' p' → IsNoWorse t' w' p' t'' w'' p'' → IsNoWorse t w p t'' w'' p''
no_worse_then t w p t' w' p' t'' w'' p'' one two = grind (arith, ints)

no_worse_itself : (t w : ℤ) (p : ℕ) → IsNoWorse t w p t w p
no_worse_itself t w p = inr (refl, inr (refl, omega arith))

different : (a b : ℕ) → (a == b) ≡ false → a ≢ b
different a b apart same = (let test : (a == b) ≡ true = rw same (grind (arith, nat_tests)) in absurd cc)

-- ---- one list of candidates after another
pub taken_nothing : (candidates : BestCandidates) → AreApart candidates → HasTaken candidates candidates []
taken_nothing candidates apart = record {
  apart = apart;
  keys = refl;
  kept = λ candidate is. is;
  covers = λ candidate inside. absurd (Contains-none candidate inside);
  sound = λ candidate has. inl has;
  begins = λ item inside. inl inside;
}

pub taken_then : (was middle now : BestCandidates) (one two : List Candidate) → HasTaken was middle one → HasTaken middle now two → HasTaken was now (one ++ two)
taken_then was middle now one two first second = record {
  apart = second.apart;
  keys = second.keys ∙ first.keys;
  kept = λ candidate is. second.kept candidate (first.kept candidate is);
  covers = λ candidate inside. covers candidate (Contains-append_cases one two candidate inside);
  sound = λ candidate has. sound candidate (second.sound candidate has);
  begins = λ item inside. begins item (second.begins item inside);
}
  where
    covers : (candidate : Candidate) → Contains one candidate ⊎ Contains two candidate → IsCovered now candidate
    covers candidate (inl here) = second.kept candidate (first.covers candidate here)
    covers candidate (inr here) = second.covers candidate here

    earlier : (candidate : Candidate) → HasCandidate was candidate ⊎ Contains one candidate → HasCandidate was candidate ⊎ Contains (one ++ two) candidate
    earlier candidate (inl has) = inl has
    earlier candidate (inr here) = inr (Contains-append_left one two candidate here)

    sound : (candidate : Candidate) → HasCandidate middle candidate ⊎ Contains two candidate → HasCandidate was candidate ⊎ Contains (one ++ two) candidate
    sound candidate (inl has) = earlier candidate (first.sound candidate has)
    sound candidate (inr here) = inr (Contains-append_right one two candidate here)

    earlier_begins : (item : ℤ × ℕ) → Contains was.begins.items item ⊎ ((candidate : Candidate) × Contains one candidate × ((candidate.weight, candidate.place) ≡ item))
        → Contains was.begins.items item ⊎ ((candidate : Candidate) × Contains (one ++ two) candidate × ((candidate.weight, candidate.place) ≡ item))
    earlier_begins item (inl inside) = inl inside
    earlier_begins item (inr (candidate, here, is)) = inr (candidate, Contains-append_left one two candidate here, is)

    begins : (item : ℤ × ℕ) → Contains middle.begins.items item ⊎ ((candidate : Candidate) × Contains two candidate × ((candidate.weight, candidate.place) ≡ item))
        → Contains was.begins.items item ⊎ ((candidate : Candidate) × Contains (one ++ two) candidate × ((candidate.weight, candidate.place) ≡ item))
    begins item (inl inside) = earlier_begins item (first.begins item inside)
    begins item (inr (candidate, here, is)) = inr (candidate, Contains-append_right one two candidate here, is)

-- the candidates of one thing after another
pub taken_more : {X : Type 0} (f : X → List Candidate) (xs : List X) (i : ℕ) (d : X) (was middle now : BestCandidates) → i < length xs → HasTaken was middle (flat_map f (take i xs)) → HasTaken middle now (f (get_or xs i d))
    → HasTaken was now (flat_map f (take (i + 1) xs))
taken_more f xs i d was middle now inside before one =
    let lists : flat_map f (take i xs) ++ f (get_or xs i d) ≡ flat_map f (take (i + 1) xs) = flat_map_more f [] (take i xs) (get_or xs i d) ∙ ap (flat_map f) (sym (take_more xs i d inside)) in
    subst (HasTaken was now) lists (taken_then was middle now (flat_map f (take i xs)) (f (get_or xs i d)) before one)

pub taken_all : {X : Type 0} (f : X → List Candidate) (xs : List X) (i : ℕ) (was now : BestCandidates) → length xs ≤ i → HasTaken was now (flat_map f (take i xs)) → HasTaken was now (flat_map f xs)
taken_all {X} f xs i was now past all = subst (λ (list : List X). HasTaken was now (flat_map f list)) (take_all i xs past) all

-- ---- one candidate
-- the candidate of a mark is known by it
same_candidate : (candidates : BestCandidates) (one other : Candidate) → one.to ≡ other.to → HasCandidate candidates one → HasCandidate candidates other → one ≡ other
same_candidate candidates one other to has also =
    let marks : Some (has.k + 1) ≡ Some (also.k + 1) = sym has.mark ∙ (ap (slice_get candidates.marks.items) to ∙ also.mark) in
    let counts : has.k + 1 ≡ also.k + 1 = same_Some (has.k + 1) (also.k + 1) marks in
    let k : has.k ≡ also.k = omega (arith, counts) in
    let begin : (one.weight, one.place) ≡ (other.weight, other.place) = same_Some (one.weight, one.place) (other.weight, other.place) (sym has.begin ∙ (ap (slice_get candidates.begins.items) k ∙ also.begin)) in
    let total : one.total ≡ other.total = same_Some one.total other.total (sym has.total ∙ (ap (slice_get candidates.totals.items) k ∙ also.total)) in
    λ i. record { to = to i; total = total i; weight = (begin i).0; place = (begin i).1 }

-- that is the first to its key
module _ (was now : BestCandidates) (candidate : Candidate) (apart : AreApart was) (none : slice_get was.marks.items candidate.to ≡ Some 0) (marks : now.marks.items ≡ slice_set was.marks.items candidate.to (length was.begins.items + 1))
    (begins : now.begins.items ≡ was.begins.items ++ (candidate.weight, candidate.place) ∷ []) (totals : now.totals.items ≡ was.totals.items ++ candidate.total ∷ []) where
  added_kept : (one : Candidate) → HasCandidate was one → HasCandidate now one
  added_kept one has = record {
    k = has.k;
    mark = ap (λ (list : List ℕ). slice_get list one.to) marks ∙ (set_other was.marks.items candidate.to one.to (length was.begins.items + 1) elsewhere ∙ has.mark);
    begin = ap (λ (list : List (ℤ × ℕ)). slice_get list has.k) begins ∙ before_push was.begins.items (candidate.weight, candidate.place) has.k (one.weight, one.place) has.begin;
    total = ap (λ (list : List ℤ). slice_get list has.k) totals ∙ before_push was.totals.items candidate.total has.k one.total has.total;
  }
    where
      elsewhere : one.to ≢ candidate.to
      elsewhere same = (let counts : 0 ≡ has.k + 1 = same_Some 0 (has.k + 1) (sym none ∙ (ap (slice_get was.marks.items) (sym same) ∙ has.mark)) in absurd (omega (arith, counts)))

  mark_there : slice_get now.marks.items candidate.to ≡ Some (length was.begins.items + 1)
  mark_there = ap (λ (list : List ℕ). slice_get list candidate.to) marks ∙ set_same was.marks.items candidate.to 0 (length was.begins.items + 1) none

  mark_elsewhere : (to : ℕ) → to ≢ candidate.to → slice_get now.marks.items to ≡ slice_get was.marks.items to
  mark_elsewhere to other = ap (λ (list : List ℕ). slice_get list to) marks ∙ set_other was.marks.items candidate.to to (length was.begins.items + 1) other

  added_has : HasCandidate now candidate
  added_has = record {
    k = length was.begins.items;
    mark = mark_there;
    begin = ap (λ (list : List (ℤ × ℕ)). slice_get list (length was.begins.items)) begins ∙ at_push was.begins.items (candidate.weight, candidate.place);
    total = ap (λ (list : List ℤ). slice_get list (length was.begins.items)) totals ∙ (ap (slice_get (was.totals.items ++ candidate.total ∷ [])) (sym apart.even) ∙ at_push was.totals.items candidate.total);
  }

  longer : length now.begins.items ≡ length was.begins.items + 1
  longer = ap length begins ∙ length-append was.begins.items ((candidate.weight, candidate.place) ∷ [])

  added_apart : AreApart now
  added_apart = record {
    even = ap length totals ∙ (length-append was.totals.items (candidate.total ∷ []) ∙ (ap (λ (n : ℕ). n + 1) apart.even ∙ sym longer));
    within = λ to mark there. within to mark there (to == candidate.to) refl;
    apart = λ one other k here there. distinct one other k here there (one == candidate.to) refl (other == candidate.to) refl;
  }
    where
      within : (to mark : ℕ) → slice_get now.marks.items to ≡ Some mark → (b : Bool) → (to == candidate.to) ≡ b → mark ≤ length now.begins.items
      within to mark there true same =
          let is : length was.begins.items + 1 ≡ mark = same_Some (length was.begins.items + 1) mark (sym mark_there ∙ (ap (slice_get now.marks.items) (sym (eqb-true to candidate.to same)) ∙ there)) in
          omega (arith, is, longer)
      within to mark there false other =
          let old = apart.within to mark (sym (mark_elsewhere to (different to candidate.to other)) ∙ there) in
          omega (arith, old, longer)

      -- no other mark is as great as the new one
      least : (to k : ℕ) → to ≢ candidate.to → slice_get now.marks.items to ≡ Some (k + 1) → slice_get now.marks.items candidate.to ≡ Some (k + 1) → ⊥
      least to k other there here =
          let old = apart.within to (k + 1) (sym (mark_elsewhere to other) ∙ there) in
          let is : length was.begins.items + 1 ≡ k + 1 = same_Some (length was.begins.items + 1) (k + 1) (sym mark_there ∙ here) in
          omega (arith, old, is)

      distinct : (one other k : ℕ) → slice_get now.marks.items one ≡ Some (k + 1) → slice_get now.marks.items other ≡ Some (k + 1) → (a : Bool) → (one == candidate.to) ≡ a → (b : Bool) → (other == candidate.to) ≡ b → one ≡ other
      distinct one other k here there true first true second = eqb-true one candidate.to first ∙ sym (eqb-true other candidate.to second)
      distinct one other k here there true first false second = absurd (least other k (different other candidate.to second) there (ap (slice_get now.marks.items) (sym (eqb-true one candidate.to first)) ∙ here))
      distinct one other k here there false first true second = absurd (least one k (different one candidate.to first) here (ap (slice_get now.marks.items) (sym (eqb-true other candidate.to second)) ∙ there))
      distinct one other k here there false first false second =
          apart.apart one other k (sym (mark_elsewhere one (different one candidate.to first)) ∙ here) (sym (mark_elsewhere other (different other candidate.to second)) ∙ there)

  pub taken_added : HasTaken was now (candidate ∷ [])
  taken_added = record {
    apart = added_apart;
    keys = ap length marks ∙ length-set was.marks.items candidate.to (length was.begins.items + 1);
    kept = λ other is. record { one = is.one; has = added_kept is.one is.has; same_key = is.same_key; no_worse = is.no_worse };
    covers = λ other inside. covers other (Contains-cases candidate [] other inside);
    sound = λ other has. sound other has (other.to == candidate.to) refl;
    begins = λ item inside. begins_in item (Contains-append_cases was.begins.items ((candidate.weight, candidate.place) ∷ []) item (subst (λ (list : List (ℤ × ℕ)). Contains list item) begins inside));
  }
    where
      covers : (other : Candidate) → (candidate ≡ other) ⊎ Contains [] other → IsCovered now other
      covers other (inl is) = subst (IsCovered now) is (record { one = candidate; has = added_has; same_key = refl; no_worse = no_worse_itself candidate.total candidate.weight candidate.place })
      covers other (inr inside) = absurd (Contains-none other inside)

      sound : (other : Candidate) → HasCandidate now other → (b : Bool) → (other.to == candidate.to) ≡ b → HasCandidate was other ⊎ Contains (candidate ∷ []) other
      sound other has true same = inr (subst (Contains (candidate ∷ [])) (same_candidate now candidate other (sym (eqb-true other.to candidate.to same)) added_has has) (Contains-head candidate []))
      sound other has false apart_to =
          let mark : slice_get was.marks.items other.to ≡ Some (has.k + 1) = sym (mark_elsewhere other.to (different other.to candidate.to apart_to)) ∙ has.mark in
          let below = apart.within other.to (has.k + 1) mark in
          inl (record {
            k = has.k;
            mark = mark;
            begin = begin (omega (arith, below)) (push_cases was.begins.items (candidate.weight, candidate.place) has.k (other.weight, other.place) (sym (ap (λ (list : List (ℤ × ℕ)). slice_get list has.k) begins) ∙ has.begin));
            total = total (omega (arith, below, apart.even)) (push_cases was.totals.items candidate.total has.k other.total (sym (ap (λ (list : List ℤ). slice_get list has.k) totals) ∙ has.total));
          })
        where
          begin : has.k < length was.begins.items → (slice_get was.begins.items has.k ≡ Some (other.weight, other.place))
              ⊎ ((has.k ≡ length was.begins.items) × (◌≡◌ {A = ℤ × ℕ} (candidate.weight, candidate.place) (other.weight, other.place))) → slice_get was.begins.items has.k ≡ Some (other.weight, other.place)
          begin below (inl there) = there
          begin below (inr (last, is)) = absurd (omega (arith, below, last))

          total : has.k < length was.totals.items → (slice_get was.totals.items has.k ≡ Some other.total) ⊎ ((has.k ≡ length was.totals.items) × (candidate.total ≡ other.total)) → slice_get was.totals.items has.k ≡ Some other.total
          total below (inl there) = there
          total below (inr (last, is)) = absurd (omega (arith, below, last))

      begins_in : (item : ℤ × ℕ) → Contains was.begins.items item ⊎ Contains ((candidate.weight, candidate.place) ∷ []) item
          → Contains was.begins.items item ⊎ ((one : Candidate) × Contains (candidate ∷ []) one × ((one.weight, one.place) ≡ item))
      begins_in item (inl inside) = inl inside
      begins_in item (inr inside) = last (Contains-cases (candidate.weight, candidate.place) [] item inside)
        where
          last : ((candidate.weight, candidate.place) ≡ item) ⊎ Contains [] item → Contains was.begins.items item ⊎ ((one : Candidate) × Contains (candidate ∷ []) one × ((one.weight, one.place) ≡ item))
          last (inl is) = inr (candidate, Contains-head candidate [], is)
          last (inr none) = absurd (Contains-none item none)

-- that is better than the one to its key
module _ (was now : BestCandidates) (candidate old : Candidate) (apart : AreApart was) (has_old : HasCandidate was old) (same_key : old.to ≡ candidate.to) (better : IsNoWorseThan candidate old) (marks : now.marks.items ≡ was.marks.items)
    (begins : now.begins.items ≡ slice_set was.begins.items has_old.k (candidate.weight, candidate.place)) (totals : now.totals.items ≡ slice_set was.totals.items has_old.k candidate.total) where
  same_mark : (to : ℕ) → slice_get now.marks.items to ≡ slice_get was.marks.items to
  same_mark to = ap (λ (list : List ℕ). slice_get list to) marks

  replaced_has : HasCandidate now candidate
  replaced_has = record {
    k = has_old.k;
    mark = same_mark candidate.to ∙ (ap (slice_get was.marks.items) (sym same_key) ∙ has_old.mark);
    begin = ap (λ (list : List (ℤ × ℕ)). slice_get list has_old.k) begins ∙ set_same was.begins.items has_old.k (old.weight, old.place) (candidate.weight, candidate.place) has_old.begin;
    total = ap (λ (list : List ℤ). slice_get list has_old.k) totals ∙ set_same was.totals.items has_old.k old.total candidate.total has_old.total;
  }

  -- the candidate of another key has another number
  other_number : (to k : ℕ) → to ≢ candidate.to → slice_get was.marks.items to ≡ Some (k + 1) → k ≢ has_old.k
  other_number to k elsewhere mark same = elsewhere (apart.apart to old.to k mark (has_old.mark ∙ ap (λ (n : ℕ). Some (n + 1)) (sym same)) ∙ same_key)

  begin_elsewhere : (k : ℕ) → k ≢ has_old.k → slice_get now.begins.items k ≡ slice_get was.begins.items k
  begin_elsewhere k other = ap (λ (list : List (ℤ × ℕ)). slice_get list k) begins ∙ set_other was.begins.items has_old.k k (candidate.weight, candidate.place) other

  total_elsewhere : (k : ℕ) → k ≢ has_old.k → slice_get now.totals.items k ≡ slice_get was.totals.items k
  total_elsewhere k other = ap (λ (list : List ℤ). slice_get list k) totals ∙ set_other was.totals.items has_old.k k candidate.total other

  pub taken_replaced : HasTaken was now (candidate ∷ [])
  unfolding replaced_has
  taken_replaced = record {
    apart = record {
      even = ap length totals ∙ (length-set was.totals.items has_old.k candidate.total ∙ (apart.even ∙ sym long));
      within = λ to mark there. subst (λ (n : ℕ). mark ≤ n) (sym long) (apart.within to mark (sym (same_mark to) ∙ there));
      apart = λ one other k here there. apart.apart one other k (sym (same_mark one) ∙ here) (sym (same_mark other) ∙ there);
    };
    keys = ap length marks;
    kept = λ other is. kept other is (is.one.to == candidate.to) refl;
    covers = λ other inside. covers other (Contains-cases candidate [] other inside);
    sound = λ other has. sound other has (other.to == candidate.to) refl;
    begins = λ item inside. begins_in item (slice_get-contained now.begins.items item inside);
  }
    where
      long : length now.begins.items ≡ length was.begins.items
      long = ap length begins ∙ length-set was.begins.items has_old.k (candidate.weight, candidate.place)

      kept : (other : Candidate) (is : IsCovered was other) → (b : Bool) → (is.one.to == candidate.to) ≡ b → IsCovered now other
      kept other is true same =
          let is_old : is.one ≡ old = same_candidate was is.one old (eqb-true is.one.to candidate.to same ∙ sym same_key) is.has has_old in
          let after : IsNoWorseThan old other = subst (λ (one : Candidate). IsNoWorseThan one other) is_old is.no_worse in
          record {
            one = candidate;
            has = replaced_has;
            same_key = sym (eqb-true is.one.to candidate.to same) ∙ is.same_key;
            no_worse = no_worse_then candidate.total candidate.weight candidate.place old.total old.weight old.place other.total other.weight other.place better after;
          }
      kept other is false elsewhere =
          let number = other_number is.one.to is.has.k (different is.one.to candidate.to elsewhere) is.has.mark in
          record {
            one = is.one;
            has = record { k = is.has.k; mark = same_mark is.one.to ∙ is.has.mark; begin = begin_elsewhere is.has.k number ∙ is.has.begin; total = total_elsewhere is.has.k number ∙ is.has.total };
            same_key = is.same_key;
            no_worse = is.no_worse;
          }

      covers : (other : Candidate) → (candidate ≡ other) ⊎ Contains [] other → IsCovered now other
      covers other (inl is) = subst (IsCovered now) is (record { one = candidate; has = replaced_has; same_key = refl; no_worse = no_worse_itself candidate.total candidate.weight candidate.place })
      covers other (inr inside) = absurd (Contains-none other inside)

      sound : (other : Candidate) → HasCandidate now other → (b : Bool) → (other.to == candidate.to) ≡ b → HasCandidate was other ⊎ Contains (candidate ∷ []) other
      sound other has true same = inr (subst (Contains (candidate ∷ [])) (same_candidate now candidate other (sym (eqb-true other.to candidate.to same)) replaced_has has) (Contains-head candidate []))
      sound other has false elsewhere =
          let mark : slice_get was.marks.items other.to ≡ Some (has.k + 1) = sym (same_mark other.to) ∙ has.mark in
          let number = other_number other.to has.k (different other.to candidate.to elsewhere) mark in
          inl (record { k = has.k; mark = mark; begin = sym (begin_elsewhere has.k number) ∙ has.begin; total = sym (total_elsewhere has.k number) ∙ has.total })

      begins_in : (item : ℤ × ℕ) → (k : ℕ) × (slice_get now.begins.items k ≡ Some item) → Contains was.begins.items item ⊎ ((one : Candidate) × Contains (candidate ∷ []) one × ((one.weight, one.place) ≡ item))
      begins_in item (k, there) = by (k == has_old.k) refl
        where
          by : (b : Bool) → (k == has_old.k) ≡ b → Contains was.begins.items item ⊎ ((one : Candidate) × Contains (candidate ∷ []) one × ((one.weight, one.place) ≡ item))
          by true same = inr (candidate, Contains-head candidate [], same_Some (candidate.weight, candidate.place) item (sym replaced_has.begin ∙ (ap (slice_get now.begins.items) (sym (eqb-true k has_old.k same)) ∙ there)))
          by false other = inl (listed_at was.begins.items k item (sym (begin_elsewhere k (different k has_old.k other)) ∙ there))
