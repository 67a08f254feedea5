-- Many have at most one reply to each line if their command has.
use Rattle.std.proofs.Common.{◌≡◌, inl, inr, ℕ, ◌<◌, Bool, true, false, List, [], ◌∷◌, Some, sym, ap, ◌∙◌, subst, arith}
use Rattle.std.specs.Prelude.{slice_set, slice_get}
use Rattle.texts.specs.Words.{words, is_remark}
use Rattle.command_engine.specs.Machine.{Machine}
use Rattle.command_engine.specs.Single.{IsSingle}
use Rattle.command_engine.specs.declared.machines.Flow.{Flow}
use Rattle.command_engine.specs.declared.machines.Flow.TheVariants.{Continue}
use Rattle.multiplexed_commands.specs.Alone.{MemberState, Runs, Idle, SaysLineAlone, stands_after}
use Rattle.multiplexed_commands.specs.Merged.{Around, Member, IsAnswered, TakesWords, TakesNamed, after_own, own_number, closes, merged_machine}
use Rattle.multiplexed_commands.specs.NamedLines.{after_first, named}

module _ {C : Type 0} (inner : Machine C) (single : IsSingle inner) (around : Around) where
  abbrev Members : Type 0
  Members = List (Member C)

  says_same : (stands : MemberState C) (number : ℕ) (line a b : List ℕ) (x y : MemberState C) → SaysLineAlone inner stands number line a x → SaysLineAlone inner stands number line b y → (a ≡ b) × (x ≡ y)
  says_same (Runs state) number line a b x y (flow, takes, is) (other, also, same) =
      let one = single.takes state number line a b flow other takes also in
      (one.0, is ∙ (ap stands_after one.1 ∙ sym same))
  says_same Idle number line a b x y (is, idle) (also, same) = (is ∙ sym also, idle ∙ sym same)

  not_before : (members : Members) (number : ℕ) (name line a b : List ℕ) (x y : Flow Members) → (one : IsAnswered inner around members number name line a x) → (other : IsAnswered inner around members number name line b y)
      → one.place < other.place → ⊥
  not_before members number name line a b x y one other less = other.first one.place one.member less one.here one.is

  same_place : (p q : ℕ) → (p < q → ⊥) → (q < p → ⊥) → p ≡ q
  same_place p q above below = omega arith

  answered_same : (members : Members) (number : ℕ) (name line a b : List ℕ) (x y : Flow Members) → IsAnswered inner around members number name line a x → IsAnswered inner around members number name line b y → (a ≡ b) × (x ≡ y)
  answered_same members number name line a b x y one other =
      let places : one.place ≡ other.place = same_place one.place other.place (not_before members number name line a b x y one other) (not_before members number name line b a y x other one) in
      let there : slice_get members one.place ≡ Some other.member = subst (λ (p : ℕ). slice_get members p ≡ Some other.member) (sym places) other.here in
      let is : other.member ≡ one.member = cc (there, one.here) in
      let says : SaysLineAlone inner one.member.stands (own_number one.member.count number) (after_first line) other.said other.stands =
      subst (λ (m : Member C). SaysLineAlone inner m.stands (own_number m.count number) (after_first line) other.said other.stands) is other.says in
      let same = says_same one.member.stands (own_number one.member.count number) (after_first line) one.said other.said one.stands other.stands one.says says in (
        one.put ∙ (ap (named name) same.0 ∙ sym other.put),
        one.goes ∙ (ap (λ (s : MemberState C). Continue (slice_set members one.place (after_own one.member number s))) same.1
            ∙ (ap (λ (p : ℕ). Continue (slice_set members p (after_own one.member number other.stands))) places
            ∙ (ap (λ (m : Member C). Continue (slice_set members other.place (after_own m number other.stands))) (sym is) ∙ sym other.goes))),
      )

  named_same : (remark end : Bool) (members : Members) (number : ℕ) (name line a b : List ℕ) (x y : Flow Members) → TakesNamed inner around remark end members number name line a x
      → TakesNamed inner around remark end members number name line b y → (a ≡ b) × (x ≡ y)
  named_same true end members number name line a b x y (is, goes) (also, same) = (is ∙ sym also, goes ∙ sym same)
  named_same false true members number name line a b x y (is, goes) (also, same) = (is ∙ sym also, goes ∙ sym same)
  named_same false false members number name line a b x y (inl one) (inl other) = answered_same members number name line a b x y one other
  named_same false false members number name line a b x y (inl one) (inr none) = absurd (none.0 one.place one.member one.here one.is)
  named_same false false members number name line a b x y (inr none) (inl one) = absurd (none.0 one.place one.member one.here one.is)
  named_same false false members number name line a b x y (inr (none, is, goes)) (inr (never, also, same)) = (is ∙ sym also, goes ∙ sym same)

  words_same : (spelled : List (List ℕ)) (members : Members) (number : ℕ) (line a b : List ℕ) (x y : Flow Members) → TakesWords inner around spelled members number line a x → TakesWords inner around spelled members number line b y
      → (a ≡ b) × (x ≡ y)
  words_same [] members number line a b x y (is, goes) (also, same) = (is ∙ sym also, goes ∙ sym same)
  words_same (first ∷ others) members number line a b x y takes also = named_same (is_remark first) (closes (first ∷ others)) members number first line a b x y takes also

  pub merged_single : (spare_capacity : Members → ℕ) → IsSingle (merged_machine inner around spare_capacity)
  merged_single spare_capacity = record {
    takes = λ members number line a b x y takes also. words_same (words line) members number line a b x y takes also;
    stops = λ members number stop a b x y is also. (is.0 ∙ sym also.0, is.1 ∙ sym also.1);
  }
