-- If the number at one place is set, that of each other key stays.
use Rattle.std.proofs.Common.{◌≡◌, ◌≢◌, ℕ, ◌<◌, ◌*◌, ◌+◌, ◌/◌, ◌%◌, ◌||◌, Bool, true, false, cond, set, get_or-set_other, Option, Some, None, refl, ap, sym, ◌∙◌, arith}
use Rattle.std.specs.Prelude.{is_some, nat_le}
use Rattle.std.proofs.lemmas.Bool.Decides.{nat_tests}
use Rattle.std.proofs.lemmas.Nat.{div-mul-add, mod-mul-add}
use Rattle.net_model.specs.declared.ids.LinkId.{LinkId}
use Rattle.closure_model.specs.Keys.{Key}
use Rattle.derivation_dag.specs.declared.numbers.Numbers.{Numbers}
use Rattle.derivation_dag.specs.Numbers.{number_at, number_of}
use Rattle.derivation_dag.specs.Places.{dense_place, recorded}

-- what the place of a key shows
record IsPlaced (points : ℕ) (key : Key) (place : ℕ) : Type 0 where
  pub ordinary : key.label ≡ None
  pub from : key.from.0 < points
  pub is : place ≡ key.to.0 * points + key.from.0

no_label : (label : Option LinkId) → is_some label ≡ false → label ≡ None
no_label None is = refl
no_label (Some link) is = absurd cc

placed : (points : ℕ) (key : Key) (place : ℕ) → dense_place points key ≡ Some place → IsPlaced points key place
placed points key place is = by (is_some key.label) (nat_le points key.from.0) (nat_le points key.to.0) refl refl is
  where
    by : (labelled beyond_from beyond_to : Bool) → is_some key.label ≡ labelled → nat_le points key.from.0 ≡ beyond_from
        → cond (labelled || beyond_from || beyond_to) None (Some (key.to.0 * points + key.from.0)) ≡ Some place → IsPlaced points key place
    by true b c one two all = absurd cc
    by false true c one two all = absurd cc
    by false false true one two all = absurd cc
    by false false false one two all = record {
      ordinary = no_label key.label one;
      from = grind (arith, nat_tests);
      is = let same : Some (key.to.0 * points + key.from.0) ≡ Some place = all in cc;
    }

-- a place is that of one key
place_of_one : (points : ℕ) (one other : Key) (place : ℕ) → dense_place points one ≡ Some place → dense_place points other ≡ Some place → one ≡ other
place_of_one points one other place at_one at_other =
    let this = placed points one place at_one in
    let that = placed points other place at_other in
    let both : one.to.0 * points + one.from.0 ≡ other.to.0 * points + other.from.0 = sym this.is ∙ that.is in
    let to : one.to.0 ≡ other.to.0 = sym (div-mul-add one.to.0 points one.from.0 this.from) ∙ ap (λ (n : ℕ). n / points) both ∙ div-mul-add other.to.0 points other.from.0 that.from in
    let from : one.from.0 ≡ other.from.0 = sym (mod-mul-add one.to.0 points one.from.0 this.from) ∙ ap (λ (n : ℕ). n % points) both ∙ mod-mul-add other.to.0 points other.from.0 that.from in
    let label : one.label ≡ other.label = this.ordinary ∙ sym that.ordinary in
    λ i. record { to = record { 0 = to i }; from = record { 0 = from i }; label = label i }

-- the number at the place of one key is set
pub others_stay : (before after : Numbers) (key : Key) (place counted : ℕ) → dense_place before.ordinary.points key ≡ Some place
    → after.ordinary ≡ record before.ordinary { counted = set before.ordinary.counted place counted } → after.others ≡ before.others
    → (other : Key) → other ≢ key → number_of after other ≡ number_of before other
others_stay before after key place counted at ordinary others other apart =
    ap (λ square. number_at (record { ordinary = square; others = after.others }) other (dense_place square.points other)) ordinary
    ∙ ap (λ map. number_at (record { ordinary = record before.ordinary { counted = set before.ordinary.counted place counted }; others = map }) other (dense_place before.ordinary.points other)) others
    ∙ by (dense_place before.ordinary.points other) refl
  where
    by : (o : Option ℕ) → dense_place before.ordinary.points other ≡ o
        → number_at (record before { ordinary = record before.ordinary { counted = set before.ordinary.counted place counted } }) other o ≡ number_at before other o
    by None none = refl
    by (Some p) there =
        let elsewhere : p ≢ place = λ equal. apart (place_of_one before.ordinary.points other key place (there ∙ ap Some equal) at) in
        ap recorded (get_or-set_other before.ordinary.counted place p counted 0 elsewhere)
