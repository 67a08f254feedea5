-- The words that are numbers within a limit.
use Rattle.std.proofs.Common.{◌≡◌, ℕ, ◌<◌, ◌≤◌, ◌^◌, ◌==◌, Bool, true, false, Some, None, Result, Ok, Err, refl, ap, ◌∙◌, subst, arith, if◌then◌else◌}
use Rattle.std.specs.Fmt.{decimal}
use Rattle.std.proofs.lemmas.Bool.Decides.{nat_tests}
use Rattle.net_model.specs.Numbers.{natural_of}
use Rattle.net_model.specs.declared.format.FormatKind.{FormatKind}
use Rattle.net_model.proofs.DecimalSpellingLemmas.{natural_spelled, spelled_natural}
use Rattle.command_words.specs.Syntax.{Text}
use Rattle.command_contracts.specs.Counts.{count_in, count_within, number_if_any, number_within}

module _ (most : ℕ) (small : most < 2 ^ 64) where
  -- ---- from 0

  said_number : (word : Text) (number : ℕ) (said : Result ℕ FormatKind) → natural_of most word ≡ said → number_if_any said ≡ Some number → (word ≡ decimal number) × (number ≤ most)
  said_number word number (Err kind) same is = absurd cc
  said_number word number (Ok other) same is =
      let one : other ≡ number = cc in
      spelled_natural most number word (same ∙ ap Ok one) small

  -- a word that is a number is its decimal
  pub number_is : (word : Text) (number : ℕ) → number_within most word ≡ Some number → (word ≡ decimal number) × (number ≤ most)
  number_is word number is = said_number word number (natural_of most word) refl is

  -- the decimal of a number is that number
  pub number_read : (number : ℕ) → number ≤ most → number_within most (decimal number) ≡ Some number
  number_read number within = ap number_if_any (natural_spelled most number within small)

  -- ---- from 1

  positive : (number count : ℕ) → count_in (Ok number) ≡ Some count → (number ≡ count) × (1 ≤ count)
  positive number count = by (number == 0) refl
    where
      by : (zero : Bool) → zero ≡ (number == 0) → (if zero then None else Some number) ≡ Some count → (number ≡ count) × (1 ≤ count)
      by true same is = absurd cc
      by false same is =
          let one : number ≡ count = cc in
          (one, grind (arith, nat_tests))

  said_count : (word : Text) (count : ℕ) (said : Result ℕ FormatKind) → natural_of most word ≡ said → count_in said ≡ Some count → (word ≡ decimal count) × (1 ≤ count) × (count ≤ most)
  said_count word count (Err kind) same is = absurd cc
  said_count word count (Ok number) same is =
      let one = positive number count is in
      let spelled = spelled_natural most number word same small in
      (spelled.0 ∙ ap decimal one.0, one.1, subst (λ (n : ℕ). n ≤ most) one.0 spelled.1)

  -- a word that is a count is its decimal
  pub count_is : (word : Text) (count : ℕ) → count_within most word ≡ Some count → (word ≡ decimal count) × (1 ≤ count) × (count ≤ most)
  count_is word count is = said_count word count (natural_of most word) refl is

  -- the decimal of a count is that count
  pub count_read : (count : ℕ) → 1 ≤ count → count ≤ most → count_within most (decimal count) ≡ Some count
  count_read count least within =
      let one : count_in (Ok count) ≡ Some count = grind (arith, nat_tests) in
      ap count_in (natural_spelled most count within small) ∙ one
