-- The line of a fault of a line of events is short.
use Rattle.std.proofs.Common.{◌≡◌, ℕ, ◌+◌, ◌^◌, ◌<◌, ◌≤◌, List, [], ◌∷◌, ◌++◌, length, arith, length-append}
use Rattle.std.specs.Prelude.{codes}
use Rattle.std.specs.Fmt.{decimal}
use Rattle.std.specs.List.{flat_map}
use Rattle.std.proofs.lemmas.Fmt.{length-decimal-le}
use Rattle.texts.specs.PrintedLines.{after_blank, joined, printed_line}
use Rattle.net_model.specs.declared.format.FormatKind.{FormatKind}
use Rattle.net_model.specs.declared.format.FormatKind.TheVariants as kind
use Rattle.command_engine.specs.Limits.{least_capacity}
use Rattle.common_answers.specs.Faults.{fault_line}
use Rattle.common_answers.specs.declared.faults.Fault.TheVariants.{Format}

four_words : (a b c d : List ℕ) → length (printed_line (a ∷ b ∷ c ∷ d ∷ [])) ≡ length a + length b + length c + length d + 4
four_words a b c d =
    let all = length-append (joined (a ∷ b ∷ c ∷ d ∷ [])) (10 ∷ []) in
    let first = length-append a (flat_map after_blank (b ∷ c ∷ d ∷ [])) in
    let second = length-append (after_blank b) (flat_map after_blank (c ∷ d ∷ [])) in
    let third = length-append (after_blank c) (flat_map after_blank (d ∷ [])) in
    let fourth = length-append (after_blank d) [] in
    omega (arith, all, first, second, third, fourth)

of_word : (number : ℕ) (word : List ℕ) → number < 4294967296 → length word ≤ 20 → length (printed_line (codes "error" ∷ codes "format" ∷ decimal number ∷ word ∷ [])) ≤ least_capacity
of_word number word below short =
    let digits = length-decimal-le 20 number (omega arith) (omega (arith, below)) (omega (arith, below)) in
    let size = four_words (codes "error") (codes "format") (decimal number) word in
    omega (arith, digits, size, short)

of_limit : (number : ℕ) → number < 4294967296 → length (printed_line (codes "error" ∷ codes "limit" ∷ decimal number ∷ codes "number" ∷ [])) ≤ least_capacity
of_limit number below =
    let digits = length-decimal-le 20 number (omega arith) (omega (arith, below)) (omega (arith, below)) in
    let size = four_words (codes "error") (codes "limit") (decimal number) (codes "number") in
    omega (arith, digits, size)

pub fault_short : (number : ℕ) (why : FormatKind) → number < 4294967296 → length (fault_line (Format number why)) ≤ least_capacity
fault_short number kind.NumberLimit below = of_limit number below
fault_short number kind.UnknownWord below = of_word number (codes "unknown-word") below (omega arith)
fault_short number kind.WordCount below = of_word number (codes "word-count") below (omega arith)
fault_short number kind.BadName below = of_word number (codes "bad-name") below (omega arith)
fault_short number kind.BadNumber below = of_word number (codes "bad-number") below (omega arith)
fault_short number kind.NoHeader below = of_word number (codes "no-header") below (omega arith)
fault_short number kind.NoEnd below = of_word number (codes "no-end") below (omega arith)
fault_short number kind.UnknownName below = of_word number (codes "unknown-name") below (omega arith)
