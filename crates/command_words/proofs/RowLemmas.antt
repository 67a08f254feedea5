-- The rows of `clap` for uses, and what one use more makes of them.
use Rattle.std.proofs.Common.{◌≡◌, ℕ, Bool, true, false, List, [], ◌∷◌, ◌++◌, map, Option, Some, None, codes, refl, ap, ◌∙◌, if◌then◌else◌, ◌||◌, append-nil, true≢false}
use Rattle.std.specs.Option.{unwrap_or}
use Rattle.std.specs.Str.{bytes_eq}
use Rattle.clap.specs.Walk.{Row, at_row, without, has_row, used, more_values, reading_by}
use Rattle.clap.specs.declared.builder.value_parser.Reading.{Reading}
use Rattle.clap.specs.declared.parser.matches.ValueSource.TheVariants.{CommandLine}
use Rattle.command_words.specs.Syntax.{Text}
use Rattle.command_words.specs.SpelledWords.{Use, name_of, text_of}
use Rattle.command_words.specs.Arguments.{is_given}
use Rattle.command_words.proofs.RuleLemmas.{flag_arg, text_arg, option_arg}

abbrev reading_for : Option Text → Reading
reading_for None = reading_by (flag_arg [])
reading_for (Some text) = reading_by (option_arg [])

abbrev pub row_of_text : Text → Option Text → Row
row_of_text name text = record { id = name; values = unwrap_or text (codes "true") ∷ []; count = None; source = Some CommandLine; reading = reading_for text }

-- the row of a use
abbrev pub row_for : Use → Row
row_for u = row_of_text (name_of u) (text_of u)

-- a row more at the end, for an id that had none
pub appended : (id : Text) (change : Row → List Row) (missing rows : List Row) → has_row id rows ≡ false → at_row id change missing rows ≡ rows ++ missing
appended id change missing [] none = refl
appended id change missing (r ∷ rs) none = by (bytes_eq r.id id) none (λ n. appended id change missing rs n)
  where
    by : (b : Bool) → (b || has_row id rs) ≡ false → (has_row id rs ≡ false → at_row id change missing rs ≡ rs ++ missing)
        → (if b then change r ++ rs else r ∷ at_row id change missing rs) ≡ r ∷ (rs ++ missing)
    by true n go = absurd (true≢false n)
    by false n go = ap (λ l. r ∷ l) (go n)

pub used_flag : (name : Text) (rows : List Row) → has_row name rows ≡ false → used (flag_arg name) [] rows ≡ rows ++ row_of_text name None ∷ []
used_flag name rows none =
    let gone : without name rows ≡ rows = appended name (λ _. []) [] rows none ∙ append-nil rows in
    ap (λ rs. at_row name (more_values CommandLine (codes "true" ∷ [])) (row_of_text name None ∷ []) rs) gone
    ∙ appended name (more_values CommandLine (codes "true" ∷ [])) (row_of_text name None ∷ []) rows none

pub used_text : (name : Text) (long : Option Text) (index : Option ℕ) (text : Text) (rows : List Row) → has_row name rows ≡ false
    → used (text_arg name long index) (text ∷ []) rows ≡ rows ++ row_of_text name (Some text) ∷ []
used_text name long index text rows none =
    let gone : without name rows ≡ rows = appended name (λ _. []) [] rows none ∙ append-nil rows in
    ap (λ rs. at_row name (more_values CommandLine (text ∷ [])) (row_of_text name (Some text) ∷ []) rs) gone
    ∙ appended name (more_values CommandLine (text ∷ [])) (row_of_text name (Some text) ∷ []) rows none

-- the rows of uses have the names that are given
pub rows_given : (name : Text) (uses : List Use) → has_row name (map row_for uses) ≡ is_given name uses
rows_given name [] = refl
rows_given name (u ∷ uses) = ap (λ b. bytes_eq (name_of u) name || b) (rows_given name uses)

pub rows_more : (uses : List Use) (u : Use) → map row_for uses ++ row_for u ∷ [] ≡ map row_for (uses ++ u ∷ [])
rows_more [] u = refl
rows_more (x ∷ xs) u = ap (λ rs. row_for x ∷ rs) (rows_more xs u)
