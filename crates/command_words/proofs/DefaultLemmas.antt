-- The rows at the end of a parse, with the defaults of the flags, and what they say.
use Rattle.std.proofs.Common.{◌≡◌, ℕ, suc, Bool, true, false, not, List, [], ◌∷◌, ◌++◌, map, Option, Some, None, codes, refl, sym, ap, ap₂, ◌∙◌, find, if◌then◌else◌, ◌||◌, cond, true≢false}
use Rattle.std.proofs.Math.Bool.{or-false}
use Rattle.std.proofs.lemmas.Bool.{or_right}
use Rattle.std.proofs.lemmas.List.Folds.{find-append, list_any-append}
use Rattle.std.proofs.lemmas.List.Sums.{fold-append}
use Rattle.std.specs.Bool.{⊤}
use Rattle.std.specs.Option.{is_some, option_or, option_and_then, option_map, unwrap_or}
use Rattle.std.specs.Prelude.{slice_get, fold}
use Rattle.std.specs.Str.{bytes_eq}
use Rattle.std.proofs.lemmas.Slice.Eq.{bytes_eq-Decides}
use Rattle.clap.specs.Walk.{Row, has_row, first_of, more_values, reading_by, with_default}
use Rattle.clap.specs.declared.parser.matches.ValueSource.TheVariants.{DefaultValue}
use Rattle.command_words.specs.Syntax.{Text, Syntax, is_in, is_sound}
use Rattle.command_words.specs.SpelledWords.{Use, name_of, text_of}
use Rattle.command_words.specs.Arguments.{is_given, text_given}
use Rattle.command_words.specs.ArgumentReading.{complete_by, all_texts}
use Rattle.command_words.specs.ClapRules.{is_true, arguments_found}
use Rattle.command_words.proofs.RuleLemmas.{flag_arg, option_arg, operand_args, rules_for}
use Rattle.command_words.proofs.SoundLemmas.{found_nowhere, found_there, bytes_same, option_apart, operand_not}
use Rattle.command_words.proofs.RowLemmas.{row_for, appended, rows_given}

abbrev false_row : Text → Row
false_row name = record { id = name; values = codes "false" ∷ []; count = None; source = Some DefaultValue; reading = reading_by (flag_arg []) }

default_added : (name : Text) (rows : List Row) → has_row name rows ≡ false → with_default rows (flag_arg name) ≡ rows ++ false_row name ∷ []
default_added name rows absent = rw absent (appended name (more_values DefaultValue (codes "false" ∷ [])) (false_row name ∷ []) rows absent)

default_kept : (name : Text) (rows : List Row) → has_row name rows ≡ true → with_default rows (flag_arg name) ≡ rows
default_kept name rows present = rw present refl

added_has : (name : Text) (row : Row) (rows : List Row) → has_row name (rows ++ row ∷ []) ≡ (has_row name rows || bytes_eq row.id name)
added_has name row rows = list_any-append (λ r. bytes_eq r.id name) rows (row ∷ []) ∙ ap (λ b. has_row name rows || b) (or-false (bytes_eq row.id name))

abbrev row_of : Text → List Row → Option Row
row_of name rows = find (λ r. bytes_eq r.id name) rows

abbrev first_text : Option Row → Option Text
first_text found = option_and_then (λ r. slice_get r.values 0) found

row_found : (name : Text) (rows : List Row) → is_some (row_of name rows) ≡ has_row name rows
row_found name rows = found_there (λ r. bytes_eq r.id name) rows

added_kept : (name : Text) (row : Row) (rows : List Row) → has_row name rows ≡ true → first_of name (rows ++ row ∷ []) ≡ first_of name rows
added_kept name row rows has = ap first_text (find-append (λ r. bytes_eq r.id name) rows (row ∷ []) ∙ by (row_of name rows) (row_found name rows ∙ has))
  where
    by : (found : Option Row) → is_some found ≡ true → option_or found (row_of name (row ∷ [])) ≡ found
    by (Some r) e = refl
    by None e = absurd (true≢false (sym e))

not_found : (name : Text) (rows : List Row) → has_row name rows ≡ false → row_of name rows ≡ None
not_found name rows absent = found_nowhere (λ r. bytes_eq r.id name) rows absent

added_new : (name : Text) (row : Row) (rows : List Row) → has_row name rows ≡ false → first_of name (rows ++ row ∷ []) ≡ first_of name (row ∷ [])
added_new name row rows absent =
    ap first_text (find-append (λ r. bytes_eq r.id name) rows (row ∷ []) ∙ ap (λ found. option_or found (row_of name (row ∷ []))) (not_found name rows absent))

none_first : (name : Text) (rows : List Row) → has_row name rows ≡ false → first_of name rows ≡ None
none_first name rows absent = ap first_text (not_found name rows absent)

-- a row that is there stays
flags_kept : (name : Text) (names : List Text) (rows : List Row) → has_row name rows ≡ true → first_of name (fold with_default rows (map flag_arg names)) ≡ first_of name rows
flags_kept name [] rows has = refl
flags_kept name (n ∷ names) rows has = by (has_row n rows) refl (flags_kept name names)
  where
    by : (b : Bool) → has_row n rows ≡ b → ((rows : List Row) → has_row name rows ≡ true → first_of name (fold with_default rows (map flag_arg names)) ≡ first_of name rows)
        → first_of name (fold with_default (with_default rows (flag_arg n)) (map flag_arg names)) ≡ first_of name rows
    by true e go = ap (λ rs. first_of name (fold with_default rs (map flag_arg names))) (default_kept n rows e) ∙ go rows has
    by false e go =
        ap (λ rs. first_of name (fold with_default rs (map flag_arg names))) (default_added n rows e)
        ∙ go (rows ++ false_row n ∷ []) (added_has name (false_row n) rows ∙ rw has refl) ∙ added_kept name (false_row n) rows has

-- a flag that is not there gets its default
flags_added : (name : Text) (names : List Text) (rows : List Row) → has_row name rows ≡ false
    → first_of name (fold with_default rows (map flag_arg names)) ≡ (if is_in name names then Some (codes "false") else None)
flags_added name [] rows absent = none_first name rows absent
flags_added name (n ∷ names) rows absent = by (bytes_eq n name) (has_row n rows) refl refl (flags_added name names)
  where
    by : (same has : Bool) → bytes_eq n name ≡ same → has_row n rows ≡ has
        → ((rows : List Row) → has_row name rows ≡ false → first_of name (fold with_default rows (map flag_arg names)) ≡ (if is_in name names then Some (codes "false") else None))
        → first_of name (fold with_default (with_default rows (flag_arg n)) (map flag_arg names)) ≡ (if same || is_in name names then Some (codes "false") else None)
    by true true e h go = absurd (true≢false (sym h ∙ ap (λ m. has_row m rows) ((bytes_eq-Decides n name).0 e) ∙ absent))
    by true false e h go =
        ap (λ rs. first_of name (fold with_default rs (map flag_arg names))) (default_added n rows h)
        ∙ flags_kept name names (rows ++ false_row n ∷ []) (added_has name (false_row n) rows ∙ rw (absent, e) refl)
        ∙ added_new name (false_row n) rows absent ∙ rw e refl
    by false true e h go = ap (λ rs. first_of name (fold with_default rs (map flag_arg names))) (default_kept n rows h) ∙ go rows absent
    by false false e h go =
        ap (λ rs. first_of name (fold with_default rs (map flag_arg names))) (default_added n rows h)
        ∙ go (rows ++ false_row n ∷ []) (added_has name (false_row n) rows ∙ rw (absent, e) refl)

same_either : (b : Bool) (rows : List Row) → (if b then rows else rows) ≡ rows
same_either true rows = refl
same_either false rows = refl

options_stay : (names : List Text) (rows : List Row) → fold with_default rows (map option_arg names) ≡ rows
options_stay [] rows = refl
options_stay (n ∷ names) rows = ap (λ rs. fold with_default rs (map option_arg names)) (same_either (has_row n rows) rows) ∙ options_stay names rows

operands_stay : (i : ℕ) (names : List Text) (rows : List Row) → fold with_default rows (operand_args i names) ≡ rows
operands_stay i [] rows = refl
operands_stay i (n ∷ names) rows = ap (λ rs. fold with_default rs (operand_args (suc i) names)) (same_either (has_row n rows) rows) ∙ operands_stay (suc i) names rows

finished_is : (command : Syntax) (rows : List Row) → fold with_default rows (rules_for command) ≡ fold with_default rows (map flag_arg command.flags)
finished_is command rows =
    let flagged = fold with_default rows (map flag_arg command.flags) in
    fold-append with_default rows (map flag_arg command.flags) (map option_arg command.options ++ operand_args 1 command.operands)
    ∙ fold-append with_default flagged (map option_arg command.options) (operand_args 1 command.operands)
    ∙ operands_stay 1 command.operands _ ∙ options_stay command.options flagged

-- each use has a text exactly if its name is none of the flags
abbrev pub Fits : List Text → List Use → Type 0
Fits flags [] = ⊤
Fits flags (u ∷ uses) = (is_some (text_of u) ≡ not (is_in (name_of u) flags)) × Fits flags uses

flag_first : (flags : List Text) (name : Text) (uses : List Use) → Fits flags uses → is_in name flags ≡ true → is_given name uses ≡ true → first_of name (map row_for uses) ≡ Some (codes "true")
flag_first flags name [] fits is given = absurd (true≢false (sym given))
flag_first flags name (u ∷ uses) fits is given = by (bytes_eq (name_of u) name) refl given (flag_first flags name uses fits.1 is)
  where
    none : (text : Option Text) → is_some text ≡ false → unwrap_or text (codes "true") ≡ codes "true"
    none None e = refl
    none (Some t) e = absurd (true≢false e)

    by : (b : Bool) → bytes_eq (name_of u) name ≡ b → (b || is_given name uses) ≡ true → (is_given name uses ≡ true → first_of name (map row_for uses) ≡ Some (codes "true"))
        → first_text (cond b (Some (row_for u)) (find (λ x. bytes_eq x.id name) (map row_for uses))) ≡ Some (codes "true")
    by true e g go =
        let flagged : is_in (name_of u) flags ≡ true = ap (λ m. is_in m flags) ((bytes_eq-Decides (name_of u) name).0 e) ∙ is in
        ap Some (none (text_of u) (fits.0 ∙ ap not flagged))
    by false e g go = go g

text_first : (flags : List Text) (name : Text) (uses : List Use) → Fits flags uses → is_in name flags ≡ false → first_of name (map row_for uses) ≡ text_given name uses
text_first flags name [] fits is = refl
text_first flags name (u ∷ uses) fits is = by (bytes_eq (name_of u) name) refl (text_first flags name uses fits.1 is)
  where
    some : (text : Option Text) → is_some text ≡ true → Some (unwrap_or text (codes "true")) ≡ text
    some None e = absurd (true≢false (sym e))
    some (Some t) e = refl

    by : (b : Bool) → bytes_eq (name_of u) name ≡ b → first_of name (map row_for uses) ≡ text_given name uses
        → first_text (cond b (Some (row_for u)) (find (λ x. bytes_eq x.id name) (map row_for uses))) ≡ option_and_then text_of (cond b (Some u) (find (λ x. bytes_eq (name_of x) name) uses))
    by true e go =
        let plain : is_in (name_of u) flags ≡ false = ap (λ m. is_in m flags) ((bytes_eq-Decides (name_of u) name).0 e) ∙ is in
        some (text_of u) (fits.0 ∙ ap not plain)
    by false e go = go

abbrev pub text_at : Syntax → List Row → Text → Option Text
text_at command rows name = first_of name (fold with_default rows (rules_for command))

flag_read : (command : Syntax) (name : Text) (uses : List Use) → Fits command.flags uses → is_in name command.flags ≡ true → (g : Bool) → is_given name uses ≡ g
    → is_true (text_at command (map row_for uses) name) ≡ g
flag_read command name uses fits is true given =
    ap is_true (ap (first_of name) (finished_is command (map row_for uses)) ∙ flags_kept name command.flags (map row_for uses) (rows_given name uses ∙ given) ∙ flag_first command.flags name uses fits is given)
flag_read command name uses fits is false given =
    ap is_true (ap (first_of name) (finished_is command (map row_for uses)) ∙ flags_added name command.flags (map row_for uses) (rows_given name uses ∙ given)
    ∙ ap (λ b. if b then Some (codes "false") else None) is)

text_read : (command : Syntax) (name : Text) (uses : List Use) → Fits command.flags uses → is_in name command.flags ≡ false → (g : Bool) → is_given name uses ≡ g
    → text_at command (map row_for uses) name ≡ text_given name uses
text_read command name uses fits is true given =
    ap (first_of name) (finished_is command (map row_for uses)) ∙ flags_kept name command.flags (map row_for uses) (rows_given name uses ∙ given) ∙ text_first command.flags name uses fits is
text_read command name uses fits is false given =
    ap (first_of name) (finished_is command (map row_for uses)) ∙ flags_added name command.flags (map row_for uses) (rows_given name uses ∙ given)
    ∙ ap (λ b. if b then Some (codes "false") else None) is ∙ sym (none_first name (map row_for uses) (rows_given name uses ∙ given)) ∙ text_first command.flags name uses fits is

pub map_on : {X : Type 0} (f g : Text → X) (names : List Text) → ((n : Text) → is_in n names ≡ true → f n ≡ g n) → map f names ≡ map g names
map_on f g [] each = refl
map_on f g (n ∷ names) each = ap₂ (λ x xs. x ∷ xs) (each n (rw (bytes_same n) refl)) (map_on f g names (λ m is. each m (or_right (bytes_eq n m) (is_in m names) is)))

-- what the matches say is what the uses do
pub rows_say : (command : Syntax) → is_sound command ≡ true → (uses : List Use) → Fits command.flags uses → arguments_found command (text_at command (map row_for uses)) ≡ complete_by command uses
rows_say command sound uses fits =
    let flags = map_on (λ n. is_true (text_at command (map row_for uses) n)) (λ n. is_given n uses) command.flags (λ n is. flag_read command n uses fits is (is_given n uses) refl) in
    let options = map_on (text_at command (map row_for uses)) (λ n. text_given n uses) command.options
    (λ n is. text_read command n uses fits (option_apart command sound n is) (is_given n uses) refl) in
    let operands = map_on (text_at command (map row_for uses)) (λ n. text_given n uses) command.operands
    (λ n is. text_read command n uses fits (operand_not command sound n is).0 (is_given n uses) refl) in
    ap₂ (λ fs os. option_map (λ texts. record { flags = fs; options = os; operands = texts }) (all_texts (map (text_at command (map row_for uses)) command.operands))) flags options
    ∙ ap (λ xs. option_map (λ texts. record { flags = map (λ n. is_given n uses) command.flags; options = map (λ n. text_given n uses) command.options; operands = texts }) (all_texts xs)) operands
