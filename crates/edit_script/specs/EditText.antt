-- The grammar of the lines of a session, and the first fault of a line.
use Rattle.std.specs.Prelude.{◌≡◌, ℕ, true, false, List, [], ◌∷◌, Option, Some, None, codes, if◌then◌else◌}
use Rattle.std.specs.Fmt.{signed_decimal}
use Rattle.std.specs.Str.{bytes_eq}
use Rattle.texts.specs.Words.{words, are_passed_over}
use Rattle.net_model.specs.EditLaws.{HasNames}
use Rattle.net_model.specs.Limits.{within_limit}
use Rattle.net_model.specs.Places.{of_name, of_number, Form, places_of, DepartsFrom}
use Rattle.net_model.specs.declared.edit.Edit.{Edit}
use Rattle.net_model.specs.declared.edit.Edit.TheVariants as edits
use Rattle.net_model.specs.declared.format.FormatKind.{FormatKind}
use Rattle.net_model.specs.declared.format.FormatKind.TheVariants.{WordCount}
use Rattle.net_model.specs.declared.format.WordFault.{WordFault}
use Rattle.net_model.specs.declared.format.WordFault.TheVariants as word
use Rattle.edit_script.specs.declared.step.Step.{Step}
use Rattle.edit_script.specs.declared.step.Step.TheVariants as step

-- the words of the line that states an edit
abbrev pub edit_words : Edit → List (List ℕ)
edit_words (edits.AddPoint name) = codes "add" ∷ codes "point" ∷ name ∷ []
edit_words (edits.AddBound name from to most) = codes "add" ∷ codes "bound" ∷ name ∷ from ∷ to ∷ signed_decimal most ∷ []
edit_words (edits.AddLink from low high to) = codes "add" ∷ codes "link" ∷ from ∷ signed_decimal low ∷ signed_decimal high ∷ to ∷ []
edit_words (edits.DropPoint name) = codes "drop" ∷ codes "point" ∷ name ∷ []
edit_words (edits.DropBound name) = codes "drop" ∷ codes "bound" ∷ name ∷ []
edit_words (edits.DropLink to) = codes "drop" ∷ codes "link" ∷ to ∷ []
edit_words (edits.SetBound name most) = codes "set" ∷ codes "bound" ∷ name ∷ signed_decimal most ∷ []
edit_words (edits.SetLink to low high) = codes "set" ∷ codes "link" ∷ to ∷ signed_decimal low ∷ signed_decimal high ∷ []

-- the numbers of an edit are within their limit
abbrev pub HasNumbers : Edit → Type 0
HasNumbers (edits.AddPoint name) = Unit {0}
HasNumbers (edits.AddBound name from to most) = within_limit most ≡ true
HasNumbers (edits.AddLink from low high to) = (within_limit low ≡ true) × (within_limit high ≡ true)
HasNumbers (edits.DropPoint name) = Unit {0}
HasNumbers (edits.DropBound name) = Unit {0}
HasNumbers (edits.DropLink to) = Unit {0}
HasNumbers (edits.SetBound name most) = within_limit most ≡ true
HasNumbers (edits.SetLink to low high) = (within_limit low ≡ true) × (within_limit high ≡ true)

-- the words state an edit: they are its own, its names are names, and its numbers are within their limit
pub record StatesEdit (edit : Edit) (words : List (List ℕ)) : Type 0 where
  pub spelled : words ≡ edit_words edit
  pub names : HasNames edit
  pub numbers : HasNumbers edit

-- what the words of a line are that states this: a line that is passed over states nothing, one that begins with `add`, `drop` or `set` an
-- edit, and each other one is a single word
abbrev pub AreWordsOfEditLine : Step → List (List ℕ) → Type 0
AreWordsOfEditLine step.Blank words = are_passed_over words ≡ true
AreWordsOfEditLine (step.Edit edit) words = StatesEdit edit words
AreWordsOfEditLine step.Verdict words = words ≡ codes "verdict" ∷ []
AreWordsOfEditLine step.Proof words = words ≡ codes "proof" ∷ []
AreWordsOfEditLine step.Table words = words ≡ codes "table" ∷ []
AreWordsOfEditLine step.Plan words = words ≡ codes "plan" ∷ []
AreWordsOfEditLine step.Report words = words ≡ codes "report" ∷ []
AreWordsOfEditLine step.Go words = words ≡ codes "go" ∷ []
AreWordsOfEditLine step.End words = words ≡ codes "end" ∷ []

-- a line that states this
abbrev pub IsEditLine : Step → List ℕ → Type 0
IsEditLine stated line = AreWordsOfEditLine stated (words line)

-- the forms of edits after their first two words
abbrev pub add_bound_form : Form Edit
add_bound_form = record { places = of_name ∷ of_name ∷ of_name ∷ of_number ∷ []; make = edits.AddBound }

-- FROM LOW HIGH TO of a link that is added
abbrev pub add_link_form : Form Edit
add_link_form = record { places = of_name ∷ of_number ∷ of_number ∷ of_name ∷ []; make = edits.AddLink }

-- NAME MOST of a bound that is set
abbrev pub number_form : Form Edit
number_form = record { places = of_name ∷ of_number ∷ []; make = edits.SetBound }

-- TO LOW HIGH of a link that is set
abbrev pub interval_form : Form Edit
interval_form = record { places = of_name ∷ of_number ∷ of_number ∷ []; make = edits.SetLink }

-- the name of what is dropped
abbrev pub name_form : (List ℕ → Edit) → Form Edit
name_form make = record { places = of_name ∷ []; make = make }

-- the form of an edit by its second word, or none if no edit has this second word
abbrev pub add_form : List ℕ → Option (Form Edit)
add_form second =
    if bytes_eq second (codes "point") then Some (name_form edits.AddPoint)
    else (if bytes_eq second (codes "bound") then Some add_bound_form
    else (if bytes_eq second (codes "link") then Some add_link_form
    else None))

-- the form of `drop` by its second word
abbrev pub drop_edit_form : List ℕ → Option (Form Edit)
drop_edit_form second =
    if bytes_eq second (codes "point") then Some (name_form edits.DropPoint)
    else (if bytes_eq second (codes "bound") then Some (name_form edits.DropBound)
    else (if bytes_eq second (codes "link") then Some (name_form edits.DropLink)
    else None))

-- the form of `set` by its second word
abbrev pub set_form : List ℕ → Option (Form Edit)
set_form second =
    if bytes_eq second (codes "bound") then Some number_form
    else (if bytes_eq second (codes "link") then Some interval_form
    else None)

-- the same by its first word, or none if no edit has this first word
abbrev pub edit_form : List ℕ → Option (List ℕ → Option (Form Edit))
edit_form first =
    if bytes_eq first (codes "add") then Some add_form
    else (if bytes_eq first (codes "drop") then Some drop_edit_form
    else (if bytes_eq first (codes "set") then Some set_form
    else None))

-- what a line of one word states, and its form after that word
abbrev pub question_of : List ℕ → Option Step
question_of first =
    if bytes_eq first (codes "verdict") then Some step.Verdict
    else (if bytes_eq first (codes "proof") then Some step.Proof
    else (if bytes_eq first (codes "table") then Some step.Table
    else (if bytes_eq first (codes "plan") then Some step.Plan
    else (if bytes_eq first (codes "report") then Some step.Report
    else (if bytes_eq first (codes "go") then Some step.Go
    else (if bytes_eq first (codes "end") then Some step.End
    else None))))))

-- the form of a line of one word
abbrev pub alone : Option Step → Option (Form Step)
alone None = None
alone (Some stated) = Some (record { places = []; make = stated })

-- how the words after the first word of an edit depart first: there is no second word, else no edit has it, else as words depart from their form
abbrev pub DepartsAfter : (List ℕ → Option (Form Edit)) → List (List ℕ) → FormatKind → Type 0
DepartsAfter form [] kind = kind ≡ WordCount
DepartsAfter form (second ∷ others) kind = DepartsFrom (places_of (form second)) others kind

-- how the words of a line depart first, by the first of them: it begins an edit, else it is a line of its own or none
abbrev pub DepartsBy : Option (List ℕ → Option (Form Edit)) → List ℕ → List (List ℕ) → FormatKind → Type 0
DepartsBy (Some form) first others kind = DepartsAfter form others kind
DepartsBy None first others kind = DepartsFrom (places_of (alone (question_of first))) others kind

-- how the words of a line first depart
abbrev pub EditDeparts : List (List ℕ) → FormatKind → Type 0
EditDeparts [] kind = ⊥
EditDeparts (first ∷ others) kind = DepartsBy (edit_form first) first others kind

-- the first fault of the words of a line: they are not passed over, and depart so from the forms of the lines of a session
pub record IsEditFaultOfWords (words : List (List ℕ)) (kind : FormatKind) : Type 0 where
  pub filled : are_passed_over words ≡ false
  pub departs : EditDeparts words kind

-- the first fault of a line, which takes no memory
abbrev pub IsEditFault : List ℕ → WordFault → Type 0
IsEditFault line (word.Kind kind) = IsEditFaultOfWords (words line) kind
IsEditFault line word.OutOfMemory = ⊥
