-- What is read of a line of a session, by its words.
use Rattle.std.specs.Prelude.{◌≡◌, ℕ, List, [], ◌∷◌, Option, None, Some, Result, Ok, Err, if◌then◌else◌}
use Rattle.texts.specs.Words.{words, is_remark}
use Rattle.net_model.specs.LineReading.{read_as}
use Rattle.net_model.specs.Places.{Form}
use Rattle.net_model.specs.WordReading.{◌>>=◌}
use Rattle.net_model.specs.declared.edit.Edit.{Edit}
use Rattle.net_model.specs.declared.format.FormatKind.{FormatKind}
use Rattle.net_model.specs.declared.format.FormatKind.TheVariants.{WordCount}
use Rattle.net_model.specs.declared.format.WordFault.{WordFault}
use Rattle.net_model.specs.declared.format.WordFault.TheVariants as word
use Rattle.edit_script.specs.EditText.{edit_form, question_of, alone}
use Rattle.edit_script.specs.declared.step.Step.{Step}
use Rattle.edit_script.specs.declared.step.Step.TheVariants as step

-- the words of an edit after its first word
abbrev pub edit_line : (List ℕ → Option (Form Edit)) → List (List ℕ) → Result Edit FormatKind
edit_line form [] = Err WordCount
edit_line form (second ∷ others) = read_as (form second) others

-- a line by its first word: it begins an edit, else it is a line of its own or none
abbrev pub step_by : Option (List ℕ → Option (Form Edit)) → List ℕ → List (List ℕ) → Result Step FormatKind
step_by None first others = read_as (alone (question_of first)) others
step_by (Some form) first others = do
  edit ← edit_line form others
  Ok (step.Edit edit)

-- a line of a session, by its words
unfoldable pub step_of : List (List ℕ) → Result Step FormatKind
step_of [] = Ok step.Blank
step_of (first ∷ others) = if is_remark first then Ok step.Blank else step_by (edit_form first) first others

-- a line of a session
abbrev pub step_line : List ℕ → Result Step FormatKind
step_line line = step_of (words line)

-- the answer to a line, which takes no memory
abbrev pub ReadsStep : Result Step WordFault → Result Step FormatKind → Type 0
ReadsStep (Ok stated) read = read ≡ Ok stated
ReadsStep (Err (word.Kind kind)) read = read ≡ Err kind
ReadsStep (Err word.OutOfMemory) read = ⊥
