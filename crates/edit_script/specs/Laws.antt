-- Laws about the lines of a session.
use Rattle.std.specs.Prelude.{◌≡◌, ◌⊎◌, ℕ, List, Ok}
use Rattle.net_model.specs.EditLaws.{HasNames}
use Rattle.net_model.specs.declared.edit.Edit.{Edit}
use Rattle.net_model.specs.declared.format.FormatKind.{FormatKind}
use Rattle.edit_script.specs.EditLines.{step_line}
use Rattle.edit_script.specs.EditText.{AreWordsOfEditLine, IsEditFaultOfWords}
use Rattle.edit_script.specs.declared.step.Step.{Step}
use Rattle.edit_script.specs.declared.step.Step.TheVariants as step

-- the words of a line state one step, or have one first fault, and not both
pub record OneReading (line : List (List ℕ)) : Type 0 where
  pub either : ((stated : Step) × AreWordsOfEditLine stated line) ⊎ ((kind : FormatKind) × IsEditFaultOfWords line kind)
  pub one_statement : (stated other : Step) → AreWordsOfEditLine stated line → AreWordsOfEditLine other line → stated ≡ other
  pub one_fault : (kind other : FormatKind) → IsEditFaultOfWords line kind → IsEditFaultOfWords line other → kind ≡ other
  pub not_both : (stated : Step) (kind : FormatKind) → AreWordsOfEditLine stated line → IsEditFaultOfWords line kind → ⊥

-- the names of an edit that a line states are names
abbrev pub StatedEditsHaveNames : Type 0
StatedEditsHaveNames = (line : List ℕ) (edit : Edit) → step_line line ≡ Ok (step.Edit edit) → HasNames edit
