-- A line that is not read departs from the forms of the lines of a session, and for one cause.
use Rattle.std.proofs.Common.{◌≡◌, ◌⊎◌, ℕ, true, false, List, [], ◌∷◌, Option, None, Some, Result, Ok, Err, refl, sym, ◌∙◌, inl, inr}
use Rattle.std.proofs.lemmas.Bool.{false_from_ne_true}
use Rattle.texts.specs.Words.{is_remark, are_passed_over}
use Rattle.net_model.specs.Places.{Form, places_of}
use Rattle.net_model.specs.declared.edit.Edit.{Edit}
use Rattle.net_model.specs.declared.format.FormatKind.{FormatKind}
use Rattle.net_model.proofs.DepartureLemmas.{never, departs_from_one}
use Rattle.net_model.proofs.LineLemmas.{departs_by, stays_by}
use Rattle.net_model.proofs.ReadWordLemmas.{choice, bind_ok, bind_err}
use Rattle.edit_script.specs.EditLines.{step_of, step_by, edit_line}
use Rattle.edit_script.specs.EditText.{AreWordsOfEditLine, edit_form, question_of, alone, DepartsAfter, DepartsBy, EditDeparts, IsEditFaultOfWords}
use Rattle.edit_script.specs.Laws.{OneReading}
use Rattle.edit_script.specs.declared.step.Step.{Step}
use Rattle.edit_script.specs.declared.step.Step.TheVariants as step
use Rattle.edit_script.proofs.StatedLineLemmas.{stated_read, read_stated}

-- ---- what is not read departs
edit_departs : (form : List ℕ → Option (Form Edit)) (others : List (List ℕ)) (kind : FormatKind) → edit_line form others ≡ Err kind → DepartsAfter form others kind
edit_departs form [] kind read = cc
edit_departs form (second ∷ others) kind read = departs_by (form second) others kind read

step_departs : (form : Option (List ℕ → Option (Form Edit))) (first : List ℕ) (others : List (List ℕ)) (kind : FormatKind) → step_by form first others ≡ Err kind → DepartsBy form first others kind
step_departs None first others kind read = departs_by (alone (question_of first)) others kind read
step_departs (Some form) first others kind read =
    elim (bind_err (edit_line form others) _ kind read) [
      | inl refused ↦ edit_departs form others kind refused
      | inr stated ↦ never _ kind stated.2
    ]

departs : (words : List (List ℕ)) (kind : FormatKind) → step_of words ≡ Err kind → EditDeparts words kind
unfolding step_of
departs [] kind read = absurd (cc)
departs (first ∷ others) kind read =
    elim (choice (is_remark first) (Ok step.Blank) (step_by (edit_form first) first others) (Err kind) read) [
      | inl remark ↦ never _ kind remark.1
      | inr other ↦ step_departs (edit_form first) first others kind other.1
    ]

pub fault_read : (words : List (List ℕ)) (kind : FormatKind) → step_of words ≡ Err kind → IsEditFaultOfWords words kind
fault_read words kind read = record {
  filled = false_from_ne_true (are_passed_over words) (λ blank. never step.Blank kind (sym (stated_read step.Blank words blank) ∙ read));
  departs = departs words kind read;
}

-- ---- for one cause
after_one : (form : List ℕ → Option (Form Edit)) (others : List (List ℕ)) (a b : FormatKind) → DepartsAfter form others a → DepartsAfter form others b → a ≡ b
after_one form [] a b x y = x ∙ sym y
after_one form (second ∷ others) a b x y = departs_from_one (places_of (form second)) others a b x y

by_one : (form : Option (List ℕ → Option (Form Edit))) (first : List ℕ) (others : List (List ℕ)) (a b : FormatKind) → DepartsBy form first others a → DepartsBy form first others b → a ≡ b
by_one (Some form) first others a b x y = after_one form others a b x y
by_one None first others a b x y = departs_from_one (places_of (alone (question_of first))) others a b x y

departs_one : (words : List (List ℕ)) (a b : FormatKind) → EditDeparts words a → EditDeparts words b → a ≡ b
departs_one [] a b x y = absurd x
departs_one (first ∷ others) a b x y = by_one (edit_form first) first others a b x y

-- ---- what is read departs from no form
edit_stays : (form : List ℕ → Option (Form Edit)) (others : List (List ℕ)) (edit : Edit) (kind : FormatKind) → edit_line form others ≡ Ok edit → DepartsAfter form others kind → ⊥
edit_stays form [] edit kind read departs = absurd (cc)
edit_stays form (second ∷ others) edit kind read departs = stays_by (form second) others edit kind read departs

step_stays : (form : Option (List ℕ → Option (Form Edit))) (first : List ℕ) (others : List (List ℕ)) (stated : Step) (kind : FormatKind) → step_by form first others ≡ Ok stated → DepartsBy form first others kind → ⊥
step_stays None first others stated kind read departs = stays_by (alone (question_of first)) others stated kind read departs
step_stays (Some form) first others stated kind read departs =
    let edit = bind_ok (edit_line form others) _ stated read in
    edit_stays form others edit.0 kind edit.1 departs

stays : (words : List (List ℕ)) (stated : Step) (kind : FormatKind) → step_of words ≡ Ok stated → IsEditFaultOfWords words kind → ⊥
unfolding step_of
stays [] stated kind read fault = fault.departs
stays (first ∷ others) stated kind read fault =
    elim (choice (is_remark first) (Ok step.Blank) (step_by (edit_form first) first others) (Ok stated) read) [
      | inl remark ↦ absurd (let some : is_remark first ≡ true = remark.0 in let none : is_remark first ≡ false = fault.filled in cc)
      | inr other ↦ step_stays (edit_form first) first others stated kind other.1 fault.departs
    ]

-- ---- a line has one reading
either_by : (line : List (List ℕ)) (read : Result Step FormatKind) → step_of line ≡ read → ((stated : Step) × AreWordsOfEditLine stated line) ⊎ ((kind : FormatKind) × IsEditFaultOfWords line kind)
either_by line (Ok stated) is = inl (stated, read_stated line stated is)
either_by line (Err kind) is = inr (kind, fault_read line kind is)

pub one_reading : (line : List (List ℕ)) → OneReading line
one_reading line = record {
  either = either_by line (step_of line) refl;
  one_statement = λ stated other is also.
      let both : Ok stated ≡ Ok other = sym (stated_read stated line is) ∙ stated_read other line also in cc;
  one_fault = λ kind other is also. departs_one line kind other is.departs also.departs;
  not_both = λ stated kind is fault. stays line stated kind (stated_read stated line is) fault;
}
