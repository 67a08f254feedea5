-- A line that is not read departs from its form, and for the cause that is answered.
use Rattle.std.proofs.Common.{◌≡◌, ℕ, true, List, [], ◌∷◌, Option, None, Result, Ok, Err, refl, sym, ap, ◌∙◌, subst, inl, inr, codes}
use Rattle.std.specs.Str.{bytes_eq}
use Rattle.std.specs.Result.{IfErr, IsErr, IsErrAnd}
use Rattle.std.proofs.lemmas.Bool.{false_from_ne_true}
use Rattle.texts.specs.Words.{words, is_remark, are_passed_over}
use Rattle.net_model.specs.declared.format.FormatKind.{FormatKind}
use Rattle.net_model.specs.declared.format.FormatKind.TheVariants.{UnknownWord}
use Rattle.net_model.specs.declared.format.WordFault.{WordFault}
use Rattle.net_model.specs.declared.format.WordFault.TheVariants as word
use Rattle.net_model.proofs.DepartureLemmas.{never, departs_from_one}
use Rattle.net_model.proofs.LineLemmas.{departs_by}
use Rattle.net_model.proofs.ReadWordLemmas.{choice, word_is}
use Rattle.plan_format.specs.declared.plan_line.PlanLine.{PlanLine}
use Rattle.plan_format.specs.declared.plan_line.PlanLine.TheVariants as line
use Rattle.plan_format.specs.PlanForms.{form_after}
use Rattle.plan_format.specs.PlanLines.{plan_line, plan_line_by_word, plan_header_line}
use Rattle.net_model.specs.Places.{Form, places_of, DepartsFrom}
use Rattle.plan_format.specs.PlanFaults.{Departs, IsFaultAlone, IsFaultOfLine}
use Rattle.plan_format.specs.declared.version.PlanStage.{PlanStage}
use Rattle.plan_format.specs.declared.version.PlanStage.TheVariants.{Opened, PastDelay}
use Rattle.plan_format.specs.declared.version.PlanVersion.{PlanVersion}
use Rattle.plan_format.specs.declared.version.PlanVersion.TheVariants.{One, Two}
use Rattle.plan_format.specs.PlanParts.{version_number, version_word, plan_header_words}
use Rattle.plan_format.proofs.PartLemmas.{blank_read, header_read}

header_departs : (others : List (List ℕ)) (kind : FormatKind) → plan_header_line others ≡ Err kind → kind ≡ UnknownWord
header_departs [] kind read = cc
header_departs (word ∷ []) kind read =
    elim (choice (bytes_eq word (version_word One)) _ _ (Err kind) read) [
      | inl one ↦ never _ kind one.1
      | inr other ↦ elim (choice (bytes_eq word (version_word Two)) _ _ (Err kind) other.1) [
        | inl two ↦ never _ kind two.1
        | inr none ↦ let same : Err UnknownWord ≡ Err kind = none.1 in cc
      ]
    ]
header_departs (word ∷ next ∷ others) kind read = cc

-- no line after the header begins with its first word
stnu_form : (version : PlanVersion) (stage : PlanStage) → form_after version stage (codes "stnu") ≡ None
stnu_form One stage = refl
stnu_form Two Opened = refl
stnu_form Two PastDelay = refl

stnu_departs : (version : PlanVersion) (stage : PlanStage) (others : List (List ℕ)) (kind : FormatKind) → kind ≡ UnknownWord → Departs version stage (codes "stnu" ∷ others) kind
stnu_departs version stage others kind is = subst (λ (form : Option (Form PlanLine)). DepartsFrom (places_of form) others kind) (sym (stnu_form version stage)) is

-- a line that begins with a word that is no remark
line_departs : (version : PlanVersion) (stage : PlanStage) (first : List ℕ) (others : List (List ℕ)) (kind : FormatKind) → plan_line_by_word version stage first others ≡ Err kind → Departs version stage (first ∷ others) kind
line_departs version stage first others kind read =
    elim (choice (bytes_eq first (codes "stnu")) _ _ (Err kind) read) [
      | inl stnu ↦ subst (λ (w : List ℕ). Departs version stage (w ∷ others) kind) (sym (word_is first (codes "stnu") stnu.0)) (stnu_departs version stage others kind (header_departs others kind stnu.1))
      | inr other ↦ departs_by (form_after version stage first) others kind other.1
    ]

-- a line that is not read departs from the forms of lines
pub departs : (version : PlanVersion) (stage : PlanStage) (words : List (List ℕ)) (kind : FormatKind) → plan_line version stage words ≡ Err kind → Departs version stage words kind
unfolding plan_line
departs version stage [] kind read = absurd (cc)
departs version stage (first ∷ others) kind read =
    elim (choice (is_remark first) (Ok line.Blank) (plan_line_by_word version stage first others) (Err kind) read) [
      | inl remark ↦ never _ kind remark.1
      | inr other ↦ line_departs version stage first others kind other.1
    ]

-- a line departs from its form for one cause
pub departs_one : (version : PlanVersion) (stage : PlanStage) (words : List (List ℕ)) (a b : FormatKind) → Departs version stage words a → Departs version stage words b → a ≡ b
departs_one version stage [] a b x y = absurd x
departs_one version stage (first ∷ others) a b x y = departs_from_one (places_of (form_after version stage first)) others a b x y

-- the line of a header departs from the forms of the lines after it
pub header_unknown : (version : PlanVersion) (stage : PlanStage) (said : PlanVersion) (words : List (List ℕ)) → words ≡ plan_header_words said → Departs version stage words UnknownWord
header_unknown version stage said words is =
    subst (λ (ws : List (List ℕ)). Departs version stage ws UnknownWord) (sym is) (stnu_departs version stage (version_word said ∷ []) UnknownWord refl)

passed : (version : PlanVersion) (stage : PlanStage) (words : List (List ℕ)) (kind : FormatKind) → plan_line version stage words ≡ Err kind → are_passed_over words ≡ true → ⊥
passed version stage words kind read blank = never line.Blank kind (sym (blank_read version stage words blank) ∙ read)

-- the fault of a line that is read alone
pub fault_alone : (version : PlanVersion) (words : List (List ℕ)) (kind : FormatKind) → plan_line version Opened words ≡ Err kind → IsFaultAlone version words kind
fault_alone version words kind read = record {
  filled = false_from_ne_true (are_passed_over words) (passed version Opened words kind read);
  no_header = λ said same. never (line.Header (version_number said)) kind (sym (header_read version Opened said) ∙ (ap (plan_line version Opened) (sym same) ∙ read));
  departs = departs version Opened words kind read;
}

-- the answer to a line that is read alone, and refused
pub stated_alone : (version : PlanVersion) (line : List ℕ) (kind : FormatKind) (answer : Result PlanLine WordFault) → plan_line version Opened (words line) ≡ Err kind → IsErr answer
    → IsErrAnd answer (λ (fault : WordFault). fault ≡ word.Kind kind) → IfErr answer (IsFaultOfLine version line)
stated_alone version line kind (Ok said) read err is = tt
stated_alone version line kind (Err (word.Kind k)) read err is =
    let same : k ≡ kind = cc in
    subst (λ (f : FormatKind). IsFaultAlone version (words line) f) (sym same) (fault_alone version (words line) kind read)
stated_alone version line kind (Err word.OutOfMemory) read err is = absurd (cc)
