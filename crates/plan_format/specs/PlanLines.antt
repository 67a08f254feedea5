-- What is read of the lines of a plan text, each by its words, the version of the text, and how far it is.
use Rattle.std.specs.Prelude.{ℕ, List, [], ◌∷◌, Result, Ok, Err, codes, if◌then◌else◌}
use Rattle.std.specs.Str.{bytes_eq}
use Rattle.texts.specs.Words.{is_remark}
use Rattle.net_model.specs.LineReading.{read_as}
use Rattle.net_model.specs.declared.format.FormatKind.{FormatKind}
use Rattle.net_model.specs.declared.format.FormatKind.TheVariants.{UnknownWord}
use Rattle.plan_format.specs.PlanForms.{form_after}
use Rattle.plan_format.specs.PlanParts.{version_word}
use Rattle.plan_format.specs.declared.version.PlanStage.{PlanStage}
use Rattle.plan_format.specs.declared.version.PlanVersion.{PlanVersion}
use Rattle.plan_format.specs.declared.version.PlanVersion.TheVariants.{One, Two}
use Rattle.plan_format.specs.declared.plan_line.PlanLine.{PlanLine}
use Rattle.plan_format.specs.declared.plan_line.PlanLine.TheVariants as line

-- the line after `stnu`: the version of the text
abbrev pub plan_header_line : List (List ℕ) → Result PlanLine FormatKind
plan_header_line (word ∷ []) =
    if bytes_eq word (version_word One) then Ok (line.Header 1)
    else (if bytes_eq word (version_word Two) then Ok (line.Header 2)
    else Err UnknownWord)
plan_header_line others = Err UnknownWord

-- a line by its first word
abbrev pub plan_line_by_word : PlanVersion → PlanStage → List ℕ → List (List ℕ) → Result PlanLine FormatKind
plan_line_by_word version stage first others =
    if bytes_eq first (codes "stnu") then plan_header_line others else read_as (form_after version stage first) others

-- a line of a plan text, read alone
unfoldable pub plan_line : PlanVersion → PlanStage → List (List ℕ) → Result PlanLine FormatKind
plan_line version stage [] = Ok line.Blank
plan_line version stage (first ∷ others) = if is_remark first then Ok line.Blank else plan_line_by_word version stage first others
