-- The forms of the lines of a plan text, after the first word of each.
use Rattle.std.specs.Prelude.{ℕ, pos, List, [], ◌∷◌, Option, Some, None, codes, if◌then◌else◌}
use Rattle.std.specs.Str.{bytes_eq}
use Rattle.net_model.specs.Places.{of_name, of_short_name, of_number, of_delay, Form}
use Rattle.net_model.specs.declared.part.Part.TheVariants as part
use Rattle.plan_format.specs.declared.plan_line.PlanLine.{PlanLine}
use Rattle.plan_format.specs.declared.plan_line.PlanLine.TheVariants as line
use Rattle.plan_format.specs.declared.version.PlanStage.{PlanStage}
use Rattle.plan_format.specs.declared.version.PlanStage.TheVariants.{Opened, PastDelay}
use Rattle.plan_format.specs.declared.version.PlanVersion.{PlanVersion}
use Rattle.plan_format.specs.declared.version.PlanVersion.TheVariants.{One, Two}

-- `point NAME`
abbrev pub point_form : Form PlanLine
point_form = record { places = of_name ∷ []; make = λ name. line.Part (part.Point name) }

-- `bound NAME FROM TO MOST`
abbrev pub plan_bound_form : Form PlanLine
plan_bound_form = record { places = of_name ∷ of_name ∷ of_name ∷ of_number ∷ []; make = λ name from to most. line.Part (part.Bound name from to most) }

-- `link FROM LOW HIGH TO`
abbrev pub plan_link_form : Form PlanLine
plan_link_form = record { places = of_name ∷ of_number ∷ of_number ∷ of_name ∷ []; make = λ from low high to. line.Part (part.Link from low high to) }

-- `end`
abbrev pub plan_end_form : Form PlanLine
plan_end_form = record { places = []; make = line.End }

-- `between NAME FROM LOW HIGH TO`
abbrev pub between_form : Form PlanLine
between_form = record { places = of_short_name ∷ of_name ∷ of_number ∷ of_number ∷ of_name ∷ []; make = line.Between }

-- `delay MOMENTS`
abbrev pub delay_form : Form PlanLine
delay_form = record { places = of_delay ∷ []; make = λ moments. line.Delay (pos moments) }

-- the form of a line of the delay, which may come if only blank lines have followed the header, by its first word
abbrev pub form_of_delay : PlanStage → List ℕ → Option (Form PlanLine)
form_of_delay Opened first = if bytes_eq first (codes "delay") then Some delay_form else None
form_of_delay PastDelay first = None

-- the form of a line that version 2 has more, by its first word
abbrev pub form_of_second : PlanVersion → PlanStage → List ℕ → Option (Form PlanLine)
form_of_second One stage first = None
form_of_second Two stage first = if bytes_eq first (codes "between") then Some between_form else form_of_delay stage first

-- the form of a line that may come after the header of a version, by its first word, or none if no such line begins so
abbrev pub form_after : PlanVersion → PlanStage → List ℕ → Option (Form PlanLine)
form_after version stage first =
    if bytes_eq first (codes "point") then Some point_form
    else (if bytes_eq first (codes "bound") then Some plan_bound_form
    else (if bytes_eq first (codes "link") then Some plan_link_form
    else (if bytes_eq first (codes "end") then Some plan_end_form
    else form_of_second version stage first)))
