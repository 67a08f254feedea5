-- How the lines of a plan are spelled.
use Rattle.std.specs.Prelude.{ℕ, ℤ, ◌==◌, List, [], ◌∷◌, codes, if◌then◌else◌}
use Rattle.std.specs.Fmt.{decimal, signed_decimal}
use Rattle.net_model.specs.declared.part.Part.{Part}
use Rattle.net_model.specs.declared.part.Part.TheVariants as part
use Rattle.plan_format.specs.declared.version.PlanVersion.{PlanVersion}
use Rattle.plan_format.specs.declared.version.PlanVersion.TheVariants.{One, Two}

-- the words of the line that declares a part
abbrev pub part_words : Part → List (List ℕ)
part_words (part.Point name) = codes "point" ∷ name ∷ []
part_words (part.Bound name from to most) = codes "bound" ∷ name ∷ from ∷ to ∷ signed_decimal most ∷ []
part_words (part.Link from low high to) = codes "link" ∷ from ∷ signed_decimal low ∷ signed_decimal high ∷ to ∷ []

-- the words of the line that declares two bounds that belong together
abbrev pub between_words : (name from : List ℕ) → (low high : ℤ) → (to : List ℕ) → List (List ℕ)
between_words name from low high to = codes "between" ∷ name ∷ from ∷ signed_decimal low ∷ signed_decimal high ∷ to ∷ []

-- the words of the line that states the delay
abbrev pub delay_words : ℕ → List (List ℕ)
delay_words delay = codes "delay" ∷ decimal delay ∷ []

-- the number of a version, the word for it in the header, and the version of a number
abbrev pub version_number : PlanVersion → ℕ
version_number One = 1
version_number Two = 2

-- the word of a version in the header
abbrev pub version_word : PlanVersion → List ℕ
version_word One = codes "1"
version_word Two = codes "2"

-- the version of a number
abbrev pub version_numbered : ℕ → PlanVersion
version_numbered number = if number == 2 then Two else One

-- the words of the header of a version, and of the last line
abbrev pub plan_header_words : PlanVersion → List (List ℕ)
plan_header_words version = codes "stnu" ∷ version_word version ∷ []

-- the words of the last line
abbrev pub end_words : List (List ℕ)
end_words = codes "end" ∷ []
