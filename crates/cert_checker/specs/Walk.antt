-- When the walk of a refutation passes, or what is refused of it.
use Rattle.std.specs.Prelude.{ℕ, ℤ, pos, ◌+ℤ◌, ◌+◌, List, [], ◌∷◌, length, Result, Ok, Err, int_lt}
use Rattle.std.specs.List.{filter_map}
use Rattle.std.specs.Option.{option_map_or}
use Rattle.std.specs.Str.{bytes_eq}
use Rattle.cert_format.specs.declared.line.CertLine.{CertLine}
use Rattle.cert_format.specs.JudgementForms.{◌>>=◌, unless, there}
use Rattle.cert_checker.specs.Lines.{line_at}
use Rattle.cert_checker.specs.declared.judgement.RefusedLine.{RefusedLine}
use Rattle.cert_checker.specs.declared.judgement.CertFault.{CertFault}
use Rattle.cert_checker.specs.declared.judgement.CertFault.TheVariants.{Premise, WalkBroken, WalkNotNegative}

-- a walk passes, or is refused at a line
abbrev pub WalkPasses : Type 0
WalkPasses = Result (Unit {0}) RefusedLine

abbrev pub refusal : ℕ → CertFault → RefusedLine
refusal place why = record { line = place; why = why }

-- each step of a walk is the number of a line; `place` is the number of the first step's own line
abbrev pub steps_known : List CertLine → ℕ → List ℕ → WalkPasses
steps_known lines place [] = Ok tt
steps_known lines place (step ∷ steps) = do
  line ← there (line_at lines step) (refusal place Premise)
  steps_known lines (place + 1) steps

-- A walk from the name `begin` goes on after a line: each step begins where the one before ended, and the last ends in
-- `begin`. `place` is the number of the last step's own line.
abbrev pub returns_to : List ℕ → ℕ → CertLine → List CertLine → WalkPasses
returns_to begin place last [] = unless (bytes_eq last.to begin) (refusal place WalkBroken)
returns_to begin place last (next ∷ steps) = do
  meet ← unless (bytes_eq next.from last.to) (refusal (place + 1) WalkBroken)
  returns_to begin (place + 1) next steps

-- the sum of the weights
abbrev pub total_weight : List CertLine → ℤ
total_weight [] = pos 0
total_weight (line ∷ lines) = line.weight +ℤ total_weight lines

-- the total is negative, at the number of the last step's own line
abbrev pub is_negative_total : ℕ → ℤ → WalkPasses
is_negative_total place total = unless (int_lt total (pos 0)) (refusal place (WalkNotNegative total))

-- the weight of the line of a number, or 0 if there is none
abbrev pub weight_of_line : List CertLine → ℕ → ℤ
weight_of_line lines number = option_map_or (λ (line : CertLine). line.weight) (line_at lines number) (pos 0)

-- the walk over these lines, of which the first stands at `place`: it is closed, and its total is negative
abbrev pub is_negative_walk : ℕ → List CertLine → WalkPasses
is_negative_walk place [] = Err (refusal place WalkBroken)
is_negative_walk place (line ∷ lines) = do
  closed ← returns_to line.from place line lines
  is_negative_total (place + length lines) (total_weight (line ∷ lines))

-- the lines that the steps of a walk name
abbrev pub walked : List CertLine → List ℕ → List CertLine
walked lines walk = filter_map (line_at lines) walk

-- the steps of a walk, each for itself, then all together
unfoldable pub walk_passes : List CertLine → List ℕ → WalkPasses
walk_passes lines walk = do
  known ← steps_known lines (length lines + 1) walk
  is_negative_walk (length lines + 1) (walked lines walk)
