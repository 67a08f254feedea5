-- The judgement of a strong certificate: it is accepted, or the first line that does not pass, and why. It goes over the text of the
-- certificate alone.
use Rattle.std.specs.Prelude.{ℕ, ℤ, pos, ◌+ℤ◌, ◌+◌, ◌&&◌, Bool, false, List, [], ◌∷◌, ◌++◌, length, codes, is_some, Result, Ok, Err, nat_le, int_lt, int_le}
use Rattle.std.specs.Prelude.{unsigned_abs}
use Rattle.std.specs.Option.{option_map_or}
use Rattle.std.specs.Str.{bytes_eq}
use Rattle.std.specs.Fmt.{decimal}
use Rattle.net_model.specs.Limits.{most_weight}
use Rattle.net_model.specs.Network.{Plan, point_named}
use Rattle.net_model.specs.declared.part.Link.{Link}
use Rattle.strong_plan.specs.ReducedEdges.{reduced_edge}
use Rattle.cert_format.specs.JudgementForms.{◌>>=◌, unless, there}
use Rattle.cert_format.specs.declared.strong_cert.StrongCert.{StrongCert}
use Rattle.cert_format.specs.declared.strong_cert.StrongLine.{StrongLine}
use Rattle.cert_checker.specs.JudgementText.{fault_text}
use Rattle.cert_checker.specs.Lines.{Passes, bound_of, names_point, link_named}
use Rattle.cert_checker.specs.declared.judgement.CertFault.{CertFault}
use Rattle.cert_checker.specs.declared.judgement.CertFault.TheVariants.{UnknownItem, WeightRange, Ends, TooLow, WalkBroken, WalkNotNegative}
use Rattle.strong_plan.specs.declared.judgement.StrongJudgement.{StrongJudgement}
use Rattle.strong_plan.specs.declared.judgement.StrongJudgement.TheVariants.{Accepted, Refused}
use Rattle.strong_plan.specs.declared.judgement.RefusedStrongLine.{RefusedStrongLine}

-- the lines pass, or the first of them that does not is refused
abbrev pub AllPass : Type 0
AllPass = Result (Unit {0}) RefusedStrongLine

abbrev pub refusal : ℕ → CertFault → RefusedStrongLine
refusal place why = record { line = place; why = why }

-- a line is refused at its place
abbrev pub refused_at_place : ℕ → Passes → AllPass
refused_at_place place (Ok passed) = Ok tt
refused_at_place place (Err why) = Err (refusal place why)

-- A line of a bound passes: its names are known, its weight is in range, its ends are those of the reduced edge of the bound, and it is no
-- less than that edge.
unfoldable pub bound_line_passes : Plan → StrongLine → Passes
bound_line_passes net line = do
  from ← unless (is_some (point_named net line.from) && is_some (point_named net line.to)) UnknownItem
  bound ← there (bound_of net line.bound) UnknownItem
  range ← unless (nat_le (unsigned_abs line.weight) most_weight) WeightRange
  edge ← there (reduced_edge net bound) Ends
  ends ← unless (names_point net line.from edge.from && names_point net line.to edge.to) Ends
  unless (int_le edge.weight line.weight) (TooLow line.weight edge.weight)

-- each of these lines passes, the first of which stands at a place
abbrev pub bound_lines_pass : Plan → ℕ → List StrongLine → AllPass
bound_lines_pass net place [] = Ok tt
bound_lines_pass net place (line ∷ lines) = do
  own ← refused_at_place place (bound_line_passes net line)
  bound_lines_pass net (place + 1) lines

-- A walk from the name `begin` goes on after a line: each begins where the one before ends, and the last ends in `begin`. `place` is
-- that of the last line.
abbrev pub lines_return_to : List ℕ → ℕ → StrongLine → List StrongLine → AllPass
lines_return_to begin place last [] = unless (bytes_eq last.to begin) (refusal place WalkBroken)
lines_return_to begin place last (next ∷ lines) = do
  meet ← unless (bytes_eq next.from last.to) (refusal (place + 1) WalkBroken)
  lines_return_to begin (place + 1) next lines

-- the sum of the weights
abbrev pub total_of : List StrongLine → ℤ
total_of [] = pos 0
total_of (line ∷ lines) = line.weight +ℤ total_of lines

-- The lines are a closed walk of negative total. It is tested first that each begins where the one before ends, then that the last ends
-- where the first begins, and then the total.
abbrev pub strong_walk_passes : List StrongLine → AllPass
strong_walk_passes [] = Err (refusal 1 WalkBroken)
strong_walk_passes (line ∷ lines) = do
  closed ← lines_return_to line.from 1 line lines
  unless (int_lt (total_of (line ∷ lines)) (pos 0)) (refusal (1 + length lines) (WalkNotNegative (total_of (line ∷ lines))))

-- each of these is the name of a contingent point
abbrev pub points_pass : Plan → ℕ → List (List ℕ) → AllPass
points_pass net place [] = Ok tt
points_pass net place (name ∷ names) = do
  own ← unless (is_some (link_named net name)) (refusal place UnknownItem)
  points_pass net (place + 1) names

-- the link of a point begins in the point of the name before
abbrev pub begins_in : Plan → List ℕ → List ℕ → Bool
begins_in net before name = option_map_or (λ (link : Link). names_point net before link.from) (link_named net name) false

-- each of these begins so in the one before, the first in a given one
abbrev pub follows : Plan → ℕ → List ℕ → List (List ℕ) → AllPass
follows net place before [] = Ok tt
follows net place before (name ∷ names) = do
  meets ← unless (begins_in net before name) (refusal place WalkBroken)
  follows net (place + 1) name names

-- the last of these names
abbrev pub last_name : List ℕ → List (List ℕ) → List ℕ
last_name name [] = name
last_name name (next ∷ names) = last_name next names

-- The lines of bounds pass, each for itself, and then are a closed walk of negative total. Or the points are a ring: it is tested first
-- that each is contingent, and then that the link of each begins in the one before.
abbrev pub cert_passes : Plan → List StrongLine → List (List ℕ) → AllPass
cert_passes net lines [] = do
  each ← bound_lines_pass net 1 lines
  strong_walk_passes lines
cert_passes net lines (name ∷ names) = do
  each ← points_pass net 1 (name ∷ names)
  follows net 1 (last_name name names) (name ∷ names)

abbrev pub strong_judged : AllPass → StrongJudgement
strong_judged (Ok passed) = Accepted
strong_judged (Err refusal) = Refused refusal.line refusal.why

-- the judgement of a strong certificate of a network
abbrev pub judgement_of : Plan → StrongCert → StrongJudgement
judgement_of net cert = strong_judged (cert_passes net cert.by cert.ring)

-- the text of a judgement: accepted, or refused with the line, the word of the fault, and its numbers
abbrev pub judgement_text : StrongJudgement → List ℕ
judgement_text Accepted = codes "accepted not strongly controllable"
judgement_text (Refused line why) = codes "refused " ++ decimal line ++ codes " " ++ fault_text why
