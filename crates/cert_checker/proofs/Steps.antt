-- The steps of a walk and the lines that they name.
use Rattle.std.proofs.Common.{◌≡◌, ℕ, pos, ◌+ℤ◌, ◌+◌, ◌<◌, List, [], ◌∷◌, length, drop, get_or, Option, Some, None, Ok, refl, ap, sym, ◌∙◌, arith}
use Rattle.std.specs.Option.{option_map_or}
use Rattle.std.specs.List.{cons_option}
use Rattle.std.proofs.lemmas.Int.{ints}
use Rattle.std.proofs.lemmas.List.{at_drop_more}
use Rattle.cert_format.specs.declared.line.CertLine.{CertLine}
use Rattle.cert_format.specs.JudgementForms.{there, ◌>>=◌}
use Rattle.cert_checker.specs.Lines.{line_at}
use Rattle.cert_checker.specs.Walk.{WalkPasses, refusal, steps_known, returns_to, is_negative_total, is_negative_walk, total_weight, walked, weight_of_line}
use Rattle.cert_checker.specs.declared.judgement.CertFault.TheVariants.{Premise}

total_cons : (o : Option CertLine) (rest : List CertLine) → total_weight (cons_option o rest) ≡ option_map_or (λ (line : CertLine). line.weight) o (pos 0) +ℤ total_weight rest
total_cons None rest = omega (arith, ints)
total_cons (Some line) rest = refl

-- one step more of the total of a walk
pub total_step : (lines : List CertLine) (walk : List ℕ) (i d : ℕ) → i < length walk → total_weight (walked lines (drop i walk)) ≡ weight_of_line lines (get_or walk i d) +ℤ total_weight (walked lines (drop (i + 1) walk))
total_step lines walk i d within =
    at_drop_more (λ steps. total_weight (walked lines steps)) walk i d within ∙ total_cons (line_at lines (get_or walk i d)) (walked lines (drop (i + 1) walk))

-- a step that is known is the number of a line
step_there : (place : ℕ) (o : Option CertLine) (rest : WalkPasses) → (there o (refusal place Premise) >>= (λ _. rest)) ≡ Ok tt → (line : CertLine) × (o ≡ Some line) × (rest ≡ Ok tt)
step_there place None rest known = absurd (cc)
step_there place (Some line) rest known = (line, refl, known)

pub first_known : (lines : List CertLine) (place step : ℕ) (steps : List ℕ) → steps_known lines place (step ∷ steps) ≡ Ok tt → (line : CertLine) × (line_at lines step ≡ Some line) × (steps_known lines (place + 1) steps ≡ Ok tt)
first_known lines place step steps known = step_there place (line_at lines step) (steps_known lines (place + 1) steps) known

-- the line of the first step comes first
pub walked_first : (lines : List CertLine) (step : ℕ) (steps : List ℕ) (line : CertLine) → line_at lines step ≡ Some line → walked lines (step ∷ steps) ≡ line ∷ walked lines steps
walked_first lines step steps line here = ap (λ o. cons_option o (walked lines steps)) here

-- each step that is known names a line
pub length_walked : (lines : List CertLine) (place : ℕ) (walk : List ℕ) → steps_known lines place walk ≡ Ok tt → length (walked lines walk) ≡ length walk
length_walked lines place [] known = refl
length_walked lines place (step ∷ steps) known =
    let first = first_known lines place step steps known in
    let rest : length (walked lines steps) ≡ length steps = length_walked lines (place + 1) steps first.2 in
    let here : length (walked lines (step ∷ steps)) ≡ length (first.0 ∷ walked lines steps) = ap length (walked_first lines step steps first.0 first.1) in
    omega (arith, here, rest)

-- what is left to try of a walk whose steps meet
pub closed_walk : (place from : ℕ) (lines : List CertLine) (walk : List ℕ) (step : ℕ) (steps : List ℕ) (line : CertLine) → walk ≡ step ∷ steps → line_at lines step ≡ Some line → returns_to line.from place line (walked lines steps) ≡ Ok tt
    → steps_known lines from walk ≡ Ok tt → is_negative_walk place (walked lines walk) ≡ is_negative_total (place + length steps) (total_weight (walked lines walk))
closed_walk place from lines walk step steps line is here returns known =
    let first = ap (walked lines) is ∙ walked_first lines step steps line here in
    let later = first_known lines from step steps (ap (steps_known lines from) (sym is) ∙ known) in
    let count = length_walked lines (from + 1) steps later.2 in
    let total = total_weight (walked lines walk) in
    ap (is_negative_walk place) first ∙ ap (λ (passes : WalkPasses). passes >>= (λ _. is_negative_total (place + length (walked lines steps)) (total_weight (line ∷ walked lines steps)))) returns
    ∙ ap (λ n. is_negative_total (place + n) (total_weight (line ∷ walked lines steps))) count ∙ ap (λ w. is_negative_total (place + length steps) (total_weight w)) (sym first)
