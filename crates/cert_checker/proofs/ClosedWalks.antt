-- The walk of a refutation that passes is a closed walk of negative total over the edges of its lines.
use Rattle.std.proofs.Common.{◌≡◌, ℕ, ℤ, pos, ◌+ℤ◌, ◌<ℤ◌, ◌+◌, List, [], ◌∷◌, length, Option, Some, None, Ok, Err, refl, ap, sym, subst}
use Rattle.std.specs.Prelude.{int_lt}
use Rattle.std.specs.List.{AllByRecursion, Contains, cons_option}
use Rattle.std.specs.Str.{bytes_eq}
use Rattle.std.proofs.lemmas.List.Elements.{All-from_recursion}
use Rattle.net_model.specs.Network.{Plan}
use Rattle.strategy_model.specs.Plays.{IsInstant}
use Rattle.strategy_model.specs.ShownLaws.{ControllableIsShown, ShownFormIsInstant}
use Rattle.net_model.specs.ShownForm.{shown_form}
use Rattle.strategy_model.specs.Control.{IsControllable}
use Rattle.strategy_model.specs.Edges.{IsWalk, IsNegativeLoop, total}
use Rattle.strategy_model.specs.Laws.{RulesKeepEdges, RefutationsExcludeStrategies}
use Rattle.cert_format.specs.declared.certificate.Certificate.{Certificate}
use Rattle.cert_format.specs.declared.certificate.Certificate.TheVariants.{Refutation, TableProof}
use Rattle.cert_format.specs.declared.line.CertLine.{CertLine}
use Rattle.cert_format.specs.JudgementForms.{unless}
use Rattle.cert_checker.specs.Lines.{line_at}
use Rattle.cert_checker.specs.Walk.{WalkPasses, refusal, steps_known, returns_to, is_negative_walk, total_weight, walked, walk_passes}
use Rattle.cert_checker.specs.Judgement.{lines_pass, refutation_passes, judged, judgement_of}
use Rattle.cert_checker.specs.Tables.{table_passes}
use Rattle.cert_checker.specs.Laws.{AcceptedExcludes}
use Rattle.cert_checker.specs.declared.judgement.CertFault.TheVariants.{WalkBroken, WalkNotNegative}
use Rattle.cert_checker.specs.declared.judgement.Judgement.TheVariants.{Accepted}
use Rattle.cert_checker.specs.declared.judgement.Claim.TheVariants.{NotControllable, Controllable}
use Rattle.cert_format.proofs.PassedStepLemmas.{bind_ok, unless_ok}
use Rattle.cert_checker.proofs.Inversion.{negative_ok, contains_line}
use Rattle.cert_checker.proofs.CertificateNames.{edge_of, point_of, point_of_same}
use Rattle.cert_checker.proofs.LineConsequences.{edges_of}
use Rattle.cert_checker.proofs.LineDerivations.{derivation}

module _ (net : Plan) where
  -- a walk that goes on after a line and comes back
  returns_walk : (begin : List ℕ) (place : ℕ) (last : CertLine) (steps : List CertLine) → returns_to begin place last steps ≡ Ok tt → IsWalk (point_of net last.to) (edges_of net steps) (point_of net begin)
  returns_walk begin place last [] back = point_of_same net last.to begin (unless_ok (bytes_eq last.to begin) (refusal place WalkBroken) back)
  returns_walk begin place last (next ∷ steps) back =
      let (_, meet, rest) = bind_ok (unless (bytes_eq next.from last.to) (refusal (place + 1) WalkBroken)) _ tt back in
      (point_of_same net next.from last.to (unless_ok (bytes_eq next.from last.to) (refusal (place + 1) WalkBroken) meet), returns_walk begin (place + 1) next steps rest)

  total_is : (lines : List CertLine) → total (edges_of net lines) ≡ total_weight lines
  total_is [] = refl
  total_is (line ∷ lines) = ap (λ sum. line.weight +ℤ sum) (total_is lines)

  negative_walk : (place : ℕ) (steps : List CertLine) → is_negative_walk place steps ≡ Ok tt → IsNegativeLoop (edges_of net steps)
  negative_walk place [] passes = absurd (cc)
  negative_walk place (line ∷ steps) passes =
      let (_, back, negative) = bind_ok (returns_to line.from place line steps) _ tt passes in
      let sum = total_weight (line ∷ steps) in
      let below : sum <ℤ pos 0 = negative_ok sum (unless_ok (int_lt sum (pos 0)) (refusal (place + length steps) (WalkNotNegative sum)) negative) in
      (point_of net line.from, (refl, returns_walk line.from place line steps back), subst (λ (t : ℤ). t <ℤ pos 0) (sym (total_is (line ∷ steps))) below)

  -- each step of the walk is an edge of a line
  step_among : (lines : List CertLine) (o : Option CertLine) (number : ℕ) (rest : List CertLine) → line_at lines number ≡ o → AllByRecursion (Contains (edges_of net lines)) (edges_of net rest)
      → AllByRecursion (Contains (edges_of net lines)) (edges_of net (cons_option o rest))
  step_among lines None number rest is among = among
  step_among lines (Some line) number rest is among = (contains_line (edge_of net) lines number line is, among)

  steps_among : (lines : List CertLine) (walk : List ℕ) → AllByRecursion (Contains (edges_of net lines)) (edges_of net (walked lines walk))
  steps_among lines [] = tt
  steps_among lines (step ∷ steps) =
      step_among lines (line_at lines step) step (walked lines steps) refl (steps_among lines steps)

  walk_ok : (lines : List CertLine) (walk : List ℕ) → walk_passes lines walk ≡ Ok tt → IsNegativeLoop (edges_of net (walked lines walk))
  unfolding walk_passes
  walk_ok lines walk passes =
      let (_, known, negative) = bind_ok (steps_known lines (length lines + 1) walk) _ tt passes in
      negative_walk (length lines + 1) (walked lines walk) negative

  -- no strategy controls a network of which a refutation passes
  pub refutation_excludes : IsInstant net → RulesKeepEdges → RefutationsExcludeStrategies → (lines : List CertLine) (walk : List ℕ) → refutation_passes net lines walk ≡ Ok tt → IsControllable net → ⊥
  unfolding refutation_passes
  refutation_excludes instant keep exclude lines walk passes controllable =
      let (_, pass, closed) = bind_ok (lines_pass net [] lines) _ tt passes in
      let loop = walk_ok lines walk closed in
      let steps = edges_of net (walked lines walk) in
      exclude net (edges_of net lines) steps instant (derivation net instant.sound keep lines pass) (All-from_recursion (Contains (edges_of net lines)) steps (steps_among lines walk)) loop controllable

accepted_passes : (passes : WalkPasses) → judged NotControllable passes ≡ Accepted NotControllable → passes ≡ Ok tt
accepted_passes (Ok passed) accepted = refl
accepted_passes (Err refused) accepted = absurd (cc)

other_claim : (passes : WalkPasses) → judged Controllable passes ≡ Accepted NotControllable → ⊥
other_claim (Ok passed) accepted = cc
other_claim (Err refused) accepted = cc

excludes_by : RulesKeepEdges → RefutationsExcludeStrategies → (net : Plan) (certificate : Certificate) → IsInstant net → judgement_of net certificate ≡ Accepted NotControllable → IsControllable net → ⊥
excludes_by keep exclude net (Refutation lines walk) instant accepted =
    refutation_excludes net instant keep exclude lines walk (accepted_passes (refutation_passes net lines walk) accepted)
excludes_by keep exclude net (TableProof order entries) instant accepted = absurd (other_claim (table_passes net order entries) accepted)

-- an accepted refutation excludes every strategy that controls the network
pub law_accepted_excludes : RulesKeepEdges → RefutationsExcludeStrategies → ControllableIsShown → ShownFormIsInstant → AcceptedExcludes
law_accepted_excludes keep exclude is_shown is_instant = λ net certificate plan accepted controllable.
    excludes_by keep exclude (shown_form net) certificate (is_instant net plan) accepted ((is_shown net plan).0 controllable)
