-- The lines before the one at which a refutation is refused pass.
use Rattle.std.proofs.Common.{◌≡◌, ℕ, ◌-◌, zero, suc, List, [], ◌∷◌, ◌++◌, take, Ok, Err, refl, ap, ◌∙◌, arith}
use Rattle.net_model.specs.Network.{Plan}
use Rattle.strategy_model.specs.Plays.{IsInstant}
use Rattle.strategy_model.specs.Laws.{RulesKeepEdges, DerivationsAreTrue}
use Rattle.cert_format.specs.declared.certificate.Certificate.{Certificate}
use Rattle.cert_format.specs.declared.certificate.Certificate.TheVariants.{Refutation, TableProof}
use Rattle.cert_format.specs.declared.line.CertLine.{CertLine}
use Rattle.cert_format.specs.JudgementForms.{◌>>=◌}
use Rattle.cert_checker.specs.Walk.{WalkPasses, walk_passes}
use Rattle.cert_checker.specs.Judgement.{lines_pass, refutation_passes, judged, judgement_of}
use Rattle.cert_checker.specs.Truth.{AreTrueLines, IsTrueOf, IsTrueAsShown, passed_lines}
use Rattle.strategy_model.specs.ShownLaws.{ControlIsShown, TruthIsShown, ShownFormIsInstant}
use Rattle.net_model.specs.ShownForm.{shown_form}
use Rattle.std.proofs.lemmas.List.Elements.{All-weaker}
use Rattle.cert_checker.specs.declared.judgement.RefusedLine.{RefusedLine}
use Rattle.cert_checker.specs.declared.judgement.Claim.TheVariants.{NotControllable}
use Rattle.cert_checker.proofs.LineLoop.{goes_on}
use Rattle.cert_checker.proofs.RefusedLines.{stop_is}
use Rattle.cert_checker.specs.Laws.{PassedLinesAreTrue}
use Rattle.cert_checker.proofs.LineDerivations.{first_passes, lines_are_true}

-- all lines pass, and so do those of a prefix
prefix_passes : (net : Plan) (earlier lines : List CertLine) (count : ℕ) → lines_pass net earlier lines ≡ Ok tt → lines_pass net earlier (take count lines) ≡ Ok tt
prefix_passes net earlier [] zero pass = refl
prefix_passes net earlier [] (suc count) pass = refl
prefix_passes net earlier (line ∷ lines) zero pass = refl
prefix_passes net earlier (line ∷ lines) (suc count) pass =
    let (passes, others) = first_passes net earlier line lines pass in
    goes_on net earlier line (take count lines) passes ∙ prefix_passes net (earlier ++ line ∷ []) lines count others

-- the lines before a refused one pass, or all of them if the walk is refused
before_refused : (net : Plan) (lines : List CertLine) (walk : WalkPasses) (rules : WalkPasses) → lines_pass net [] lines ≡ rules → (refused : RefusedLine) → (rules >>= (λ _. walk)) ≡ Err refused
    → lines_pass net [] (take (refused.line - 1) lines) ≡ Ok tt
before_refused net lines walk (Ok passed) is refused stops = prefix_passes net [] lines (refused.line - 1) is
before_refused net lines walk (Err first) is refused stops =
    let stop = stop_is net [] lines refused (is ∙ stops) in
    let count : refused.line - 1 ≡ stop.count = omega (arith, stop.place) in
    ap (λ k. lines_pass net [] (take k lines)) count ∙ stop.before

all_pass : (net : Plan) (lines : List CertLine) (walk : WalkPasses) (rules : WalkPasses) → lines_pass net [] lines ≡ rules → (rules >>= (λ _. walk)) ≡ Ok tt → lines_pass net [] lines ≡ Ok tt
all_pass net lines walk (Ok passed) is passes = is
all_pass net lines walk (Err first) is passes = absurd (cc)

passed_of : (net : Plan) (lines : List CertLine) (walk : List ℕ) (passes : WalkPasses) → refutation_passes net lines walk ≡ passes → lines_pass net [] (passed_lines (Refutation lines walk) (judged NotControllable passes)) ≡ Ok tt
unfolding refutation_passes
passed_of net lines walk (Ok passed) is = all_pass net lines (walk_passes lines walk) (lines_pass net [] lines) refl is
passed_of net lines walk (Err refused) is = before_refused net lines (walk_passes lines walk) (lines_pass net [] lines) refl refused is

-- the lines that a judgement passes
pub passed_lines_pass : (net : Plan) (lines : List CertLine) (walk : List ℕ) → lines_pass net [] (passed_lines (Refutation lines walk) (judgement_of net (Refutation lines walk))) ≡ Ok tt
passed_lines_pass net lines walk = passed_of net lines walk (refutation_passes net lines walk) refl

pub all_passed_true : RulesKeepEdges → DerivationsAreTrue → ControlIsShown → TruthIsShown → ShownFormIsInstant → PassedLinesAreTrue
all_passed_true keep derivations control truth is_instant = λ net certificate plan. record {
  of_each = λ strategy controls.
      All-weaker (IsTrueOf (shown_form net) strategy) (IsTrueAsShown net strategy) (λ line states. (states.0, states.1, (truth net strategy states.0 plan).1 states.2))
      (passed_lines certificate (judgement_of (shown_form net) certificate))
      ((passed_true (shown_form net) keep derivations (is_instant net plan) certificate).of_each strategy ((control net strategy plan).0 controls));
}
  where
    passed_true : (net : Plan) → RulesKeepEdges → DerivationsAreTrue → IsInstant net → (certificate : Certificate) → AreTrueLines net (passed_lines certificate (judgement_of net certificate))
    passed_true net keep derivations instant (Refutation lines walk) =
        lines_are_true net instant.sound keep instant derivations (passed_lines (Refutation lines walk) (judgement_of net (Refutation lines walk))) (passed_lines_pass net lines walk)
    passed_true net keep derivations instant (TableProof order entries) = lines_are_true net instant.sound keep instant derivations [] refl
