-- What the steps of a rule have shown of the lines that they looked up and of the tests that held.
use Rattle.std.proofs.Common.{◌≡◌, ℕ, Bool, true, false, List, Bor, Option, Some, Ok, option_copied, All, zero, suc, refl, sym, ap, ◌∙◌, subst}
use Rattle.std.proofs.lemmas.Option.{get_or_from_slice_get, slice_get_within}
use Rattle.std.proofs.lemmas.List.Elements.{All-get_or}
use Rattle.cert_format.specs.declared.line.CertLine.{CertLine}
use Rattle.cert_format.specs.JudgementForms.{unless}
use Rattle.cert_checker.specs.Lines.{line_at, in_range}

-- a line that is looked up is one of those that are all in range
module _ (lines : List CertLine) (all : All (λ (l : CertLine). in_range l.weight ≡ true) lines) where
  line_in_range : (number : ℕ) (line : CertLine) → line_at lines number ≡ Some line → in_range line.weight ≡ true
  line_in_range zero line is = absurd (cc)
  line_in_range (suc k) line is =
      subst (λ (l : CertLine). in_range l.weight ≡ true) (get_or_from_slice_get lines k line line is) (All-get_or (λ (l : CertLine). in_range l.weight ≡ true) lines k line (slice_get_within lines k line is) all)

  pub found_in_range : (found : Option (Bor CertLine)) (number : ℕ) (line : Bor CertLine) → option_copied found ≡ line_at lines number → found ≡ Some line → in_range line.now.weight ≡ true
  found_in_range found number line same is = line_in_range number line.now (sym same ∙ ap option_copied is)

-- a step that a test let pass
pub test_held : {E : Type 0} (test : Bool) (fault : E) (passed : Unit {0}) → Ok passed ≡ unless test fault → test ≡ true
test_held true fault passed is = refl
test_held false fault passed is = absurd (cc)
