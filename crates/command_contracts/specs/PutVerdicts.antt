-- The verdict of a network is put.
use Rattle.std.specs.Prelude.{◌≡◌, ◌⊎◌, ℕ, List}
use Rattle.net_model.specs.Network.{Plan}
use Rattle.net_model.specs.ShownForm.{shown_form}
use Rattle.strategy_model.specs.Control.{IsControllable}
use Rattle.cert_format.specs.declared.certificate.Certificate.{Certificate}
use Rattle.cert_checker.specs.Judgement.{judgement_of}
use Rattle.cert_checker.specs.declared.judgement.Claim.TheVariants.{NotControllable}
use Rattle.cert_checker.specs.declared.judgement.Judgement.TheVariants.{Accepted}
use Rattle.command_engine.specs.declared.endings.End.{End}
use Rattle.common_answers.specs.VerdictLines.{PutsRefuted}

-- The verdict of a network is put: that it is controllable, and it is, and then this is so; or that it is not, and it is not, and a
-- certificate that the judge accepts: it speaks of the shown form.
abbrev pub PutsDecided : Plan → (Yes : Type 0) → List ℕ → End → Type 0
PutsDecided net Yes put end =
    (IsControllable net × Yes)
    ⊎ ((¬ IsControllable net) × ((cert : Certificate) × (judgement_of (shown_form net) cert ≡ Accepted NotControllable) × PutsRefuted cert put end))
