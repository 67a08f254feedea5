use Rattle.std.proofs.Common.{refl, subst}
use Rattle.net_model.specs.ShownForm.{shown_form}
use Rattle.strategy_model.specs.Control.{IsControllable}
use Rattle.verdicts.specs.Decisions.{IsDecidedBy}
use Rattle.verdicts.proofs.VerdictLemmas.{decides_no, shown_decides, shown_excludes}
use Rattle.verdicts.proofs.verdict.verdict_by.Goals as goal

pub returns-in-Some : goal.returns-in-Some
returns-in-Some g c =
    let by = g.T.DecidingTable.decides in
    let decided = subst (IsDecidedBy by c.args.shown) c.in-Some.is c.requires.decided in
    (refl, shown_decides by c.law_controllable_is_shown.ensures c.args.net c.args.shown c.in-Some.closed c.sound.ensures c.requires.as_shown decided)

pub returns-in_ok-certificate-in-None : goal.returns-in_ok-certificate-in-None
returns-in_ok-certificate-in-None g c =
    let net = c.args.net in
    let made = c.in_ok-certificate-in-None in
    let shows = c.law_controllable_is_shown.ensures in
    let never : ¬ IsControllable net = shown_excludes shows net c.args.shown c.sound.ensures c.requires.as_shown (subst (IsDecidedBy g.T.DecidingTable.decides c.args.shown) c.in-None.is c.requires.decided) in
    (never, decides_no (shown_form net) made.certificate (λ controls. never ((shows net c.sound.ensures).1 controls)) made.ensures)
