use Rattle.cert_checker.proofs.TableLaw.{law_accepted_controls}
use Rattle.cert_checker.proofs.laws.law_accepted_controls.Goals as goal

pub returns : goal.returns
returns c = law_accepted_controls c.law_forward_lists_give_strategies.ensures c.law_controllable_is_shown.ensures c.law_shown_form_is_instant.ensures
