use Rattle.cert_checker.proofs.ClosedWalks.{law_accepted_excludes}
use Rattle.cert_checker.proofs.laws.law_accepted_excludes.Goals as goal

pub returns : goal.returns
returns c = law_accepted_excludes c.law_rules_keep_edges.ensures c.law_refutations_exclude_strategies.ensures c.law_controllable_is_shown.ensures c.law_shown_form_is_instant.ensures
