use Rattle.cert_checker.proofs.RefusedPrefix.{all_passed_true}
use Rattle.cert_checker.proofs.laws.law_passed_lines_are_true.Goals as goal

pub returns : goal.returns
returns c = all_passed_true c.law_rules_keep_edges.ensures c.law_derivations_are_true.ensures c.law_control_is_shown.ensures c.law_truth_is_shown.ensures c.law_shown_form_is_instant.ensures
