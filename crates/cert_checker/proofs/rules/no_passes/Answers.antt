use Rattle.cert_checker.proofs.RuleLemmas.{found_in_range}
use Rattle.cert_checker.proofs.rules.no_passes.Goals as goal

pub sum_passes-requires-clause-first_in_range : goal.sum_passes-requires-clause-first_in_range
sum_passes-requires-clause-first_in_range c = found_in_range _ c.requires _ _ _ c.line_at.ensures c.in_ok-first.ensures.ok_part

pub sum_passes-requires-clause-second_in_range : goal.sum_passes-requires-clause-second_in_range
sum_passes-requires-clause-second_in_range c = found_in_range _ c.requires _ _ _ c.line_at-2.ensures c.in_ok-second.ensures.ok_part
