use Rattle.std.proofs.Common.{sym, ◌∙◌}
use Rattle.std.proofs.lemmas.Bool.{and_parts}
use Rattle.std.proofs.lemmas.Option.{MatchOption-at_some}
use Rattle.net_model.specs.Network.{IsLink}
use Rattle.cert_checker.proofs.RuleLemmas.{test_held}
use Rattle.cert_checker.proofs.rules.cross_passes.Goals as goal

pub back_passes-requires-clause-link : goal.back_passes-requires-clause-link
back_passes-requires-clause-link c = MatchOption-at_some _ (IsLink c.args.net.now) _ c.in_ok-link.ensures.ok_part c.link_named.ensures.sound

pub back_passes-requires-clause-negative : goal.back_passes-requires-clause-negative
back_passes-requires-clause-negative c = (and_parts _ _ (sym c.may_cross.ensures ∙ test_held _ _ _ c.in_ok-unless-2.ensures)).0
