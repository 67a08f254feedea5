use Rattle.std.proofs.Common.{◌≡◌, w64, to_z, of_z, sym, ap, ◌∙◌}
use Rattle.std.proofs.Math.Facts.{to_z-of_z}
use Rattle.std.proofs.lemmas.Option.{MatchOption-at_some}
use Rattle.net_model.specs.Network.{IsLink}
use Rattle.cert_checker.specs.Lines.{is_negative}
use Rattle.cert_checker.proofs.RuleLemmas.{test_held}
use Rattle.cert_checker.proofs.rules.low_passes.Goals as goal

pub back_passes-requires-clause-link : goal.back_passes-requires-clause-link
back_passes-requires-clause-link c = MatchOption-at_some _ (IsLink c.args.net.now) _ c.in_ok-link.ensures.ok_part c.link_named.ensures.sound

pub back_passes-requires-clause-negative : goal.back_passes-requires-clause-negative
back_passes-requires-clause-negative c =
    let kept : to_z w64 (of_z w64 c.in_ok-second.second.now.weight) ≡ c.in_ok-second.second.now.weight = search to_z-of_z in
    ap is_negative (sym kept) ∙ test_held _ _ _ c.in_ok-unless-2.ensures
