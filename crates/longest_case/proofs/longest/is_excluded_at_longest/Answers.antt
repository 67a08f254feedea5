use Rattle.std.proofs.Common.{◌≡◌, true, sym, subst}
use Rattle.std.specs.List.{All}
use Rattle.std.proofs.lemmas.Result.{IfOk-weaker}
use Rattle.strategy_model.specs.Control.{IsControllable}
use Rattle.longest_case.specs.Longest.{HoldsAtLongest}
use Rattle.longest_case.specs.Loops.{HasNegativeLoop}
use Rattle.longest_case.proofs.LongestLemmas.{loop_excludes}
use Rattle.longest_case.proofs.longest.is_excluded_at_longest.Goals as goal

pub returns : goal.returns
returns c =
    let net = c.args.net.now in
    let edges = c.as_slice.result.now in
    let hold = subst (All (HoldsAtLongest net)) (sym c.as_slice.ensures.value) c.in_ok-edges.ensures in
    IfOk-weaker c.has_loop.result (λ found. found ≡ true → HasNegativeLoop edges) (λ is. is ≡ true → ¬ IsControllable net)
    (λ found is_loop is. loop_excludes c.law_completion_follows_activation.ensures net (record { sound = c.sound.ensures; no_delay = c.requires }) c.law_loops_exclude_schedules.ensures edges hold (is_loop is))
    c.has_loop.ensures
