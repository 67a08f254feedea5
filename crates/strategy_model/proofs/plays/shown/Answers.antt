use Rattle.std.proofs.Common.{◌≡◌, ◌<◌, List, Bool, true, false, length, refl, sym, ap, ◌∙◌, arith}
use Rattle.net_model.specs.declared.ids.PointId.{PointId}
use Rattle.net_model.specs.declared.part.Link.{Link}
use Rattle.strategy_model.specs.Plays.{is_shown}
use Rattle.strategy_model.proofs.StepLemmas.{completed_with, completed_without, completed_whole}
use Rattle.strategy_model.proofs.plays.shown.Goals as goal
use Rattle.strategy_model.proofs.plays.shown.Goals.{then-is_shown+in_ok-push, else-is_shown}

pub loop-k-preserved : goal.loop-k-preserved
loop-k-preserved c =
    let size : length c.points-k-end.result.now ≡ length c.args.net.now.points = ap length c.points-k-end.ensures.points in
    let within : c.loop-k.k < length c.args.net.now.points = omega arith in
    let point : PointId = record { 0 = c.loop-k.k } in
    let test : PointId → Bool = is_shown c.args.net.now c.args.so_far.now c.args.t c.args.net.now.links c.args.situation.now in
    let answer : c.is_shown.result ≡ test point = c.is_shown.ensures ∙ ap (λ (links : List Link). is_shown c.args.net.now c.args.so_far.now c.args.t links c.args.situation.now point) c.links.ensures.links in
    elim c.if-is_shown.branch [
      | then-is_shown+in_ok-push w ↦ let passes : test point ≡ true = sym answer ∙ w.if-is_shown.true in let more = completed_with test c.args.net.now c.loop-k.k within point refl passes in cc (w.in_ok-push.ensures.items)
      | else-is_shown w ↦ let fails : test point ≡ false = sym answer ∙ w.if-is_shown.false in let more = completed_without test c.args.net.now c.loop-k.k within point refl fails in cc
    ]

pub returns : goal.returns
returns c =
    let size : length c.points-k-end.result.now ≡ length c.args.net.now.points = ap length c.points-k-end.ensures.points in
    let whole : c.loop-k.k ≡ length c.args.net.now.points = omega (arith, c.loop-k.auto.k-end) in
    c.loop-k.invariant ∙ completed_whole (is_shown c.args.net.now c.args.so_far.now c.args.t c.args.net.now.links c.args.situation.now) c.args.net.now c.loop-k.k whole
