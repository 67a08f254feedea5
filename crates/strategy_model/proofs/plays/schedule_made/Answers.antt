use Rattle.std.proofs.Common.{◌≡◌, ◌<◌, ◌≤◌, ◌+◌, ◌++◌, ◌∷◌, [], ℕ, List, map, drop, length, length-append, refl, sym, ap, ◌∙◌, arith}
use Rattle.std.specs.Option.{option_map}
use Rattle.strategy_model.specs.Plays.{all_some, moment_so_far, points_of}
use Rattle.strategy_model.proofs.StepLemmas.{made_missing, made_more, made_whole}
use Rattle.strategy_model.proofs.plays.schedule_made.Goals as goal

pub returns-in_default-clause-made : goal.returns-in_default-clause-made
returns-in_default-clause-made c =
    let size : length c.points-k-end.result.now ≡ length c.args.net.now.points = ap length c.points-k-end.ensures.points in
    let within : c.loop-k.k < length c.args.net.now.points = omega arith in
    let missing = made_missing c.args.net.now c.args.so_far.now c.loop-k.k within (record { 0 = c.loop-k.k }) refl (sym c.moment_so_far.ensures ∙ c.in_default.is) in
    sym (c.loop-k.invariant.1 ∙ ap (option_map (λ (rest : List ℕ). c.loop-k.schedule.items ++ rest)) missing)

pub loop-k-preserved : goal.loop-k-preserved
loop-k-preserved c =
    let size : length c.points-k-end.result.now ≡ length c.args.net.now.points = ap length c.points-k-end.ensures.points in
    let within : c.loop-k.k < length c.args.net.now.points = omega arith in
    let more = made_more c.args.net.now c.args.so_far.now c.loop-k.schedule.items c.loop-k.k c.in-Some.moment within (record { 0 = c.loop-k.k }) refl (sym c.moment_so_far.ensures ∙ c.in-Some.is) in
    let pushed : c.push.new.self.items ≡ c.loop-k.schedule.items ++ c.in-Some.moment ∷ [] = c.in_ok-push.ensures.items in (
      omega (arith, ap length pushed, length-append c.loop-k.schedule.items (c.in-Some.moment ∷ []), c.loop-k.invariant.0),
      c.loop-k.invariant.1 ∙ more
          ∙ ap (λ (items : List ℕ). option_map (λ (rest : List ℕ). items ++ rest) (all_some (map (moment_so_far c.args.so_far.now) (drop (c.loop-k.k + 1) (points_of c.args.net.now))))) (sym pushed),
    )

pub returns-clause-made : goal.returns-clause-made
returns-clause-made c =
    let size : length c.points-k-end.result.now ≡ length c.args.net.now.points = ap length c.points-k-end.ensures.points in
    let past : length c.args.net.now.points ≤ c.loop-k.k = omega arith in
    sym (c.loop-k.invariant.1 ∙ made_whole c.args.net.now c.args.so_far.now c.loop-k.schedule.items c.loop-k.k past)
