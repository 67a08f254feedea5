use Rattle.std.proofs.Common.{◌≡◌, ℕ, ◌+◌, ◌<◌, List, [], ◌∷◌, ◌++◌, length, take, get_or, map, Option, Some, None, ap, sym, ◌∙◌, arith}
use Rattle.std.proofs.lemmas.List.{take_all, take_more, map_push}
use Rattle.net_model.specs.Moments.{Moments}
use Rattle.situation_player.proofs.played_day.moments_of.Goals as goal

-- one more moment is known
one_more : (moments : Moments) (k moment : ℕ) (so_far after : List ℕ) → k < length moments → get_or moments k None ≡ Some moment
    → map Some so_far ≡ take k moments → after ≡ so_far ++ moment ∷ [] → map Some after ≡ take (k + 1) moments
one_more moments k moment so_far after inside is so added =
    ap (map Some) added ∙ map_push Some so_far moment ∙ ap (λ (ms : Moments). ms ++ Some moment ∷ []) so
    ∙ ap (λ (o : Option ℕ). take k moments ++ o ∷ []) (sym is) ∙ sym (take_more moments k None inside)

pub loop-k-preserved : goal.loop-k-preserved
loop-k-preserved c =
    one_more c.args.executor.now.moments c.loop-k.k c.in-Some.moment c.loop-k.schedule.items c.push.new.self.items
    (omega (arith, c.loop-k-test.true, c.requires.points, c.requires.moments)) (sym c.moment_of.ensures ∙ c.in-Some.is) c.loop-k.invariant c.in_ok-push-in-Some.ensures.items

pub returns : goal.returns
returns c =
    c.loop-k.invariant ∙ take_all c.loop-k.k c.args.executor.now.moments (omega (arith, c.loop-k-test.false, c.requires.points, c.requires.moments))
