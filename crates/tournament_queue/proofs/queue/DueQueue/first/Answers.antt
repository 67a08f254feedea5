use Rattle.std.proofs.Common.{◌≡◌, ◌<◌, ◌≤◌, ◌∙◌, length, arith, rules, sym, subst, ap}
use Rattle.std.proofs.lemmas.Bool.Decides.{nat_tests}
use Rattle.net_model.specs.Moments.{Moments}
use Rattle.tournament_queue.specs.First.{IsFirstDue}
use Rattle.tournament_queue.specs.Tournament.{at}
use Rattle.tournament_queue.proofs.TournamentLemmas.{top_is_first, none_first}
use Rattle.tournament_queue.proofs.queue.DueQueue.first.Goals as goal

pub returns-in-Some : goal.returns-in-Some
returns-in-Some c =
    let kept = c.self.inside in
    let long : 1 < length c.deref.result.now = grind (arith, nat_tests) in
    let some : 1 < length kept.firsts.items = subst (λ firsts. 1 < length firsts) c.deref.ensures.value long in
    let top : at kept.firsts.items 1 ≡ c.in-Some.first.now = rw (sym c.deref.ensures.value) (search rules) in
    subst (λ (due : Moments). IsFirstDue due c.in-Some.first.now) c.self.view_is (top_is_first kept.due.items kept.firsts.items c.self.invariant c.in-Some.first.now some top)

pub returns-in-None : goal.returns-in-None
returns-in-None c =
    let kept = c.self.inside in
    let short : length c.deref.result.now ≤ 1 = grind (arith, nat_tests) in
    let few : length kept.firsts.items ≤ 1 = subst (λ firsts. length firsts ≤ 1) c.deref.ensures.value short in
    let size = c.self.invariant.size in
    none_first c.args.self.now (subst (λ (due : Moments). length due ≡ 0) c.self.view_is (omega (arith, few, size)))
