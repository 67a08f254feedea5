use Rattle.std.proofs.Common.{◌≡◌, ℤ, pos, ◌-ℤ◌, ◌≤ℤ◌, ◌<ℤ◌, arith, subst, sym, w64, to_z, of_z}
use Rattle.std.proofs.lemmas.Int.{ints}
use Rattle.deadline_search.specs.Answers.{IsAnswerOf, ProvesAt, RefutesAt}
use Rattle.deadline_search.specs.Deadlines.{lowest}
use Rattle.deadline_search.specs.declared.answer.Deadline.TheVariants.{Least}
use Rattle.deadline_search.proofs.AnswerLemmas.{before_last, floor_is, least_is}
use Rattle.deadline_search.proofs.GoalLemmas.{stays, stays_before}
use Rattle.deadline_search.proofs.goal_search.Search.last.Goals as goal

pub returns-then-most-le-LOWEST : goal.returns-then-most-le-LOWEST
returns-then-most-le-LOWEST g c =
    let net = c.args.self.now.net in
    let goal_sought = c.args.self.now.goal in
    let most : ℤ = c.args.most in
    let deadline = c.requires.last.deadline in
    let was : to_z w64 (of_z w64 most) ≡ most = stays most deadline.from_lowest deadline.to_highest in
    let low : most ≤ℤ lowest = omega (arith, ints, was, c.if-most-le-LOWEST.true) in
    let proved : ProvesAt net goal_sought most c.in_ok-proof.proof = subst (λ (n : ℤ). ProvesAt net goal_sought n c.in_ok-proof.proof) was c.in_ok-proof.ensures in
    floor_is net goal_sought c.requires.controllable c.requires.named c.law_looser_bounds_keep_control.ensures most c.in_ok-proof.proof deadline low proved

pub refutation-requires-clause-none : goal.refutation-requires-clause-none
refutation-requires-clause-none g c κs within =
    let most : ℤ = c.args.most in
    let deadline = c.requires.last.deadline in
    let was : to_z w64 (of_z w64 most) ≡ most = stays most deadline.from_lowest deadline.to_highest in
    let above : lowest <ℤ most = omega (arith, ints, was, c.if-most-le-LOWEST.false) in
    before_last c.args.self.now.net c.args.self.now.goal most _ (stays_before most above deadline.to_highest) c.requires.last above

pub returns : goal.returns
returns g c =
    let net = c.args.self.now.net in
    let goal_sought = c.args.self.now.goal in
    let most : ℤ = c.args.most in
    let deadline = c.requires.last.deadline in
    let was : to_z w64 (of_z w64 most) ≡ most = stays most deadline.from_lowest deadline.to_highest in
    let above : lowest <ℤ most = omega (arith, ints, was, c.if-most-le-LOWEST.false) in
    let proved : ProvesAt net goal_sought most c.in_ok-proof.proof = subst (λ (n : ℤ). ProvesAt net goal_sought n c.in_ok-proof.proof) was c.in_ok-proof.ensures in
    let refuted : RefutesAt net goal_sought (most -ℤ pos 1) c.in_ok-refutation.refutation =
    subst (λ (n : ℤ). RefutesAt net goal_sought n c.in_ok-refutation.refutation) (stays_before most above deadline.to_highest) c.in_ok-refutation.ensures in
    subst (λ (n : ℤ). IsAnswerOf net goal_sought.from goal_sought.to (Least goal_sought.name n c.in_ok-proof.proof c.in_ok-refutation.refutation)) (sym was)
    (least_is net goal_sought c.requires.controllable c.requires.named c.law_looser_bounds_keep_control.ensures most c.in_ok-proof.proof c.in_ok-refutation.refutation c.requires.last above proved refuted)
