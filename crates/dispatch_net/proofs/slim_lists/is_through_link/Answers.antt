use Rattle.std.proofs.Common.{◌≡◌, ◌∙◌, sym, ap, rules, Bool, false, w64, SFits}
use Rattle.std.specs.Prelude.{int_le, ◌+ℤ◌, ◌==◌, ◌&&◌}
use Rattle.std.proofs.lemmas.Bool.{eq-eqb, ne_eqb}
use Rattle.std.proofs.Math.Facts.{to_z-of_z}
use Rattle.dispatch_net.proofs.slim_lists.is_through_link.Goals as goal

pub returns-then-link-bound : goal.returns-then-link-bound
returns-then-link-bound c =
    let n : SFits w64 c.args.bound.1 = search rules in
    let m : SFits w64 c.args.other.1 = search rules in
    let k : SFits w64 c.args.link.now.low = search rules in
    let at = eq-eqb c.args.link.now.from.0 c.args.bound.0.0 c.if-link-bound.true in
    c.reaches.ensures ∙ (λ i. int_le (to_z-of_z n i) (to_z-of_z m i +ℤ to_z-of_z k i))
    ∙ sym (ap (λ (b : Bool). b && int_le c.args.bound.1 (c.args.other.1 +ℤ c.args.link.now.low)) at)

pub returns-else-link-bound : goal.returns-else-link-bound
returns-else-link-bound c =
    let differs : (c.args.link.now.from.0 == c.args.bound.0.0) ≡ false = ne_eqb c.args.link.now.from.0 c.args.bound.0.0 c.if-link-bound.false in
    differs ∙ sym (ap (λ (b : Bool). b && int_le c.args.bound.1 (c.args.other.1 +ℤ c.args.link.now.low)) differs)
