use Rattle.std.proofs.Common.{◌≤◌, sym, subst, arith, unsigned_abs, w64, to_z, of_z, ℤ}
use Rattle.std.proofs.lemmas.Int.{ints, to_z-of_z}
use Rattle.net_model.specs.Limits.{most_delay}
use Rattle.net_model.specs.Network.{HasPlanNumbers}
use Rattle.net_model.specs.StoredNetwork.{plan_of}
use Rattle.net_model.proofs.DelayLemmas.{sound_with_delay}
use Rattle.net_model.proofs.network.Network.with_delay.Goals as goal

pub invariant_of-self : goal.invariant_of-self
invariant_of-self c =
    let same = to_z-of_z w64 c.args.moments c.ranges.moments in
    let nought = c.requires.from_nought in
    let short = c.requires.short in
    let within : unsigned_abs c.args.moments ≤ most_delay = omega (arith, ints, nought, short) in
    record {
      plan = sound_with_delay (plan_of c.self.inside) (unsigned_abs (to_z w64 (of_z w64 c.args.moments))) c.self.invariant.plan (subst HasPlanNumbers (sym c.self.view_is) c.requires.numbers)
          (subst (λ (n : ℤ). unsigned_abs n ≤ most_delay) (sym same) within);
      point_index = c.self.invariant.point_index;
      bound_index = c.self.invariant.bound_index;
      ending_count = c.self.invariant.ending_count;
      ending = c.self.invariant.ending;
    }
