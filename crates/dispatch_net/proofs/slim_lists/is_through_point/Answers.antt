use Rattle.std.proofs.Common.{◌∙◌, sym, subst, ap, rules, ℤ, List, Bool, w64, SFits}
use Rattle.std.specs.Prelude.{int_le, ◌+ℤ◌, ◌==◌, ◌&&◌}
use Rattle.std.specs.List.{list_any}
use Rattle.std.proofs.Math.Facts.{to_z-of_z}
use Rattle.net_model.specs.declared.ids.PointId.{PointId}
use Rattle.dispatch_net.specs.Held.{Rise}
use Rattle.dispatch_net.proofs.slim_lists.is_through_point.Goals as goal

pub bound_on-requires : goal.bound_on-requires
bound_on-requires c = subst (λ (items : List (PointId × ℤ)). Rise (λ (bound : PointId × ℤ). bound.0.0) items) (sym c.as_slice.ensures) c.requires.bounds

pub returns-in-Some : goal.returns-in-Some
returns-in-Some c =
    let n : SFits w64 c.args.bound.1 = search rules in
    let m : SFits w64 c.args.other.1 = search rules in
    let k : SFits w64 c.in-Some.inner = search rules in
    let test : ℤ → Bool = λ inner. int_le c.args.bound.1 (c.args.other.1 +ℤ inner) in
    c.reaches.ensures ∙ (λ i. int_le (to_z-of_z n i) (to_z-of_z m i +ℤ to_z-of_z k i)) ∙ sym (c.in-Some.ensures test)
    ∙ ap (λ (items : List (PointId × ℤ)). list_any (λ (inner : PointId × ℤ). inner.0.0 == c.args.bound.0.0 && test inner.1) items) c.as_slice.ensures

pub returns-in-None : goal.returns-in-None
returns-in-None c =
    let test : ℤ → Bool = λ inner. int_le c.args.bound.1 (c.args.other.1 +ℤ inner) in
    sym (c.in-None.ensures test) ∙ ap (λ (items : List (PointId × ℤ)). list_any (λ (inner : PointId × ℤ). inner.0.0 == c.args.bound.0.0 && test inner.1) items) c.as_slice.ensures
