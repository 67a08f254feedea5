use Rattle.std.proofs.Common.{◌≡◌, ◌++◌, ◌∷◌, [], ap, sym, refl, subst, None, ◌∙◌}
use Rattle.net_model.specs.Network.{Plan, bound_named}
use Rattle.net_model.proofs.DeclarationLemmas.{declared-more_bounds}
use Rattle.net_model.proofs.declarations.Declared.push_bound.Goals as goal

pub invariant_of-self-2 : goal.invariant_of-self-2
invariant_of-self-2 c =
    declared-more_bounds c.self.inside _ c.self.invariant c.args.bound
    (rw c.self.view_is c.requires.sound) (subst (λ net. bound_named net c.args.bound.name ≡ None) (sym c.self.view_is) c.requires.not_taken) (rw (ap (λ (net : Plan). net.bounds) c.self.view_is) c.requires.spare_capacity)
    (record {
      points = refl;
      links = refl;
      ending = refl;
      bounds = c.push_reserved.ensures.items ∙ ap (λ bounds. bounds ++ c.args.bound ∷ []) c.in_ok-reserve.ensures.items;
      bound_names = c.in_ok-insert.ensures.keys;
      delay = refl;
    })
