use Rattle.std.proofs.Common.{◌≡◌, ℕ, ◌++◌, ◌∷◌, [], set, Some, length, ◌∙◌, ap, sym, refl, subst, None}
use Rattle.net_model.specs.Network.{Plan, activation}
use Rattle.net_model.proofs.DeclarationLemmas.{declared-more_links}
use Rattle.net_model.proofs.declarations.Declared.push_link.Goals as goal

pub invariant_of-self-2 : goal.invariant_of-self-2
invariant_of-self-2 c =
    let count : c.len.result ≡ length c.self.inside.links.items = c.len.ensures ∙ c.in_ok-reserve.ensures.len ∙ c.self.inside.links.ok.0 in
    declared-more_links c.self.inside _ c.self.invariant c.args.link
    (rw c.self.view_is c.requires.sound) (subst (λ net. activation net c.args.link.to ≡ None) (sym c.self.view_is) c.requires.not_taken) (rw (ap (λ (net : Plan). net.links) c.self.view_is) c.requires.spare_capacity)
    (record {
      points = refl;
      bounds = refl;
      bound_names = refl;
      links = c.push_reserved.ensures.items ∙ ap (λ links. links ++ c.args.link ∷ []) c.in_ok-reserve.ensures.items;
      ending = ap (λ (id : ℕ). set c.self.inside.ending.items c.args.link.to.0 (Some (record { 0 = id }))) count;
      delay = refl;
    })
