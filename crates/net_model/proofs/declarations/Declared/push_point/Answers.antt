use Rattle.std.proofs.Common.{◌≡◌, ◌++◌, ◌∷◌, [], ap, sym, refl, subst, None, position, ◌∙◌}
use Rattle.std.specs.Str.{bytes_eq}
use Rattle.net_model.specs.Network.{Plan, point_named}
use Rattle.net_model.proofs.DeclarationLemmas.{declared-more_points, insert_key-new}
use Rattle.net_model.proofs.Positions.{None_from_option_map}
use Rattle.net_model.proofs.declarations.Declared.push_point.Goals as goal

pub invariant_of-self-2 : goal.invariant_of-self-2
invariant_of-self-2 c =
    declared-more_points c.self.inside _ c.self.invariant c.args.name.now
    c.sound.ensures (subst (λ net. point_named net c.args.name.now ≡ None) (sym c.self.view_is) c.requires.not_taken) (rw (ap (λ (net : Plan). net.points) c.self.view_is) c.requires.spare_capacity)
    (record {
      bounds = refl;
      links = refl;
      bound_names = refl;
      points = c.in_ok-insert.ensures.keys;
      ending = c.push_reserved.ensures.items ∙ ap (λ links. links ++ None ∷ []) c.in_ok-reserve.ensures.items;
      delay = refl;
    })

pub returns : goal.returns
returns c =
    let name = c.args.name.now in
    let old = c.self.inside in
    let none = None_from_option_map _ (position (bytes_eq name) old.points.keys) (subst (λ net. point_named net name ≡ None) (sym c.self.view_is) c.requires.not_taken) in
    let grown = c.in_ok-insert.ensures.keys ∙ insert_key-new old.points.keys name none in
    (λ i. record { points = grown i; bounds = old.bounds.items; links = old.links.items; delay = old.delay }) ∙ ap (λ (net : Plan). record net { points = net.points ++ name ∷ [] }) c.self.view_is
