use Rattle.std.proofs.Common.{◌≡◌, sym, ap, ◌∙◌, ℤ, w64, List, Ok, set, get_or}
use Rattle.std.proofs.lemmas.Int.{to_z-of_z}
use Rattle.net_model.specs.Limits.{within_limit}
use Rattle.net_model.specs.Network.{Plan, IsPlan}
use Rattle.net_model.specs.EditedNetwork.{edited, with_number}
use Rattle.net_model.specs.declared.part.Bound.{Bound}
use Rattle.net_model.specs.declared.edit.Edit.TheVariants as edits
use Rattle.net_model.proofs.EditLemmas.{number_made, made_sound, made_of}
use Rattle.net_model.proofs.network.Network.with_number.Goals as goal
use Rattle.net_model.proofs.network.Network.with_number.Goals.{After-links}

-- the network that is wanted
wanted : After-links → Plan
wanted c = with_number c.args.self.now c.in_ok-id.id c.args.most c.index-bounds-id.result

made : (c : After-links) → IsPlan (wanted c) × (edited c.args.self.now (edits.SetBound c.args.name.now c.args.most) ≡ Ok (wanted c))
unfolding wanted
made c =
    let bound = c.index-bounds-id.result in
    let read = to_z-of_z w64 c.args.most c.ranges.most in
    number_made c.args.self.now c.bounds.ensures.sound c.args.name.now c.in_ok-id.id c.args.most bound
    (sym c.named_bound.ensures ∙ c.in_ok-id.ensures.ok_part) (c.index-bounds-id.is ∙ ap (λ (bounds : List Bound). get_or bounds c.in_ok-id.id.0 bound) c.bounds.ensures.bounds)
    (ap within_limit (sym read) ∙ sym c.is_within_limit.ensures ∙ c.if-not-is_within_limit.false)

bounds_are : (c : After-links) → c.as_slice.result.now ≡ (wanted c).bounds
unfolding wanted
bounds_are c =
    c.as_slice.ensures.value ∙ c.in_ok-bounds.ensures ∙ ap (λ (bounds : List Bound). set bounds c.in_ok-id.id.0 c.with_most-bound.result) c.bounds-2.ensures.bounds
    ∙ ap (set c.args.self.now.bounds c.in_ok-id.id.0) c.with_most-bound.ensures
    ∙ ap (λ (most : ℤ). set c.args.self.now.bounds c.in_ok-id.id.0 (record c.index-bounds-id.result { most = most })) (to_z-of_z w64 c.args.most c.ranges.most)

pub of_lists-requires : goal.of_lists-requires
unfolding wanted
of_lists-requires c = made_sound (wanted c) c.points.result.now c.as_slice.result.now c.links.result.now c.points.ensures.points (bounds_are c) c.links.ensures.links (made c).0

pub returns : goal.returns
unfolding wanted
returns c =
    let before = (goal.at.returns c).After-links in
    let is = made_of (wanted before) c.points.result.now c.as_slice.result.now c.links.result.now c.points.ensures.points (bounds_are before) c.links.ensures.links in
    (made before).1 ∙ ap Ok (sym (c.in_ok-of_lists.ensures ∙ is))
