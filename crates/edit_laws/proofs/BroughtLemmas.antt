-- The bounds and links that are new are those that the edit brings.
use Rattle.std.proofs.Common.{◌≡◌, ◌⊎◌, inl, inr, ℕ, true, List, [], Option, Some, None, refl, ap, sym, ◌∙◌, subst}
use Rattle.std.specs.Prelude.{slice_get, is_none}
use Rattle.std.specs.Option.{option_and_then}
use Rattle.std.proofs.lemmas.Option.{slice_get-get_or, get_or_from_slice_get}
use Rattle.net_model.specs.Network.{Plan, IsPlan, point_named, activation}
use Rattle.net_model.specs.declared.edit.Edit.TheVariants as edits
use Rattle.net_model.specs.declared.edit.Edit.{Edit}
use Rattle.net_model.specs.declared.ids.BoundId.{BoundId}
use Rattle.net_model.specs.declared.ids.LinkId.{LinkId}
use Rattle.net_model.specs.declared.ids.PointId.{PointId}
use Rattle.net_model.specs.declared.part.Bound.{Bound}
use Rattle.net_model.specs.declared.part.Link.{Link}
use Rattle.net_model.proofs.AcceptedEdits.{Makes}
use Rattle.closure_model.proofs.Nodes.{listed_at}
use Rattle.closure_model.proofs.BaseLemmas.{slice_get-contained}
use Rattle.net_model.specs.NetworkParts.{point_name}
use Rattle.edit_laws.specs.EditNumbers.{point_in, bound_in, link_in, renumbering, is_new_bound, is_new_link}
use Rattle.edit_laws.specs.EditEffects.{unnumbered_link, HasEditedParts, AddsBound, SetsBound, AddsLink, SetsLink, TakesBound, TakesLink, BringsBound, BringsLink, EditsBringBounds, EditsBringLinks}
use Rattle.edit_laws.proofs.ByNames.{bound_placed, link_placed, at_named}
use Rattle.edit_laws.proofs.EditedParts.{BoundStood, LinkStood, bound_comes, link_comes, dropped_bound_gone, dropped_link_gone}
use Rattle.edit_laws.proofs.LastingParts.{link_sound}
use Rattle.edit_laws.proofs.TakenLemmas.{makes, bound_back, link_back, takes_bound, bound_taken, takes_link, link_taken}

none_is : {A : Type 0} (o : Option A) → is_none o ≡ true → o ≡ None
none_is None is = refl
none_is (Some x) is = absurd cc

module _ (old : Plan) (edit : Edit) (new : Plan) (before : IsPlan old) (after : IsPlan new) (has : HasEditedParts old edit new) where
  -- ---- bounds
  module _ (id : BoundId) (bound : Bound) (here : slice_get new.bounds id.0 ≡ Some bound) where
    -- if a bound of its name stood, it is new exactly if that one is taken away
    new_by : (place : BoundId) (was : Bound) → slice_get old.bounds place.0 ≡ Some was → was.name ≡ bound.name → is_new_bound old edit new bound ≡ is_none (bound_in old edit new was)
    new_by place was there name =
        ap (λ (o : Option BoundId). is_none (option_and_then (renumbering old edit new).bounds o)) (bound_placed old before bound.name place was there name)
        ∙ ap (λ (o : Option Bound). is_none (option_and_then (bound_in old edit new) o)) there

    came : AddsBound edit bound.name ⊎ BoundStood old bound.name
    came =
        let (was, there, parts) = bound_back has.made new has.parts id.0 bound here in
        let name : was.name ≡ bound.name = ap (λ (b : Bound). b.name) parts in
        subst (λ (n : List ℕ). AddsBound edit n ⊎ BoundStood old n) name (bound_comes old before edit has.made id.0 was (makes old edit new before after has) there)

    brings : is_new_bound old edit new bound ≡ true → BringsBound old edit bound
    brings is = by came
      where
        by : AddsBound edit bound.name ⊎ BoundStood old bound.name → BringsBound old edit bound
        by (inl adds) = inl adds
        by (inr stood) = from (takes_bound old edit new before after has (record { 0 = stood.place }) stood.was stood.there
            (none_is (bound_in old edit new stood.was) (sym (new_by (record { 0 = stood.place }) stood.was stood.there stood.named) ∙ is)))
          where
            from : TakesBound edit new stood.was → BringsBound old edit bound
            from (inl drops) =
                let (again, at, parts) = bound_back has.made new has.parts id.0 bound here in
                absurd (dropped_bound_gone old before stood.was.name has.made id.0 again (subst (λ (e : Edit). Makes old e has.made) drops (makes old edit new before after has)) at (ap (λ (b : Bound). b.name) parts ∙ sym stood.named))
            from (inr (inl sets)) = inr (inl (subst (SetsBound edit) stood.named sets))
            from (inr (inr (other, listed, name, apart))) =
                let (k, at) = slice_get-contained new.bounds other listed in
                let places : Some id ≡ Some (record { 0 = k }) = sym (bound_placed new after bound.name id bound here refl) ∙ bound_placed new after bound.name (record { 0 = k }) other at (name ∙ stood.named) in
                let one : id ≡ record { 0 = k } = cc in
                let both : Some bound ≡ Some other = sym here ∙ (ap (λ (p : BoundId). slice_get new.bounds p.0) one ∙ at) in
                let same : bound ≡ other = cc in
                inr (inr (stood.was, listed_at old.bounds stood.place stood.was stood.there, stood.named, λ most. apart (ap (λ (b : Bound). b.most) (sym same) ∙ sym most)))

    brought : BringsBound old edit bound → is_new_bound old edit new bound ≡ true
    brought (inl (from, to, most, adds)) =
        let (added, name, not_taken, is) = subst (λ (e : Edit). Makes old e has.made) adds (makes old edit new before after has) in
        ap (λ (o : Option BoundId). is_none (option_and_then (renumbering old edit new).bounds o)) not_taken
    brought (inr (inl sets)) = by came
      where
        by : AddsBound edit bound.name ⊎ BoundStood old bound.name → is_new_bound old edit new bound ≡ true
        by (inl (from, to, most, adds)) = let (number, is) = sets in let both : edits.AddBound bound.name from to most ≡ edits.SetBound bound.name number = sym adds ∙ is in absurd cc
        by (inr stood) =
            new_by (record { 0 = stood.place }) stood.was stood.there stood.named
            ∙ ap is_none (bound_taken old edit new before after has (record { 0 = stood.place }) stood.was stood.there (inr (inl (subst (SetsBound edit) (sym stood.named) sets))))
    brought (inr (inr (other, listed, name, apart))) =
        let (k, at) = slice_get-contained old.bounds other listed in
        new_by (record { 0 = k }) other at name
        ∙ ap is_none (bound_taken old edit new before after has (record { 0 = k }) other at (inr (inr (bound, listed_at new.bounds id.0 bound here, sym name, λ most. apart (sym most)))))

  -- ---- links
  module _ (id : LinkId) (link : Link) (here : slice_get new.links id.0 ≡ Some link) where
    abbrev name : List ℕ
    name = point_name new.points link.to

    named : slice_get new.points link.to.0 ≡ Some name
    named = let sound = link_sound new after id link here in slice_get-get_or new.points link.to.0 [] sound.to_point

    -- the point of its name in the old network
    back_to : (was : Link) → slice_get old.points was.to.0 ≡ Some name → point_in new old link.to ≡ Some was.to
    back_to was is = ap (option_and_then (point_named old)) named ∙ at_named old before name was.to is

    link_new_by : (place : LinkId) (was : Link) → slice_get old.links place.0 ≡ Some was → slice_get old.points was.to.0 ≡ Some name → is_new_link old edit new link ≡ is_none (link_in old edit new was)
    link_new_by place was there is =
        ap (λ (o : Option PointId). is_none (option_and_then (λ (p : PointId). option_and_then (renumbering old edit new).links (activation old p)) o)) (back_to was is)
        ∙ (ap (λ (o : Option LinkId). is_none (option_and_then (renumbering old edit new).links o)) (link_placed old before was.to place was there refl)
        ∙ ap (λ (o : Option Link). is_none (option_and_then (link_in old edit new) o)) there)

    -- a link that ended in the point of its name
    record Stood : Type 0 where
      pub place : LinkId
      pub was : Link
      pub there : slice_get old.links place.0 ≡ Some was
      pub ends : slice_get old.points was.to.0 ≡ Some name

    old_name : (stood : Stood) → point_name old.points stood.was.to ≡ name
    old_name stood = get_or_from_slice_get old.points stood.was.to.0 name [] stood.ends

    link_came : AddsLink edit name ⊎ Stood
    link_came = by (link_comes old before edit has.made id.0 made.0 (makes old edit new before after has) made.1)
      where
        made : (was : Link) × (slice_get has.made.links id.0 ≡ Some was) × (unnumbered_link was ≡ unnumbered_link link)
        made = link_back has.made new has.parts id.0 link here

        to : slice_get has.made.points made.0.to.0 ≡ slice_get new.points link.to.0
        to = ap (λ (ps : List (List ℕ)). slice_get ps made.0.to.0) (sym has.parts.points) ∙ ap (λ (l : Link). slice_get new.points l.to.0) made.2

        by : AddsLink edit (point_name has.made.points made.0.to) ⊎ LinkStood old has.made made.0.to → AddsLink edit name ⊎ Stood
        by (inl adds) = inl (subst (AddsLink edit) (get_or_from_slice_get has.made.points made.0.to.0 name [] (to ∙ named)) adds)
        by (inr stood) = inr (record { place = record { 0 = stood.place }; was = stood.was; there = stood.there; ends = sym stood.ends ∙ (to ∙ named) })

    brings_link : is_new_link old edit new link ≡ true → BringsLink old edit new link
    brings_link is = by link_came
      where
        by : AddsLink edit name ⊎ Stood → BringsLink old edit new link
        by (inl adds) = inl adds
        by (inr stood) = from (takes_link old edit new before after has stood.place stood.was stood.there (none_is (link_in old edit new stood.was) (sym (link_new_by stood.place stood.was stood.there stood.ends) ∙ is)))
          where
            from : TakesLink old edit new stood.was → BringsLink old edit new link
            from (inl drops) =
                let (again, at, parts) = link_back has.made new has.parts id.0 link here in
                let to : slice_get has.made.points again.to.0 ≡ Some (point_name old.points stood.was.to) =
                ap (λ (ps : List (List ℕ)). slice_get ps again.to.0) (sym has.parts.points) ∙ (ap (λ (l : Link). slice_get new.points l.to.0) parts ∙ (named ∙ ap (λ (n : List ℕ). Some n) (sym (old_name stood)))) in
                absurd (dropped_link_gone old before (point_name old.points stood.was.to) has.made id.0 again (subst (λ (e : Edit). Makes old e has.made) drops (makes old edit new before after has)) at to)
            from (inr (inl sets)) = inr (inl (subst (SetsLink edit) (old_name stood) sets))
            from (inr (inr (other, listed, its, apart))) =
                let (k, at) = slice_get-contained new.links other listed in
                let sound = link_sound new after (record { 0 = k }) other at in
                let other_named : slice_get new.points other.to.0 ≡ Some name = slice_get-get_or new.points other.to.0 [] sound.to_point ∙ ap (λ (n : List ℕ). Some n) (its ∙ old_name stood) in
                let points : Some other.to ≡ Some link.to = sym (at_named new after name other.to other_named) ∙ at_named new after name link.to named in
                let point : other.to ≡ link.to = cc in
                let places : Some id ≡ Some (record { 0 = k }) = sym (link_placed new after link.to id link here refl) ∙ link_placed new after link.to (record { 0 = k }) other at point in
                let one : id ≡ record { 0 = k } = cc in
                let both : Some link ≡ Some other = sym here ∙ (ap (λ (p : LinkId). slice_get new.links p.0) one ∙ at) in
                let same : link ≡ other = cc in
                inr (inr (
                  stood.was,
                  listed_at old.links stood.place.0 stood.was stood.there,
                  old_name stood,
                  λ (low, high). apart (ap (λ (l : Link). l.low) (sym same) ∙ sym low, ap (λ (l : Link). l.high) (sym same) ∙ sym high),
                ))

    link_brought : BringsLink old edit new link → is_new_link old edit new link ≡ true
    link_brought (inl (from, low, high, adds)) =
        let (added, ends, not_taken, is) = subst (λ (e : Edit). Makes old e has.made) adds (makes old edit new before after has) in
        let back : point_in new old link.to ≡ Some added.to = ap (option_and_then (point_named old)) named ∙ ends in
        ap (λ (o : Option PointId). is_none (option_and_then (λ (p : PointId). option_and_then (renumbering old edit new).links (activation old p)) o)) back
        ∙ ap (λ (o : Option LinkId). is_none (option_and_then (renumbering old edit new).links o)) not_taken
    link_brought (inr (inl sets)) = by link_came
      where
        by : AddsLink edit name ⊎ Stood → is_new_link old edit new link ≡ true
        by (inl (from, low, high, adds)) = let (least, most, is) = sets in let both : edits.AddLink from low high name ≡ edits.SetLink name least most = sym adds ∙ is in absurd cc
        by (inr stood) =
            link_new_by stood.place stood.was stood.there stood.ends
            ∙ ap is_none (link_taken old edit new before after has stood.place stood.was stood.there (inr (inl (subst (SetsLink edit) (sym (old_name stood)) sets))))
    link_brought (inr (inr (other, listed, its, apart))) =
        let (k, at) = slice_get-contained old.links other listed in
        let sound = link_sound old before (record { 0 = k }) other at in
        let ends : slice_get old.points other.to.0 ≡ Some name = slice_get-get_or old.points other.to.0 [] sound.to_point ∙ ap (λ (n : List ℕ). Some n) its in
        link_new_by (record { 0 = k }) other at ends
        ∙ ap is_none (link_taken old edit new before after has (record { 0 = k }) other at
        (inr (inr (link, listed_at new.links id.0 link here, sym its, λ (low, high). apart (sym low, sym high)))))

pub law_edits_bring_bounds : EditsBringBounds
law_edits_bring_bounds old edit new id bound before after has here = (brings old edit new before after has id bound here, brought old edit new before after has id bound here)

pub law_edits_bring_links : EditsBringLinks
law_edits_bring_links old edit new id link before after has here = (brings_link old edit new before after has id link here, link_brought old edit new before after has id link here)
