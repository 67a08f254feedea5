-- The bounds and links that have no number in the new network are those that the edit takes away.
use Rattle.std.proofs.Common.{◌≡◌, ◌≢◌, ◌↔◌, ◌&&◌, ◌⊎◌, inl, inr, ℕ, ℤ, Bool, true, false, List, [], map, get_or, Option, Some, None, Ok, refl, ap, sym, ◌∙◌, subst}
use Rattle.std.specs.Prelude.{slice_get, if◌then◌else◌}
use Rattle.std.specs.Option.{option_map, option_and_then}
use Rattle.std.specs.Ordering.{int_eq}
use Rattle.std.proofs.lemmas.Bool.{eq-eqb}
use Rattle.std.proofs.lemmas.Bool.Decides.{Decides-int_eq}
use Rattle.std.proofs.lemmas.Option.{slice_get-map, slice_get-get_or, get_or_from_slice_get}
use Rattle.net_model.specs.EditedNetwork.{edited}
use Rattle.net_model.specs.Network.{Plan, IsPlan, IsPoint, point_named, bound_named, activation}
use Rattle.net_model.specs.declared.edit.Edit.TheVariants as edits
use Rattle.net_model.specs.declared.edit.Edit.{Edit}
use Rattle.net_model.specs.declared.ids.BoundId.{BoundId}
use Rattle.net_model.specs.declared.ids.LinkId.{LinkId}
use Rattle.net_model.specs.declared.ids.PointId.{PointId}
use Rattle.net_model.specs.declared.part.Bound.{Bound}
use Rattle.net_model.specs.declared.part.Link.{Link}
use Rattle.net_model.proofs.AcceptedEdits.{Makes, accepted_makes}
use Rattle.closure_model.proofs.Nodes.{listed_at}
use Rattle.closure_model.proofs.BaseLemmas.{slice_get-contained}
use Rattle.closure_model.proofs.Slots.{some_of_map}
use Rattle.net_model.specs.NetworkParts.{point_name}
use Rattle.net_model.proofs.RuleLemmas.{two_steps}
use Rattle.edit_laws.specs.EditNumbers.{sets_bound, sets_link, point_in, is_point, is_same_bound, is_same_link, same_place, bound_in, same_link_place, link_in, renumbering}
use Rattle.edit_laws.specs.EditEffects.{unnumbered, unnumbered_link, HasPartsOf, HasEditedParts, DropsBound, SetsBound, DropsLink, SetsLink, DiffersIn, LinkDiffersIn, TakesBound, TakesLink, EditsTakeBounds, EditsTakeLinks}
use Rattle.edit_laws.proofs.ByNames.{SameBound, bound_in_gives, bound_found, bound_placed, SameLink, link_in_gives, link_found, link_placed, at_named, named_at, same_bytes, bytes_itself}
use Rattle.edit_laws.proofs.EditedParts.{dropped_bound_gone, dropped_link_gone}
use Rattle.edit_laws.proofs.LastingParts.{IsNamesake, BoundStands, LinkStands, bound_stays, link_stays, bound_sound, link_sound}

-- ---- networks of the same parts
-- an item of a list, in a list of the same images
imaged : {X Y : Type 0} (f : X → Y) (xs ys : List X) → map f ys ≡ map f xs → (k : ℕ) (x : X) → slice_get xs k ≡ Some x → (y : X) × (slice_get ys k ≡ Some y) × (f y ≡ f x)
imaged f xs ys same k x here = some_of_map f (slice_get ys k) (f x) (sym (slice_get-map f ys k) ∙ (ap (λ zs. slice_get zs k) same ∙ (slice_get-map f xs k ∙ ap (option_map f) here)))

module _ (net new : Plan) (parts : HasPartsOf net new) where
  pub bound_there : (k : ℕ) (bound : Bound) → slice_get net.bounds k ≡ Some bound → (other : Bound) × (slice_get new.bounds k ≡ Some other) × (unnumbered other ≡ unnumbered bound)
  bound_there k bound here = imaged unnumbered net.bounds new.bounds parts.bounds k bound here

  pub bound_back : (k : ℕ) (bound : Bound) → slice_get new.bounds k ≡ Some bound → (other : Bound) × (slice_get net.bounds k ≡ Some other) × (unnumbered other ≡ unnumbered bound)
  bound_back k bound here = imaged unnumbered new.bounds net.bounds (sym parts.bounds) k bound here

  pub link_there : (k : ℕ) (link : Link) → slice_get net.links k ≡ Some link → (other : Link) × (slice_get new.links k ≡ Some other) × (unnumbered_link other ≡ unnumbered_link link)
  link_there k link here = imaged unnumbered_link net.links new.links parts.links k link here

  pub link_back : (k : ℕ) (link : Link) → slice_get new.links k ≡ Some link → (other : Link) × (slice_get net.links k ≡ Some other) × (unnumbered_link other ≡ unnumbered_link link)
  link_back k link here = imaged unnumbered_link new.links net.links (sym parts.links) k link here

  namesake : (old : Plan) (point other again : PointId) → again ≡ other → IsNamesake old net point other → IsNamesake old new point again
  namesake old point other again same is = ap (λ (ps : List (List ℕ)). slice_get ps again.0) parts.points ∙ (ap (λ (p : PointId). slice_get net.points p.0) same ∙ is)

  bound_stands : (old : Plan) (bound : Bound) → BoundStands old net bound → BoundStands old new bound
  bound_stands old bound stands =
      let (other, there, same) = bound_there stands.place stands.other stands.there in
      record {
        place = stands.place;
        other = other;
        there = there;
        name = ap (λ (b : Bound). b.name) same ∙ stands.name;
        from = namesake old bound.from stands.other.from other.from (ap (λ (b : Bound). b.from) same) stands.from;
        to = namesake old bound.to stands.other.to other.to (ap (λ (b : Bound). b.to) same) stands.to;
      }

  link_stands : (old : Plan) (link : Link) → LinkStands old net link → LinkStands old new link
  link_stands old link stands =
      let (other, there, same) = link_there stands.place stands.other stands.there in
      record {
        place = stands.place;
        other = other;
        there = there;
        from = namesake old link.from stands.other.from other.from (ap (λ (l : Link). l.from) same) stands.from;
        to = namesake old link.to stands.other.to other.to (ap (λ (l : Link). l.to) same) stands.to;
      }

-- a point of a network is found under its name in another
pub namesake_found : (old new : Plan) (point other : PointId) → IsPlan new → IsPoint old point → IsNamesake old new point other → point_in old new point ≡ Some other
namesake_found old new point other after inside is =
    let name : List ℕ = get_or old.points point.0 [] in
    let here : slice_get old.points point.0 ≡ Some name = slice_get-get_or old.points point.0 [] inside in
    ap (option_and_then (point_named new)) here ∙ at_named new after name other (is ∙ here)

-- ---- what is set
sets_is : (edit : Edit) (name : List ℕ) → sets_bound edit name ≡ true → SetsBound edit name
sets_is (edits.SetBound other most) name is = (most, ap (λ (n : List ℕ). edits.SetBound n most) (same_bytes other name is))
sets_is (edits.AddPoint other) name is = absurd cc
sets_is (edits.DropPoint other) name is = absurd cc
sets_is (edits.AddBound other from to most) name is = absurd cc
sets_is (edits.DropBound other) name is = absurd cc
sets_is (edits.AddLink from low high to) name is = absurd cc
sets_is (edits.DropLink to) name is = absurd cc
sets_is (edits.SetLink to low high) name is = absurd cc

sets_so : (edit : Edit) (name : List ℕ) → SetsBound edit name → sets_bound edit name ≡ true
sets_so edit name (most, is) = ap (λ (e : Edit). sets_bound e name) is ∙ bytes_itself name name refl

sets_link_is : (edit : Edit) (name : List ℕ) → sets_link edit name ≡ true → SetsLink edit name
sets_link_is (edits.SetLink other low high) name is = (low, high, ap (λ (n : List ℕ). edits.SetLink n low high) (same_bytes other name is))
sets_link_is (edits.AddPoint other) name is = absurd cc
sets_link_is (edits.DropPoint other) name is = absurd cc
sets_link_is (edits.AddBound other from to most) name is = absurd cc
sets_link_is (edits.DropBound other) name is = absurd cc
sets_link_is (edits.SetBound other most) name is = absurd cc
sets_link_is (edits.AddLink from low high to) name is = absurd cc
sets_link_is (edits.DropLink to) name is = absurd cc

sets_link_so : (edit : Edit) (name : List ℕ) → SetsLink edit name → sets_link edit name ≡ true
sets_link_so edit name (low, high, is) = ap (λ (e : Edit). sets_link e name) is ∙ bytes_itself name name refl

-- ---- tests
is_this : (o : Option PointId) (point : PointId) → o ≡ Some point → is_point o point ≡ true
is_this None point is = absurd cc
is_this (Some p) point is = let same : p ≡ point = cc in eq-eqb p.0 point.0 (ap (λ (q : PointId). q.0) same)

none_if : {A : Type 0} (b : Bool) (x : A) → (if b then Some x else None) ≡ None → b ≡ false
none_if true x is = absurd cc
none_if false x is = refl

third : (a b c : Bool) → a ≡ true → b ≡ true → (a && (b && c)) ≡ false → c ≡ false
third true true c one two is = is
third true false c one two is = absurd cc
third false b c one two is = absurd cc

later : (a b : Bool) → a ≡ true → (a && b) ≡ false → b ≡ false
later true b one is = is
later false b one is = absurd cc

differ : (m n : ℤ) → int_eq m n ≡ false → n ≢ m
differ m n apart same = let both : true ≡ false = sym ((Decides-int_eq m n).1 (sym same)) ∙ apart in absurd cc

intervals_differ : (low high low' high' : ℤ) → (int_eq low low' && int_eq high high') ≡ false → ¬ ((low' ≡ low) × (high' ≡ high))
intervals_differ low high low' high' apart (low_is, high_is) = by (int_eq low low') (int_eq high high') ((Decides-int_eq low low').1 (sym low_is)) ((Decides-int_eq high high').1 (sym high_is)) apart
  where
    by : (a b : Bool) → a ≡ true → b ≡ true → (a && b) ≡ false → ⊥
    by true true one two both = absurd cc
    by true false one two both = absurd cc
    by false b one two both = absurd cc

module _ (old : Plan) (edit : Edit) (new : Plan) (before : IsPlan old) (after : IsPlan new) (has : HasEditedParts old edit new) where
  pub makes : Makes old edit has.made
  makes = accepted_makes old edit has.made has.accepted

  -- ---- bounds
  module _ (id : BoundId) (bound : Bound) (here : slice_get old.bounds id.0 ≡ Some bound) where
    unless_set : sets_bound edit bound.name ≡ false → bound_in old edit new bound ≡ option_and_then (same_place old new bound) (bound_named new bound.name)
    unless_set is = ap (λ (b : Bool). if b then None else option_and_then (same_place old new bound) (bound_named new bound.name)) is

    -- a bound that stands and is not set has its number, or it differs
    numbers_differ : BoundStands old new bound → sets_bound edit bound.name ≡ false → bound_in old edit new bound ≡ None → DiffersIn new bound
    numbers_differ stands unset none =
        let sound = bound_sound old before id bound here in
        let place : BoundId = record { 0 = stands.place } in
        let named : bound_named new bound.name ≡ Some place = bound_placed new after bound.name place stands.other stands.there stands.name in
        let from = namesake_found old new bound.from stands.other.from after sound.from_point stands.from in
        let to = namesake_found old new bound.to stands.other.to after sound.to_point stands.to in
        let found : option_and_then (same_place old new bound) (bound_named new bound.name) ≡ same_place old new bound place = ap (option_and_then (same_place old new bound)) named in
        let at : same_place old new bound place ≡ (if is_same_bound old new bound stands.other then Some place else None) =
        ap (option_and_then (λ (b : Bound). if is_same_bound old new bound b then Some place else None)) stands.there in
        let test : is_same_bound old new bound stands.other ≡ false = none_if (is_same_bound old new bound stands.other) place (sym (unless_set unset ∙ (found ∙ at)) ∙ none) in
        let apart : int_eq bound.most stands.other.most ≡ false =
        third (is_point (point_in old new bound.from) stands.other.from) (is_point (point_in old new bound.to) stands.other.to) (int_eq bound.most stands.other.most)
        (is_this (point_in old new bound.from) stands.other.from from) (is_this (point_in old new bound.to) stands.other.to to) test in
        (stands.other, listed_at new.bounds stands.place stands.other stands.there, stands.name, differ bound.most stands.other.most apart)

    pub takes_bound : bound_in old edit new bound ≡ None → TakesBound edit new bound
    takes_bound none = by (bound_stays old before id bound here edit has.made makes)
      where
        unless_dropped : BoundStands old new bound → (b : Bool) → sets_bound edit bound.name ≡ b → TakesBound edit new bound
        unless_dropped stands true is = inr (inl (sets_is edit bound.name is))
        unless_dropped stands false is = inr (inr (numbers_differ stands is none))

        by : DropsBound edit bound.name ⊎ BoundStands old has.made bound → TakesBound edit new bound
        by (inl drops) = inl drops
        by (inr stands) = unless_dropped (bound_stands has.made new has.parts old bound stands) (sets_bound edit bound.name) refl

    pub bound_taken : TakesBound edit new bound → bound_in old edit new bound ≡ None
    bound_taken takes = by (bound_in old edit new bound) refl
      where
        never : (place : BoundId) → SameBound old edit new bound place → bound_in old edit new bound ≡ Some place → TakesBound edit new bound → ⊥
        never place same held (inl drops) =
            let (found, at, name) = bound_found new after bound.name place same.named in
            let (was, there, parts) = bound_back has.made new has.parts place.0 found at in
            dropped_bound_gone old before bound.name has.made place.0 was (subst (λ (e : Edit). Makes old e has.made) drops makes) there (ap (λ (b : Bound). b.name) parts ∙ name)
        never place same held (inr (inl sets)) =
            let none : bound_in old edit new bound ≡ None =
            ap (λ (b : Bool). if b then None else option_and_then (same_place old new bound) (bound_named new bound.name)) (sets_so edit bound.name sets) in
            let both : Some place ≡ None = sym held ∙ none in absurd cc
        never place same held (inr (inr (other, listed, name, apart))) =
            let (k, at) = slice_get-contained new.bounds other listed in
            let places : Some place ≡ Some (record { 0 = k }) = sym same.named ∙ bound_placed new after bound.name (record { 0 = k }) other at name in
            let one : place ≡ record { 0 = k } = cc in
            let bounds : Some same.other ≡ Some other = sym same.there ∙ (ap (λ (p : BoundId). slice_get new.bounds p.0) one ∙ at) in
            let is_other : same.other ≡ other = cc in
            apart (sym (same.most ∙ ap (λ (b : Bound). b.most) is_other))

        by : (o : Option BoundId) → bound_in old edit new bound ≡ o → bound_in old edit new bound ≡ None
        by None none = none
        by (Some place) held = absurd (never place (bound_in_gives old edit new bound place held) held takes)

    bound_both : ((renumbering old edit new).bounds id ≡ None) ↔ TakesBound edit new bound
    bound_both =
        let moved : (renumbering old edit new).bounds id ≡ bound_in old edit new bound = ap (option_and_then (bound_in old edit new)) here in
        (λ none. takes_bound (sym moved ∙ none), λ takes. moved ∙ bound_taken takes)

  -- ---- links
  module _ (id : LinkId) (link : Link) (here : slice_get old.links id.0 ≡ Some link) where
    link_unless_set : sets_link edit (point_name old.points link.to) ≡ false → link_in old edit new link ≡ option_and_then (λ (p : PointId). option_and_then (same_link_place old new link) (activation new p)) (point_in old new link.to)
    link_unless_set is = ap (λ (b : Bool). if b then None else option_and_then (λ (p : PointId). option_and_then (same_link_place old new link) (activation new p)) (point_in old new link.to)) is

    -- the point in which it ends has its name
    link_name : slice_get old.points link.to.0 ≡ Some (point_name old.points link.to)
    link_name = let sound = link_sound old before id link here in slice_get-get_or old.points link.to.0 [] sound.to_point

    intervals_differ_in : LinkStands old new link → sets_link edit (point_name old.points link.to) ≡ false → link_in old edit new link ≡ None → LinkDiffersIn old new link
    intervals_differ_in stands unset none =
        let sound = link_sound old before id link here in
        let place : LinkId = record { 0 = stands.place } in
        let from = namesake_found old new link.from stands.other.from after sound.from_point stands.from in
        let to = namesake_found old new link.to stands.other.to after sound.to_point stands.to in
        let ends : activation new stands.other.to ≡ Some place = link_placed new after stands.other.to place stands.other stands.there refl in
        let found : option_and_then (λ (p : PointId). option_and_then (same_link_place old new link) (activation new p)) (point_in old new link.to) ≡ option_and_then (same_link_place old new link) (activation new stands.other.to) =
        ap (option_and_then (λ (p : PointId). option_and_then (same_link_place old new link) (activation new p))) to in
        let there : option_and_then (same_link_place old new link) (activation new stands.other.to) ≡ same_link_place old new link place = ap (option_and_then (same_link_place old new link)) ends in
        let at : same_link_place old new link place ≡ (if is_same_link old new link stands.other then Some place else None) =
        ap (option_and_then (λ (l : Link). if is_same_link old new link l then Some place else None)) stands.there in
        let test : is_same_link old new link stands.other ≡ false = none_if (is_same_link old new link stands.other) place (sym (link_unless_set unset ∙ (found ∙ (there ∙ at))) ∙ none) in
        let apart : (int_eq link.low stands.other.low && int_eq link.high stands.other.high) ≡ false =
        later (is_point (point_in old new link.from) stands.other.from) (int_eq link.low stands.other.low && int_eq link.high stands.other.high) (is_this (point_in old new link.from) stands.other.from from) test in
        let name : point_name new.points stands.other.to ≡ point_name old.points link.to = get_or_from_slice_get new.points stands.other.to.0 (point_name old.points link.to) [] (stands.to ∙ link_name) in
        (stands.other, listed_at new.links stands.place stands.other stands.there, name, intervals_differ link.low link.high stands.other.low stands.other.high apart)

    pub takes_link : link_in old edit new link ≡ None → TakesLink old edit new link
    takes_link none = by (link_stays old before id link here edit has.made makes)
      where
        unless_dropped : LinkStands old new link → (b : Bool) → sets_link edit (point_name old.points link.to) ≡ b → TakesLink old edit new link
        unless_dropped stands true is = inr (inl (sets_link_is edit (point_name old.points link.to) is))
        unless_dropped stands false is = inr (inr (intervals_differ_in stands is none))

        by : DropsLink edit (point_name old.points link.to) ⊎ LinkStands old has.made link → TakesLink old edit new link
        by (inl drops) = inl drops
        by (inr stands) = unless_dropped (link_stands has.made new has.parts old link stands) (sets_link edit (point_name old.points link.to)) refl

    -- the point of its name in the new network has that name
    same_name : (place : LinkId) (same : SameLink old edit new link place) → slice_get new.points same.point.0 ≡ Some (point_name old.points link.to)
    same_name place same =
        let (name, at, named) = two_steps (point_named new) (slice_get old.points link.to.0) same.point same.to in
        let names : Some name ≡ Some (point_name old.points link.to) = sym at ∙ link_name in
        named_at new after name same.point named ∙ names

    pub link_taken : TakesLink old edit new link → link_in old edit new link ≡ None
    link_taken takes = by (link_in old edit new link) refl
      where
        never : (place : LinkId) → SameLink old edit new link place → link_in old edit new link ≡ Some place → TakesLink old edit new link → ⊥
        never place same held (inl drops) =
            let (found, at, ends) = link_found new after same.point place same.ends in
            let (was, there, parts) = link_back has.made new has.parts place.0 found at in
            let points : slice_get has.made.points was.to.0 ≡ slice_get new.points same.point.0 =
            ap (λ (ps : List (List ℕ)). slice_get ps was.to.0) (sym has.parts.points) ∙ ap (λ (p : PointId). slice_get new.points p.0) (ap (λ (l : Link). l.to) parts ∙ ends) in
            dropped_link_gone old before (point_name old.points link.to) has.made place.0 was (subst (λ (e : Edit). Makes old e has.made) drops makes) there (points ∙ same_name place same)
        never place same held (inr (inl sets)) =
            let none : link_in old edit new link ≡ None =
            ap (λ (b : Bool). if b then None else option_and_then (λ (p : PointId). option_and_then (same_link_place old new link) (activation new p)) (point_in old new link.to)) (sets_link_so edit (point_name old.points link.to) sets) in
            let both : Some place ≡ None = sym held ∙ none in absurd cc
        never place same held (inr (inr (other, listed, name, apart))) =
            let (k, at) = slice_get-contained new.links other listed in
            let sound = link_sound new after (record { 0 = k }) other at in
            let named : slice_get new.points other.to.0 ≡ Some (point_name old.points link.to) = slice_get-get_or new.points other.to.0 [] sound.to_point ∙ ap (λ (n : List ℕ). Some n) name in
            let points : Some other.to ≡ Some same.point = sym (at_named new after (point_name old.points link.to) other.to named) ∙ at_named new after (point_name old.points link.to) same.point (same_name place same) in
            let point : other.to ≡ same.point = cc in
            let places : Some place ≡ Some (record { 0 = k }) = sym same.ends ∙ link_placed new after same.point (record { 0 = k }) other at point in
            let one : place ≡ record { 0 = k } = cc in
            let links : Some same.other ≡ Some other = sym same.there ∙ (ap (λ (p : LinkId). slice_get new.links p.0) one ∙ at) in
            let is_other : same.other ≡ other = cc in
            apart (sym (same.low ∙ ap (λ (l : Link). l.low) is_other), sym (same.high ∙ ap (λ (l : Link). l.high) is_other))

        by : (o : Option LinkId) → link_in old edit new link ≡ o → link_in old edit new link ≡ None
        by None none = none
        by (Some place) held = absurd (never place (link_in_gives old edit new link place held) held takes)

    link_both : ((renumbering old edit new).links id ≡ None) ↔ TakesLink old edit new link
    link_both =
        let moved : (renumbering old edit new).links id ≡ link_in old edit new link = ap (option_and_then (link_in old edit new)) here in
        (λ none. takes_link (sym moved ∙ none), λ takes. moved ∙ link_taken takes)

pub law_edits_take_bounds : EditsTakeBounds
law_edits_take_bounds old edit new id bound before after has here = bound_both old edit new before after has id bound here

pub law_edits_take_links : EditsTakeLinks
law_edits_take_links old edit new id link before after has here = link_both old edit new before after has id link here

-- what an edit makes has its own parts
pub made_has_parts : (old : Plan) (edit : Edit) (new : Plan) → edited old edit ≡ Ok new → HasEditedParts old edit new
made_has_parts old edit new is = record { made = new; accepted = is; parts = record { points = refl; bounds = refl; links = refl } }
