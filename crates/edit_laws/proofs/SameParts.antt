-- An edit depends on the parts of a network alone, and not on its numbers: of networks of the same parts it makes networks of the same
-- parts, or fails on both. So it stands to shown forms as it does to the networks.
use Rattle.std.proofs.Common.{◌≡◌, ◌==◌, ◌||◌, ℕ, ℤ, Bool, true, false, List, [], ◌∷◌, ◌++◌, length, map, Option, Some, None, Result, Ok, Err, refl, ap, sym, ◌∙◌}
use Rattle.std.specs.Prelude.{slice_get, is_some, not, int_lt, nat_le, pos}
use Rattle.std.specs.List.{remove, slice_set}
use Rattle.std.specs.Option.{option_map, option_and_then}
use Rattle.std.specs.Str.{bytes_eq}
use Rattle.std.proofs.lemmas.List.{length-map, map-append}
use Rattle.std.proofs.lemmas.Option.{slice_get-map}
use Rattle.net_model.specs.BuiltNetwork.{◌>>=◌, refuse_if, named, with_point, with_bound, with_link}
use Rattle.net_model.specs.EditedNetwork.{added, known, bound_user, link_user, user_by, user_of, unused, closed_up, without_point, edited}
use Rattle.net_model.specs.Limits.{most_points, most_bounds, most_links, within_limit}
use Rattle.net_model.specs.Network.{Plan, point_named, bound_named, activation, link_named}
use Rattle.net_model.specs.ShownForm.{shown_bound, shown_link, shown_form}
use Rattle.net_model.specs.declared.edit.Edit.{Edit}
use Rattle.net_model.specs.declared.edit.Edit.TheVariants as edits
use Rattle.net_model.specs.declared.edit.EditFault.{EditFault}
use Rattle.net_model.specs.declared.edit.EditFault.TheVariants as fault
use Rattle.net_model.specs.declared.edit.User.{User}
use Rattle.net_model.specs.declared.ids.BoundId.{BoundId}
use Rattle.net_model.specs.declared.ids.LinkId.{LinkId}
use Rattle.net_model.specs.declared.ids.PointId.{PointId}
use Rattle.net_model.specs.declared.part.Bound.{Bound}
use Rattle.net_model.specs.declared.part.Link.{Link}
use Rattle.net_model.specs.declared.part.Which.TheVariants.{Number}
use Rattle.net_model.proofs.EditLemmas.{map-remove}
use Rattle.net_model.proofs.Positions.{position-map}
use Rattle.closure_model.proofs.Slots.{map_set_kept, map_map_kept}
use Rattle.edit_laws.specs.EditEffects.{unnumbered, unnumbered_link, HasPartsOf, ShownFormsFollowEdits}

abbrev of_parts : List (List ℕ) → List Bound → List Link → Plan
of_parts points bounds links = record { points = points; bounds = bounds; links = links; delay = 0 }

-- a network without its numbers
abbrev bare : Plan → Plan
bare net = of_parts net.points (map unnumbered net.bounds) (map unnumbered_link net.links)

-- the same of what an edit makes
abbrev bared : {F : Type 0} → Result Plan F → Result Plan F
bared (Ok net) = Ok (bare net)
bared (Err cause) = Err cause

-- ---- lists
module _ {X : Type 0} (f : X → X) (once : (x : X) → f (f x) ≡ f x) where
  twice : (xs : List X) → map f (map f xs) ≡ map f xs
  twice xs = map_map_kept f f once xs

  pushed : (xs : List X) (x : X) → map f (map f xs ++ x ∷ []) ≡ map f (xs ++ x ∷ [])
  pushed xs x = map-append f (map f xs) (x ∷ []) ∙ (ap (λ ys. ys ++ f x ∷ []) (twice xs) ∙ sym (map-append f xs (x ∷ [])))

  removed : (xs : List X) (k : ℕ) → map f (remove (map f xs) k) ≡ map f (remove xs k)
  removed xs k = map-remove f (map f xs) k ∙ (ap (λ ys. remove ys k) (twice xs) ∙ sym (map-remove f xs k))

  replaced : (xs : List X) (k : ℕ) (old new other : X) → slice_get xs k ≡ Some old → f new ≡ f old → f other ≡ f old → map f (slice_set (map f xs) k other) ≡ map f (slice_set xs k new)
  replaced xs k old new other here same also =
      let there : slice_get (map f xs) k ≡ Some (f old) = slice_get-map f xs k ∙ ap (option_map f) here in
      map_set_kept f (map f xs) k (f old) other there (also ∙ sym (once old)) ∙ (twice xs ∙ sym (map_set_kept f xs k old new here same))

  moved : (g : X → X) → ((x : X) → f (g (f x)) ≡ f (g x)) → (xs : List X) → map f (map g (map f xs)) ≡ map f (map g xs)
  moved g same [] = refl
  moved g same (x ∷ xs) = let here = same x in let rest = moved g same xs in λ i. here i ∷ rest i

-- ---- steps of which each keeps that two answers are the same without numbers
refused_both : {F : Type 0} (b c : Bool) (cause : F) (one other : Result Plan F) → b ≡ c → bared one ≡ bared other → bared (refuse_if b cause one) ≡ bared (refuse_if c cause other)
refused_both {F} b c cause one other test same = ap (λ (a : Bool). bared (refuse_if a cause one)) test ∙ by c
  where
    by : (a : Bool) → bared (refuse_if a cause one) ≡ bared (refuse_if a cause other)
    by true = refl
    by false = same

bound_both : {A : Type 0} (r : Result A _) (one other : A → Result Plan _) → ((x : A) → bared (one x) ≡ bared (other x)) → bared (r >>= one) ≡ bared (r >>= other)
bound_both (Ok x) one other same = same x
bound_both (Err cause) one other same = refl

known_both : {A : Type 0} (o p : Option A) (one other : A → Result Plan EditFault) → o ≡ p → ((x : A) → bared (one x) ≡ bared (other x)) → bared (known o one) ≡ bared (known p other)
known_both o p one other found same = ap (λ q. bared (known q one)) found ∙ by p
  where
    by : (q : Option _) → bared (known q one) ≡ bared (known q other)
    by None = refl
    by (Some x) = same x

known_mapped : {A : Type 0} (f : A → A) (o p : Option A) (one other : A → Result Plan EditFault) → o ≡ option_map f p → ((x : A) → p ≡ Some x → bared (one (f x)) ≡ bared (other x)) → bared (known o one) ≡ bared (known p other)
known_mapped f o None one other found same = ap (λ q. bared (known q one)) found
known_mapped f o (Some x) one other found same = ap (λ q. bared (known q one)) found ∙ same x refl

unused_both : (o p : Option User) (one other : Result Plan EditFault) → o ≡ p → bared one ≡ bared other → bared (unused o one) ≡ bared (unused p other)
unused_both o p one other found same = ap (λ q. bared (unused q one)) found ∙ by p
  where
    by : (q : Option User) → bared (unused q one) ≡ bared (unused q other)
    by None = same
    by (Some user) = refl

added_bare : (r : Result Plan _) → bared (added r) ≡ added (bared r)
added_bare (Ok net) = refl
added_bare (Err cause) = refl

added_both : (one other : Result Plan _) → bared one ≡ bared other → bared (added one) ≡ bared (added other)
added_both one other same = added_bare one ∙ (ap added same ∙ sym (added_bare other))

-- ---- what is found in a network without its numbers
module _ (net : Plan) where
  bound_found : (name : List ℕ) → bound_named (bare net) name ≡ bound_named net name
  bound_found name = ap (option_map (λ k. let id : BoundId = record { 0 = k } in id)) (position-map (λ (b : Bound). bytes_eq name b.name) unnumbered net.bounds)

  activated : (point : PointId) → activation (bare net) point ≡ activation net point
  activated point = ap (option_map (λ k. let id : LinkId = record { 0 = k } in id)) (position-map (λ (l : Link). l.to.0 == point.0) unnumbered_link net.links)

  link_found : (name : List ℕ) → link_named (bare net) name ≡ link_named net name
  link_found name = by (point_named net name)
    where
      by : (o : Option PointId) → option_and_then (activation (bare net)) o ≡ option_and_then (activation net) o
      by None = refl
      by (Some point) = activated point

  used : (point : PointId) → user_of (bare net) point ≡ user_of net point
  used point =
      let bounds : bound_user (bare net) point ≡ bound_user net point =
      ap (option_map (λ k. let id : BoundId = record { 0 = k } in id)) (position-map (λ (b : Bound). b.from.0 == point.0 || b.to.0 == point.0) unnumbered net.bounds) in
      let links : link_user (bare net) point ≡ link_user net point =
      ap (option_map (λ k. let id : LinkId = record { 0 = k } in id)) (position-map (λ (l : Link). l.from.0 == point.0 || l.to.0 == point.0) unnumbered_link net.links) in
      λ i. user_by (bounds i) (links i)

  few_bounds : nat_le most_bounds (length (bare net).bounds) ≡ nat_le most_bounds (length net.bounds)
  few_bounds = ap (nat_le most_bounds) (length-map net.bounds unnumbered)

  few_links : nat_le most_links (length (bare net).links) ≡ nat_le most_links (length net.links)
  few_links = ap (nat_le most_links) (length-map net.links unnumbered_link)

  same_bounds : map unnumbered (map unnumbered net.bounds) ≡ map unnumbered net.bounds
  same_bounds = twice unnumbered (λ _. refl) net.bounds

  same_links : map unnumbered_link (map unnumbered_link net.links) ≡ map unnumbered_link net.links
  same_links = twice unnumbered_link (λ _. refl) net.links

  -- ---- additions
  point_added : (name : List ℕ) → bared (with_point (bare net) name) ≡ bared (with_point net name)
  unfolding with_point
  point_added name =
      let points = net.points ++ name ∷ [] in
      refused_both (is_some (point_named net name)) (is_some (point_named net name)) _ _ _ refl
      (refused_both (nat_le most_points (length net.points)) (nat_le most_points (length net.points)) _ _ _ refl
      (λ i. Ok (of_parts points (same_bounds i) (same_links i))))

  bound_added : (name from to : List ℕ) (most : ℤ) → bared (with_bound (bare net) name from to most) ≡ bared (with_bound net name from to most)
  unfolding with_bound
  bound_added name from to most =
      refused_both (is_some (bound_named (bare net) name)) (is_some (bound_named net name)) _ _ _ (ap is_some (bound_found name))
      (bound_both (named net from) _ _
      (λ x. bound_both (named net to) _ _
      (λ y. let new : Bound = record { name = name; from = x; to = y; most = most } in
      let bounds = pushed unnumbered (λ _. refl) net.bounds new in
      refused_both (not (within_limit most)) (not (within_limit most)) _ _ _ refl
      (refused_both (nat_le most_bounds (length (bare net).bounds)) (nat_le most_bounds (length net.bounds)) _ _ _ few_bounds
      (λ i. Ok (of_parts net.points (bounds i) (same_links i)))))))

  link_added : (from : List ℕ) (low high : ℤ) (to : List ℕ) → bared (with_link (bare net) from low high to) ≡ bared (with_link net from low high to)
  unfolding with_link
  link_added from low high to =
      bound_both (named net from) _ _
      (λ a. bound_both (named net to) _ _
      (λ c. let new : Link = record { from = a; low = low; high = high; to = c } in
      let links = pushed unnumbered_link (λ _. refl) net.links new in
      refused_both (a.0 == c.0) (a.0 == c.0) _ _ _ refl
      (refused_both (is_some (activation (bare net) c)) (is_some (activation net c)) _ _ _ (ap is_some (activated c))
      (refused_both (int_lt low (pos 1) || int_lt high low) (int_lt low (pos 1) || int_lt high low) _ _ _ refl
      (refused_both (not (within_limit high)) (not (within_limit high)) _ _ _ refl
      (refused_both (nat_le most_links (length (bare net).links)) (nat_le most_links (length net.links)) _ _ _ few_links
      (λ i. Ok (of_parts net.points (same_bounds i) (links i)))))))))

  -- ---- edits
  edited_bare : (edit : Edit) → bared (edited (bare net) edit) ≡ bared (edited net edit)
  edited_bare (edits.AddPoint name) = added_both (with_point (bare net) name) (with_point net name) (point_added name)
  edited_bare (edits.AddBound name from to most) = added_both (with_bound (bare net) name from to most) (with_bound net name from to most) (bound_added name from to most)
  edited_bare (edits.AddLink from low high to) = added_both (with_link (bare net) from low high to) (with_link net from low high to) (link_added from low high to)
  edited_bare (edits.DropPoint name) =
      known_both (point_named net name) (point_named net name) _ _ refl
      (λ point. let bounds = moved unnumbered (λ _. refl) (λ (b : Bound). record b { from = closed_up point b.from; to = closed_up point b.to }) (λ _. refl) net.bounds in
      let links = moved unnumbered_link (λ _. refl) (λ (l : Link). record l { from = closed_up point l.from; to = closed_up point l.to }) (λ _. refl) net.links in
      unused_both (user_of (bare net) point) (user_of net point) (Ok (without_point (bare net) point)) (Ok (without_point net point)) (used point)
      (λ i. Ok (of_parts (remove net.points point.0) (bounds i) (links i))))
  edited_bare (edits.DropBound name) =
      known_both (bound_named (bare net) name) (bound_named net name) _ _ (bound_found name)
      (λ id. let bounds = removed unnumbered (λ _. refl) net.bounds id.0 in λ i. Ok (of_parts net.points (bounds i) (same_links i)))
  edited_bare (edits.SetBound name most) =
      known_both (bound_named (bare net) name) (bound_named net name) _ _ (bound_found name)
      (λ id. known_mapped unnumbered (slice_get (bare net).bounds id.0) (slice_get net.bounds id.0) _ _ (slice_get-map unnumbered net.bounds id.0)
      (λ bound here. let bounds = replaced unnumbered (λ _. refl) net.bounds id.0 bound (record bound { most = most }) (record (unnumbered bound) { most = most }) here refl refl in
      refused_both (not (within_limit most)) (not (within_limit most)) (fault.Limit Number) _ _ refl
      (λ i. Ok (of_parts net.points (bounds i) (same_links i)))))
  edited_bare (edits.DropLink to) =
      known_both (link_named (bare net) to) (link_named net to) _ _ (link_found to)
      (λ id. let links = removed unnumbered_link (λ _. refl) net.links id.0 in λ i. Ok (of_parts net.points (same_bounds i) (links i)))
  edited_bare (edits.SetLink to low high) =
      known_both (link_named (bare net) to) (link_named net to) _ _ (link_found to)
      (λ id. known_mapped unnumbered_link (slice_get (bare net).links id.0) (slice_get net.links id.0) _ _ (slice_get-map unnumbered_link net.links id.0)
      (λ link here. let links = replaced unnumbered_link (λ _. refl) net.links id.0 link (record link { low = low; high = high }) (record (unnumbered_link link) { low = low; high = high }) here refl refl in
      refused_both (int_lt low (pos 1) || int_lt high low) (int_lt low (pos 1) || int_lt high low) fault.BadInterval _ _ refl
      (refused_both (not (within_limit high)) (not (within_limit high)) (fault.Limit Number) _ _ refl
      (λ i. Ok (of_parts net.points (same_bounds i) (links i))))))

-- of a network of the same parts an edit makes one of the same parts
edits_of_parts : (net other : Plan) (edit : Edit) (made : Plan) → HasPartsOf net other → edited net edit ≡ Ok made → (its : Plan) × (edited other edit ≡ Ok its) × HasPartsOf made its
edits_of_parts net other edit made parts is = from (edited other edit) refl same
  where
    alike : bare other ≡ bare net
    alike = λ i. of_parts (parts.points i) (parts.bounds i) (parts.links i)

    same : bared (edited other edit) ≡ Ok (bare made)
    same = sym (edited_bare other edit) ∙ (ap (λ (n : Plan). bared (edited n edit)) alike ∙ (edited_bare net edit ∙ ap bared is))

    from : (r : Result Plan EditFault) → edited other edit ≡ r → bared r ≡ Ok (bare made) → (its : Plan) × (edited other edit ≡ Ok its) × HasPartsOf made its
    from (Err cause) gave so = absurd cc
    from (Ok its) gave so =
        let one : bare its ≡ bare made = cc in
        (its, gave, record { points = ap (λ (n : Plan). n.points) one; bounds = ap (λ (n : Plan). n.bounds) one; links = ap (λ (n : Plan). n.links) one })

-- the shown form has the parts of the network
shown_parts : (net : Plan) → HasPartsOf net (shown_form net)
shown_parts net = record {
  points = refl;
  bounds = map_map_kept unnumbered (shown_bound net) (λ _. refl) net.bounds;
  links = map_map_kept unnumbered_link (shown_link net) (λ _. refl) net.links;
}

pub law_shown_forms_follow_edits : ShownFormsFollowEdits
law_shown_forms_follow_edits old edit new made =
    let (its, accepted, parts) = edits_of_parts old (shown_form old) edit new (shown_parts old) made in
    let shown = shown_parts new in
    record {
      made = its;
      accepted = accepted;
      parts = record { points = sym parts.points; bounds = shown.bounds ∙ sym parts.bounds; links = shown.links ∙ sym parts.links };
    }
