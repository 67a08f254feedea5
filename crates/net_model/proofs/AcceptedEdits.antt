-- What an accepted edit makes of a network.
use Rattle.std.proofs.Common.{◌≡◌, ◌≢◌, ◌==◌, ◌||◌, ℕ, ℤ, Bool, true, false, List, Option, Some, None, Result, Ok, Err, position, refl, ap, sym, ◌∙◌}
use Rattle.std.specs.Prelude.{slice_get, is_some, not, int_lt, nat_le, length, pos}
use Rattle.std.specs.List.{remove}
use Rattle.std.proofs.lemmas.Bool.{eq-eqb}
use Rattle.std.proofs.lemmas.Option.{slice_get_within, get_or_from_slice_get}
use Rattle.net_model.specs.BuiltNetwork.{◌>>=◌, refuse_if, named, with_point, with_bound, with_link}
use Rattle.net_model.specs.EditedNetwork.{added, known, bound_user, link_user, user_by, user_of, unused, without_point, with_number, with_interval, edited}
use Rattle.net_model.specs.Network.{Plan, point_named, bound_named, activation, link_named}
use Rattle.net_model.specs.declared.edit.Edit.{Edit}
use Rattle.net_model.specs.declared.edit.Edit.TheVariants as edits
use Rattle.net_model.specs.declared.edit.EditFault.{EditFault}
use Rattle.net_model.specs.declared.edit.User.{User}
use Rattle.net_model.specs.declared.fault.PartFault.{PartFault}
use Rattle.net_model.specs.declared.fault.PartFault.TheVariants.{UnknownName}
use Rattle.net_model.specs.declared.ids.BoundId.{BoundId}
use Rattle.net_model.specs.declared.ids.LinkId.{LinkId}
use Rattle.net_model.specs.declared.ids.PointId.{PointId}
use Rattle.net_model.specs.declared.part.Bound.{Bound}
use Rattle.net_model.specs.declared.part.Link.{Link}
use Rattle.net_model.specs.Limits.{most_points, most_bounds, most_links, within_limit}
use Rattle.net_model.proofs.NetworkLemmas.{more_points, more_bounds, more_links}
use Rattle.net_model.proofs.Positions.{None_from_option_map, fails_from_None}

-- ---- steps that are accepted
known_ok : {A B : Type 0} (o : Option A) (next : A → Result B EditFault) (made : B) → known o next ≡ Ok made → (x : A) × (o ≡ Some x) × (next x ≡ Ok made)
known_ok None next made is = absurd cc
known_ok (Some x) next made is = (x, refl, is)

added_ok : (r : Result Plan PartFault) (made : Plan) → added r ≡ Ok made → r ≡ Ok made
added_ok (Ok net) made is = let same : net ≡ made = cc in ap (λ (n : Plan). Ok n) same
added_ok (Err cause) made is = absurd cc

unused_ok : (o : Option User) (otherwise : Result Plan EditFault) (made : Plan) → unused o otherwise ≡ Ok made → (o ≡ None) × (otherwise ≡ Ok made)
unused_ok (Some user) otherwise made is = absurd cc
unused_ok None otherwise made is = (refl, is)

refuse_if_ok : {A F : Type 0} (b : Bool) (cause : F) (otherwise : Result A F) (made : A) → refuse_if b cause otherwise ≡ Ok made → (b ≡ false) × (otherwise ≡ Ok made)
refuse_if_ok true cause otherwise made is = absurd cc
refuse_if_ok false cause otherwise made is = (refl, is)

bind_ok : {A B : Type 0} (r : Result A PartFault) (next : A → Result B PartFault) (made : B) → (r >>= next) ≡ Ok made → (x : A) × (r ≡ Ok x) × (next x ≡ Ok made)
bind_ok (Ok x) next made is = (x, refl, is)
bind_ok (Err cause) next made is = absurd cc

named_ok : (net : Plan) (name : List ℕ) (point : PointId) → named net name ≡ Ok point → point_named net name ≡ Some point
named_ok net name point is = by (point_named net name) is
  where
    by : (o : Option PointId) → elim o as (λ _. Result PointId PartFault) [ Some p ↦ Ok p | None ↦ Err UnknownName ] ≡ Ok point → o ≡ Some point
    by None gave = absurd cc
    by (Some p) gave = let same : p ≡ point = cc in ap (λ (q : PointId). Some q) same

none_unless : {A : Type 0} (o : Option A) → is_some o ≡ false → o ≡ None
none_unless None is = refl
none_unless (Some x) is = absurd cc

abbrev the_ok : (F : Type 0) → Plan → Result Plan F
the_ok F net = Ok net

ok_is : (F : Type 0) (net made : Plan) → the_ok F net ≡ Ok made → made ≡ net
ok_is F net made is = let same : net ≡ made = cc in sym same

-- ---- what each edit makes
-- no bound and no link names a point
pub record IsUnused (net : Plan) (point : PointId) : Type 0 where
  pub bounds : (k : ℕ) (bound : Bound) → slice_get net.bounds k ≡ Some bound → (bound.from.0 ≢ point.0) × (bound.to.0 ≢ point.0)
  pub links : (k : ℕ) (link : Link) → slice_get net.links k ≡ Some link → (link.from.0 ≢ point.0) × (link.to.0 ≢ point.0)

-- what an accepted edit makes of a network, and what it found there
abbrev pub Makes : Plan → Edit → Plan → Type 0
Makes old (edits.AddPoint name) made = (point_named old name ≡ None) × (made ≡ more_points old name)
Makes old (edits.DropPoint name) made = (point : PointId) × (point_named old name ≡ Some point) × IsUnused old point × (made ≡ without_point old point)
Makes old (edits.AddBound name from to most) made = (bound : Bound) × (bound.name ≡ name) × (bound_named old name ≡ None) × (made ≡ more_bounds old bound)
Makes old (edits.DropBound name) made = (id : BoundId) × (bound_named old name ≡ Some id) × (made ≡ record old { bounds = remove old.bounds id.0 })
Makes old (edits.SetBound name most) made = (id : BoundId) × (bound : Bound) × (bound_named old name ≡ Some id) × (slice_get old.bounds id.0 ≡ Some bound) × (made ≡ with_number old id most bound)
Makes old (edits.AddLink from low high to) made = (link : Link) × (point_named old to ≡ Some link.to) × (activation old link.to ≡ None) × (made ≡ more_links old link)
Makes old (edits.DropLink to) made = (id : LinkId) × (link_named old to ≡ Some id) × (made ≡ record old { links = remove old.links id.0 })
Makes old (edits.SetLink to low high) made = (id : LinkId) × (link : Link) × (link_named old to ≡ Some id) × (slice_get old.links id.0 ≡ Some link) × (made ≡ with_interval old id low high link)

point_added : (old : Plan) (name : List ℕ) (made : Plan) → with_point old name ≡ Ok made → Makes old (edits.AddPoint name) made
unfolding with_point
point_added old name made is =
    let (not_taken, spare_capacity) = refuse_if_ok (is_some (point_named old name)) _ _ made is in
    let (few, done) = refuse_if_ok (nat_le most_points (length old.points)) _ _ made spare_capacity in
    (none_unless (point_named old name) not_taken, ok_is PartFault (more_points old name) made done)

bound_added : (old : Plan) (name from to : List ℕ) (most : ℤ) (made : Plan) → with_bound old name from to most ≡ Ok made → Makes old (edits.AddBound name from to most) made
unfolding with_bound
bound_added old name from to most made is =
    let (not_taken, ends) = refuse_if_ok (is_some (bound_named old name)) _ _ made is in
    let (x, from_is, rest) = bind_ok (named old from) _ made ends in
    let (y, to_is, within) = bind_ok (named old to) _ made rest in
    let (small, spare_capacity) = refuse_if_ok (not (within_limit most)) _ _ made within in
    let (few, done) = refuse_if_ok (nat_le most_bounds (length old.bounds)) _ _ made spare_capacity in
    let bound : Bound = record { name = name; from = x; to = y; most = most } in
    (bound, refl, none_unless (bound_named old name) not_taken, ok_is PartFault (more_bounds old bound) made done)

link_added : (old : Plan) (from : List ℕ) (low high : ℤ) (to : List ℕ) (made : Plan) → with_link old from low high to ≡ Ok made → Makes old (edits.AddLink from low high to) made
unfolding with_link
link_added old from low high to made is =
    let (a, from_is, rest) = bind_ok (named old from) _ made is in
    let (c, to_is, apart) = bind_ok (named old to) _ made rest in
    let (differ, ends) = refuse_if_ok (a.0 == c.0) _ _ made apart in
    let (not_taken, interval) = refuse_if_ok (is_some (activation old c)) _ _ made ends in
    let (sound, within) = refuse_if_ok (int_lt low (pos 1) || int_lt high low) _ _ made interval in
    let (small, spare_capacity) = refuse_if_ok (not (within_limit high)) _ _ made within in
    let (few, done) = refuse_if_ok (nat_le most_links (length old.links)) _ _ made spare_capacity in
    let link : Link = record { from = a; low = low; high = high; to = c } in
    (link, named_ok old to c to_is, none_unless (activation old c) not_taken, ok_is PartFault (more_links old link) made done)

-- a test that no bound passes is passed by none of them
none_passes : {X : Type 0} (p : X → Bool) (xs : List X) → position p xs ≡ None → (k : ℕ) (x : X) → slice_get xs k ≡ Some x → p x ≡ false
none_passes p xs none k x here = sym (ap p (get_or_from_slice_get xs k x x here)) ∙ fails_from_None p xs none k x (slice_get_within xs k x here)

neither : (a b c : ℕ) → (a == c || b == c) ≡ false → (a ≢ c) × (b ≢ c)
neither a b c is = by (a == c) (b == c) refl refl is
  where
    by : (p q : Bool) → a == c ≡ p → b == c ≡ q → (p || q) ≡ false → (a ≢ c) × (b ≢ c)
    by true q one two both = absurd cc
    by false true one two both = absurd cc
    by false false one two both =
        (λ same. let yes_ : a == c ≡ true = eq-eqb a c same in absurd cc, λ same. let yes_ : b == c ≡ true = eq-eqb b c same in absurd cc)

unused_is : (net : Plan) (point : PointId) → user_of net point ≡ None → IsUnused net point
unused_is net point none = by (bound_user net point) (link_user net point) refl refl none
  where
    by : (b : Option BoundId) (l : Option LinkId) → bound_user net point ≡ b → link_user net point ≡ l → user_by b l ≡ None → IsUnused net point
    by (Some b) l bound link is = absurd cc
    by None (Some l) bound link is = absurd cc
    by None None bound link is = record {
      bounds = λ k b here. neither b.from.0 b.to.0 point.0 (none_passes (λ (c : Bound). c.from.0 == point.0 || c.to.0 == point.0) net.bounds
          (None_from_option_map _ (position (λ (c : Bound). c.from.0 == point.0 || c.to.0 == point.0) net.bounds) bound) k b here);
      links = λ k l here. neither l.from.0 l.to.0 point.0 (none_passes (λ (m : Link). m.from.0 == point.0 || m.to.0 == point.0) net.links
          (None_from_option_map _ (position (λ (m : Link). m.from.0 == point.0 || m.to.0 == point.0) net.links) link) k l here);
    }

pub accepted_makes : (old : Plan) (edit : Edit) (made : Plan) → edited old edit ≡ Ok made → Makes old edit made
accepted_makes old (edits.AddPoint name) made is = point_added old name made (added_ok (with_point old name) made is)
accepted_makes old (edits.AddBound name from to most) made is = bound_added old name from to most made (added_ok (with_bound old name from to most) made is)
accepted_makes old (edits.AddLink from low high to) made is = link_added old from low high to made (added_ok (with_link old from low high to) made is)
accepted_makes old (edits.DropPoint name) made is =
    let (point, there, rest) = known_ok (point_named old name) _ made is in
    let (free, done) = unused_ok (user_of old point) _ made rest in
    (point, there, unused_is old point free, ok_is EditFault (without_point old point) made done)
accepted_makes old (edits.DropBound name) made is =
    let (id, there, done) = known_ok (bound_named old name) _ made is in
    (id, there, ok_is EditFault (record old { bounds = remove old.bounds id.0 }) made done)
accepted_makes old (edits.SetBound name most) made is =
    let (id, there, rest) = known_ok (bound_named old name) _ made is in
    let (bound, here, more) = known_ok (slice_get old.bounds id.0) _ made rest in
    (id, bound, there, here, ok_is EditFault (with_number old id most bound) made (refuse_if_ok (not (within_limit most)) _ _ made more).1)
accepted_makes old (edits.DropLink to) made is =
    let (id, there, done) = known_ok (link_named old to) _ made is in
    (id, there, ok_is EditFault (record old { links = remove old.links id.0 }) made done)
accepted_makes old (edits.SetLink to low high) made is =
    let (id, there, rest) = known_ok (link_named old to) _ made is in
    let (link, here, more) = known_ok (slice_get old.links id.0) _ made rest in
    let within = (refuse_if_ok (int_lt low (pos 1) || int_lt high low) _ _ made more).1 in
    (id, link, there, here, ok_is EditFault (with_interval old id low high link) made (refuse_if_ok (not (within_limit high)) _ _ made within).1)
