-- What an accepted edit of a sound network changes, by names.
use Rattle.std.proofs.Common.{◌≡◌, ◌≢◌, ℕ, ℤ, zero, suc, ◌+◌, ◌-◌, ◌<◌, ◌==◌, ◌||◌, Bool, true, false, not, cond, if◌then◌else◌, List, [], ◌∷◌, ◌++◌, length, map, filter, get_or, set, Option, Some, None, position, is_some, nat_le}
use Rattle.std.proofs.Common.{slice_get, pos, int_lt, Result, Ok, Err, IfOk, refl, sym, ap, subst, ◌∙◌, ⊎_elim, arith}
use Rattle.std.specs.List.{All, AllPairs, remove}
use Rattle.std.specs.Str.{bytes_eq}
use Rattle.std.proofs.lemmas.Bool.Decides.{nat_tests}
use Rattle.std.proofs.lemmas.Grind.{common_steps}
use Rattle.std.proofs.lemmas.List.{get_or_append_left, map-append}
use Rattle.std.proofs.lemmas.List.Edits.{get_or-remove_below, get_or-remove_above}
use Rattle.std.proofs.lemmas.List.Quantifiers.{position-Some}
use Rattle.std.proofs.lemmas.Slice.Eq.{bytes_eq-Decides}
use Rattle.std.proofs.lemmas.Bool.{cases_lt}
use Rattle.std.proofs.lemmas.Option.{get_or_from_slice_get}
use Rattle.std.specs.Option.{option_map, option_and_then}
use Rattle.net_model.specs.BuiltNetwork.{◌>>=◌, refuse_if, named, with_point, with_bound, with_link}
use Rattle.net_model.specs.EditLaws.{by_names, effect, is_bound_named, is_link_to, part_with_most, part_with_interval, EditsChangeByNames}
use Rattle.net_model.specs.EditedNetwork.{edited, unused, user_of, without_point, with_number, with_interval, closed_up, closed_up_bounds, closed_up_links}
use Rattle.net_model.specs.Limits.{most_points, most_bounds, most_links, within_limit}
use Rattle.net_model.specs.Network.{Plan, IsPlan, point_named, bound_named, activation, link_named}
use Rattle.net_model.specs.NetworkParts.{point_name, bound_part, link_part}
use Rattle.net_model.specs.declared.edit.Edit.{Edit}
use Rattle.net_model.specs.declared.edit.Edit.TheVariants as edits
use Rattle.net_model.specs.declared.edit.EditFault.{EditFault}
use Rattle.net_model.specs.declared.edit.EditFault.TheVariants as fault
use Rattle.net_model.specs.declared.fault.PartFault.{PartFault}
use Rattle.net_model.specs.declared.fault.PartFault.TheVariants.{DuplicateName, UnknownName, TwoLinksOnPoint, LinkToItself, BadInterval, Limit}
use Rattle.net_model.specs.declared.ids.PointId.{PointId}
use Rattle.net_model.specs.declared.ids.BoundId.{BoundId}
use Rattle.net_model.specs.declared.ids.LinkId.{LinkId}
use Rattle.net_model.specs.declared.part.Bound.{Bound}
use Rattle.net_model.specs.declared.part.Link.{Link}
use Rattle.net_model.specs.declared.part.Part.TheVariants as part
use Rattle.net_model.specs.declared.part.Which.TheVariants.{Points, Links, Bounds, Number}
use Rattle.net_model.proofs.EditSoundness.{kept_added, if_known, if_unused, if_passed}
use Rattle.net_model.proofs.EditLemmas.{point_within, number_after, no_bound, no_link}
use Rattle.net_model.proofs.NetworkListLemmas.{names_apart, pairs_from_map}
use Rattle.net_model.proofs.PlanNumbers.{unless_refused}
use Rattle.net_model.proofs.Positions.{fails_from_None}

-- ---- a list of which one item passes a test
pub record IsOnly {X : Type 0} (test : X → Bool) (xs : List X) (k : ℕ) : Type 0 where
  pub inside : k < length xs
  pub passes : (d : X) → test (get_or xs k d) ≡ true
  pub others : (j : ℕ) (d : X) → j < length xs → j ≢ k → test (get_or xs j d) ≡ false

module _ {X : Type 0} (test : X → Bool) where
  only_later : (x : X) (xs : List X) (k : ℕ) → IsOnly test (x ∷ xs) (suc k) → IsOnly test xs k
  only_later x xs k only = record {
    inside = omega (arith, only.inside);
    passes = only.passes;
    others = λ j d within other. only.others (suc j) d (omega arith) (λ same. other (omega arith));
  }

  all_kept : (xs : List X) → ((j : ℕ) (d : X) → j < length xs → test (get_or xs j d) ≡ false) → filter (λ x. not (test x)) xs ≡ xs
  all_kept [] fails = refl
  all_kept (x ∷ xs) fails =
      let here : test x ≡ false = fails 0 x (omega arith) in
      rw here (ap (λ ys. x ∷ ys) (all_kept xs (λ j d within. fails (suc j) d (omega arith))))

  pub only_removed : (xs : List X) (k : ℕ) → IsOnly test xs k → remove xs k ≡ filter (λ x. not (test x)) xs
  only_removed [] k only = absurd (omega (arith, only.inside))
  only_removed (x ∷ xs) zero only =
      let here : test x ≡ true = only.passes x in
      rw here (sym (all_kept xs (λ j d within. only.others (suc j) d (omega arith) (λ same. omega arith))))
  only_removed (x ∷ xs) (suc k) only =
      let here : test x ≡ false = only.others 0 x (omega arith) (λ same. omega arith) in
      rw here (ap (λ ys. x ∷ ys) (only_removed xs k (only_later x xs k only)))

  module _ (change : X → X) where
    all_stay : (xs : List X) → ((j : ℕ) (d : X) → j < length xs → test (get_or xs j d) ≡ false) → map (λ x. if test x then change x else x) xs ≡ xs
    all_stay [] fails = refl
    all_stay (x ∷ xs) fails =
        let here : test x ≡ false = fails 0 x (omega arith) in
        rw here (ap (λ ys. x ∷ ys) (all_stay xs (λ j d within. fails (suc j) d (omega arith))))

    pub only_changed : (xs : List X) (k : ℕ) (d : X) → IsOnly test xs k → set xs k (change (get_or xs k d)) ≡ map (λ x. if test x then change x else x) xs
    only_changed [] k d only = absurd (omega (arith, only.inside))
    only_changed (x ∷ xs) zero d only =
        let here : test x ≡ true = only.passes x in
        rw here (ap (λ ys. change x ∷ ys) (sym (all_stay xs (λ j e within. only.others (suc j) e (omega arith) (λ same. omega arith)))))
    only_changed (x ∷ xs) (suc k) d only =
        let here : test x ≡ false = only.others 0 x (omega arith) (λ same. omega arith) in
        rw here (ap (λ ys. x ∷ ys) (only_changed xs k d (only_later x xs k only)))

-- ---- which item that is
module _ {X : Type 0} (test : X → Bool) (R : X → X → Type 0) (clash : (x y : X) → test x ≡ true → test y ≡ true → R x y → ⊥) where
  only_from_pairs : (xs : List X) (k : ℕ) → position test xs ≡ Some k → AllPairs R xs → IsOnly test xs k
  only_from_pairs xs k at pairs = record {
    inside = within;
    passes = λ d. (position-Some test xs k d at).1;
    others = λ j d held other. by j d held other (test (get_or xs j d)) refl;
  }
    where
      within : k < length xs
      within = grind (arith, common_steps)

      by : (j : ℕ) (d : X) → j < length xs → j ≢ k → (b : Bool) → test (get_or xs j d) ≡ b → test (get_or xs j d) ≡ false
      by j d held other false is = is
      by j d held other true is =
          let passes : test (get_or xs k d) ≡ true = (position-Some test xs k d at).1 in
          absurd (⊎_elim (λ before. clash (get_or xs j d) (get_or xs k d) is passes (pairs j k d before within)) (λ after. clash (get_or xs k d) (get_or xs j d) passes is (pairs k j d (omega arith) held)) (cases_lt j k))

only_agree : {X : Type 0} (test other : X → Bool) (xs : List X) (k : ℕ) → All (λ x. test x ≡ other x) xs → IsOnly test xs k → IsOnly other xs k
only_agree test other xs k agree only = record {
  inside = only.inside;
  passes = λ d. sym (agree k d only.inside) ∙ only.passes d;
  others = λ j d held differ. sym (agree j d held) ∙ only.others j d held differ;
}

same_name : (name x : List ℕ) → bytes_eq name x ≡ true → name ≡ x
same_name name x is = (bytes_eq-Decides name x).0 is

same_names : (name x y : List ℕ) → bytes_eq name x ≡ true → bytes_eq name y ≡ true → bytes_eq x y ≡ true
same_names name x y first second = (bytes_eq-Decides x y).1 (sym (same_name name x first) ∙ same_name name y second)

placed_point : (found : Option ℕ) (point : PointId) → option_map (λ k. record { 0 = k }) found ≡ Some point → found ≡ Some point.0
placed_point None point is = absurd (cc)
placed_point (Some k) point is = let same : record { 0 = k } ≡ point = cc in ap (λ (p : PointId). Some p.0) same

placed_bound : (found : Option ℕ) (bound : BoundId) → option_map (λ k. record { 0 = k }) found ≡ Some bound → found ≡ Some bound.0
placed_bound None bound is = absurd (cc)
placed_bound (Some k) bound is = let same : record { 0 = k } ≡ bound = cc in ap (λ (p : BoundId). Some p.0) same

placed_link : (found : Option ℕ) (link : LinkId) → option_map (λ k. record { 0 = k }) found ≡ Some link → found ≡ Some link.0
placed_link None link is = absurd (cc)
placed_link (Some k) link is = let same : record { 0 = k } ≡ link = cc in ap (λ (p : LinkId). Some p.0) same

-- ---- lists that are mapped
map_same : {X Y : Type 0} (f g : X → Y) (xs : List X) → ((k : ℕ) (d : X) → k < length xs → f (get_or xs k d) ≡ g (get_or xs k d)) → map f xs ≡ map g xs
map_same f g [] same = refl
map_same f g (x ∷ xs) same = λ i. same 0 x (omega arith) i ∷ map_same f g xs (λ k d held. same (suc k) d (omega arith)) i

map_map_same : {X Y : Type 0} (f g : X → Y) (c : X → X) (xs : List X) → ((k : ℕ) (d : X) → k < length xs → f (c (get_or xs k d)) ≡ g (get_or xs k d)) → map f (map c xs) ≡ map g xs
map_map_same f g c [] same = refl
map_map_same f g c (x ∷ xs) same = λ i. same 0 x (omega arith) i ∷ map_map_same f g c xs (λ k d held. same (suc k) d (omega arith)) i

filter_mapped : {X Y : Type 0} (test : Y → Bool) (f : X → Y) (xs : List X) → map f (filter (λ x. test (f x)) xs) ≡ filter test (map f xs)
filter_mapped test f [] = refl
filter_mapped test f (x ∷ xs) = by (test (f x)) (filter_mapped test f xs)
  where
    by : (b : Bool) → map f (filter (λ x. test (f x)) xs) ≡ filter test (map f xs) → map f (cond b (x ∷ filter (λ x. test (f x)) xs) (filter (λ x. test (f x)) xs)) ≡ cond b (f x ∷ filter test (map f xs)) (filter test (map f xs))
    by true rest = ap (λ ys. f x ∷ ys) rest
    by false rest = rest

changed_mapped : {X Y : Type 0} (test : Y → Bool) (change : Y → Y) (f : X → Y) (c : X → X) (xs : List X) → ((x : X) → f (c x) ≡ change (f x))
    → map f (map (λ x. if test (f x) then c x else x) xs) ≡ map (λ y. if test y then change y else y) (map f xs)
changed_mapped test change f c [] same = refl
changed_mapped test change f c (x ∷ xs) same = λ i. by (test (f x)) i ∷ changed_mapped test change f c xs same i
  where
    by : (b : Bool) → f (if b then c x else x) ≡ (if b then change (f x) else f x)
    by true = same x
    by false = refl

-- ---- names of points
module _ (net : Plan) (sound : IsPlan net) where
  only_point : (name : List ℕ) (point : PointId) → point_named net name ≡ Some point → IsOnly (bytes_eq name) net.points point.0
  only_point name point named =
      only_from_pairs (bytes_eq name) (λ x y. bytes_eq y x ≡ false) (λ x y first second apart. let same = same_names name y x second first in absurd (cc)) net.points point.0
      (placed_point (position (bytes_eq name) net.points) point named) (names_apart net.points sound.points_apart)

  name_is : (name : List ℕ) (point : PointId) → point_named net name ≡ Some point → point_name net.points point ≡ name
  name_is name point named = sym (same_name name (point_name net.points point) ((only_point name point named).passes []))

  only_bound : (name : List ℕ) (id : BoundId) → bound_named net name ≡ Some id → IsOnly (λ (b : Bound). bytes_eq name b.name) net.bounds id.0
  only_bound name id named =
      only_from_pairs (λ (b : Bound). bytes_eq name b.name) (λ (b c : Bound). bytes_eq c.name b.name ≡ false) (λ b c first second apart. let same = same_names name c.name b.name second first in absurd (cc)) net.bounds id.0
      (placed_bound (position (λ (b : Bound). bytes_eq name b.name) net.bounds) id named)
      (pairs_from_map (λ x y. bytes_eq y x ≡ false) (λ (b : Bound). b.name) net.bounds (names_apart (map (λ (b : Bound). b.name) net.bounds) sound.bounds_apart))

  only_link : (to : List ℕ) (id : LinkId) → link_named net to ≡ Some id → IsOnly (λ (l : Link). bytes_eq to (point_name net.points l.to)) net.links id.0
  only_link to id ends = by (point_named net to) refl ends
    where
      agree : (point : PointId) → point_named net to ≡ Some point → (p : PointId) → p.0 < length net.points → (p.0 == point.0) ≡ bytes_eq to (point_name net.points p)
      agree point named p held = which (p.0 == point.0) refl
        where
          only : IsOnly (bytes_eq to) net.points point.0
          only = only_point to point named

          which : (b : Bool) → p.0 == point.0 ≡ b → (p.0 == point.0) ≡ bytes_eq to (point_name net.points p)
          which true is = let at : p.0 ≡ point.0 = grind (arith, nat_tests) in is ∙ sym (ap (λ (k : ℕ). bytes_eq to (get_or net.points k [])) at ∙ only.passes [])
          which false is = is ∙ sym (only.others p.0 [] held (grind (arith, nat_tests)))

      by : (found : Option PointId) → point_named net to ≡ found → option_and_then (activation net) found ≡ Some id → IsOnly (λ (l : Link). bytes_eq to (point_name net.points l.to)) net.links id.0
      by None is none = absurd (cc)
      by (Some point) is ended =
          only_agree (λ (l : Link). l.to.0 == point.0) (λ (l : Link). bytes_eq to (point_name net.points l.to)) net.links id.0
          (λ k d held. agree point is (get_or net.links k d).to (sound.links_sound k d held).to_point)
          (only_from_pairs (λ (l : Link). l.to.0 == point.0) (λ (l m : Link). l.to.0 ≢ m.to.0) (λ l m first second apart. apart (grind (arith, nat_tests))) net.links id.0
          (placed_link (position (λ (l : Link). l.to.0 == point.0) net.links) id ended) sound.links_apart)

  -- a point more changes no name
  module _ (name : List ℕ) where
    still_named : (p : PointId) → p.0 < length net.points → point_name (net.points ++ name ∷ []) p ≡ point_name net.points p
    still_named p held = get_or_append_left net.points (name ∷ []) [] p.0 held

    more_bounds_same : map (bound_part (net.points ++ name ∷ [])) net.bounds ≡ map (bound_part net.points) net.bounds
    more_bounds_same = map_same (bound_part (net.points ++ name ∷ [])) (bound_part net.points) net.bounds
        (λ k d held. let b = get_or net.bounds k d in let was = sound.bounds_sound k d held in λ i. part.Bound b.name (still_named b.from was.from_point i) (still_named b.to was.to_point i) b.most)

    more_links_same : map (link_part (net.points ++ name ∷ [])) net.links ≡ map (link_part net.points) net.links
    more_links_same = map_same (link_part (net.points ++ name ∷ [])) (link_part net.points) net.links
        (λ k d held. let l = get_or net.links k d in let was = sound.links_sound k d held in λ i. part.Link (still_named l.from was.from_point i) l.low l.high (still_named l.to was.to_point i))

  -- neither does a point less, that nothing uses
  module _ (dropped : PointId) (inside : dropped.0 < length net.points) (free : user_of net dropped ≡ None) where
    closed_named : (p : PointId) → p.0 < length net.points → p.0 ≢ dropped.0 → point_name (remove net.points dropped.0) (closed_up dropped p) ≡ point_name net.points p
    closed_named p held other =
        ⊎_elim
        (λ below. ap (λ (k : ℕ). get_or (remove net.points dropped.0) k []) below.1 ∙ get_or-remove_below net.points dropped.0 [] p.0 below.0 inside)
        (λ above.
        let back : p.0 - 1 + 1 ≡ p.0 = omega (arith, above.0) in
        ap (λ (k : ℕ). get_or (remove net.points dropped.0) k []) above.1 ∙ get_or-remove_above net.points dropped.0 [] (p.0 - 1) (omega (arith, above.0)) inside ∙ ap (λ (k : ℕ). get_or net.points k []) back)
        (number_after dropped p other)

    less_bounds_same : map (bound_part (remove net.points dropped.0)) (closed_up_bounds dropped net.bounds) ≡ map (bound_part net.points) net.bounds
    less_bounds_same = map_map_same (bound_part (remove net.points dropped.0)) (bound_part net.points) (λ (b : Bound). record b { from = closed_up dropped b.from; to = closed_up dropped b.to }) net.bounds
        (λ k d held.
        let b = get_or net.bounds k d in
        let was = sound.bounds_sound k d held in
        let unused = fails_from_None (λ (b : Bound). b.from.0 == dropped.0 || b.to.0 == dropped.0) net.bounds (no_bound net sound dropped inside free) k d held in
        let from_other : b.from.0 ≢ dropped.0 = grind (arith, nat_tests) in
        let to_other : b.to.0 ≢ dropped.0 = grind (arith, nat_tests) in
        λ i. part.Bound b.name (closed_named b.from was.from_point from_other i) (closed_named b.to was.to_point to_other i) b.most)

    less_links_same : map (link_part (remove net.points dropped.0)) (closed_up_links dropped net.links) ≡ map (link_part net.points) net.links
    less_links_same = map_map_same (link_part (remove net.points dropped.0)) (link_part net.points) (λ (l : Link). record l { from = closed_up dropped l.from; to = closed_up dropped l.to }) net.links
        (λ k d held.
        let l = get_or net.links k d in
        let was = sound.links_sound k d held in
        let unused = fails_from_None (λ (l : Link). l.from.0 == dropped.0 || l.to.0 == dropped.0) net.links (no_link net sound dropped inside free) k d held in
        let from_other : l.from.0 ≢ dropped.0 = grind (arith, nat_tests) in
        let to_other : l.to.0 ≢ dropped.0 = grind (arith, nat_tests) in
        λ i. part.Link (closed_named l.from was.from_point from_other i) l.low l.high (closed_named l.to was.to_point to_other i))

-- ---- the law, edit by edit
abbrev HasEffect : Plan → Edit → Plan → Type 0
HasEffect net edit new = by_names new ≡ effect edit (by_names net)

if_found : (P : Plan → Type 0) (net : Plan) (name : List ℕ) (next : PointId → Result Plan PartFault) → ((point : PointId) → point_named net name ≡ Some point → IfOk (next point) P) → IfOk (named net name >>= next) P
if_found P net name next keeps = by (point_named net name) refl
  where
    by : (found : Option PointId) → point_named net name ≡ found → IfOk ((elim found [ Some point ↦ Ok point | None ↦ Err UnknownName ]) >>= next) P
    by (Some point) is = keeps point is
    by None is = tt

point_added : (net : Plan) (name : List ℕ) → IsPlan net → IfOk (with_point net name) (HasEffect net (edits.AddPoint name))
unfolding with_point
point_added net name sound =
    let P : Plan → Type 0 = HasEffect net (edits.AddPoint name) in
    let more : Plan = record net { points = net.points ++ name ∷ [] } in
    let spare_capacity : Result Plan PartFault = refuse_if (nat_le most_points (length net.points)) (Limit Points) (Ok more) in
    unless_refused P (is_some (point_named net name)) DuplicateName spare_capacity (λ not_taken.
    unless_refused P (nat_le most_points (length net.points)) (Limit Points) (Ok more) (λ roomy.
    λ i. record { points = net.points ++ name ∷ []; bounds = more_bounds_same net sound name i; links = more_links_same net sound name i; delay = net.delay }))

bound_added : (net : Plan) (name from to : List ℕ) (most : ℤ) → IsPlan net → IfOk (with_bound net name from to most) (HasEffect net (edits.AddBound name from to most))
unfolding with_bound
bound_added net name from to most sound =
    let P : Plan → Type 0 = HasEffect net (edits.AddBound name from to most) in
    let bound : PointId → PointId → Bound = λ x y. record { name = name; from = x; to = y; most = most } in
    let more : PointId → PointId → Plan = λ x y. record net { bounds = net.bounds ++ bound x y ∷ [] } in
    let spare_capacity : PointId → PointId → Result Plan PartFault = λ x y. refuse_if (nat_le most_bounds (length net.bounds)) (Limit Bounds) (Ok (more x y)) in
    let small : PointId → PointId → Result Plan PartFault = λ x y. refuse_if (not (within_limit most)) (Limit Number) (spare_capacity x y) in
    unless_refused P (is_some (bound_named net name)) DuplicateName (named net from >>= (λ x. named net to >>= (λ y. small x y))) (λ not_taken.
    if_found P net from (λ x. named net to >>= (λ y. small x y)) (λ x x_is.
    if_found P net to (λ y. small x y) (λ y y_is.
    unless_refused P (not (within_limit most)) (Limit Number) (spare_capacity x y) (λ fitting.
    unless_refused P (nat_le most_bounds (length net.bounds)) (Limit Bounds) (Ok (more x y)) (λ roomy.
    let parts : map (bound_part net.points) (net.bounds ++ bound x y ∷ []) ≡ map (bound_part net.points) net.bounds ++ part.Bound name from to most ∷ [] =
    map-append (bound_part net.points) net.bounds (bound x y ∷ []) ∙ (λ i. map (bound_part net.points) net.bounds ++ part.Bound name (name_is net sound from x x_is i) (name_is net sound to y y_is i) most ∷ []) in
    λ i. record { points = net.points; bounds = parts i; links = map (link_part net.points) net.links; delay = net.delay })))))

link_added : (net : Plan) (from : List ℕ) (low high : ℤ) (to : List ℕ) → IsPlan net → IfOk (with_link net from low high to) (HasEffect net (edits.AddLink from low high to))
unfolding with_link
link_added net from low high to sound =
    let P : Plan → Type 0 = HasEffect net (edits.AddLink from low high to) in
    let link : PointId → PointId → Link = λ a c. record { from = a; low = low; high = high; to = c } in
    let more : PointId → PointId → Plan = λ a c. record net { links = net.links ++ link a c ∷ [] } in
    let spare_capacity : PointId → PointId → Result Plan PartFault = λ a c. refuse_if (nat_le most_links (length net.links)) (Limit Links) (Ok (more a c)) in
    let small : PointId → PointId → Result Plan PartFault = λ a c. refuse_if (not (within_limit high)) (Limit Number) (spare_capacity a c) in
    let interval : PointId → PointId → Result Plan PartFault = λ a c. refuse_if (int_lt low (pos 1) || int_lt high low) BadInterval (small a c) in
    let free : PointId → PointId → Result Plan PartFault = λ a c. refuse_if (is_some (activation net c)) TwoLinksOnPoint (interval a c) in
    let apart : PointId → PointId → Result Plan PartFault = λ a c. refuse_if (a.0 == c.0) LinkToItself (free a c) in
    if_found P net from (λ a. named net to >>= (λ c. apart a c)) (λ a a_is.
    if_found P net to (λ c. apart a c) (λ c c_is.
    unless_refused P (a.0 == c.0) LinkToItself (free a c) (λ other.
    unless_refused P (is_some (activation net c)) TwoLinksOnPoint (interval a c) (λ first.
    unless_refused P (int_lt low (pos 1) || int_lt high low) BadInterval (small a c) (λ good.
    unless_refused P (not (within_limit high)) (Limit Number) (spare_capacity a c) (λ fitting.
    unless_refused P (nat_le most_links (length net.links)) (Limit Links) (Ok (more a c)) (λ roomy.
    let parts : map (link_part net.points) (net.links ++ link a c ∷ []) ≡ map (link_part net.points) net.links ++ part.Link from low high to ∷ [] =
    map-append (link_part net.points) net.links (link a c ∷ []) ∙ (λ i. map (link_part net.points) net.links ++ part.Link (name_is net sound from a a_is i) low high (name_is net sound to c c_is i) ∷ []) in
    λ i. record { points = net.points; bounds = map (bound_part net.points) net.bounds; links = parts i; delay = net.delay })))))))

has_effect : (net : Plan) (edit : Edit) → IsPlan net → IfOk (edited net edit) (HasEffect net edit)
has_effect net (edits.AddPoint name) sound = kept_added (HasEffect net (edits.AddPoint name)) (with_point net name) (point_added net name sound)
has_effect net (edits.AddBound name from to most) sound = kept_added (HasEffect net (edits.AddBound name from to most)) (with_bound net name from to most) (bound_added net name from to most sound)
has_effect net (edits.AddLink from low high to) sound = kept_added (HasEffect net (edits.AddLink from low high to)) (with_link net from low high to) (link_added net from low high to sound)
has_effect net (edits.DropPoint name) sound =
    let P : Plan → Type 0 = HasEffect net (edits.DropPoint name) in
    if_known P (point_named net name) (λ point. unused (user_of net point) (Ok (without_point net point)))
    (λ point named. if_unused P (user_of net point) (without_point net point) (λ free.
    let inside = point_within net name point named in
    λ i. record {
      points = only_removed (bytes_eq name) net.points point.0 (only_point net sound name point named) i;
      bounds = less_bounds_same net sound point inside free i;
      links = less_links_same net sound point inside free i;
      delay = net.delay;
    }))
has_effect net (edits.DropBound name) sound =
    if_known (HasEffect net (edits.DropBound name)) (bound_named net name) _ (λ id named.
    let parts = ap (map (bound_part net.points)) (only_removed (λ (b : Bound). bytes_eq name b.name) net.bounds id.0 (only_bound net sound name id named))
    ∙ filter_mapped (λ p. not (is_bound_named name p)) (bound_part net.points) net.bounds in
    λ i. record { points = net.points; bounds = parts i; links = map (link_part net.points) net.links; delay = net.delay })
has_effect net (edits.DropLink to) sound =
    if_known (HasEffect net (edits.DropLink to)) (link_named net to) _ (λ id named.
    let parts = ap (map (link_part net.points)) (only_removed (λ (l : Link). bytes_eq to (point_name net.points l.to)) net.links id.0 (only_link net sound to id named))
    ∙ filter_mapped (λ p. not (is_link_to to p)) (link_part net.points) net.links in
    λ i. record { points = net.points; bounds = map (bound_part net.points) net.bounds; links = parts i; delay = net.delay })
has_effect net (edits.SetBound name most) sound =
    let P : Plan → Type 0 = HasEffect net (edits.SetBound name most) in
    if_known P (bound_named net name) _ (λ id named.
    if_known P (slice_get net.bounds id.0) _ (λ bound at.
    if_passed P (not (within_limit most)) (fault.Limit Number) (Ok (with_number net id most bound)) (λ small.
    let change : Bound → Bound = λ b. record b { most = most } in
    let is = get_or_from_slice_get net.bounds id.0 bound bound at in
    let parts = ap (λ (b : Bound). map (bound_part net.points) (set net.bounds id.0 (change b))) (sym is)
    ∙ ap (map (bound_part net.points)) (only_changed (λ (b : Bound). bytes_eq name b.name) change net.bounds id.0 bound (only_bound net sound name id named))
    ∙ changed_mapped (is_bound_named name) (part_with_most most) (bound_part net.points) change net.bounds (λ b. refl) in
    λ i. record { points = net.points; bounds = parts i; links = map (link_part net.points) net.links; delay = net.delay })))
has_effect net (edits.SetLink to low high) sound =
    let P : Plan → Type 0 = HasEffect net (edits.SetLink to low high) in
    if_known P (link_named net to) _ (λ id named.
    if_known P (slice_get net.links id.0) _ (λ link at.
    if_passed P (int_lt low (pos 1) || int_lt high low) fault.BadInterval (refuse_if (not (within_limit high)) (fault.Limit Number) (Ok (with_interval net id low high link))) (λ good.
    if_passed P (not (within_limit high)) (fault.Limit Number) (Ok (with_interval net id low high link)) (λ small.
    let change : Link → Link = λ l. record l { low = low; high = high } in
    let is = get_or_from_slice_get net.links id.0 link link at in
    let parts = ap (λ (l : Link). map (link_part net.points) (set net.links id.0 (change l))) (sym is)
    ∙ ap (map (link_part net.points)) (only_changed (λ (l : Link). bytes_eq to (point_name net.points l.to)) change net.links id.0 link (only_link net sound to id named))
    ∙ changed_mapped (is_link_to to) (part_with_interval low high) (link_part net.points) change net.links (λ l. refl) in
    λ i. record { points = net.points; bounds = map (bound_part net.points) net.bounds; links = parts i; delay = net.delay }))))

pub law_edits_change_by_names : EditsChangeByNames
law_edits_change_by_names net edit new sound is = let P : Result Plan EditFault → Type 0 = λ answer. IfOk answer (HasEffect net edit) in subst P is (has_effect net edit sound)
