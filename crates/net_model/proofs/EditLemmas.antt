-- A network without one of its points, bounds or links, and one in which a number is set, is a network.
use Rattle.std.proofs.Common.{◌≡◌, ◌≢◌, ℕ, ℤ, suc, ◌+◌, ◌-◌, ◌<◌, ◌≤◌, unsigned_abs, ◌==◌, ◌||◌, Bool, true, false, not, cond, nat_lt, List, [], ◌∷◌, ◌++◌, length, map, take, drop, get_or, set, Option, Some, None, Result, Ok, Err, position}
use Rattle.std.proofs.Common.{slice_get, pos, int_lt, ◌≤ℤ◌, IsTrue, ◌⊎◌, ⊎_elim, inl, inr, refl, sym, ap, subst, ◌∙◌, arith}
use Rattle.std.specs.List.{All, AllPairs, IsDistinct, remove}
use Rattle.std.specs.Option.{option_and_then}
use Rattle.std.specs.Str.{bytes_eq}
use Rattle.std.proofs.Math.Seq.{map-set_same}
use Rattle.std.proofs.lemmas.Bool.{leb-true}
use Rattle.std.proofs.lemmas.Bool.Decides.{nat_tests}
use Rattle.std.proofs.lemmas.Grind.{common_steps}
use Rattle.std.proofs.lemmas.List.{map-append, take-map, drop-map, length-set, length-map, get_or-map}
use Rattle.std.proofs.lemmas.Int.{ints}
use Rattle.std.proofs.lemmas.List.Edits.{length-remove}
use Rattle.std.proofs.lemmas.List.Elements.{All-append, All-take, All-drop, All-set, All-weaker, All-map}
use Rattle.std.proofs.lemmas.List.Quantifiers.{all_pairs_remove}
use Rattle.std.proofs.lemmas.Map.Keys.{apart_from_distinct, IsDistinct-from_apart}
use Rattle.std.proofs.lemmas.Option.{slice_get_within, slice_get_read, slice_get-get_or, get_or_from_slice_get}
use Rattle.net_model.proofs.NetworkListLemmas.{pairs_from_map}
use Rattle.net_model.proofs.NetworkLemmas.{IsBound-more, IsLink-more}
use Rattle.net_model.proofs.Positions.{fails_from_None, None_from_option_map}
use Rattle.net_model.specs.BuiltNetwork.{Adds, named, refuse_if}
use Rattle.net_model.specs.EditedNetwork.{closed_up, closed_up_bounds, closed_up_links, without_point, with_number, with_interval, bound_user, link_user, user_by, user_of, known, edited, cause_of, added, Edits}
use Rattle.net_model.specs.Limits.{most_delay, most_number, most_size, within_limit, within_size}
use Rattle.net_model.specs.Names.{is_name}
use Rattle.net_model.specs.Network.{Plan, IsPlan, IsBound, IsLink, point_named, bound_named, activation, link_named}
use Rattle.net_model.specs.declared.ids.BoundId.{BoundId}
use Rattle.net_model.specs.declared.ids.LinkId.{LinkId}
use Rattle.net_model.specs.declared.ids.PointId.{PointId}
use Rattle.net_model.specs.declared.part.Bound.{Bound}
use Rattle.net_model.specs.declared.part.Link.{Link}
use Rattle.net_model.specs.declared.part.Which.TheVariants.{Number}
use Rattle.net_model.specs.declared.fault.PartFault.{PartFault}
use Rattle.net_model.specs.declared.fault.PartFault.TheVariants as part
use Rattle.net_model.specs.declared.edit.Edit.TheVariants as edits
use Rattle.net_model.specs.declared.edit.EditFault.{EditFault}
use Rattle.net_model.specs.declared.edit.EditFault.TheVariants as fault

-- ---- a list without one item
pub All-remove : {X : Type 0} (P : X → Type 0) (xs : List X) (n : ℕ) → All P xs → All P (remove xs n)
All-remove P xs n all = All-append P (take n xs) (drop (suc n) xs) (All-take P n xs all) (All-drop P (suc n) xs all)

pub map-remove : {X Y : Type 0} (f : X → Y) (xs : List X) (n : ℕ) → map f (remove xs n) ≡ remove (map f xs) n
map-remove f xs n = map-append f (take n xs) (drop (suc n) xs) ∙ (λ i. sym (take-map f n xs) i ++ sym (drop-map f (suc n) xs) i)

IsDistinct-remove : (names : List (List ℕ)) (n : ℕ) → n < length names → IsDistinct bytes_eq names → IsDistinct bytes_eq (remove names n)
IsDistinct-remove names n inside distinct =
    IsDistinct-from_apart bytes_eq (remove names n) (all_pairs_remove (λ x y. bytes_eq x y ≡ false) names n inside (λ i j d less within. apart_from_distinct bytes_eq names i j d distinct less within))

-- what is true of each two items is true by what a function makes of them
pairs_of_map : {X Y : Type 0} (R : Y → Y → Type 0) (f : X → Y) (xs : List X) → AllPairs (λ x y. R (f x) (f y)) xs → AllPairs R (map f xs)
pairs_of_map R f [] pairs i j e less inside = absurd (omega arith)
pairs_of_map R f (x ∷ xs) pairs i j e less inside =
    let within : j < length (x ∷ xs) = omega (arith, length-map (x ∷ xs) f) in
    let first : get_or (map f (x ∷ xs)) i e ≡ f (get_or (x ∷ xs) i x) = get_or-map f (x ∷ xs) i x e (omega arith) in
    let second : get_or (map f (x ∷ xs)) j e ≡ f (get_or (x ∷ xs) j x) = get_or-map f (x ∷ xs) j x e within in
    subst (λ y. R (get_or (map f (x ∷ xs)) i e) y) (sym second) (subst (λ z. R z (f (get_or (x ∷ xs) j x))) (sym first) (pairs i j x less within))

-- ---- what is sound in a network is so in one with the same points
All-IsBound : (net other : Plan) → length net.points ≡ length other.points → other.delay ≡ net.delay → (bounds : List Bound) → All (IsBound net) bounds → All (IsBound other) bounds
All-IsBound net other same delay bounds = All-weaker (IsBound net) (IsBound other) (IsBound-more net other (omega arith) delay) bounds

All-IsLink : (net other : Plan) → length net.points ≡ length other.points → other.delay ≡ net.delay → (links : List Link) → All (IsLink net) links → All (IsLink other) links
All-IsLink net other same delay links = All-weaker (IsLink net) (IsLink other) (IsLink-more net other (omega arith) delay) links

-- ---- the numbers of points after one is dropped
pub number_after : (dropped point : PointId) → point.0 ≢ dropped.0
    → ((point.0 < dropped.0) × ((closed_up dropped point).0 ≡ point.0)) ⊎ ((dropped.0 < point.0) × ((closed_up dropped point).0 ≡ point.0 - 1))
number_after dropped point other = by (nat_lt dropped.0 point.0) refl
  where
    by : (b : Bool) → nat_lt dropped.0 point.0 ≡ b → ((point.0 < dropped.0) × ((closed_up dropped point).0 ≡ point.0)) ⊎ ((dropped.0 < point.0) × ((closed_up dropped point).0 ≡ point.0 - 1))
    by true above = inr (grind (arith, nat_tests), ap (λ (t : Bool). (cond {A = PointId} t (record { 0 = point.0 - 1 }) point).0) above)
    by false below = inl (grind (arith, nat_tests), ap (λ (t : Bool). (cond {A = PointId} t (record { 0 = point.0 - 1 }) point).0) below)

-- two points that differ, and neither of which is dropped, differ afterwards
apart : (dropped p q : PointId) → p.0 ≢ dropped.0 → q.0 ≢ dropped.0 → p.0 ≢ q.0 → (closed_up dropped p).0 ≢ (closed_up dropped q).0
apart dropped p q p_stays q_stays differ same =
    ⊎_elim
    (λ first. ⊎_elim (λ second. differ (omega (arith, first.0, first.1, second.0, second.1))) (λ second. omega (arith, first.0, first.1, second.0, second.1)) (number_after dropped q q_stays))
    (λ first. ⊎_elim (λ second. omega (arith, first.0, first.1, second.0, second.1)) (λ second. differ (omega (arith, first.0, first.1, second.0, second.1))) (number_after dropped q q_stays))
    (number_after dropped p p_stays)

names_closed_up : (dropped : PointId) (bounds : List Bound) → map (λ (b : Bound). b.name) (closed_up_bounds dropped bounds) ≡ map (λ (b : Bound). b.name) bounds
names_closed_up dropped [] = refl
names_closed_up dropped (b ∷ bounds) = ap (λ names. b.name ∷ names) (names_closed_up dropped bounds)

-- if nothing uses a point, no bound and no link does
no_user : (bound : Option BoundId) (link : Option LinkId) → user_by bound link ≡ None → (bound ≡ None) × (link ≡ None)
no_user (Some bound) link none = absurd (cc)
no_user None (Some link) none = absurd (cc)
no_user None None none = (refl, refl)

-- a number that a plan may have stays within its size with any delay
pub shown_within_limit : (n : ℤ) (delay : ℕ) → delay ≤ most_delay → within_limit n ≡ true → unsigned_abs n + delay ≤ most_size
shown_within_limit n delay short small = let low = leb-true (unsigned_abs n) most_number small in omega (arith, low, short)

module _ (net : Plan) (sound : IsPlan net) where
  -- ---- one bound less
  pub sound_without_bound : (place : ℕ) → place < length net.bounds → IsPlan (record net { bounds = remove net.bounds place })
  sound_without_bound place inside = record {
    points_named = sound.points_named;
    points_apart = sound.points_apart;
    bounds_sound = All-IsBound net (record net { bounds = remove net.bounds place }) refl refl (remove net.bounds place) (All-remove (IsBound net) net.bounds place sound.bounds_sound);
    bounds_apart = subst (IsDistinct bytes_eq) (sym (map-remove (λ (b : Bound). b.name) net.bounds place))
        (IsDistinct-remove (map (λ (b : Bound). b.name) net.bounds) place (omega (arith, length-map net.bounds (λ (b : Bound). b.name))) sound.bounds_apart);
    links_sound = All-IsLink net (record net { bounds = remove net.bounds place }) refl refl net.links sound.links_sound;
    links_apart = sound.links_apart;
    few_points = sound.few_points;
    few_bounds = omega (arith, length-remove net.bounds place inside, sound.few_bounds);
    few_links = sound.few_links;
    short_delay = sound.short_delay;
  }

  -- ---- one link less
  pub sound_without_link : (place : ℕ) → place < length net.links → IsPlan (record net { links = remove net.links place })
  sound_without_link place inside = record {
    points_named = sound.points_named;
    points_apart = sound.points_apart;
    bounds_sound = All-IsBound net (record net { links = remove net.links place }) refl refl net.bounds sound.bounds_sound;
    bounds_apart = sound.bounds_apart;
    links_sound = All-IsLink net (record net { links = remove net.links place }) refl refl (remove net.links place) (All-remove (IsLink net) net.links place sound.links_sound);
    links_apart = all_pairs_remove (λ (l m : Link). l.to.0 ≢ m.to.0) net.links place inside sound.links_apart;
    few_points = sound.few_points;
    few_bounds = sound.few_bounds;
    few_links = omega (arith, length-remove net.links place inside, sound.few_links);
    short_delay = sound.short_delay;
  }

  -- ---- a bound with another number
  pub sound_with_number : (id : BoundId) (most : ℤ) (bound : Bound) → slice_get net.bounds id.0 ≡ Some bound → within_limit most ≡ true → IsPlan (with_number net id most bound)
  sound_with_number id most bound at small =
      let inside = slice_get_within net.bounds id.0 bound at in
      let is : get_or net.bounds id.0 bound ≡ bound = get_or_from_slice_get net.bounds id.0 bound bound at in
      let held : IsBound net bound = subst (IsBound net) is (sound.bounds_sound id.0 bound inside) in
      let now : Bound = record bound { most = most } in
      let fits : within_size most ≡ true = grind (arith, nat_tests) in
      let shown : unsigned_abs most + net.delay ≤ most_size = shown_within_limit most net.delay sound.short_delay small in
      let kept : IsBound net now = record { named = held.named; from_point = held.from_point; to_point = held.to_point; within = fits; shown_within = shown } in
      record {
        points_named = sound.points_named;
        points_apart = sound.points_apart;
        bounds_sound = All-IsBound net (with_number net id most bound) refl refl (set net.bounds id.0 now) (All-set (IsBound net) net.bounds id.0 now kept sound.bounds_sound);
        bounds_apart = subst (IsDistinct bytes_eq) (sym (map-set_same (λ (b : Bound). b.name) net.bounds id.0 now bound (ap (λ (b : Bound). b.name) (sym is)))) sound.bounds_apart;
        links_sound = All-IsLink net (with_number net id most bound) refl refl net.links sound.links_sound;
        links_apart = sound.links_apart;
        few_points = sound.few_points;
        few_bounds = omega (arith, length-set net.bounds id.0 now, sound.few_bounds);
        few_links = sound.few_links;
        short_delay = sound.short_delay;
      }

  -- ---- a link with another interval
  pub sound_with_interval : (id : LinkId) (low high : ℤ) (link : Link) → slice_get net.links id.0 ≡ Some link → pos 1 ≤ℤ low → low ≤ℤ high → within_limit high ≡ true
      → IsPlan (with_interval net id low high link)
  sound_with_interval id low high link at positive interval small =
      let inside = slice_get_within net.links id.0 link at in
      let is : get_or net.links id.0 link ≡ link = get_or_from_slice_get net.links id.0 link link at in
      let held : IsLink net link = subst (IsLink net) is (sound.links_sound id.0 link inside) in
      let now : Link = record link { low = low; high = high } in
      let fits : within_size high ≡ true = grind (arith, nat_tests) in
      let shown : unsigned_abs high + net.delay ≤ most_size = shown_within_limit high net.delay sound.short_delay small in
      let kept : IsLink net now = record { from_point = held.from_point; to_point = held.to_point; apart = held.apart; positive = positive; interval = interval; within = fits; shown_within = shown } in
      let tos = map-set_same (λ (l : Link). l.to.0) net.links id.0 now link (ap (λ (l : Link). l.to.0) (sym is)) in
      record {
        points_named = sound.points_named;
        points_apart = sound.points_apart;
        bounds_sound = All-IsBound net (with_interval net id low high link) refl refl net.bounds sound.bounds_sound;
        bounds_apart = sound.bounds_apart;
        links_sound = All-IsLink net (with_interval net id low high link) refl refl (set net.links id.0 now) (All-set (IsLink net) net.links id.0 now kept sound.links_sound);
        links_apart = pairs_from_map (λ (p q : ℕ). p ≢ q) (λ (l : Link). l.to.0) (set net.links id.0 now) (subst (AllPairs (λ (p q : ℕ). p ≢ q)) (sym tos)
            (pairs_of_map (λ (p q : ℕ). p ≢ q) (λ (l : Link). l.to.0) net.links sound.links_apart));
        few_points = sound.few_points;
        few_bounds = sound.few_bounds;
        few_links = omega (arith, length-set net.links id.0 now, sound.few_links);
        short_delay = sound.short_delay;
      }

  -- ---- one point less, which nothing uses
  module _ (dropped : PointId) (inside : dropped.0 < length net.points) (free : user_of net dropped ≡ None) where
    -- a point other than the one that is dropped is among those that are left
    stays : (point : PointId) → point.0 < length net.points → point.0 ≢ dropped.0 → (closed_up dropped point).0 < length (remove net.points dropped.0)
    stays point held other =
        let left = length-remove net.points dropped.0 inside in
        ⊎_elim (λ below. omega (arith, below.0, below.1)) (λ above. omega (arith, above.0, above.1)) (number_after dropped point other)

    pub no_bound : position (λ (b : Bound). b.from.0 == dropped.0 || b.to.0 == dropped.0) net.bounds ≡ None
    no_bound = None_from_option_map _ (position (λ (b : Bound). b.from.0 == dropped.0 || b.to.0 == dropped.0) net.bounds) (no_user (bound_user net dropped) (link_user net dropped) free).0

    pub no_link : position (λ (l : Link). l.from.0 == dropped.0 || l.to.0 == dropped.0) net.links ≡ None
    no_link = None_from_option_map _ (position (λ (l : Link). l.from.0 == dropped.0 || l.to.0 == dropped.0) net.links) (no_user (bound_user net dropped) (link_user net dropped) free).1

    bound_kept : (k : ℕ) (d : Bound) → k < length net.bounds → IsBound (without_point net dropped) (record (get_or net.bounds k d) { from = closed_up dropped (get_or net.bounds k d).from; to = closed_up dropped (get_or net.bounds k d).to })
    bound_kept k d held =
        let bound = get_or net.bounds k d in
        let was = sound.bounds_sound k d held in
        let unused = fails_from_None (λ (b : Bound). b.from.0 == dropped.0 || b.to.0 == dropped.0) net.bounds no_bound k d held in
        record {
          named = was.named;
          from_point = stays bound.from was.from_point (grind (arith, nat_tests));
          to_point = stays bound.to was.to_point (grind (arith, nat_tests));
          within = was.within;
          shown_within = was.shown_within;
        }

    unused_by_link : (k : ℕ) (d : Link) → k < length net.links → ((get_or net.links k d).from.0 ≢ dropped.0) × ((get_or net.links k d).to.0 ≢ dropped.0)
    unused_by_link k d held =
        let unused = fails_from_None (λ (l : Link). l.from.0 == dropped.0 || l.to.0 == dropped.0) net.links no_link k d held in
        (grind (arith, nat_tests), grind (arith, nat_tests))

    link_kept : (k : ℕ) (d : Link) → k < length net.links → IsLink (without_point net dropped) (record (get_or net.links k d) { from = closed_up dropped (get_or net.links k d).from; to = closed_up dropped (get_or net.links k d).to })
    link_kept k d held =
        let link = get_or net.links k d in
        let was = sound.links_sound k d held in
        let other = unused_by_link k d held in
        record {
          from_point = stays link.from was.from_point other.0;
          to_point = stays link.to was.to_point other.1;
          apart = apart dropped link.from link.to other.0 other.1 was.apart;
          positive = was.positive;
          interval = was.interval;
          within = was.within;
          shown_within = was.shown_within;
        }

    links_still_apart : AllPairs (λ (l m : Link). l.to.0 ≢ m.to.0) (closed_up_links dropped net.links)
    links_still_apart i j d less within same =
        let f : Link → Link = λ l. record l { from = closed_up dropped l.from; to = closed_up dropped l.to } in
        let short : j < length net.links = omega (arith, length-map net.links f, within) in
        let first : get_or (map f net.links) i d ≡ f (get_or net.links i d) = get_or-map f net.links i d d (omega arith) in
        let second : get_or (map f net.links) j d ≡ f (get_or net.links j d) = get_or-map f net.links j d d short in
        apart dropped (get_or net.links i d).to (get_or net.links j d).to (unused_by_link i d (omega arith)).1 (unused_by_link j d short).1 (sound.links_apart i j d less short)
        (sym (ap (λ (l : Link). l.to.0) first) ∙ same ∙ ap (λ (l : Link). l.to.0) second)

    pub sound_without_point : IsPlan (without_point net dropped)
    sound_without_point = record {
      points_named = All-remove (λ name. IsTrue (is_name name)) net.points dropped.0 sound.points_named;
      points_apart = IsDistinct-remove net.points dropped.0 inside sound.points_apart;
      bounds_sound = All-map (IsBound (without_point net dropped)) (λ (b : Bound). record b { from = closed_up dropped b.from; to = closed_up dropped b.to }) net.bounds bound_kept;
      bounds_apart = subst (IsDistinct bytes_eq) (sym (names_closed_up dropped net.bounds)) sound.bounds_apart;
      links_sound = All-map (IsLink (without_point net dropped)) (λ (l : Link). record l { from = closed_up dropped l.from; to = closed_up dropped l.to }) net.links link_kept;
      links_apart = links_still_apart;
      few_points = omega (arith, length-remove net.points dropped.0 inside, sound.few_points);
      few_bounds = omega (arith, length-map net.bounds (λ (b : Bound). record b { from = closed_up dropped b.from; to = closed_up dropped b.to }), sound.few_bounds);
      few_links = omega (arith, length-map net.links (λ (l : Link). record l { from = closed_up dropped l.from; to = closed_up dropped l.to }), sound.few_links);
      short_delay = sound.short_delay;
    }

-- ---- what is named is in its list
pub bound_within : (net : Plan) (name : List ℕ) (id : BoundId) → bound_named net name ≡ Some id → id.0 < length net.bounds
bound_within net name id named = grind (arith, common_steps)

pub link_within : (net : Plan) (to : List ℕ) (id : LinkId) → link_named net to ≡ Some id → id.0 < length net.links
link_within net to id named = by (point_named net to) named
  where
    by : (point : Option PointId) → option_and_then (activation net) point ≡ Some id → id.0 < length net.links
    by None none = absurd (cc)
    by (Some point) ends = grind (arith, common_steps)

pub point_within : (net : Plan) (name : List ℕ) (id : PointId) → point_named net name ≡ Some id → id.0 < length net.points
point_within net name id named = grind (arith, common_steps)

-- ---- the three lists make the network
pub made_of : (made : Plan) (points : List (List ℕ)) (bounds : List Bound) (links : List Link) → points ≡ made.points → bounds ≡ made.bounds → links ≡ made.links
    → record { points = points; bounds = bounds; links = links; delay = made.delay } ≡ made
made_of made points bounds links same_points same_bounds same_links = λ i. record { points = same_points i; bounds = same_bounds i; links = same_links i; delay = made.delay }

pub made_sound : (made : Plan) (points : List (List ℕ)) (bounds : List Bound) (links : List Link) → points ≡ made.points → bounds ≡ made.bounds → links ≡ made.links → IsPlan made
    → IsPlan (record { points = points; bounds = bounds; links = links; delay = made.delay })
made_sound made points bounds links same_points same_bounds same_links = subst IsPlan (sym (made_of made points bounds links same_points same_bounds same_links))

-- ---- what setting a number or an interval makes if it is not refused
pub number_set : (net : Plan) (name : List ℕ) (id : BoundId) (most : ℤ) (bound : Bound) → bound_named net name ≡ Some id → slice_get net.bounds id.0 ≡ Some bound → within_limit most ≡ true
    → edited net (edits.SetBound name most) ≡ Ok (with_number net id most bound)
number_set net name id most bound named at small =
    ap (λ (o : Option BoundId). known o (λ k. known (slice_get net.bounds k.0) (λ b. refuse_if (not (within_limit most)) (fault.Limit Number) (Ok (with_number net k most b))))) named
    ∙ ap (λ (o : Option Bound). known o (λ b. refuse_if (not (within_limit most)) (fault.Limit Number) (Ok (with_number net id most b)))) at
    ∙ ap (λ (t : Bool). refuse_if (not t) (fault.Limit Number) (Ok (with_number net id most bound))) small

pub interval_set : (net : Plan) (to : List ℕ) (id : LinkId) (low high : ℤ) (link : Link) → link_named net to ≡ Some id → slice_get net.links id.0 ≡ Some link
    → pos 1 ≤ℤ low → low ≤ℤ high → within_limit high ≡ true
    → edited net (edits.SetLink to low high) ≡ Ok (with_interval net id low high link)
interval_set net to id low high link named at positive interval small =
    let good : (int_lt low (pos 1) || int_lt high low) ≡ false = grind (arith, ints) in
    ap (λ (o : Option LinkId). known o (λ k. known (slice_get net.links k.0) (λ l. refuse_if (int_lt low (pos 1) || int_lt high low) fault.BadInterval
    (refuse_if (not (within_limit high)) (fault.Limit Number) (Ok (with_interval net k low high l)))))) named
    ∙ ap (λ (o : Option Link). known o (λ l. refuse_if (int_lt low (pos 1) || int_lt high low) fault.BadInterval (refuse_if (not (within_limit high)) (fault.Limit Number) (Ok (with_interval net id low high l))))) at
    ∙ ap (λ (t : Bool). refuse_if t fault.BadInterval (refuse_if (not (within_limit high)) (fault.Limit Number) (Ok (with_interval net id low high link)))) good
    ∙ ap (λ (t : Bool). refuse_if (not t) (fault.Limit Number) (Ok (with_interval net id low high link))) small

-- a bound of the network is given another number: that is a network, and what the edit makes
pub number_made : (net : Plan) → IsPlan net → (name : List ℕ) (id : BoundId) (most : ℤ) (bound : Bound) → bound_named net name ≡ Some id → bound ≡ get_or net.bounds id.0 bound → within_limit most ≡ true
    → IsPlan (with_number net id most bound) × (edited net (edits.SetBound name most) ≡ Ok (with_number net id most bound))
number_made net sound name id most bound named is small =
    let at = slice_get_read net.bounds (length net.bounds) id.0 bound refl (bound_within net name id named) is in
    (sound_with_number net sound id most bound at small, number_set net name id most bound named at small)

-- the same of a link and its interval
pub interval_made : (net : Plan) → IsPlan net → (to : List ℕ) (id : LinkId) (low high : ℤ) (d : Link) → link_named net to ≡ Some id → int_lt low (pos 1) ≡ false → int_lt high low ≡ false → within_limit high ≡ true
    → IsPlan (with_interval net id low high (get_or net.links id.0 d)) × (edited net (edits.SetLink to low high) ≡ Ok (with_interval net id low high (get_or net.links id.0 d)))
interval_made net sound to id low high d named above ordered small =
    let at = slice_get-get_or net.links id.0 d (link_within net to id named) in
    let positive : pos 1 ≤ℤ low = grind (arith, ints) in
    let interval : low ≤ℤ high = grind (arith, ints) in
    (sound_with_interval net sound id low high (get_or net.links id.0 d) at positive interval small, interval_set net to id low high (get_or net.links id.0 d) named at positive interval small)

-- ---- what setting a number or an interval answers if it is refused
-- what comes of what was found, and of what was read there, if that is refused
known_refused : {A B : Type 0} (found : Option A) (a : A) (seen : A → Option B) (b : B) (next : A → B → Result Plan EditFault) (cause : EditFault)
    → found ≡ Some a → seen a ≡ Some b → next a b ≡ Err cause → known found (λ x. known (seen x) (next x)) ≡ Err cause
known_refused {A} {B} found a seen b next cause is here refused =
    ap (λ (o : Option A). known o (λ x. known (seen x) (next x))) is ∙ ap (λ (o : Option B). known o (next a)) here ∙ refused

module _ (net : Plan) (to : List ℕ) (id : LinkId) (low high : ℤ) (d : Link) (named : link_named net to ≡ Some id) where
  setting : (cause : EditFault)
      → refuse_if (int_lt low (pos 1) || int_lt high low) fault.BadInterval (refuse_if (not (within_limit high)) (fault.Limit Number) (Ok (with_interval net id low high (get_or net.links id.0 d)))) ≡ Err cause
      → edited net (edits.SetLink to low high) ≡ Err cause
  setting cause refused =
      known_refused (link_named net to) id (λ k. slice_get net.links k.0) (get_or net.links id.0 d)
      (λ k l. refuse_if (int_lt low (pos 1) || int_lt high low) fault.BadInterval (refuse_if (not (within_limit high)) (fault.Limit Number) (Ok (with_interval net k low high l))))
      cause named (slice_get-get_or net.links id.0 d (link_within net to id named)) refused

  pub interval_refused : (int_lt low (pos 1) || int_lt high low) ≡ true → edited net (edits.SetLink to low high) ≡ Err fault.BadInterval
  interval_refused bad =
      setting fault.BadInterval (ap (λ (t : Bool). refuse_if t fault.BadInterval (refuse_if (not (within_limit high)) (fault.Limit Number) (Ok (with_interval net id low high (get_or net.links id.0 d))))) bad)

  pub longest_refused : int_lt low (pos 1) ≡ false → int_lt high low ≡ false → within_limit high ≡ false → edited net (edits.SetLink to low high) ≡ Err (fault.Limit Number)
  longest_refused above ordered great =
      setting (fault.Limit Number) (λ i. refuse_if (above i || ordered i) fault.BadInterval (refuse_if (not (great i)) (fault.Limit Number) (Ok (with_interval net id low high (get_or net.links id.0 d)))))

-- ---- what is declared with a number that a plan may have
pub named_within : (net : Plan) (name : List ℕ) (id : PointId) → named net name ≡ Ok id → id.0 < length net.points
named_within net name id is = by (point_named net name) refl is
  where
    by : (found : Option PointId) → point_named net name ≡ found → elim found as (λ _. Result PointId PartFault) [ Some p ↦ Ok p | None ↦ Err part.UnknownName ] ≡ Ok id → id.0 < length net.points
    by None none gave = absurd (cc)
    by (Some p) at gave = let same : p ≡ id = cc in point_within net name id (at ∙ ap (λ (q : PointId). Some q) same)

pub within_sizes : (n : ℤ) → within_limit n ≡ true → within_size n ≡ true
within_sizes n small = grind (arith, nat_tests)

pub declared_bound : (net : Plan) → IsPlan net → (bound : Bound) → IsTrue (is_name bound.name) → bound.from.0 < length net.points → bound.to.0 < length net.points → within_limit bound.most ≡ true → IsBound net bound
declared_bound net sound bound is from_held to_held small = record {
  named = is;
  from_point = from_held;
  to_point = to_held;
  within = within_sizes bound.most small;
  shown_within = shown_within_limit bound.most net.delay sound.short_delay small;
}

-- an addition is refused as its part is
pub refused_part : (old new : Plan) (cause : PartFault) (answer : Result Plan PartFault) → Adds old new (Err cause) answer → Edits (Err (cause_of cause)) (added answer)
refused_part old new part.DuplicateName answer adds = ap added adds.0
refused_part old new part.UnknownName answer adds = ap added adds.0
refused_part old new part.TwoLinksOnPoint answer adds = ap added adds.0
refused_part old new part.LinkToItself answer adds = ap added adds.0
refused_part old new part.BadInterval answer adds = ap added adds.0
refused_part old new (part.Limit which) answer adds = ap added adds.0
refused_part old new part.OutOfMemory answer adds = tt
