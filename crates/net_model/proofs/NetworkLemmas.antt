-- A network with one more point, bound or link is a network, and its numbers are no greater than the limit.
use Rattle.std.proofs.Common.{◌≡◌, ◌≢◌, ℕ, ◌+◌, ◌<◌, ◌≤◌, ◌==◌, Bool, true, false, List, [], ◌∷◌, ◌++◌, length, map, filter, cond, take, get_or, fold, max, ℤ, unsigned_abs, None, position, IsTrue, refl, ap, sym, ◌∙◌, arith}
use Rattle.std.specs.List.{All}
use Rattle.std.specs.Str.{bytes_eq}
use Rattle.std.proofs.lemmas.Grind.{common_steps}
use Rattle.std.proofs.lemmas.Bool.Decides.{nat_tests}
use Rattle.std.proofs.lemmas.Bool.{false≢true}
use Rattle.std.proofs.lemmas.Slice.Eq.{bytes_eq-Decides}
use Rattle.std.specs.Option.{option_map}
use Rattle.std.specs.List.{enumerate_from}
use Rattle.std.proofs.lemmas.List.{take_more, append-nil, map-append}
use Rattle.std.proofs.lemmas.List.Elements.{filter-append}
use Rattle.net_model.specs.declared.ids.LinkId.{LinkId}
use Rattle.std.proofs.lemmas.Cmp.{nat_list_eq_equiv}
use Rattle.std.proofs.lemmas.List.Elements.{All-push, All-weaker, All-head, All-tail}
use Rattle.std.proofs.lemmas.List.Quantifiers.{all_pairs_push}
use Rattle.std.proofs.lemmas.Map.Keys.{IsDistinct-push}
use Rattle.net_model.proofs.Positions.{None_from_option_map, fails_from_None, None_from_fails, list_any_from_None, position-map}
use Rattle.net_model.specs.Names.{is_name}
use Rattle.net_model.specs.Network.{Plan, IsPlan, IsBound, IsLink, point_named, bound_named, activation, greatest}
use Rattle.net_model.specs.Limits.{most_points, most_links, most_bounds, most_size, within_size}
use Rattle.net_model.specs.declared.part.Bound.{Bound}
use Rattle.net_model.specs.declared.part.Link.{Link}

-- ---- what is sound in a network is so in one with as many points or more
pub IsBound-more : (net more : Plan) → length net.points ≤ length more.points → more.delay ≡ net.delay → (bound : Bound) → IsBound net bound → IsBound more bound
IsBound-more net more grown same bound sound = record {
  named = sound.named;
  from_point = omega arith;
  to_point = omega arith;
  within = sound.within;
  shown_within = omega (arith, sound.shown_within, same);
}

pub IsLink-more : (net more : Plan) → length net.points ≤ length more.points → more.delay ≡ net.delay → (link : Link) → IsLink net link → IsLink more link
IsLink-more net more grown same link sound = record {
  from_point = omega arith;
  to_point = omega arith;
  apart = sound.apart;
  positive = sound.positive;
  interval = sound.interval;
  within = sound.within;
  shown_within = omega (arith, sound.shown_within, same);
}

module _ (net more : Plan) (grown : length net.points ≤ length more.points) (same : more.delay ≡ net.delay) where
  All-IsBound-more : (bounds : List Bound) → All (IsBound net) bounds → All (IsBound more) bounds
  All-IsBound-more bounds = All-weaker (IsBound net) (IsBound more) (IsBound-more net more grown same) bounds

  All-IsLink-more : (links : List Link) → All (IsLink net) links → All (IsLink more) links
  All-IsLink-more links = All-weaker (IsLink net) (IsLink more) (IsLink-more net more grown same) links

-- ---- one more point
abbrev pub more_points : Plan → List ℕ → Plan
more_points net name = record net { points = net.points ++ name ∷ [] }

pub IsPlan-more_points : (net : Plan) (name : List ℕ) → IsPlan net → IsTrue (is_name name) → point_named net name ≡ None → length net.points < most_points → IsPlan (more_points net name)
IsPlan-more_points net name plan named not_taken spare_capacity =
    let none = None_from_option_map _ (position (bytes_eq name) net.points) not_taken in
    let grown : length net.points ≤ length (net.points ++ name ∷ []) = grind (arith, common_steps) in
    record {
      points_named = All-push (λ n. IsTrue (is_name n)) net.points name plan.points_named named;
      points_apart = IsDistinct-push nat_list_eq_equiv net.points name plan.points_apart (list_any_from_None (bytes_eq name) net.points none);
      bounds_sound = All-IsBound-more net (more_points net name) grown refl net.bounds plan.bounds_sound;
      bounds_apart = plan.bounds_apart;
      links_sound = All-IsLink-more net (more_points net name) grown refl net.links plan.links_sound;
      links_apart = plan.links_apart;
      few_points = grind (arith, common_steps);
      few_bounds = plan.few_bounds;
      few_links = plan.few_links;
      short_delay = plan.short_delay;
    }

-- ---- one more bound
abbrev pub more_bounds : Plan → Bound → Plan
more_bounds net bound = record net { bounds = net.bounds ++ bound ∷ [] }

abbrev pub names_of : List Bound → List (List ℕ)
names_of bounds = map (λ (b : Bound). b.name) bounds

pub names_of-push : (bounds : List Bound) (bound : Bound) → names_of (bounds ++ bound ∷ []) ≡ names_of bounds ++ bound.name ∷ []
names_of-push bounds bound = grind (arith, common_steps)

-- the bound of a name, by the list of the names
pub bound_named-names_of : (net : Plan) (name : List ℕ) → option_map (λ k. record { 0 = k }) (position (bytes_eq name) (names_of net.bounds)) ≡ bound_named net name
bound_named-names_of net name = ap (option_map (λ k. record { 0 = k })) (position-map (bytes_eq name) (λ (b : Bound). b.name) net.bounds)

-- no bound has a name that is free
pub free_name : (net : Plan) (name : List ℕ) → bound_named net name ≡ None → position (bytes_eq name) (names_of net.bounds) ≡ None
free_name net name not_taken =
    position-map (bytes_eq name) (λ (b : Bound). b.name) net.bounds ∙ None_from_option_map _ (position (λ (b : Bound). bytes_eq name b.name) net.bounds) not_taken

pub IsPlan-more_bounds : (net : Plan) (bound : Bound) → IsPlan net → IsBound net bound → bound_named net bound.name ≡ None → length net.bounds < most_bounds → IsPlan (more_bounds net bound)
IsPlan-more_bounds net bound plan sound not_taken spare_capacity = record {
  points_named = plan.points_named;
  points_apart = plan.points_apart;
  bounds_sound = All-IsBound-more net (more_bounds net bound) (omega arith) refl (net.bounds ++ bound ∷ []) (All-push (IsBound net) net.bounds bound plan.bounds_sound sound);
  bounds_apart = rw (names_of-push net.bounds bound) (IsDistinct-push nat_list_eq_equiv (names_of net.bounds) bound.name plan.bounds_apart
      (list_any_from_None (bytes_eq bound.name) (names_of net.bounds) (free_name net bound.name not_taken)));
  links_sound = All-IsLink-more net (more_bounds net bound) (omega arith) refl net.links plan.links_sound;
  links_apart = plan.links_apart;
  few_points = plan.few_points;
  few_bounds = grind (arith, common_steps);
  few_links = plan.few_links;
  short_delay = plan.short_delay;
}

-- ---- one more link
abbrev pub more_links : Plan → Link → Plan
more_links net link = record net { links = net.links ++ link ∷ [] }

pub IsPlan-more_links : (net : Plan) (link : Link) → IsPlan net → IsLink net link → activation net link.to ≡ None → length net.links < most_links → IsPlan (more_links net link)
IsPlan-more_links net link plan sound not_taken spare_capacity =
    let none = None_from_option_map _ (position (λ (l : Link). l.to.0 == link.to.0) net.links) not_taken in
    record {
      points_named = plan.points_named;
      points_apart = plan.points_apart;
      bounds_sound = All-IsBound-more net (more_links net link) (omega arith) refl net.bounds plan.bounds_sound;
      bounds_apart = plan.bounds_apart;
      links_sound = All-IsLink-more net (more_links net link) (omega arith) refl (net.links ++ link ∷ []) (All-push (IsLink net) net.links link plan.links_sound sound);
      links_apart = all_pairs_push (λ (l m : Link). l.to.0 ≢ m.to.0) net.links link plan.links_apart
          (λ k d inside same.
          let apart = fails_from_None (λ (l : Link). l.to.0 == link.to.0) net.links none k d inside in
          grind (arith, nat_tests));
      few_points = plan.few_points;
      few_bounds = plan.few_bounds;
      few_links = grind (arith, common_steps);
      short_delay = plan.short_delay;
    }

-- no link ends in a number that is no point
pub activation-past : (net : Plan) → IsPlan net → (p : ℕ) → length net.points ≤ p → activation net (record { 0 = p }) ≡ None
activation-past net plan p past =
    let none = None_from_fails (λ (l : Link). l.to.0 == p) net.links
    (All-weaker (IsLink net) (λ (l : Link). l.to.0 == p ≡ false) (λ l sound. other l.to.0 sound.to_point) net.links plan.links_sound) in
    ap (option_map (λ k. record { 0 = k })) none
  where
    other : (q : ℕ) → q < length net.points → q == p ≡ false
    other q inside = grind (arith, nat_tests)

-- ---- a text that is no name
differs : (text name : List ℕ) → is_name text ≡ false → IsTrue (is_name name) → bytes_eq text name ≡ false
differs text name bad good = by (bytes_eq text name) refl
  where
    by : (b : Bool) → bytes_eq text name ≡ b → b ≡ false
    by true same = absurd (false≢true (sym bad ∙ ap is_name ((bytes_eq-Decides text name).0 same) ∙ good))
    by false other = refl

pub point_named-bad : (net : Plan) → IsPlan net → (text : List ℕ) → is_name text ≡ false → point_named net text ≡ None
point_named-bad net plan text bad =
    let none = None_from_fails (bytes_eq text) net.points
    (All-weaker (λ name. IsTrue (is_name name)) (λ name. bytes_eq text name ≡ false) (λ name good. differs text name bad good) net.points plan.points_named) in
    ap (option_map (λ k. record { 0 = k })) none

pub bound_named-bad : (net : Plan) → IsPlan net → (text : List ℕ) → is_name text ≡ false → bound_named net text ≡ None
bound_named-bad net plan text bad =
    let none = None_from_fails (λ (b : Bound). bytes_eq text b.name) net.bounds
    (All-weaker (IsBound net) (λ (b : Bound). bytes_eq text b.name ≡ false) (λ b sound. differs text b.name bad sound.named) net.bounds plan.bounds_sound) in
    ap (option_map (λ k. record { 0 = k })) none

-- ---- the links that begin in a point
abbrev pub outgoing : ℕ → List Link → List LinkId
outgoing point links = map (λ (e : ℕ × Link). record { 0 = e.0 }) (filter (λ (e : ℕ × Link). e.1.from.0 == point) (enumerate_from 0 links))

pub enumerate_from-push : {X : Type 0} (n m : ℕ) (xs : List X) (x : X) → m ≡ n + length xs → enumerate_from n (xs ++ x ∷ []) ≡ enumerate_from n xs ++ (m, x) ∷ []
enumerate_from-push n m [] x at = let same : n ≡ m = omega arith in ap (λ k. (k, x) ∷ []) same
enumerate_from-push n m (y ∷ xs) x at = ap (λ es. (n, y) ∷ es) (enumerate_from-push (n + 1) m xs x (omega arith))

outgoing-push : (point place : ℕ) (links : List Link) (link : Link) → place ≡ length links
    → outgoing point (links ++ link ∷ []) ≡ outgoing point links ++ map (λ (e : ℕ × Link). record { 0 = e.0 }) (filter (λ (e : ℕ × Link). e.1.from.0 == point) ((place, link) ∷ []))
outgoing-push point place links link at = rw (enumerate_from-push 0 place links link (omega arith), filter-append, map-append)

module _ (point place : ℕ) (links : List Link) (d : Link) (inside : place < length links) where
  links_from_more : outgoing point (take (place + 1) links) ≡ outgoing point (take place links) ++ map (λ (e : ℕ × Link). record { 0 = e.0 }) (filter (λ (e : ℕ × Link). e.1.from.0 == point) ((place, get_or links place d) ∷ []))
  links_from_more = ap (outgoing point) (take_more links place d inside) ∙ outgoing-push point place (take place links) (get_or links place d) (grind (arith, common_steps))

  pub links_from_more_yes : (get_or links place d).from.0 == point ≡ true → outgoing point (take (place + 1) links) ≡ outgoing point (take place links) ++ record { 0 = place } ∷ []
  links_from_more_yes begins = links_from_more ∙ ap (λ (t : Bool). outgoing point (take place links) ++ map (λ (e : ℕ × Link). record { 0 = e.0 }) (cond t ((place, get_or links place d) ∷ []) [])) begins

  pub links_from_more_no : (get_or links place d).from.0 == point ≡ false → outgoing point (take (place + 1) links) ≡ outgoing point (take place links)
  links_from_more_no other = links_from_more ∙ ap (λ (t : Bool). outgoing point (take place links) ++ map (λ (e : ℕ × Link). record { 0 = e.0 }) (cond t ((place, get_or links place d) ∷ []) [])) other ∙ append-nil _

-- ---- numbers
pub fold_max-le : {X : Type 0} (size : X → ℕ) (most start : ℕ) (xs : List X) → start ≤ most → All (λ x. size x ≤ most) xs → fold (λ m x. max m (size x)) start xs ≤ most
fold_max-le size most start [] low all = low
fold_max-le size most start (x ∷ xs) low all =
    let here = All-head (λ y. size y ≤ most) x xs all in
    fold_max-le size most (max start (size x)) xs (omega arith) (All-tail (λ y. size y ≤ most) x xs all)

within : (number : ℤ) → within_size number ≡ true → unsigned_abs number ≤ most_size
within number small = grind (arith, common_steps)

pub greatest-le : (net : Plan) → IsPlan net → greatest net ≤ most_size
greatest-le net plan =
    let bounds = fold_max-le (λ (b : Bound). unsigned_abs b.most) most_size 0 net.bounds (omega arith)
    (All-weaker (IsBound net) (λ (b : Bound). unsigned_abs b.most ≤ most_size) (λ b sound. within b.most sound.within) net.bounds plan.bounds_sound) in
    let links = fold_max-le (λ (l : Link). unsigned_abs l.high) most_size 0 net.links (omega arith)
    (All-weaker (IsLink net) (λ (l : Link). unsigned_abs l.high ≤ most_size) (λ l sound. within l.high sound.within) net.links plan.links_sound) in
    omega arith
