-- The shown form of a network is a network, with numbers near to those of the network; without a delay it is the network itself.
use Rattle.std.proofs.Common.{◌≡◌, ℕ, ℤ, pos, zero, suc, take, drop, ◌+◌, ◌<◌, ◌≤◌, ◌+ℤ◌, ◌-ℤ◌, ◌≤ℤ◌, List, [], ◌∷◌, ◌++◌, append_assoc, length, map, get_or, refl, sym, ap, subst, ◌∙◌, arith, unsigned_abs, true, false, Bool, cond, w64}
use Rattle.std.proofs.Common.{to_z, of_z}
use Rattle.std.specs.Prelude.{is_some, fold, max}
use Rattle.std.specs.List.{All, IsDistinct}
use Rattle.std.specs.Str.{bytes_eq}
use Rattle.std.proofs.lemmas.Int.{ints, to_z-of_z, fits_signed_from_abs}
use Rattle.std.proofs.lemmas.Bool.{le-leb}
use Rattle.std.proofs.lemmas.List.{length-map, get_or-map, map_more}
use Rattle.std.proofs.lemmas.List.Elements.{All-map}
use Rattle.net_model.specs.Limits.{most_size, most_bounds, most_links}
use Rattle.net_model.specs.Network.{Plan, IsPlan, IsBound, IsLink, activation, greatest}
use Rattle.net_model.specs.ShownForm.{lag, gain, shown_bound, shown_link, shown_form, shown_durations}
use Rattle.net_model.specs.declared.ids.PointId.{PointId}
use Rattle.net_model.specs.declared.part.Bound.{Bound}
use Rattle.net_model.specs.declared.part.Link.{Link}

-- ---- a list that is made of another, item by item: `ys` is `xs` as it is read
module _ {X : Type 0} (xs ys : List X) (k : ℕ) (x : X) (same : ys ≡ xs) (inside : k < length ys) (at : x ≡ get_or ys k x) where
  here : get_or xs k x ≡ x
  here = ap (λ (zs : List X). get_or zs k x) (sym same) ∙ sym at

  within : k < length xs
  within = subst (λ (zs : List X). k < length zs) same inside

  pub of_each : (P : X → Type 0) → All P xs → P x
  of_each P all = subst P here (all k x within)

  pub mapped_next : {Y : Type 0} (f : X → Y) (made more : List Y) (y : Y) → made ≡ map f (take k xs) → more ≡ made ++ y ∷ [] → y ≡ f x → more ≡ map f (take (k + 1) xs)
  mapped_next f made more y before pushed is =
      pushed ∙ (λ i. before i ++ (is ∙ ap f (sym here)) i ∷ []) ∙ sym (map_more f xs k x within)

pub at_most_delay : (b : Bool) (delay : ℕ) → cond b delay 0 ≤ delay
at_most_delay true delay = omega arith
at_most_delay false delay = omega arith

pub at_most_gain : (b : Bool) (delay : ℕ) → cond b 0 delay ≤ delay
at_most_gain true delay = omega arith
at_most_gain false delay = omega arith

-- a number that is within a size with the delay is within it as it is shown
both_fit : (n : ℤ) (a b delay : ℕ) → a ≤ delay → b ≤ delay → unsigned_abs n + delay ≤ most_size → unsigned_abs ((n +ℤ pos a) -ℤ pos b) ≤ most_size
both_fit n a b delay least more within = grind (arith, ints)

one_fits : (n : ℤ) (a delay : ℕ) → a ≤ delay → unsigned_abs n + delay ≤ most_size → unsigned_abs (n +ℤ pos a) ≤ most_size
one_fits n a delay least within = grind (arith, ints)

-- numbers that are small are read from their machine words as they are
as_read : ℤ → ℤ
as_read n = to_z w64 (of_z w64 n)

read_small : (n : ℤ) → unsigned_abs n ≤ most_size → as_read n ≡ n
unfolding as_read
read_small n small = to_z-of_z w64 n (fits_signed_from_abs w64 n (omega (arith, small)))

-- what a number and what lags make, as it is read
module _ (n x : ℤ) (a delay : ℕ) (is : x ≡ pos a) (least : a ≤ delay) (fits : unsigned_abs n + delay ≤ most_size) where
  pub sum_read : to_z w64 (of_z w64 (to_z w64 (of_z w64 n) +ℤ to_z w64 (of_z w64 x))) ≡ n +ℤ pos a
  unfolding as_read
  sum_read =
      let number = read_small n (omega (arith, fits)) in
      let lags = ap as_read is ∙ read_small (pos a) (omega (arith, least, fits)) in
      (λ i. as_read (number i +ℤ lags i)) ∙ read_small (n +ℤ pos a) (one_fits n a delay least fits)

  pub difference_read : (y : ℤ) (b : ℕ) → y ≡ pos b → b ≤ delay
      → to_z w64 (of_z w64 (to_z w64 (of_z w64 (to_z w64 (of_z w64 n) +ℤ to_z w64 (of_z w64 x))) -ℤ to_z w64 (of_z w64 y))) ≡ (n +ℤ pos a) -ℤ pos b
  unfolding as_read
  difference_read y b y_is more =
      let lags = ap as_read y_is ∙ read_small (pos b) (omega (arith, more, fits)) in
      (λ i. as_read (sum_read i -ℤ lags i)) ∙ read_small ((n +ℤ pos a) -ℤ pos b) (both_fit n a b delay least more fits)

pub least_fits : (low high : ℤ) (delay : ℕ) → pos 1 ≤ℤ low → low ≤ℤ high → unsigned_abs high + delay ≤ most_size → unsigned_abs low + delay ≤ most_size
least_fits low high delay positive interval fits = omega (arith, ints, positive, interval, fits)

same_names : (net : Plan) (bounds : List Bound) → map (λ (b : Bound). b.name) bounds ≡ map (λ (b : Bound). b.name) (map (shown_bound net) bounds)
same_names net [] = refl
same_names net (b ∷ bounds) = ap (λ (names : List (List ℕ)). b.name ∷ names) (same_names net bounds)

-- the durations from a place on, as they are shown, begin with that of the place
first_duration : (net : Plan) (links : List Link) (durations : List ℕ) (k : ℕ) (l : Link) (d : ℕ) → k < length links → k < length durations
    → shown_durations net (drop k links) (drop k durations) ≡ (get_or durations k d + gain net (get_or links k l)) ∷ shown_durations net (drop (suc k) links) (drop (suc k) durations)
first_duration net [] durations k l d inside within = absurd (omega (arith, inside))
first_duration net (m ∷ links) [] k l d inside within = absurd (omega (arith, within))
first_duration net (m ∷ links) (e ∷ durations) zero l d inside within = refl
first_duration net (m ∷ links) (e ∷ durations) (suc k) l d inside within = first_duration net links durations k l d (omega (arith, inside)) (omega (arith, within))

pub durations_next : (net : Plan) (links : List Link) (durations made more : List ℕ) (k : ℕ) (l : Link) (d : ℕ) → k < length links → k < length durations
    → more ≡ made ++ (get_or durations k d + gain net (get_or links k l)) ∷ []
    → more ++ shown_durations net (drop (k + 1) links) (drop (k + 1) durations) ≡ made ++ shown_durations net (drop k links) (drop k durations)
durations_next net links durations made more k l d inside within pushed =
    let here = get_or durations k d + gain net (get_or links k l) in
    let rest = shown_durations net (drop (suc k) links) (drop (suc k) durations) in
    let after : k + 1 ≡ suc k = omega arith in
    ap (λ (j : ℕ). more ++ shown_durations net (drop j links) (drop j durations)) after
    ∙ ap (λ (ds : List ℕ). ds ++ rest) pushed
    ∙ append_assoc made (here ∷ []) rest
    ∙ ap (λ (ds : List ℕ). made ++ ds) (sym (first_duration net links durations k l d inside within))

pub durations_end : (net : Plan) (links : List Link) (durations : List ℕ) (k : ℕ) → length links ≤ k → shown_durations net (drop k links) (drop k durations) ≡ []
durations_end net [] durations zero past = refl
durations_end net [] durations (suc k) past = refl
durations_end net (m ∷ links) durations zero past = absurd (omega (arith, past))
durations_end net (m ∷ links) [] (suc k) past = by (drop k links)
  where
    by : (ls : List Link) → shown_durations net ls [] ≡ []
    by [] = refl
    by (x ∷ ls) = refl
durations_end net (m ∷ links) (e ∷ durations) (suc k) past = durations_end net links durations k (omega (arith, past))

module _ (net : Plan) where
  bound_sound : (bound : Bound) → IsBound net bound → IsBound (shown_form net) (shown_bound net bound)
  bound_sound bound sound =
      let fits = both_fit bound.most (lag net bound.to) (lag net bound.from) net.delay (at_most_delay (is_some (activation net bound.to)) net.delay)
      (at_most_delay (is_some (activation net bound.from)) net.delay) sound.shown_within in
      record {
        named = sound.named;
        from_point = sound.from_point;
        to_point = sound.to_point;
        within = le-leb (unsigned_abs (shown_bound net bound).most) most_size fits;
        shown_within = omega (arith, fits);
      }

  link_sound : (link : Link) → IsLink net link → IsLink (shown_form net) (shown_link net link)
  link_sound link sound =
      let positive = sound.positive in
      let interval = sound.interval in
      let fits = one_fits link.high (gain net link) net.delay (at_most_gain (is_some (activation net link.from)) net.delay) sound.shown_within in
      record {
        from_point = sound.from_point;
        to_point = sound.to_point;
        apart = sound.apart;
        positive = omega (arith, ints, positive);
        interval = omega (arith, ints, interval);
        within = le-leb (unsigned_abs (shown_link net link).high) most_size fits;
        shown_within = omega (arith, fits);
      }

  pub shown_sound : IsPlan net → IsPlan (shown_form net)
  shown_sound plan = record {
    points_named = plan.points_named;
    points_apart = plan.points_apart;
    bounds_sound = All-map (IsBound (shown_form net)) (shown_bound net) net.bounds (λ k d inside. bound_sound (get_or net.bounds k d) (plan.bounds_sound k d inside));
    bounds_apart = subst (IsDistinct bytes_eq) (same_names net net.bounds) plan.bounds_apart;
    links_sound = All-map (IsLink (shown_form net)) (shown_link net) net.links (λ k d inside. link_sound (get_or net.links k d) (plan.links_sound k d inside));
    links_apart = λ i j d before inside same.
        let within : j < length net.links = subst (λ (n : ℕ). j < n) (length-map net.links (shown_link net)) inside in
        let first = get_or-map (shown_link net) net.links i d d (omega (arith, before, within)) in
        let second = get_or-map (shown_link net) net.links j d d within in
        plan.links_apart i j d before within (sym (ap (λ (l : Link). l.to.0) first) ∙ same ∙ ap (λ (l : Link). l.to.0) second);
    few_points = plan.few_points;
    few_bounds = subst (λ (n : ℕ). n ≤ most_bounds) (sym (length-map net.bounds (shown_bound net))) plan.few_bounds;
    few_links = subst (λ (n : ℕ). n ≤ most_links) (sym (length-map net.links (shown_link net))) plan.few_links;
    short_delay = omega arith;
  }

-- ---- its numbers
size_near : (n : ℤ) (a b delay : ℕ) → a ≤ delay → b ≤ delay → unsigned_abs ((n +ℤ pos a) -ℤ pos b) ≤ unsigned_abs n + delay
size_near n a b delay least more = grind (arith, ints)

size_above : (n : ℤ) (a delay : ℕ) → a ≤ delay → unsigned_abs (n +ℤ pos a) ≤ unsigned_abs n + delay
size_above n a delay least = grind (arith, ints)

-- the greatest of sizes that each grow by no more than so much grows by no more than that
greatest_near : {X : Type 0} (size : X → ℕ) (change : X → X) (more : ℕ) → ((x : X) → size (change x) ≤ size x + more) → (start next : ℕ) (xs : List X) → next ≤ start + more
    → fold (λ m x. max m (size x)) next (map change xs) ≤ fold (λ m x. max m (size x)) start xs + more
greatest_near size change more near start next [] low = low
greatest_near size change more near start next (x ∷ xs) low =
    let here = near x in
    greatest_near size change more near (max start (size x)) (max next (size (change x))) xs (omega (arith, low, here))

module _ (net : Plan) where
  bound_near : (bound : Bound) → unsigned_abs (shown_bound net bound).most ≤ unsigned_abs bound.most + net.delay
  bound_near bound = size_near bound.most (lag net bound.to) (lag net bound.from) net.delay (at_most_delay (is_some (activation net bound.to)) net.delay)
      (at_most_delay (is_some (activation net bound.from)) net.delay)

  link_near : (link : Link) → unsigned_abs (shown_link net link).high ≤ unsigned_abs link.high + net.delay
  link_near link = size_above link.high (gain net link) net.delay (at_most_gain (is_some (activation net link.from)) net.delay)

  pub shown_near : greatest (shown_form net) ≤ greatest net + net.delay
  shown_near =
      let bounds = greatest_near (λ (b : Bound). unsigned_abs b.most) (shown_bound net) net.delay bound_near 0 0 net.bounds (omega arith) in
      let links = greatest_near (λ (l : Link). unsigned_abs l.high) (shown_link net) net.delay link_near 0 0 net.links (omega arith) in
      omega (arith, bounds, links)

-- with a delay of 0 the shown form is the network
module _ (net : Plan) (none : net.delay ≡ 0) where
  no_lag : (point : PointId) → lag net point ≡ 0
  no_lag point = by (is_some (activation net point))
    where
      by : (b : Bool) → cond b net.delay 0 ≡ 0
      by true = none
      by false = refl

  no_gain : (link : Link) → gain net link ≡ 0
  no_gain link = by (is_some (activation net link.from))
    where
      by : (b : Bool) → cond b 0 net.delay ≡ 0
      by true = refl
      by false = none

  same_most : (bound : Bound) → (shown_bound net bound).most ≡ bound.most
  same_most bound = let to = no_lag bound.to in let from = no_lag bound.from in omega (arith, ints, to, from)

  same_bounds : (bounds : List Bound) → map (shown_bound net) bounds ≡ bounds
  same_bounds [] = refl
  same_bounds (bound ∷ bounds) = λ i. record bound { most = same_most bound i } ∷ same_bounds bounds i

  same_low : (link : Link) → (shown_link net link).low ≡ link.low
  same_low link = let gains = no_gain link in omega (arith, ints, gains)

  same_high : (link : Link) → (shown_link net link).high ≡ link.high
  same_high link = let gains = no_gain link in omega (arith, ints, gains)

  same_links : (links : List Link) → map (shown_link net) links ≡ links
  same_links [] = refl
  same_links (link ∷ links) = λ i. record link { low = same_low link i; high = same_high link i } ∷ same_links links i

  pub shown_same : shown_form net ≡ net
  shown_same = λ i. record { points = net.points; bounds = same_bounds net.bounds i; links = same_links net.links i; delay = sym none i }
