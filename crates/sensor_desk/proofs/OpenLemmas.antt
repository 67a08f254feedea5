-- The open points of a network are no more than its links.
use Rattle.std.proofs.Common.{◌≡◌, ◌≢◌, ℕ, ◌<◌, ◌≤◌, ◌⊎◌, true, eqb, List, length, get_or, map, Option, Some, None, is_some, refl, ap, sym, subst, ◌∙◌, inl, inr, arith}
use Rattle.std.specs.Prelude.{slice_get}
use Rattle.std.specs.List.{All, AllPairs, IsDistinct, range_with_len, list_any}
use Rattle.std.specs.Option.{option_map_or}
use Rattle.std.proofs.lemmas.Bool.{eqb-true, ne_eqb, true≢false}
use Rattle.std.proofs.lemmas.List.{get_or-map, length-map}
use Rattle.std.proofs.lemmas.List.Elements.{All-filter, filter_passes}
use Rattle.std.proofs.lemmas.List.Folds.{Any-from_list_any}
use Rattle.std.proofs.lemmas.List.FromFn.{get_or-map-range_with_len, length-map-range_with_len}
use Rattle.std.proofs.lemmas.List.Kept.{AllPairs-filter}
use Rattle.std.proofs.lemmas.Map.Keys.{IsDistinct-from_apart}
use Rattle.std.proofs.lemmas.Map.Steps.{length-le_from_distinct_below}
use Rattle.std.proofs.lemmas.Option.{none-some, same_Some, slice_get_within}
use Rattle.net_model.specs.Moments.{Moments, moment_of}
use Rattle.net_model.specs.Network.{Plan, IsPlan, activation}
use Rattle.net_model.specs.declared.ids.LinkId.{LinkId}
use Rattle.net_model.specs.declared.ids.PointId.{PointId}
use Rattle.net_model.specs.declared.part.Link.{Link}
use Rattle.closure_model.proofs.Consequences.{ends_there}
use Rattle.strategy_model.proofs.KindLemmas.{Ending, kind_of_any}
use Rattle.sensor_desk.specs.Follower.{open_link, is_open_in, open_among}

-- a point of this number
abbrev pub point_at : ℕ → PointId
point_at k = record { 0 = k }

-- so many points, in order
pub below_all : (count : ℕ) → All (λ (point : PointId). point.0 < count) (map point_at (range_with_len 0 count))
below_all count k d less =
    let inside : k < count = subst (λ (n : ℕ). k < n) (length-map-range_with_len point_at 0 count) less in
    let at = get_or-map-range_with_len point_at 0 count k k d inside (omega arith) in
    subst (λ (point : PointId). point.0 < count) (sym at) inside

pub rise_all : (count : ℕ) → AllPairs (λ (one other : PointId). one.0 < other.0) (map point_at (range_with_len 0 count))
rise_all count i j d less within =
    let inside : j < count = subst (λ (n : ℕ). j < n) (length-map-range_with_len point_at 0 count) within in
    let first = get_or-map-range_with_len point_at 0 count i i d (omega arith) (omega arith) in
    let second = get_or-map-range_with_len point_at 0 count j j d inside (omega arith) in
    subst (λ (p : PointId × PointId). p.0.0 < p.1.0) (λ k. (sym first k, sym second k)) less

pub below : (net : Plan) (moments : Moments) (count : ℕ) → All (λ (point : PointId). point.0 < count) (open_among net moments count)
below net moments count = All-filter (is_open_in net moments) (λ (point : PointId). point.0 < count) (map point_at (range_with_len 0 count)) (below_all count)

module _ (net : Plan) (plan : IsPlan net) (moments : Moments) where
  abbrev without : PointId → Option ℕ → Option LinkId
  without point moment = elim moment [ Some moment ↦ None | None ↦ activation net point ]

  -- an open point is contingent
  pub open_is : (point : PointId) (link : LinkId) → open_link net moments point ≡ Some link → activation net point ≡ Some link
  open_is point link is = by (moment_of moments point) refl
    where
      by : (moment : Option ℕ) → moment_of moments point ≡ moment → activation net point ≡ Some link
      by None has = sym (ap (without point) has) ∙ is
      by (Some moment) has = absurd (none-some link (sym (ap (without point) has) ∙ is))

  pub open_has_link : (point : PointId) → is_open_in net moments point ≡ true → (link : LinkId) × (open_link net moments point ≡ Some link)
  open_has_link point its_open = by (open_link net moments point) refl
    where
      by : (link : Option LinkId) → open_link net moments point ≡ link → (link : LinkId) × (open_link net moments point ≡ Some link)
      by None is = absurd (true≢false (sym its_open ∙ ap (λ (o : Option LinkId). is_some o) is))
      by (Some link) is = (link, is)

  pub open_ends : (point : PointId) → is_open_in net moments point ≡ true → Ending net point
  open_ends point its_open = by (kind_of_any net point)
    where
      by : (activation net point ≡ None) ⊎ Ending net point → Ending net point
      by (inl none) = let (link, is) = open_has_link point its_open in absurd (none-some link (sym none ∙ open_is point link is))
      by (inr ending) = ending

  abbrev pub number_of : PointId → ℕ
  number_of point = option_map_or (λ (link : LinkId). link.0) (activation net point) 0

  number_is : (point : PointId) (ending : Ending net point) → number_of point ≡ ending.name.0
  number_is point ending = ap (λ (o : Option LinkId). option_map_or (λ (link : LinkId). link.0) o 0) (ends_there net plan ending.name ending.link point ending.declared (sym ending.ends))

  pub open_inside : (point : PointId) → is_open_in net moments point ≡ true → number_of point < length net.links
  open_inside point its_open =
      let ending = open_ends point its_open in
      subst (λ (n : ℕ). n < length net.links) (sym (number_is point ending)) (slice_get_within net.links ending.name.0 ending.link ending.declared)

  apart : (one other : PointId) → is_open_in net moments one ≡ true → is_open_in net moments other ≡ true → one.0 < other.0 → number_of one ≢ number_of other
  apart one other opens opened less same =
      let first = open_ends one opens in
      let second = open_ends other opened in
      let name : first.name.0 ≡ second.name.0 = sym (number_is one first) ∙ (same ∙ number_is other second) in
      let link = same_Some first.link second.link (sym first.declared ∙ (ap (λ (n : ℕ). slice_get net.links n) name ∙ second.declared)) in
      let number : one.0 ≡ other.0 = ap (λ (p : PointId). p.0) (sym first.ends ∙ (ap (λ (l : Link). l.to) link ∙ second.ends)) in
      omega arith

  module _ (count : ℕ) where
    abbrev points : List PointId
    points = open_among net moments count

    abbrev numbers : List ℕ
    numbers = map number_of points

    open_all : All (λ (point : PointId). is_open_in net moments point ≡ true) points
    open_all = filter_passes (is_open_in net moments) (map point_at (range_with_len 0 count))

    rise : AllPairs (λ (one other : PointId). one.0 < other.0) points
    rise = AllPairs-filter (λ (one other : PointId). one.0 < other.0) (is_open_in net moments) (map point_at (range_with_len 0 count)) (rise_all count)

    read_number : (k d : ℕ) → k < length points → get_or numbers k d ≡ number_of (get_or points k (point_at 0))
    read_number k d less = get_or-map number_of points k (point_at 0) d less

    distinct : IsDistinct eqb numbers
    distinct =
        IsDistinct-from_apart eqb numbers
        (λ i j d less within.
        let inside : j < length points = subst (λ (n : ℕ). j < n) (length-map points number_of) within in
        let before : i < length points = omega arith in
        let d0 : PointId = point_at 0 in
        ne_eqb (get_or numbers i d) (get_or numbers j d)
        (λ same.
        apart (get_or points i d0) (get_or points j d0) (open_all i d0 before) (open_all j d0 inside) (rise i j d0 less inside)
        (sym (read_number i d before) ∙ (same ∙ read_number j d inside))))

    numbers_below : (q : ℕ) → list_any (eqb q) numbers ≡ true → q < length net.links
    numbers_below q any =
        let (k, x, within, at, is) = Any-from_list_any (eqb q) numbers any in
        let inside : k < length points = subst (λ (n : ℕ). k < n) (length-map points number_of) within in
        let same : q ≡ number_of (get_or points k (point_at 0)) = eqb-true q x is ∙ (sym at ∙ read_number k x inside) in
        subst (λ (n : ℕ). n < length net.links) (sym same) (open_inside (get_or points k (point_at 0)) (open_all k (point_at 0) inside))

    pub few_open : length (open_among net moments count) ≤ length net.links
    few_open = subst (λ (n : ℕ). n ≤ length net.links) (length-map points number_of) (length-le_from_distinct_below numbers (length net.links) distinct numbers_below)
