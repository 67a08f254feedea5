-- Climbing two chains: the weight that is left to be reduced.
use Rattle.std.proofs.Common.{◌≡◌, ◌≢◌, ℕ, suc, ◌+◌, ◌-◌, ◌*◌, ◌<◌, ◌≤◌, ℤ, pos, neg_ℤ, ◌+ℤ◌, ◌-ℤ◌, ◌≤ℤ◌, Bool, true, false, cond, not, List, [], ◌∷◌, Option, Some, None, length, is_some, w64, refl, ap, sym, subst, ◌∙◌, arith}
use Rattle.std.specs.List.{list_any, AllByRecursion}
use Rattle.std.specs.Option.{option_map, unwrap_or, IsSome}
use Rattle.std.specs.Prelude.{unsigned_abs, FitsSigned}
use Rattle.std.proofs.lemmas.Bool.{leb-true}
use Rattle.std.proofs.lemmas.Int.{ints, fits_signed_from_abs}
use Rattle.std.proofs.lemmas.Option.{none-some, same_Some}
use Rattle.std.proofs.lemmas.List.{nil_from_length}
use Rattle.net_model.specs.Network.{Plan, IsPlan, IsPoint, IsLink, IsBound}
use Rattle.net_model.specs.declared.ids.PointId.{PointId}
use Rattle.net_model.specs.declared.part.Bound.{Bound}
use Rattle.net_model.specs.declared.part.Link.{Link}
use Rattle.strategy_model.proofs.PlayLemmas.{link_sound}
use Rattle.strategy_model.proofs.MomentLemmas.{same_from_number}
use Rattle.strong_plan.specs.Chains.{IsChain, ends, goes_on, same_end, apart, sum_of, reduced_weight}
use Rattle.strong_plan.specs.ReducedEdges.{link_into, chain_of, links_of, root_of}
use Rattle.strong_plan.proofs.ChainLemmas.{one_chain, not_within}
use Rattle.strong_plan.proofs.SumLemmas.{apart_skip, apart_keep, each_among}
use Rattle.strong_plan.proofs.ReducedEdgeLemmas.{into_link, chain_sound}

-- a link that the other chain hasn't
pub weight_from : (most : ℤ) (link : Link) (c d : List Link) → list_any (same_end link) d ≡ false → reduced_weight most (link ∷ c) d ≡ reduced_weight (most +ℤ link.low) c d
weight_from most link c d none =
    let skip : sum_of (λ l. l.high) (apart d (link ∷ c)) ≡ sum_of (λ l. l.high) (apart d c) = ap (sum_of (λ (l : Link). l.high)) (apart_skip d link c none) in
    let keep : sum_of (λ l. l.low) (apart (link ∷ c) d) ≡ (link.low +ℤ sum_of (λ l. l.low) (apart c d)) = ap (sum_of (λ (l : Link). l.low)) (apart_keep link c d none) in
    omega (arith, ints, skip, keep)

pub weight_to : (most : ℤ) (link : Link) (c d : List Link) → list_any (same_end link) c ≡ false → reduced_weight most c (link ∷ d) ≡ reduced_weight (most -ℤ link.high) c d
weight_to most link c d none =
    let skip : sum_of (λ l. l.low) (apart c (link ∷ d)) ≡ sum_of (λ l. l.low) (apart c d) = ap (sum_of (λ (l : Link). l.low)) (apart_skip c link d none) in
    let keep : sum_of (λ l. l.high) (apart (link ∷ d) c) ≡ (link.high +ℤ sum_of (λ l. l.high) (apart d c)) = ap (sum_of (λ (l : Link). l.high)) (apart_keep link d c none) in
    omega (arith, ints, skip, keep)

-- the same chain twice
none_apart : (chain other : List Link) → AllByRecursion (λ link. list_any (same_end link) other ≡ true) chain → apart chain other ≡ []
none_apart [] other all = refl
none_apart (link ∷ chain) other all = ap (λ (b : Bool). cond (not b) (link ∷ apart chain other) (apart chain other)) all.0 ∙ none_apart chain other all.1

pub weight_same : (most : ℤ) (c : List Link) → reduced_weight most c c ≡ most
weight_same most c =
    let none = none_apart c c (each_among c) in
    let high : sum_of (λ l. l.high) (apart c c) ≡ pos 0 = ap (sum_of (λ (l : Link). l.high)) none in
    let low : sum_of (λ l. l.low) (apart c c) ≡ pos 0 = ap (sum_of (λ (l : Link). l.low)) none in
    omega (arith, ints, high, low)

-- how two climbs stand: the points, how many links are left above each, and the weight so far
pub record IsClimb (net : Plan) (target : ℤ) (from to : PointId) (from_left to_left : ℕ) (weight : ℤ) : Type 0 where
  pub from_chain : List Link
  pub to_chain : List Link
  pub from_root : PointId
  pub to_root : PointId
  pub from_inside : IsPoint net from
  pub to_inside : IsPoint net to
  pub from_is : IsChain net from from_chain from_root
  pub to_is : IsChain net to to_chain to_root
  pub from_count : length from_chain ≡ from_left
  pub to_count : length to_chain ≡ to_left
  pub few : from_left + to_left ≤ 4000
  pub left : reduced_weight weight from_chain to_chain ≡ target
  pub above : neg_ℤ (pos (2000000000 * (4001 - (from_left + to_left)))) ≤ℤ weight
  pub below : weight ≤ℤ pos (2000000000 * (4001 - (from_left + to_left)))

-- if a climb has links left, its point has one
pub has_link : (net : Plan) → IsPlan net → (point : PointId) (chain : List Link) (root : PointId) → IsChain net point chain root → 1 ≤ length chain → (link : Link) × (link_into net point ≡ Some link)
has_link net plan _ _ _ (ends point executable) some = absurd (omega (arith, some))
has_link net plan _ _ _ (goes_on name link chain point root declared to rest) some = (link, into_link net plan name link point declared to)

-- the rest of a chain after its first link
pub record After (net : Plan) (point : PointId) (chain : List Link) (root : PointId) (link : Link) : Type 0 where
  pub rest : List Link
  pub whole : chain ≡ link ∷ rest
  pub to : link.to ≡ point
  pub sound : IsLink net link
  pub is : IsChain net link.from rest root

pub after : (net : Plan) → IsPlan net → (point : PointId) (chain : List Link) (root : PointId) (link : Link) → IsChain net point chain root → link_into net point ≡ Some link → 1 ≤ length chain → After net point chain root link
after net plan _ _ _ link (ends point executable) into some = absurd (omega (arith, some))
after net plan _ _ _ link (goes_on name first chain point root declared to rest) into some =
    let same : first ≡ link = same_Some first link (sym (into_link net plan name first point declared to) ∙ into) in
    record {
      rest = chain;
      whole = λ i. same i ∷ chain;
      to = ap (λ (l : Link). l.to) (sym same) ∙ to;
      sound = subst (IsLink net) same (link_sound net plan name.0 first declared);
      is = subst (λ (l : Link). IsChain net l.from chain root) same rest;
    }

-- the numbers of a link
link_size : (net : Plan) (link : Link) → IsLink net link → (pos 1 ≤ℤ link.low) × (link.low ≤ℤ pos 2000000000) × (pos 1 ≤ℤ link.high) × (link.high ≤ℤ pos 2000000000)
link_size net link sound =
    let positive = sound.positive in
    let interval = sound.interval in
    let size = leb-true (unsigned_abs link.high) 2000000000 sound.within in
    (positive, omega (arith, ints, positive, interval, size), omega (arith, ints, positive, interval), omega (arith, ints, positive, interval, size))

module _ (net : Plan) (plan : IsPlan net) (target : ℤ) (from to : PointId) (from_left to_left : ℕ) (weight : ℤ) (climb : IsClimb net target from to from_left to_left weight) (apart_now : from.0 ≢ to.0) where
  pub climb_from : (link : Link) → link_into net from ≡ Some link → 1 ≤ from_left → to_left ≤ from_left → IsClimb net target link.from to (from_left - 1) to_left (weight +ℤ link.low)
  climb_from link into some more =
      let from_count = climb.from_count in
      let to_count = climb.to_count in
      let few = climb.few in
      let above = climb.above in
      let below = climb.below in
      let up = after net plan from climb.from_chain climb.from_root link climb.from_is into (omega (arith, from_count, some)) in
      let whole = up.whole in
      let count : length climb.from_chain ≡ suc (length up.rest) = ap length whole in
      let (low_least, low_most, high_least, high_most) = link_size net link up.sound in
      let one = subst (λ (c : List Link). IsChain net from c climb.from_root) whole climb.from_is in
      let none = not_within net plan from to link up.rest climb.to_chain climb.from_root climb.to_root up.to one climb.to_is (omega (arith, count, from_count, to_count, more)) apart_now in
      record {
        from_chain = up.rest;
        to_chain = climb.to_chain;
        from_root = climb.from_root;
        to_root = climb.to_root;
        from_inside = up.sound.from_point;
        to_inside = climb.to_inside;
        from_is = up.is;
        to_is = climb.to_is;
        from_count = omega (arith, count, from_count);
        to_count = to_count;
        few = omega (arith, few);
        left = sym (weight_from weight link up.rest climb.to_chain none) ∙ ap (λ (c : List Link). reduced_weight weight c climb.to_chain) (sym whole) ∙ climb.left;
        above = omega (arith, ints, above, low_least, some, few);
        below = omega (arith, ints, below, low_most, some, few);
      }

  pub climb_to : (link : Link) → link_into net to ≡ Some link → 1 ≤ to_left → from_left < to_left → IsClimb net target from link.from from_left (to_left - 1) (weight -ℤ link.high)
  climb_to link into some more =
      let from_count = climb.from_count in
      let to_count = climb.to_count in
      let few = climb.few in
      let above = climb.above in
      let below = climb.below in
      let up = after net plan to climb.to_chain climb.to_root link climb.to_is into (omega (arith, to_count, some)) in
      let whole = up.whole in
      let count : length climb.to_chain ≡ suc (length up.rest) = ap length whole in
      let (low_least, low_most, high_least, high_most) = link_size net link up.sound in
      let one = subst (λ (c : List Link). IsChain net to c climb.to_root) whole climb.to_is in
      let none = not_within net plan to from link up.rest climb.from_chain climb.to_root climb.from_root up.to one climb.from_is (omega (arith, count, from_count, to_count, more)) (λ (e : to.0 ≡ from.0). apart_now (sym e)) in
      record {
        from_chain = climb.from_chain;
        to_chain = up.rest;
        from_root = climb.from_root;
        to_root = climb.to_root;
        from_inside = climb.from_inside;
        to_inside = up.sound.from_point;
        from_is = climb.from_is;
        to_is = up.is;
        from_count = from_count;
        to_count = omega (arith, count, to_count);
        few = omega (arith, few);
        left = sym (weight_to weight link climb.from_chain up.rest none) ∙ ap (reduced_weight weight climb.from_chain) (sym whole) ∙ climb.left;
        above = omega (arith, ints, above, high_most, some, few);
        below = omega (arith, ints, below, high_least, some, few);
      }

-- at the end nothing is left to be reduced
pub climbed_same : (net : Plan) → IsPlan net → (target : ℤ) (from to : PointId) (from_left to_left : ℕ) (weight : ℤ) → IsClimb net target from to from_left to_left weight → from.0 ≡ to.0 → weight ≡ target
climbed_same net plan target from to from_left to_left weight climb met =
    let here : to ≡ from = same_from_number to from (sym met) in
    let same = one_chain net plan from climb.to_chain climb.from_chain climb.to_root climb.from_root (subst (λ (p : PointId). IsChain net p climb.to_chain climb.to_root) here climb.to_is) climb.from_is in
    sym (weight_same weight climb.from_chain) ∙ ap (reduced_weight weight climb.from_chain) (sym same.0) ∙ climb.left

pub climbed_up : (net : Plan) (target : ℤ) (from to : PointId) (from_left to_left : ℕ) (weight : ℤ) → IsClimb net target from to from_left to_left weight → from_left + to_left ≤ 0 → weight ≡ target
climbed_up net target from to from_left to_left weight climb up =
    let from_count = climb.from_count in
    let to_count = climb.to_count in
    let one : climb.from_chain ≡ [] = nil_from_length climb.from_chain (omega (arith, from_count, up)) in
    let other : climb.to_chain ≡ [] = nil_from_length climb.to_chain (omega (arith, to_count, up)) in
    sym (weight_same weight []) ∙ (λ i. reduced_weight weight (sym one i) (sym other i)) ∙ climb.left

-- a climb starts with two chains
pub climb_begins : (net : Plan) → IsPlan net → (bound : Bound) (from_links to_links : ℕ) → IsBound net bound → option_map length (chain_of net bound.from) ≡ Some from_links → option_map length (chain_of net bound.to) ≡ Some to_links
    → IsClimb net (reduced_weight bound.most (links_of net bound.from) (links_of net bound.to)) bound.from bound.to from_links to_links bound.most
climb_begins net plan bound from_links to_links sound from to = by (chain_of net bound.from) (chain_of net bound.to) refl refl from to
  where
    by : (c d : Option (List Link)) → chain_of net bound.from ≡ c → chain_of net bound.to ≡ d → option_map length c ≡ Some from_links → option_map length d ≡ Some to_links
        → IsClimb net (reduced_weight bound.most (unwrap_or c []) (unwrap_or d [])) bound.from bound.to from_links to_links bound.most
    by None d c_is d_is count counted = absurd (none-some from_links count)
    by (Some c) None c_is d_is count counted = absurd (none-some to_links counted)
    by (Some c) (Some d) c_is d_is count counted =
        let (from_is, from_short) = chain_sound net plan bound.from c sound.from_point c_is in
        let (to_is, to_short) = chain_sound net plan bound.to d sound.to_point d_is in
        let from_count = same_Some (length c) from_links count in
        let to_count = same_Some (length d) to_links counted in
        let points = plan.few_points in
        let size = leb-true (unsigned_abs bound.most) 2000000000 sound.within in
        let few : from_links + to_links ≤ 4000 = omega (arith, from_short, to_short, from_count, to_count, points) in
        record {
          from_chain = c;
          to_chain = d;
          from_root = root_of bound.from c;
          to_root = root_of bound.to d;
          from_inside = sound.from_point;
          to_inside = sound.to_point;
          from_is = from_is;
          to_is = to_is;
          from_count = from_count;
          to_count = to_count;
          few = few;
          left = refl;
          above = omega (arith, ints, size, few);
          below = omega (arith, ints, size, few);
        }

-- both chains have a link if one of them is climbed
pub from_has : (net : Plan) → IsPlan net → (target : ℤ) (from to : PointId) (from_left to_left : ℕ) (weight : ℤ) → IsClimb net target from to from_left to_left weight → 1 ≤ from_left → IsSome (link_into net from)
from_has net plan target from to from_left to_left weight climb some =
    let count = climb.from_count in
    let (link, is) = has_link net plan from climb.from_chain climb.from_root climb.from_is (omega (arith, count, some)) in
    ap is_some is

pub to_has : (net : Plan) → IsPlan net → (target : ℤ) (from to : PointId) (from_left to_left : ℕ) (weight : ℤ) → IsClimb net target from to from_left to_left weight → 1 ≤ to_left → IsSome (link_into net to)
to_has net plan target from to from_left to_left weight climb some =
    let count = climb.to_count in
    let (link, is) = has_link net plan to climb.to_chain climb.to_root climb.to_is (omega (arith, count, some)) in
    ap is_some is

-- the weight fits its type
pub weight_fits : (net : Plan) → IsPlan net → (target : ℤ) (from to : PointId) (from_left to_left : ℕ) (weight : ℤ) → IsClimb net target from to from_left to_left weight → (link : Link) → link_into net to ≡ Some link → 1 ≤ to_left
    → FitsSigned w64 (weight -ℤ link.high) × FitsSigned w64 link.high
weight_fits net plan target from to from_left to_left weight climb link into some =
    let count = climb.to_count in
    let up = after net plan to climb.to_chain climb.to_root link climb.to_is into (omega (arith, count, some)) in
    let (low_least, low_most, high_least, high_most) = link_size net link up.sound in
    let above = climb.above in
    let below = climb.below in
    (fits_signed_from_abs w64 (weight -ℤ link.high) (omega (arith, ints, above, below, high_least, high_most)), fits_signed_from_abs w64 link.high (omega (arith, ints, high_least, high_most)))

pub weight_fits_from : (net : Plan) → IsPlan net → (target : ℤ) (from to : PointId) (from_left to_left : ℕ) (weight : ℤ) → IsClimb net target from to from_left to_left weight → (link : Link) → link_into net from ≡ Some link → 1 ≤ from_left
    → FitsSigned w64 (weight +ℤ link.low) × FitsSigned w64 link.low
weight_fits_from net plan target from to from_left to_left weight climb link into some =
    let count = climb.from_count in
    let up = after net plan from climb.from_chain climb.from_root link climb.from_is into (omega (arith, count, some)) in
    let (low_least, low_most, high_least, high_most) = link_size net link up.sound in
    let above = climb.above in
    let below = climb.below in
    (fits_signed_from_abs w64 (weight +ℤ link.low) (omega (arith, ints, above, below, low_least, low_most)), fits_signed_from_abs w64 link.low (omega (arith, ints, low_least, low_most)))
