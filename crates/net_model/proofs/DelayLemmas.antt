-- A network with the numbers of a plan is sound with any delay; what a list of parts builds has the delay 0.
use Rattle.std.proofs.Common.{◌≡◌, ◌++◌, ◌∷◌, [], ℕ, ℤ, ◌+◌, ◌≤◌, ◌==◌, ◌||◌, List, Result, Ok, Err, IfOk, get_or, refl, sym, ◌∙◌, is_some, nat_le, int_lt, not, pos, length}
use Rattle.net_model.specs.BuiltNetwork.{◌>>=◌, refuse_if, named, with_point, with_bound, with_link, with_part, with_parts, built, delayed, at_place}
use Rattle.net_model.specs.Limits.{most_points, most_links, most_bounds, most_delay, within_limit}
use Rattle.net_model.specs.Network.{Plan, IsPlan, HasPlanNumbers, point_named, bound_named, activation, empty}
use Rattle.net_model.specs.declared.fault.BuildFault.{BuildFault}
use Rattle.net_model.specs.declared.fault.PartFault.{PartFault}
use Rattle.net_model.specs.declared.fault.PartFault.TheVariants.{DuplicateName, TwoLinksOnPoint, LinkToItself, BadInterval, Limit}
use Rattle.net_model.specs.declared.ids.PointId.{PointId}
use Rattle.net_model.specs.declared.part.Part.{Part}
use Rattle.net_model.specs.declared.part.Part.TheVariants as part
use Rattle.net_model.specs.declared.part.Which.TheVariants.{Points, Links, Bounds, Number}
use Rattle.net_model.proofs.EditLemmas.{shown_within_limit}
use Rattle.net_model.proofs.PlanNumbers.{unless_refused, whatever_came}

pub sound_with_delay : (net : Plan) (delay : ℕ) → IsPlan net → HasPlanNumbers net → delay ≤ most_delay → IsPlan (record net { delay = delay })
sound_with_delay net delay plan numbers short = record {
  points_named = plan.points_named;
  points_apart = plan.points_apart;
  bounds_sound = λ k d inside.
      let was = plan.bounds_sound k d inside in
      record {
        named = was.named;
        from_point = was.from_point;
        to_point = was.to_point;
        within = was.within;
        shown_within = shown_within_limit (get_or net.bounds k d).most delay short (numbers.bounds k d inside);
      };
  bounds_apart = plan.bounds_apart;
  links_sound = λ k d inside.
      let was = plan.links_sound k d inside in
      record {
        from_point = was.from_point;
        to_point = was.to_point;
        apart = was.apart;
        positive = was.positive;
        interval = was.interval;
        within = was.within;
        shown_within = shown_within_limit (get_or net.links k d).high delay short (numbers.links k d inside);
      };
  links_apart = plan.links_apart;
  few_points = plan.few_points;
  few_bounds = plan.few_bounds;
  few_links = plan.few_links;
  short_delay = short;
}

-- ---- building keeps the delay
module _ (net : Plan) where
  abbrev Keeps : Plan → Type 0
  Keeps more = more.delay ≡ net.delay

  point_delay : (name : List ℕ) → IfOk (with_point net name) Keeps
  unfolding with_point
  point_delay name =
      let more : Plan = record net { points = net.points ++ name ∷ [] } in
      let spare_capacity : Result Plan PartFault = refuse_if (nat_le most_points (length net.points)) (Limit Points) (Ok more) in
      unless_refused Keeps (is_some (point_named net name)) DuplicateName spare_capacity (λ not_taken.
      unless_refused Keeps (nat_le most_points (length net.points)) (Limit Points) (Ok more) (λ roomy. refl))

  bound_delay : (name from to : List ℕ) (most : ℤ) → IfOk (with_bound net name from to most) Keeps
  unfolding with_bound
  bound_delay name from to most =
      let more : PointId → PointId → Plan = λ x y. record net { bounds = net.bounds ++ record { name = name; from = x; to = y; most = most } ∷ [] } in
      let spare_capacity : PointId → PointId → Result Plan PartFault = λ x y. refuse_if (nat_le most_bounds (length net.bounds)) (Limit Bounds) (Ok (more x y)) in
      let small : PointId → PointId → Result Plan PartFault = λ x y. refuse_if (not (within_limit most)) (Limit Number) (spare_capacity x y) in
      let ends : Result Plan PartFault = named net from >>= (λ x. named net to >>= (λ y. small x y)) in
      unless_refused Keeps (is_some (bound_named net name)) DuplicateName ends (λ not_taken.
      whatever_came Keeps (named net from) (λ x. named net to >>= (λ y. small x y)) (λ x.
      whatever_came Keeps (named net to) (λ y. small x y) (λ y.
      unless_refused Keeps (not (within_limit most)) (Limit Number) (spare_capacity x y) (λ fitting.
      unless_refused Keeps (nat_le most_bounds (length net.bounds)) (Limit Bounds) (Ok (more x y)) (λ roomy. refl)))))

  link_delay : (from : List ℕ) (low high : ℤ) (to : List ℕ) → IfOk (with_link net from low high to) Keeps
  unfolding with_link
  link_delay from low high to =
      let more : PointId → PointId → Plan = λ a c. record net { links = net.links ++ record { from = a; low = low; high = high; to = c } ∷ [] } in
      let spare_capacity : PointId → PointId → Result Plan PartFault = λ a c. refuse_if (nat_le most_links (length net.links)) (Limit Links) (Ok (more a c)) in
      let small : PointId → PointId → Result Plan PartFault = λ a c. refuse_if (not (within_limit high)) (Limit Number) (spare_capacity a c) in
      let interval : PointId → PointId → Result Plan PartFault = λ a c. refuse_if (int_lt low (pos 1) || int_lt high low) BadInterval (small a c) in
      let free : PointId → PointId → Result Plan PartFault = λ a c. refuse_if (is_some (activation net c)) TwoLinksOnPoint (interval a c) in
      let apart : PointId → PointId → Result Plan PartFault = λ a c. refuse_if (a.0 == c.0) LinkToItself (free a c) in
      whatever_came Keeps (named net from) (λ a. named net to >>= (λ c. apart a c)) (λ a.
      whatever_came Keeps (named net to) (λ c. apart a c) (λ c.
      unless_refused Keeps (a.0 == c.0) LinkToItself (free a c) (λ other.
      unless_refused Keeps (is_some (activation net c)) TwoLinksOnPoint (interval a c) (λ first.
      unless_refused Keeps (int_lt low (pos 1) || int_lt high low) BadInterval (small a c) (λ good.
      unless_refused Keeps (not (within_limit high)) (Limit Number) (spare_capacity a c) (λ fitting.
      unless_refused Keeps (nat_le most_links (length net.links)) (Limit Links) (Ok (more a c)) (λ roomy. refl)))))))

  part_delay : (part : Part) → IfOk (with_part net part) Keeps
  part_delay (part.Point name) = point_delay name
  part_delay (part.Bound name from to most) = bound_delay name from to most
  part_delay (part.Link from low high to) = link_delay from low high to

-- the parts after one keep the delay of the network that it made
delay_stepped : (net : Plan) (place : ℕ) (parts : List Part) (taken : Result Plan PartFault) → IfOk taken (Keeps net)
    → ((more : Plan) → IfOk (with_parts (place + 1) more parts) (Keeps more))
    → IfOk (elim taken [ Ok more ↦ with_parts (place + 1) more parts | Err fault ↦ Err (at_place (place + 1) fault) ]) (Keeps net)
delay_stepped net place parts (Ok more) kept rest = by (with_parts (place + 1) more parts) (rest more)
  where
    by : (answer : Result Plan BuildFault) → IfOk answer (Keeps more) → IfOk answer (Keeps net)
    by (Ok last) same = same ∙ kept
    by (Err fault) same = tt
delay_stepped net place parts (Err fault) kept rest = tt

parts_delay : (place : ℕ) (net : Plan) (parts : List Part) → IfOk (with_parts place net parts) (Keeps net)
parts_delay place net [] = refl
parts_delay place net (part ∷ parts) = delay_stepped net place parts (with_part net part) (part_delay net part) (λ more. parts_delay (place + 1) more parts)

pub built_delay : (parts : List Part) → IfOk (built parts) (λ net. net.delay ≡ 0)
built_delay parts = parts_delay 0 empty parts

-- a network with a delay is made of the same network without one
pub delayed_ok : (delay : ℕ) (answer : Result Plan BuildFault) (net : Plan) → delayed delay answer ≡ Ok net → (plain : Plan) × (answer ≡ Ok plain) × (net ≡ record plain { delay = delay })
delayed_ok delay (Ok plain) net is = (plain, refl, (let same : record plain { delay = delay } ≡ net = cc in sym same))
delayed_ok delay (Err fault) net is = absurd (cc)
