-- What a list of parts builds has the numbers that a plan may have.
use Rattle.std.proofs.Common.{◌≡◌, ◌++◌, ◌∷◌, [], ℕ, ℤ, ◌+◌, Bool, true, false, List, Result, Ok, Err, refl, not, IfOk, arith, is_some, nat_le, int_lt, pos, ◌==◌, ◌||◌, length}
use Rattle.std.proofs.lemmas.List.Elements.{All-push}
use Rattle.net_model.specs.Limits.{most_points, most_links, most_bounds, within_limit}
use Rattle.net_model.specs.Network.{Plan, HasPlanNumbers, point_named, bound_named, activation, empty}
use Rattle.net_model.specs.BuiltNetwork.{◌>>=◌, refuse_if, named, with_point, with_bound, with_link, with_part, with_parts, built, at_place}
use Rattle.net_model.specs.declared.ids.PointId.{PointId}
use Rattle.net_model.specs.declared.part.Bound.{Bound}
use Rattle.net_model.specs.declared.part.Link.{Link}
use Rattle.net_model.specs.declared.part.Part.{Part}
use Rattle.net_model.specs.declared.part.Part.TheVariants as part
use Rattle.net_model.specs.declared.part.Which.TheVariants.{Points, Links, Bounds, Number}
use Rattle.net_model.specs.declared.fault.PartFault.{PartFault}
use Rattle.net_model.specs.declared.fault.PartFault.TheVariants.{DuplicateName, TwoLinksOnPoint, LinkToItself, BadInterval, Limit}

-- what may be refused keeps what it keeps if its test fails
pub unless_refused : {A : Type 0} (P : A → Type 0) (test : Bool) (fault : PartFault) (otherwise : Result A PartFault) → (test ≡ false → IfOk otherwise P) → IfOk (refuse_if test fault otherwise) P
unless_refused P true fault otherwise keeps = tt
unless_refused P false fault otherwise keeps = keeps refl

-- what comes next keeps it for each value that may come first
pub whatever_came : {A B : Type 0} (P : B → Type 0) (read : Result A PartFault) (next : A → Result B PartFault) → ((x : A) → IfOk (next x) P) → IfOk (read >>= next) P
whatever_came P (Ok x) next keeps = keeps x
whatever_came P (Err fault) next keeps = tt

pub fits : (n : ℤ) → not (within_limit n) ≡ false → within_limit n ≡ true
fits n small = by (within_limit n) small
  where
    by : (b : Bool) → not b ≡ false → b ≡ true
    by true is = refl
    by false is = absurd cc

empty_numbers : HasPlanNumbers empty
empty_numbers = record { bounds = λ k d inside. absurd (omega arith); links = λ k d inside. absurd (omega arith) }

point_keeps : (net : Plan) (name : List ℕ) → HasPlanNumbers net → IfOk (with_point net name) HasPlanNumbers
unfolding with_point
point_keeps net name numbers =
    let more : Plan = record net { points = net.points ++ name ∷ [] } in
    let kept : HasPlanNumbers more = record { bounds = numbers.bounds; links = numbers.links } in
    let spare_capacity : Result Plan PartFault = refuse_if (nat_le most_points (length net.points)) (Limit Points) (Ok more) in
    unless_refused HasPlanNumbers (is_some (point_named net name)) DuplicateName spare_capacity (λ not_taken.
    unless_refused HasPlanNumbers (nat_le most_points (length net.points)) (Limit Points) (Ok more) (λ roomy. kept))

bound_keeps : (net : Plan) (name from to : List ℕ) (most : ℤ) → HasPlanNumbers net → IfOk (with_bound net name from to most) HasPlanNumbers
unfolding with_bound
bound_keeps net name from to most numbers =
    let bound : PointId → PointId → Bound = λ x y. record { name = name; from = x; to = y; most = most } in
    let more : PointId → PointId → Plan = λ x y. record net { bounds = net.bounds ++ bound x y ∷ [] } in
    let kept : (x y : PointId) → within_limit most ≡ true → HasPlanNumbers (more x y) = λ x y small. record {
      bounds = All-push (λ (b : Bound). within_limit b.most ≡ true) net.bounds (bound x y) numbers.bounds small;
      links = numbers.links;
    } in
    let spare_capacity : PointId → PointId → Result Plan PartFault = λ x y. refuse_if (nat_le most_bounds (length net.bounds)) (Limit Bounds) (Ok (more x y)) in
    let small : PointId → PointId → Result Plan PartFault = λ x y. refuse_if (not (within_limit most)) (Limit Number) (spare_capacity x y) in
    let ends : Result Plan PartFault = named net from >>= (λ x. named net to >>= (λ y. small x y)) in
    unless_refused HasPlanNumbers (is_some (bound_named net name)) DuplicateName ends (λ not_taken.
    whatever_came HasPlanNumbers (named net from) (λ x. named net to >>= (λ y. small x y)) (λ x.
    whatever_came HasPlanNumbers (named net to) (λ y. small x y) (λ y.
    unless_refused HasPlanNumbers (not (within_limit most)) (Limit Number) (spare_capacity x y) (λ fitting.
    unless_refused HasPlanNumbers (nat_le most_bounds (length net.bounds)) (Limit Bounds) (Ok (more x y)) (λ roomy. kept x y (fits most fitting))))))

link_keeps : (net : Plan) (from : List ℕ) (low high : ℤ) (to : List ℕ) → HasPlanNumbers net → IfOk (with_link net from low high to) HasPlanNumbers
unfolding with_link
link_keeps net from low high to numbers =
    let link : PointId → PointId → Link = λ a c. record { from = a; low = low; high = high; to = c } in
    let more : PointId → PointId → Plan = λ a c. record net { links = net.links ++ link a c ∷ [] } in
    let kept : (a c : PointId) → within_limit high ≡ true → HasPlanNumbers (more a c) = λ a c small. record {
      bounds = numbers.bounds;
      links = All-push (λ (l : Link). within_limit l.high ≡ true) net.links (link a c) numbers.links small;
    } in
    let spare_capacity : PointId → PointId → Result Plan PartFault = λ a c. refuse_if (nat_le most_links (length net.links)) (Limit Links) (Ok (more a c)) in
    let small : PointId → PointId → Result Plan PartFault = λ a c. refuse_if (not (within_limit high)) (Limit Number) (spare_capacity a c) in
    let interval : PointId → PointId → Result Plan PartFault = λ a c. refuse_if (int_lt low (pos 1) || int_lt high low) BadInterval (small a c) in
    let free : PointId → PointId → Result Plan PartFault = λ a c. refuse_if (is_some (activation net c)) TwoLinksOnPoint (interval a c) in
    let apart : PointId → PointId → Result Plan PartFault = λ a c. refuse_if (a.0 == c.0) LinkToItself (free a c) in
    whatever_came HasPlanNumbers (named net from) (λ a. named net to >>= (λ c. apart a c)) (λ a.
    whatever_came HasPlanNumbers (named net to) (λ c. apart a c) (λ c.
    unless_refused HasPlanNumbers (a.0 == c.0) LinkToItself (free a c) (λ other.
    unless_refused HasPlanNumbers (is_some (activation net c)) TwoLinksOnPoint (interval a c) (λ first.
    unless_refused HasPlanNumbers (int_lt low (pos 1) || int_lt high low) BadInterval (small a c) (λ good.
    unless_refused HasPlanNumbers (not (within_limit high)) (Limit Number) (spare_capacity a c) (λ fitting.
    unless_refused HasPlanNumbers (nat_le most_links (length net.links)) (Limit Links) (Ok (more a c)) (λ roomy. kept a c (fits high fitting))))))))

pub part_keeps : (net : Plan) (part : Part) → HasPlanNumbers net → IfOk (with_part net part) HasPlanNumbers
part_keeps net (part.Point name) numbers = point_keeps net name numbers
part_keeps net (part.Bound name from to most) numbers = bound_keeps net name from to most numbers
part_keeps net (part.Link from low high to) numbers = link_keeps net from low high to numbers

-- a step of the building
stepped : (place : ℕ) (parts : List Part) (taken : Result Plan PartFault) → IfOk taken HasPlanNumbers → ((more : Plan) → HasPlanNumbers more → IfOk (with_parts (place + 1) more parts) HasPlanNumbers)
    → IfOk (elim taken [ Ok more ↦ with_parts (place + 1) more parts | Err fault ↦ Err (at_place (place + 1) fault) ]) HasPlanNumbers
stepped place parts (Ok more) numbers rest = rest more numbers
stepped place parts (Err fault) numbers rest = tt

parts_keep : (place : ℕ) (net : Plan) (parts : List Part) → HasPlanNumbers net → IfOk (with_parts place net parts) HasPlanNumbers
parts_keep place net [] numbers = numbers
parts_keep place net (part ∷ parts) numbers =
    stepped place parts (with_part net part) (part_keeps net part numbers) (λ more kept. parts_keep (place + 1) more parts kept)

pub built_numbers : (parts : List Part) → IfOk (built parts) HasPlanNumbers
built_numbers parts = parts_keep 0 empty parts empty_numbers
