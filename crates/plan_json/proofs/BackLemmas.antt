-- The document of a network declares its delay and its parts.
use Rattle.std.proofs.Common.{◌≡◌, ℕ, ◌+◌, ◌<◌, ◌≤◌, ◌^◌, List, [], ◌∷◌, map, length, true, ℤ, pos, negsuc, ◌≤ℤ◌, Some, Ok, IsTrue, refl, arith}
use Rattle.std.specs.List.{All, slice_index_or}
use Rattle.std.proofs.lemmas.Bool.{lt-ltb, le-leb}
use Rattle.std.proofs.lemmas.Bool.Decides.{nat_tests}
use Rattle.std.proofs.lemmas.List.Elements.{All-head, All-tail}
use Rattle.net_model.specs.Limits.{within_limit, most_delay}
use Rattle.net_model.specs.Names.{is_name}
use Rattle.net_model.specs.Network.{Plan, IsPlan, IsBound, IsLink, HasPlanNumbers}
use Rattle.net_model.specs.NetworkParts.{point_name, bound_part as declared_bound, link_part as declared_link, parts_of}
use Rattle.net_model.specs.declared.part.Bound.{Bound}
use Rattle.net_model.specs.declared.part.Link.{Link}
use Rattle.net_model.specs.declared.part.Part.TheVariants as part
use Rattle.serde_json.specs.Data.{string}
use Rattle.serde_json.specs.Find.{as_i64, of_integer}
use Rattle.plan_json.specs.Document.{bound_form_at, bound_parts, document_plan, items_parts, link_form_at, link_parts, lists_parts, lists_plan, point_parts, top_of}
use Rattle.plan_json.specs.DocumentText.{bound_data, document_of, link_data}
use Rattle.plan_json.specs.declared.place.Place.{Place}
use Rattle.plan_json.specs.declared.place.PartList.TheVariants as list
use Rattle.plan_json.proofs.ViewLemmas.{list_of_items}

-- a point is read back
point_back : (place : Place) (name : List ℕ) → is_name name ≡ true → point_parts place (string name) ≡ Ok (part.Point name ∷ [])
unfolding point_parts
point_back place name named = rw named refl

whole_back : (n : ℤ) → within_limit n ≡ true → as_i64 (of_integer n) ≡ Some n
whole_back (pos n) within =
    let small : n < 2 ^ 63 = grind (arith, nat_tests) in
    rw (lt-ltb n (2 ^ 63) small) refl
whole_back (negsuc n) within = refl

-- a bound is read back
bound_back : (place : Place) (points : List (List ℕ)) (bound : Bound) → is_name bound.name ≡ true → is_name (point_name points bound.from) ≡ true → is_name (point_name points bound.to) ≡ true
    → within_limit bound.most ≡ true → bound_parts place (bound_data points bound) ≡ Ok (declared_bound points bound ∷ [])
unfolding bound_parts bound_form_at
bound_back place points bound named from to within = rw (whole_back bound.most within, named, from, to, within) refl

-- a link is read back
link_back : (place : Place) (points : List (List ℕ)) (link : Link) → is_name (point_name points link.from) ≡ true → is_name (point_name points link.to) ≡ true
    → within_limit link.low ≡ true → within_limit link.high ≡ true → link_parts place (link_data points link) ≡ Ok (declared_link points link ∷ [])
unfolding link_parts link_form_at
link_back place points link from to low high = rw (whole_back link.low low, whole_back link.high high, from, to, low, high) refl

-- the shortest duration is within the limit if the longest is
pub low_within : (low high : ℤ) → pos 1 ≤ℤ low → low ≤ℤ high → within_limit high ≡ true → within_limit low ≡ true
low_within low high positive interval within = grind (arith, nat_tests)

-- points are read back
points_back : (count : ℕ) (points : List (List ℕ)) → All (λ name. IsTrue (is_name name)) points → items_parts list.Points count (map string points) ≡ Ok (map part.Point points)
points_back count [] named = refl
points_back count (name ∷ names) named =
    let first = point_back (record { list = list.Points; number = count + 1 }) name (All-head (λ n. IsTrue (is_name n)) name names named) in
    let rest = points_back (count + 1) names (All-tail (λ n. IsTrue (is_name n)) name names named) in
    rw (first, rest) refl

-- the name of a point of a network is a name
named_at : (net : Plan) → IsPlan net → (place : ℕ) → place < length net.points → IsTrue (is_name (slice_index_or net.points place []))
named_at net plan place within = plan.points_named place [] within

-- bounds are read back
bounds_back : (net : Plan) → IsPlan net → (count : ℕ) (bounds : List Bound) → All (IsBound net) bounds → All (λ (b : Bound). within_limit b.most ≡ true) bounds
    → items_parts list.Bounds count (map (bound_data net.points) bounds) ≡ Ok (map (declared_bound net.points) bounds)
bounds_back net plan count [] sound limited = refl
bounds_back net plan count (bound ∷ bounds) sound limited =
    let one = All-head (IsBound net) bound bounds sound in
    let first = bound_back (record { list = list.Bounds; number = count + 1 }) net.points bound one.named (named_at net plan bound.from.0 one.from_point) (named_at net plan bound.to.0 one.to_point)
    (All-head (λ (b : Bound). within_limit b.most ≡ true) bound bounds limited) in
    let rest = bounds_back net plan (count + 1) bounds (All-tail (IsBound net) bound bounds sound) (All-tail (λ (b : Bound). within_limit b.most ≡ true) bound bounds limited) in
    rw (first, rest) refl

-- links are read back
links_back : (net : Plan) → IsPlan net → (count : ℕ) (links : List Link) → All (IsLink net) links → All (λ (l : Link). within_limit l.high ≡ true) links
    → items_parts list.Links count (map (link_data net.points) links) ≡ Ok (map (declared_link net.points) links)
links_back net plan count [] sound limited = refl
links_back net plan count (link ∷ links) sound limited =
    let one = All-head (IsLink net) link links sound in
    let high = All-head (λ (l : Link). within_limit l.high ≡ true) link links limited in
    let first = link_back (record { list = list.Links; number = count + 1 }) net.points link (named_at net plan link.from.0 one.from_point) (named_at net plan link.to.0 one.to_point)
    (low_within link.low link.high one.positive one.interval high) high in
    let rest = links_back net plan (count + 1) links (All-tail (IsLink net) link links sound) (All-tail (λ (l : Link). within_limit l.high ≡ true) link links limited) in
    rw (first, rest) refl

-- the delay is read back
delay_back : (n : ℕ) → n ≤ most_delay → as_i64 (of_integer (pos n)) ≡ Some (pos n)
delay_back n short =
    let small : n < 2 ^ 63 = omega (arith, short) in
    rw (lt-ltb n (2 ^ 63) small) refl

-- the document of a network declares its delay and its parts
pub document_back : (net : Plan) → IsPlan net → HasPlanNumbers net → document_plan (document_of net) ≡ Ok (record { delay = net.delay; parts = parts_of net })
unfolding top_of lists_parts lists_plan
document_back net plan numbers =
    rw (
      delay_back net.delay plan.short_delay,
      le-leb net.delay most_delay plan.short_delay,
      list_of_items (map string net.points),
      list_of_items (map (bound_data net.points) net.bounds),
      list_of_items (map (link_data net.points) net.links),
      points_back 0 net.points plan.points_named,
      bounds_back net plan 0 net.bounds plan.bounds_sound numbers.bounds,
      links_back net plan 0 net.links plan.links_sound numbers.links,
    ) refl
