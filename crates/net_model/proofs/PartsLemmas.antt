-- The parts of a network build that network.
use Rattle.std.proofs.Common.{◌≡◌, ◌≢◌, ap, ℕ, ℤ, pos, ◌<◌, ◌≤◌, ◌≤ℤ◌, ◌+◌, ◌==◌, ◌||◌, true, false, List, [], ◌∷◌, ◌++◌, length, map, get_or, Result, Ok, Some, None, refl, sym, ◌∙◌, subst, arith, rules, append_assoc, nat_le, int_lt}
use Rattle.std.proofs.Common.{position, length-append}
use Rattle.std.specs.List.{All, AllPairs, IsDistinct, position_or_len}
use Rattle.std.specs.Str.{bytes_eq}
use Rattle.std.proofs.lemmas.Bool.{lt-leb, ne_eqb, false_from_ne_true}
use Rattle.std.proofs.lemmas.Slice.Eq.{bytes_eq-Decides}
use Rattle.std.proofs.lemmas.List.{append-nil, map-append, get_or_append_left}
use Rattle.std.proofs.Math.Seq.{get_or-append_seam}
use Rattle.std.proofs.lemmas.List.Sums.{position_or_len_is}
use Rattle.std.proofs.lemmas.Map.Made.{AllPairs-from_IsDistinct}
use Rattle.net_model.specs.Network.{Plan, IsPlan, HasPlanNumbers}
use Rattle.net_model.specs.Limits.{most_points, most_bounds, most_links, within_limit}
use Rattle.net_model.specs.BuiltNetwork.{named, with_point, with_bound, with_link, with_part, with_parts, built, delayed, declared_net}
use Rattle.net_model.specs.NetworkParts.{point_name, bound_part, link_part, parts_of}
use Rattle.net_model.specs.declared.ids.PointId.{PointId}
use Rattle.net_model.specs.declared.part.Bound.{Bound}
use Rattle.net_model.specs.declared.part.Link.{Link}
use Rattle.net_model.specs.declared.part.Part.{Part}
use Rattle.net_model.specs.declared.part.Part.TheVariants as part
use Rattle.net_model.proofs.Positions.{None_from_fails, position-map}

bytes_differ : (xs ys : List ℕ) → xs ≢ ys → bytes_eq ys xs ≡ false
bytes_differ xs ys differ =
    false_from_ne_true (bytes_eq ys xs) (λ same. let equal : ys ≡ xs = search (rules, same, bytes_eq-Decides) in differ (sym equal))

-- a key that comes after others that differ is none of them
name_not_taken : (done : List (List ℕ)) (name : List ℕ) (rest : List (List ℕ)) → IsDistinct bytes_eq (done ++ name ∷ rest) → position (bytes_eq name) done ≡ None
name_not_taken done name rest distinct =
    None_from_fails (bytes_eq name) done (λ k d inside.
    let pairs : AllPairs (λ x y. x ≢ y) (done ++ name ∷ rest) = AllPairs-from_IsDistinct bytes_eq-Decides (done ++ name ∷ rest) distinct in
    let size : length (done ++ name ∷ rest) ≡ length done + length (name ∷ rest) = length-append done (name ∷ rest) in
    let differ : get_or (done ++ name ∷ rest) k d ≢ get_or (done ++ name ∷ rest) (length done) d = pairs k (length done) d inside (omega arith) in
    let earlier : get_or (done ++ name ∷ rest) k d ≡ get_or done k d = get_or_append_left done (name ∷ rest) d k inside in
    let here : get_or (done ++ name ∷ rest) (length done) d ≡ name = get_or-append_seam done name rest d in
    bytes_differ (get_or done k d) name (λ same. differ (earlier ∙ same ∙ sym here)))

-- the place of a name in a list of names that differ
place_of : (names : List (List ℕ)) (k : ℕ) → IsDistinct bytes_eq names → k < length names → position (bytes_eq (get_or names k [])) names ≡ Some k
place_of names k distinct inside =
    let pairs : AllPairs (λ x y. x ≢ y) names = AllPairs-from_IsDistinct bytes_eq-Decides names distinct in
    let name : List ℕ = get_or names k [] in
    let same : bytes_eq name name ≡ true = search (rules, bytes_eq-Decides) in
    let place : position_or_len (bytes_eq name) names ≡ k = position_or_len_is (bytes_eq name) names k [] (omega arith) (λ j before. bytes_differ (get_or names j []) name (pairs j k [] before inside)) (λ within. same) in
    rw place (grind arith)

built_step : (place : ℕ) (net more : Plan) (p : Part) (rest : List Part) → with_part net p ≡ Ok more → with_parts place net (p ∷ rest) ≡ with_parts (place + 1) more rest
built_step place net more p rest taken = rw (taken, with_parts) refl

one_more : {X : Type 0} (done : List X) (x : X) (rest : List X) → done ++ x ∷ rest ≡ (done ++ x ∷ []) ++ rest
one_more done x rest = sym (append_assoc done (x ∷ []) rest)

has_capacity : {X : Type 0} (done : List X) (x : X) (rest : List X) (most : ℕ) → length (done ++ x ∷ rest) ≤ most → nat_le most (length done) ≡ false
has_capacity done x rest most few =
    let size : length (done ++ x ∷ rest) ≡ length done + length (x ∷ rest) = length-append done (x ∷ rest) in
    lt-leb most (length done) (omega arith)

-- networks that have only points
abbrev only_points : List (List ℕ) → Plan
only_points names = record { points = names; bounds = []; links = []; delay = 0 }

point_taken : (done : List (List ℕ)) (name : List ℕ) (rest : List (List ℕ)) → IsDistinct bytes_eq (done ++ name ∷ rest) → length (done ++ name ∷ rest) ≤ most_points → with_point (only_points done) name ≡ Ok (only_points (done ++ name ∷ []))
unfolding with_point
point_taken done name rest distinct few = rw (name_not_taken done name rest distinct, has_capacity done name rest most_points few) refl

points_built : (names rest done : List (List ℕ)) (more : List Part) (answer : Result Plan _) → ((place : ℕ) → with_parts place (only_points names) more ≡ answer) → (place : ℕ) → names ≡ done ++ rest → IsDistinct bytes_eq names
    → length names ≤ most_points → with_parts place (only_points done) (map part.Point rest ++ more) ≡ answer
points_built names [] done more answer goes_on place split distinct few =
    let same : names ≡ done = split ∙ append-nil done in
    subst (λ (ns : List (List ℕ)). with_parts place (only_points ns) more ≡ answer) same (goes_on place)
points_built names (name ∷ rest) done more answer goes_on place split distinct few =
    let taken = point_taken done name rest (subst (λ (ns : List (List ℕ)). IsDistinct bytes_eq ns) split distinct) (subst (λ (ns : List (List ℕ)). length ns ≤ most_points) split few) in
    built_step place (only_points done) (only_points (done ++ name ∷ [])) (part.Point name) (map part.Point rest ++ more) taken
    ∙ points_built names rest (done ++ name ∷ []) more answer goes_on (place + 1) (split ∙ one_more done name rest) distinct few

-- networks that have points and bounds
abbrev with_bounds : List (List ℕ) → List Bound → Plan
with_bounds points bounds = record { points = points; bounds = bounds; links = []; delay = 0 }

abbrev names_of : List Bound → List (List ℕ)
names_of bounds = map (λ (b : Bound). b.name) bounds

named_is : (net : Plan) (point : PointId) → IsDistinct bytes_eq net.points → point.0 < length net.points → named net (point_name net.points point) ≡ Ok point
named_is net point distinct inside = rw (place_of net.points point.0 distinct inside, named) refl

bound_not_taken : (done : List Bound) (bound : Bound) (rest : List Bound) → IsDistinct bytes_eq (names_of (done ++ bound ∷ rest)) → position (λ (b : Bound). bytes_eq bound.name b.name) done ≡ None
bound_not_taken done bound rest distinct =
    let names : names_of (done ++ bound ∷ rest) ≡ names_of done ++ bound.name ∷ names_of rest = map-append (λ (b : Bound). b.name) done (bound ∷ rest) in
    sym (position-map (bytes_eq bound.name) (λ (b : Bound). b.name) done)
    ∙ name_not_taken (names_of done) bound.name (names_of rest) (subst (λ (ns : List (List ℕ)). IsDistinct bytes_eq ns) names distinct)

-- a bound between points that a plan has
abbrev IsAmong : List (List ℕ) → Bound → Type 0
IsAmong points bound = (bound.from.0 < length points) × (bound.to.0 < length points) × (within_limit bound.most ≡ true)

bound_taken : (points : List (List ℕ)) (done : List Bound) (bound : Bound) (rest : List Bound) → IsDistinct bytes_eq points → IsAmong points bound → IsDistinct bytes_eq (names_of (done ++ bound ∷ rest))
    → length (done ++ bound ∷ rest) ≤ most_bounds → with_part (with_bounds points done) (bound_part points bound) ≡ Ok (with_bounds points (done ++ bound ∷ []))
unfolding with_bound
bound_taken points done bound rest apart (from, to, within) distinct few =
    let net : Plan = with_bounds points done in
    rw (bound_not_taken done bound rest distinct, named_is net bound.from apart from, named_is net bound.to apart to, within, has_capacity done bound rest most_bounds few) refl

-- the bounds of a plan of given points
record AreBoundsAmong (points : List (List ℕ)) (bounds : List Bound) : Type 0 where
  points_apart : IsDistinct bytes_eq points
  among : All (IsAmong points) bounds
  bounds_apart : IsDistinct bytes_eq (names_of bounds)
  few : length bounds ≤ most_bounds

bounds_built : (points : List (List ℕ)) (bounds rest done : List Bound) (more : List Part) (answer : Result Plan _) → ((place : ℕ) → with_parts place (with_bounds points bounds) more ≡ answer) → (place : ℕ) → bounds ≡ done ++ rest
    → AreBoundsAmong points bounds → with_parts place (with_bounds points done) (map (bound_part points) rest ++ more) ≡ answer
bounds_built points bounds [] done more answer goes_on place split are =
    let same : bounds ≡ done = split ∙ append-nil done in
    subst (λ (bs : List Bound). with_parts place (with_bounds points bs) more ≡ answer) same (goes_on place)
bounds_built points bounds (bound ∷ rest) done more answer goes_on place split are =
    let size : length (done ++ bound ∷ rest) ≡ length done + length (bound ∷ rest) = length-append done (bound ∷ rest) in
    let all : All (IsAmong points) (done ++ bound ∷ rest) = subst (λ (bs : List Bound). All (IsAmong points) bs) split are.among in
    let here : IsAmong points bound = subst (λ (b : Bound). IsAmong points b) (get_or-append_seam done bound rest bound) (all (length done) bound (omega arith)) in
    let taken = bound_taken points done bound rest are.points_apart here (subst (λ (bs : List Bound). IsDistinct bytes_eq (names_of bs)) split are.bounds_apart) (subst (λ (bs : List Bound). length bs ≤ most_bounds) split are.few) in
    built_step place (with_bounds points done) (with_bounds points (done ++ bound ∷ [])) (bound_part points bound) (map (bound_part points) rest ++ more) taken
    ∙ bounds_built points bounds rest (done ++ bound ∷ []) more answer goes_on (place + 1) (split ∙ one_more done bound rest) are

-- networks of given points and bounds
abbrev with_links : List (List ℕ) → List Bound → List Link → Plan
with_links points bounds links = record { points = points; bounds = bounds; links = links; delay = 0 }

-- a link that a plan may have, as far as the link alone decides
abbrev IsSound : List (List ℕ) → Link → Type 0
IsSound points link =
    (link.from.0 < length points) × (link.to.0 < length points) × (link.from.0 ≢ link.to.0) × (pos 1 ≤ℤ link.low) × (link.low ≤ℤ link.high) × (within_limit link.high ≡ true)

abbrev EndApart : Link → Link → Type 0
EndApart l m = l.to.0 ≢ m.to.0

link_not_taken : (done : List Link) (link : Link) (rest : List Link) → AllPairs EndApart (done ++ link ∷ rest) → position (λ (l : Link). l.to.0 == link.to.0) done ≡ None
link_not_taken done link rest apart =
    None_from_fails (λ (l : Link). l.to.0 == link.to.0) done (λ k d inside.
    let size : length (done ++ link ∷ rest) ≡ length done + length (link ∷ rest) = length-append done (link ∷ rest) in
    let differ : EndApart (get_or (done ++ link ∷ rest) k d) (get_or (done ++ link ∷ rest) (length done) d) = apart k (length done) d inside (omega arith) in
    let earlier : get_or (done ++ link ∷ rest) k d ≡ get_or done k d = get_or_append_left done (link ∷ rest) d k inside in
    let here : get_or (done ++ link ∷ rest) (length done) d ≡ link = get_or-append_seam done link rest d in
    let ends : EndApart (get_or done k d) link = subst (λ (m : Link). EndApart (get_or done k d) m) here (subst (λ (l : Link). EndApart l (get_or (done ++ link ∷ rest) (length done) d)) earlier differ) in
    ne_eqb (get_or done k d).to.0 link.to.0 ends)

pub good_interval : (low high : ℤ) → pos 1 ≤ℤ low → low ≤ℤ high → (int_lt low (pos 1) || int_lt high low) ≡ false
good_interval low high positive interval = grind arith

link_taken : (points : List (List ℕ)) (bounds : List Bound) (done : List Link) (link : Link) (rest : List Link) → IsDistinct bytes_eq points → IsSound points link → AllPairs EndApart (done ++ link ∷ rest)
    → length (done ++ link ∷ rest) ≤ most_links → with_part (with_links points bounds done) (link_part points link) ≡ Ok (with_links points bounds (done ++ link ∷ []))
unfolding with_link
link_taken points bounds done link rest apart sound ends few =
    let net : Plan = with_links points bounds done in
    let not_itself : (link.from.0 == link.to.0) ≡ false = ne_eqb link.from.0 link.to.0 sound.2 in
    rw (named_is net link.from apart sound.0, named_is net link.to apart sound.1, not_itself, link_not_taken done link rest ends, good_interval link.low link.high sound.3 sound.4, sound.5, has_capacity done link rest most_links few) refl

links_built : (points : List (List ℕ)) (bounds : List Bound) (links rest done : List Link) (place : ℕ) → links ≡ done ++ rest → IsDistinct bytes_eq points → All (IsSound points) links → AllPairs EndApart links → length links ≤ most_links
    → with_parts place (with_links points bounds done) (map (link_part points) rest) ≡ Ok (with_links points bounds links)
links_built points bounds links [] done place split apart sound ends few =
    let same : links ≡ done = split ∙ append-nil done in
    subst (λ (ls : List Link). with_parts place (with_links points bounds done) [] ≡ Ok (with_links points bounds ls)) (sym same) refl
links_built points bounds links (link ∷ rest) done place split apart sound ends few =
    let size : length (done ++ link ∷ rest) ≡ length done + length (link ∷ rest) = length-append done (link ∷ rest) in
    let all : All (IsSound points) (done ++ link ∷ rest) = subst (λ (ls : List Link). All (IsSound points) ls) split sound in
    let here : IsSound points link = subst (λ (l : Link). IsSound points l) (get_or-append_seam done link rest link) (all (length done) link (omega arith)) in
    let taken = link_taken points bounds done link rest apart here (subst (λ (ls : List Link). AllPairs EndApart ls) split ends) (subst (λ (ls : List Link). length ls ≤ most_links) split few) in
    built_step place (with_links points bounds done) (with_links points bounds (done ++ link ∷ [])) (link_part points link) (map (link_part points) rest) taken
    ∙ links_built points bounds links rest (done ++ link ∷ []) (place + 1) (split ∙ one_more done link rest) apart sound ends few

-- the parts of a network build that network
pub parts_build : (net : Plan) → IsPlan net → HasPlanNumbers net → built (parts_of net) ≡ Ok (record net { delay = 0 })
parts_build net plan numbers =
    let instant : Plan = record net { delay = 0 } in
    let among : All (IsAmong net.points) net.bounds = λ k d inside. (let b = plan.bounds_sound k d inside in (b.from_point, b.to_point, numbers.bounds k d inside)) in
    let sound : All (IsSound net.points) net.links = λ k d inside. (let l = plan.links_sound k d inside in (l.from_point, l.to_point, l.apart, l.positive, l.interval, numbers.links k d inside)) in
    let links : (place : ℕ) → with_parts place (with_bounds net.points net.bounds) (map (link_part net.points) net.links) ≡ Ok instant =
    λ place. links_built net.points net.bounds net.links net.links [] place refl plan.points_apart sound plan.links_apart plan.few_links in
    let link_parts = map (link_part net.points) net.links in
    let ready : AreBoundsAmong net.points net.bounds = record { points_apart = plan.points_apart; among = among; bounds_apart = plan.bounds_apart; few = plan.few_bounds } in
    let bounds : (place : ℕ) → with_parts place (only_points net.points) (map (bound_part net.points) net.bounds ++ link_parts) ≡ Ok instant =
    λ place. bounds_built net.points net.bounds net.bounds [] link_parts (Ok instant) links place refl ready in
    points_built net.points net.points [] (map (bound_part net.points) net.bounds ++ link_parts) (Ok instant) bounds 0 refl plan.points_apart plan.few_points

-- and, with its delay, declare it
pub parts_declare : (net : Plan) → IsPlan net → HasPlanNumbers net → declared_net net.delay (parts_of net) ≡ Ok net
parts_declare net plan numbers = ap (delayed net.delay) (parts_build net plan numbers)
