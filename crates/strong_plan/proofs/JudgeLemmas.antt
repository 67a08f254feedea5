-- An accepted certificate excludes every strong schedule.
use Rattle.std.proofs.Common.{◌≡◌, ◌≢◌, ℕ, ◌+◌, ℤ, pos, ◌+ℤ◌, ◌≤ℤ◌, ◌<ℤ◌, Bool, true, false, List, [], ◌∷◌, Option, Some, None, Ok, Err, length, slice_get, is_some, refl, ap, sym, subst, ◌∙◌, arith}
use Rattle.std.specs.List.{AllByRecursion}
use Rattle.std.specs.Option.{option_and_then, option_map, option_map_or}
use Rattle.std.specs.Prelude.{◌&&◌, ◌==◌, Result, int_le, int_lt, nat_le, unsigned_abs}
use Rattle.std.specs.Str.{bytes_eq}
use Rattle.std.proofs.lemmas.Bool.{and_parts, eqb-true, true≢false}
use Rattle.std.proofs.lemmas.Slice.Eq.{bytes_eq-Decides}
use Rattle.std.proofs.lemmas.Int.{ints}
use Rattle.std.proofs.lemmas.Option.{none-some, same_Some, slice_get_within, get_or_from_slice_get}
use Rattle.net_model.specs.Limits.{most_weight}
use Rattle.net_model.specs.Network.{Plan, IsPlan, IsBound, point_named, bound_named}
use Rattle.net_model.specs.Edges.{IsLinkOf}
use Rattle.net_model.specs.declared.ids.PointId.{PointId}
use Rattle.net_model.specs.declared.ids.BoundId.{BoundId}
use Rattle.net_model.specs.declared.ids.LinkId.{LinkId}
use Rattle.net_model.specs.declared.part.Bound.{Bound}
use Rattle.net_model.specs.declared.part.Edge.{Edge}
use Rattle.net_model.specs.declared.part.Link.{Link}
use Rattle.strategy_model.specs.Edges.{IsWalk, total, IsNegativeLoop}
use Rattle.strategy_model.proofs.MomentLemmas.{same_from_number}
use Rattle.strong_plan.specs.Chains.{IsReduced, IsAllowed, IsLinkWalk}
use Rattle.strong_plan.specs.ReducedEdges.{link_into, chain_of, edge_between, reduced_edge}
use Rattle.cert_format.specs.JudgementForms.{◌>>=◌, unless, there}
use Rattle.cert_format.specs.declared.strong_cert.StrongLine.{StrongLine}
use Rattle.cert_checker.specs.Lines.{Passes, bound_of, names_point, link_named}
use Rattle.cert_checker.specs.declared.judgement.CertFault.TheVariants.{UnknownItem, WeightRange, Ends, TooLow, WalkBroken, WalkNotNegative}
use Rattle.strong_plan.specs.Judgement.{AllPass, refusal, refused_at_place, bound_line_passes, bound_lines_pass, lines_return_to, total_of, strong_walk_passes, points_pass, begins_in, follows, last_name, cert_passes, strong_judged}
use Rattle.strong_plan.specs.Laws.{AcceptedExcludes}
use Rattle.strong_plan.specs.declared.judgement.StrongJudgement.TheVariants.{Accepted}
use Rattle.strong_plan.proofs.ReducedEdgeLemmas.{chain_sound, into_some}
use Rattle.strong_plan.proofs.ExcludeLemmas.{law_loops_exclude_strong, law_rings_exclude_strong}

-- ---- steps that pass
unless_ok : {E B : Type 0} (b : Bool) (why : E) (rest : Result B E) (done : B) → (unless b why >>= (λ _. rest)) ≡ Ok done → (b ≡ true) × (rest ≡ Ok done)
unless_ok true why rest done passes = (refl, passes)
unless_ok false why rest done passes = absurd cc

there_ok : {A B E : Type 0} (o : Option A) (why : E) (next : A → Result B E) (done : B) → (there o why >>= next) ≡ Ok done → (x : A) × (o ≡ Some x) × (next x ≡ Ok done)
there_ok None why next done passes = absurd cc
there_ok (Some x) why next done passes = (x, refl, passes)

last_ok : {E : Type 0} (b : Bool) (why : E) → unless b why ≡ Ok tt → b ≡ true
last_ok true why passes = refl
last_ok false why passes = absurd cc

place_ok : (place : ℕ) (own : Passes) (rest : AllPass) → (refused_at_place place own >>= (λ _. rest)) ≡ Ok tt → (own ≡ Ok tt) × (rest ≡ Ok tt)
place_ok place (Ok done) rest passes = (refl, passes)
place_ok place (Err why) rest passes = absurd cc

-- ---- names
bytes_eq-same : (one other : List ℕ) → bytes_eq one other ≡ true → one ≡ other
bytes_eq-same one other same = let decides = bytes_eq-Decides one other in grind (arith, decides)

bound_sound : (net : Plan) → IsPlan net → (place : ℕ) (bound : Bound) → slice_get net.bounds place ≡ Some bound → IsBound net bound
bound_sound net plan place bound declared =
    subst (IsBound net) (get_or_from_slice_get net.bounds place bound bound declared) (plan.bounds_sound place bound (slice_get_within net.bounds place bound declared))

named_is : (net : Plan) (name : List ℕ) (point : PointId) → names_point net name point ≡ true → point_named net name ≡ Some point
named_is net name point is = by (point_named net name) is
  where
    by : (o : Option PointId) → option_map_or (λ (p : PointId). p.0 == point.0) o false ≡ true → o ≡ Some point
    by None fails = absurd (true≢false (sym fails))
    by (Some p) same = ap (λ (x : PointId). Some x) (same_from_number p point (eqb-true p.0 point.0 same))

bound_declared : (net : Plan) (name : List ℕ) (bound : Bound) → bound_of net name ≡ Some bound → (place : ℕ) × (slice_get net.bounds place ≡ Some bound)
bound_declared net name bound is = by (bound_named net name) is
  where
    by : (o : Option BoundId) → option_and_then (λ (b : BoundId). slice_get net.bounds b.0) o ≡ Some bound → (place : ℕ) × (slice_get net.bounds place ≡ Some bound)
    by None none = absurd (none-some bound none)
    by (Some id) here = (id.0, here)

-- ---- a reduced edge that is found is the reduced edge
pub reduced_sound : (net : Plan) → IsPlan net → (bound : Bound) (edge : Edge) → IsBound net bound → reduced_edge net bound ≡ Some edge → IsReduced net bound edge
reduced_sound net plan bound edge sound is = by (chain_of net bound.from) (chain_of net bound.to) refl refl is
  where
    by : (c d : Option (List Link)) → chain_of net bound.from ≡ c → chain_of net bound.to ≡ d → option_and_then (λ (from : List Link). option_map (edge_between bound from) d) c ≡ Some edge → IsReduced net bound edge
    by None d c_is d_is none = absurd (none-some edge none)
    by (Some c) None c_is d_is none = absurd (none-some edge none)
    by (Some c) (Some d) c_is d_is some =
        let (from, short) = chain_sound net plan bound.from c sound.from_point c_is in
        let (to, brief) = chain_sound net plan bound.to d sound.to_point d_is in
        subst (IsReduced net bound) (same_Some (edge_between bound c d) edge some) (record { from_chain = c; to_chain = d; from = from; to = to; ordinary = refl; weight = refl })

-- ---- a line that passes
record IsLineOf (net : Plan) (line : StrongLine) : Type 0 where
  bound : Bound
  place : ℕ
  declared : slice_get net.bounds place ≡ Some bound
  edge : Edge
  is : IsReduced net bound edge
  from : point_named net line.from ≡ Some edge.from
  to : point_named net line.to ≡ Some edge.to
  at_least : edge.weight ≤ℤ line.weight

line_of : (net : Plan) → IsPlan net → (line : StrongLine) → bound_line_passes net line ≡ Ok tt → IsLineOf net line
unfolding bound_line_passes
line_of net plan line passes =
    let (known, step) = unless_ok (is_some (point_named net line.from) && is_some (point_named net line.to)) UnknownItem _ tt passes in
    let (bound, named, step') = there_ok (bound_of net line.bound) UnknownItem _ tt step in
    let (range, step'') = unless_ok (nat_le (unsigned_abs line.weight) most_weight) WeightRange _ tt step' in
    let (edge, reduced, step''') = there_ok (reduced_edge net bound) Ends _ tt step'' in
    let (ends, weight) = unless_ok (names_point net line.from edge.from && names_point net line.to edge.to) Ends _ tt step''' in
    let (from, to) = and_parts (names_point net line.from edge.from) (names_point net line.to edge.to) ends in
    let least : int_le edge.weight line.weight ≡ true = last_ok (int_le edge.weight line.weight) (TooLow line.weight edge.weight) weight in
    let (place, declared) = bound_declared net line.bound bound named in
    record {
      bound = bound;
      place = place;
      declared = declared;
      edge = edge;
      is = reduced_sound net plan bound edge (bound_sound net plan place bound declared) reduced;
      from = named_is net line.from edge.from from;
      to = named_is net line.to edge.to to;
      at_least = grind (arith, ints);
    }

lines_of : (net : Plan) → IsPlan net → (place : ℕ) (lines : List StrongLine) → bound_lines_pass net place lines ≡ Ok tt → AllByRecursion (IsLineOf net) lines
lines_of net plan place [] passes = tt
lines_of net plan place (line ∷ lines) passes =
    let (own, rest) = place_ok place (bound_line_passes net line) (bound_lines_pass net (place + 1) lines) passes in
    (line_of net plan line own, lines_of net plan (place + 1) lines rest)

-- ---- the walk
edge_by : (net : Plan) (line : StrongLine) → IsLineOf net line → Edge
edge_by net line its = record { from = its.edge.from; to = its.edge.to; label = None; weight = line.weight }

edges_by : (net : Plan) (lines : List StrongLine) → AllByRecursion (IsLineOf net) lines → List Edge
edges_by net [] all = []
edges_by net (line ∷ lines) all = edge_by net line all.0 ∷ edges_by net lines all.1

all_allowed : (net : Plan) (lines : List StrongLine) (all : AllByRecursion (IsLineOf net) lines) → AllByRecursion (IsAllowed net) (edges_by net lines all)
unfolding edges_by edge_by
all_allowed net [] all = tt
all_allowed net (line ∷ lines) all =
    let its = all.0 in (
      record {
        bound = its.bound;
        declared = (its.place, slice_get_within net.bounds its.place its.bound its.declared, get_or_from_slice_get net.bounds its.place its.bound its.bound its.declared);
        reduced = its.edge;
        is = its.is;
        from = refl;
        to = refl;
        at_least = its.at_least;
      },
      all_allowed net lines all.1,
    )

totals : (net : Plan) (lines : List StrongLine) (all : AllByRecursion (IsLineOf net) lines) → total (edges_by net lines all) ≡ total_of lines
unfolding edges_by edge_by
totals net [] all = refl
totals net (line ∷ lines) all = ap (λ (t : ℤ). line.weight +ℤ t) (totals net lines all.1)

same_point_of : (net : Plan) (one other : List ℕ) (p q : PointId) → one ≡ other → point_named net one ≡ Some p → point_named net other ≡ Some q → p ≡ q
same_point_of net one other p q same first second = same_Some p q (sym first ∙ ap (point_named net) same ∙ second)

walks : (net : Plan) (begin : List ℕ) (point : PointId) (place : ℕ) (last : StrongLine) (its : IsLineOf net last) (lines : List StrongLine) (all : AllByRecursion (IsLineOf net) lines) → point_named net begin ≡ Some point
    → lines_return_to begin place last lines ≡ Ok tt
    → IsWalk its.edge.to (edges_by net lines all) point
unfolding edges_by edge_by
walks net begin point place last its [] all named returns =
    same_point_of net last.to begin its.edge.to point (bytes_eq-same last.to begin (last_ok (bytes_eq last.to begin) (refusal place WalkBroken) returns)) its.to named
walks net begin point place last its (next ∷ lines) all named returns =
    let (meets, rest) = unless_ok (bytes_eq next.from last.to) (refusal (place + 1) WalkBroken) (lines_return_to begin (place + 1) next lines) tt returns in
    (same_point_of net next.from last.to all.0.edge.from its.edge.to (bytes_eq-same next.from last.to meets) all.0.from its.to, walks net begin point (place + 1) next all.0 lines all.1 named rest)

loop_of : (net : Plan) (lines : List StrongLine) (all : AllByRecursion (IsLineOf net) lines) → strong_walk_passes lines ≡ Ok tt → IsNegativeLoop (edges_by net lines all)
unfolding edges_by edge_by
loop_of net [] all passes = absurd cc
loop_of net (line ∷ lines) all passes =
    let (closed_walk, negative) = unless_ok' passes in
    let below : int_lt (total_of (line ∷ lines)) (pos 0) ≡ true = last_ok (int_lt (total_of (line ∷ lines)) (pos 0)) (refusal (1 + length lines) (WalkNotNegative (total_of (line ∷ lines)))) negative in
    let same = totals net (line ∷ lines) all in
    (all.0.edge.from, (refl, walks net line.from all.0.edge.from 1 line all.0 lines all.1 all.0.from closed_walk), below_zero below same)
  where
    first_ok : (own rest : AllPass) → (own >>= (λ _. rest)) ≡ Ok tt → (own ≡ Ok tt) × (rest ≡ Ok tt)
    first_ok (Ok done) rest passes = (refl, passes)
    first_ok (Err why) rest passes = absurd cc

    unless_ok' : strong_walk_passes (line ∷ lines) ≡ Ok tt → (lines_return_to line.from 1 line lines ≡ Ok tt)
        × (unless (int_lt (total_of (line ∷ lines)) (pos 0)) (refusal (1 + length lines) (WalkNotNegative (total_of (line ∷ lines)))) ≡ Ok tt)
    unless_ok' passes = first_ok (lines_return_to line.from 1 line lines) _ passes

    below_zero : {t : ℤ} → int_lt (total_of (line ∷ lines)) (pos 0) ≡ true → t ≡ total_of (line ∷ lines) → t <ℤ pos 0
    below_zero below same = grind (arith, ints)

-- ---- the ring
record IsLinked (net : Plan) (name : List ℕ) (link : Link) : Type 0 where
  point : PointId
  named : point_named net name ≡ Some point
  into : link_into net point ≡ Some link

linked : (net : Plan) (name : List ℕ) (link : Link) → link_named net name ≡ Some link → IsLinked net name link
linked net name link is = by (point_named net name) refl is
  where
    by : (o : Option PointId) → point_named net name ≡ o → option_and_then (link_into net) o ≡ Some link → IsLinked net name link
    by None named none = absurd (none-some link none)
    by (Some point) named into = record { point = point; named = named; into = into }

begins : (net : Plan) (before name : List ℕ) → begins_in net before name ≡ true → (link : Link) × (link_named net name ≡ Some link) × (point_named net before ≡ Some link.from)
begins net before name is = by (link_named net name) refl is
  where
    by : (o : Option Link) → link_named net name ≡ o → option_map_or (λ (link : Link). names_point net before link.from) o false ≡ true → (link : Link) × (link_named net name ≡ Some link) × (point_named net before ≡ Some link.from)
    by None none fails = absurd (true≢false (sym fails))
    by (Some link) some here = (link, some, named_is net before link.from here)

record IsRingWalk (net : Plan) (before last : List ℕ) : Type 0 where
  from : PointId
  to : PointId
  links : List Link
  begin : point_named net before ≡ Some from
  end : point_named net last ≡ Some to
  walk : IsLinkWalk net from links to
  some : links ≢ []

-- one link of it
record IsRingStep (net : Plan) (before name : List ℕ) : Type 0 where
  link : Link
  from : point_named net before ≡ Some link.from
  to : point_named net name ≡ Some link.to
  its : (id : LinkId) × IsLinkOf net id link

ring_step : (net : Plan) → IsPlan net → (before name : List ℕ) → begins_in net before name ≡ true → IsRingStep net before name
ring_step net plan before name meets =
    let (link, is, from) = begins net before name meets in
    let its = linked net name link is in
    let (id, declared, to) = into_some net plan its.point link its.into in
    record { link = link; from = from; to = its.named ∙ ap (λ (p : PointId). Some p) (sym to); its = (id, declared) }

ring_walk : (net : Plan) → IsPlan net → (place : ℕ) (before name : List ℕ) (names : List (List ℕ)) → follows net place before (name ∷ names) ≡ Ok tt → IsRingWalk net before (last_name name names)
ring_walk net plan place before name [] passes =
    let (meets, rest) = unless_ok (begins_in net before name) (refusal place WalkBroken) (follows net (place + 1) name []) tt passes in
    let step = ring_step net plan before name meets in
    record { from = step.link.from; to = step.link.to; links = step.link ∷ []; begin = step.from; end = step.to; walk = (step.its, refl, refl); some = λ none. absurd cc }
ring_walk net plan place before name (next ∷ others) passes =
    let (meets, rest) = unless_ok (begins_in net before name) (refusal place WalkBroken) (follows net (place + 1) name (next ∷ others)) tt passes in
    let step = ring_step net plan before name meets in
    let tail = ring_walk net plan (place + 1) name next others rest in
    let joins : tail.from ≡ step.link.to = same_Some tail.from step.link.to (sym tail.begin ∙ step.to) in
    record {
      from = step.link.from;
      to = tail.to;
      links = step.link ∷ tail.links;
      begin = step.from;
      end = tail.end;
      walk = (step.its, refl, subst (λ (p : PointId). IsLinkWalk net p tail.links tail.to) joins tail.walk);
      some = λ none. absurd cc;
    }

-- ---- the certificate
pub law_accepted_excludes : AcceptedExcludes
law_accepted_excludes net cert plan accepted strongly = by cert.ring (cert_passes net cert.by cert.ring) refl accepted
  where
    first_ok : (own rest : AllPass) → (own >>= (λ _. rest)) ≡ Ok tt → (own ≡ Ok tt) × (rest ≡ Ok tt)
    first_ok (Ok done) rest passes = (refl, passes)
    first_ok (Err why) rest passes = absurd cc

    which : (ring : List (List ℕ)) → cert_passes net cert.by ring ≡ Ok tt → ⊥
    which [] passes =
        let (each, walk) = first_ok (bound_lines_pass net 1 cert.by) (strong_walk_passes cert.by) passes in
        let all = lines_of net plan 1 cert.by each in
        law_loops_exclude_strong net (edges_by net cert.by all) plan (all_allowed net cert.by all) (loop_of net cert.by all walk) strongly
    which (name ∷ names) passes =
        let (each, round) = first_ok (points_pass net 1 (name ∷ names)) (follows net 1 (last_name name names) (name ∷ names)) passes in
        let its = ring_walk net plan 1 (last_name name names) name names round in
        let meets : its.from ≡ its.to = same_Some its.from its.to (sym its.begin ∙ its.end) in
        law_rings_exclude_strong net its.links plan (its.to, subst (λ (p : PointId). IsLinkWalk net p its.links its.to) meets its.walk, its.some) strongly

    by : (ring : List (List ℕ)) (passes : AllPass) → cert_passes net cert.by ring ≡ passes → strong_judged passes ≡ Accepted → ⊥
    by ring (Ok done) is accepted = which ring is
    by ring (Err refused) is accepted = absurd cc
