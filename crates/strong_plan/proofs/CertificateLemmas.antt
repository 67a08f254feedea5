-- The certificates of loops are refutations.
use Rattle.std.proofs.Common.{◌≡◌, ◌≢◌, ℕ, ◌<◌, ◌≤◌, List, [], ◌∷◌, Ok, map, length, get_or, refl, ap, sym, ◌∙◌, inl, inr, arith}
use Rattle.std.specs.List.{All, AllByRecursion}
use Rattle.std.specs.Prelude.{unsigned_abs}
use Rattle.std.proofs.lemmas.List.{append-nil, length-map, get_or-map}
use Rattle.std.proofs.lemmas.List.Elements.{recursion_from_All, All-from_recursion}
use Rattle.net_model.specs.Network.{Plan, IsPlan}
use Rattle.net_model.specs.NetworkParts.{point_name}
use Rattle.net_model.specs.declared.ids.PointId.{PointId}
use Rattle.net_model.specs.declared.part.Edge.{Edge}
use Rattle.cert_format.specs.StrongWords.{HasStrongWeight}
use Rattle.cert_format.specs.declared.strong_cert.StrongCert.{StrongCert}
use Rattle.cert_format.specs.declared.strong_cert.StrongLine.{StrongLine}
use Rattle.earliest_times.specs.Rounds.{edge_at_place, no_edge}
use Rattle.earliest_times.specs.Least.{IsLoop, IsLoopFromLowest}
use Rattle.earliest_times.specs.FirstLoops.{IsFirstLoop}
use Rattle.earliest_times.proofs.TurnLemmas.{loop_some}
use Rattle.strong_plan.specs.Numbers.{HasShownNumbers}
use Rattle.strong_plan.specs.Judgement.{AllPass, cert_passes, strong_judged, judgement_of}
use Rattle.strong_plan.specs.Answers.{down_edge, AreReduced, HasNoRing, points_at, names_at, lines_at, IsFromLowest, IsStrongRefutation}
use Rattle.strong_plan.specs.declared.judgement.StrongJudgement.TheVariants.{Accepted}
use Rattle.strong_plan.proofs.JudgeLemmas.{law_accepted_excludes}
use Rattle.strong_plan.proofs.SizeLemmas.{reduced_size}
use Rattle.strong_plan.proofs.EdgesLemmas.{reduced_at}
use Rattle.strong_plan.proofs.RingLemmas.{all_linked, ring_passes, names_same}
use Rattle.strong_plan.proofs.BoundLinesLemmas.{bounds_pass}

-- the points of a loop
loop_points : (edges : List Edge) (places : List ℕ) → IsLoopFromLowest edges places → IsFromLowest (points_at edges places)
loop_points edges places from_lowest = record {
  once = λ i j d less here same.
      let size = length-map places (λ (place : ℕ). (edge_at_place edges place).from) in
      let one = point_of i d (omega (arith, less, here, size)) in
      let other = point_of j d (omega (arith, here, size)) in
      from_lowest.loop.once i j 0 less (omega (arith, here, size)) (ap (λ (p : PointId). p.0) (sym one) ∙ same ∙ ap (λ (p : PointId). p.0) other);
  lowest = λ k here.
      let size = length-map places (λ (place : ℕ). (edge_at_place edges place).from) in
      let inside : k < length places = omega (arith, here, size) in
      let zero : PointId = record { 0 = 0 } in
      let first = ap (λ (p : PointId). p.0) (point_of 0 zero (omega (arith, inside))) in
      let at = ap (λ (p : PointId). p.0) (point_of k zero inside) in
      let least = from_lowest.lowest.least k inside in
      omega (arith, first, at, least);
}
  where
    point_of : (k : ℕ) (d : PointId) → k < length places → get_or (points_at edges places) k d ≡ (edge_at_place edges (get_or places k 0)).from
    point_of k d inside = get_or-map (λ (place : ℕ). (edge_at_place edges place).from) places k 0 d inside

accept : (net : Plan) (cert : StrongCert) (passes : AllPass) → cert_passes net cert.by cert.ring ≡ passes → passes ≡ Ok tt → judgement_of net cert ≡ Accepted
accept net cert passes is ok = ap strong_judged (is ∙ ok)

not_empty : (names : List (List ℕ)) → 0 < length names → names ≢ []
not_empty [] some = absurd (omega (arith, some))
not_empty (name ∷ names) some = λ none. absurd cc

pub ring_refutes : (net : Plan) → IsPlan net → (places : List ℕ) → IsFirstLoop (length net.points) (map down_edge net.links) places → IsStrongRefutation net (record { by = []; ring = names_at net (map down_edge net.links) places })
ring_refutes net plan places first = record {
  accepted = accepted;
  excludes = λ strongly. law_accepted_excludes net cert plan accepted strongly;
  rings_first = λ links ring. not_empty cert.ring (omega (arith, names, count, some));
  points = points_at edges places;
  named = refl;
  from_lowest = loop_points edges places first.from_lowest;
  of_one_kind = inl refl;
  weights = All-from_recursion HasStrongWeight [] tt;
  first = inl (record { places = places; first = first; lines = refl; points = refl });
}
  where
    edges : List Edge
    edges = map down_edge net.links

    cert : StrongCert
    cert = record { by = []; ring = names_at net edges places }

    loop : IsLoop edges places
    loop = first.from_lowest.loop

    some : 0 < length places
    some = loop_some edges places loop

    count : length (points_at edges places) ≡ length places
    count = length-map places (λ (place : ℕ). (edge_at_place edges place).from)

    names : length (names_at net edges places) ≡ length (points_at edges places)
    names = length-map (points_at edges places) (point_name net.points)

    passes : cert_passes net [] (names_at net edges places) ≡ Ok tt
    passes =
        let size = length-map places (edge_at_place edges) in
        ap (cert_passes net []) (sym (names_same net plan edges places)) ∙ ring_passes net plan (map (edge_at_place edges) places) loop.negative.0 (omega (arith, size, some)) loop.negative.1 (all_linked net places loop.within)

    accepted : judgement_of net cert ≡ Accepted
    accepted = accept net cert (cert_passes net [] (names_at net edges places)) refl passes

pub bounds_refute : (net : Plan) → IsPlan net → HasShownNumbers net → HasNoRing net → (edges : List Edge) → AreReduced net edges → (places : List ℕ) → IsFirstLoop (length net.points) edges places
    → IsStrongRefutation net (record { by = lines_at net edges places; ring = [] })
bounds_refute net plan numbers no_ring edges are places first = record {
  accepted = accepted;
  excludes = λ strongly. law_accepted_excludes net cert plan accepted strongly;
  rings_first = λ links ring. absurd (no_ring links ring);
  points = points_at edges places;
  named = append-nil (map (λ (line : StrongLine). line.from) (lines_at net edges places)) ∙ from_names places;
  from_lowest = loop_points edges places first.from_lowest;
  of_one_kind = inr refl;
  weights = All-from_recursion HasStrongWeight (lines_at net edges places) (small places (recursion_from_All (λ place. place < length edges) places loop.within));
  first = inr (record { no_ring = no_ring; edges = edges; reduced = are; places = places; first = first; lines = refl; points = refl });
}
  where
    cert : StrongCert
    cert = record { by = lines_at net edges places; ring = [] }

    loop : IsLoop edges places
    loop = first.from_lowest.loop

    from_names : (ks : List ℕ) → map (λ (line : StrongLine). line.from) (lines_at net edges ks) ≡ names_at net edges ks
    from_names [] = refl
    from_names (k ∷ ks) = ap (λ (ns : List (List ℕ)). point_name net.points (edge_at_place edges k).from ∷ ns) (from_names ks)

    small : (ks : List ℕ) → AllByRecursion (λ place. place < length edges) ks → AllByRecursion HasStrongWeight (lines_at net edges ks)
    small [] within = tt
    small (k ∷ ks) within =
        let (bound, declared, reduced) = reduced_at net plan edges are k no_edge within.0 in
        let size = reduced_size net plan numbers bound (edge_at_place edges k) declared reduced in
        (omega (arith, size), small ks within.1)

    passes : cert_passes net (lines_at net edges places) [] ≡ Ok tt
    passes = bounds_pass net plan numbers edges are places loop.negative.0 (loop_some edges places loop) (recursion_from_All (λ place. place < length edges) places loop.within) loop.negative.1 loop.negative.2

    accepted : judgement_of net cert ≡ Accepted
    accepted = accept net cert (cert_passes net (lines_at net edges places) []) refl passes

-- the weights of all reduced edges
pub edges_small : (net : Plan) → IsPlan net → HasShownNumbers net → (edges : List Edge) → AreReduced net edges → All (λ edge. unsigned_abs edge.weight ≤ 5000000000000) edges
edges_small net plan numbers edges are k e inside =
    let (bound, declared, reduced) = reduced_at net plan edges are k e inside in
    let size = reduced_size net plan numbers bound (get_or edges k e) declared reduced in
    omega (arith, size)
