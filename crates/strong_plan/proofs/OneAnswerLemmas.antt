-- Two answers to one network are the same.
use Rattle.std.proofs.Common.{◌≡◌, ◌≢◌, ◌⊎◌, ℕ, ◌<◌, ◌≤◌, List, [], ◌∷◌, Some, map, length, refl, ap, sym, subst, ◌∙◌, inl, inr, arith}
use Rattle.std.specs.List.{AllZip}
use Rattle.std.proofs.Math.Nat.{le_antisymm}
use Rattle.std.proofs.lemmas.Option.{same_Some}
use Rattle.net_model.specs.Network.{Plan}
use Rattle.net_model.specs.declared.ids.PointId.{PointId}
use Rattle.net_model.specs.declared.part.Edge.{Edge}
use Rattle.net_model.specs.declared.part.Link.{Link}
use Rattle.strategy_model.specs.Edges.{IsWalk}
use Rattle.cert_format.specs.declared.strong_cert.StrongCert.{StrongCert}
use Rattle.earliest_times.specs.Rounds.{edge_at_place}
use Rattle.earliest_times.specs.FirstLoops.{IsFirstLoop}
use Rattle.earliest_times.proofs.FirstLoopLemmas.{law_first_loop_is_one}
use Rattle.earliest_times.proofs.TurnLemmas.{loop_some}
use Rattle.strong_plan.specs.Strong.{IsLeastStrongSchedule}
use Rattle.strong_plan.specs.Chains.{IsLinkWalk}
use Rattle.strong_plan.specs.Answers.{down_edge, HasNoRing, lines_at, names_at, StatesFirstRing, StatesFirstLoop, IsStrongRefutation}
use Rattle.strong_plan.specs.Laws.{StrongAnswerIsOne}
use Rattle.strong_plan.specs.declared.answer.Strong.TheVariants.{Times, Refuted}
use Rattle.strong_plan.proofs.RingLemmas.{AreLinked, all_linked}

-- of two lists, of which neither is below the other anywhere, each is the other
zip_same : (one other : List ℕ) → AllZip (λ sooner later. sooner ≤ later) one other → AllZip (λ sooner later. sooner ≤ later) other one → one ≡ other
zip_same [] [] below above = refl
zip_same [] (y ∷ other) below above = absurd below
zip_same (x ∷ one) [] below above = absurd below
zip_same (x ∷ one) (y ∷ other) below above =
    let same : x ≡ y = le_antisymm below.0 above.0 in
    let rest : one ≡ other = zip_same one other below.1 above.1 in
    ap (λ (n : ℕ). n ∷ one) same ∙ ap (λ (ns : List ℕ). y ∷ ns) rest

pub one_schedule : (net : Plan) (one other : List ℕ) → IsLeastStrongSchedule net one → IsLeastStrongSchedule net other → one ≡ other
one_schedule net one other least also = zip_same one other (least.least other also.strong) (also.least one least.strong)

-- ---- a loop of the links is a ring
links_along : (net : Plan) (edges : List Edge) (from to : PointId) → IsWalk from edges to → AreLinked net edges → (links : List Link) × IsLinkWalk net from links to × (0 < length edges → links ≢ [])
links_along net [] from to walk all = ([], walk, λ some. absurd (omega (arith, some)))
links_along net (edge ∷ edges) from to walk all =
    let (name, link, declared, begins, ends) = all.0 in
    let (links, rest, some) = links_along net edges edge.to to walk.1 all.1 in
    (link ∷ links, ((name, declared), begins ∙ walk.0, subst (λ (p : PointId). IsLinkWalk net p links to) (sym ends) rest), λ more none. absurd cc)

has_ring : (net : Plan) (places : List ℕ) → IsFirstLoop (length net.points) (map down_edge net.links) places → HasNoRing net → ⊥
has_ring net places first no_ring =
    let edges = map down_edge net.links in
    let loop = first.from_lowest.loop in
    let (point, walk, negative) = loop.negative in
    let (links, walks, some) = links_along net (map (edge_at_place edges) places) point point walk (all_linked net places loop.within) in
    no_ring links (point, walks, some (some_edges edges places (loop_some edges places loop)))
  where
    some_edges : (edges : List Edge) (ks : List ℕ) → 0 < length ks → 0 < length (map (edge_at_place edges) ks)
    some_edges edges [] some = some
    some_edges edges (k ∷ ks) some = omega arith

-- ---- the reduced edges are one list
same_edges : (one other : List Edge) → map (λ (edge : Edge). Some edge) one ≡ map (λ (edge : Edge). Some edge) other → one ≡ other
same_edges [] [] same = refl
same_edges [] (y ∷ other) same = absurd cc
same_edges (x ∷ one) [] same = absurd cc
same_edges (x ∷ one) (y ∷ other) same =
    let heads : Some x ≡ Some y = cc in
    let tails : map (λ (edge : Edge). Some edge) one ≡ map (λ (edge : Edge). Some edge) other = cc in
    (λ i. same_Some x y heads i ∷ same_edges one other tails i)

-- ---- the certificate
cert_same : (one other : StrongCert) → one.by ≡ other.by → one.ring ≡ other.ring → one ≡ other
cert_same one other lines points = λ i. record { by = lines i; ring = points i }

one_certificate : (net : Plan) (one other : StrongCert) → StatesFirstRing net one ⊎ StatesFirstLoop net one → StatesFirstRing net other ⊎ StatesFirstLoop net other → one ≡ other
one_certificate net one other (inl ring) (inl also) =
    let edges = map down_edge net.links in
    let same : ring.places ≡ also.places = law_first_loop_is_one (length net.points) edges ring.places also.places ring.first also.first in
    cert_same one other (ring.lines ∙ sym also.lines) (ring.points ∙ ap (names_at net edges) same ∙ sym also.points)
one_certificate net one other (inl ring) (inr loop) = absurd (has_ring net ring.places ring.first loop.no_ring)
one_certificate net one other (inr loop) (inl ring) = absurd (has_ring net ring.places ring.first loop.no_ring)
one_certificate net one other (inr loop) (inr also) =
    let edges : loop.edges ≡ also.edges = same_edges loop.edges also.edges (loop.reduced ∙ sym also.reduced) in
    let same : loop.places ≡ also.places = law_first_loop_is_one (length net.points) loop.edges loop.places also.places loop.first (subst (λ (es : List Edge). IsFirstLoop (length net.points) es also.places) (sym edges) also.first) in
    cert_same one other (loop.lines ∙ (λ i. lines_at net (edges i) (same i)) ∙ sym also.lines) (loop.points ∙ sym also.points)

pub one_refutation : (net : Plan) (one other : StrongCert) → IsStrongRefutation net one → IsStrongRefutation net other → one ≡ other
one_refutation net one other refutes also = one_certificate net one other refutes.first also.first

pub law_strong_answer_is_one : StrongAnswerIsOne
law_strong_answer_is_one net (Times one) (Times other) least also = ap Times (one_schedule net one other least also)
law_strong_answer_is_one net (Times one) (Refuted other) least refutes = absurd (refutes.excludes (one, least.strong))
law_strong_answer_is_one net (Refuted one) (Times other) refutes least = absurd (refutes.excludes (other, least.strong))
law_strong_answer_is_one net (Refuted one) (Refuted other) refutes also = ap Refuted (one_refutation net one other refutes also)
