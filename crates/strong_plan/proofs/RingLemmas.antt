-- The certificate of a loop of the edges of links is accepted.
use Rattle.std.proofs.Common.{◌≡◌, ℕ, suc, ◌+◌, ◌<◌, pos, Bool, true, false, List, [], ◌∷◌, Option, Some, Ok, map, length, get_or, is_some, refl, ap, sym, subst, ◌∙◌, arith}
use Rattle.std.specs.List.{All, AllByRecursion}
use Rattle.std.specs.Option.{option_map_or, option_and_then}
use Rattle.std.proofs.lemmas.List.{length-map, get_or-map}
use Rattle.std.proofs.lemmas.Option.{slice_get-get_or}
use Rattle.net_model.specs.Network.{Plan, IsPlan, IsPoint}
use Rattle.net_model.specs.NetworkParts.{point_name}
use Rattle.net_model.specs.Edges.{IsLinkOf}
use Rattle.net_model.specs.declared.ids.PointId.{PointId}
use Rattle.net_model.specs.declared.ids.LinkId.{LinkId}
use Rattle.net_model.specs.declared.part.Edge.{Edge}
use Rattle.net_model.specs.declared.part.Link.{Link}
use Rattle.strategy_model.specs.Edges.{IsWalk}
use Rattle.strategy_model.proofs.PlayLemmas.{link_sound}
use Rattle.cert_format.specs.JudgementForms.{◌>>=◌, unless}
use Rattle.cert_checker.specs.Lines.{link_named, names_point}
use Rattle.cert_checker.specs.declared.judgement.CertFault.TheVariants.{UnknownItem, WalkBroken}
use Rattle.cert_checker.proofs.PartNames.{named_point, has_name}
use Rattle.earliest_times.specs.Rounds.{edge_at_place}
use Rattle.strong_plan.specs.ReducedEdges.{link_into}
use Rattle.strong_plan.specs.Judgement.{AllPass, refusal, points_pass, begins_in, follows, last_name, cert_passes}
use Rattle.strong_plan.specs.Answers.{down_edge, names_at}
use Rattle.strong_plan.proofs.ReducedEdgeLemmas.{into_link}

-- a link leads from a point to a point
abbrev pub IsLinked : Plan → PointId → PointId → Type 0
IsLinked net from to = (name : LinkId) × (link : Link) × IsLinkOf net name link × (link.from ≡ from) × (link.to ≡ to)

abbrev pub AreLinked : Plan → List Edge → Type 0
AreLinked net edges = AllByRecursion (λ (edge : Edge). IsLinked net edge.from edge.to) edges

-- the edge of a link at a place
linked_at : (net : Plan) (place : ℕ) → place < length (map down_edge net.links) → IsLinked net (edge_at_place (map down_edge net.links) place).from (edge_at_place (map down_edge net.links) place).to
linked_at net place inside =
    let size = length-map net.links down_edge in
    let blank : Link = record { from = record { 0 = 0 }; low = pos 0; high = pos 0; to = record { 0 = 0 } } in
    let within : place < length net.links = omega (arith, size, inside) in
    let link = get_or net.links place blank in
    let here : edge_at_place (map down_edge net.links) place ≡ down_edge link = get_or-map down_edge net.links place blank _ within in
    (record { 0 = place }, link, slice_get-get_or net.links place blank within, ap (λ (e : Edge). e.from) (sym here), ap (λ (e : Edge). e.to) (sym here))

pub all_linked : (net : Plan) (places : List ℕ) → All (λ place. place < length (map down_edge net.links)) places → AreLinked net (map (edge_at_place (map down_edge net.links)) places)
all_linked net [] within = tt
all_linked net (place ∷ places) within =
    (linked_at net place (within 0 place (omega arith)), all_linked net places (λ k d inside. within (suc k) d (omega (arith, inside))))

module _ (net : Plan) (plan : IsPlan net) where
  abbrev name_of : PointId → List ℕ
  name_of point = point_name net.points point

  abbrev pub names_along : List Edge → List (List ℕ)
  names_along edges = map (λ (edge : Edge). name_of edge.from) edges

  -- the name of a point to which a link leads names that link
  known : (from to : PointId) (linked : IsLinked net from to) → link_named net (name_of to) ≡ Some linked.1
  known from to (name, link, declared, begins, ends) =
      let sound = link_sound net plan name.0 link declared in
      let inside : IsPoint net to = subst (IsPoint net) ends sound.to_point in
      ap (option_and_then (link_into net)) (named_point net plan to inside) ∙ into_link net plan name link to declared ends

  begins : (from to : PointId) → IsLinked net from to → begins_in net (name_of from) (name_of to) ≡ true
  begins from to linked =
      let (name, link, declared, from_is, to_is) = linked in
      let sound = link_sound net plan name.0 link declared in
      let inside : IsPoint net from = subst (IsPoint net) from_is sound.from_point in
      ap (λ (o : Option Link). option_map_or (λ (l : Link). names_point net (name_of from) l.from) o false) (known from to linked) ∙ ap (names_point net (name_of from)) from_is ∙ has_name net plan from inside

  after : (before : PointId) (edge : Edge) (from : PointId) → IsLinked net before from → edge.from ≡ from → IsLinked net before edge.from
  after before edge from linked same = subst (IsLinked net before) (sym same) linked

  pub points_along : (edges : List Edge) (place : ℕ) (from to before : PointId) → IsLinked net before from → IsWalk from edges to → AreLinked net edges → points_pass net place (names_along edges) ≡ Ok tt
  points_along [] place from to before linked walk all = refl
  points_along (edge ∷ edges) place from to before linked walk all =
      let here : is_some (link_named net (name_of edge.from)) ≡ true = ap is_some (known before edge.from (after before edge from linked walk.0)) in
      ap (λ (b : Bool). unless b (refusal place UnknownItem) >>= (λ _. points_pass net (place + 1) (names_along edges))) here ∙ points_along edges (place + 1) edge.to to edge.from all.0 walk.1 all.1

  pub follows_along : (edges : List Edge) (place : ℕ) (from to before : PointId) → IsLinked net before from → IsWalk from edges to → AreLinked net edges → follows net place (name_of before) (names_along edges) ≡ Ok tt
  follows_along [] place from to before linked walk all = refl
  follows_along (edge ∷ edges) place from to before linked walk all =
      let here = begins before edge.from (after before edge from linked walk.0) in
      ap (λ (b : Bool). unless b (refusal place WalkBroken) >>= (λ _. follows net (place + 1) (name_of edge.from) (names_along edges))) here ∙ follows_along edges (place + 1) edge.to to edge.from all.0 walk.1 all.1

  -- the point before the end of a walk
  record Last (edge : Edge) (edges : List Edge) (to : PointId) : Type 0 where
    point : PointId
    linked : IsLinked net point to
    named : last_name (name_of edge.from) (names_along edges) ≡ name_of point

  last : (edge : Edge) (edges : List Edge) (from to : PointId) → IsWalk from (edge ∷ edges) to → AreLinked net (edge ∷ edges) → Last edge edges to
  last edge [] from to walk all = record { point = edge.from; linked = subst (IsLinked net edge.from) walk.1 all.0; named = refl }
  last edge (next ∷ edges) from to walk all =
      let rest = last next edges edge.to to walk.1 all.1 in
      record { point = rest.point; linked = rest.linked; named = rest.named }

  pub ring_passes : (edges : List Edge) (point : PointId) → 0 < length edges → IsWalk point edges point → AreLinked net edges → cert_passes net [] (names_along edges) ≡ Ok tt
  ring_passes [] point some walk all = absurd (omega (arith, some))
  ring_passes (edge ∷ edges) point some walk all =
      let before = last edge edges point point walk all in
      let points = points_along (edge ∷ edges) 1 point point before.point before.linked walk all in
      let round : follows net 1 (last_name (name_of edge.from) (names_along edges)) (names_along (edge ∷ edges)) ≡ Ok tt = ap (λ (n : List ℕ). follows net 1 n (names_along (edge ∷ edges))) before.named
      ∙ follows_along (edge ∷ edges) 1 point point before.point before.linked walk all in
      ap (λ (r : AllPass). r >>= (λ _. follows net 1 (last_name (name_of edge.from) (names_along edges)) (names_along (edge ∷ edges)))) points ∙ round

  pub names_same : (edges : List Edge) (places : List ℕ) → names_along (map (edge_at_place edges) places) ≡ names_at net edges places
  names_same edges [] = refl
  names_same edges (place ∷ places) = ap (λ (ns : List (List ℕ)). name_of (edge_at_place edges place).from ∷ ns) (names_same edges places)
