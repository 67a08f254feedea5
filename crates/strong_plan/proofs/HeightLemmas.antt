-- Heights descend along the links: then each point has a root and the links have no ring.
use Rattle.std.proofs.Common.{◌≡◌, ◌≢◌, ℕ, zero, suc, ◌+◌, ◌-◌, ◌<◌, ◌≤◌, pos, List, [], ◌∷◌, map, length, get_or, refl, ap, sym, subst, ◌∙◌, inl, inr, arith}
use Rattle.std.specs.List.{All}
use Rattle.std.specs.Prelude.{unsigned_abs}
use Rattle.std.proofs.lemmas.Int.{ints}
use Rattle.std.proofs.lemmas.List.{length-map, get_or-map}
use Rattle.std.proofs.lemmas.Option.{slice_get_within, get_or_from_slice_get}
use Rattle.net_model.specs.Network.{Plan, IsPlan, IsPoint}
use Rattle.net_model.specs.Edges.{IsLinkOf}
use Rattle.net_model.specs.declared.ids.PointId.{PointId}
use Rattle.net_model.specs.declared.ids.LinkId.{LinkId}
use Rattle.net_model.specs.declared.part.Edge.{Edge}
use Rattle.net_model.specs.declared.part.Link.{Link}
use Rattle.strategy_model.specs.Situations.{moment_in}
use Rattle.strategy_model.specs.Edges.{HoldsIn}
use Rattle.strategy_model.proofs.PlayLemmas.{link_sound}
use Rattle.strategy_model.proofs.KindLemmas.{kind}
use Rattle.earliest_times.specs.Rounds.{no_edge}
use Rattle.earliest_times.specs.History.{AreWithin}
use Rattle.strong_plan.specs.Chains.{ends, goes_on, IsLinkWalk}
use Rattle.strong_plan.specs.Answers.{down_edge, HasNoRing}
use Rattle.strong_plan.specs.Laws.{HasRoots}
use Rattle.strong_plan.proofs.StrongLemmas.{Rooted}

-- above every height of a list
abbrev most_of : List ℕ → ℕ
most_of [] = 0
most_of (m ∷ ms) = m + most_of ms

below_most : (ms : List ℕ) (k : ℕ) → get_or ms k 0 ≤ most_of ms
below_most [] k = omega arith
below_most (m ∷ ms) zero = omega arith
below_most (m ∷ ms) (suc k) = let rest = below_most ms k in omega (arith, rest)

abbrev LinksDescend : Plan → List ℕ → Type 0
LinksDescend net heights = (name : LinkId) (link : Link) → IsLinkOf net name link → moment_in heights link.to < moment_in heights link.from

up : (n : ℕ) (net : Plan) → IsPlan net → (heights : List ℕ) → LinksDescend net heights → (point : PointId) → IsPoint net point → most_of heights - moment_in heights point < n → Rooted net point
up zero net plan heights descend point inside below = absurd (omega (arith, below))
up (suc n) net plan heights descend point inside below =
    elim (kind net point inside) [
      | inl executable ↦ ([], point, ends point executable)
      | inr ending ↦
          let link = ending.link in
          let sound = link_sound net plan ending.name.0 link ending.declared in
          let higher = descend ending.name link ending.declared in
          let at : moment_in heights link.to ≡ moment_in heights point = ap (moment_in heights) ending.ends in
          let most = below_most heights link.from.0 in
          let (chain, root, is) = up n net plan heights descend link.from sound.from_point (omega (arith, higher, at, most, below)) in
          (link ∷ chain, root, goes_on ending.name link chain point root ending.declared ending.ends is)
    ]

heights_descend : (net : Plan) (heights : List ℕ) → All (HoldsIn heights) (map down_edge net.links) → LinksDescend net heights
heights_descend net heights holds name link declared =
    let within = slice_get_within net.links name.0 link declared in
    let size = length-map net.links down_edge in
    let here : get_or (map down_edge net.links) name.0 no_edge ≡ down_edge link = get_or-map down_edge net.links name.0 link no_edge within ∙ ap down_edge (get_or_from_slice_get net.links name.0 link link declared) in
    let kept : HoldsIn heights (down_edge link) = subst (HoldsIn heights) here (holds name.0 no_edge (omega (arith, size, within))) in
    omega (arith, ints, kept)

pub rooted : (net : Plan) → IsPlan net → (heights : List ℕ) → All (HoldsIn heights) (map down_edge net.links) → HasRoots net
rooted net plan heights holds point inside =
    up (suc (most_of heights - moment_in heights point)) net plan heights (heights_descend net heights holds) point inside (omega arith)

descends : (net : Plan) (heights : List ℕ) → LinksDescend net heights → (from to : PointId) (links : List Link) → IsLinkWalk net from links to → moment_in heights to + length links ≤ moment_in heights from
descends net heights descend from to [] walk = let same : moment_in heights from ≡ moment_in heights to = ap (moment_in heights) walk in omega (arith, same)
descends net heights descend from to (link ∷ links) walk =
    let rest = descends net heights descend link.to to links walk.2 in
    let step = descend walk.0.0 link walk.0.1 in
    let same : moment_in heights link.from ≡ moment_in heights from = ap (moment_in heights) walk.1 in
    omega (arith, rest, step, same)

some_links : (links : List Link) → links ≢ [] → 0 < length links
some_links [] some = absurd (some refl)
some_links (link ∷ links) some = omega arith

pub no_ring : (net : Plan) (heights : List ℕ) → All (HoldsIn heights) (map down_edge net.links) → HasNoRing net
no_ring net heights holds links (point, walk, some) =
    let down = descends net heights (heights_descend net heights holds) point point links walk in
    let long = some_links links some in
    omega (arith, down, long)

pub down_within : (net : Plan) → IsPlan net → AreWithin (length net.points) (map down_edge net.links)
down_within net plan k d inside =
    let size = length-map net.links down_edge in
    let blank : Link = record { from = d.from; low = pos 0; high = pos 0; to = d.to } in
    let within : k < length net.links = omega (arith, size, inside) in
    let here : get_or (map down_edge net.links) k d ≡ down_edge (get_or net.links k blank) = get_or-map down_edge net.links k blank d within in
    let sound = plan.links_sound k blank within in
    subst (λ (e : Edge). (e.from.0 < length net.points) × (e.to.0 < length net.points)) (sym here) (sound.from_point, sound.to_point)

pub down_small : (net : Plan) → All (λ edge. unsigned_abs edge.weight ≤ 5000000000000) (map down_edge net.links)
down_small net k d inside =
    let size = length-map net.links down_edge in
    let blank : Link = record { from = d.from; low = pos 0; high = pos 0; to = d.to } in
    let within : k < length net.links = omega (arith, size, inside) in
    let here : get_or (map down_edge net.links) k d ≡ down_edge (get_or net.links k blank) = get_or-map down_edge net.links k blank d within in
    subst (λ (e : Edge). unsigned_abs e.weight ≤ 5000000000000) (sym here) (omega (arith, ints))
