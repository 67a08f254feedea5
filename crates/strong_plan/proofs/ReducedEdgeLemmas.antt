-- The chain of a point as a function is its chain.
use Rattle.std.proofs.Common.{◌≡◌, ℕ, zero, suc, ◌<◌, ◌≤◌, true, false, List, [], ◌∷◌, Option, Some, None, map, length, slice_get, is_some, eqb, refl, ap, sym, subst, ◌∙◌, inl, inr, arith}
use Rattle.std.specs.Prelude.{nat_lt}
use Rattle.std.specs.List.{list_any, IsDistinct, AllByRecursion}
use Rattle.std.specs.Option.{option_map, option_and_then}
use Rattle.std.proofs.lemmas.Option.{same_Some, slice_get_within, none-some}
use Rattle.std.proofs.lemmas.Bool.{lt-ltb, true≢false, cases_Bool, or_cases, eqb-true, or_parts}
use Rattle.std.proofs.lemmas.List.{length-map}
use Rattle.std.proofs.lemmas.Map.Steps.{length-le_from_distinct_below}
use Rattle.net_model.specs.Network.{Plan, IsPlan, IsPoint, IsExecutable, activation}
use Rattle.net_model.specs.Edges.{IsLinkOf}
use Rattle.net_model.specs.declared.ids.PointId.{PointId}
use Rattle.net_model.specs.declared.ids.LinkId.{LinkId}
use Rattle.net_model.specs.declared.part.Link.{Link}
use Rattle.strategy_model.proofs.PlayLemmas.{link_sound}
use Rattle.strategy_model.proofs.KindLemmas.{kind_of_any}
use Rattle.strong_plan.specs.Chains.{IsChain, ends, goes_on, same_end}
use Rattle.strong_plan.specs.ReducedEdges.{link_into, chain_within, chain_of, root_of}
use Rattle.strong_plan.proofs.ChainLemmas.{one_chain, within}
use Rattle.strong_plan.proofs.StrongLemmas.{place_of}

-- the link that a declared one gives
pub into_link : (net : Plan) → IsPlan net → (name : LinkId) (link : Link) (point : PointId) → IsLinkOf net name link → link.to ≡ point → link_into net point ≡ Some link
into_link net plan name link point declared to =
    let within : nat_lt name.0 (length net.links) ≡ true = lt-ltb name.0 (length net.links) (slice_get_within net.links name.0 link declared) in
    let active : activation net link.to ≡ Some name = rw (place_of net plan name link declared) (rw within refl) in
    subst (λ (p : PointId). link_into net p ≡ Some link) to (ap (option_and_then (λ (n : LinkId). slice_get net.links n.0)) active ∙ declared)

-- a point that isn't executable has a link
pub into_none : (net : Plan) (point : PointId) → IsExecutable net point → link_into net point ≡ None
into_none net point executable = by (activation net point) refl executable.1
  where
    by : (o : Option LinkId) → activation net point ≡ o → is_some o ≡ false → link_into net point ≡ None
    by None none is = ap (option_and_then (λ (n : LinkId). slice_get net.links n.0)) none
    by (Some name) some is = absurd (true≢false is)

pub none_into : (net : Plan) → IsPlan net → (point : PointId) → IsPoint net point → link_into net point ≡ None → IsExecutable net point
none_into net plan point inside none =
    elim (kind_of_any net point) [
      | inl free ↦ (inside, ap is_some free)
      | inr ending ↦ absurd (none-some ending.link (sym none ∙ into_link net plan ending.name ending.link point ending.declared ending.ends))
    ]

-- what it says of a link
pub into_some : (net : Plan) → IsPlan net → (point : PointId) (link : Link) → link_into net point ≡ Some link → (name : LinkId) × IsLinkOf net name link × (link.to ≡ point)
into_some net plan point link some =
    elim (kind_of_any net point) [
      | inl free ↦ absurd (none-some link (sym (ap (option_and_then (λ (n : LinkId). slice_get net.links n.0)) free) ∙ some))
      | inr ending ↦
          let same : ending.link ≡ link = same_Some ending.link link (sym (into_link net plan ending.name ending.link point ending.declared ending.ends) ∙ some) in
          (ending.name, subst (IsLinkOf net ending.name) same ending.declared, ap (λ (l : Link). l.to) (sym same) ∙ ending.ends)
    ]

-- a chain that is found is the chain
pub within_sound : (net : Plan) → IsPlan net → (fuel : ℕ) (point : PointId) (chain : List Link) → IsPoint net point → chain_within net fuel point ≡ Some chain → IsChain net point chain (root_of point chain) × (length chain < fuel)
within_sound net plan zero point chain inside some = absurd (none-some chain some)
within_sound net plan (suc fuel) point chain inside some = by (link_into net point) refl some (within_sound net plan fuel)
  where
    further : Link → Option (List Link)
    further link = option_map (λ (rest : List Link). link ∷ rest) (chain_within net fuel link.from)

    after : (link : Link) (o : Option (List Link)) → chain_within net fuel link.from ≡ o → link_into net point ≡ Some link → option_map (λ (rest : List Link). link ∷ rest) o ≡ Some chain
        → ((p : PointId) (c : List Link) → IsPoint net p → chain_within net fuel p ≡ Some c → IsChain net p c (root_of p c) × (length c < fuel)) → IsChain net point chain (root_of point chain) × (length chain < suc fuel)
    after link None is into found rest = absurd (none-some chain found)
    after link (Some c) is into found rest =
        let (name, declared, to) = into_some net plan point link into in
        let same : link ∷ c ≡ chain = same_Some (link ∷ c) chain found in
        let sound = link_sound net plan name.0 link declared in
        let (its, short) = rest link.from c sound.from_point is in
        subst (λ (ch : List Link). IsChain net point ch (root_of point ch) × (length ch < suc fuel)) same (goes_on name link c point (root_of link.from c) declared to its, omega (arith, short))

    by : (o : Option Link) → link_into net point ≡ o → elim o [ None ↦ Some [] | Some link ↦ further link ] ≡ Some chain
        → ((p : PointId) (c : List Link) → IsPoint net p → chain_within net fuel p ≡ Some c → IsChain net p c (root_of p c) × (length c < fuel)) → IsChain net point chain (root_of point chain) × (length chain < suc fuel)
    by None none found rest =
        subst (λ (ch : List Link). IsChain net point ch (root_of point ch) × (length ch < suc fuel)) (same_Some [] chain found) (ends point (none_into net plan point inside none), omega arith)
    by (Some link) into found rest = after link (chain_within net fuel link.from) refl into found rest

-- and it is found
pub within_complete : (net : Plan) → IsPlan net → (fuel : ℕ) (point : PointId) (chain : List Link) (root : PointId) → IsChain net point chain root → length chain < fuel
    → (chain_within net fuel point ≡ Some chain) × (root_of point chain ≡ root)
within_complete net plan zero _ _ _ is short = absurd (omega (arith, short))
within_complete net plan (suc fuel) _ _ _ (ends point executable) short =
    (ap (λ (o : Option Link). elim o [ None ↦ Some [] | Some link ↦ option_map (λ (rest : List Link). link ∷ rest) (chain_within net fuel link.from) ]) (into_none net point executable), refl)
within_complete net plan (suc fuel) _ _ _ (goes_on name link chain point root declared to rest) short =
    let (found, root_is) = within_complete net plan fuel link.from chain root rest (omega (arith, short)) in (
      ap (λ (o : Option Link). elim o [ None ↦ Some [] | Some l ↦ option_map (λ (rest : List Link). l ∷ rest) (chain_within net fuel l.from) ]) (into_link net plan name link point declared to)
          ∙ ap (option_map (λ (rest : List Link). link ∷ rest)) found,
      root_is,
    )

-- no link comes twice in a chain
once : (net : Plan) → IsPlan net → (link : Link) (chain : List Link) (point root : PointId) → link.to ≡ point → IsChain net link.from chain root → IsChain net point (link ∷ chain) root → list_any (same_end link) chain ≡ false
once net plan link chain point root to rest whole =
    elim (cases_Bool (list_any (same_end link) chain)) [
      | inr none ↦ none
      | inl among ↦
          let inner = within net link.from chain root link rest among in
          let same = one_chain net plan point inner.rest (link ∷ chain) inner.root root (subst (λ (p : PointId). IsChain net p inner.rest inner.root) to inner.is) whole in
          let long : length inner.rest ≡ length (link ∷ chain) = ap length same.0 in
          let short = inner.short in
          absurd (omega (arith, long, short))
    ]

abbrev pub ends_of : List Link → List ℕ
ends_of chain = map (λ (l : Link). l.to.0) chain

pub each_other : (link : Link) (chain : List Link) → list_any (same_end link) chain ≡ false → AllByRecursion (λ (n : ℕ). eqb link.to.0 n ≡ false) (ends_of chain)
each_other link [] none = tt
each_other link (l ∷ chain) none = let (here, later) = or_parts (same_end link l) (list_any (same_end link) chain) none in (here, each_other link chain later)

pub distinct : (net : Plan) → IsPlan net → (point : PointId) (chain : List Link) (root : PointId) → IsChain net point chain root → IsDistinct eqb (ends_of chain)
unfolding IsDistinct
distinct net plan _ _ _ (ends point executable) = tt
distinct net plan _ _ _ (goes_on name link chain point root declared to rest) =
    (each_other link chain (once net plan link chain point root to rest (goes_on name link chain point root declared to rest)), distinct net plan link.from chain root rest)

inside_all : (net : Plan) → IsPlan net → (point : PointId) (chain : List Link) (root : PointId) → IsChain net point chain root → (q : ℕ) → list_any (eqb q) (ends_of chain) ≡ true → q < length net.points
inside_all net plan _ _ _ (ends point executable) q among = absurd (true≢false (sym among))
inside_all net plan _ _ _ (goes_on name link chain point root declared to rest) q among =
    elim (or_cases (eqb q link.to.0) (list_any (eqb q) (ends_of chain)) among) [
      | inl here ↦
          let same = eqb-true q link.to.0 here in
          let inside = (link_sound net plan name.0 link declared).to_point in
          omega (arith, same, inside)
      | inr later ↦ inside_all net plan link.from chain root rest q later
    ]

pub chain_short : (net : Plan) → IsPlan net → (point : PointId) (chain : List Link) (root : PointId) → IsChain net point chain root → length chain ≤ length net.points
chain_short net plan point chain root is =
    let few = length-le_from_distinct_below (ends_of chain) (length net.points) (distinct net plan point chain root is) (inside_all net plan point chain root is) in
    omega (arith, few, length-map chain (λ (l : Link). l.to.0))

pub chain_found : (net : Plan) → IsPlan net → (point : PointId) (chain : List Link) (root : PointId) → IsChain net point chain root → (chain_of net point ≡ Some chain) × (root_of point chain ≡ root)
unfolding chain_of
chain_found net plan point chain root is =
    let short = chain_short net plan point chain root is in
    within_complete net plan (suc (length net.points)) point chain root is (omega (arith, short))

pub chain_sound : (net : Plan) → IsPlan net → (point : PointId) (chain : List Link) → IsPoint net point → chain_of net point ≡ Some chain → IsChain net point chain (root_of point chain) × (length chain ≤ length net.points)
unfolding chain_of
chain_sound net plan point chain inside some =
    let (is, short) = within_sound net plan (suc (length net.points)) point chain inside some in
    (is, omega (arith, short))
