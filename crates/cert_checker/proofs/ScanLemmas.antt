-- The scans over a table: what each finds by look-ups is what its definition requires.
use Rattle.std.proofs.Common.{◌≡◌, ℕ, ◌+◌, ◌<◌, ◌≤◌, ℤ, pos, ◌<ℤ◌, ◌-ℤ◌, true, List, [], ◌∷◌, ◌++◌, length, get_or, map, drop, Some, suc, refl, sym, ap, ◌∙◌, subst, arith, unsigned_abs, append_assoc}
use Rattle.std.specs.Prelude.{slice_get}
use Rattle.std.specs.List.{All, AllByRecursion, enumerate_from}
use Rattle.std.proofs.lemmas.Int.{ints}
use Rattle.std.proofs.lemmas.List.{drop_more}
use Rattle.std.proofs.lemmas.Bool.Decides.{nat_tests}
use Rattle.std.proofs.lemmas.List.Elements.{recursion_from_All, All-from_recursion}
use Rattle.net_model.specs.Limits.{most_size, within_size}
use Rattle.net_model.specs.Network.{Plan, IsPlan, IsBound, IsLink}
use Rattle.net_model.specs.declared.part.Bound.{Bound}
use Rattle.net_model.specs.declared.part.Edge.{Edge}
use Rattle.net_model.specs.declared.part.Link.{Link}
use Rattle.cert_checker.specs.Tables.{base_of_bound, base_of_link, base_of, stands_among}
use Rattle.cert_checker.specs.Sound.{IsSoundEdge, AreSound}
use Rattle.cert_checker.specs.Least.{absent, Weights, IsSmallEdge, IsLeastTable, improves_in, has_word_at_most, least_of, row_in, row_of_words}
use Rattle.cert_checker.specs.OpenEntries.{is_open_before}
use Rattle.cert_checker.specs.declared.base.Base.{Base}
use Rattle.cert_checker.proofs.OpenLemmas.{IsLeast, is_least}
use Rattle.cert_checker.proofs.OpensLemmas.{before_is}

-- ---- the closure
least_is : (net : Plan) (edges : List Edge) (table : Weights) → AreSound net edges → table ≡ least_of net edges → IsLeast net edges table
least_is net edges table sound is = subst (IsLeast net edges) (sym is) (is_least net edges sound)

-- an edge stands among the entries exactly if its key has at most its weight
pub stands_is : (net : Plan) (first : ℕ) (edges : List Edge) (table : Weights) → IsLeastTable net first edges table → (edge : Edge) → IsSmallEdge net edge → has_word_at_most table edge ≡ stands_among edges edge
stands_is net first edges table is edge small = least_is net edges table is.sound is.least edge small.is_edge small.small

pub before_end : (net : Plan) (first : ℕ) (edges : List Edge) (table : Weights) → IsLeastTable net first edges table → (second : Edge) → IsSoundEdge net second → second.weight <ℤ pos 0
    → improves_in (row_in table.ordinary second.from.0) (row_of_words table second) second.weight ≡ is_open_before edges second
before_end net first edges table is second is_second below = before_is net edges is.sound table is.shape (least_is net edges table is.sound is.least) second is_second below

-- ---- the base
abbrev IsSmallBase : Plan → Base → Type 0
IsSmallBase net base = IsSmallEdge net base.edge

bound_sound : (net : Plan) (bound : Bound) → IsBound net bound → IsSmallBase net (base_of_bound bound)
bound_sound net bound is = record { is_edge = record { from_point = is.from_point; to_point = is.to_point; labelled = tt }; small = small_by bound.most is.within }
  where
    small_by : (w : ℤ) → within_size w ≡ true → w <ℤ absent
    small_by w is =
        let few : unsigned_abs w ≤ most_size = size_is w is in
        omega (arith, ints, few)
      where
        size_is : (w : ℤ) → within_size w ≡ true → unsigned_abs w ≤ most_size
        size_is w is = grind (arith, nat_tests)

link_base : (net : Plan) (k : ℕ) (link : Link) → slice_get net.links k ≡ Some link → IsLink net link → IsSmallBase net (base_of_link net (k, link))
link_base net k link declared is = record { is_edge = record { from_point = is.to_point; to_point = is.from_point; labelled = (link, declared, refl) }; small = small_by link.high is.within }
  where
    small_by : (w : ℤ) → within_size w ≡ true → (pos 0 -ℤ w) <ℤ absent
    small_by w is =
        let few : unsigned_abs w ≤ most_size = size_is w is in
        omega (arith, ints, few)
      where
        size_is : (w : ℤ) → within_size w ≡ true → unsigned_abs w ≤ most_size
        size_is w is = grind (arith, nat_tests)

bounds_base : (net : Plan) (bounds : List Bound) (rest : List Base) → AllByRecursion (IsBound net) bounds → AllByRecursion (IsSmallBase net) rest → AllByRecursion (IsSmallBase net) (map base_of_bound bounds ++ rest)
bounds_base net [] rest sound others = others
bounds_base net (bound ∷ bounds) rest sound others = (bound_sound net bound sound.0, bounds_base net bounds rest sound.1 others)

links_base : (net : Plan) (start : ℕ) (links : List Link) → ((k : ℕ) (link : Link) → slice_get links k ≡ Some link → slice_get net.links (start + k) ≡ Some link) → AllByRecursion (IsLink net) links
    → AllByRecursion (IsSmallBase net) (map (base_of_link net) (enumerate_from start links))
links_base net start [] there sound = tt
links_base net start (link ∷ links) there sound =
    let here : slice_get net.links start ≡ Some link = ap (slice_get net.links) (no_more start) ∙ there 0 link refl in
    (link_base net start link here sound.0, links_base net (start + 1) links (λ k l at. ap (slice_get net.links) (one_more start k) ∙ there (suc k) l at) sound.1)
  where
    no_more : (n : ℕ) → n ≡ n + 0
    no_more n = omega arith

    one_more : (n k : ℕ) → n + 1 + k ≡ n + suc k
    one_more n k = omega arith

base_sound : (net : Plan) (plan : IsPlan net) → AllByRecursion (IsSmallBase net) (base_of net)
base_sound net plan =
    bounds_base net net.bounds (map (base_of_link net) (enumerate_from 0 net.links)) (recursion_from_All (IsBound net) net.bounds plan.bounds_sound)
    (links_base net 0 net.links (λ k link at. ap (slice_get net.links) (from_zero k) ∙ at) (recursion_from_All (IsLink net) net.links plan.links_sound))
  where
    from_zero : (k : ℕ) → 0 + k ≡ k
    from_zero k = omega arith

pub base_small : (net : Plan) (plan : IsPlan net) → All (IsSmallBase net) (base_of net)
base_small net plan = All-from_recursion (IsSmallBase net) (base_of net) (base_sound net plan)

-- one link more of the base
pub link_pushed : (net : Plan) (prefix : List Base) (i : ℕ) (link d : Link) → i < length net.links → link ≡ get_or net.links i d
    → (prefix ++ base_of_link net (i, link) ∷ []) ++ map (base_of_link net) (enumerate_from (i + 1) (drop (i + 1) net.links)) ≡ prefix ++ map (base_of_link net) (enumerate_from i (drop i net.links))
link_pushed net prefix i link d within same =
    append_assoc prefix (base_of_link net (i, link) ∷ []) (map (base_of_link net) (enumerate_from (i + 1) (drop (i + 1) net.links)))
    ∙ ap (λ (l : Link). prefix ++ base_of_link net (i, l) ∷ map (base_of_link net) (enumerate_from (i + 1) (drop (i + 1) net.links))) same
    ∙ ap (λ (ls : List Link). prefix ++ map (base_of_link net) (enumerate_from i ls)) (sym (drop_more net.links i d within))
