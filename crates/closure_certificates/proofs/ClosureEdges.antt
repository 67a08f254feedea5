-- In the edges of a closure stand the base edges of the network and whatever the rules give from them.
use Rattle.std.proofs.Common.{◌≡◌, ℕ, ℤ, ◌≤ℤ◌, ◌==◌, Bool, true, false, not, ◌&&◌, List, [], ◌∷◌, map, Option, Some, None, Ok, refl, ap, ◌∙◌, arith, cond, ◌⊎◌, inl, inr}
use Rattle.std.specs.Prelude.{find, int_le}
use Rattle.std.specs.List.{AllByRecursion, Contains, filter_map, cons_option, enumerate_from}
use Rattle.std.proofs.lemmas.Bool.Decides.{nat_tests}
use Rattle.std.proofs.lemmas.Int.{ints}
use Rattle.std.proofs.lemmas.List.Elements.{All-contains, All-from_recursion, Contains-append_left, Contains-append_right}
use Rattle.std.proofs.lemmas.List.Folds.{list_any_none}
use Rattle.net_model.proofs.Positions.{None_from_fails}
use Rattle.net_model.specs.Network.{Plan}
use Rattle.net_model.specs.Rules.{Follows, by_no_case, by_upper_case, by_lower_case, by_cross_case, by_removal, bound_edge, link_edge, no_case, upper_case, lower_case, cross_case, removal}
use Rattle.net_model.specs.declared.ids.LinkId.{LinkId}
use Rattle.net_model.specs.declared.part.Edge.{Edge}
use Rattle.net_model.specs.declared.part.Link.{Link}
use Rattle.closure_model.specs.Keys.{key_of, edge_of}
use Rattle.closure_model.specs.Tables.{Graph, HasAtMost, HasBase, IsClosed, edges_of, base_edges}
use Rattle.closure_model.proofs.Lists.{each-append, each-map, Contains-head, Contains-tail, Contains-map, Contains-cases, Contains-none, each-from_contains}
use Rattle.closure_model.proofs.TableLemmas.{at_most_gives, edge_listed}
use Rattle.cert_checker.specs.Tables.{same_label_id, same_key, stands_among, refused_at, none_refused, base_of_bound, base_of_link, base_of, is_missing, none_missing, base_stands, link_ids, conclusions, has_open_conclusion}
use Rattle.cert_checker.specs.declared.judgement.CertFault.{CertFault}
use Rattle.cert_checker.specs.declared.judgement.CertFault.TheVariants.{NotClosed}
use Rattle.cert_checker.proofs.ListLemmas.{passes_some}

-- ---- tests of lists
nothing_found : {X : Type 0} (test : X → Bool) (xs : List X) → AllByRecursion (λ x. test x ≡ false) xs → find test xs ≡ None
nothing_found test [] fails = refl
nothing_found test (x ∷ xs) (one, more) = ap (λ (b : Bool). cond b (Some x) (find test xs)) one ∙ nothing_found test xs more

-- if none is refused the items pass
pub none_refused_of : {X : Type 0} (line : ℕ) (why : CertFault) (refused : X → Bool) (xs : List X) → AllByRecursion (λ x. refused x ≡ false) xs → none_refused line why refused xs ≡ Ok tt
none_refused_of line why refused xs fails =
    ap (refused_at line why) (None_from_fails refused xs (All-from_recursion (λ x. refused x ≡ false) xs fails))

-- what holds of all that is given of the items of a list
each_given : {X Y : Type 0} (P : Y → Type 0) (give : X → Option Y) (xs : List X) → ((x : X) (y : Y) → Contains xs x → give x ≡ Some y → P y) → AllByRecursion P (filter_map give xs)
each_given P give [] every = tt
each_given P give (x ∷ xs) every = by (give x) refl (each_given P give xs (λ z y inside. every z y (Contains-tail x xs z inside)))
  where
    by : (o : Option _) → give x ≡ o → AllByRecursion P (filter_map give xs) → AllByRecursion P (cons_option o (filter_map give xs))
    by None is rest = rest
    by (Some y) is rest = (every x y (Contains-head x xs) is, rest)

-- ---- what stands
label_itself : (label : Option LinkId) → same_label_id label label ≡ true
label_itself None = refl
label_itself (Some name) = grind (arith, nat_tests)

both : (a b : Bool) → a ≡ true → b ≡ true → (a && b) ≡ true
both true true one two = refl
both true false one two = two
both false b one two = one

number_itself : (n : ℕ) → (n == n) ≡ true
number_itself n = grind (arith, nat_tests)

le_test : (a b : ℤ) → a ≤ℤ b → int_le a b ≡ true
le_test a b less = grind (arith, ints)

not_is : (b : Bool) → b ≡ true → not b ≡ false
not_is b is = ap not is

module _ (table : Graph) where
  abbrev edges : List Edge
  edges = edges_of table

  pub stands : (edge : Edge) → HasAtMost table edge → stands_among edges edge ≡ true
  stands edge has =
      let (weight, here, less) = at_most_gives table edge has in
      let entry : Edge = edge_of (key_of edge) weight in
      let from : (entry.from.0 == edge.from.0) ≡ true = number_itself edge.from.0 in
      let to : (entry.to.0 == edge.to.0) ≡ true = number_itself edge.to.0 in
      let ends = both (entry.from.0 == edge.from.0) (entry.to.0 == edge.to.0) from to in
      let key : same_key entry edge ≡ true = both ((entry.from.0 == edge.from.0) && (entry.to.0 == edge.to.0)) (same_label_id entry.label edge.label) ends (label_itself edge.label) in
      passes_some (λ e. same_key e edge && int_le e.weight edge.weight) edges entry (edge_listed table entry here)
      (both (same_key entry edge) (int_le entry.weight edge.weight) key (le_test weight edge.weight less))

  -- ---- the base
  pub base_there : (net : Plan) → HasBase net table → base_stands net edges ≡ Ok tt
  base_there net has =
      let numbered : List (ℕ × Link) = enumerate_from 0 net.links in
      let at : (edge : Edge) → Contains (base_edges net) edge → not (stands_among edges edge) ≡ false = λ edge among. not_is (stands_among edges edge) (stands edge (All-contains (HasAtMost table) (base_edges net) edge has among)) in
      let link_of : ℕ × Link → Edge = λ e. link_edge (record { 0 = e.0 }) e.1 in
      let bounds = each-from_contains (λ bound. is_missing edges (base_of_bound bound) ≡ false) net.bounds
      (λ bound among. at (bound_edge bound) (Contains-append_left (map bound_edge net.bounds) (map link_of numbered) (bound_edge bound) (Contains-map bound_edge net.bounds bound among))) in
      let links = each-from_contains (λ link. is_missing edges (base_of_link net link) ≡ false) numbered (λ link among. at (link_of link)
      (Contains-append_right (map bound_edge net.bounds) (map link_of numbered) (link_of link) (Contains-map link_of numbered link among))) in
      ap none_missing (nothing_found (is_missing edges) (base_of net) (each-append (λ base. is_missing edges base ≡ false) (map base_of_bound net.bounds) (map (base_of_link net) numbered)
      (each-map (λ base. is_missing edges base ≡ false) base_of_bound net.bounds bounds) (each-map (λ base. is_missing edges base ≡ false) (base_of_link net) numbered links)))

  -- ---- the closure
  module _ (net : Plan) (closed : IsClosed net table) where
    abbrev IsMet : Edge → Type 0
    IsMet edge = not (stands_among edges edge) ≡ false

    met : (edge : Edge) → Follows net edges edge → IsMet edge
    met edge follows = not_is (stands_among edges edge) (stands edge (closed edge follows))

    all_met : (second : Edge) → Contains edges second → AllByRecursion IsMet (conclusions net edges second)
    all_met second there =
        each-append IsMet (filter_map (λ first. no_case first second) edges) _ (each_given IsMet (λ first. no_case first second) edges (λ first edge among gave. met edge (by_no_case first second among there gave)))
        (each-append IsMet (filter_map (λ first. upper_case first second) edges) _ (each_given IsMet (λ first. upper_case first second) edges (λ first edge among gave. met edge (by_upper_case first second among there gave)))
        (each-append IsMet (filter_map (λ name. lower_case net name second) (link_ids net)) _ (each_given IsMet (λ name. lower_case net name second) (link_ids net) (λ name edge among gave. met edge (by_lower_case name second there gave)))
        (each-append IsMet (filter_map (λ name. cross_case net name second) (link_ids net)) _ (each_given IsMet (λ name. cross_case net name second) (link_ids net) (λ name edge among gave. met edge (by_cross_case name second there gave)))
        (each_given IsMet (removal net) (second ∷ []) (λ premise edge among gave. met edge (by_removal second there (ap (removal net) (only premise among) ∙ gave)))))))
      where
        only : (premise : Edge) → Contains (second ∷ []) premise → second ≡ premise
        only premise among = by (Contains-cases second [] premise among)
          where
            by : (second ≡ premise) ⊎ Contains [] premise → second ≡ premise
            by (inl same) = same
            by (inr there) = absurd (Contains-none premise there)

    pub none_open : (line : ℕ) → none_refused line NotClosed (has_open_conclusion net edges) edges ≡ Ok tt
    none_open line =
        none_refused_of line NotClosed (has_open_conclusion net edges) edges
        (each-from_contains (λ second. has_open_conclusion net edges second ≡ false) edges (λ second there. list_any_none (λ edge. not (stands_among edges edge)) (conclusions net edges second)
        (All-from_recursion IsMet (conclusions net edges second) (all_met second there))))
