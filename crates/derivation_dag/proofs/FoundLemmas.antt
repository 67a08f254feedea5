-- Nodes with their numbers that pass the test of being all on which given ones rest.
use Rattle.std.proofs.Common.{◌≡◌, ℕ, suc, ◌+◌, ◌-◌, ◌≤◌, ◌<◌, ◌==◌, Bool, true, false, ◌⊎◌, List, [], ◌∷◌, ◌++◌, map, length, get_or, replicate, Some, refl, ap, sym, ◌∙◌, subst, inl, inr, arith}
use Rattle.std.specs.Prelude.{slice_get}
use Rattle.std.specs.List.{AllPairs, Contains, items_where_true}
use Rattle.std.proofs.lemmas.Bool.{eq-eqb, eqb-true}
use Rattle.std.proofs.lemmas.List.{get_or-map, length-map, get_or_default}
use Rattle.std.proofs.lemmas.List.Elements.{All-nil, All-cons, All-head, All-tail, All-contains, Contains-append_cases, Contains-append_left, Contains-append_right}
use Rattle.std.proofs.lemmas.Option.{slice_get_within, slice_get-get_or}
use Rattle.closure_model.specs.Derivations.{node_at, premises_of, IsUnder, itself, under}
use Rattle.closure_model.specs.declared.derivation.Node.{Node}
use Rattle.closure_model.specs.declared.derivation.NodeId.{NodeId}
use Rattle.closure_model.proofs.BaseLemmas.{all_contained, slice_get-contained}
use Rattle.closure_model.proofs.Lists.{Contains-map_from, Contains-none}
use Rattle.closure_model.proofs.Nodes.{listed_at}
use Rattle.derivation_dag.specs.Marks.{IsMarked}
use Rattle.derivation_dag.specs.Pruned.{AreNumbered, numbers_in, IsUnderOne, AreMarkedBesides, AreMarkedUnder, AreUnderFrom, HavePremisesFrom, AreAncestorsIn}
use Rattle.derivation_dag.specs.declared.pruned_dag.Numbered.{Numbered}
use Rattle.derivation_dag.proofs.MarkLemmas.{none_marked, under_trans}

-- ---- what is kept of numbered nodes
pub numbered_kept : (whole : List Node) (keep : List Bool) (held : List Numbered) → AreNumbered whole held → AreNumbered whole (items_where_true keep held)
numbered_kept whole [] held all = All-nil (λ (one : Numbered). node_at whole one.id ≡ Some one.node)
numbered_kept whole (keep ∷ keeps) [] all = All-nil (λ (one : Numbered). node_at whole one.id ≡ Some one.node)
numbered_kept whole (true ∷ keeps) (one ∷ held) all =
    All-cons (λ (o : Numbered). node_at whole o.id ≡ Some o.node) one (items_where_true keeps held) (All-head (λ (o : Numbered). node_at whole o.id ≡ Some o.node) one held all)
    (numbered_kept whole keeps held (All-tail (λ (o : Numbered). node_at whole o.id ≡ Some o.node) one held all))
numbered_kept whole (false ∷ keeps) (one ∷ held) all = numbered_kept whole keeps held (All-tail (λ (o : Numbered). node_at whole o.id ≡ Some o.node) one held all)

pub numbered_at : (whole : List Node) (found : List Numbered) (place : ℕ) (one : Numbered) → AreNumbered whole found → slice_get found place ≡ Some one → node_at whole one.id ≡ Some one.node
numbered_at whole found place one all here = All-contains (λ (o : Numbered). node_at whole o.id ≡ Some o.node) found one all (listed_at found place one here)

-- ---- numbers that rise
abbrev pub RiseBelow : List Numbered → ℕ → Type 0
RiseBelow found place = (i j : ℕ) (d : Numbered) → i < j → j < place → j < length found → (get_or found i d).id.0 < (get_or found j d).id.0

pub rise_more : (found : List Numbered) (place : ℕ) (d e : Numbered) → 1 ≤ place → place < length found → RiseBelow found place → (get_or found (place - 1) d).id.0 < (get_or found place e).id.0 → RiseBelow found (place + 1)
rise_more found place d e some short rise less i j f earlier below inside = by (j == place) refl
  where
    differ : (n m : ℕ) → (n == m) ≡ false → n ≡ m → ⊥
    differ n m apart equal = let same : (n == m) ≡ true = eq-eqb n m equal in let both : true ≡ false = sym same ∙ apart in absurd cc

    last : (get_or found place f).id.0 ≡ (get_or found place e).id.0
    last = ap (λ (o : Numbered). o.id.0) (get_or_default found place f e short)

    before : (get_or found (place - 1) f).id.0 ≡ (get_or found (place - 1) d).id.0
    before = ap (λ (o : Numbered). o.id.0) (get_or_default found (place - 1) f d (omega (arith, short, some)))

    by : (b : Bool) → (j == place) ≡ b → (get_or found i f).id.0 < (get_or found j f).id.0
    by false apart = let not = differ j place apart in rise i j f earlier (omega (arith, not, below)) inside
    by true same = step (i == place - 1) refl
      where
        at : j ≡ place
        at = eqb-true j place same

        there : (get_or found j f).id.0 ≡ (get_or found place e).id.0
        there = ap (λ (k : ℕ). (get_or found k f).id.0) at ∙ last

        step : (b : Bool) → (i == place - 1) ≡ b → (get_or found i f).id.0 < (get_or found j f).id.0
        step true is = let here : (get_or found i f).id.0 ≡ (get_or found (place - 1) d).id.0 = ap (λ (k : ℕ). (get_or found k f).id.0) (eqb-true i (place - 1) is) ∙ before in omega (arith, here, there, less)
        step false apart =
            let not = differ i (place - 1) apart in
            let up : (get_or found i f).id.0 < (get_or found (place - 1) f).id.0 = rise i (place - 1) f (omega (arith, not, at, earlier)) (omega (arith, some)) (omega (arith, short)) in
            omega (arith, up, before, there, less)

pub rise_all : (found : List Numbered) (place : ℕ) → length found ≤ place → RiseBelow found place → AllPairs (λ (one other : Numbered). one.id.0 < other.id.0) found
rise_all found place all rise i j d less within = rise i j d less (omega arith) within

pairs_to_map : {X Y : Type 0} (R : Y → Y → Type 0) (f : X → Y) (xs : List X) → AllPairs (λ x y. R (f x) (f y)) xs → AllPairs R (map f xs)
pairs_to_map R f [] pairs i j d less within = absurd (omega (arith, within))
pairs_to_map R f (x ∷ xs) pairs i j d less within =
    let size : length (map f (x ∷ xs)) ≡ length (x ∷ xs) = length-map (x ∷ xs) f in
    let one : get_or (map f (x ∷ xs)) i d ≡ f (get_or (x ∷ xs) i x) = get_or-map f (x ∷ xs) i x d (omega (arith, size)) in
    let other : get_or (map f (x ∷ xs)) j d ≡ f (get_or (x ∷ xs) j x) = get_or-map f (x ∷ xs) j x d (omega (arith, size)) in
    subst (λ y. R y (get_or (map f (x ∷ xs)) j d)) (sym one) (subst (R (f (get_or (x ∷ xs) i x))) (sym other) (pairs i j x less (omega (arith, size))))

-- ---- numbers that are marked besides
pub none_besides : (found : List Numbered) (marks : List Bool) → AreMarkedBesides found marks marks []
none_besides found marks = record { size = refl; there = λ id inside. absurd (Contains-none id inside); only = λ place one here is. inl is }

pub one_besides : (found : List Numbered) (old middle new : List Bool) (ids : List NodeId) (id : NodeId) → AreMarkedBesides found old middle ids → AreMarkedBesides found middle new (id ∷ []) → AreMarkedBesides found old new (ids ++ id ∷ [])
one_besides found old middle new ids id first second = record {
  size = second.size ∙ first.size;
  there = λ other inside. there other (Contains-append_cases ids (id ∷ []) other inside);
  only = λ place one here is. only place one here (second.only place one here is);
}
  where
    there : (other : NodeId) → Contains ids other ⊎ Contains (id ∷ []) other → Contains (numbers_in found) other
    there other (inl inside) = first.there other inside
    there other (inr inside) = second.there other inside

    only : (place : ℕ) (one : Numbered) → slice_get found place ≡ Some one → IsMarked middle (record { 0 = place }) ⊎ Contains (id ∷ []) one.id → IsMarked old (record { 0 = place }) ⊎ Contains (ids ++ id ∷ []) one.id
    only place one here (inl was) = earlier (first.only place one here was)
      where
        earlier : IsMarked old (record { 0 = place }) ⊎ Contains ids one.id → IsMarked old (record { 0 = place }) ⊎ Contains (ids ++ id ∷ []) one.id
        earlier (inl before) = inl before
        earlier (inr inside) = inr (Contains-append_left ids (id ∷ []) one.id inside)
    only place one here (inr inside) = inr (Contains-append_right ids (id ∷ []) one.id inside)

-- ---- from the last node down to a place
pub record Seen (found : List Numbered) (start marks : List Bool) (place : ℕ) : Type 0 where
  pub size : length marks ≡ length found
  pub within : place ≤ length found
  pub premises : HavePremisesFrom found place
  pub marked : (whole : List Node) (ids : List NodeId) → AreNumbered whole found → AreMarkedUnder whole ids found start → AreMarkedUnder whole ids found marks
  pub below : (whole : List Node) (ids : List NodeId) → AreNumbered whole found → AreMarkedUnder whole ids found start → AreUnderFrom whole ids found place

pub seen_none : (found : List Numbered) (marks : List Bool) (n : ℕ) → n ≡ length found → length marks ≡ length found → Seen found marks marks n
seen_none found marks n all size = record {
  size = size;
  within = omega arith;
  premises = λ k one from here. let inside : k < length found = slice_get_within found k one here in absurd (omega arith);
  marked = λ whole ids numbered start. start;
  below = λ whole ids numbered start k one from here. let inside : k < length found = slice_get_within found k one here in absurd (omega arith);
}

pub seen_more : (found : List Numbered) (start marks after : List Bool) (place : ℕ) (one : Numbered) → Seen found start marks (suc place) → slice_get found place ≡ Some one → IsMarked marks (record { 0 = place })
    → AreMarkedBesides found marks after (premises_of one.node.rule) → Seen found start after place
seen_more found start marks after place one seen here was besides = record {
  size = besides.size ∙ seen.size;
  within = let w : suc place ≤ length found = seen.within in omega arith;
  premises = λ k other from at. premises k other from at (k == place) refl;
  marked = λ whole ids numbered begun p other at is. marked whole ids numbered begun p other at (besides.only p other at is);
  below = λ whole ids numbered begun k other from at. below whole ids numbered begun k other from at (k == place) refl;
}
  where
    same : (k : ℕ) (other : Numbered) → slice_get found k ≡ Some other → (k == place) ≡ true → one ≡ other
    same k other at is = let both : Some one ≡ Some other = sym here ∙ (ap (slice_get found) (sym (eqb-true k place is)) ∙ at) in cc

    later : (k : ℕ) → place ≤ k → (k == place) ≡ false → suc place ≤ k
    later k from apart =
        let differ : (k ≡ place → ⊥) = λ e. let equal : (k == place) ≡ true = eq-eqb k place e in let both : true ≡ false = sym equal ∙ apart in absurd cc in
        let not = differ in omega arith

    premises : (k : ℕ) (other : Numbered) → place ≤ k → slice_get found k ≡ Some other → (b : Bool) → (k == place) ≡ b → (premise : NodeId) → Contains (premises_of other.node.rule) premise → Contains (numbers_in found) premise
    premises k other from at true is premise among = besides.there premise (subst (λ (o : Numbered). Contains (premises_of o.node.rule) premise) (sym (same k other at is)) among)
    premises k other from at false apart premise among = seen.premises k other (later k from apart) at premise among

    marked : (whole : List Node) (ids : List NodeId) → AreNumbered whole found → AreMarkedUnder whole ids found start → (p : ℕ) (other : Numbered) → slice_get found p ≡ Some other → IsMarked marks (record { 0 = p }) ⊎ Contains (premises_of one.node.rule) other.id → IsUnderOne whole ids other.id
    marked whole ids numbered begun p other at (inl before) = seen.marked whole ids numbered begun p other at before
    marked whole ids numbered begun p other at (inr among) =
        let (id, inside, descent) = seen.marked whole ids numbered begun place one here was in
        (id, inside, under_trans whole other.id one.id id (under one.id other.id one.node (numbered_at whole found place one numbered here) among (itself other.id refl)) descent)

    below : (whole : List Node) (ids : List NodeId) → AreNumbered whole found → AreMarkedUnder whole ids found start → (k : ℕ) (other : Numbered) → place ≤ k → slice_get found k ≡ Some other → (b : Bool) → (k == place) ≡ b → IsUnderOne whole ids other.id
    below whole ids numbered begun k other from at true is = subst (λ (o : Numbered). IsUnderOne whole ids o.id) (same k other at is) (seen.marked whole ids numbered begun place one here was)
    below whole ids numbered begun k other from at false apart = seen.below whole ids numbered begun k other (later k from apart) at

pub seen_at : (found : List Numbered) (start marks after : List Bool) (place : ℕ) (d : Numbered) → place < length found → Seen found start marks (suc place) → IsMarked marks (record { 0 = place })
    → AreMarkedBesides found marks after (premises_of (get_or found place d).node.rule) → Seen found start after place
seen_at found start marks after place d inside seen was besides = seen_more found start marks after place (get_or found place d) seen (slice_get-get_or found place d inside) was besides

-- ---- all that is given rests on what was found, and on no more
module _ (found : List Numbered) (ids : List NodeId) (marks : List Bool) (n : ℕ) (rise : AllPairs (λ (one other : Numbered). one.id.0 < other.id.0) found) (besides : AreMarkedBesides found (replicate n false) marks ids)
    (premises : HavePremisesFrom found 0) (whole : List Node) (numbered : AreNumbered whole found) (below : AreMarkedUnder whole ids found marks → AreUnderFrom whole ids found 0) where
  begun : AreMarkedUnder whole ids found marks
  begun place one here is = by (besides.only place one here is)
    where
      by : IsMarked (replicate n false) (record { 0 = place }) ⊎ Contains ids one.id → IsUnderOne whole ids one.id
      by (inl before) = absurd (none_marked n (record { 0 = place }) before)
      by (inr given) = (one.id, given, itself one.id refl)

  closed : (low top : NodeId) → Contains (numbers_in found) top → IsUnder whole low top → Contains (numbers_in found) low
  closed low top inside (itself i same) = subst (Contains (numbers_in found)) same inside
  closed low top inside (under i premise node here among rest) =
      let (one, member, number) = Contains-map_from (λ (o : Numbered). o.id) found top inside in
      let (k, at) = slice_get-contained found one member in
      let there : node_at whole top ≡ Some one.node = ap (node_at whole) (sym number) ∙ numbered_at whole found k one numbered at in
      let both : Some node ≡ Some one.node = sym here ∙ there in
      let same : node ≡ one.node = cc in
      closed low premise (premises k one (omega arith) at premise (subst (λ (m : Node). Contains (premises_of m.rule) premise) same among)) rest

  pub are_ancestors_in : AreAncestorsIn whole ids found
  are_ancestors_in = record {
    numbered = numbered;
    ancestors = record {
      under = all_contained (IsUnderOne whole ids) (numbers_in found) (λ low inside.
          let (one, member, number) = Contains-map_from (λ (o : Numbered). o.id) found low inside in
          let (k, at) = slice_get-contained found one member in
          subst (IsUnderOne whole ids) number (below begun k one (omega arith) at));
      whole = λ id low given descent. closed low id (besides.there id given) descent;
      in_order = pairs_to_map (λ (one other : NodeId). one.0 < other.0) (λ (o : Numbered). o.id) found rise;
    };
  }
