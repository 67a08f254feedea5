-- Marks: of some nodes besides, of all that stands under marked ones, and their numbers in order.
use Rattle.std.proofs.Common.{◌==◌, ◌≡◌, ◌≢◌, ℕ, suc, ◌+◌, ◌≤◌, ◌<◌, Bool, true, false, ◌⊎◌, List, [], ◌∷◌, ◌++◌, length, get_or, set, Some, refl, ap, sym, ◌∙◌, subst, inl, inr, arith}
use Rattle.std.specs.Prelude.{slice_get, nat_lt}
use Rattle.std.specs.List.{All, AllPairs, Contains}
use Rattle.std.proofs.lemmas.List.{get_or-set_same, get_or-set_other, get_or-replicate, length-replicate, get_or_past}
use Rattle.std.proofs.lemmas.Bool.{eq-eqb, eqb-true}
use borrow.Author.Tests.{ltb-true, ltb-false}
use Rattle.std.proofs.lemmas.Option.{slice_get_within, slice_get-get_or}
use Rattle.std.proofs.lemmas.List.Elements.{All-head, All-tail, All-contains, All-weaker, Contains-get_or, Contains-push, Contains-push_cases, Contains-append_left}
use Rattle.std.proofs.lemmas.List.Quantifiers.{all_pairs_push}
use Rattle.std.proofs.Math.ListN.{length-set, replicate}
use Rattle.closure_model.specs.Derivations.{node_at, premises_of, PremisesStandEarlier, IsUnder, itself, under, AreAncestors}
use Rattle.closure_model.specs.declared.derivation.Node.{Node}
use Rattle.closure_model.specs.declared.derivation.NodeId.{NodeId}
use Rattle.closure_model.proofs.Lists.{Contains-head, Contains-tail, Contains-cases, Contains-none}
use Rattle.derivation_dag.specs.Marks.{IsMarked, marked_with, AreMarked}

-- ---- some nodes marked besides
pub length-marked_with : (marks : List Bool) (ids : List NodeId) → length (marked_with marks ids) ≡ length marks
length-marked_with marks [] = refl
length-marked_with marks (id ∷ ids) = length-marked_with (set marks id.0 true) ids ∙ length-set marks id.0 true

-- one node is marked besides
set_marks : (marks : List Bool) (id other : NodeId) → IsMarked (set marks id.0 true) other → (id ≡ other) ⊎ IsMarked marks other
set_marks marks id other is = by (id.0 == other.0) refl
  where
    by : (b : Bool) → (id.0 == other.0) ≡ b → (id ≡ other) ⊎ IsMarked marks other
    by true same = inl (ap (λ (k : ℕ). record { 0 = k }) (eqb-true id.0 other.0 same))
    by false apart =
        let differ : other.0 ≢ id.0 = λ e. let same : (id.0 == other.0) ≡ true = eq-eqb id.0 other.0 (sym e) in let both : true ≡ false = sym same ∙ apart in absurd cc in
        inr (sym (get_or-set_other marks id.0 other.0 true false differ) ∙ is)

set_keeps : (marks : List Bool) (id other : NodeId) → id.0 < length marks → IsMarked marks other → IsMarked (set marks id.0 true) other
set_keeps marks id other inside is = by (id.0 == other.0) refl
  where
    by : (b : Bool) → (id.0 == other.0) ≡ b → IsMarked (set marks id.0 true) other
    by true same = ap (λ (k : ℕ). get_or (set marks id.0 true) k false) (sym (eqb-true id.0 other.0 same)) ∙ get_or-set_same marks id.0 true false inside
    by false apart =
        let differ : other.0 ≢ id.0 = λ e. let same : (id.0 == other.0) ≡ true = eq-eqb id.0 other.0 (sym e) in let both : true ≡ false = sym same ∙ apart in absurd cc in
        get_or-set_other marks id.0 other.0 true false differ ∙ is

pub marked_with_cases : (marks : List Bool) (ids : List NodeId) (other : NodeId) → IsMarked (marked_with marks ids) other → Contains ids other ⊎ IsMarked marks other
marked_with_cases marks [] other is = inr is
marked_with_cases marks (id ∷ ids) other is = by (marked_with_cases (set marks id.0 true) ids other is)
  where
    by : Contains ids other ⊎ IsMarked (set marks id.0 true) other → Contains (id ∷ ids) other ⊎ IsMarked marks other
    by (inl there) = inl (Contains-tail id ids other there)
    by (inr here) = at (set_marks marks id other here)
      where
        at : (id ≡ other) ⊎ IsMarked marks other → Contains (id ∷ ids) other ⊎ IsMarked marks other
        at (inl same) = inl (subst (Contains (id ∷ ids)) same (Contains-head id ids))
        at (inr was) = inr was

pub marked_with_keeps : (marks : List Bool) (ids : List NodeId) (other : NodeId) → All (λ (id : NodeId). id.0 < length marks) ids → IsMarked marks other → IsMarked (marked_with marks ids) other
marked_with_keeps marks [] other within is = is
marked_with_keeps marks (id ∷ ids) other within is =
    let first : id.0 < length marks = All-head (λ (i : NodeId). i.0 < length marks) id ids within in
    let rest : All (λ (i : NodeId). i.0 < length (set marks id.0 true)) ids =
    subst (λ (n : ℕ). All (λ (i : NodeId). i.0 < n) ids) (sym (length-set marks id.0 true)) (All-tail (λ (i : NodeId). i.0 < length marks) id ids within) in
    marked_with_keeps (set marks id.0 true) ids other rest (set_keeps marks id other first is)

pub marked_with_has : (marks : List Bool) (ids : List NodeId) (other : NodeId) → All (λ (id : NodeId). id.0 < length marks) ids → Contains ids other → IsMarked (marked_with marks ids) other
marked_with_has marks [] other within inside = absurd (Contains-none other inside)
marked_with_has marks (id ∷ ids) other within inside = by (λ there. marked_with_has (set marks id.0 true) ids other rest there) (Contains-cases id ids other inside)
  where
    rest : All (λ (i : NodeId). i.0 < length (set marks id.0 true)) ids
    rest = subst (λ (n : ℕ). All (λ (i : NodeId). i.0 < n) ids) (sym (length-set marks id.0 true)) (All-tail (λ (i : NodeId). i.0 < length marks) id ids within)

    by : (Contains ids other → IsMarked (marked_with (set marks id.0 true) ids) other) → (id ≡ other) ⊎ Contains ids other → IsMarked (marked_with (set marks id.0 true) ids) other
    by later (inl same) =
        let here : IsMarked (set marks id.0 true) id = get_or-set_same marks id.0 true false (All-head (λ (i : NodeId). i.0 < length marks) id ids within) in
        marked_with_keeps (set marks id.0 true) ids other rest (subst (IsMarked (set marks id.0 true)) same here)
    by later (inr there) = later there

-- no node is marked at first
pub none_marked : (n : ℕ) (id : NodeId) → IsMarked (replicate n false) id → ⊥
none_marked n id is = by (nat_lt id.0 n) refl
  where
    by : (b : Bool) → nat_lt id.0 n ≡ b → ⊥
    by true inside = let within : id.0 < n = ltb-true id.0 n inside in let at : get_or (replicate n false) id.0 false ≡ false = get_or-replicate n id.0 false false within in let both : true ≡ false = sym is ∙ at in absurd cc
    by false past =
        let beyond : length (replicate n false) ≤ id.0 = let size : length (replicate n false) ≡ n = length-replicate n false in omega (arith, ltb-false id.0 n past) in
        let at : get_or (replicate n false) id.0 false ≡ false = get_or_past (replicate n false) id.0 false beyond in
        let both : true ≡ false = sym is ∙ at in absurd cc

-- what stands under what stands under
pub under_trans : (nodes : List Node) (below middle id : NodeId) → IsUnder nodes below middle → IsUnder nodes middle id → IsUnder nodes below id
under_trans nodes below middle id first (itself i same) = subst (IsUnder nodes below) (sym same) first
under_trans nodes below middle id first (under i premise node here among rest) = under id premise node here among (under_trans nodes below middle premise first rest)

-- ---- all that stands under marked nodes, from the last node down to a place
pub record Swept (nodes : List Node) (start marks : List Bool) (place : ℕ) : Type 0 where
  pub size : length marks ≡ length nodes
  pub within : place ≤ length nodes
  pub sound : (id : NodeId) → IsMarked marks id → (top : NodeId) × IsMarked start top × IsUnder nodes id top
  pub kept : (id : NodeId) → IsMarked start id → IsMarked marks id
  pub closed : (id premise : NodeId) (node : Node) → place ≤ id.0 → node_at nodes id ≡ Some node → IsMarked marks id → Contains (premises_of node.rule) premise → IsMarked marks premise

pub swept_none : (nodes : List Node) (start : List Bool) (n : ℕ) → n ≡ length nodes → length start ≡ length nodes → Swept nodes start start n
swept_none nodes start n all same = record {
  size = same;
  within = omega arith;
  sound = λ id is. (id, is, itself id refl);
  kept = λ id is. is;
  closed = λ id premise node past here is among. let inside : id.0 < length nodes = slice_get_within nodes id.0 node here in absurd (omega arith);
}

module _ (nodes : List Node) (start marks : List Bool) (place : ℕ) (node : Node) (earlier : PremisesStandEarlier nodes) (here : slice_get nodes place ≡ Some node) (swept : Swept nodes start marks (suc place)) where
  -- the place is passed if it is not marked
  pub swept_unmarked : get_or marks place false ≡ false → Swept nodes start marks place
  swept_unmarked unmarked = record {
    size = swept.size;
    within = let w : suc place ≤ length nodes = swept.within in omega arith;
    sound = swept.sound;
    kept = swept.kept;
    closed = closed;
  }
    where
      closed : (id premise : NodeId) (n : Node) → place ≤ id.0 → node_at nodes id ≡ Some n → IsMarked marks id → Contains (premises_of n.rule) premise → IsMarked marks premise
      closed id premise n from at is among = by (id.0 == place) refl
        where
          by : (b : Bool) → (id.0 == place) ≡ b → IsMarked marks premise
          by true same = let number : id.0 ≡ place = eqb-true id.0 place same in let both : true ≡ false = sym is ∙ (ap (λ (k : ℕ). get_or marks k false) number ∙ unmarked) in absurd cc
          by false apart =
              let differ : id.0 ≢ place = λ e. let same : (id.0 == place) ≡ true = eq-eqb id.0 place e in let both : true ≡ false = sym same ∙ apart in absurd cc in
              swept.closed id premise n (omega arith) at is among

  premises_within : All (λ (premise : NodeId). premise.0 < length marks) (premises_of node.rule)
  premises_within = All-weaker (λ (p : NodeId). p.0 < place) (λ (p : NodeId). p.0 < length marks) (λ p below. let size : length marks ≡ length nodes = swept.size in let w : suc place ≤ length nodes = swept.within in
      omega arith) (premises_of node.rule) (earlier (record { 0 = place }) node here)

  -- if it is marked, its premises are
  pub swept_marked : get_or marks place false ≡ true → Swept nodes start (marked_with marks (premises_of node.rule)) place
  swept_marked marked = record {
    size = length-marked_with marks (premises_of node.rule) ∙ swept.size;
    within = let w : suc place ≤ length nodes = swept.within in omega arith;
    sound = λ id is. sound id (marked_with_cases marks (premises_of node.rule) id is);
    kept = λ id is. marked_with_keeps marks (premises_of node.rule) id premises_within (swept.kept id is);
    closed = λ id premise n from at is among. closed id premise n from at (marked_with_cases marks (premises_of node.rule) id is) among;
  }
    where
      sound : (id : NodeId) → Contains (premises_of node.rule) id ⊎ IsMarked marks id → (top : NodeId) × IsMarked start top × IsUnder nodes id top
      sound id (inr was) = swept.sound id was
      sound id (inl among) =
          let (top, marked_first, above) = swept.sound (record { 0 = place }) marked in
          (top, marked_first, under_trans nodes id (record { 0 = place }) top (under (record { 0 = place }) id node here among (itself id refl)) above)

      closed : (id premise : NodeId) (n : Node) → place ≤ id.0 → node_at nodes id ≡ Some n → Contains (premises_of node.rule) id ⊎ IsMarked marks id → Contains (premises_of n.rule) premise
          → IsMarked (marked_with marks (premises_of node.rule)) premise
      closed id premise n from at (inl inside) among =
          let below : id.0 < place = All-contains (λ (p : NodeId). p.0 < place) (premises_of node.rule) id (earlier (record { 0 = place }) node here) inside in
          absurd (omega arith)
      closed id premise n from at (inr was) among = by (id.0 == place) refl
        where
          by : (b : Bool) → (id.0 == place) ≡ b → IsMarked (marked_with marks (premises_of node.rule)) premise
          by true same =
              let number : id.0 ≡ place = eqb-true id.0 place same in
              let one : Some n ≡ Some node = sym at ∙ (ap (slice_get nodes) number ∙ here) in
              let is : n ≡ node = cc in
              marked_with_has marks (premises_of node.rule) premise premises_within (subst (λ (m : Node). Contains (premises_of m.rule) premise) is among)
          by false apart =
              let differ : id.0 ≢ place = λ e. let same : (id.0 == place) ≡ true = eq-eqb id.0 place e in let both : true ≡ false = sym same ∙ apart in absurd cc in
              marked_with_keeps marks (premises_of node.rule) premise premises_within (swept.closed id premise n (omega arith) at was among)

-- what is closed from the first node on has all that stands under its marks
pub swept_whole : (nodes : List Node) (start marks : List Bool) → Swept nodes start marks 0 → (id top : NodeId) → IsMarked marks top → IsUnder nodes id top → IsMarked marks id
swept_whole nodes start marks swept id top is (itself t same) = subst (IsMarked marks) same is
swept_whole nodes start marks swept id top is (under t premise node here among rest) =
    swept_whole nodes start marks swept id premise (swept.closed top premise node (omega arith) here is among) rest

-- ---- the numbers of the marks
pub record AreMarkedBelow (marks : List Bool) (n : ℕ) (found : List NodeId) : Type 0 where
  pub each_from : (id : NodeId) → Contains found id → (id.0 < n) × IsMarked marks id
  pub each_to : (id : NodeId) → id.0 < n → IsMarked marks id → Contains found id
  pub in_order : AllPairs (λ (first second : NodeId). first.0 < second.0) found

pub marked_none : (marks : List Bool) → AreMarkedBelow marks 0 []
marked_none marks = record {
  each_from = λ id inside. absurd (Contains-none id inside);
  each_to = λ id below is. absurd (omega arith);
  in_order = λ i j d first inside. absurd (omega arith);
}

pub marked_passed : (marks : List Bool) (n : ℕ) (found : List NodeId) → AreMarkedBelow marks n found → get_or marks n false ≡ false → AreMarkedBelow marks (n + 1) found
marked_passed marks n found before unmarked = record {
  each_from = λ id inside. let (below, is) = before.each_from id inside in (omega arith, is);
  each_to = each_to;
  in_order = before.in_order;
}
  where
    each_to : (id : NodeId) → id.0 < n + 1 → IsMarked marks id → Contains found id
    each_to id below is = by (id.0 == n) refl
      where
        by : (b : Bool) → (id.0 == n) ≡ b → Contains found id
        by true same = let both : true ≡ false = sym is ∙ (ap (λ (k : ℕ). get_or marks k false) (eqb-true id.0 n same) ∙ unmarked) in absurd cc
        by false apart =
            let differ : id.0 ≢ n = λ e. let same : (id.0 == n) ≡ true = eq-eqb id.0 n e in let both : true ≡ false = sym same ∙ apart in absurd cc in
            before.each_to id (omega arith) is

pub marked_taken : (marks : List Bool) (n : ℕ) (found : List NodeId) → AreMarkedBelow marks n found → get_or marks n false ≡ true → AreMarkedBelow marks (n + 1) (found ++ record { 0 = n } ∷ [])
marked_taken marks n found before marked = record {
  each_from = λ id inside. each_from id (Contains-push_cases found (record { 0 = n }) id inside);
  each_to = each_to;
  in_order = all_pairs_push (λ (first second : NodeId). first.0 < second.0) found (record { 0 = n }) before.in_order (λ k d inside. (before.each_from (get_or found k d) (Contains-get_or found k d inside)).0);
}
  where
    each_from : (id : NodeId) → Contains found id ⊎ (record { 0 = n } ≡ id) → (id.0 < n + 1) × IsMarked marks id
    each_from id (inl there) = let (below, is) = before.each_from id there in (omega arith, is)
    each_from id (inr same) = subst (λ (i : NodeId). (i.0 < n + 1) × IsMarked marks i) same (omega arith, marked)

    each_to : (id : NodeId) → id.0 < n + 1 → IsMarked marks id → Contains (found ++ record { 0 = n } ∷ []) id
    each_to id below is = by (id.0 == n) refl
      where
        by : (b : Bool) → (id.0 == n) ≡ b → Contains (found ++ record { 0 = n } ∷ []) id
        by true same = subst (Contains (found ++ record { 0 = n } ∷ [])) (ap (λ (k : ℕ). record { 0 = k }) (sym (eqb-true id.0 n same))) (Contains-push found (record { 0 = n }))
        by false apart =
            let differ : id.0 ≢ n = λ e. let same : (id.0 == n) ≡ true = eq-eqb id.0 n e in let both : true ≡ false = sym same ∙ apart in absurd cc in
            Contains-append_left found (record { 0 = n } ∷ []) id (before.each_to id (omega arith) is)

pub marked_all : (marks : List Bool) (n : ℕ) (found : List NodeId) → n ≡ length marks → AreMarkedBelow marks n found → AreMarked marks found
marked_all marks n found all before = record {
  each = λ id. (λ inside. (before.each_from id inside).1, λ is. before.each_to id (inside_marks id is) is);
  in_order = before.in_order;
}
  where
    inside_marks : (id : NodeId) → IsMarked marks id → id.0 < n
    inside_marks id is = by (nat_lt id.0 n) refl
      where
        by : (b : Bool) → nat_lt id.0 n ≡ b → id.0 < n
        by true inside = ltb-true id.0 n inside
        by false past =
            let beyond : length marks ≤ id.0 = omega (arith, ltb-false id.0 n past) in
            let both : true ≡ false = sym is ∙ get_or_past marks id.0 false beyond in absurd cc

-- ---- the marks of ancestors
-- each node that is marked stands under one that was marked at first, and each that stands under such a one is marked
abbrev pub MarksAreUnder : List Node → List Bool → List Bool → Type 0
MarksAreUnder nodes start marks = (id : NodeId) → IsMarked marks id → (top : NodeId) × IsMarked start top × IsUnder nodes id top

abbrev pub MarksAreAllUnder : List Node → List Bool → List Bool → Type 0
MarksAreAllUnder nodes start marks = (id top : NodeId) → IsMarked start top → IsUnder nodes id top → IsMarked marks id

pub ancestors_from : (nodes : List Node) (ids : List NodeId) (n : ℕ) (marks : List Bool) (found : List NodeId) → n ≡ length nodes → All (λ (id : NodeId). id.0 < n) ids
    → MarksAreUnder nodes (marked_with (replicate n false) ids) marks → MarksAreAllUnder nodes (marked_with (replicate n false) ids) marks → AreMarked marks found → AreAncestors nodes ids found
ancestors_from nodes ids n marks found size within sound whole are = record {
  under = λ k d inside. below_given (get_or found k d) (Contains-get_or found k d inside);
  whole = λ id below given descent. (are.each below).1 (whole below id (marked_with_has (replicate n false) ids id in_marks given) descent);
  in_order = are.in_order;
}
  where
    in_marks : All (λ (id : NodeId). id.0 < length (replicate n false)) ids
    in_marks = subst (λ (m : ℕ). All (λ (id : NodeId). id.0 < m) ids) (sym (length-replicate n false)) within

    below_given : (below : NodeId) → Contains found below → (id : NodeId) × Contains ids id × IsUnder nodes below id
    below_given below inside =
        let (top, marked_first, descent) = sound below ((are.each below).0 inside) in
        by top descent (marked_with_cases (replicate n false) ids top marked_first)
      where
        by : (top : NodeId) → IsUnder nodes below top → Contains ids top ⊎ IsMarked (replicate n false) top → (id : NodeId) × Contains ids id × IsUnder nodes below id
        by top descent (inl given) = (top, given, descent)
        by top descent (inr none) = absurd (none_marked n top none)

-- ---- a step of the sweep, at the node that a list has at a place
module _ (nodes : List Node) (start marks : List Bool) (place k : ℕ) (d : Node) (earlier : PremisesStandEarlier nodes) (is : suc k ≡ place) (swept : Swept nodes start marks place) where
  there : slice_get nodes k ≡ Some (get_or nodes k d)
  there = let within : place ≤ length nodes = swept.within in slice_get-get_or nodes k d (omega arith)

  at_suc : Swept nodes start marks (suc k)
  at_suc = subst (Swept nodes start marks) (sym is) swept

  pub step_premises : All (λ (premise : NodeId). premise.0 < length marks) (premises_of (get_or nodes k d).rule)
  step_premises = premises_within nodes start marks k (get_or nodes k d) earlier there at_suc

  pub step_marked : get_or marks k false ≡ true → Swept nodes start (marked_with marks (premises_of (get_or nodes k d).rule)) k
  step_marked marked = swept_marked nodes start marks k (get_or nodes k d) earlier there at_suc marked

pub swept_end : (nodes : List Node) (start marks : List Bool) (place : ℕ) → place ≡ 0 → Swept nodes start marks place → (id top : NodeId) → IsMarked start top → IsUnder nodes id top → IsMarked marks id
swept_end nodes start marks place none swept id top marked_first descent = swept_whole nodes start marks (subst (Swept nodes start marks) none swept) id top (swept.kept top marked_first) descent
