-- How the lines of a refutation are found, from the last node to the first.
use Rattle.std.proofs.lemmas.List.{take_more, map_push}
use Rattle.std.proofs.Common.{◌≡◌, ◌==◌, ◌||◌, ◌++◌, map, take, ℕ, ◌+◌, ◌<◌, ◌≤◌, Bool, true, false, List, [], ◌∷◌, length, get_or, Option, Some, None, ◌⊎◌, inl, inr, refl, ap, sym, subst, ◌∙◌, arith}
use Rattle.std.specs.List.{All, AllByRecursion, AllZip, Contains, list_any}
use Rattle.std.specs.Option.{option_map_or}
use Rattle.std.proofs.lemmas.Bool.Decides.{nat_tests}
use Rattle.std.proofs.lemmas.List.Elements.{All-cons, All-contains}
use Rattle.std.proofs.lemmas.List.Kept.{AllPairs-cons}
use Rattle.std.proofs.lemmas.Option.{slice_get_within}
use Rattle.closure_model.specs.Derivations.{node_at, premises_of, IsNodeOf, IsUnder, itself, under, AreAncestors}
use Rattle.closure_model.specs.Keys.{Key}
use Rattle.closure_model.specs.declared.derivation.Node.{Node}
use Rattle.closure_model.specs.declared.derivation.NodeId.{NodeId}
use Rattle.closure_model.proofs.Lists.{Contains-head, Contains-tail, Contains-cases, Contains-none, each-contained}
use Rattle.example_references.specs.LinesFrom.{contains_node_id, is_premise, is_wanted, AreLinesFrom}

-- ---- numbers among numbers
module _ {X : Type 0} (p : X → Bool) where
  pub any_gives : (xs : List X) → list_any p xs ≡ true → (x : X) × Contains xs x × (p x ≡ true)
  any_gives [] is = absurd cc
  any_gives (x ∷ xs) is = by (p x) refl is (any_gives xs)
    where
      by : (b : Bool) → p x ≡ b → (b || list_any p xs) ≡ true → (list_any p xs ≡ true → (y : X) × Contains xs y × (p y ≡ true)) → (y : X) × Contains (x ∷ xs) y × (p y ≡ true)
      by true passes is rest = (x, Contains-head x xs, passes)
      by false fails is rest = let (y, inside, passes) = rest is in (y, Contains-tail x xs y inside, passes)

  pub any_from : (xs : List X) (x : X) → Contains xs x → p x ≡ true → list_any p xs ≡ true
  any_from [] x inside passes = absurd (Contains-none x inside)
  any_from (y ∷ xs) x inside passes = by (p y) refl (Contains-cases y xs x inside) (λ more. any_from xs x more passes)
    where
      by : (b : Bool) → p y ≡ b → (y ≡ x) ⊎ Contains xs x → (Contains xs x → list_any p xs ≡ true) → (b || list_any p xs) ≡ true
      by true is cases rest = refl
      by false is (inl same) rest = absurd (let here : p y ≡ true = ap p same ∙ passes in cc)
      by false is (inr more) rest = rest more

same_number : (one other : NodeId) → one.0 ≡ other.0 → one ≡ other
same_number one other same = ap (λ (n : ℕ). record { 0 = n }) same

same_from : (one other : NodeId) → (one.0 == other.0) ≡ true → one ≡ other
same_from one other is = same_number one other (grind (arith, nat_tests))

same_test : (one other : NodeId) → one ≡ other → (one.0 == other.0) ≡ true
same_test one other same = let numbers : one.0 ≡ other.0 = ap (λ (id : NodeId). id.0) same in grind (arith, nat_tests)

in_gives : (ids : List NodeId) (id : NodeId) → contains_node_id ids id ≡ true → Contains ids id
in_gives ids id is = let (other, inside, passes) = any_gives (λ (other : NodeId). other.0 == id.0) ids is in subst (Contains ids) (same_from other id passes) inside

in_from : (ids : List NodeId) (id : NodeId) → Contains ids id → contains_node_id ids id ≡ true
in_from ids id inside = any_from (λ (other : NodeId). other.0 == id.0) ids id inside (same_test id id refl)

-- ---- premises
module _ (nodes : List Node) where
  premise_gives : (id premise : NodeId) → is_premise nodes id premise ≡ true → (node : Node) × (node_at nodes id ≡ Some node) × Contains (premises_of node.rule) premise
  premise_gives id premise is = by (node_at nodes id) refl is
    where
      by : (o : Option Node) → node_at nodes id ≡ o → option_map_or (λ (node : Node). contains_node_id (premises_of node.rule) premise) o false ≡ true
          → (node : Node) × (node_at nodes id ≡ Some node) × Contains (premises_of node.rule) premise
      by None at is = absurd cc
      by (Some node) at is = (node, at, in_gives (premises_of node.rule) premise is)

  premise_from : (id premise : NodeId) (node : Node) → node_at nodes id ≡ Some node → Contains (premises_of node.rule) premise → is_premise nodes id premise ≡ true
  premise_from id premise node at among = ap (λ (o : Option Node). option_map_or (λ (m : Node). contains_node_id (premises_of m.rule) premise) o false) at ∙ in_from (premises_of node.rule) premise among

  -- a premise of what stands under a node stands under it
  under_more : (id premise : NodeId) (node : Node) → node_at nodes id ≡ Some node → Contains (premises_of node.rule) premise → (top : NodeId) → IsUnder nodes id top → IsUnder nodes premise top
  under_more id premise node at among top (itself _ same) = under top premise node (ap (node_at nodes) same ∙ at) among (itself premise refl)
  under_more id premise node at among top (under _ next m here inside rest) = under top next m here inside (under_more id premise node at among next rest)

-- ---- one node more
module _ (nodes : List Node) (steps lines : List NodeId) (id : NodeId) (was : AreLinesFrom nodes steps (id.0 + 1) lines) where
  later : All (λ (line : NodeId). id.0 < line.0) lines
  later k d inside = let past = was.late k d inside in omega arith

  abbrev IsReached : NodeId → Type 0
  IsReached below = (top : NodeId) × Contains steps top × IsUnder nodes below top

  -- what is wanted is a step or stands under one
  wanted_under : is_wanted nodes steps lines id ≡ true → IsReached id
  wanted_under wanted = by (contains_node_id steps id) refl wanted
    where
      by : (b : Bool) → contains_node_id steps id ≡ b → (b || list_any (λ (line : NodeId). is_premise nodes line id) lines) ≡ true → IsReached id
      by true step wanted = (id, in_gives steps id step, itself id refl)
      by false step wanted =
          let (line, inside, premise) = any_gives (λ (line : NodeId). is_premise nodes line id) lines wanted in
          let (node, at, among) = premise_gives nodes line id premise in
          let (top, step_of, below) : IsReached line = All-contains IsReached lines line was.under inside in
          (top, step_of, under_more nodes line id node at among top below)

  -- the numbers from a place on are that one and the later ones
  place_cases : (P : NodeId → Type 0) (x : NodeId) → id.0 ≤ x.0 → (x ≡ id → P x) → (id.0 + 1 ≤ x.0 → P x) → P x
  place_cases P x low here past = by (x.0 == id.0) refl
    where
      by : (b : Bool) → (x.0 == id.0) ≡ b → P x
      by true is = here (same_from x id is)
      by false is = past (grind (arith, nat_tests))

  pub line_taken : is_wanted nodes steps lines id ≡ true → ((node : Node) → node_at nodes id ≡ Some node → AllByRecursion (λ (premise : NodeId). premise.0 < id.0) (premises_of node.rule)) → AreLinesFrom nodes steps id.0 (id ∷ lines)
  line_taken wanted earlier = record {
    in_order = AllPairs-cons (λ (first second : NodeId). first.0 < second.0) id lines later was.in_order;
    late = All-cons (λ (x : NodeId). id.0 ≤ x.0) id lines (omega arith) (λ k d inside. (let past = later k d inside in omega arith));
    under = All-cons IsReached id lines (wanted_under wanted) was.under;
    steps_in = λ x step low. place_cases (Contains (id ∷ lines)) x low (λ here. subst (Contains (id ∷ lines)) (sym here) (Contains-head id lines)) (λ past. Contains-tail id lines x (was.steps_in x step past));
    premises_in = λ x premise node inside at among low. premises x premise node at among low (Contains-cases id lines x inside);
  }
    where
      premises : (x premise : NodeId) (node : Node) → node_at nodes x ≡ Some node → Contains (premises_of node.rule) premise → id.0 ≤ premise.0 → (id ≡ x) ⊎ Contains lines x → Contains (id ∷ lines) premise
      premises x premise node at among low (inl same) =
          let below : premise.0 < id.0 = each-contained (λ (p : NodeId). p.0 < id.0) (premises_of node.rule) premise (earlier node (ap (node_at nodes) same ∙ at)) among in
          absurd (omega arith)
      premises x premise node at among low (inr inside) =
          place_cases (Contains (id ∷ lines)) premise low (λ here. subst (Contains (id ∷ lines)) (sym here) (Contains-head id lines)) (λ past. Contains-tail id lines premise (was.premises_in x premise node inside at among past))

  pub line_passed : is_wanted nodes steps lines id ≡ false → AreLinesFrom nodes steps id.0 lines
  line_passed unwanted = record {
    in_order = was.in_order;
    late = λ k d inside. (let past = later k d inside in omega arith);
    under = was.under;
    steps_in = λ x step low. place_cases (Contains lines) x low (λ here. absurd (no_step (subst (Contains steps) here step))) (λ past. was.steps_in x step past);
    premises_in = λ x premise node inside at among low. place_cases (Contains lines) premise low
        (λ here. absurd (no_premise x inside (premise_from nodes x id node at (subst (Contains (premises_of node.rule)) here among)))) (λ past. was.premises_in x premise node inside at among past);
  }
    where
      by_step : (b c : Bool) → (b || c) ≡ false → b ≡ true → ⊥
      by_step true c is holds = absurd cc
      by_step false c is holds = absurd cc

      by_line : (b c : Bool) → (b || c) ≡ false → c ≡ true → ⊥
      by_line true c is holds = absurd cc
      by_line false c is holds = absurd cc

      no_step : Contains steps id → ⊥
      no_step step = by_step (contains_node_id steps id) (list_any (λ (line : NodeId). is_premise nodes line id) lines) unwanted (in_from steps id step)

      no_premise : (x : NodeId) → Contains lines x → is_premise nodes x id ≡ true → ⊥
      no_premise x inside premise = by_line (contains_node_id steps id) (list_any (λ (line : NodeId). is_premise nodes line id) lines) unwanted (any_from (λ (line : NodeId). is_premise nodes line id) lines x inside premise)

-- ---- from the last to the first
module _ (nodes : List Node) (steps : List NodeId) where
  pub lines_first : ((id : NodeId) → Contains steps id → id.0 < length nodes) → AreLinesFrom nodes steps (length nodes) []
  lines_first inside = record {
    in_order = λ i j d less within. absurd (omega arith);
    late = λ k d within. absurd (omega arith);
    under = λ k d within. absurd (omega arith);
    steps_in = λ id step past. (let low = inside id step in absurd (omega arith));
    premises_in = λ id premise node none at among past. absurd (Contains-none id none);
  }

  module _ (lines : List NodeId) (all : AreLinesFrom nodes steps 0 lines) where
    reach : (below top : NodeId) → IsUnder nodes below top → Contains lines top → Contains lines below
    reach below top (itself _ same) inside = subst (Contains lines) same inside
    reach below top (under _ next node at among rest) inside = reach below next rest (all.premises_in top next node inside at among (omega arith))

    pub lines_whole : AreAncestors nodes steps lines
    lines_whole = record {
      under = all.under;
      whole = λ id below step is. reach below id is (all.steps_in id step (omega arith));
      in_order = all.in_order;
    }

-- ---- the nodes of keys stand in the list
module _ (nodes : List Node) where
  pub steps_inside : (keys : List Key) (found : List NodeId) → AllZip (IsNodeOf nodes) keys found → (id : NodeId) → Contains found id → id.0 < length nodes
  steps_inside keys [] zip id inside = absurd (Contains-none id inside)
  steps_inside [] (one ∷ found) zip id inside = absurd zip
  steps_inside (key ∷ keys) (one ∷ found) zip id inside = by (Contains-cases one found id inside) (λ more. steps_inside keys found zip.1 id more)
    where
      by : (one ≡ id) ⊎ Contains found id → (Contains found id → id.0 < length nodes) → id.0 < length nodes
      by (inl same) rest = subst (λ (x : NodeId). x.0 < length nodes) same (slice_get_within nodes one.0 zip.0.node zip.0.here)
      by (inr more) rest = rest more

pub images_more : {X Y : Type 0} (f : X → Y) (xs : List X) (i : ℕ) (d : X) → i < length xs → map f (take (i + 1) xs) ≡ map f (take i xs) ++ f (get_or xs i d) ∷ []
images_more f xs i d inside = ap (map f) (take_more xs i d inside) ∙ map_push f (take i xs) (get_or xs i d)
