-- Marks of the nodes that rest on an item: one node more.
use Rattle.std.proofs.Common.{◌≡◌, ◌≢◌, ◌↔◌, ◌==◌, ℕ, zero, suc, ◌+◌, ◌<◌, Bool, true, false, ◌⊎◌, List, [], ◌∷◌, ◌++◌, length, get_or, Some, refl, ap, sym, ◌∙◌, subst, inl, inr, arith}
use Rattle.std.specs.Prelude.{slice_get}
use Rattle.std.specs.List.{All, Contains}
use Rattle.std.proofs.lemmas.Bool.{eqb-true, eqb-false}
use Rattle.std.proofs.lemmas.List.{length-append}
use Rattle.std.proofs.lemmas.List.Elements.{All-contains, All-weaker}
use Rattle.std.proofs.Math.ListN.{get_or-append}
use Rattle.std.proofs.lemmas.Option.{slice_get-get_or}
use Rattle.closure_model.specs.Derivations.{premises_of, item_of, PremisesStandEarlier, RestsOn}
use Rattle.closure_model.specs.declared.derivation.Item.{Item}
use Rattle.closure_model.specs.declared.derivation.Node.{Node}
use Rattle.closure_model.specs.declared.derivation.NodeId.{NodeId}
use Rattle.closure_model.proofs.Lists.{any_is, any_from}
use Rattle.closure_model.proofs.DerivedNodes.{rests_cases, rests_by, rests_itself}
use Rattle.derivation_dag.specs.Marks.{mark_of, IsMarked, marks_premise}

-- the first nodes are marked if they rest on the item
pub record Rested (nodes : List Node) (what : Item) (rests : List Bool) (n : ℕ) : Type 0 where
  pub size : length rests ≡ n
  pub each : (id : NodeId) → id.0 < n → IsMarked rests id ↔ RestsOn nodes id what

pub rested_none : (nodes : List Node) (what : Item) → Rested nodes what [] 0
rested_none nodes what = record { size = refl; each = λ id below. absurd (omega arith) }

at_end : (rests : List Bool) (b : Bool) (n : ℕ) → length rests ≡ n → get_or (rests ++ b ∷ []) n false ≡ b
at_end [] b zero size = refl
at_end [] b (suc n) size = absurd (omega arith)
at_end (r ∷ rests) b zero size = absurd (omega arith)
at_end (r ∷ rests) b (suc n) size = at_end rests b n (omega arith)

module _ (nodes : List Node) (what : Item) (rests : List Bool) (n : ℕ) (node : Node) (earlier : PremisesStandEarlier nodes) (here : slice_get nodes n ≡ Some node) (before : Rested nodes what rests n) where
  pub premises_marked : All (λ (premise : NodeId). premise.0 < length rests) (premises_of node.rule)
  premises_marked = All-weaker (λ (p : NodeId). p.0 < n) (λ (p : NodeId). p.0 < length rests) (λ p below. let size : length rests ≡ n = before.size in omega arith) (premises_of node.rule) (earlier (record { 0 = n }) node here)

  -- the node rests on the item exactly if its rule uses it or a premise is marked
  rests_from : (item_of node.rule ≡ Some what) ⊎ (marks_premise rests node.rule ≡ true) → RestsOn nodes (record { 0 = n }) what
  rests_from (inl uses) = rests_itself nodes (record { 0 = n }) node what here uses
  rests_from (inr marked) =
      let (premise, among, is) = any_is (mark_of rests) (premises_of node.rule) marked in
      let below : premise.0 < n = All-contains (λ (p : NodeId). p.0 < n) (premises_of node.rule) premise (earlier (record { 0 = n }) node here) among in
      rests_by nodes (record { 0 = n }) premise node what here among ((before.each premise below).0 is)

  rests_to : RestsOn nodes (record { 0 = n }) what → (item_of node.rule ≡ Some what) ⊎ (marks_premise rests node.rule ≡ true)
  rests_to rests_on = by (rests_cases nodes (record { 0 = n }) node what here rests_on)
    where
      by : (item_of node.rule ≡ Some what) ⊎ ((premise : NodeId) × Contains (premises_of node.rule) premise × RestsOn nodes premise what) → (item_of node.rule ≡ Some what) ⊎ (marks_premise rests node.rule ≡ true)
      by (inl uses) = inl uses
      by (inr (premise, among, under)) =
          let below : premise.0 < n = All-contains (λ (p : NodeId). p.0 < n) (premises_of node.rule) premise (earlier (record { 0 = n }) node here) among in
          inr (any_from (mark_of rests) (premises_of node.rule) premise among ((before.each premise below).1 under))

  pub rested_more : (b : Bool) → (b ≡ true) ↔ ((item_of node.rule ≡ Some what) ⊎ (marks_premise rests node.rule ≡ true)) → Rested nodes what (rests ++ b ∷ []) (n + 1)
  rested_more b says = record {
    size = let size : length rests ≡ n = before.size in omega (arith, length-append rests (b ∷ []));
    each = each;
  }
    where
      each : (id : NodeId) → id.0 < n + 1 → IsMarked (rests ++ b ∷ []) id ↔ RestsOn nodes id what
      each id below = by (id.0 == n) refl
        where
          by : (t : Bool) → (id.0 == n) ≡ t → IsMarked (rests ++ b ∷ []) id ↔ RestsOn nodes id what
          by true same =
              let this : record { 0 = n } ≡ id = ap (λ (k : ℕ). record { 0 = k }) (sym (eqb-true id.0 n same)) in
              let end : get_or (rests ++ b ∷ []) n false ≡ b = at_end rests b n before.size in
              subst (λ (i : NodeId). IsMarked (rests ++ b ∷ []) i ↔ RestsOn nodes i what) this (λ is. rests_from (says.0 (sym end ∙ is)), λ rests_on. end ∙ says.1 (rests_to rests_on))
          by false apart =
              let differ : id.0 ≢ n = eqb-false id.0 n apart in
              let first : id.0 < n = omega arith in
              let kept : get_or (rests ++ b ∷ []) id.0 false ≡ get_or rests id.0 false = get_or-append rests (b ∷ []) false id.0 (let size : length rests ≡ n = before.size in omega arith) in
              let old = before.each id first in
              (λ is. old.0 (sym kept ∙ is), λ rests_on. kept ∙ old.1 rests_on)

-- ---- a step, at the node that a list has at a place
module _ (nodes : List Node) (what : Item) (rests : List Bool) (n : ℕ) (d : Node) (earlier : PremisesStandEarlier nodes) (inside : n < length nodes) (before : Rested nodes what rests n) where
  pub step_premises : (marks : List Bool) → marks ≡ rests → All (λ (premise : NodeId). premise.0 < length marks) (premises_of (get_or nodes n d).rule)
  step_premises marks same =
      subst (λ (m : List Bool). All (λ (premise : NodeId). premise.0 < length m) (premises_of (get_or nodes n d).rule)) (sym same) (premises_marked nodes what rests n (get_or nodes n d) earlier (slice_get-get_or nodes n d inside) before)

  pub step_more : (b : Bool) (marks : List Bool) → marks ≡ rests → (b ≡ true) ↔ ((item_of (get_or nodes n d).rule ≡ Some what) ⊎ (marks_premise marks (get_or nodes n d).rule ≡ true)) → Rested nodes what (rests ++ b ∷ []) (n + 1)
  step_more b marks same says =
      rested_more nodes what rests n (get_or nodes n d) earlier (slice_get-get_or nodes n d inside) before b
      (subst (λ (m : List Bool). (b ≡ true) ↔ ((item_of (get_or nodes n d).rule ≡ Some what) ⊎ (marks_premise m (get_or nodes n d).rule ≡ true))) same says)
