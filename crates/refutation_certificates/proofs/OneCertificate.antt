-- The certificate of the refutation of a network is one.
use Rattle.std.proofs.Common.{◌≡◌, ℕ, suc, ◌<◌, List, [], ◌∷◌, map, ◌⊎◌, refl, sym, ap, ◌∙◌, subst, arith, inl, inr}
use Rattle.std.specs.List.{AllPairs, AllZip, Contains}
use Rattle.std.proofs.lemmas.List.Elements.{recursion_from_All}
use Rattle.net_model.specs.Network.{Plan}
use Rattle.net_model.specs.declared.ids.PointId.{PointId}
use Rattle.closure_model.specs.Derivations.{Support, base_support, IsNodeOf, IsUnder, AreAncestors}
use Rattle.closure_model.specs.Keys.{Key}
use Rattle.closure_model.specs.ReferenceRounds.{Ending, closed, looped, cycle_keys, line_of, IsRefutationBy}
use Rattle.closure_model.specs.declared.derivation.Node.{Node}
use Rattle.closure_model.specs.declared.derivation.NodeId.{NodeId}
use Rattle.closure_model.proofs.LawProofs.{law_node_of_key_is_one}
use Rattle.closure_model.proofs.Lists.{Contains-none, Contains-head, Contains-tail, Contains-cases, each-contained}
use Rattle.closure_model.proofs.RoundsLaw.{law_rounds_end_in_one_way}
use Rattle.refutation_certificates.specs.Certificates.{certificate_of_nodes}
use Rattle.refutation_certificates.specs.Refutations.{RefutationsAreOne}

-- ---- lists in order with the same elements are one
abbrev IsOrdered : List NodeId → Type 0
IsOrdered ids = AllPairs (λ (first second : NodeId). first.0 < second.0) ids

abbrev AreWithin : List NodeId → List NodeId → Type 0
AreWithin some all = (id : NodeId) → Contains some id → Contains all id

ordered_tail : (id : NodeId) (ids : List NodeId) → IsOrdered (id ∷ ids) → IsOrdered ids
ordered_tail id ids ordered = λ i j d less inside. ordered (suc i) (suc j) d (omega arith) (omega arith)

ordered_head : (id : NodeId) (ids : List NodeId) (later : NodeId) → IsOrdered (id ∷ ids) → Contains ids later → id.0 < later.0
ordered_head id ids later ordered (k, inside, at) = subst (λ (l : NodeId). id.0 < l.0) at (ordered 0 (suc k) later (omega arith) (omega arith))

heads_same : (x y : NodeId) (xs ys : List NodeId) → IsOrdered (x ∷ xs) → IsOrdered (y ∷ ys) → (y ≡ x) ⊎ Contains ys x → (x ≡ y) ⊎ Contains xs y → x ≡ y
heads_same x y xs ys one other (inl same) there = sym same
heads_same x y xs ys one other (inr here) (inl same) = same
heads_same x y xs ys one other (inr here) (inr there) =
    let less = ordered_head x xs y one there in
    let more = ordered_head y ys x other here in
    absurd (omega (arith, less, more))

tail_by : (x y : NodeId) (xs ys : List NodeId) (id : NodeId) → IsOrdered (x ∷ xs) → x ≡ y → Contains xs id → (y ≡ id) ⊎ Contains ys id → Contains ys id
tail_by x y xs ys id ordered same here (inl first) =
    let less : x.0 < x.0 = subst (λ (p : NodeId). x.0 < p.0) (sym (same ∙ first)) (ordered_head x xs id ordered here) in
    absurd (omega (arith, less))
tail_by x y xs ys id ordered same here (inr there) = there

tail_within : (x y : NodeId) (xs ys : List NodeId) → IsOrdered (x ∷ xs) → x ≡ y → AreWithin (x ∷ xs) (y ∷ ys) → AreWithin xs ys
tail_within x y xs ys ordered same within id here = tail_by x y xs ys id ordered same here (Contains-cases y ys id (within id (Contains-tail x xs id here)))

ordered_one : (xs ys : List NodeId) → IsOrdered xs → IsOrdered ys → AreWithin xs ys → AreWithin ys xs → xs ≡ ys
ordered_one [] [] one other within back = refl
ordered_one [] (y ∷ ys) one other within back = absurd (Contains-none y (back y (Contains-head y ys)))
ordered_one (x ∷ xs) [] one other within back = absurd (Contains-none x (within x (Contains-head x xs)))
ordered_one (x ∷ xs) (y ∷ ys) one other within back =
    let same : x ≡ y = heads_same x y xs ys one other (Contains-cases y ys x (within x (Contains-head x xs))) (Contains-cases x xs y (back y (Contains-head y ys))) in
    let rest : xs ≡ ys = ordered_one xs ys (ordered_tail x xs one) (ordered_tail y ys other) (tail_within x y xs ys one same within) (tail_within y x ys xs other (sym same) back) in
    ap (λ (id : NodeId). id ∷ xs) same ∙ ap (λ (ids : List NodeId). y ∷ ids) rest

-- ---- the refutation by a cycle is one
steps_one : (nodes : List Node) (keys : List Key) (steps others : List NodeId) → AllZip (IsNodeOf nodes) keys steps → AllZip (IsNodeOf nodes) keys others → steps ≡ others
steps_one nodes [] [] [] one other = refl
steps_one nodes [] (id ∷ ids) others one other = absurd one
steps_one nodes [] [] (id ∷ ids) one other = absurd other
steps_one nodes (key ∷ keys) [] others one other = absurd one
steps_one nodes (key ∷ keys) (id ∷ ids) [] one other = absurd other
steps_one nodes (key ∷ keys) (id ∷ ids) (it ∷ its) one other =
    ap (λ (n : NodeId). n ∷ ids) (law_node_of_key_is_one nodes key id it one.0 other.0) ∙ ap (λ (ns : List NodeId). it ∷ ns) (steps_one nodes keys ids its one.1 other.1)

within_ancestors : (nodes : List Node) (ids found others : List NodeId) → AreAncestors nodes ids found → AreAncestors nodes ids others → AreWithin found others
within_ancestors nodes ids found others one other below here =
    let above = each-contained (λ (b : NodeId). (id : NodeId) × Contains ids id × IsUnder nodes b id) found below (recursion_from_All (λ (b : NodeId). (id : NodeId) × Contains ids id × IsUnder nodes b id) found one.under) here in
    other.whole above.0 below above.1 above.2

ancestors_one : (nodes : List Node) (ids found others : List NodeId) → AreAncestors nodes ids found → AreAncestors nodes ids others → found ≡ others
ancestors_one nodes ids found others one other =
    ordered_one found others one.in_order other.in_order (within_ancestors nodes ids found others one other) (within_ancestors nodes ids others found other one)

refutation_one : (net : Plan) (nodes : List Node) (cycle : List PointId) (lines others : List NodeId) (walk also : List ℕ) → IsRefutationBy nodes cycle lines walk → IsRefutationBy nodes cycle others also
    → certificate_of_nodes net nodes lines walk ≡ certificate_of_nodes net nodes others also
refutation_one net nodes cycle lines others walk also one other =
    let steps : one.steps ≡ other.steps = steps_one nodes (cycle_keys cycle) one.steps other.steps one.of_cycle other.of_cycle in
    let found : lines ≡ others = ancestors_one nodes other.steps lines others (subst (λ (ids : List NodeId). AreAncestors nodes ids lines) steps one.under) other.under in
    let numbers : walk ≡ also = one.numbered ∙ (ap (λ (ids : List NodeId). map (line_of lines) ids) steps ∙ (ap (λ (ids : List NodeId). map (line_of ids) other.steps) found ∙ sym other.numbered)) in
    ap (λ (ids : List NodeId). certificate_of_nodes net nodes ids walk) found ∙ ap (λ (ns : List ℕ). certificate_of_nodes net nodes others ns) numbers

-- ---- the refutation of a network is one
cycle_in : Ending → List PointId
cycle_in (closed order) = []
cycle_in (looped cycle) = cycle

pub certificate_one : RefutationsAreOne
unfolding cycle_in
certificate_one net cert other one two =
    let a = one.refutation in
    let b = two.refutation in
    let same = law_rounds_end_in_one_way net (base_support net) a.after b.after a.rounds b.rounds (looped a.cycle) (looped b.cycle) a.ends b.ends in
    let cycle : a.cycle ≡ b.cycle = ap cycle_in same.2 in
    let nodes : one.nodes ≡ two.nodes = a.list ∙ (ap (λ (s : Support). s.nodes) same.1 ∙ sym b.list) in
    let moved : IsRefutationBy two.nodes b.cycle one.lines one.walk = subst (λ (c : List PointId). IsRefutationBy two.nodes c one.lines one.walk) cycle
    (subst (λ (ns : List Node). IsRefutationBy ns a.cycle one.lines one.walk) nodes a.by_cycle) in
    one.is ∙ (ap (λ (ns : List Node). certificate_of_nodes net ns one.lines one.walk) nodes ∙ (refutation_one net two.nodes b.cycle one.lines two.lines one.walk two.walk moved b.by_cycle ∙ sym two.is))
