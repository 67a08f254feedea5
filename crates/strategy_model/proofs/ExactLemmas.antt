-- What follows by the exact rules is true of every strategy that controls the network.
use Rattle.std.proofs.Common.{◌≡◌, ℕ, zero, suc, pos, ◌≤◌, ◌<ℤ◌, List, [], ◌∷◌, Some, None, length, take, get_or, add-one, inl, inr, refl, sym, ◌∙◌, subst, arith, IsTrue}
use Rattle.std.specs.List.{All, AllByRecursion}
use Rattle.std.proofs.Math.Seq.{take-length}
use Rattle.std.proofs.lemmas.Int.{ints}
use Rattle.std.proofs.lemmas.List.Elements.{recursion_from_All, All-nil, All-more}
use Rattle.std.proofs.lemmas.Option.{slice_get_cases}
use Rattle.net_model.specs.Network.{Plan, IsPlan}
use Rattle.net_model.specs.Edges.{IsEdge}
use Rattle.net_model.specs.Rules.{Follows, IsDerivation, is_negative}
use Rattle.net_model.specs.LooseRules.{FollowsLoosely, IsLooseDerivation}
use Rattle.net_model.specs.declared.part.Edge.{Edge}
use Rattle.net_model.proofs.RuleLemmas.{law_exact_may_be_stated}
use Rattle.strategy_model.specs.Edges.{HoldsOf, IsNegativeOrdinary, IsNegativeLoop, IsNegativeCycle, total}
use Rattle.strategy_model.specs.Laws.{ExactRulesKeepTruth, ExactDerivationsHaveEdges, ExactDerivationsAreTrue, NegativeCyclesExcludeStrategies}
use Rattle.strategy_model.proofs.RuleLemmas.{law_rules_keep_truth, law_derivations_are_true}
use Rattle.strategy_model.proofs.LoopLemmas.{law_rules_keep_edges, law_refutations_exclude_strategies}

-- what an exact rule gives from edges of the network may be stated
stated : (net : Plan) (earlier : List Edge) (edge : Edge) → All (IsEdge net) earlier → Follows net earlier edge → FollowsLoosely net earlier edge
stated net earlier edge sound follows = law_exact_may_be_stated net earlier edge (recursion_from_All (IsEdge net) earlier sound) follows

pub law_exact_rules_keep_truth : ExactRulesKeepTruth
law_exact_rules_keep_truth net strategy earlier edge instant controls sound holds follows =
    law_rules_keep_truth net strategy earlier edge instant controls (recursion_from_All (HoldsOf net strategy) earlier holds) (stated net earlier edge sound follows)

pub exact_rules_keep_edges : (net : Plan) (earlier : List Edge) (edge : Edge) → IsPlan net → All (IsEdge net) earlier → Follows net earlier edge → IsEdge net edge
exact_rules_keep_edges net earlier edge plan sound follows =
    law_rules_keep_edges net earlier edge plan (recursion_from_All (IsEdge net) earlier sound) (stated net earlier edge sound follows)

-- the edges of a derivation up to a place are edges of the network
edges_up_to : (net : Plan) (edges : List Edge) → IsPlan net → IsDerivation net edges → (k : ℕ) → k ≤ length edges → All (IsEdge net) (take k edges)
edges_up_to net edges plan derivation zero within = All-nil (IsEdge net)
edges_up_to net edges plan derivation (suc k) within =
    let before = edges_up_to net edges plan derivation k (omega arith) in
    elim (slice_get_cases edges k).1 [
      | inl (edge, inside, found, here) ↦
          let sound : IsEdge net edge = exact_rules_keep_edges net (take k edges) edge plan before (derivation k edge found) in
          let sound_here : IsEdge net (get_or edges k edge) = subst (IsEdge net) (sym here) sound in
          subst (λ (n : ℕ). All (IsEdge net) (take n edges)) (add-one k) (All-more (IsEdge net) edges k edge inside before sound_here)
      | inr (past, missing) ↦ absurd (omega arith)
    ]

pub law_exact_derivations_have_edges : ExactDerivationsHaveEdges
law_exact_derivations_have_edges net edges plan derivation =
    let whole : take (length edges) edges ≡ edges = take-length edges in
    subst (All (IsEdge net)) whole (edges_up_to net edges plan derivation (length edges) (omega arith))

-- a derivation by the exact rules may be stated
derivation_stated : (net : Plan) (edges : List Edge) → IsPlan net → IsDerivation net edges → IsLooseDerivation net edges
derivation_stated net edges plan derivation place edge found =
    elim (slice_get_cases edges place).1 [
      | inl (other, inside, there, here) ↦ stated net (take place edges) edge (edges_up_to net edges plan derivation place (omega (arith, inside))) (derivation place edge found)
      | inr (past, missing) ↦ let none : Some edge ≡ None = sym found ∙ missing in absurd cc
    ]

pub law_exact_derivations_are_true : ExactDerivationsAreTrue
law_exact_derivations_are_true net strategy edges instant controls derivation =
    law_derivations_are_true net strategy edges instant controls (derivation_stated net edges instant.sound derivation)

pub below_zero : (edge : Edge) → IsTrue (is_negative edge) → edge.weight <ℤ pos 0
below_zero edge holds = grind (arith, ints)

-- the total of negative edges is negative
negative_total : (edge : Edge) (edges : List Edge) → AllByRecursion IsNegativeOrdinary (edge ∷ edges) → total (edge ∷ edges) <ℤ pos 0
negative_total edge [] all = let negative = below_zero edge all.0.1 in omega (arith, ints, negative)
negative_total edge (next ∷ edges) all =
    let negative = below_zero edge all.0.1 in
    let rest = negative_total next edges all.1 in
    omega (arith, ints, negative, rest)

-- a cycle of negative edges is a closed walk of negative total
pub cycle_is_loop : (edges : List Edge) → IsNegativeCycle edges → IsNegativeLoop edges
cycle_is_loop [] cycle = absurd (cycle.2 refl)
cycle_is_loop (edge ∷ edges) cycle = (cycle.0, cycle.1, negative_total edge edges cycle.3)

pub law_negative_cycles_exclude_strategies : NegativeCyclesExcludeStrategies
law_negative_cycles_exclude_strategies net edges cycle instant derivation among negative controllable =
    law_refutations_exclude_strategies net edges cycle instant (derivation_stated net edges instant.sound derivation) among (cycle_is_loop cycle negative) controllable
