-- Closed walks of negative total and edges of a network.
use Rattle.std.proofs.Common.{◌≡◌, ℕ, pos, List, [], ◌∷◌, Option, Some, None, sym, ap, subst, ◌∙◌, arith, nat_abs}
use Rattle.std.specs.Prelude.{slice_get}
use Rattle.std.specs.List.{All, AllByRecursion, Contains}
use Rattle.std.specs.Option.{option_map}
use Rattle.std.proofs.lemmas.Int.{ints}
use Rattle.std.proofs.lemmas.List.Elements.{All-from_recursion, All-contains, All-weaker, recursion_from_All}
use Rattle.std.proofs.lemmas.Option.{same_Some, slice_get-map, slice_get_within, get_or_from_slice_get}
use Rattle.net_model.specs.Network.{Plan, IsPlan, IsBound, IsPoint}
use Rattle.net_model.specs.Edges.{IsEdge, IsLabelled}
use Rattle.net_model.specs.LooseRules.{IsLooseBound, IsLooseLink, by_bound, by_link, by_no_case, by_upper_case, by_lower_case, by_cross_case, by_removal}
use Rattle.net_model.specs.declared.ids.LinkId.{LinkId}
use Rattle.net_model.specs.declared.part.Bound.{Bound}
use Rattle.net_model.specs.declared.part.Edge.{Edge}
use Rattle.net_model.specs.declared.part.Link.{Link}
use Rattle.strategy_model.specs.Plays.{play}
use Rattle.strategy_model.specs.Edges.{HoldsIn, HoldsOf, TakesLongest}
use Rattle.strategy_model.specs.Laws.{LoopsExcludeStrategies, RefutationsExcludeStrategies, RulesKeepEdges}
use Rattle.strategy_model.specs.declared.tree.Tree.{Tree}
use Rattle.strategy_model.proofs.WalkLemmas.{loops_exclude}
use Rattle.strategy_model.proofs.LongestLemmas.{longest_of, longest_situation}
use Rattle.strategy_model.proofs.PlayLemmas.{link_sound}
use Rattle.strategy_model.proofs.CompareLemmas.{own_size}
use Rattle.strategy_model.proofs.RuleLemmas.{law_derivations_are_true}

-- if every link takes its longest duration, that of each label does
all_longest : (net : Plan) → IsPlan net → (label : Option LinkId) → TakesLongest net (longest_of net.links) label
all_longest net plan None = tt
all_longest net plan (Some label) = λ link duration declared lasts.
    let sound = link_sound net plan label.0 link declared in
    let positive = sound.positive in
    let interval = sound.interval in
    let longest : Some (nat_abs link.high) ≡ slice_get (longest_of net.links) label.0 = sym (slice_get-map (λ (l : Link). nat_abs l.high) net.links label.0 ∙ ap (option_map (λ (l : Link). nat_abs l.high)) declared) in
    ap pos (sym (same_Some (nat_abs link.high) duration (longest ∙ lasts))) ∙ own_size link.high (omega (arith, ints, positive, interval))

-- so true edges hold there
true_edges_hold : (net : Plan) (strategy : Tree) (schedule : List ℕ) → IsPlan net → play strategy net (longest_of net.links) ≡ Some schedule → (edges : List Edge) → AllByRecursion (HoldsOf net strategy) edges
    → AllByRecursion (HoldsIn schedule) edges
true_edges_hold net strategy schedule plan played [] all = tt
true_edges_hold net strategy schedule plan played (edge ∷ edges) all =
    (all.0 (longest_of net.links) schedule (longest_situation net plan) (all_longest net plan edge.label) played, true_edges_hold net strategy schedule plan played edges all.1)

pub law_loops_exclude_strategies : LoopsExcludeStrategies
law_loops_exclude_strategies net strategy edges instant all loop controls =
    let (schedule, played, satisfies) = controls (longest_of net.links) (longest_situation net instant.sound) in
    loops_exclude schedule edges loop (true_edges_hold net strategy schedule instant.sound played edges all)

-- the edges of a walk over true edges are true
pub walk_true : (net : Plan) (strategy : Tree) (edges walk : List Edge) → All (HoldsOf net strategy) edges → All (Contains edges) walk → All (HoldsOf net strategy) walk
walk_true net strategy edges walk all among =
    All-weaker (Contains edges) (HoldsOf net strategy) (λ edge here. All-contains (HoldsOf net strategy) edges edge all here) walk among

pub law_refutations_exclude_strategies : RefutationsExcludeStrategies
law_refutations_exclude_strategies net edges walk instant derivation among loop controllable =
    let (strategy, controls) = controllable in
    let all = law_derivations_are_true net strategy edges instant controls derivation in
    law_loops_exclude_strategies net strategy walk instant (recursion_from_All (HoldsOf net strategy) walk (walk_true net strategy edges walk all among)) loop controls

-- an edge from a point to a point without a label, or with that of an edge which ends where it ends
ordinary_edge : (net : Plan) (edge : Edge) → IsPoint net edge.from → IsPoint net edge.to → edge.label ≡ None → IsEdge net edge
ordinary_edge net edge from_point to_point ordinary =
    record {
      from_point = from_point;
      to_point = to_point;
      labelled = subst (IsLabelled net edge) (sym ordinary) tt;
    }

carried : (net : Plan) (premise edge : Edge) (label : Option LinkId) → edge.to ≡ premise.to → IsLabelled net premise label → IsLabelled net edge label
carried net premise edge None to labelled = tt
carried net premise edge (Some label) to labelled = (labelled.0, labelled.1, to ∙ labelled.2)

labelled_edge : (net : Plan) (premise edge : Edge) → IsPoint net edge.from → IsEdge net premise → edge.to ≡ premise.to → edge.label ≡ premise.label → IsEdge net edge
labelled_edge net premise edge from_point sound to same =
    record {
      from_point = from_point;
      to_point = subst (IsPoint net) (sym to) sound.to_point;
      labelled = subst (IsLabelled net edge) (sym same) (carried net premise edge premise.label to sound.labelled);
    }

bound_sound : (net : Plan) → IsPlan net → (place : ℕ) (bound : Bound) → slice_get net.bounds place ≡ Some bound → IsBound net bound
bound_sound net plan place bound declared =
    subst (IsBound net) (get_or_from_slice_get net.bounds place bound bound declared) (plan.bounds_sound place bound (slice_get_within net.bounds place bound declared))

edge_of : (net : Plan) (edges : List Edge) (edge : Edge) → AllByRecursion (IsEdge net) edges → Contains edges edge → IsEdge net edge
edge_of net edges edge all among = All-contains (IsEdge net) edges edge (All-from_recursion (IsEdge net) edges all) among

bound_gives_edge : (net : Plan) (edge : Edge) → IsPlan net → IsLooseBound net edge → IsEdge net edge
bound_gives_edge net edge plan rule =
    let sound = bound_sound net plan rule.place rule.bound rule.declared in
    ordinary_edge net edge (subst (IsPoint net) (sym rule.from) sound.from_point) (subst (IsPoint net) (sym rule.to) sound.to_point) rule.ordinary

link_gives_edge : (net : Plan) (edge : Edge) → IsPlan net → IsLooseLink net edge → IsEdge net edge
link_gives_edge net edge plan rule =
    let sound = link_sound net plan rule.name.0 rule.link rule.declared in
    record {
      from_point = subst (IsPoint net) (sym rule.from) sound.to_point;
      to_point = subst (IsPoint net) (sym rule.to) sound.from_point;
      labelled = subst (IsLabelled net edge) (sym rule.labelled) (rule.link, rule.declared, rule.to);
    }

pub law_rules_keep_edges : RulesKeepEdges
law_rules_keep_edges net earlier edge plan all (by_bound rule) = bound_gives_edge net edge plan rule
law_rules_keep_edges net earlier edge plan all (by_link rule) = link_gives_edge net edge plan rule
law_rules_keep_edges net earlier edge plan all (by_no_case first second first_among second_among rule) =
    ordinary_edge net edge (subst (IsPoint net) (sym rule.from) (edge_of net earlier first all first_among).from_point) (subst (IsPoint net) (sym rule.to) (edge_of net earlier second all second_among).to_point) rule.ordinary
law_rules_keep_edges net earlier edge plan all (by_upper_case first second first_among second_among rule) =
    labelled_edge net second edge (subst (IsPoint net) (sym rule.from) (edge_of net earlier first all first_among).from_point) (edge_of net earlier second all second_among) rule.to (rule.labelled ∙ sym rule.second_labelled)
law_rules_keep_edges net earlier edge plan all (by_lower_case second among rule) =
    ordinary_edge net edge (subst (IsPoint net) (sym rule.from) (link_sound net plan rule.name.0 rule.link rule.declared).from_point) (subst (IsPoint net) (sym rule.to) (edge_of net earlier second all among).to_point) rule.ordinary
law_rules_keep_edges net earlier edge plan all (by_cross_case second among rule) =
    labelled_edge net second edge (subst (IsPoint net) (sym rule.from) (link_sound net plan rule.name.0 rule.link rule.declared).from_point) (edge_of net earlier second all among) rule.to (rule.labelled ∙ sym rule.second_labelled)
law_rules_keep_edges net earlier edge plan all (by_removal premise among rule) =
    let sound = edge_of net earlier premise all among in
    ordinary_edge net edge (subst (IsPoint net) (sym rule.from) sound.from_point) (subst (IsPoint net) (sym rule.to) sound.to_point) rule.ordinary
