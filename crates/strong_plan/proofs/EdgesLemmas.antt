-- What the reduced edges of all bounds say of strong schedules.
use Rattle.std.proofs.Common.{◌≡◌, ℕ, ◌<◌, pos, List, [], Option, Some, None, map, length, get_or, is_some, refl, ap, sym, subst, ◌∙◌, arith}
use Rattle.std.specs.List.{All, Contains}
use Rattle.std.specs.Option.{option_map, option_and_then, IsSome}
use Rattle.std.proofs.lemmas.List.{length-map, get_or-map, get_or_default}
use Rattle.std.proofs.lemmas.Option.{same_Some}
use Rattle.net_model.specs.Network.{Plan, IsPlan, IsBound}
use Rattle.net_model.specs.declared.part.Bound.{Bound}
use Rattle.net_model.specs.declared.part.Edge.{Edge}
use Rattle.net_model.specs.declared.part.Link.{Link}
use Rattle.strategy_model.specs.Edges.{HoldsIn}
use Rattle.earliest_times.specs.History.{AreWithin}
use Rattle.earliest_times.specs.Least.{AreLeast}
use Rattle.strong_plan.specs.Strong.{executed_in, IsLeastStrongSchedule}
use Rattle.strong_plan.specs.Chains.{IsReduced, reduced_weight}
use Rattle.strong_plan.specs.ReducedEdges.{edge_between, reduced_edge}
use Rattle.strong_plan.specs.Answers.{AreReduced}
use Rattle.strong_plan.specs.Laws.{HasRoots, KeepsReduced}
use Rattle.strong_plan.proofs.StrongLemmas.{root_executable}
use Rattle.strong_plan.proofs.ReducedEdgeLemmas.{chain_found}
use Rattle.strong_plan.proofs.JudgeLemmas.{reduced_sound}
use Rattle.strong_plan.proofs.ExcludeLemmas.{law_least_kept_is_least}

-- a reduced edge is the one that is found
found : (net : Plan) → IsPlan net → (bound : Bound) (edge : Edge) → IsReduced net bound edge → reduced_edge net bound ≡ Some edge
found net plan bound edge reduced =
    let (from_is, from_root) = chain_found net plan bound.from reduced.from_chain edge.from reduced.from in
    let (to_is, to_root) = chain_found net plan bound.to reduced.to_chain edge.to reduced.to in
    let first : reduced_edge net bound ≡ option_and_then (λ (from : List Link). option_map (edge_between bound from) (Some reduced.to_chain)) (Some reduced.from_chain) =
    λ i. option_and_then (λ (from : List Link). option_map (edge_between bound from) (to_is i)) (from_is i) in
    first ∙ (λ i. Some (record { from = from_root i; to = to_root i; label = sym reduced.ordinary i; weight = sym reduced.weight i }))

module _ (net : Plan) (plan : IsPlan net) (edges : List Edge) (are : AreReduced net edges) where
  pub count : length edges ≡ length net.bounds
  count = sym (length-map edges (λ (e : Edge). Some e)) ∙ ap length are ∙ length-map net.bounds (reduced_edge net)

  pub at : (k : ℕ) (d : Bound) (e : Edge) → k < length edges → reduced_edge net (get_or net.bounds k d) ≡ Some (get_or edges k e)
  at k d e inside =
      let size = count in
      let left : get_or (map (λ (x : Edge). Some x) edges) k None ≡ Some (get_or edges k e) = get_or-map (λ (x : Edge). Some x) edges k e None inside in
      let right : get_or (map (reduced_edge net) net.bounds) k None ≡ reduced_edge net (get_or net.bounds k d) = get_or-map (reduced_edge net) net.bounds k d None (omega (arith, size, inside)) in
      sym right ∙ ap (λ (os : List (Option Edge)). get_or os k None) (sym are) ∙ left

  pub reduced_at : (k : ℕ) (e : Edge) → k < length edges → (bound : Bound) × Contains net.bounds bound × IsReduced net bound (get_or edges k e)
  reduced_at k e inside =
      let size = count in
      let d : Bound = record { name = []; from = e.from; to = e.to; most = pos 0 } in
      let bound = get_or net.bounds k d in
      let within : k < length net.bounds = omega (arith, size, inside) in
      (bound, (k, within, get_or_default net.bounds k bound d within), reduced_sound net plan bound (get_or edges k e) (plan.bounds_sound k d within) (at k d e inside))

  pub edges_hold : (schedule : List ℕ) → KeepsReduced net schedule → All (HoldsIn schedule) edges
  edges_hold schedule keeps k e inside =
      let (bound, declared, reduced) = reduced_at k e inside in
      keeps bound (get_or edges k e) declared reduced

  pub keeps_edges : (schedule : List ℕ) → All (HoldsIn schedule) edges → KeepsReduced net schedule
  keeps_edges schedule holds bound edge declared reduced =
      let (k, within, is) = declared in
      let size = count in
      let same : Some (get_or edges k edge) ≡ Some edge = sym (at k bound edge (omega (arith, size, within))) ∙ ap (reduced_edge net) is ∙ found net plan bound edge reduced in
      subst (HoldsIn schedule) (same_Some (get_or edges k edge) edge same) (holds k edge (omega (arith, size, within)))

  pub edges_within : AreWithin (length net.points) edges
  edges_within k e inside =
      let (bound, declared, reduced) = reduced_at k e inside in
      ((root_executable net bound.from reduced.from_chain (get_or edges k e).from reduced.from).0, (root_executable net bound.to reduced.to_chain (get_or edges k e).to reduced.to).0)

  pub moments_least : HasRoots net → (moments : List ℕ) → AreLeast (length net.points) edges moments → IsLeastStrongSchedule net (executed_in net moments)
  moments_least roots moments least =
      law_least_kept_is_least net moments plan roots (keeps_edges moments least.keep) (λ other keeps point executable. least.least other (edges_hold other keeps) point executable.0)

pub has_reduced : (net : Plan) → IsPlan net → HasRoots net → (bound : Bound) → IsBound net bound → IsSome (reduced_edge net bound)
has_reduced net plan roots bound sound =
    let (c, r, from) = roots bound.from sound.from_point in
    let (d, s, to) = roots bound.to sound.to_point in
    ap is_some (found net plan bound (record { from = r; to = s; label = None; weight = reduced_weight bound.most c d }) (record { from_chain = c; to_chain = d; from = from; to = to; ordinary = refl; weight = refl }))
