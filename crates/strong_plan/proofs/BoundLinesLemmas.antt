-- The certificate of a loop of reduced edges is accepted.
use Rattle.std.proofs.Common.{◌≡◌, ℕ, ◌+◌, ◌<◌, ℤ, pos, ◌+ℤ◌, ◌<ℤ◌, Bool, true, List, [], ◌∷◌, Some, Ok, map, length, get_or, is_some, refl, ap, sym, subst, ◌∙◌, arith, Option}
use Rattle.std.specs.List.{AllByRecursion}
use Rattle.std.specs.Prelude.{slice_get, nat_le, int_le, int_lt, unsigned_abs}
use Rattle.std.specs.Str.{bytes_eq}
use Rattle.std.proofs.lemmas.Int.{ints}
use Rattle.std.proofs.lemmas.Bool.{le-leb}
use Rattle.std.proofs.lemmas.Option.{slice_get-get_or}
use Rattle.std.specs.Option.{option_map_or, option_and_then}
use Rattle.net_model.specs.Limits.{most_weight}
use Rattle.net_model.specs.Network.{Plan, IsPlan, point_named, bound_named}
use Rattle.net_model.specs.NetworkParts.{point_name}
use Rattle.net_model.specs.declared.ids.PointId.{PointId}
use Rattle.net_model.specs.declared.part.Bound.{Bound}
use Rattle.net_model.specs.declared.part.Edge.{Edge}
use Rattle.net_model.specs.declared.ids.BoundId.{BoundId}
use Rattle.strategy_model.specs.Edges.{IsWalk, total}
use Rattle.cert_format.specs.JudgementForms.{◌>>=◌, unless}
use Rattle.cert_format.specs.declared.strong_cert.StrongLine.{StrongLine}
use Rattle.cert_checker.specs.Lines.{Passes, bound_of, names_point}
use Rattle.cert_checker.specs.declared.judgement.CertFault.TheVariants.{WalkBroken, WalkNotNegative}
use Rattle.cert_checker.proofs.CertificateNames.{bytes_same}
use Rattle.cert_checker.proofs.PartNames.{named_point, has_name, named_bound}
use Rattle.earliest_times.specs.Rounds.{edge_at_place, no_edge}
use Rattle.strong_plan.specs.Numbers.{HasShownNumbers}
use Rattle.strong_plan.specs.ReducedEdges.{reduced_edge}
use Rattle.strong_plan.specs.Judgement.{AllPass, refusal, refused_at_place, bound_line_passes, bound_lines_pass, lines_return_to, total_of, strong_walk_passes, cert_passes}
use Rattle.strong_plan.specs.Answers.{AreReduced, reduced_line, lines_at}
use Rattle.strong_plan.proofs.StrongLemmas.{root_executable}
use Rattle.strong_plan.proofs.SizeLemmas.{reduced_size}
use Rattle.strong_plan.proofs.EdgesLemmas.{count, at, reduced_at}

-- a line passes if each of its tests does
line_ok : (net : Plan) (line : StrongLine) (bound : Bound) (edge : Edge) → is_some (point_named net line.from) ≡ true → is_some (point_named net line.to) ≡ true → bound_of net line.bound ≡ Some bound
    → nat_le (unsigned_abs line.weight) most_weight ≡ true → reduced_edge net bound ≡ Some edge → names_point net line.from edge.from ≡ true → names_point net line.to edge.to ≡ true → int_le edge.weight line.weight ≡ true
    → bound_line_passes net line ≡ Ok tt
unfolding bound_line_passes
line_ok net line bound edge from to declared range reduced begins ends least = rw (from, to, declared, range, reduced, begins, ends, least) refl

least_itself : (w : ℤ) → int_le w w ≡ true
least_itself w = grind (arith, ints)

below_zero : (w : ℤ) → w <ℤ pos 0 → int_lt w (pos 0) ≡ true
below_zero w less = grind (arith, ints, less)

-- the name of a bound stands for it
bound_known : (net : Plan) → IsPlan net → (place : ℕ) (bound : Bound) → slice_get net.bounds place ≡ Some bound → bound_of net (option_map_or (λ (b : Bound). b.name) (slice_get net.bounds place) []) ≡ Some bound
bound_known net plan place bound here =
    let name : option_map_or (λ (b : Bound). b.name) (slice_get net.bounds place) [] ≡ bound.name = ap (λ (o : Option Bound). option_map_or (λ (b : Bound). b.name) o []) here in
    let named : bound_named net bound.name ≡ Some (record { 0 = place }) = named_bound net plan (record { 0 = place }) bound here in
    ap (λ (o : Option BoundId). option_and_then (λ (b : BoundId). slice_get net.bounds b.0) o) (ap (bound_named net) name ∙ named) ∙ here

module _ (net : Plan) (plan : IsPlan net) (numbers : HasShownNumbers net) (edges : List Edge) (are : AreReduced net edges) where
  abbrev name_of : PointId → List ℕ
  name_of point = point_name net.points point

  abbrev line_at : ℕ → StrongLine
  line_at place = reduced_line net place (edge_at_place edges place)

  pub passes_at : (place : ℕ) → place < length edges → bound_line_passes net (line_at place) ≡ Ok tt
  passes_at place inside =
      let (bound, declared, reduced) = reduced_at net plan edges are place no_edge inside in
      let edge = edge_at_place edges place in
      let from = (root_executable net bound.from reduced.from_chain edge.from reduced.from).0 in
      let to = (root_executable net bound.to reduced.to_chain edge.to reduced.to).0 in
      let size = count net plan edges are in
      let there : slice_get net.bounds place ≡ Some (get_or net.bounds place bound) = slice_get-get_or net.bounds place bound (omega (arith, size, inside)) in
      let range : nat_le (unsigned_abs edge.weight) most_weight ≡ true = le-leb (unsigned_abs edge.weight) most_weight (reduced_size net plan numbers bound edge declared reduced) in
      line_ok net (line_at place) (get_or net.bounds place bound) edge (ap is_some (named_point net plan edge.from from)) (ap is_some (named_point net plan edge.to to)) (bound_known net plan place (get_or net.bounds place bound) there)
      range (at net plan edges are place bound no_edge inside) (has_name net plan edge.from from) (has_name net plan edge.to to) (least_itself edge.weight)

  all_pass : (places : List ℕ) (n : ℕ) → AllByRecursion (λ place. place < length edges) places → bound_lines_pass net n (lines_at net edges places) ≡ Ok tt
  all_pass [] n within = refl
  all_pass (place ∷ places) n within =
      ap (λ (own : Passes). refused_at_place n own >>= (λ _. bound_lines_pass net (n + 1) (lines_at net edges places))) (passes_at place within.0) ∙ all_pass places (n + 1) within.1

  same_name : (one other : PointId) → one ≡ other → bytes_eq (name_of one) (name_of other) ≡ true
  same_name one other same = bytes_same (name_of one) (name_of other) (ap name_of same)

  returns : (place : ℕ) (places : List ℕ) (n : ℕ) (from to : PointId) → IsWalk from (map (edge_at_place edges) (place ∷ places)) to → lines_return_to (name_of to) n (line_at place) (lines_at net edges places) ≡ Ok tt
  returns place [] n from to walk =
      ap (λ (b : Bool). unless b (refusal n WalkBroken)) (same_name (edge_at_place edges place).to to walk.1)
  returns place (next ∷ places) n from to walk =
      ap (λ (b : Bool). unless b (refusal (n + 1) WalkBroken) >>= (λ _. lines_return_to (name_of to) (n + 1) (line_at next) (lines_at net edges places))) (same_name (edge_at_place edges next).from (edge_at_place edges place).to walk.1.0)
      ∙ returns next places (n + 1) (edge_at_place edges place).to to walk.1

  totals : (places : List ℕ) → total_of (lines_at net edges places) ≡ total (map (edge_at_place edges) places)
  totals [] = refl
  totals (place ∷ places) = ap (λ (sum : ℤ). (edge_at_place edges place).weight +ℤ sum) (totals places)

  pub walk_ok : (places : List ℕ) (point : PointId) → 0 < length places → IsWalk point (map (edge_at_place edges) places) point → total (map (edge_at_place edges) places) <ℤ pos 0 → strong_walk_passes (lines_at net edges places) ≡ Ok tt
  walk_ok [] point some walk negative = absurd (omega (arith, some))
  walk_ok (place ∷ places) point some walk negative =
      let lines = lines_at net edges (place ∷ places) in
      let sum = totals (place ∷ places) in
      let end = unless (int_lt (total_of lines) (pos 0)) (refusal (1 + length (lines_at net edges places)) (WalkNotNegative (total_of lines))) in
      let closed : lines_return_to (name_of (edge_at_place edges place).from) 1 (line_at place) (lines_at net edges places) ≡ Ok tt = ap (λ (p : PointId). lines_return_to (name_of p) 1 (line_at place) (lines_at net edges places)) walk.0
      ∙ returns place places 1 point point walk in
      ap (λ (r : AllPass). r >>= (λ _. end)) closed
      ∙ ap (λ (b : Bool). unless b (refusal (1 + length (lines_at net edges places)) (WalkNotNegative (total_of lines)))) (below_zero (total_of lines) (subst (λ (w : ℤ). w <ℤ pos 0) (sym sum) negative))

  pub bounds_pass : (places : List ℕ) (point : PointId) → 0 < length places → AllByRecursion (λ place. place < length edges) places → IsWalk point (map (edge_at_place edges) places) point → total (map (edge_at_place edges) places) <ℤ pos 0
      → cert_passes net (lines_at net edges places) [] ≡ Ok tt
  bounds_pass places point some within walk negative =
      ap (λ (r : AllPass). r >>= (λ _. strong_walk_passes (lines_at net edges places))) (all_pass places 1 within) ∙ walk_ok places point some walk negative
