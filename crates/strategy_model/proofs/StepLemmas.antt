-- A step of a loop over a list, for the definitions that go down it.
use Rattle.std.proofs.Common.{◌≡◌, ℕ, min, map, take, ◌++◌, refl, arith, append_assoc, ◌+◌, ◌<◌, ◌≤◌, ◌&&◌, ◌||◌, not, Bool, true, false, cond, List, [], ◌∷◌, length, drop, get_or, Option, Some, None, sym, ap, subst, ◌∙◌}
use Rattle.std.specs.Prelude.{nat_lt, is_none, slice_get, filter}
use Rattle.std.specs.List.{list_any, range_with_len}
use Rattle.std.specs.Option.{option_map}
use Rattle.std.proofs.Math.ListN.{drop_of_length-le}
use Rattle.std.proofs.Math.Seq.{take-length}
use Rattle.std.specs.Cmp.Lexicographic.{pointwise}
use Rattle.std.proofs.lemmas.Bool.{cond-true, cond-false, or_left}
use Rattle.std.proofs.lemmas.List.{drop_more, length-map, length-drop, append-nil}
use Rattle.std.proofs.lemmas.List.Elements.{filter_more}
use Rattle.std.proofs.lemmas.List.FromFn.{length-range_with_len}
use Rattle.std.proofs.lemmas.Option.{get_or_from_slice_get}
use Rattle.net_model.specs.Network.{Plan, activation}
use Rattle.net_model.specs.declared.ids.PointId.{PointId}
use Rattle.net_model.specs.declared.part.Link.{Link}
use Rattle.strategy_model.specs.Plays.{PartialSchedule, same_point, moment_so_far, points_of, all_some, may_act, case_for}
use Rattle.strategy_model.specs.InstantPlays.{completes, is_completed}
use Rattle.strategy_model.specs.declared.tree.Case.{Case}
use Rattle.strategy_model.proofs.MomentLemmas.{point_at}

-- the next of a list
next_of : {A : Type 0} (xs : List A) (i : ℕ) (x : A) → i < length xs → x ≡ get_or xs i x → drop i xs ≡ x ∷ drop (i + 1) xs
next_of xs i x within is = drop_more xs i x within ∙ ap (λ y. y ∷ drop (i + 1) xs) (sym is)

pub case_found : (cases : List Case) (i : ℕ) (case : Case) (points : List PointId) → i < length cases → case ≡ get_or cases i case → pointwise same_point case.seen points ≡ true → case_for (drop i cases) points ≡ Some case
case_found cases i case points within is passes =
    ap (λ (cs : List Case). case_for cs points) (next_of cases i case within is) ∙ cond-true (pointwise same_point case.seen points) (Some case) (case_for (drop (i + 1) cases) points) passes

pub case_passed : (cases : List Case) (i : ℕ) (case : Case) (points : List PointId) → i < length cases → case ≡ get_or cases i case → pointwise same_point case.seen points ≡ false
    → case_for (drop i cases) points ≡ case_for (drop (i + 1) cases) points
case_passed cases i case points within is fails =
    ap (λ (cs : List Case). case_for cs points) (next_of cases i case within is) ∙ cond-false (pointwise same_point case.seen points) (Some case) (case_for (drop (i + 1) cases) points) fails

-- the next link and its duration
module _ (so_far : PartialSchedule) (t : ℕ) (links : List Link) (durations : List ℕ) (point : PointId) (i : ℕ) (link : Link) (duration : ℕ) where
  pub completion_found : i < length links → i < length durations
      → link ≡ get_or links i link → duration ≡ get_or durations i duration → (same_point link.to point && completes so_far t link duration) ≡ true
      → is_completed so_far t (drop i links) (drop i durations) point ≡ true
  completion_found link_within within link_is is completes_now =
      ap (λ (ls : List Link). is_completed so_far t ls (drop i durations) point) (next_of links i link link_within link_is)
      ∙ ap (λ (ds : List ℕ). is_completed so_far t (link ∷ drop (i + 1) links) ds point) (next_of durations i duration within is)
      ∙ or_left (same_point link.to point && completes so_far t link duration) (is_completed so_far t (drop (i + 1) links) (drop (i + 1) durations) point) completes_now

  pub completion_passed : i < length links → i < length durations
      → link ≡ get_or links i link → duration ≡ get_or durations i duration → (same_point link.to point && completes so_far t link duration) ≡ false
      → is_completed so_far t (drop i links) (drop i durations) point ≡ is_completed so_far t (drop (i + 1) links) (drop (i + 1) durations) point
  completion_passed link_within within link_is is fails =
      ap (λ (ls : List Link). is_completed so_far t ls (drop i durations) point) (next_of links i link link_within link_is)
      ∙ ap (λ (ds : List ℕ). is_completed so_far t (link ∷ drop (i + 1) links) ds point) (next_of durations i duration within is)
      ∙ ap (λ (b : Bool). b || is_completed so_far t (drop (i + 1) links) (drop (i + 1) durations) point) fails

-- whether the first of some acts may be executed
abbrev pub may_act_first : Plan → PartialSchedule → PointId → List PointId → Bool
may_act_first net so_far act rest =
    nat_lt act.0 (length net.points) && is_none (activation net act) && is_none (moment_so_far so_far act) && not (list_any (same_point act) rest)

pub act_passed : (net : Plan) (so_far : PartialSchedule) (acts : List PointId) (i : ℕ) (act : PointId) → i < length acts → act ≡ get_or acts i act → may_act_first net so_far act (drop (i + 1) acts) ≡ true
    → may_act net so_far (drop i acts) ≡ may_act net so_far (drop (i + 1) acts)
act_passed net so_far acts i act within is passes =
    ap (may_act net so_far) (next_of acts i act within is) ∙ ap (λ (b : Bool). b && may_act net so_far (drop (i + 1) acts)) passes

pub act_refused : (net : Plan) (so_far : PartialSchedule) (acts : List PointId) (i : ℕ) (act : PointId) → i < length acts → act ≡ get_or acts i act → may_act_first net so_far act (drop (i + 1) acts) ≡ false
    → may_act net so_far (drop i acts) ≡ false
act_refused net so_far acts i act within is fails =
    ap (may_act net so_far) (next_of acts i act within is) ∙ ap (λ (b : Bool). b && may_act net so_far (drop (i + 1) acts)) fails

-- beyond the links or the durations nothing is completed
pub completion_none : (so_far : PartialSchedule) (t : ℕ) (links : List Link) (durations : List ℕ) (point : PointId) (n : ℕ) → n ≡ min (length links) (length durations) → is_completed so_far t (drop n links) (drop n durations) point ≡ false
completion_none so_far t links durations point n whole = go (drop n links) (drop n durations) (omega (arith, length-drop n links, length-drop n durations))
  where
    go : (ls : List Link) (ds : List ℕ) → min (length ls) (length ds) ≡ 0 → is_completed so_far t ls ds point ≡ false
    go [] ds none = refl
    go (l ∷ ls) [] none = refl
    go (l ∷ ls) (d ∷ ds) none = absurd (omega (arith, none))

pub points_length : (net : Plan) → length (points_of net) ≡ length net.points
points_length net =
    length-map (range_with_len 0 (length net.points)) (λ (k : ℕ). let point : PointId = record { 0 = k } in point) ∙ length-range_with_len 0 (length net.points)

-- the next point of a network
pub next_point : (net : Plan) (k : ℕ) → k < length net.points → (point : PointId) → point.0 ≡ k → drop k (points_of net) ≡ point ∷ drop (k + 1) (points_of net)
next_point net k within point is =
    let here : slice_get (points_of net) k ≡ Some point = subst (λ (i : ℕ). slice_get (points_of net) i ≡ Some point) is (point_at net point (omega arith)) in
    let size = points_length net in
    next_of (points_of net) k point (omega arith) (sym (get_or_from_slice_get (points_of net) k point point here))

pub made_missing : (net : Plan) (so_far : PartialSchedule) (k : ℕ) → k < length net.points → (point : PointId) → point.0 ≡ k → moment_so_far so_far point ≡ None → all_some (map (moment_so_far so_far) (drop k (points_of net))) ≡ None
made_missing net so_far k within point is missing =
    ap (λ (points : List PointId). all_some (map (moment_so_far so_far) points)) (next_point net k within point is) ∙ ap (λ (o : Option ℕ). all_some (o ∷ map (moment_so_far so_far) (drop (k + 1) (points_of net)))) missing

after_one : (items : List ℕ) (m : ℕ) (rest : Option (List ℕ)) → option_map (λ xs. items ++ xs) (option_map (λ xs. m ∷ xs) rest) ≡ option_map (λ xs. (items ++ m ∷ []) ++ xs) rest
after_one items m None = refl
after_one items m (Some xs) = ap (λ (ys : List ℕ). Some ys) (sym (append_assoc items (m ∷ []) xs))

pub made_more : (net : Plan) (so_far : PartialSchedule) (items : List ℕ) (k m : ℕ) → k < length net.points → (point : PointId) → point.0 ≡ k → moment_so_far so_far point ≡ Some m
    → option_map (λ xs. items ++ xs) (all_some (map (moment_so_far so_far) (drop k (points_of net)))) ≡ option_map (λ xs. (items ++ m ∷ []) ++ xs)
    (all_some (map (moment_so_far so_far) (drop (k + 1) (points_of net))))
made_more net so_far items k m within point is found =
    let rest = all_some (map (moment_so_far so_far) (drop (k + 1) (points_of net))) in
    ap (λ (points : List PointId). option_map (λ xs. items ++ xs) (all_some (map (moment_so_far so_far) points))) (next_point net k within point is)
    ∙ ap (λ (o : Option ℕ). option_map (λ xs. items ++ xs) (all_some (o ∷ map (moment_so_far so_far) (drop (k + 1) (points_of net))))) found ∙ after_one items m rest

pub made_whole : (net : Plan) (so_far : PartialSchedule) (items : List ℕ) (k : ℕ) → length net.points ≤ k → option_map (λ xs. items ++ xs) (all_some (map (moment_so_far so_far) (drop k (points_of net)))) ≡ Some items
made_whole net so_far items k past =
    let size = points_length net in
    let none : drop k (points_of net) ≡ [] = drop_of_length-le (points_of net) (omega arith) in
    ap (λ (points : List PointId). option_map (λ xs. items ++ xs) (all_some (map (moment_so_far so_far) points))) none ∙ ap (λ (xs : List ℕ). Some xs) (append-nil items)

-- the points that are completed, by one more point
completed_more : (test : PointId → Bool) (net : Plan) (k : ℕ) → k < length net.points → (point : PointId) → point.0 ≡ k → filter test (take (k + 1) (points_of net)) ≡ filter test (take k (points_of net)) ++ cond (test point) (point ∷ []) []
completed_more test net k within point is =
    let here : slice_get (points_of net) k ≡ Some point = subst (λ (i : ℕ). slice_get (points_of net) i ≡ Some point) is (point_at net point (omega arith)) in
    let size = points_length net in
    let read : get_or (points_of net) k point ≡ point = get_or_from_slice_get (points_of net) k point point here in
    filter_more test (points_of net) k point (omega arith) ∙ ap (λ (p : PointId). filter test (take k (points_of net)) ++ cond (test p) (p ∷ []) []) read

pub completed_with : (test : PointId → Bool) (net : Plan) (k : ℕ) → k < length net.points → (point : PointId) → point.0 ≡ k → test point ≡ true
    → filter test (take (k + 1) (points_of net)) ≡ filter test (take k (points_of net)) ++ point ∷ []
completed_with test net k within point is passes =
    completed_more test net k within point is ∙ ap (λ (points : List PointId). filter test (take k (points_of net)) ++ points) (cond-true (test point) (point ∷ []) [] passes)

pub completed_without : (test : PointId → Bool) (net : Plan) (k : ℕ) → k < length net.points → (point : PointId) → point.0 ≡ k → test point ≡ false → filter test (take (k + 1) (points_of net)) ≡ filter test (take k (points_of net))
completed_without test net k within point is fails =
    completed_more test net k within point is ∙ ap (λ (points : List PointId). filter test (take k (points_of net)) ++ points) (cond-false (test point) (point ∷ []) [] fails) ∙ append-nil (filter test (take k (points_of net)))

pub completed_whole : (test : PointId → Bool) (net : Plan) (k : ℕ) → k ≡ length net.points → filter test (take k (points_of net)) ≡ filter test (points_of net)
completed_whole test net k whole =
    let size = points_length net in
    let same : k ≡ length (points_of net) = omega arith in
    ap (filter test) (ap (λ (n : ℕ). take n (points_of net)) same ∙ take-length (points_of net))
