-- A dynamic execution strategy unfolds to a tree: at each moment one case for each situation that what was seen leaves.
use Rattle.std.proofs.Common.{◌≡◌, ◌⊎◌, ℕ, zero, suc, ◌+◌, ◌<◌, ◌≤◌, max, Bool, true, false, cond, List, [], ◌∷◌, Option, Some, None, length, map, is_some, is_none, refl, ap, sym, ◌∙◌, subst, arith, inl, inr}
use Rattle.std.specs.Prelude.{filter, ◌==◌}
use Rattle.std.specs.List.{slice_index}
use Rattle.std.specs.Cmp.Lexicographic.{pointwise, pointwise_decides}
use Rattle.std.proofs.lemmas.Bool.{eqb-true, eq-eqb, cases_lt, and_parts, and_from, true≢false}
use Rattle.std.proofs.lemmas.List.Elements.{filter_agree}
use Rattle.std.proofs.lemmas.List.{get_or_past}
use Rattle.net_model.specs.Network.{Plan, IsPlan, IsPoint, activation}
use Rattle.net_model.specs.declared.ids.PointId.{PointId}
use Rattle.strategy_model.specs.Situations.{IsSituation, moment_in}
use Rattle.strategy_model.specs.Plays.{PartialSchedule, same_point, moment_so_far, at_moment, points_of, may_act, case_for}
use Rattle.strategy_model.specs.InstantPlays.{instant_from}
use Rattle.strategy_model.specs.Dispatch.{SameCompletions, IsDynamic}
use Rattle.strategy_model.specs.DispatchLaws.{DynamicStrategiesAreTrees}
use Rattle.strategy_model.specs.declared.tree.Case.{Case}
use Rattle.strategy_model.specs.declared.tree.Tree.{Tree, Leaf, Node}
use Rattle.strategy_model.proofs.MomentLemmas.{same_from_test, test_from_same, same_points, passes_test}
use Rattle.strategy_model.proofs.PlayLemmas.{and_moment, link_sound}
use Rattle.strategy_model.proofs.CompareLemmas.{beyond}
use Rattle.strategy_model.proofs.InstantLemmas.{from_as_instant}
use Rattle.strategy_model.proofs.TreeLemmas.{case_taken}
use Rattle.strategy_model.proofs.KindLemmas.{Ending, ending_known}
use Rattle.strategy_model.proofs.SituationLemmas.{Among, among_kept, from_kept, situations_of, has_situation, are_situations}
use Rattle.strategy_model.proofs.InstantLemmas.{from_as_instant}
use Rattle.strategy_model.proofs.KnownLemmas.{Known, comes_seen, comes_acted, seen_in, acts_in, given, some_from_none, same_tests, completed_is, known_after, acts_allowed, made_of_known}

-- the greatest number of a list
greatest_of : List ℕ → ℕ
greatest_of [] = 0
greatest_of (x ∷ xs) = max x (greatest_of xs)

at_most_greatest : (xs : List ℕ) (k : ℕ) → slice_index xs k ≤ greatest_of xs
unfolding greatest_of
at_most_greatest [] k = let past : slice_index [] k ≡ 0 = get_or_past {X = ℕ} [] k 0 (omega arith) in omega (arith, past)
at_most_greatest (x ∷ xs) zero = omega arith
at_most_greatest (x ∷ xs) (suc k) = let rest = at_most_greatest xs k in omega (arith, rest)

same_list : (xs ys : List PointId) → xs ≡ ys → pointwise same_point xs ys ≡ true
same_list xs ys same = (pointwise_decides (λ p q. (same_from_test p q, test_from_same p q)) xs ys).1 same

module _ (net : Plan) (schedule_of : List ℕ → List ℕ) where
  -- after the greatest moment of these situations
  horizon : List (List ℕ) → ℕ
  horizon [] = 0
  horizon (situation ∷ situations) = max (greatest_of (schedule_of situation)) (horizon situations)

  within_horizon : (situations : List (List ℕ)) (situation : List ℕ) → Among situations situation → (k : ℕ) → slice_index (schedule_of situation) k ≤ horizon situations
  unfolding horizon
  within_horizon [] situation among k = absurd among
  within_horizon (first ∷ situations) situation (inl here) k =
      let below = at_most_greatest (schedule_of first) k in
      subst (λ (s : List ℕ). slice_index (schedule_of s) k ≤ max (greatest_of (schedule_of first)) (horizon situations)) here (omega (arith, below))
  within_horizon (first ∷ situations) situation (inr later) k =
      let below = within_horizon situations situation later k in omega (arith, below)

  -- the situations of a list in which the same points are seen at a moment
  abbrev left_by : List (List ℕ) → ℕ → List ℕ → List (List ℕ)
  left_by situations t situation =
      filter (λ other. pointwise same_point (seen_in net (schedule_of situation) t) (seen_in net (schedule_of other) t)) situations

  -- the strategy for these situations, for a number of moments
  abbrev unfolded : ℕ → List (List ℕ) → ℕ → Tree
  unfolded zero situations t = Leaf
  unfolded (suc moments) situations t =
      Node (map (λ situation. record { seen = seen_in net (schedule_of situation) t; acts = acts_in net (schedule_of situation) t; next = unfolded moments (left_by situations t situation) (t + 1) }) situations)

  -- the case of a situation
  abbrev case_in : ℕ → List (List ℕ) → ℕ → List ℕ → Case
  case_in moments situations t situation =
      record { seen = seen_in net (schedule_of situation) t; acts = acts_in net (schedule_of situation) t; next = unfolded moments (left_by situations t situation) (t + 1) }

  -- a situation of which the case is taken
  record Taken (cases : List ℕ → Case) (situations : List (List ℕ)) (t : ℕ) (points : List PointId) : Type 0 where
    pub situation : List ℕ
    pub among : Among situations situation
    pub sees : seen_in net (schedule_of situation) t ≡ points
    pub found : case_for (map cases situations) points ≡ Some (cases situation)

  taken : (moments : ℕ) (all : List (List ℕ)) (t : ℕ) (situations : List (List ℕ)) (situation : List ℕ) → Among situations situation → Taken (case_in moments all t) situations t (seen_in net (schedule_of situation) t)
  taken moments all t [] situation among = absurd among
  taken moments all t (first ∷ situations) situation among =
      by (pointwise same_point (seen_in net (schedule_of first) t) (seen_in net (schedule_of situation) t)) refl among (taken moments all t situations situation)
    where
      points : List PointId
      points = seen_in net (schedule_of situation) t

      tried : (b : Bool) → pointwise same_point (seen_in net (schedule_of first) t) (seen_in net (schedule_of situation) t) ≡ b
          → case_for (map (case_in moments all t) (first ∷ situations)) (seen_in net (schedule_of situation) t) ≡ cond b (Some (case_in moments all t first))
          (case_for (map (case_in moments all t) situations) (seen_in net (schedule_of situation) t))
      tried b is =
          ap (λ (c : Bool). cond c (Some (case_in moments all t first)) (case_for (map (case_in moments all t) situations) (seen_in net (schedule_of situation) t))) is

      by : (b : Bool) → pointwise same_point (seen_in net (schedule_of first) t) (seen_in net (schedule_of situation) t) ≡ b → (first ≡ situation) ⊎ Among situations situation
          → (Among situations situation → Taken (case_in moments all t) situations t (seen_in net (schedule_of situation) t))
          → Taken (case_in moments all t) (first ∷ situations) t (seen_in net (schedule_of situation) t)
      by true is among rest =
          record {
            situation = first;
            among = inl refl;
            sees = same_points (seen_in net (schedule_of first) t) (seen_in net (schedule_of situation) t) is;
            found = tried true is;
          }
      by false is (inl here) rest =
          absurd (true≢false (sym (same_list (seen_in net (schedule_of first) t) (seen_in net (schedule_of situation) t) (ap (λ (s : List ℕ). seen_in net (schedule_of s) t) here)) ∙ is))
      by false is (inr later) rest =
          let found = rest later in
          record { situation = found.situation; among = inr found.among; sees = found.sees; found = tried false is ∙ found.found }

-- ---- if the same is seen
-- a contingent point that comes by a moment up to which the same points are seen comes at once in both
seen_comes : (net : Plan) (first second : List ℕ) (t : ℕ) (point : PointId) → IsPoint net point → Ending net point → ((m : ℕ) → m ≤ t → seen_in net first m ≡ seen_in net second m) → moment_in first point ≤ t
    → moment_in first point ≡ moment_in second point
seen_comes net first second t point within ending same by_then =
    let m = moment_in first point in
    let passes : comes_seen net first m point ≡ true = and_from (is_some (activation net point)) (moment_in first point == m) (some_from_none (activation net point) (ending_known net point ending)) (eq-eqb m m refl) in
    let there = given net (comes_seen net first m) 0 point within passes in
    let here : moment_so_far (at_moment 0 (seen_in net second m)) point ≡ Some 0 = subst (λ (points : List PointId). moment_so_far (at_moment 0 points) point ≡ Some 0) (same m by_then) there in
    let its = passes_test (comes_seen net second m) 0 (points_of net) point 0 here in
    sym (eqb-true (moment_in second point) m (and_parts (is_some (activation net point)) (moment_in second point == m) its).1)

pub seen_agree : (net : Plan) (first second : List ℕ) (t : ℕ) → IsPlan net → ((m : ℕ) → m ≤ t → seen_in net first m ≡ seen_in net second m) → SameCompletions net t first second
seen_agree net first second t plan same name link declared =
    let within = (link_sound net plan name.0 link declared).to_point in
    let ending : Ending net link.to = record { name = name; link = link; declared = declared; ends = refl } in
    (seen_comes net first second t link.to within ending same, λ by_then. sym (seen_comes net second first t link.to within ending (λ m before. sym (same m before)) by_then))

no_link : {A : Type 0} (o : Option A) → is_none o ≡ true → is_some o ≡ false
no_link None none = refl
no_link (Some x) none = absurd (true≢false (sym none))

module _ (net : Plan) (schedule_of : List ℕ → List ℕ) (plan : IsPlan net) (dynamic : IsDynamic net schedule_of) where
  -- if the same points were seen up to a moment, the same are executed at it
  same_acts : (first second : List ℕ) (t : ℕ) → IsSituation net first → IsSituation net second → ((m : ℕ) → m ≤ t → seen_in net (schedule_of first) m ≡ seen_in net (schedule_of second) m)
      → acts_in net (schedule_of first) t ≡ acts_in net (schedule_of second) t
  same_acts first second t is_first is_second same =
      filter_agree (comes_acted net (schedule_of first) t) (comes_acted net (schedule_of second) t) (λ point. same_tests (comes_acted net (schedule_of first) t point) (comes_acted net (schedule_of second) t point) (there point)
      (back point)) (points_of net)
    where
      at_once : (point : PointId) → is_none (activation net point) ≡ true → (moment_in (schedule_of first) point ≡ t) ⊎ (moment_in (schedule_of second) point ≡ t) → moment_in (schedule_of first) point ≡ moment_in (schedule_of second) point
      at_once point free comes =
          elim (cases_lt point.0 (length net.points)) [
            | inl within ↦
                let agree = dynamic.seen_alone first second t is_first is_second (seen_agree net (schedule_of first) (schedule_of second) t plan same) point (within, no_link (activation net point) free) in
                elim comes [ inl here ↦ agree.0 (omega (arith, here)) | inr here ↦ agree.1 (omega (arith, here)) ]
            | inr past ↦ beyond net (schedule_of first) (schedule_of second) (dynamic.complete first is_first) (dynamic.complete second is_second) point past
          ]

      there : (point : PointId) → comes_acted net (schedule_of first) t point ≡ true → comes_acted net (schedule_of second) t point ≡ true
      there point holds =
          let (free, comes) = and_parts (is_none (activation net point)) (moment_in (schedule_of first) point == t) holds in
          let now = eqb-true (moment_in (schedule_of first) point) t comes in
          and_from (is_none (activation net point)) (moment_in (schedule_of second) point == t) free (eq-eqb (moment_in (schedule_of second) point) t (sym (at_once point free (inl now)) ∙ now))

      back : (point : PointId) → comes_acted net (schedule_of second) t point ≡ true → comes_acted net (schedule_of first) t point ≡ true
      back point holds =
          let (free, comes) = and_parts (is_none (activation net point)) (moment_in (schedule_of second) point == t) holds in
          let now = eqb-true (moment_in (schedule_of second) point) t comes in
          and_from (is_none (activation net point)) (moment_in (schedule_of first) point == t) free (eq-eqb (moment_in (schedule_of first) point) t (at_once point free (inr now) ∙ now))

  abbrev AreSituations : List (List ℕ) → Type 0
  AreSituations situations = (other : List ℕ) → Among situations other → IsSituation net other

  -- in each of some situations the same is seen before a moment as in one
  abbrev SeenAlike : List (List ℕ) → ℕ → List ℕ → Type 0
  SeenAlike situations t situation = (other : List ℕ) → Among situations other → (m : ℕ) → m < t → seen_in net (schedule_of other) m ≡ seen_in net (schedule_of situation) m

  -- every point has come before a moment
  abbrev AllComeBefore : List ℕ → ℕ → Type 0
  AllComeBefore situation t = (point : PointId) → IsPoint net point → moment_in (schedule_of situation) point < t

  plays : (moments : ℕ) (situations : List (List ℕ)) (t : ℕ) (situation : List ℕ) (so_far : PartialSchedule) → Among situations situation → AreSituations situations
      → SeenAlike situations t situation → Known net (schedule_of situation) so_far t → AllComeBefore situation (t + moments)
      → instant_from (unfolded net schedule_of moments situations t) net situation so_far t ≡ Some (schedule_of situation)
  plays zero situations t situation so_far among all alike known past =
      made_of_known net (schedule_of situation) so_far t (dynamic.complete situation (all situation among)) known (λ point within. let before = past point within in omega (arith, before))
  plays (suc moments) situations t situation so_far among all alike known past =
      let schedule = schedule_of situation in
      let is_situation = all situation among in
      let took = taken net schedule_of moments situations t situations situation among in
      let its = took.situation in
      let alike_now : (m : ℕ) → m ≤ t → seen_in net (schedule_of its) m ≡ seen_in net schedule m = λ m by_then. elim (cases_lt m t) [
        | inl before ↦ alike its took.among m before
        | inr later ↦ let same : m ≡ t = omega (arith, by_then, later) in subst (λ (k : ℕ). seen_in net (schedule_of its) k ≡ seen_in net schedule k) (sym same) took.sees
      ] in
      let acts_same : acts_in net (schedule_of its) t ≡ acts_in net schedule t = same_acts its situation t (all its took.among) is_situation alike_now in
      let may : may_act net so_far (acts_in net (schedule_of its) t) ≡ true = subst (λ (acts : List PointId). may_act net so_far acts ≡ true) (sym acts_same) (acts_allowed net schedule so_far t known) in
      let seen_is = completed_is net situation schedule plan is_situation (λ name link duration. dynamic.lasting situation name link duration is_situation) so_far t known in
      let next = case_taken net situation so_far t (unfolded net schedule_of (suc moments) situations t) (map (case_in net schedule_of moments situations t) situations) refl (seen_in net schedule t) (sym seen_is)
      (case_in net schedule_of moments situations t its) took.found may in
      let kept = λ (other : List ℕ) (among' : Among (left_by net schedule_of situations t its) other). from_kept (λ other. pointwise same_point (seen_in net (schedule_of its) t) (seen_in net (schedule_of other) t)) situations other
      among' in
      let rest = plays moments (left_by net schedule_of situations t its) (t + 1) situation (and_moment so_far t (seen_in net schedule t) (acts_in net schedule t))
      (among_kept (λ other. pointwise same_point (seen_in net (schedule_of its) t) (seen_in net (schedule_of other) t)) situations situation among
      (same_list (seen_in net (schedule_of its) t) (seen_in net schedule t) took.sees)) (λ other among'. all other (kept other among').0) (λ other among' m before. elim (cases_lt m t) [
        | inl earlier ↦ alike other (kept other among').0 m earlier
        | inr now ↦
            let same : m ≡ t = omega (arith, before, now) in
            let seen_same = same_points (seen_in net (schedule_of its) t) (seen_in net (schedule_of other) t) (kept other among').1 in
            subst (λ (k : ℕ). seen_in net (schedule_of other) k ≡ seen_in net schedule k) (sym same) (sym seen_same ∙ took.sees)
      ]) (known_after net situation schedule plan is_situation (λ name link duration. dynamic.lasting situation name link duration is_situation) so_far t known) (λ point within. let before = past point within in omega (arith, before)) in
      next ∙ ap (λ (acts : List PointId). instant_from (unfolded net schedule_of moments (left_by net schedule_of situations t its) (t + 1)) net situation (and_moment so_far t (seen_in net schedule t) acts) (t + 1)) acts_same ∙ rest

pub law_dynamic_strategies_are_trees : DynamicStrategiesAreTrees
law_dynamic_strategies_are_trees net schedule_of instant dynamic =
    let situations = situations_of net in
    let moments = suc (horizon net schedule_of situations) in (
      unfolded net schedule_of moments situations 0,
      λ situation is_situation.
          let among = has_situation net situation instant.sound is_situation in
          from_as_instant net (unfolded net schedule_of moments situations 0) situation (schedule_of situation) instant
          (plays net schedule_of instant.sound dynamic moments situations 0 situation [] among (λ other among'. are_situations net other instant.sound among') (λ other among' m before. absurd (omega (arith, before)))
          (record { before = λ point within before. absurd (omega (arith, before)); not_yet = λ point within later. refl })
          (λ point within. let below = within_horizon net schedule_of situations situation among point.0 in omega (arith, below))),
    )
