-- Plays of a network are plays of its shown form, as they are shown.
use Rattle.std.proofs.Common.{◌≡◌, ℕ, suc, ◌+◌, ◌-◌, ◌≤◌, ◌&&◌, Bool, true, false, cond, List, [], ◌∷◌, ◌++◌, length, map, filter, Option, Some, None, inl, inr, is_none, is_some, refl, sym, ap, subst, ◌∙◌, arith}
use Rattle.std.specs.Prelude.{slice_get, ◌==◌, ◌||◌, nat_lt, not}
use Rattle.std.specs.List.{list_any}
use Rattle.std.specs.Option.{option_map}
use Rattle.std.specs.Cmp.Lexicographic.{pointwise}
use Rattle.std.proofs.lemmas.Bool.{eqb-true, and_parts, or_cases, false≢true, true≢false}
use Rattle.std.proofs.lemmas.List.{map-append}
use Rattle.std.proofs.lemmas.List.Elements.{filter_agree}
use Rattle.net_model.proofs.Positions.{position-map}
use Rattle.net_model.specs.Network.{Plan, activation}
use Rattle.net_model.specs.declared.ids.PointId.{PointId}
use Rattle.net_model.specs.declared.ids.LinkId.{LinkId}
use Rattle.net_model.specs.declared.part.Link.{Link}
use Rattle.strategy_model.specs.declared.tree.Tree.{Tree, Leaf, Node', Row_of-Case, end_of-Case, more_of-Case}
use Rattle.strategy_model.proofs.MomentLemmas.{same_from_test, same_points, contingent}
use Rattle.strategy_model.specs.Plays.{PartialSchedule, same_point, moment_so_far, at_moment, points_of, may_act, all_some, shows, is_shown, shown, play_from, play_cases}
use Rattle.strategy_model.specs.InstantPlays.{completes, is_completed, completed, instant_from, instant_cases}
use Rattle.net_model.specs.ShownForm.{lag, gain, shown_link, shown_form, shown_durations, shown_situation}
use Rattle.strategy_model.specs.ShownSchedules.{shown_moments, shown_schedule}
use Rattle.strategy_model.specs.ShownLaws.{PlaysAreShown}
use Rattle.strategy_model.proofs.InstantLemmas.{law_no_delay_is_instant}

module _ (net : Plan) where
  -- the shown form has the same contingent points
  pub activation_shown : (point : PointId) → activation (shown_form net) point ≡ activation net point
  activation_shown point =
      ap (option_map (λ k. let name : LinkId = record { 0 = k } in name)) (position-map (λ (l : Link). l.to.0 == point.0) (shown_link net) net.links)

  -- an entry as it is shown
  abbrev pub show : PointId × ℕ → PointId × ℕ
  show entry = (entry.0, entry.1 + lag net entry.0)

  head_shown : (b : Bool) (q p : PointId) (u : ℕ) (x y : Option ℕ) → (b ≡ true → q ≡ p) → x ≡ option_map (λ m. m + lag net p) y
      → cond b (Some (u + lag net q)) x ≡ option_map (λ m. m + lag net p) (cond b (Some u) y)
  head_shown true q p u x y same rest = ap (λ (r : PointId). Some (u + lag net r)) (same refl)
  head_shown false q p u x y same rest = rest

  -- the moment of a point among entries as they are shown
  pub moment_shown : (so_far : PartialSchedule) (point : PointId) → moment_so_far (map show so_far) point ≡ option_map (λ m. m + lag net point) (moment_so_far so_far point)
  moment_shown [] point = refl
  moment_shown (entry ∷ so_far) point =
      head_shown (same_point entry.0 point) entry.0 point entry.1 (moment_so_far (map show so_far) point) (moment_so_far so_far point) (same_from_test entry.0 point) (moment_shown so_far point)

  abbrev comes_at : ℕ → ℕ → Option ℕ → Bool
  comes_at duration t o = elim o [ Some a ↦ (a + duration) == t | None ↦ false ]

  abbrev comes_late : ℕ → ℕ → Option ℕ → Bool
  comes_late duration t o = elim o [ Some a ↦ (a + duration + net.delay) == t | None ↦ false ]

  sums : (a d t : ℕ) (b : Bool) → (((a + cond b net.delay 0) + (d + cond b 0 net.delay)) == t) ≡ ((a + d + net.delay) == t)
  sums a d t true = ap (λ (n : ℕ). n == t) (omega arith)
  sums a d t false = ap (λ (n : ℕ). n == t) (omega arith)

  -- a link completes in the shown form if it is shown
  completes_shown : (so_far : PartialSchedule) (t : ℕ) (link : Link) (duration : ℕ)
      → completes (map show so_far) t (shown_link net link) (duration + gain net link) ≡ shows net so_far t link duration
  completes_shown so_far t link duration =
      ap (comes_at (duration + gain net link) t) (moment_shown so_far link.from) ∙ by (moment_so_far so_far link.from)
    where
      by : (o : Option ℕ) → comes_at (duration + gain net link) t (option_map (λ m. m + lag net link.from) o) ≡ comes_late duration t o
      by None = refl
      by (Some a) = sums a duration t (is_some (activation net link.from))

  is_completed_shown : (so_far : PartialSchedule) (t : ℕ) (links : List Link) (durations : List ℕ) (point : PointId)
      → is_completed (map show so_far) t (map (shown_link net) links) (shown_durations net links durations) point ≡ is_shown net so_far t links durations point
  is_completed_shown so_far t [] durations point = refl
  is_completed_shown so_far t (link ∷ links) [] point = refl
  is_completed_shown so_far t (link ∷ links) (duration ∷ durations) point =
      ap (λ (b : Bool). (same_point link.to point && b) || is_completed (map show so_far) t (map (shown_link net) links) (shown_durations net links durations) point) (completes_shown so_far t link duration)
      ∙ ap (λ (b : Bool). (same_point link.to point && shows net so_far t link duration) || b) (is_completed_shown so_far t links durations point)

  -- the points that are completed in the shown form are those that are shown
  pub completed_shown : (situation : List ℕ) (so_far : PartialSchedule) (t : ℕ)
      → completed (shown_form net) (shown_situation net situation) (map show so_far) t ≡ shown net situation so_far t
  completed_shown situation so_far t =
      filter_agree (is_completed (map show so_far) t (map (shown_link net) net.links) (shown_situation net situation)) (is_shown net so_far t net.links situation)
      (is_completed_shown so_far t net.links situation) (points_of net)

  unknown_shown : (so_far : PartialSchedule) (point : PointId) → is_none (moment_so_far (map show so_far) point) ≡ is_none (moment_so_far so_far point)
  unknown_shown so_far point = ap is_none (moment_shown so_far point) ∙ by (moment_so_far so_far point)
    where
      by : (o : Option ℕ) → is_none (option_map (λ m. m + lag net point) o) ≡ is_none o
      by None = refl
      by (Some m) = refl

  -- the same points may be executed
  pub may_act_shown : (so_far : PartialSchedule) (acts : List PointId) → may_act (shown_form net) (map show so_far) acts ≡ may_act net so_far acts
  may_act_shown so_far [] = refl
  may_act_shown so_far (act ∷ acts) =
      ap (λ (o : Option LinkId). nat_lt act.0 (length net.points) && is_none o && is_none (moment_so_far (map show so_far) act) && not (list_any (same_point act) acts) && may_act (shown_form net) (map show so_far) acts)
      (activation_shown act)
      ∙ ap (λ (b : Bool). nat_lt act.0 (length net.points) && is_none (activation net act) && b && not (list_any (same_point act) acts) && may_act (shown_form net) (map show so_far) acts) (unknown_shown so_far act)
      ∙ ap (λ (b : Bool). nat_lt act.0 (length net.points) && is_none (activation net act) && is_none (moment_so_far so_far act) && not (list_any (same_point act) acts) && b) (may_act_shown so_far acts)

  -- the schedule that is made is the one that was made, as it is shown
  all_shown : (so_far : PartialSchedule) (points : List PointId)
      → all_some (map (moment_so_far (map show so_far)) points) ≡ option_map (shown_moments net points) (all_some (map (moment_so_far so_far) points))
  all_shown so_far [] = refl
  all_shown so_far (point ∷ points) =
      ap (λ (o : Option ℕ). all_some (o ∷ map (moment_so_far (map show so_far)) points)) (moment_shown so_far point) ∙ by (moment_so_far so_far point) (all_shown so_far points)
    where
      then : (m : ℕ) (o : Option (List ℕ)) → option_map (λ xs. (m + lag net point) ∷ xs) (option_map (shown_moments net points) o)
          ≡ option_map (shown_moments net (point ∷ points)) (option_map (λ xs. m ∷ xs) o)
      then m None = refl
      then m (Some xs) = refl

      by : (o : Option ℕ) → all_some (map (moment_so_far (map show so_far)) points) ≡ option_map (shown_moments net points) (all_some (map (moment_so_far so_far) points))
          → all_some (option_map (λ m. m + lag net point) o ∷ map (moment_so_far (map show so_far)) points) ≡ option_map (shown_moments net (point ∷ points)) (all_some (o ∷ map (moment_so_far so_far) points))
      by None rest = refl
      by (Some m) rest = ap (option_map (λ xs. (m + lag net point) ∷ xs)) rest ∙ then m (all_some (map (moment_so_far so_far) points))

  -- a shown point is contingent, and the delay is over
  shown_means : (so_far : PartialSchedule) (t : ℕ) (links : List Link) (durations : List ℕ) (point : PointId) → is_shown net so_far t links durations point ≡ true
      → (i : ℕ) × (link : Link) × (slice_get links i ≡ Some link) × (same_point link.to point ≡ true) × (net.delay ≤ t)
  shown_means so_far t [] durations point done = absurd (false≢true done)
  shown_means so_far t (link ∷ links) [] point done = absurd (false≢true done)
  shown_means so_far t (link ∷ links) (duration ∷ durations) point done =
      elim (or_cases (same_point link.to point && shows net so_far t link duration) (is_shown net so_far t links durations point) done) [
        | inl here ↦ let both = and_parts (same_point link.to point) (shows net so_far t link duration) here in (0, link, refl, both.0, over (moment_so_far so_far link.from) both.1)
        | inr later ↦ let found = shown_means so_far t links durations point later in (suc found.0, found.1, found.2, found.3, found.4)
      ]
    where
      over : (o : Option ℕ) → elim o [ Some a ↦ (a + duration + net.delay) == t | None ↦ false ] ≡ true → net.delay ≤ t
      over None done = absurd (false≢true done)
      over (Some a) done = let is = eqb-true (a + duration + net.delay) t done in omega (arith, is)

  pub some_from_none : {A : Type 0} (o : Option A) → is_none o ≡ false → is_some o ≡ true
  some_from_none None none = absurd (true≢false none)
  some_from_none (Some x) none = refl

  none_from_none : {A : Type 0} (o : Option A) → is_none o ≡ true → is_some o ≡ false
  none_from_none None none = refl
  none_from_none (Some x) none = absurd (false≢true none)

  shown_is_late : (situation : List ℕ) (so_far : PartialSchedule) (t : ℕ) (point : PointId) → is_shown net so_far t net.links situation point ≡ true
      → (is_some (activation net point) ≡ true) × (net.delay ≤ t)
  shown_is_late situation so_far t point done =
      let (i, link, declared, ends, over) = shown_means so_far t net.links situation point done in
      let its = contingent net i link declared in
      (some_from_none (activation net point) (subst (λ (p : PointId). is_none (activation net p) ≡ false) (same_from_test link.to point ends) its), over)

  -- what is seen got its moment the delay before
  seen_shown : (test : PointId → Bool) (t : ℕ) (points : List PointId) → ((point : PointId) → test point ≡ true → (is_some (activation net point) ≡ true) × (net.delay ≤ t))
      → map show (at_moment (t - net.delay) (filter test points)) ≡ at_moment t (filter test points)
  seen_shown test t [] late = refl
  seen_shown test t (point ∷ points) late = by (test point) refl (seen_shown test t points late)
    where
      by : (b : Bool) → test point ≡ b → map show (at_moment (t - net.delay) (filter test points)) ≡ at_moment t (filter test points)
          → map show (at_moment (t - net.delay) (cond b (point ∷ filter test points) (filter test points))) ≡ at_moment t (cond b (point ∷ filter test points) (filter test points))
      by false is rest = rest
      by true is rest =
          let (contingent, over) = late point is in
          let at : (t - net.delay) + lag net point ≡ t = subst (λ (b : Bool). (t - net.delay) + cond b net.delay 0 ≡ t) (sym contingent) (omega (arith, over)) in
          ap (λ (m : ℕ). (point, m) ∷ map show (at_moment (t - net.delay) (filter test points))) at
          ∙ ap (λ (others : PartialSchedule). (point, t) ∷ others) rest

  -- what is executed is shown at once
  acts_shown : (so_far : PartialSchedule) (t : ℕ) (acts : List PointId) → may_act net so_far acts ≡ true → map show (at_moment t acts) ≡ at_moment t acts
  acts_shown so_far t [] may = refl
  acts_shown so_far t (act ∷ acts) may =
      let a = nat_lt act.0 (length net.points) in
      let b = is_none (activation net act) in
      let c = is_none (moment_so_far so_far act) in
      let d = not (list_any (same_point act) acts) in
      let e = may_act net so_far acts in
      let before_e = and_parts (a && b && c && d) e may in
      let before_d = and_parts (a && b && c) d before_e.0 in
      let before_c = and_parts (a && b) c before_d.0 in
      let before_b = and_parts a b before_c.0 in
      let at : t + lag net act ≡ t = subst (λ (s : Bool). t + cond s net.delay 0 ≡ t) (sym (none_from_none (activation net act) before_b.1)) (omega arith) in
      ap (λ (m : ℕ). (act, m) ∷ map show (at_moment t acts)) at ∙ ap (λ (rest : PartialSchedule). (act, t) ∷ rest) (acts_shown so_far t acts before_e.1)

  -- the moments after a moment, as they are shown
  next_shown : (situation : List ℕ) (so_far : PartialSchedule) (t : ℕ) (seen acts : List PointId) → seen ≡ shown net situation so_far t → may_act net so_far acts ≡ true
      → map show so_far ++ at_moment t seen ++ at_moment t acts ≡ map show (so_far ++ at_moment (t - net.delay) seen ++ at_moment t acts)
  next_shown situation so_far t seen acts is may =
      let late : map show (at_moment (t - net.delay) seen) ≡ at_moment t seen =
      subst (λ (points : List PointId). map show (at_moment (t - net.delay) points) ≡ at_moment t points) (sym is) (seen_shown (is_shown net so_far t net.links situation) t (points_of net) (shown_is_late situation so_far t)) in
      sym (map-append show (so_far ++ at_moment (t - net.delay) seen) (at_moment t acts)
      ∙ ap (λ (ms : PartialSchedule). ms ++ map show (at_moment t acts)) (map-append show so_far (at_moment (t - net.delay) seen))
      ∙ ap (λ (ms : PartialSchedule). (map show so_far ++ ms) ++ map show (at_moment t acts)) late
      ∙ ap (λ (ms : PartialSchedule). (map show so_far ++ at_moment t seen) ++ ms) (acts_shown so_far t acts may))

  module _ (situation : List ℕ) where
    chosen : (b : Bool) (x y : Option (List ℕ)) (v w : Option (List ℕ)) (f : List ℕ → List ℕ) → (b ≡ true → x ≡ option_map f v) → (b ≡ false → y ≡ option_map f w) → cond b x y ≡ option_map f (cond b v w)
    chosen true x y v w f here there = here refl
    chosen false x y v w f here there = there refl

    mutual
      pub play_shown : (tree : Tree) (so_far : PartialSchedule) (t : ℕ)
          → instant_from tree (shown_form net) (shown_situation net situation) (map show so_far) t ≡ option_map (shown_schedule net) (play_from tree net situation so_far t)
      play_shown Leaf so_far t = all_shown so_far (points_of net)
      play_shown (Node' shape cases) so_far t =
          ap (instant_cases cases (shown_form net) (shown_situation net situation) (map show so_far) t) (completed_shown situation so_far t)
          ∙ cases_shown cases so_far t (shown net situation so_far t) refl

      cases_shown : {m : _} (cases : Row_of-Case m) (so_far : PartialSchedule) (t : ℕ) (points : List PointId) → points ≡ shown net situation so_far t
          → instant_cases cases (shown_form net) (shown_situation net situation) (map show so_far) t points ≡ option_map (shown_schedule net) (play_cases cases net situation so_far t points)
      cases_shown end_of-Case so_far t points is = refl
      cases_shown (more_of-Case seen acts next others) so_far t points is =
          let plain = instant_from next (shown_form net) (shown_situation net situation) (map show so_far ++ at_moment t seen ++ at_moment t acts) (t + 1) in
          let late = play_from next net situation (so_far ++ at_moment (t - net.delay) seen ++ at_moment t acts) (t + 1) in
          chosen (pointwise same_point seen points)
          (cond (may_act (shown_form net) (map show so_far) acts) plain None) (instant_cases others (shown_form net) (shown_situation net situation) (map show so_far) t points)
          (cond (may_act net so_far acts) late None) (play_cases others net situation so_far t points) (shown_schedule net)
          (λ fits. ap (λ (b : Bool). cond b plain None) (may_act_shown so_far acts)
          ∙ chosen (may_act net so_far acts) plain None late None (shown_schedule net)
          (λ may. ap (λ (ms : PartialSchedule). instant_from next (shown_form net) (shown_situation net situation) ms (t + 1)) (next_shown situation so_far t seen acts (same_points seen points fits ∙ is) may)
          ∙ play_shown next (so_far ++ at_moment (t - net.delay) seen ++ at_moment t acts) (t + 1))
          (λ refused. refl))
          (λ other. cases_shown others so_far t points is)

pub law_plays_are_shown : PlaysAreShown
law_plays_are_shown net strategy situation = law_no_delay_is_instant (shown_form net) strategy (shown_situation net situation) refl ∙ play_shown net situation strategy [] 0
