-- What holds along a play: what is known stays, and a link completes its duration after its activation.
use Rattle.std.proofs.Common.{◌≡◌, ◌≢◌, ℕ, suc, ◌+◌, ◌<◌, ◌≤◌, true, false, cond, List, [], ◌∷◌, ◌++◌, length, append_assoc, Option, Some, None, inl, inr, refl, sym, ap, subst, ◌∙◌, arith, get_or}
use Rattle.std.specs.Prelude.{slice_get, is_none, ◌==◌, ◌&&◌}
use Rattle.std.specs.List.{slice_index}
use Rattle.std.specs.Cmp.Lexicographic.{pointwise}
use Rattle.std.proofs.lemmas.Bool.{eqb-true, and_parts, or_cases, false≢true, both_ways, cases_order}
use Rattle.std.proofs.lemmas.Option.{none-some, same_Some, get_or_from_slice_get, slice_get_within}
use Rattle.net_model.specs.Network.{Plan, IsPlan, IsLink, activation}
use Rattle.net_model.specs.declared.ids.PointId.{PointId}
use Rattle.net_model.specs.declared.part.Link.{Link}
use Rattle.strategy_model.specs.Plays.{PartialSchedule, points_of, same_point, moment_so_far, at_moment, may_act, schedule_made}
use Rattle.strategy_model.specs.InstantPlays.{completes, is_completed, completed, instant_from, instant_cases}
use Rattle.strategy_model.specs.declared.tree.Tree.{Tree, Leaf, Node', Row_of-Case, end_of-Case, more_of-Case}
use Rattle.strategy_model.proofs.MomentLemmas.{pick, same_points, found_first, found_later, moment_is, passes_test, acts_executable, contingent, made_at}

-- the moments so far and those of moment t
abbrev pub and_moment : PartialSchedule → ℕ → (seen acts : List PointId) → PartialSchedule
and_moment so_far t seen acts = so_far ++ at_moment t seen ++ at_moment t acts

pub known_stays : (so_far : PartialSchedule) (t : ℕ) (seen acts : List PointId) (p : PointId) (m : ℕ) → moment_so_far so_far p ≡ Some m → moment_so_far (and_moment so_far t seen acts) p ≡ Some m
known_stays so_far t seen acts p m known =
    found_first (so_far ++ at_moment t seen) (at_moment t acts) p m (found_first so_far (at_moment t seen) p m known)

pub unknown_later : (so_far : PartialSchedule) (t : ℕ) (seen acts : List PointId) (p : PointId) → moment_so_far so_far p ≡ None → moment_so_far (and_moment so_far t seen acts) p ≡ moment_so_far (at_moment t seen ++ at_moment t acts) p
unknown_later so_far t seen acts p missing =
    ap (λ (ms : PartialSchedule). moment_so_far ms p) (append_assoc so_far (at_moment t seen) (at_moment t acts)) ∙ found_later so_far (at_moment t seen ++ at_moment t acts) p missing

-- What holds at the end of a play, and holds at a moment if it holds after it, holds at the beginning.
module _ (net : Plan) (situation schedule : List ℕ) (M : PartialSchedule → ℕ → Type 0) (at_end : (so_far : PartialSchedule) (t : ℕ) → schedule_made net so_far ≡ Some schedule → M so_far t)
    (at_moment' : (so_far : PartialSchedule) (t : ℕ) (acts : List PointId) → may_act net so_far acts ≡ true → M (and_moment so_far t (completed net situation so_far t) acts) (t + 1) → M so_far t) where
  mutual
    pub along : (tree : Tree) (so_far : PartialSchedule) (t : ℕ) → instant_from tree net situation so_far t ≡ Some schedule → M so_far t
    along Leaf so_far t played = at_end so_far t played
    along (Node' shape cases) so_far t played = along_cases cases so_far t (completed net situation so_far t) refl played

    along_cases : {m : _} (cases : Row_of-Case m) (so_far : PartialSchedule) (t : ℕ) (points : List PointId) → points ≡ completed net situation so_far t → instant_cases cases net situation so_far t points ≡ Some schedule → M so_far t
    along_cases end_of-Case so_far t points is played = absurd (none-some schedule played)
    along_cases (more_of-Case seen acts next others) so_far t points is played =
        let rest = instant_from next net situation (and_moment so_far t seen acts) (t + 1) in
        elim (pick (pointwise same_point seen points) (cond (may_act net so_far acts) rest None) (instant_cases others net situation so_far t points) (Some schedule) played) [
          | inl here ↦ elim (pick (may_act net so_far acts) rest None (Some schedule) here.1) [
            | inl may ↦ at_moment' so_far t acts may.0 (subst (λ (seen' : List PointId). M (and_moment so_far t seen' acts) (t + 1)) (same_points seen points here.0 ∙ is) (along next (and_moment so_far t seen acts) (t + 1) may.1))
            | inr refused ↦ absurd (none-some schedule refused.1)
          ]
          | inr later ↦ along_cases others so_far t points is later.1
        ]

-- a schedule goes on from the moments so far: it keeps them, and each other point comes at t or later
pub record GoesOn (net : Plan) (schedule : List ℕ) (so_far : PartialSchedule) (t : ℕ) : Type 0 where
  pub kept : (p : PointId) (m : ℕ) → p.0 < length net.points → moment_so_far so_far p ≡ Some m → slice_index schedule p.0 ≡ m
  pub later : (p : PointId) → p.0 < length net.points → moment_so_far so_far p ≡ None → t ≤ slice_index schedule p.0

goes_on_at_end : (net : Plan) (schedule : List ℕ) (so_far : PartialSchedule) (t : ℕ) → schedule_made net so_far ≡ Some schedule → GoesOn net schedule so_far t
goes_on_at_end net schedule so_far t made =
    record {
      kept = λ p m within found. same_Some (slice_index schedule p.0) m (sym (made_at net so_far schedule made p within) ∙ found);
      later = λ p within missing. absurd (none-some (slice_index schedule p.0) (sym missing ∙ made_at net so_far schedule made p within));
    }

-- points that get moment t have it, the others none
pub new_moment : (t : ℕ) (seen acts : List PointId) (p : PointId) (m : ℕ) → moment_so_far (at_moment t seen ++ at_moment t acts) p ≡ Some m → t ≡ m
new_moment t seen acts p m found = go (moment_so_far (at_moment t seen) p) refl
  where
    go : (o : Option ℕ) → moment_so_far (at_moment t seen) p ≡ o → t ≡ m
    go None missing = moment_is t acts p m (sym (found_later (at_moment t seen) (at_moment t acts) p missing) ∙ found)
    go (Some k) here = moment_is t seen p k here ∙ same_Some k m (sym (found_first (at_moment t seen) (at_moment t acts) p k here) ∙ found)

goes_on_before : (net : Plan) (schedule : List ℕ) (so_far : PartialSchedule) (t : ℕ) (seen acts : List PointId) → GoesOn net schedule (and_moment so_far t seen acts) (t + 1) → GoesOn net schedule so_far t
goes_on_before net schedule so_far t seen acts after =
    record {
      kept = λ p m within found. after.kept p m within (known_stays so_far t seen acts p m found);
      later = λ p within missing. go p within (unknown_later so_far t seen acts p missing) (moment_so_far (at_moment t seen ++ at_moment t acts) p) refl;
    }
  where
    go : (p : PointId) → p.0 < length net.points → moment_so_far (and_moment so_far t seen acts) p ≡ moment_so_far (at_moment t seen ++ at_moment t acts) p → (o : Option ℕ) → moment_so_far (at_moment t seen ++ at_moment t acts) p ≡ o
        → t ≤ slice_index schedule p.0
    go p within is None missing = let h = after.later p within (is ∙ missing) in omega (arith, h)
    go p within is (Some m) found =
        let h = after.kept p m within (is ∙ found) in
        let e = new_moment t seen acts p m found in
        omega (arith, h, e)

pub goes_on : (net : Plan) (situation schedule : List ℕ) (tree : Tree) (so_far : PartialSchedule) (t : ℕ) → instant_from tree net situation so_far t ≡ Some schedule → GoesOn net schedule so_far t
goes_on net situation schedule =
    along net situation schedule (GoesOn net schedule) (goes_on_at_end net schedule) (λ so_far t acts may. goes_on_before net schedule so_far t (completed net situation so_far t) acts)

-- a link that completes at t has its activation its duration before
pub completes_means : (so_far : PartialSchedule) (t : ℕ) (link : Link) (duration : ℕ) → completes so_far t link duration ≡ true → (a : ℕ) × (moment_so_far so_far link.from ≡ Some a) × (a + duration ≡ t)
completes_means so_far t link duration done = go (moment_so_far so_far link.from) refl done
  where
    go : (o : Option ℕ) → moment_so_far so_far link.from ≡ o → elim o [ Some a ↦ (a + duration) == t | None ↦ false ] ≡ true → (a : ℕ) × (moment_so_far so_far link.from ≡ Some a) × (a + duration ≡ t)
    go None is done = absurd (false≢true done)
    go (Some a) is done = (a, is, eqb-true (a + duration) t done)

-- a point that is completed is the end of a link that completes
abbrev pub Completion : PartialSchedule → ℕ → List Link → List ℕ → PointId → Type 0
Completion so_far t links durations point =
    (i : ℕ) × (link : Link) × (duration : ℕ) × (slice_get links i ≡ Some link) × (slice_get durations i ≡ Some duration) × (same_point link.to point ≡ true) × (completes so_far t link duration ≡ true)

pub completed_means : (so_far : PartialSchedule) (t : ℕ) (links : List Link) (durations : List ℕ) (point : PointId) → is_completed so_far t links durations point ≡ true → Completion so_far t links durations point
completed_means so_far t [] durations point done = absurd (false≢true done)
completed_means so_far t (link ∷ links) [] point done = absurd (false≢true done)
completed_means so_far t (link ∷ links) (duration ∷ durations) point done =
    elim (or_cases (same_point link.to point && completes so_far t link duration) (is_completed so_far t links durations point) done) [
      | inl here ↦ let both = and_parts (same_point link.to point) (completes so_far t link duration) here in (0, link, duration, refl, refl, both.0, both.1)
      | inr later ↦ let found = completed_means so_far t links durations point later in (suc found.0, found.1, found.2, found.3, found.4, found.5, found.6)
    ]

-- no two links end in one point
ends_apart : (net : Plan) → IsPlan net → (i j : ℕ) (l m : Link) → slice_get net.links i ≡ Some l → slice_get net.links j ≡ Some m → i < j → l.to.0 ≢ m.to.0
ends_apart net plan i j l m first second before =
    let apart = plan.links_apart i j l before (slice_get_within net.links j m second) in
    let here : get_or net.links i l ≡ l = get_or_from_slice_get net.links i l l first in
    let there : get_or net.links j l ≡ m = get_or_from_slice_get net.links j m l second in
    subst (λ (x : Link). l.to.0 ≢ x.to.0) there (subst (λ (x : Link). x.to.0 ≢ (get_or net.links j l).to.0) here apart)

pub one_link : (net : Plan) → IsPlan net → (i j : ℕ) (l m : Link) → slice_get net.links i ≡ Some l → slice_get net.links j ≡ Some m → l.to.0 ≡ m.to.0 → i ≡ j
one_link net plan i j l m first second same =
    elim (cases_order i j) [
      | inl equal ↦ equal
      | inr (inl before) ↦ absurd (ends_apart net plan i j l m first second before same)
      | inr (inr after) ↦ absurd (ends_apart net plan j i m l second first after (sym same))
    ]

-- each link whose end has a moment has its activation its duration before
abbrev Follow : Plan → List ℕ → PartialSchedule → Type 0
Follow net situation so_far =
    (i : ℕ) (link : Link) (duration m : ℕ) → slice_get net.links i ≡ Some link → slice_get situation i ≡ Some duration → moment_so_far so_far link.to ≡ Some m → (a : ℕ) × (moment_so_far so_far link.from ≡ Some a) × (a + duration ≡ m)

-- the point of a link that is completed gets the moment of its activation and its duration
completion_follows : (net : Plan) → IsPlan net → (situation : List ℕ) (so_far : PartialSchedule) (t i : ℕ) (link : Link) (duration : ℕ) → slice_get net.links i ≡ Some link → slice_get situation i ≡ Some duration
    → is_completed so_far t net.links situation link.to ≡ true → (a : ℕ) × (moment_so_far so_far link.from ≡ Some a) × (a + duration ≡ t)
completion_follows net plan situation so_far t i link duration declared lasts done =
    let (j, other, its, its_declared, its_lasts, same, its_done) = completed_means so_far t net.links situation link.to done in
    let equal : j ≡ i = one_link net plan j i other link its_declared declared (eqb-true other.to.0 link.to.0 same) in
    let its_link : other ≡ link = same_Some other link (sym its_declared ∙ ap (slice_get net.links) equal ∙ declared) in
    let its_duration : its ≡ duration = same_Some its duration (sym its_lasts ∙ ap (slice_get situation) equal ∙ lasts) in
    completes_means so_far t link duration (subst (λ (l : Link). completes so_far t l duration ≡ true) its_link (subst (λ (d : ℕ). completes so_far t other d ≡ true) its_duration its_done))

module _ (net : Plan) (plan : IsPlan net) (situation : List ℕ) (so_far : PartialSchedule) (t : ℕ) (acts : List PointId) (may : may_act net so_far acts ≡ true) where
  -- an activation that is known stays known
  stays : (link : Link) (m k : ℕ) → (a : ℕ) × (moment_so_far so_far link.from ≡ Some a) × (a + m ≡ k) → (a : ℕ) × (moment_so_far (and_moment so_far t (completed net situation so_far t) acts) link.from ≡ Some a) × (a + m ≡ k)
  stays link m k known =
      (known.0, known_stays so_far t (completed net situation so_far t) acts link.from known.0 known.1, known.2)

  -- a contingent point that gets moment t is completed then
  new_is_completed : (i : ℕ) (link : Link) (m : ℕ) → slice_get net.links i ≡ Some link → moment_so_far (at_moment t (completed net situation so_far t) ++ at_moment t acts) link.to ≡ Some m
      → is_completed so_far t net.links situation link.to ≡ true
  new_is_completed i link m declared found = go (moment_so_far (at_moment t seen) link.to) refl
    where
      seen : List PointId
      seen = completed net situation so_far t

      go : (o : Option ℕ) → moment_so_far (at_moment t seen) link.to ≡ o → is_completed so_far t net.links situation link.to ≡ true
      go (Some k) here = passes_test (is_completed so_far t net.links situation) t (points_of net) link.to k here
      go None missing =
          let acted = sym (found_later (at_moment t seen) (at_moment t acts) link.to missing) ∙ found in
          absurd (both_ways (is_none (activation net link.to)) (contingent net i link declared) (acts_executable net so_far t acts link.to m may acted))

  follow_after : Follow net situation so_far → Follow net situation (and_moment so_far t (completed net situation so_far t) acts)
  follow_after before i link duration m declared lasts found = go (moment_so_far so_far link.to) refl
    where
      seen : List PointId
      seen = completed net situation so_far t

      go : (o : Option ℕ) → moment_so_far so_far link.to ≡ o → (a : ℕ) × (moment_so_far (and_moment so_far t seen acts) link.from ≡ Some a) × (a + duration ≡ m)
      go (Some k) known =
          let same : k ≡ m = same_Some k m (sym (known_stays so_far t seen acts link.to k known) ∙ found) in
          stays link duration m (before i link duration m declared lasts (known ∙ ap (λ (x : ℕ). Some x) same))
      go None missing =
          let here = sym (unknown_later so_far t seen acts link.to missing) ∙ found in
          let same : t ≡ m = new_moment t seen acts link.to m here in
          stays link duration m (subst (λ (k : ℕ). (a : ℕ) × (moment_so_far so_far link.from ≡ Some a) × (a + duration ≡ k)) same
          (completion_follows net plan situation so_far t i link duration declared lasts (new_is_completed i link m declared here)))

-- a link of a network is sound
pub link_sound : (net : Plan) → IsPlan net → (i : ℕ) (link : Link) → slice_get net.links i ≡ Some link → IsLink net link
link_sound net plan i link declared =
    subst (IsLink net) (get_or_from_slice_get net.links i link link declared) (plan.links_sound i link (slice_get_within net.links i link declared))

-- in a schedule each link lasts its duration
abbrev pub Lasting : Plan → List ℕ → List ℕ → Type 0
Lasting net situation schedule =
    (i : ℕ) (link : Link) (duration : ℕ) → slice_get net.links i ≡ Some link → slice_get situation i ≡ Some duration → slice_index schedule link.to.0 ≡ slice_index schedule link.from.0 + duration

lasting_at_end : (net : Plan) → IsPlan net → (situation schedule : List ℕ) (so_far : PartialSchedule) → schedule_made net so_far ≡ Some schedule → Follow net situation so_far → Lasting net situation schedule
lasting_at_end net plan situation schedule so_far made follow i link duration declared lasts =
    let sound = link_sound net plan i link declared in
    let known = follow i link duration (slice_index schedule link.to.0) declared lasts (made_at net so_far schedule made link.to sound.to_point) in
    let began : slice_index schedule link.from.0 ≡ known.0 = same_Some (slice_index schedule link.from.0) known.0 (sym (made_at net so_far schedule made link.from sound.from_point) ∙ known.1) in
    let lasted = known.2 in
    omega (arith, began, lasted)

pub lasting : (net : Plan) → IsPlan net → (situation schedule : List ℕ) (tree : Tree) (so_far : PartialSchedule) (t : ℕ) → instant_from tree net situation so_far t ≡ Some schedule → Follow net situation so_far
    → Lasting net situation schedule
lasting net plan situation schedule =
    along net situation schedule (λ so_far t. Follow net situation so_far → Lasting net situation schedule) (λ so_far t made. lasting_at_end net plan situation schedule so_far made)
    (λ so_far t acts may after before. after (follow_after net plan situation so_far t acts may before))

-- nothing has a moment at the beginning
pub follow_at_first : (net : Plan) (situation : List ℕ) → Follow net situation []
follow_at_first net situation i link duration m declared lasts found = absurd (none-some m found)
