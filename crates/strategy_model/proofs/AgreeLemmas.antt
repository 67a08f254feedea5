-- Two situations that differ in one link: the plays of one strategy agree before the sooner completion of that link.
use Rattle.std.proofs.Common.{◌≡◌, ℕ, suc, ◌+◌, ◌<◌, ◌≤◌, Bool, true, false, cond, List, [], ◌∷◌, length, Option, Some, None, ◌⊎◌, inl, inr, refl, sym, ap, subst, ◌∙◌, arith}
use Rattle.std.specs.Prelude.{slice_get, ◌==◌, ◌&&◌, ◌||◌}
use Rattle.std.specs.List.{slice_index}
use Rattle.std.specs.Cmp.Lexicographic.{pointwise}
use Rattle.std.proofs.lemmas.Bool.{ne_eqb, cases_lt, cases_eq}
use Rattle.std.proofs.lemmas.Option.{none-some, same_Some}
use Rattle.std.proofs.lemmas.List.Elements.{filter_agree}
use Rattle.net_model.specs.Network.{Plan}
use Rattle.net_model.specs.Edges.{IsLinkOf}
use Rattle.net_model.specs.declared.ids.PointId.{PointId}
use Rattle.net_model.specs.declared.ids.LinkId.{LinkId}
use Rattle.net_model.specs.declared.part.Link.{Link}
use Rattle.strategy_model.specs.Situations.{DifferOnlyIn}
use Rattle.strategy_model.specs.Plays.{PartialSchedule, points_of, same_point, moment_so_far, may_act}
use Rattle.strategy_model.specs.InstantPlays.{completes, is_completed, completed, instant_from, instant_cases}
use Rattle.strategy_model.specs.declared.tree.Tree.{Tree, Leaf, Node', Row_of-Case, end_of-Case, more_of-Case}
use Rattle.strategy_model.proofs.MomentLemmas.{made_length}
use Rattle.strategy_model.proofs.PlayLemmas.{and_moment, along, goes_on}

-- each link completes in both situations or in neither
abbrev CompleteAlike : PartialSchedule → ℕ → List Link → List ℕ → List ℕ → Type 0
CompleteAlike so_far t links ds es =
    (i : ℕ) (link : Link) (d e : ℕ) → slice_get links i ≡ Some link → slice_get ds i ≡ Some d → slice_get es i ≡ Some e → completes so_far t link d ≡ completes so_far t link e

-- then the same points are completed
same_completed : (so_far : PartialSchedule) (t : ℕ) (links : List Link) (ds es : List ℕ) → length ds ≡ length links → length es ≡ length links → CompleteAlike so_far t links ds es → (point : PointId)
    → is_completed so_far t links ds point ≡ is_completed so_far t links es point
same_completed so_far t [] ds es ds_length es_length same point = refl
same_completed so_far t (link ∷ links) [] es ds_length es_length same point = absurd (omega (arith, ds_length))
same_completed so_far t (link ∷ links) (d ∷ ds) [] ds_length es_length same point = absurd (omega (arith, es_length))
same_completed so_far t (link ∷ links) (d ∷ ds) (e ∷ es) ds_length es_length same point =
    let here : completes so_far t link d ≡ completes so_far t link e = same 0 link d e refl refl refl in
    let rest : is_completed so_far t links ds point ≡ is_completed so_far t links es point = same_completed so_far t links ds es (omega (arith, ds_length)) (omega (arith, es_length)) (λ i. same (suc i)) point in
    ap (λ (b : Bool). (same_point link.to point && b) || is_completed so_far t links ds point) here ∙ ap (λ (b : Bool). (same_point link.to point && completes so_far t link e) || b) rest

-- before a link's completion it isn't completed
not_yet : (so_far : PartialSchedule) (t : ℕ) (link : Link) (duration : ℕ) → ((a : ℕ) → moment_so_far so_far link.from ≡ Some a → t < a + duration) → completes so_far t link duration ≡ false
not_yet so_far t link duration after = go (moment_so_far so_far link.from) refl
  where
    go : (o : Option ℕ) → moment_so_far so_far link.from ≡ o → elim o [ Some a ↦ (a + duration) == t | None ↦ false ] ≡ false
    go None is = refl
    go (Some a) is = let before = after a is in ne_eqb (a + duration) t (λ same. omega (arith, before, same))

-- the length of a schedule that is played
pub played_length : (net : Plan) (situation schedule : List ℕ) (tree : Tree) (so_far : PartialSchedule) (t : ℕ) → instant_from tree net situation so_far t ≡ Some schedule → length schedule ≡ length net.points
played_length net situation schedule =
    along net situation schedule (λ so_far t. length schedule ≡ length net.points) (λ so_far t made. made_length net so_far schedule made) (λ so_far t acts may after. after)

-- two choices by one test take one side
pub both : {A : Type 0} (b : Bool) (x y v w : Option A) {p q : A} → cond b x y ≡ Some p → cond b v w ≡ Some q → ((x ≡ Some p) × (v ≡ Some q)) ⊎ ((y ≡ Some p) × (w ≡ Some q))
both true x y v w here there = inl (here, there)
both false x y v w here there = inr (here, there)

-- Two situations that differ only in a link, schedules for them, and a moment that no completion of that link in
-- them comes before.
pub record DifferInLink (net : Plan) (name : LinkId) (link : Link) (ds es first second : List ℕ) (limit : ℕ) : Type 0 where
  pub declared : IsLinkOf net name link
  pub from_point : link.from.0 < length net.points
  pub first_length : length ds ≡ length net.links
  pub second_length : length es ≡ length net.links
  pub elsewhere : DifferOnlyIn name ds es
  pub after_first : (d : ℕ) → slice_get ds name.0 ≡ Some d → limit ≤ slice_index first link.from.0 + d
  pub after_second : (e : ℕ) → slice_get es name.0 ≡ Some e → limit ≤ slice_index second link.from.0 + e

module _ (net : Plan) (name : LinkId) (link : Link) (ds es first second : List ℕ) (limit : ℕ) (differ : DifferInLink net name link ds es first second limit) where
  same_links : (tree : Tree) (so_far : PartialSchedule) (t : ℕ) → t < limit → instant_from tree net ds so_far t ≡ Some first → instant_from tree net es so_far t ≡ Some second → (i : ℕ) (other : Link) (d e : ℕ)
      → slice_get net.links i ≡ Some other → slice_get ds i ≡ Some d → slice_get es i ≡ Some e → completes so_far t other d ≡ completes so_far t other e
  same_links tree so_far t before played_first played_second i other d e its its_d its_e =
      elim (cases_eq i name.0) [
        | inl here ↦
            let same : other ≡ link = same_Some other link (sym its ∙ ap (slice_get net.links) here ∙ differ.declared) in
            let d_here = sym (ap (slice_get ds) here) ∙ its_d in
            let e_here = sym (ap (slice_get es) here) ∙ its_e in
            let d_limit = differ.after_first d d_here in
            let e_limit = differ.after_second e e_here in
            let not_first : completes so_far t link d ≡ false = not_yet so_far t link d (λ a known. let kept = (goes_on net ds first tree so_far t played_first).kept link.from a differ.from_point known in omega (arith, kept, d_limit)) in
            let not_second : completes so_far t link e ≡ false = not_yet so_far t link e (λ a known. let kept = (goes_on net es second tree so_far t played_second).kept link.from a differ.from_point known in omega (arith, kept, e_limit)) in
            subst (λ (l : Link). completes so_far t l d ≡ completes so_far t l e) (sym same) (not_first ∙ sym not_second)
        | inr apart ↦ ap (completes so_far t other) (same_Some d e (sym its_d ∙ differ.elsewhere i apart ∙ its_e))
      ]

  same_points_completed : (tree : Tree) (so_far : PartialSchedule) (t : ℕ) → t < limit → instant_from tree net ds so_far t ≡ Some first → instant_from tree net es so_far t ≡ Some second
      → completed net ds so_far t ≡ completed net es so_far t
  same_points_completed tree so_far t before played_first played_second =
      filter_agree (is_completed so_far t net.links ds) (is_completed so_far t net.links es) (same_completed so_far t net.links ds es differ.first_length differ.second_length (same_links tree so_far t before played_first played_second))
      (points_of net)

  -- a point that comes before a moment that isn't before the limit is known by then
  known_by_then : (tree : Tree) (so_far : PartialSchedule) (t : ℕ) → limit ≤ t → instant_from tree net ds so_far t ≡ Some first → instant_from tree net es so_far t ≡ Some second → (p : PointId) → p.0 < length net.points
      → slice_index first p.0 < limit → slice_index first p.0 ≡ slice_index second p.0
  known_by_then tree so_far t past played_first played_second p within sooner = go (moment_so_far so_far p) refl
    where
      go : (o : Option ℕ) → moment_so_far so_far p ≡ o → slice_index first p.0 ≡ slice_index second p.0
      go (Some m) known =
          (goes_on net ds first tree so_far t played_first).kept p m within known ∙ sym ((goes_on net es second tree so_far t played_second).kept p m within known)
      go None missing =
          let later = (goes_on net ds first tree so_far t played_first).later p within missing in
          absurd (omega (arith, later))

  mutual
    pub agree_from : (tree : Tree) (so_far : PartialSchedule) (t : ℕ) → instant_from tree net ds so_far t ≡ Some first → instant_from tree net es so_far t ≡ Some second → (p : PointId) → p.0 < length net.points
        → slice_index first p.0 < limit → slice_index first p.0 ≡ slice_index second p.0
    agree_from Leaf so_far t played_first played_second p within sooner =
        ap (λ (s : List ℕ). slice_index s p.0) (same_Some first second (sym played_first ∙ played_second))
    agree_from (Node' shape cases) so_far t played_first played_second p within sooner =
        let seen = completed net ds so_far t in
        elim (cases_lt t limit) [
          | inl before ↦
              let same = same_points_completed (Node' shape cases) so_far t before played_first played_second in
              agree_cases cases so_far t seen played_first (subst (λ (points : List PointId). instant_cases cases net es so_far t points ≡ Some second) (sym same) played_second) p within sooner
          | inr past ↦ known_by_then (Node' shape cases) so_far t past played_first played_second p within sooner
        ]

    agree_cases : {m : _} (cases : Row_of-Case m) (so_far : PartialSchedule) (t : ℕ) (points : List PointId) → instant_cases cases net ds so_far t points ≡ Some first → instant_cases cases net es so_far t points ≡ Some second
        → (p : PointId) → p.0 < length net.points → slice_index first p.0 < limit → slice_index first p.0 ≡ slice_index second p.0
    agree_cases end_of-Case so_far t points played_first played_second p within sooner = absurd (none-some first played_first)
    agree_cases (more_of-Case seen acts next others) so_far t points played_first played_second p within sooner =
        let and_now = and_moment so_far t seen acts in
        elim (both (pointwise same_point seen points) (cond (may_act net so_far acts) (instant_from next net ds and_now (t + 1)) None) (instant_cases others net ds so_far t points)
        (cond (may_act net so_far acts) (instant_from next net es and_now (t + 1)) None) (instant_cases others net es so_far t points) played_first played_second) [
          | inl here ↦ elim (both (may_act net so_far acts) (instant_from next net ds and_now (t + 1)) None (instant_from next net es and_now (t + 1)) None here.0 here.1) [
            | inl may ↦ agree_from next and_now (t + 1) may.0 may.1 p within sooner
            | inr refused ↦ absurd (none-some first refused.0)
          ]
          | inr later ↦ agree_cases others so_far t points later.0 later.1 p within sooner
        ]
