-- Until when contingent points must complete, and which points each point activates.
use Rattle.std.proofs.Common.{◌≡◌, ◌≢◌, ◌⊎◌, ℕ, ◌+◌, ◌<◌, ◌≤◌, Bool, true, false, cond, List, [], length, get_or, take, Option, Some, None, refl, ap, sym, subst, ◌∙◌, inl, inr, arith}
use Rattle.std.specs.Prelude.{◌==◌, replicate, slice_set, nat_le, is_some, unsigned_abs, if◌then◌else◌}
use Rattle.std.specs.List.{All, Contains}
use Rattle.std.specs.Option.{option_map, option_map_or, option_and_then}
use Rattle.std.proofs.lemmas.Bool.{cases_lt, cases_eq, eqb-true}
use Rattle.std.proofs.lemmas.Bool.Decides.{nat_tests}
use Rattle.std.proofs.lemmas.List.{get_or_past, get_or-set_same, get_or-set_other, get_or-replicate, length-replicate, take_more, take_all}
use Rattle.std.proofs.lemmas.List.Elements.{All-nil, Contains-push_cases}
use Rattle.std.proofs.lemmas.List.Sums.{count_by_more_no}
use Rattle.std.proofs.lemmas.Option.{none-some}
use Rattle.closure_model.proofs.Lists.{Contains-none}
use Rattle.closure_model.proofs.OrderLemmas.{IsFound, find_some}
use Rattle.net_model.specs.declared.ids.PointId.{PointId}
use Rattle.net_model.specs.declared.part.Link.{Link}
use Rattle.net_model.specs.Moments.{Moments, moment_of}
use Rattle.tournament_queue.specs.First.{IsFirstDue}
use Rattle.execution_model.specs.Execution.{Setting, has_come, link_to}
use Rattle.execution_model.specs.Feeds.{completed_at, latest_of, is_overdue}
use Rattle.execution_model.proofs.MomentLemmas.{moment_of_other}
use Rattle.live_executor.specs.ExpectedPoints.{AreActivated, AreActivatedBy, IsNotActivatedBy, AreLatest, IsLatestOrKept}
use Rattle.live_executor.specs.Sound.{IsLinkWithin}
use Rattle.live_executor.specs.WokenPoints.{times}
use Rattle.live_executor.specs.Wakes.{list_at, added_to_list}
use Rattle.live_executor.proofs.WakesLemmas.{length-added_to_list, added_same, added_other, added_inside}

-- ---- which points each point activates
abbrev one_if : Bool → ℕ
one_if b = cond b 1 0

empty_at : (points : ℕ) (point : PointId) → list_at (replicate points []) point ≡ []
empty_at points point = elim (cases_lt point.0 points) [
  | inl inside ↦ get_or-replicate points point.0 [] [] inside
  | inr past ↦ get_or_past (replicate points []) point.0 [] (let long = length-replicate {A = List PointId} points [] in omega (arith, past, long))
]

pub no_links : (points : ℕ) (lists : List (List PointId)) → lists ≡ replicate points [] → AreActivated [] points lists
no_links points lists is = record {
  count = ap (λ (ls : List (List PointId)). length ls) is ∙ length-replicate points [];
  activated = λ link among. absurd (Contains-none link among);
  inside = λ point.
      subst (λ (ps : List PointId). All (λ (other : PointId). other.0 < points) ps) (sym (ap (λ (ls : List (List PointId)). list_at ls point) is ∙ empty_at points point)) (All-nil (λ (other : PointId). other.0 < points));
}

module _ (links : List Link) (points : ℕ) (lists : List (List PointId)) (i : ℕ) (d : Link) (inside : i < length links) (are : AreActivated (take i links) points lists) (sound : IsLinkWithin points (get_or links i d)) where
  abbrev next : Link
  next = get_or links i d

  abbrev more : List (List PointId)
  more = added_to_list lists next.from next.to

  place_inside : next.from.0 < length lists
  place_inside = (let low = sound.from_point in omega (arith, low, are.count))

  no_fewer : (p other : PointId) → times (list_at lists p) other ≤ times (list_at more p) other
  no_fewer p other = by (next.to.0 == other.0) refl
    where
      by : (b : Bool) → next.to.0 == other.0 ≡ b → times (list_at lists p) other ≤ times (list_at more p) other
      by true same =
          (let grows = added_same lists next.from next.to place_inside p in
          subst (λ (k : ℕ). times (list_at lists p) (record { 0 = k }) ≤ times (list_at more p) (record { 0 = k })) (eqb-true next.to.0 other.0 same) (omega (arith, grows)))
      by false apart = (let same = added_other lists next.from next.to place_inside p other apart in omega (arith, same))

  new_there : 1 ≤ times (list_at more next.from) next.to
  new_there =
      let grows = added_same lists next.from next.to place_inside next.from in
      let here : next.from.0 == next.from.0 ≡ true = grind (arith, nat_tests) in
      let one : one_if (next.from.0 == next.from.0) ≡ 1 = ap one_if here in
      omega (arith, grows, one)

  pub one_link_more : AreActivated (take (i + 1) links) points more
  one_link_more = record {
    count = length-added_to_list lists next.from next.to ∙ are.count;
    activated = λ link among.
        elim (Contains-push_cases (take i links) next link (subst (λ (ls : List Link). Contains ls link) (take_more links i d inside) among)) [
          | inl before ↦ (let some = are.activated link before in let grows = no_fewer link.from link.to in omega (arith, some, grows))
          | inr is ↦ subst (λ (l : Link). 1 ≤ times (list_at more l.from) l.to) is new_there
        ];
    inside = λ p. added_inside lists next.from next.to place_inside points sound.to_point p (are.inside p);
  }

-- ---- until when points must complete
-- the moment by which the contingent point of a link must complete, if the link is active
abbrev until : Moments → Link → Option ℕ
until moments link = option_map (λ a. a + unsigned_abs link.high) (moment_of moments link.from)

abbrev none_come_of : ℕ → Moments
none_come_of points = replicate points None

-- if none has come none is expected
pub none_expected : (setting : Setting) → AreLatest setting (replicate (length setting.dispatch) None) (replicate (length setting.dispatch) None)
none_expected setting = record {
  count = length-replicate (length setting.dispatch) None;
  each = λ point inside.
      none_in point ∙ sym (ap (λ (o : Option ℕ). if is_some o then None else option_and_then (λ link. until (none_come_of (length setting.dispatch)) link) (link_to setting point)) (none_in point) ∙ none_until (link_to setting point));
}
  where
    none_in : (point : PointId) → moment_of (none_come_of (length setting.dispatch)) point ≡ None
    none_in point = elim (cases_lt point.0 (length setting.dispatch)) [
      | inl inside ↦ get_or-replicate (length setting.dispatch) point.0 None None inside
      | inr past ↦ get_or_past (none_come_of (length setting.dispatch)) point.0 None (let long = length-replicate {A = Option ℕ} (length setting.dispatch) None in omega (arith, past, long))
    ]

    none_until : (found : Option Link) → option_and_then (λ link. until (none_come_of (length setting.dispatch)) link) found ≡ None
    none_until None = refl
    none_until (Some link) = ap (option_map (λ a. a + unsigned_abs link.high)) (none_in link.from)

module _ (setting : Setting) (moments : Moments) (moment : ℕ) (point : PointId) where
  abbrev come : Moments
  come = completed_at moments moment point

  -- another point that this one does not activate has the latest moment that it had
  pub latest_stays : (other : PointId) → other.0 ≢ point.0 → IsNotActivatedBy setting.links point other → latest_of setting moments other ≡ latest_of setting come other
  latest_stays other apart none =
      let same = moment_of_other moments moment point other apart in
      ap (λ (o : Option ℕ). if is_some o then None else option_and_then (λ link. until moments link) (link_to setting other)) (sym same)
      ∙ ap (λ (o : Option ℕ). if is_some (moment_of come other) then None else o) (by (link_to setting other) refl)
    where
      by : (found : Option Link) → link_to setting other ≡ found → option_and_then (λ link. until moments link) found ≡ option_and_then (λ link. until come link) found
      by None is = refl
      by (Some link) is =
          let found : IsFound (λ (l : Link). l.to.0 == other.0) setting.links link = find_some (λ (l : Link). l.to.0 == other.0) setting.links link is in
          let not_from : link.from.0 ≢ point.0 = (λ from. none link found.inside from (eqb-true link.to.0 other.0 found.passes)) in
          ap (λ (o : Option ℕ). option_map (λ a. a + unsigned_abs link.high) o) (sym (moment_of_other moments moment point link.from not_from))

  -- so the latest moments are known after the point has come
  pub latest_after : (old new : Moments) → AreLatest setting moments old → length new ≡ length old
      → ((other : PointId) → IsLatestOrKept setting come point old new other) → AreLatest setting come new
  latest_after old new before count found = record {
    count = count ∙ before.count;
    each = λ other inside. elim (found other) [
      | inl is ↦ is
      | inr kept ↦ kept.0 ∙ (before.each other inside ∙ latest_stays other kept.1 kept.2)
    ];
  }

-- ---- none is overdue before the first of the latest moments
module _ (setting : Setting) (moments : Moments) (moment : ℕ) (latest : Moments) (are : AreLatest setting moments latest) where
  by_latest : (o : Option ℕ) → ((l : ℕ) → o ≡ Some l → moment < l) → option_map_or (λ l. nat_le l moment) o false ≡ false
  by_latest None later = refl
  by_latest (Some l) later = (let more = later l refl in let no : nat_le l moment ≡ false = grind (arith, nat_tests) in no)

  pub none_before_first : (first : ℕ × PointId) → IsFirstDue latest (Some first) → moment < first.0 → (j : ℕ) → j < length setting.dispatch → is_overdue setting moments moment (record { 0 = j }) ≡ false
  none_before_first first is later j inside =
      let point : PointId = record { 0 = j } in
      by_latest (latest_of setting moments point) (λ l its.
      elim (is.2 point l (omega (arith, inside, are.count)) (are.each point inside ∙ its)) [ inl sooner ↦ omega (arith, later, sooner) | inr same ↦ (let equal = same.0 in omega (arith, later, equal)) ])

  pub none_without_first : IsFirstDue latest None → (j : ℕ) → j < length setting.dispatch → is_overdue setting moments moment (record { 0 = j }) ≡ false
  none_without_first none j inside =
      let point : PointId = record { 0 = j } in
      by_latest (latest_of setting moments point) (λ l its. absurd (none-some l (sym (none point (omega (arith, inside, are.count))) ∙ (are.each point inside ∙ its))))

-- ---- the latest moments, found one after another
module _ (setting : Setting) (moments : Moments) (come : PointId) (points : List PointId) (old : Moments) where
  -- of the first points of a list, and of the point itself, the latest moment is found; of others it is what it was
  abbrev pub IsNoted : (i : ℕ) → (now : Moments) → PointId → Type 0
  IsNoted i now other = (moment_of now other ≡ latest_of setting moments other) ⊎ ((moment_of now other ≡ moment_of old other) × (other.0 ≢ come.0) × (times (take i points) other ≡ 0))

  pub first_noted : come.0 < length old → has_come moments come ≡ true → (other : PointId) → IsNoted 0 (slice_set old come.0 None) other
  first_noted inside here other = elim (cases_eq other.0 come.0) [
    | inl same ↦ inl (subst (λ (k : ℕ). moment_of (slice_set old come.0 None) (record { 0 = k }) ≡ latest_of setting moments (record { 0 = k })) (sym same)
        (get_or-set_same old come.0 None None inside ∙ sym (ap (λ (b : Bool). if b then None else option_and_then (λ link. until moments link) (link_to setting come)) here)))
    | inr apart ↦ inr (get_or-set_other old come.0 other.0 None None apart, apart, refl)
  ]

  pub noted_more : (i : ℕ) (d : PointId) (now : Moments) (latest : Option ℕ) → i < length points → (get_or points i d).0 < length now → latest ≡ latest_of setting moments (get_or points i d)
      → (other : PointId) → IsNoted i now other → IsNoted (i + 1) (slice_set now (get_or points i d).0 latest) other
  noted_more i d now latest inside within is other before = elim (cases_eq other.0 (get_or points i d).0) [
    | inl same ↦ inl (subst (λ (k : ℕ). moment_of (slice_set now (get_or points i d).0 latest) (record { 0 = k }) ≡ latest_of setting moments (record { 0 = k })) (sym same)
        (get_or-set_same now (get_or points i d).0 latest None within ∙ is))
    | inr apart ↦ (let kept = get_or-set_other now (get_or points i d).0 other.0 latest None apart in
        elim before [
          | inl found ↦ inl (kept ∙ found)
          | inr was ↦ inr (kept ∙ was.0, was.1, count_by_more_no (λ (p : PointId). p.0 == other.0) points i d inside (let differs : (get_or points i d).0 == other.0 ≡ false = grind (arith, nat_tests) in differs) ∙ was.2)
        ])
  ]

  pub all_noted : AreActivatedBy setting.links come points → (now : Moments) (other : PointId) → IsNoted (length points) now other → IsLatestOrKept setting moments come old now other
  all_noted activated now other noted = elim noted [
    | inl found ↦ inl found
    | inr was ↦ inr (
      was.0,
      was.1,
      λ link among from is.
          let some = activated link among from in
          let none : times points other ≡ 0 = ap (λ (ps : List PointId). times ps other) (sym (take_all (length points) points (omega arith))) ∙ was.2 in
          let same = ap (λ (k : ℕ). times points (record { 0 = k })) is in
          omega (arith, some, none, same),
    )
  ]
