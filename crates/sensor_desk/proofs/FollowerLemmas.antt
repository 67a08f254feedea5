-- What looks at the links of open points find, one after another.
use Rattle.std.proofs.Common.{◌≡◌, ◌≢◌, ℕ, ◌+◌, ◌-◌, ◌<◌, ◌≤◌, ◌⊎◌, Bool, true, false, cond, List, [], ◌∷◌, ◌++◌, length, get_or, map, filter, Option, Some, None, is_some, Result, Ok, Err, refl, ap, sym, subst, ◌∙◌, inl, inr, arith, rules}
use Rattle.std.specs.Prelude.{nat_lt, find, take}
use Rattle.std.specs.List.{All}
use Rattle.std.specs.Option.{option_map, option_or}
use Rattle.std.proofs.lemmas.Bool.{cases_eq}
use Rattle.std.proofs.lemmas.List.{map-append, append_assoc, append-nil, length-map, length-append, get_or-map}
use Rattle.std.proofs.lemmas.List.Elements.{All-nil, All-push, All-filter, All-map, filter-append}
use Rattle.std.proofs.lemmas.List.Folds.{find-append}
use Rattle.std.proofs.lemmas.List.FromFn.{filter_of_map_range_with_len_more}
use Rattle.std.proofs.lemmas.List.Sums.{length-filter, count_by-le-length}
use Rattle.std.proofs.lemmas.Option.{none-some, same_Some}
use Rattle.net_model.specs.Moments.{Moments}
use Rattle.net_model.specs.Network.{Plan, IsPlan}
use Rattle.net_model.specs.declared.ids.LinkId.{LinkId}
use Rattle.net_model.specs.declared.ids.PointId.{PointId}
use Rattle.execution_model.specs.Earliest.{FeedsEarliest}
use Rattle.execution_model.specs.Feeds.{Execution, IsFed, after_feed, taken}
use Rattle.execution_model.specs.declared.feed_answers.Fed.{Fed}
use Rattle.execution_model.specs.declared.feed_answers.Fed.TheVariants as fed
use Rattle.execution_model.specs.declared.feed_answers.Why.{Why}
use Rattle.sensor_desk.specs.declared.follow_result.Followed.{Followed}
use Rattle.sensor_desk.specs.declared.follow_result.Followed.TheVariants as followed
use Rattle.sensor_desk.specs.Follower.{IsExecutionFor, open_link, is_open_in, open_among, Finding, IsFinding, look_of, AreFindings, IsFollowingResult, has_gone, is_now, late_of, first_late, listed_at, Sees, passes, looks, late_after}
use Rattle.sensor_desk.specs.Follower.{listed_after, AreFindingsSoFar}
use Rattle.sensor_desk.specs.Desks.{DeskSeen, DeskSeatSeen, IsSeatOfDesk, Looks}
use Rattle.sensor_desk.specs.Steps.{IsFoundMoment}
use Rattle.sensor_desk.specs.Views.{looked}
use Rattle.sensor_desk.specs.Words.{held}
use Rattle.sensor_desk.specs.declared.view.Look.{Look}
use Rattle.sensor_desk.proofs.RuleLemmas.{held_none, held_some}
use Rattle.sensor_desk.proofs.OpenLemmas.{point_at, few_open, below}

-- ---- what one finding more changes
module _ (moment : ℕ) (findings : List Finding) (finding : Finding) where
  abbrev gone : Finding → Bool
  gone other = has_gone moment (held other.word)

  abbrev now : Finding → Bool
  now other = is_now moment (held other.word)

  posted_is : (posted : ℕ) → held finding.word ≡ Some posted → finding.word - 1 ≡ posted
  posted_is posted is = by (cases_eq finding.word 0)
    where
      by : (finding.word ≡ 0) ⊎ (finding.word ≢ 0) → finding.word - 1 ≡ posted
      by (inl none) = absurd (none-some posted (sym (held_none finding.word none) ∙ is))
      by (inr some) = same_Some (finding.word - 1) posted (sym (held_some finding.word some) ∙ is)

  -- the finding alone
  one_found : (b : Bool) → gone finding ≡ b → find gone (finding ∷ []) ≡ cond b (Some finding) None
  one_found b is = search rules

  late_gone : (found : Option ℕ) → held finding.word ≡ found → option_map late_of (find gone (finding ∷ [])) ≡ late_after moment None finding.point found
  late_gone None is = ap (option_map late_of) (one_found false (ap (has_gone moment) is))
  late_gone (Some posted) is = by (nat_lt posted moment) refl
    where
      by : (b : Bool) → nat_lt posted moment ≡ b → option_map late_of (find gone (finding ∷ [])) ≡ late_after moment None finding.point (Some posted)
      by true less =
          ap (option_map late_of) (one_found true (ap (has_gone moment) is ∙ less))
          ∙ (ap (λ (n : ℕ). Some (finding.point, n)) (posted_is posted is) ∙ ap (λ (b : Bool). cond b (Some (finding.point, posted)) None) (sym less))
      by false not_less = ap (option_map late_of) (one_found false (ap (has_gone moment) is ∙ not_less)) ∙ ap (λ (b : Bool). cond b (Some (finding.point, posted)) None) (sym not_less)

  late_one : (first : Option Finding) → option_map late_of (option_or first (find gone (finding ∷ []))) ≡ late_after moment (option_map late_of first) finding.point (held finding.word)
  late_one (Some first) = refl
  late_one None = late_gone (held finding.word) refl

  pub late_more : first_late moment (findings ++ finding ∷ []) ≡ late_after moment (first_late moment findings) finding.point (held finding.word)
  late_more = ap (option_map late_of) (find-append gone findings (finding ∷ [])) ∙ late_one (find gone findings)

  listed_one : (b : Bool) → now finding ≡ b → map (λ (s : Finding). s.point) (filter now (finding ∷ [])) ≡ cond b (finding.point ∷ []) []
  listed_one b is = search rules

  pub listed_more : listed_at moment (findings ++ finding ∷ []) ≡ listed_at moment findings ++ listed_after moment finding.point (held finding.word)
  listed_more =
      ap (map (λ (s : Finding). s.point)) (filter-append now findings (finding ∷ []))
      ∙ (map-append (λ (s : Finding). s.point) (filter now findings) (filter now (finding ∷ [])) ∙ ap (λ (l : List PointId). listed_at moment findings ++ l) (listed_one (now finding) refl))

pub still_late : (moment : ℕ) (late : Option (PointId × ℕ)) (point : PointId) → late_after moment late point None ≡ late
still_late moment None point = refl
still_late moment (Some first) point = refl

no_more : (n : ℕ) → n + 0 ≡ n
no_more n = omega arith

pub listed_few : (moment : ℕ) (findings : List Finding) → length (listed_at moment findings) ≤ length findings
listed_few moment findings =
    let mapped = length-map (filter (λ (s : Finding). is_now moment (held s.word)) findings) (λ (s : Finding). s.point) in
    let counted = length-filter (λ (s : Finding). is_now moment (held s.word)) findings in
    let few = count_by-le-length (λ (s : Finding). is_now moment (held s.word)) findings in
    omega (arith, mapped, counted, few)

-- ---- the findings so far
module _ (net : Plan) (moments : Moments) (moment : ℕ) (before : DeskSeatSeen) where
  pub no_findings : (room : List PointId) → AreFindingsSoFar net moments moment 0 before before room None 0
  no_findings room = record {
    findings = [];
    are = record {
      points = refl;
      each = All-nil (IsFinding net moments before.view);
      after_is = λ i. record { table = before.table; view = record before.view { looks = sym (append-nil before.view.looks) i } };
    };
    late_is = refl;
    listed_is = refl;
    listed_count = refl;
  }

  module _ (count : ℕ) (between after : DeskSeatSeen) where
    abbrev point : PointId
    point = point_at count

    more_open : (b : Bool) → is_open_in net moments point ≡ b → open_among net moments (count + 1) ≡ open_among net moments count ++ cond b (point ∷ []) []
    more_open b is =
        filter_of_map_range_with_len_more (is_open_in net moments) point_at 0 count count (omega arith) ∙ ap (λ (b : Bool). open_among net moments count ++ cond b (point ∷ []) []) is

    closed_is : open_link net moments point ≡ None → is_open_in net moments point ≡ false
    closed_is none = ap (λ (o : Option LinkId). is_some o) none

    passed : (findings : List Finding) → AreFindings net moments count before between findings → open_link net moments point ≡ None → after ≡ between → AreFindings net moments (count + 1) before after findings
    passed findings are none same = record {
      points = are.points ∙ (sym (append-nil (open_among net moments count)) ∙ sym (more_open false (closed_is none)));
      each = are.each;
      after_is = same ∙ are.after_is;
    }

    module _ (findings : List Finding) (are : AreFindings net moments count before between findings) (link : LinkId) (is : open_link net moments point ≡ Some link) (found : Option ℕ) (look : Looks between after link found) where
      abbrev pub finding : Finding
      finding = record { point = point; link = link; word = look.word }

      seen_before : IsFoundMoment before.view link look.word
      seen_before =
          let there = subst (λ (s : DeskSeatSeen). IsFoundMoment s.view link look.word) are.after_is look.found in
          record { entries = there.entries; past = record { steps = there.past.steps; history = there.past.history; notes = there.past.notes }; is = there.is }

      looks_are : looked between.view link look.word ≡ record before.view { looks = before.view.looks ++ map look_of (findings ++ finding ∷ []) }
      looks_are =
          ap (λ (s : DeskSeatSeen). looked s.view link look.word) are.after_is
          ∙ (λ i. record before.view {
            looks =
                (append_assoc before.view.looks (map look_of findings) (look_of finding ∷ [])
                ∙ ap (λ (l : List Look). before.view.looks ++ l) (sym (map-append look_of findings (finding ∷ [])))) i;
          })

      pub found_more : AreFindings net moments (count + 1) before after (findings ++ finding ∷ [])
      found_more = record {
        points = map-append (λ (s : Finding). s.point) findings (finding ∷ []) ∙ (ap (λ (l : List PointId). l ++ point ∷ []) are.points ∙ sym (more_open true (ap (λ (o : Option LinkId). is_some o) is)));
        each = All-push (IsFinding net moments before.view) findings finding are.each (record { link = is; found = seen_before });
        after_is = look.after_is ∙ (λ i. record { table = ap (λ (s : DeskSeatSeen). s.table) are.after_is i; view = looks_are i });
      }

    pub findings_more : (room capacity_after : List PointId) (late late_then : Option (PointId × ℕ)) (listed listed_then : ℕ) → AreFindingsSoFar net moments moment count before between room late listed → (found : Option ℕ)
        → Sees net moments point between after found → late_then ≡ late_after moment late point found → take listed_then capacity_after ≡ take listed room ++ listed_after moment point found
        → listed_then ≡ listed + length (listed_after moment point found) → AreFindingsSoFar net moments moment (count + 1) before after capacity_after late_then listed_then
    findings_more room capacity_after late late_then listed listed_then so_far found (passes none same other is_none) is_late taken counted = record {
      findings = so_far.findings;
      are = passed so_far.findings so_far.are none same;
      late_is = is_late ∙ (ap (late_after moment late point) is_none ∙ (still_late moment late point ∙ so_far.late_is));
      listed_is = taken ∙ (ap (λ (f : Option ℕ). take listed room ++ listed_after moment point f) is_none ∙ (append-nil (take listed room) ∙ so_far.listed_is));
      listed_count = counted ∙ (ap (λ (f : Option ℕ). listed + length (listed_after moment point f)) is_none ∙ (no_more listed ∙ so_far.listed_count));
    }
    findings_more room capacity_after late late_then listed listed_then so_far found (looks link is other look) is_late taken counted =
        let one : Finding = finding so_far.findings so_far.are link is found look in
        let more = listed_more moment so_far.findings one in record {
          findings = so_far.findings ++ one ∷ [];
          are = found_more so_far.findings so_far.are link is found look;
          late_is = is_late ∙ ((λ i. late_after moment (so_far.late_is i) point (look.given i)) ∙ sym (late_more moment so_far.findings one));
          listed_is = taken ∙ ((λ i. so_far.listed_is i ++ listed_after moment point (look.given i)) ∙ sym more);
          listed_count = counted
              ∙ ((λ i. so_far.listed_count i + length (listed_after moment point (look.given i)))
              ∙ (sym (length-append (listed_at moment so_far.findings) (listed_after moment point (held look.word))) ∙ ap (λ (l : List PointId). length l) (sym more)));
        }

    pub capacity_for : IsPlan net → (room : List PointId) (late : Option (PointId × ℕ)) (listed : ℕ) → AreFindingsSoFar net moments moment count before between room late listed → (found : Option ℕ)
        → Sees net moments point between after found → found ≡ Some moment → listed < length net.links
    capacity_for plan room late listed so_far found (passes none same other is_none) now_at = absurd (none-some moment (sym is_none ∙ now_at))
    capacity_for plan room late listed so_far found (looks link is other look) now_at =
        let next = found_more so_far.findings so_far.are link is found look in
        let few = few_open net plan moments (count + 1) in
        let long : length (so_far.findings ++ finding so_far.findings so_far.are link is found look ∷ []) ≡ length (open_among net moments (count + 1)) =
        sym (length-map (so_far.findings ++ finding so_far.findings so_far.are link is found look ∷ []) (λ (s : Finding). s.point)) ∙ ap (λ (l : List PointId). length l) next.points in
        let one = length-append so_far.findings (finding so_far.findings so_far.are link is found look ∷ []) in
        let fewer = listed_few moment so_far.findings in
        let counted = so_far.listed_count in
        omega (arith, few, long, one, fewer, counted)

  -- ---- all points
  pub points_few : IsPlan net → (count : ℕ) (after : DeskSeatSeen) (room : List PointId) (late : Option (PointId × ℕ)) (listed : ℕ) → AreFindingsSoFar net moments moment count before after room late listed
      → listed ≤ length net.links
  points_few plan count after room late listed all =
      let few = few_open net plan moments count in
      let long : length all.findings ≡ length (open_among net moments count) = sym (length-map all.findings (λ (s : Finding). s.point)) ∙ ap (λ (l : List PointId). length l) all.are.points in
      let fewer = listed_few moment all.findings in
      let counted = all.listed_count in
      omega (arith, few, long, fewer, counted)

  pub points_inside : (count : ℕ) (after : DeskSeatSeen) (findings : List Finding) → AreFindings net moments count before after findings → All (λ (point : PointId). point.0 < count) (listed_at moment findings)
  points_inside count after findings are =
      All-map (λ (point : PointId). point.0 < count) (λ (s : Finding). s.point) (filter (λ (s : Finding). is_now moment (held s.word)) findings)
      (All-filter (λ (s : Finding). is_now moment (held s.word)) (λ (s : Finding). s.point.0 < count) findings (λ k d less. inside k d less))
    where
      inside : (k : ℕ) (d : Finding) → k < length findings → (get_or findings k d).point.0 < count
      inside k d less =
          subst (λ (p : PointId). p.0 < count) (get_or-map (λ (s : Finding). s.point) findings k d d.point less)
          (subst (λ (l : List PointId). (get_or l k d.point).0 < count) (sym are.points)
          (below net moments count k d.point (subst (λ (n : ℕ). k < n) (sym (length-map findings (λ (s : Finding). s.point)) ∙ ap (λ (l : List PointId). length l) are.points) less)))

-- ---- what following comes to
module _ (moment : ℕ) (findings : List Finding) (before : Execution) (result : Followed) (after : Execution) where
  abbrev FollowedBy : Option (PointId × ℕ) → Type 0
  FollowedBy late =
      elim late [
        | Some first ↦ (result ≡ followed.Late first.0 first.1) × (after ≡ before)
        | None ↦ (answer : Fed) × (result ≡ followed.Fed answer) × IsFed before moment (listed_at moment findings) answer after
            × FeedsEarliest before moment (listed_at moment findings) answer after
      ]

  pub followed_by : (late : Option (PointId × ℕ)) → late ≡ first_late moment findings → FollowedBy late → IsFollowingResult moment findings before result after
  followed_by late is so = subst FollowedBy is so

-- a seat that looked is of the same desk
pub sees_seat : (desk : DeskSeen) (net : Plan) (moments : Moments) (point : PointId) (before after : DeskSeatSeen) (found : Option ℕ) → IsSeatOfDesk desk before → Sees net moments point before after found → IsSeatOfDesk desk after
sees_seat desk net moments at before after found of (passes none same other is_none) = subst (IsSeatOfDesk desk) (sym same) of
sees_seat desk net moments at before after found of (looks link is other look) = subst (IsSeatOfDesk desk) (sym look.after_is) (record { desk_is = of.desk_is; about_is = of.about_is })

-- an execution after a feed is of the same network
module _ (before : Execution) (moment : ℕ) (listed : List PointId) (answer : Fed) (after : Execution) where
  abbrev TakenTo : Result Moments Why → Type 0
  TakenTo (Err cause) = (answer ≡ fed.Refused cause) × (after ≡ record before { refused = Some cause })
  TakenTo (Ok moments) = (answer ≡ fed.Acts) × (after ≡ after_feed before moment moments)

  abbrev FedTo : Option Why → Type 0
  FedTo (Some cause) = (answer ≡ fed.Ended cause) × (after ≡ before)
  FedTo None = TakenTo (taken before moment listed)

  taken_setting : (result : Result Moments Why) → TakenTo result → after.setting ≡ before.setting
  taken_setting (Err cause) (answered, same) = ap (λ (e : Execution). e.setting) same
  taken_setting (Ok moments) (answered, same) = ap (λ (e : Execution). e.setting) same

  fed_setting : (refused : Option Why) → FedTo refused → after.setting ≡ before.setting
  fed_setting (Some cause) (answered, same) = ap (λ (e : Execution). e.setting) same
  fed_setting None is = taken_setting (taken before moment listed) is

  pub fed_for : (net : Plan) → IsExecutionFor net before → IsFed before moment listed answer after → IsExecutionFor net after
  fed_for net for is =
      let same : after.setting ≡ before.setting = fed_setting before.refused is in record {
        links = ap (λ s. s.links) same ∙ for.links;
        points = ap (λ s. length s.dispatch) same ∙ for.points;
      }
