-- When active links complete: the first completion, and what completes at a moment.
use Rattle.std.proofs.Common.{◌≡◌, ◌≢◌, ℕ, zero, suc, ◌+◌, ◌<◌, ◌≤◌, ◌==◌, ◌⊎◌, Bool, true, false, cond, eq-eqb, List, [], ◌∷◌, ◌++◌, length, take, get_or, map, filter, fold, min, Option, Some, None, inl, inr, refl, ap, sym, subst, ◌∙◌}
use Rattle.std.proofs.Common.{arith}
use Rattle.std.specs.Prelude.{slice_get}
use Rattle.std.specs.List.{All, AllPairs, AllByRecursion, Contains, IsDistinct, zip}
use Rattle.std.specs.Option.{IsSomeAnd, option_map, option_map_or}
use Rattle.std.proofs.lemmas.Bool.{true≢false, eqb-true, ne_eqb}
use Rattle.std.proofs.lemmas.List.{map-append}
use Rattle.std.proofs.lemmas.List.Elements.{All-head, All-tail, filter_more}
use Rattle.std.proofs.lemmas.Option.{none-some, same_Some}
use Rattle.net_model.specs.declared.ids.PointId.{PointId}
use Rattle.net_model.specs.declared.part.Link.{Link}
use Rattle.closure_model.proofs.Lists.{Contains-head, Contains-tail, Contains-none, Contains-cases}
use Rattle.strategy_model.specs.Plays.{same_point}
use Rattle.net_model.specs.Moments.{Moments, moment_of}
use Rattle.situation_player.specs.PlayedDays.{lasting_in, lastings_of, completion, sooner, first_completion, completes_at, completing_at}
use Rattle.situation_player.specs.declared.played_day.Lasting.{Lasting}

-- no later than a moment
abbrev pub IsBy : Option ℕ → ℕ → Type 0
IsBy o t = IsSomeAnd o (λ m. m ≤ t)

-- ---- the sooner of two
pub sooner_first : (first second : Option ℕ) (t : ℕ) → IsBy first t → IsBy (sooner first second) t
sooner_first None second t by = absurd by
sooner_first (Some a) None t by = by
sooner_first (Some a) (Some b) t by = omega (arith, by)

pub sooner_second : (first second : Option ℕ) (t : ℕ) → IsBy second t → IsBy (sooner first second) t
sooner_second None second t by = by
sooner_second (Some a) None t by = absurd by
sooner_second (Some a) (Some b) t by = omega (arith, by)

lesser : (a b m : ℕ) → min a b ≡ m → (a ≡ m) ⊎ (b ≡ m)
lesser a b m is = grind arith

pub sooner_is : (first second : Option ℕ) (m : ℕ) → sooner first second ≡ Some m → (first ≡ Some m) ⊎ (second ≡ Some m)
sooner_is None second m is = inr is
sooner_is (Some a) None m is = inl is
sooner_is (Some a) (Some b) m is =
    elim (lesser a b m (same_Some (min a b) m is)) [ inl first ↦ inl (ap Some first) | inr second ↦ inr (ap Some second) ]

-- ---- the first completion
module _ (moments : Moments) where
  abbrev step : Option ℕ → Lasting → Option ℕ
  step first lasting = sooner first (completion moments lasting)

  fold_by : (lastings : List Lasting) (first : Option ℕ) (t : ℕ) → IsBy first t → IsBy (fold step first lastings) t
  fold_by [] first t by = by
  fold_by (lasting ∷ others) first t by = fold_by others (step first lasting) t (sooner_first first (completion moments lasting) t by)

  fold_by_one : (lastings : List Lasting) (first : Option ℕ) (lasting : Lasting) (t : ℕ) → Contains lastings lasting → IsBy (completion moments lasting) t → IsBy (fold step first lastings) t
  fold_by_one [] first lasting t among by = absurd (Contains-none lasting among)
  fold_by_one (one ∷ others) first lasting t among by =
      elim (Contains-cases one others lasting among) [
        | inl same ↦ fold_by others (step first one) t (sooner_second first (completion moments one) t (subst (λ (l : Lasting). IsBy (completion moments l) t) (sym same) by))
        | inr later ↦ fold_by_one others (step first one) lasting t later by
      ]

  -- it is no later than any
  pub first_by : (lastings : List Lasting) (lasting : Lasting) (completed : ℕ) → Contains lastings lasting → completion moments lasting ≡ Some completed
      → IsBy (first_completion moments lastings) completed
  first_by lastings lasting completed among is =
      let low : completed ≤ completed = omega arith in
      fold_by_one lastings None lasting completed among (subst (λ (o : Option ℕ). IsBy o completed) (sym is) low)

  pub record Completes (lastings : List Lasting) (moment : ℕ) : Type 0 where
    pub lasting : Lasting
    pub among : Contains lastings lasting
    pub is : completion moments lasting ≡ Some moment

  fold_is : (lastings : List Lasting) (first : Option ℕ) (m : ℕ) → fold step first lastings ≡ Some m → (first ≡ Some m) ⊎ Completes lastings m
  fold_is [] first m is = inl is
  fold_is (lasting ∷ others) first m is =
      elim (fold_is others (step first lasting) m is) [
        | inl here ↦ elim (sooner_is first (completion moments lasting) m here) [
          | inl before ↦ inl before
          | inr its ↦ inr (record { lasting = lasting; among = Contains-head lasting others; is = its })
        ]
        | inr later ↦ inr (record { lasting = later.lasting; among = Contains-tail lasting others later.lasting later.among; is = later.is })
      ]

  -- and that of one
  pub first_is : (lastings : List Lasting) (m : ℕ) → first_completion moments lastings ≡ Some m → Completes lastings m
  first_is lastings m is = elim (fold_is lastings None m is) [ inl none ↦ absurd (none-some m none) | inr one ↦ one ]

  -- ---- what a completion says
  pub record Active (lasting : Lasting) (completed : ℕ) : Type 0 where
    pub activated : ℕ
    pub unknown : moment_of moments lasting.to ≡ None
    pub active : moment_of moments lasting.from ≡ Some activated
    pub later : activated + lasting.duration ≡ completed

  pub active_from : (lasting : Lasting) (completed : ℕ) → completion moments lasting ≡ Some completed → Active lasting completed
  active_from lasting completed is = by (moment_of moments lasting.to) (moment_of moments lasting.from) refl refl is
    where
      by : (to from : Option ℕ) → moment_of moments lasting.to ≡ to → moment_of moments lasting.from ≡ from
          → (elim to [ Some m ↦ None | None ↦ option_map (λ activated. activated + lasting.duration) from ]) ≡ Some completed → Active lasting completed
      by (Some m) from known from_start so = absurd (none-some completed so)
      by None None not_come from_start so = absurd (none-some completed so)
      by None (Some a) not_come from_start so = record { activated = a; unknown = not_come; active = from_start; later = same_Some (a + lasting.duration) completed so }

  pub completion_from : (lasting : Lasting) (activated : ℕ) → moment_of moments lasting.to ≡ None → moment_of moments lasting.from ≡ Some activated
      → completion moments lasting ≡ Some (activated + lasting.duration)
  completion_from lasting activated unknown from_start = by (moment_of moments lasting.to) (moment_of moments lasting.from) unknown from_start
    where
      by : (to from : Option ℕ) → to ≡ None → from ≡ Some activated
          → (elim to [ Some m ↦ None | None ↦ option_map (λ a. a + lasting.duration) from ]) ≡ Some (activated + lasting.duration)
      by (Some m) from not_come so = absurd (none-some m (sym not_come))
      by None None not_come so = absurd (none-some activated so)
      by None (Some a) not_come so = ap (λ (n : ℕ). Some (n + lasting.duration)) (same_Some a activated so)

-- ---- links with their durations
pub zipped : (links : List Link) (durations : List ℕ) (pair : Link × ℕ) → Contains (zip links durations) pair
    → (k : ℕ) × (slice_get links k ≡ Some pair.0) × (slice_get durations k ≡ Some pair.1)
zipped [] durations pair among = absurd (Contains-none pair among)
zipped (link ∷ links) [] pair among = absurd (Contains-none pair among)
zipped (link ∷ links) (duration ∷ durations) pair among =
    elim (Contains-cases (link, duration) (zip links durations) pair among) [
      | inl same ↦ (0, ap (λ (p : Link × ℕ). Some p.0) same, ap (λ (p : Link × ℕ). Some p.1) same)
      | inr later ↦ (let (k, first, second) = zipped links durations pair later in (suc k, first, second))
    ]

pub zips : (links : List Link) (durations : List ℕ) (k : ℕ) (link : Link) (duration : ℕ) → slice_get links k ≡ Some link → slice_get durations k ≡ Some duration
    → Contains (zip links durations) (link, duration)
zips [] durations k link duration declared lasts = absurd (none-some link declared)
zips (l ∷ links) [] k link duration declared lasts = absurd (none-some duration lasts)
zips (l ∷ links) (d ∷ durations) zero link duration declared lasts =
    let first = same_Some l link declared in
    let second = same_Some d duration lasts in
    let same : ◌≡◌ {A = Link × ℕ} (l, d) (link, duration) = ap (λ (x : Link). (x, d)) first ∙ ap (λ (x : ℕ). (link, x)) second in
    subst (λ (p : Link × ℕ). Contains ((l, d) ∷ zip links durations) p) same (Contains-head (l, d) (zip links durations))
zips (l ∷ links) (d ∷ durations) (suc k) link duration declared lasts =
    Contains-tail (l, d) (zip links durations) (link, duration) (zips links durations k link duration declared lasts)

-- ---- what completes at a moment
module _ (moments : Moments) (moment : ℕ) where
  completes_from : (o : Option ℕ) → option_map_or (λ completed. completed == moment) o false ≡ true → o ≡ Some moment
  completes_from None is = absurd (true≢false (sym is))
  completes_from (Some completed) is = ap Some (eqb-true completed moment is)

  completes_so : (lasting : Lasting) → completion moments lasting ≡ Some moment → completes_at moments moment lasting ≡ true
  completes_so lasting is = let same : (moment == moment) ≡ true = eq-eqb moment moment refl in rw is same

  abbrev kept : Bool → Lasting → List Lasting → List PointId
  kept test lasting rest = map (λ (l : Lasting). l.to) (cond test (lasting ∷ rest) rest)

  pub record Completing (lastings : List Lasting) (point : PointId) : Type 0 where
    pub lasting : Lasting
    pub among : Contains lastings lasting
    pub is : completion moments lasting ≡ Some moment
    pub ends : lasting.to ≡ point

  pub completing_is : (lastings : List Lasting) (point : PointId) → Contains (completing_at moments moment lastings) point → Completing lastings point
  completing_is [] point among = absurd (Contains-none point among)
  completing_is (lasting ∷ others) point among = by (λ rest. completing_is others point rest) (completes_at moments moment lasting) refl among
    where
      later : Completing others point → Completing (lasting ∷ others) point
      later is = record { lasting = is.lasting; among = Contains-tail lasting others is.lasting is.among; is = is.is; ends = is.ends }

      by : (Contains (completing_at moments moment others) point → Completing others point) → (test : Bool) → completes_at moments moment lasting ≡ test → Contains (kept test lasting (filter (completes_at moments moment) others)) point
          → Completing (lasting ∷ others) point
      by so_others false not among = later (so_others among)
      by so_others true so among =
          elim (Contains-cases lasting.to (completing_at moments moment others) point among) [
            | inl same ↦ record { lasting = lasting; among = Contains-head lasting others; is = completes_from (completion moments lasting) so; ends = same }
            | inr rest ↦ later (so_others rest)
          ]

  pub is_completing : (lastings : List Lasting) (lasting : Lasting) → Contains lastings lasting → completion moments lasting ≡ Some moment
      → Contains (completing_at moments moment lastings) lasting.to
  is_completing [] lasting among is = absurd (Contains-none lasting among)
  is_completing (one ∷ others) lasting among is =
      by (λ later. is_completing others lasting later is) (completes_at moments moment one) refl (Contains-cases one others lasting among)
    where
      by : (Contains others lasting → Contains (completing_at moments moment others) lasting.to) → (test : Bool) → completes_at moments moment one ≡ test → (one ≡ lasting) ⊎ Contains others lasting
          → Contains (kept test one (filter (completes_at moments moment) others)) lasting.to
      by rest true so (inl same) =
          subst (λ (l : Lasting). Contains (one.to ∷ completing_at moments moment others) l.to) same (Contains-head one.to (completing_at moments moment others))
      by rest true so (inr later) = Contains-tail one.to (completing_at moments moment others) lasting.to (rest later)
      by rest false not (inl same) =
          absurd (true≢false (sym (completes_so one (subst (λ (l : Lasting). completion moments l ≡ Some moment) (sym same) is)) ∙ not))
      by rest false not (inr later) = rest later

  abbrev Apart : Link → Link → Type 0
  Apart l m = l.to.0 ≢ m.to.0

  others_apart : (link : Link) (links : List Link) (durations : List ℕ) → All (Apart link) links
      → AllByRecursion (λ point. same_point link.to point ≡ false) (completing_at moments moment (lastings_of links durations))
  others_apart link [] durations apart = tt
  others_apart link (l ∷ links) [] apart = tt
  others_apart link (l ∷ links) (d ∷ durations) apart =
      by (completes_at moments moment (lasting_in (l, d))) (others_apart link links durations (All-tail (Apart link) l links apart))
    where
      by : (test : Bool) → AllByRecursion (λ point. same_point link.to point ≡ false) (completing_at moments moment (lastings_of links durations))
          → AllByRecursion (λ point. same_point link.to point ≡ false) (kept test (lasting_in (l, d)) (filter (completes_at moments moment) (lastings_of links durations)))
      by true rest = (ne_eqb link.to.0 l.to.0 (All-head (Apart link) l links apart), rest)
      by false rest = rest

  pub completing_once : (links : List Link) (durations : List ℕ) → AllPairs Apart links → IsDistinct same_point (completing_at moments moment (lastings_of links durations))
  unfolding IsDistinct
  completing_once [] durations apart = tt
  completing_once (link ∷ links) [] apart = tt
  completing_once (link ∷ links) (d ∷ durations) apart =
      by (completes_at moments moment (lasting_in (link, d))) (others_apart link links durations (λ k e inside. apart 0 (suc k) e (omega arith) (omega (arith, inside))))
      (completing_once links durations (λ i j e less inside. apart (suc i) (suc j) e (omega (arith, less)) (omega (arith, inside))))
    where
      by : (test : Bool) → AllByRecursion (λ point. same_point link.to point ≡ false) (completing_at moments moment (lastings_of links durations))
          → IsDistinct same_point (completing_at moments moment (lastings_of links durations))
          → IsDistinct same_point (kept test (lasting_in (link, d)) (filter (completes_at moments moment) (lastings_of links durations)))
      by true others rest = (others, rest)
      by false others rest = rest

  -- what completes among one more
  pub completing_more : (lastings : List Lasting) (k : ℕ) (d : Lasting) (test : Bool) (so_far after : List PointId) → k < length lastings
      → test ≡ completes_at moments moment (get_or lastings k d) → so_far ≡ completing_at moments moment (take k lastings)
      → after ≡ so_far ++ map (λ (l : Lasting). l.to) (cond test (get_or lastings k d ∷ []) []) → after ≡ completing_at moments moment (take (k + 1) lastings)
  completing_more lastings k d test so_far after inside is so added =
      let ends : List Lasting → List PointId = map (λ (l : Lasting). l.to) in
      let one = get_or lastings k d in
      added ∙ ap (λ (ps : List PointId). ps ++ ends (cond test (one ∷ []) [])) so
      ∙ ap (λ (b : Bool). completing_at moments moment (take k lastings) ++ ends (cond b (one ∷ []) [])) is
      ∙ sym (ap ends (filter_more (completes_at moments moment) lastings k d inside)
      ∙ map-append (λ (l : Lasting). l.to) (filter (completes_at moments moment) (take k lastings)) (cond (completes_at moments moment one) (one ∷ []) []))
