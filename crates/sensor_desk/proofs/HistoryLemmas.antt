-- What stands after the histories of a desk: what a step noted stands after every later one.
use Rattle.std.proofs.Common.{◌≡◌, ◌≢◌, ℕ, ◌<◌, ◌⊎◌, List, length, get_or, Option, Some, None, ap, sym, subst, ◌∙◌, inl, inr}
use Rattle.std.specs.List.{All}
use Rattle.std.proofs.lemmas.Bool.{cases_eq}
use Rattle.std.proofs.lemmas.List.{get_or-set_same, get_or-set_other, length-set, length-replicate}
use Rattle.std.proofs.lemmas.List.Elements.{All-nil, All-push}
use Rattle.net_model.specs.declared.ids.LinkId.{LinkId}
use Rattle.sensor_desk.specs.DeskHistory.{Entries, DeskStep, DeskHistory, opens, steps, moment_at, moment_standing_after, noted_by, stepped, StandsNoted, WhatIsNotedStands}

module _ (entries : Entries) (step : DeskStep) (within : step.link.0 < length entries) where
  pub here : moment_at (stepped entries step) step.link ≡ noted_by step
  here = get_or-set_same entries step.link.0 (noted_by step) None within

  module _ (found : step.found ≡ moment_at entries step.link) (link : LinkId) (moment : ℕ) (stands : moment_at entries link ≡ Some moment) where
    pub stands_on : moment_at (stepped entries step) link ≡ Some moment
    stands_on = by (cases_eq link.0 step.link.0)
      where
        by : (link.0 ≡ step.link.0) ⊎ (link.0 ≢ step.link.0) → moment_at (stepped entries step) link ≡ Some moment
        by (inl same) =
            let there : moment_at entries step.link ≡ Some moment = ap (λ (n : ℕ). get_or entries n None) (sym same) ∙ stands in
            ap (λ (n : ℕ). get_or (stepped entries step) n None) same ∙ (here ∙ ap (λ (o : Option ℕ). moment_standing_after o step.post_moment) (found ∙ there))
        by (inr apart) = get_or-set_other entries step.link.0 link.0 (noted_by step) None apart ∙ stands

pub history_sized : (links : ℕ) (before : List DeskStep) (entries : Entries) → DeskHistory links before entries → length entries ≡ links
history_sized links _ _ (opens entries is) = ap (λ (l : Entries). length l) is ∙ length-replicate links None
history_sized links _ _ (steps before later entries after step history within found later_is after_is) =
    ap (λ (l : Entries). length l) after_is ∙ (length-set entries step.link.0 (noted_by step) ∙ history_sized links before entries history)

pub law_what_is_noted_stands : WhatIsNotedStands
law_what_is_noted_stands links _ _ (opens entries is) = All-nil (StandsNoted entries)
law_what_is_noted_stands links _ _ (steps before later entries after step history within found later_is after_is) =
    let sized = history_sized links before entries history in
    let inside : step.link.0 < length entries = subst (λ (n : ℕ). step.link.0 < n) (sym sized) within in
    let were = law_what_is_noted_stands links before entries history in
    subst (λ (p : List DeskStep × Entries). All (StandsNoted p.1) p.0) (λ i. (sym later_is i, sym after_is i))
    (All-push (StandsNoted (stepped entries step)) before step
    (λ k d lt moment statement. stands_on entries step inside found (get_or before k d).link moment (were k d lt moment statement))
    (λ moment statement. here entries step inside ∙ statement))
