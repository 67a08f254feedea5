-- Contingent points by the link that ends in them, what has passed, and points that are listed.
use Rattle.std.proofs.Common.{◌≡◌, ℕ, ◌+◌, ◌≤◌, ◌<◌, ℤ, true, false, List, length, Option, Some, None, is_some, ◌⊎◌, inl, inr, refl, ap, sym, subst, ◌∙◌}
use Rattle.std.specs.Prelude.{unsigned_abs, nat_le}
use Rattle.std.specs.List.{Contains}
use Rattle.std.specs.Option.{option_map_or}
use Rattle.std.proofs.lemmas.Bool.{cases_Bool, false_from_ne_true, le-leb, leb-true, true≢false}
use Rattle.net_model.specs.Network.{Plan, IsPlan, IsPoint, IsContingent, activation}
use Rattle.net_model.specs.declared.ids.PointId.{PointId}
use Rattle.net_model.specs.declared.part.Link.{Link}
use Rattle.closure_model.specs.Orders.{contains_point}
use Rattle.closure_model.proofs.OrderLemmas.{among_from, from_among}
use Rattle.strategy_model.proofs.PlayLemmas.{link_sound}
use Rattle.strategy_model.proofs.KnownLemmas.{some_from_none}
use Rattle.strategy_model.proofs.KindLemmas.{Ending, kind_of_any, ending_known}
use Rattle.net_model.specs.Moments.{Moments, moment_of}
use Rattle.execution_model.specs.Execution.{Setting, has_gone_by, link_to}
use Rattle.execution_model.proofs.LinkLemmas.{link_to_is_link, link_of_is_link_to}
use Rattle.execution_model.proofs.MomentLemmas.{completed_all, moment_not_listed, moment_listed}

-- ---- contingent points
module _ (net : Plan) (plan : IsPlan net) where
  pub ending_point : (point : PointId) → Ending net point → IsPoint net point
  ending_point point ending = subst (IsPoint net) ending.ends (link_sound net plan ending.name.0 ending.link ending.declared).to_point

  module _ (setting : Setting) (links : setting.links ≡ net.links) where
    pub link_found : (point : PointId) (ending : Ending net point) → link_to setting point ≡ Some ending.link
    link_found point ending = link_of_is_link_to net setting links plan ending.name ending.link point ending.declared ending.ends

    pub ending_of : (point : PointId) (link : Link) → link_to setting point ≡ Some link → (ending : Ending net point) × (ending.link ≡ link)
    ending_of point link found =
        let (name, declared, ends) = link_to_is_link net setting links point link found in
        (record { name = name; link = link; declared = declared; ends = ends }, refl)

pub contingent_ending : (net : Plan) (point : PointId) → IsContingent net point → Ending net point
contingent_ending net point contingent =
    elim (kind_of_any net point) [ inl none ↦ absurd (true≢false (sym contingent ∙ ap is_some none)) | inr ending ↦ ending ]

pub ending_contingent : (net : Plan) (point : PointId) → Ending net point → IsContingent net point
ending_contingent net point ending = some_from_none (activation net point) (ending_known net point ending)

-- ---- what has passed
pub gone_by : (moments : Moments) (t : ℕ) (point : PointId) (n : ℤ) (m : ℕ) → moment_of moments point ≡ Some m → m + unsigned_abs n ≤ t → has_gone_by moments t point n ≡ true
gone_by moments t point n m known within =
    ap (λ (o : Option ℕ). option_map_or (λ moment. nat_le (moment + unsigned_abs n) t) o false) known ∙ le-leb (m + unsigned_abs n) t within

pub from_gone_by : (moments : Moments) (t : ℕ) (point : PointId) (n : ℤ) → has_gone_by moments t point n ≡ true
    → (m : ℕ) × (moment_of moments point ≡ Some m) × (m + unsigned_abs n ≤ t)
from_gone_by moments t point n holds = by (moment_of moments point) refl holds
  where
    by : (o : Option ℕ) → moment_of moments point ≡ o → option_map_or (λ moment. nat_le (moment + unsigned_abs n) t) o false ≡ true
        → (m : ℕ) × (moment_of moments point ≡ Some m) × (m + unsigned_abs n ≤ t)
    by None none holds = absurd (true≢false (sym holds))
    by (Some m) known holds = (m, known, leb-true (m + unsigned_abs n) t holds)

-- ---- listed points
-- a point that isn't listed keeps its moment
pub not_completed : (moments : Moments) (t : ℕ) (listed : List PointId) (point : PointId) → (Contains listed point → ⊥)
    → moment_of (completed_all moments t listed) point ≡ moment_of moments point
not_completed moments t listed point absent =
    moment_not_listed t moments listed point (false_from_ne_true (contains_point listed point) (λ among. absent (from_among listed point among)))

-- a listed one has this moment
pub has_completed : (moments : Moments) (t : ℕ) (listed : List PointId) (point : PointId) → point.0 < length moments → Contains listed point
    → moment_of (completed_all moments t listed) point ≡ Some t
has_completed moments t listed point inside among = moment_listed t moments listed point inside (among_from listed point among)

-- whether a point is listed
pub is_listed : (listed : List PointId) (point : PointId) → Contains listed point ⊎ (Contains listed point → ⊥)
is_listed listed point =
    elim (cases_Bool (contains_point listed point)) [
      | inl listed_there ↦ inl (from_among listed point listed_there)
      | inr absent ↦ inr (λ among. true≢false (sym (among_from listed point among) ∙ absent))
    ]
