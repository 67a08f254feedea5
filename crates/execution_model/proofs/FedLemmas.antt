-- Executions of a network from its start on, and lists of feeds: if they are all taken each is in time, and the other way round if none is beyond the limit.
use Rattle.std.proofs.Common.{◌≡◌, ℕ, ◌+◌, ◌≤◌, Bool, true, false, List, [], ◌∷◌, Option, Some, None, Result, Ok, Err, refl, ap, sym, ◌∙◌, arith}
use Rattle.std.specs.Prelude.{nat_lt, if◌then◌else◌}
use Rattle.std.specs.Option.{option_map, option_map_or}
use Rattle.std.proofs.lemmas.Bool.{ltb-true, ltb-false}
use Rattle.std.proofs.lemmas.List.{length-map}
use Rattle.std.proofs.lemmas.List.Elements.{All-head, All-tail}
use Rattle.std.proofs.lemmas.Option.{none-some}
use Rattle.net_model.specs.Network.{Plan}
use Rattle.net_model.specs.declared.ids.PointId.{PointId}
use Rattle.closure_model.specs.Tables.{Graph, IsFor}
use Rattle.strategy_model.specs.Plays.{IsInstant}
use Rattle.dispatch_net.proofs.ExecutionLemmas.{dispatchable_length}
use Rattle.net_model.specs.Moments.{Moments}
use Rattle.execution_model.specs.Execution.{Setting, points_of}
use Rattle.net_model.specs.Limits.{most_moment}
use Rattle.execution_model.specs.Feeds.{Execution, started, next_moment, refusal_of_moment, completed_in, taken, after_feed}
use Rattle.execution_model.specs.Streams.{Listing}
use Rattle.execution_model.specs.Timely.{with_completed, AreInTime, fed_all}
use Rattle.execution_model.specs.Laws.{setting_of, AreWithinLimit, IsExecutionOf}
use Rattle.execution_model.specs.declared.feed_answers.Why.{Why}
use Rattle.execution_model.specs.declared.feed_answers.Why.TheVariants as why
use Rattle.execution_model.proofs.MomentLemmas.{length-points, length-acted}
use Rattle.execution_model.proofs.TimelyLemmas.{taken_in_time}

-- the start is an execution of the network
pub started_of : (net : Plan) (table : Graph) → IsInstant net → IsFor net table → IsExecutionOf net (started (setting_of net table))
started_of net table instant for =
    let setting : Setting = setting_of net table in
    record {
      instant = instant;
      links = refl;
      dispatch = dispatchable_length net table for;
      moments = length-map (points_of setting) (λ point. let none : Option ℕ = None in none) ∙ length-points setting ∙ dispatchable_length net table for;
    }

-- and so is what comes after a feed
pub fed_of : (net : Plan) (execution : Execution) (moment : ℕ) (moments : Moments) → IsExecutionOf net execution → IsExecutionOf net (after_feed execution moment moments)
fed_of net execution moment moments of =
    record { instant = of.instant; links = of.links; dispatch = of.dispatch; moments = length-acted execution.setting moments moment ∙ of.dispatch }

-- the execution after a listing that is in time, and after several
abbrev pub after_listing : Execution → Listing → Execution
after_listing execution listing = after_feed execution listing.moment (with_completed execution listing.moment listing.points)

abbrev pub after_all : Execution → List Listing → Execution
after_all execution [] = execution
after_all execution (listing ∷ others) = after_all (after_listing execution listing) others

pub listed_of : (net : Plan) (execution : Execution) (listing : Listing) → IsExecutionOf net execution → IsExecutionOf net (after_listing execution listing)
listed_of net execution listing = fed_of net execution listing.moment (with_completed execution listing.moment listing.points)

-- what comes of the answer to the first feed of a list
abbrev pub fed_on : Execution → Listing → List Listing → Result Moments Why → Result Execution Why
fed_on execution listing others (Ok moments) = fed_all (after_feed execution listing.moment moments) others
fed_on execution listing others (Err cause) = Err cause

-- ---- feeds that are taken are within the limit
not_refused : (execution : Execution) (moment : ℕ) → refusal_of_moment execution moment ≡ None → moment ≤ most_moment
not_refused execution moment none = by (nat_lt moment (next_moment execution)) refl none
  where
    no_last : (last : Option ℕ) → nat_lt moment (option_map_or (λ l. l + 1) last 0) ≡ true → option_map why.NotLater last ≡ None → moment ≤ most_moment
    no_last None less is = absurd (let below = ltb-true moment 0 less in omega (arith, below))
    no_last (Some l) less is = absurd (none-some (why.NotLater l) (sym is))

    by_limit : (b : Bool) → nat_lt most_moment moment ≡ b → (if b then Some why.MomentLimit else None) ≡ None → moment ≤ most_moment
    by_limit true less is = absurd (none-some why.MomentLimit (sym is))
    by_limit false not_less is = ltb-false most_moment moment not_less

    by : (b : Bool) → nat_lt moment (next_moment execution) ≡ b
        → (if b then option_map why.NotLater execution.last else if nat_lt most_moment moment then Some why.MomentLimit else None) ≡ None → moment ≤ most_moment
    by true less is = no_last execution.last less is
    by false not_less is = by_limit (nat_lt most_moment moment) refl is

pub err_ok : {A B : Type 0} (a : A) (b : B) → Err b ≡ Ok a → ⊥
err_ok a b is = absurd (cc)

pub same_ok : {A B : Type 0} (a b : A) → ◌≡◌ {A = Result A B} (Ok a) (Ok b) → a ≡ b
same_ok a b is = cc

pub taken_within : (execution : Execution) (moment : ℕ) (listed : List PointId) (moments : Moments) → taken execution moment listed ≡ Ok moments → moment ≤ most_moment
taken_within execution moment listed moments is = by (refusal_of_moment execution moment) refl is
  where
    by : (o : Option Why) → refusal_of_moment execution moment ≡ o → option_map_or Err o (completed_in execution moment listed) ≡ Ok moments → moment ≤ most_moment
    by None none is = not_refused execution moment none
    by (Some cause) refused is = absurd (err_ok moments cause is)

-- feeds stay by the same links and lists
pub fed_setting : (listings : List Listing) (execution after : Execution) → fed_all execution listings ≡ Ok after → after.setting ≡ execution.setting
fed_setting [] execution after fed = ap (λ (e : Execution). e.setting) (sym (same_ok execution after fed))
fed_setting (listing ∷ others) execution after fed = by (taken execution listing.moment listing.points) fed (λ next went. fed_setting others next after went)
  where
    by : (r : Result Moments Why) → fed_on execution listing others r ≡ Ok after → ((next : Execution) → fed_all next others ≡ Ok after → after.setting ≡ next.setting)
        → after.setting ≡ execution.setting
    by (Ok moments) went rest = rest (after_feed execution listing.moment moments) went
    by (Err cause) went rest = absurd (err_ok after cause went)

module _ (net : Plan) where
  -- feeds that are all taken are in time, and lead to one execution
  pub fed_in_time : (listings : List Listing) (execution after : Execution) → IsExecutionOf net execution → fed_all execution listings ≡ Ok after
      → AreInTime execution listings × (after_all execution listings ≡ after)
  fed_in_time [] execution after of fed = (tt, same_ok execution after fed)
  fed_in_time (listing ∷ others) execution after of fed = by (λ next next_of went. fed_in_time others next after next_of went) (taken execution listing.moment listing.points) refl fed
    where
      by : ((next : Execution) → IsExecutionOf net next → fed_all next others ≡ Ok after → AreInTime next others × (after_all next others ≡ after))
          → (r : Result Moments Why) → taken execution listing.moment listing.points ≡ r
          → fed_on execution listing others r ≡ Ok after
          → AreInTime execution (listing ∷ others) × (after_all execution (listing ∷ others) ≡ after)
      by rest (Err cause) is went = absurd (err_ok after cause went)
      by rest (Ok moments) is went =
          let within = taken_within execution listing.moment listing.points moments is in
          let law = taken_in_time net execution listing.moment listing.points of within in
          let same : moments ≡ with_completed execution listing.moment listing.points = law.1 moments is in
          let as_completed : taken execution listing.moment listing.points ≡ Ok (with_completed execution listing.moment listing.points) =
          is ∙ ap (λ (m : Moments). let r : Result Moments Why = Ok m in r) same in
          let went_on : fed_all (after_listing execution listing) others ≡ Ok after =
          ap (λ (m : Moments). fed_all (after_feed execution listing.moment m) others) (sym same) ∙ went in
          let (are, leads) = rest (after_listing execution listing) (listed_of net execution listing of) went_on in
          ((law.0.1 as_completed, are), leads)

  -- and feeds that are in time are taken
  pub in_time_fed : (listings : List Listing) (execution : Execution) → IsExecutionOf net execution → AreWithinLimit listings → AreInTime execution listings
      → fed_all execution listings ≡ Ok (after_all execution listings)
  in_time_fed [] execution of within are = refl
  in_time_fed (listing ∷ others) execution of within (is, are) =
      let law = taken_in_time net execution listing.moment listing.points of (All-head (λ (l : Listing). l.moment ≤ most_moment) listing others within) in
      ap (fed_on execution listing others) (law.0.0 is)
      ∙ in_time_fed others (after_listing execution listing) (listed_of net execution listing of) (All-tail (λ (l : Listing). l.moment ≤ most_moment) listing others within) are
