-- A stream has at most one execution.
use Rattle.std.proofs.Common.{◌≡◌, ℕ, ◌+◌, ◌≤◌, ◌<◌, Bool, true, false, List, [], ◌∷◌, length, map, get_or, Option, Some, None, ◌⊎◌, inl, inr, refl, ap, sym, subst, ◌∙◌, arith}
use Rattle.std.specs.Prelude.{fold, nat_le, if◌then◌else◌}
use Rattle.std.specs.List.{Contains}
use Rattle.std.specs.Option.{option_map_or}
use Rattle.std.proofs.lemmas.Bool.{cases_lt}
use Rattle.std.proofs.lemmas.List.{same_lists, get_or-map, get_or_default, length-map}
use Rattle.std.proofs.lemmas.Option.{same_Some}
use Rattle.net_model.specs.Network.{Plan, IsPoint}
use Rattle.net_model.specs.declared.ids.PointId.{PointId}
use Rattle.closure_model.proofs.Lists.{Contains-head, Contains-tail}
use Rattle.strategy_model.specs.Plays.{IsInstant}
use Rattle.strategy_model.specs.Situations.{moment_in}
use Rattle.strategy_model.specs.Dispatch.{AgreeUpTo, SameCompletions}
use Rattle.strategy_model.proofs.AgreeLemmas.{played_length}
use Rattle.strategy_model.proofs.InstantLemmas.{as_instant}
use Rattle.strategy_model.proofs.AloneLemmas.{law_earliest_see_alone}
use Rattle.strategy_model.proofs.KindLemmas.{kind}
use Rattle.execution_model.specs.Streams.{Listing, Stream, HasGoneBy, FitsSituation, last_moment, cut_at, fixed_by}
use Rattle.execution_model.specs.Laws.{ExecutionsAreOne}
use Rattle.execution_model.proofs.PlaceLemmas.{ending_contingent}
use Rattle.execution_model.proofs.StreamLemmas.{cut_later}

-- the last moment of a stream is that of a listing
last_stands : (listings : List Listing) (before : Option ℕ) (l : ℕ) → fold (λ b (listing : Listing). Some listing.moment) before listings ≡ Some l
    → ((listing : Listing) × Contains listings listing × (listing.moment ≡ l)) ⊎ (before ≡ Some l)
last_stands [] before l is = inr is
last_stands (first ∷ others) before l is =
    elim (last_stands others (Some first.moment) l is) [
      | inl (listing, among, at) ↦ inl (listing, Contains-tail first others listing among, at)
      | inr here ↦ inl (first, Contains-head first others, same_Some first.moment l here)
    ]

-- a moment that is no later than a last one
abbrev shown_up_to : Option ℕ → ℕ → Option ℕ
shown_up_to last m = if option_map_or (nat_le m) last false then Some m else None

-- what a stream fixes, whether it is done or continues
abbrev fixed_where : (done : Bool) → Option ℕ → List ℕ → List (Option ℕ)
fixed_where done last schedule = if done then map Some schedule else cut_at last schedule

module _ (net : Plan) (instant : IsInstant net) (stream : Stream) (one other : List ℕ) (first : FitsSituation net stream one) (second : FitsSituation net stream other) where
  -- while all that comes is listed, the completions are the same
  same_completions : (t : ℕ) → ((m : ℕ) → m ≤ t → HasGoneBy stream m) → SameCompletions net t first.schedule second.schedule
  same_completions t gone name link declared =
      let contingent = ending_contingent net link.to (record { name = name; link = link; declared = declared; ends = refl }) in (
        λ by_then.
            let is = first.shows.complete link.to contingent (gone (moment_in first.schedule link.to) by_then) in
            sym (second.shows.listed link.to (moment_in first.schedule link.to) is).1,
        λ by_then.
            let is = second.shows.complete link.to contingent (gone (moment_in second.schedule link.to) by_then) in
            (first.shows.listed link.to (moment_in second.schedule link.to) is).1,
      )

  -- and so is the whole schedule
  agree : (t : ℕ) → ((m : ℕ) → m ≤ t → HasGoneBy stream m) → (point : PointId) → IsPoint net point
      → AgreeUpTo t (moment_in first.schedule point) (moment_in second.schedule point)
  agree t gone point within =
      elim (kind net point within) [
        | inl executable ↦ law_earliest_see_alone net one other first.schedule second.schedule t instant first.earliest second.earliest (same_completions t gone) point executable
        | inr ending ↦ subst (λ (p : PointId). AgreeUpTo t (moment_in first.schedule p) (moment_in second.schedule p)) ending.ends (same_completions t gone ending.name ending.link ending.declared)
      ]

  long : length first.schedule ≡ length net.points
  long = played_length net one first.schedule first.earliest.strategy [] 0 (as_instant net first.earliest.strategy one first.schedule instant first.earliest.played)

  same_length : length first.schedule ≡ length second.schedule
  same_length = long ∙ sym (played_length net other second.schedule second.earliest.strategy [] 0 (as_instant net second.earliest.strategy other second.schedule instant second.earliest.played))

  same_where_done : stream.done ≡ true → first.schedule ≡ second.schedule
  same_where_done done = same_lists first.schedule second.schedule same_length each
    where
      each : (k : ℕ) (d : ℕ) → k < length first.schedule → get_or first.schedule k d ≡ get_or second.schedule k d
      each k d inside =
          let size = long in
          let there : k < length second.schedule = let same = same_length in omega (arith, inside, same) in
          get_or_default first.schedule k d 0 inside
          ∙ (agree (get_or first.schedule k 0) (λ m by_then. inl done) (record { 0 = k }) (omega (arith, inside, size))).0 (omega arith)
          ∙ sym (get_or_default second.schedule k d 0 there)

  -- the moments up to the last one are the same
  same_up_to : (last : Option ℕ) → last_moment stream ≡ last → cut_at last first.schedule ≡ cut_at last second.schedule
  same_up_to last is =
      same_lists (cut_at last first.schedule) (cut_at last second.schedule) (length-map first.schedule shown ∙ same_length ∙ sym (length-map second.schedule shown)) each
    where
      shown : ℕ → Option ℕ
      shown m = shown_up_to last m

      past : (l m : ℕ) → last ≡ Some l → l < m → shown m ≡ None
      past l m some after = ap (λ (b : Bool). if b then Some m else None) (cut_later last m (subst (λ (o : Option ℕ). option_map_or (λ x. x + 1) o 0 ≤ m) (sym some) (omega (arith, after))))

      gone : (l : ℕ) → last ≡ Some l → (m : ℕ) → m ≤ l → HasGoneBy stream m
      gone l some m by_then =
          elim (last_stands stream.listings None l (is ∙ some)) [
            | inl (listing, among, at) ↦ inr (listing, among, omega (arith, at, by_then))
            | inr none ↦ absurd (cc)
          ]

      at_last : (o : Option ℕ) → last ≡ o → (k : ℕ) → k < length first.schedule → shown (get_or first.schedule k 0) ≡ shown (get_or second.schedule k 0)
      at_last None none k inside =
          ap (λ (o : Option ℕ). shown_up_to o (get_or first.schedule k 0)) none ∙ sym (ap (λ (o : Option ℕ). shown_up_to o (get_or second.schedule k 0)) none)
      at_last (Some l) some k inside =
          let size = long in
          let agrees = agree l (gone l some) (record { 0 = k }) (omega (arith, inside, size)) in
          elim (cases_lt l (get_or first.schedule k 0)) [
            | inr by_last ↦ ap shown (agrees.0 by_last)
            | inl after ↦ (elim (cases_lt l (get_or second.schedule k 0)) [
              | inr by_last ↦ ap shown (agrees.1 by_last)
              | inl after_too ↦ past l (get_or first.schedule k 0) some after ∙ sym (past l (get_or second.schedule k 0) some after_too)
            ])
          ]

      each : (k : ℕ) (d : Option ℕ) → k < length (cut_at last first.schedule) → get_or (cut_at last first.schedule) k d ≡ get_or (cut_at last second.schedule) k d
      each k d inside =
          let stands : k < length first.schedule = let size = length-map first.schedule shown in omega (arith, inside, size) in
          let there : k < length second.schedule = let same = same_length in omega (arith, stands, same) in
          get_or-map shown first.schedule k 0 d stands ∙ at_last last refl k stands ∙ sym (get_or-map shown second.schedule k 0 d there)

  pub same_fixed : fixed_by stream first.schedule ≡ fixed_by stream second.schedule
  same_fixed = by stream.done refl
    where
      last : Option ℕ
      last = last_moment stream

      by : (b : Bool) → stream.done ≡ b → fixed_where stream.done last first.schedule ≡ fixed_where stream.done last second.schedule
      by true done = ap (fixed_where stream.done last) (same_where_done done)
      by false goes_on =
          ap (λ (b : Bool). fixed_where b last first.schedule) goes_on ∙ same_up_to last refl ∙ sym (ap (λ (b : Bool). fixed_where b last second.schedule) goes_on)

pub law_executions_are_one : ExecutionsAreOne
law_executions_are_one net stream one other instant first second =
    first.fixed ∙ same_fixed net instant stream first.situation second.situation first.fits second.fits ∙ sym second.fixed
