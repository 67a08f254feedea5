-- Earliest schedules of two situations: while the completions are the same, the strategy of one plays in the other's situation
-- what it plays in its own, and the other is at no point later than that.
use Rattle.std.proofs.Common.{◌≡◌, ℕ, zero, suc, ◌+◌, ◌<◌, ◌≤◌, List, [], Some, sym, ap, arith, inl, inr}
use Rattle.std.specs.Prelude.{slice_get}
use Rattle.std.proofs.lemmas.Option.{none-some}
use Rattle.std.proofs.lemmas.List.Elements.{AllZip-get_or}
use Rattle.net_model.specs.Network.{Plan, IsPoint}
use Rattle.net_model.specs.Edges.{IsLinkOf}
use Rattle.net_model.specs.declared.ids.PointId.{PointId}
use Rattle.net_model.specs.declared.ids.LinkId.{LinkId}
use Rattle.net_model.specs.declared.part.Link.{Link}
use Rattle.strategy_model.specs.Situations.{moment_in}
use Rattle.strategy_model.specs.Plays.{IsInstant, play}
use Rattle.strategy_model.specs.Control.{IsEarliest}
use Rattle.strategy_model.specs.Dispatch.{SameCompletions}
use Rattle.strategy_model.specs.DispatchLaws.{EarliestSeeAlone}
use Rattle.strategy_model.proofs.PlayLemmas.{link_sound, lasting, follow_at_first}
use Rattle.strategy_model.proofs.InstantLemmas.{as_instant}
use Rattle.strategy_model.proofs.AgreeLemmas.{played_length}
use Rattle.strategy_model.proofs.CompareLemmas.{law_completion_follows_activation, duration_of, at_least_1}
use Rattle.strategy_model.proofs.KindLemmas.{kind}
use Rattle.strategy_model.proofs.PlayedLemmas.{agree_up_to}

-- before a moment two schedules agree: a point that comes sooner in either comes at once in both
abbrev AgreeBefore : Plan → ℕ → List ℕ → List ℕ → Type 0
AgreeBefore net m first second =
    (point : PointId) → IsPoint net point → (moment_in first point < m → moment_in first point ≡ moment_in second point) × (moment_in second point < m → moment_in first point ≡ moment_in second point)

agree_reversed : (net : Plan) (m : ℕ) (first second : List ℕ) → AgreeBefore net m first second → AgreeBefore net m second first
agree_reversed net m first second agree point within =
    (λ sooner. sym ((agree point within).1 sooner), λ sooner. sym ((agree point within).0 sooner))

same_back : (net : Plan) (t : ℕ) (first second : List ℕ) → SameCompletions net t first second → SameCompletions net t second first
same_back net t first second same name link declared =
    (λ by_then. sym ((same name link declared).1 by_then), λ by_then. sym ((same name link declared).0 by_then))

-- in a play a link lasts its duration
lasts_in : (net : Plan) (situation schedule : List ℕ) → IsInstant net → (is : IsEarliest net situation schedule) → (name : LinkId) (link : Link) (duration : ℕ) → IsLinkOf net name link → slice_get situation name.0 ≡ Some duration
    → moment_in schedule link.to ≡ moment_in schedule link.from + duration
lasts_in net situation schedule instant is name link duration =
    law_completion_follows_activation net is.strategy situation schedule name link duration instant is.played

module _ (net : Plan) (instant : IsInstant net) (ds es first second : List ℕ) (is_first : IsEarliest net ds first) (is_second : IsEarliest net es second) (t m : ℕ) (by_t : m ≤ t) (same : SameCompletions net t first second)
    (agree : AgreeBefore net m first second) where
  -- what the strategy of the first situation plays in the second
  there : List ℕ
  there = (is_first.controls es is_second.is_situation).0

  played_there : play is_first.strategy net es ≡ Some there
  unfolding there
  played_there = (is_first.controls es is_second.is_situation).1

  -- the completions up to a moment are the same there, if what comes before it is the same
  same_there : (k : ℕ) → k ≤ m → AgreeBefore net k first there → SameCompletions net k first there
  same_there k by_m before name link declared =
      let sound = link_sound net instant.sound name.0 link declared in
      let (d, d_its, d_fits) = duration_of net.links ds name.0 link is_first.is_situation declared in
      let (e, e_its, e_fits) = duration_of net.links es name.0 link is_second.is_situation declared in
      let d_positive = at_least_1 net link d sound d_fits in
      let e_positive = at_least_1 net link e sound e_fits in
      let lasts = lasts_in net ds first instant is_first name link d declared d_its in
      let lasts_second = lasts_in net es second instant is_second name link e declared e_its in
      let lasts_there = law_completion_follows_activation net is_first.strategy es there name link e instant played_there declared e_its in
      let activation = before link.from sound.from_point in
      let activation_second = agree link.from sound.from_point in
      let completion = same name link declared in (
        λ by_then.
            let one = activation.0 (omega (arith, lasts, d_positive, by_then)) in
            let two = activation_second.0 (omega (arith, lasts, d_positive, by_then, by_m)) in
            let three = completion.0 (omega (arith, by_then, by_m, by_t)) in
            omega (arith, one, two, three, lasts, lasts_second, lasts_there),
        λ by_then.
            let one = activation.1 (omega (arith, lasts_there, e_positive, by_then)) in
            let two = activation_second.0 (omega (arith, one, lasts_there, e_positive, by_then, by_m)) in
            let three = completion.1 (omega (arith, one, two, lasts_second, lasts_there, by_then, by_m, by_t)) in
            omega (arith, one, two, three, lasts_second, lasts_there),
      )

  -- so it plays there, up to the moment, what it plays in the first situation
  agree_there : (k : ℕ) → k ≤ suc m → AgreeBefore net k first there
  agree_there zero by_m point within = (λ sooner. absurd (omega (arith, sooner)), λ sooner. absurd (omega (arith, sooner)))
  agree_there (suc k) by_m point within =
      let same_now = same_there k (omega (arith, by_m)) (agree_there k (omega (arith, by_m))) in
      let instantly_first = as_instant net is_first.strategy ds first instant is_first.played in
      let instantly_there = as_instant net is_first.strategy es there instant played_there in
      let agrees = agree_up_to net ds es first there k (record {
        plan = instant.sound;
        first_situation = is_first.is_situation;
        second_situation = is_second.is_situation;
        first_lasting = lasting net instant.sound ds first is_first.strategy [] 0 instantly_first (follow_at_first net ds);
        second_lasting = lasting net instant.sound es there is_first.strategy [] 0 instantly_there (follow_at_first net es);
        same = same_now;
      }) is_first.strategy [] 0 (λ point m found. absurd (none-some m found)) instantly_first instantly_there point within in
      (λ sooner. agrees.0 (omega (arith, sooner)), λ sooner. agrees.1 (omega (arith, sooner)))

  -- and the second is at no point later than that
  not_later : (point : PointId) → IsPoint net point → moment_in first point ≤ m → moment_in second point ≤ moment_in first point
  not_later point within by_then =
      let at = (agree_there (suc m) (omega arith) point within).0 (omega (arith, by_then)) in
      let size = played_length net es second is_second.strategy [] 0 (as_instant net is_second.strategy es second instant is_second.played) in
      let below : moment_in second point ≤ moment_in there point = AllZip-get_or (λ sooner later. sooner ≤ later) second there point.0 0 0 (is_second.earliest is_first.strategy there is_first.controls played_there)
      (omega (arith, size, within)) in
      omega (arith, at, below)

-- while the completions are the same, so are the executions
agree_before : (net : Plan) → IsInstant net → (ds es first second : List ℕ) → IsEarliest net ds first → IsEarliest net es second → (t : ℕ) → SameCompletions net t first second → (m : ℕ) → m ≤ suc t → AgreeBefore net m first second
agree_before net instant ds es first second is_first is_second t same zero by_t point within =
    (λ sooner. absurd (omega (arith, sooner)), λ sooner. absurd (omega (arith, sooner)))
agree_before net instant ds es first second is_first is_second t same (suc m) by_t point within =
    elim (kind net point within) [
      | inl executable ↦
          let agree = agree_before net instant ds es first second is_first is_second t same m (omega (arith, by_t)) in
          let one = not_later net instant ds es first second is_first is_second t m (omega (arith, by_t)) same agree point within in
          let two = not_later net instant es ds second first is_second is_first t m (omega (arith, by_t)) (same_back net t first second same) (agree_reversed net m first second agree) point within in (
            λ sooner. let below = one (omega (arith, sooner)) in let above = two (omega (arith, sooner, below)) in omega (arith, below, above),
            λ sooner. let above = two (omega (arith, sooner)) in
                let below = one (omega (arith, sooner, above)) in omega (arith, below, above),
          )
      | inr ending ↦
          let at : moment_in first ending.link.to ≡ moment_in first point = ap (moment_in first) ending.ends in
          let at_second : moment_in second ending.link.to ≡ moment_in second point = ap (moment_in second) ending.ends in
          let completion = same ending.name ending.link ending.declared in
          (λ sooner. let is = completion.0 (omega (arith, at, sooner, by_t)) in omega (arith, at, at_second, is), λ sooner. let is = completion.1 (omega (arith, at_second, sooner, by_t)) in omega (arith, at, at_second, is))
    ]

pub law_earliest_see_alone : EarliestSeeAlone
law_earliest_see_alone net ds es first second t instant is_first is_second same point executable =
    let agree = agree_before net instant ds es first second is_first is_second t same (suc t) (omega arith) point executable.0 in
    (λ by_then. agree.0 (omega (arith, by_then)), λ by_then. agree.1 (omega (arith, by_then)))
