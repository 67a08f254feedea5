-- A situation is compared with the one in which one link takes another duration.
use Rattle.std.proofs.Common.{◌≡◌, ◌≢◌, ℕ, ℤ, pos, negsuc, zero, suc, ◌+◌, ◌<◌, ◌≤◌, ◌≤ℤ◌, min, List, [], ◌∷◌, length, Some, inl, inr, refl, sym, ap, subst, ◌∙◌, arith, nat_abs}
use Rattle.std.specs.Prelude.{slice_get}
use Rattle.std.specs.List.{slice_index, AllZip}
use Rattle.std.proofs.Math.ListN.{set}
use Rattle.std.proofs.lemmas.Bool.{cases_lt}
use Rattle.std.proofs.lemmas.Int.{ints}
use Rattle.std.proofs.lemmas.List.{get_or_past}
use Rattle.std.proofs.lemmas.Option.{none-some, same_Some}
use Rattle.net_model.specs.Network.{Plan, IsLink}
use Rattle.net_model.specs.Edges.{IsLinkOf}
use Rattle.net_model.specs.declared.ids.PointId.{PointId}
use Rattle.net_model.specs.declared.ids.LinkId.{LinkId}
use Rattle.net_model.specs.declared.part.Link.{Link}
use Rattle.strategy_model.specs.Situations.{IsSituation, IsDuration, DifferOnlyIn, moment_in}
use Rattle.strategy_model.specs.Plays.{IsInstant, play}
use Rattle.strategy_model.specs.Control.{Controls}
use Rattle.strategy_model.specs.Laws.{CompletionFollowsActivation, PlaysAgree}
use Rattle.strategy_model.specs.declared.tree.Tree.{Tree}
use Rattle.strategy_model.proofs.PlayLemmas.{lasting, follow_at_first, link_sound}
use Rattle.strategy_model.proofs.InstantLemmas.{as_instant}
use Rattle.strategy_model.proofs.AgreeLemmas.{agree_from, played_length}

pub law_completion_follows_activation : CompletionFollowsActivation
law_completion_follows_activation net strategy situation schedule name link duration instant played declared lasts =
    lasting net instant.sound situation schedule strategy [] 0 (as_instant net strategy situation schedule instant played) (follow_at_first net situation) name.0 link duration declared lasts

-- the moment of a number beyond the points is 0
pub beyond : (net : Plan) (first second : List ℕ) → length first ≡ length net.points → length second ≡ length net.points → (p : PointId) → length net.points ≤ p.0 → slice_index first p.0 ≡ slice_index second p.0
beyond net first second first_length second_length p past =
    get_or_past first p.0 0 (omega (arith, first_length)) ∙ sym (get_or_past second p.0 0 (omega (arith, second_length)))

-- a situation has one duration for each link
situation_length : (links : List Link) (durations : List ℕ) → AllZip IsDuration links durations → length durations ≡ length links
situation_length [] [] picks = refl
situation_length [] (d ∷ durations) picks = absurd picks
situation_length (link ∷ links) [] picks = absurd picks
situation_length (link ∷ links) (d ∷ durations) picks = ap suc (situation_length links durations picks.1)

pub law_plays_agree : PlaysAgree
law_plays_agree net strategy name link first second first_play second_play instant declared is_first is_second differ played_first played_second point sooner =
    let sound = link_sound net instant.sound name.0 link declared in
    let limit = min (moment_in first_play link.to) (moment_in second_play link.to) in
    let instantly_first = as_instant net strategy first first_play instant played_first in
    let instantly_second = as_instant net strategy second second_play instant played_second in
    let lasting_first = lasting net instant.sound first first_play strategy [] 0 instantly_first (follow_at_first net first) name.0 link in
    let lasting_second = lasting net instant.sound second second_play strategy [] 0 instantly_second (follow_at_first net second) name.0 link in
    elim (cases_lt point.0 (length net.points)) [
      | inl within ↦ agree_from net name link first second first_play second_play limit (record {
        declared = declared;
        from_point = sound.from_point;
        first_length = situation_length net.links first is_first;
        second_length = situation_length net.links second is_second;
        elsewhere = differ;
        after_first = λ d lasts. (let h = lasting_first d declared lasts in omega (arith, h));
        after_second = λ e lasts. (let h = lasting_second e declared lasts in omega (arith, h));
      }) strategy [] 0 instantly_first instantly_second point within sooner
      | inr past ↦ beyond net first_play second_play (played_length net first first_play strategy [] 0 instantly_first) (played_length net second second_play strategy [] 0 instantly_second) point past
    ]

-- a number from 1 on is its own size
pub own_size : (n : ℤ) → pos 1 ≤ℤ n → pos (nat_abs n) ≡ n
own_size (pos n) positive = refl
own_size (negsuc n) positive = absurd (omega (arith, ints))

-- a situation has a duration for each link
pub duration_of : (links : List Link) (durations : List ℕ) (k : ℕ) (link : Link) → AllZip IsDuration links durations → slice_get links k ≡ Some link → (d : ℕ) × (slice_get durations k ≡ Some d) × IsDuration link d
duration_of [] durations k link picks declared = absurd (none-some link declared)
duration_of (l ∷ links) [] k link picks declared = absurd picks
duration_of (l ∷ links) (d ∷ durations) zero link picks declared =
    (d, refl, subst (λ (x : Link). IsDuration x d) (same_Some l link declared) picks.0)
duration_of (l ∷ links) (d ∷ durations) (suc k) link picks declared = duration_of links durations k link picks.1 declared

-- with another duration for one link it is a situation
with_duration : (links : List Link) (durations : List ℕ) (k : ℕ) (link : Link) (d : ℕ) → AllZip IsDuration links durations → slice_get links k ≡ Some link → IsDuration link d → AllZip IsDuration links (set durations k d)
with_duration [] durations k link d picks declared fits = absurd (none-some link declared)
with_duration (l ∷ links) [] k link d picks declared fits = absurd picks
with_duration (l ∷ links) (e ∷ durations) zero link d picks declared fits =
    (subst (λ (x : Link). IsDuration x d) (sym (same_Some l link declared)) fits, picks.1)
with_duration (l ∷ links) (e ∷ durations) (suc k) link d picks declared fits =
    (picks.0, with_duration links durations k link d picks.1 declared fits)

set_here : (durations : List ℕ) (k d e : ℕ) → slice_get durations k ≡ Some e → slice_get (set durations k d) k ≡ Some d
set_here [] k d e there = absurd (none-some e there)
set_here (x ∷ durations) zero d e there = refl
set_here (x ∷ durations) (suc k) d e there = set_here durations k d e there

set_elsewhere : (durations : List ℕ) (k d i : ℕ) → i ≢ k → slice_get durations i ≡ slice_get (set durations k d) i
set_elsewhere [] k d i apart = refl
set_elsewhere (x ∷ durations) zero d zero apart = absurd (apart refl)
set_elsewhere (x ∷ durations) zero d (suc i) apart = refl
set_elsewhere (x ∷ durations) (suc k) d zero apart = refl
set_elsewhere (x ∷ durations) (suc k) d (suc i) apart = set_elsewhere durations k d i (λ same. apart (ap suc same))

-- The play of a situation beside that of the one in which a link takes another duration: the activation comes at the
-- same moment, and what comes before the sooner completion in either play comes at the same moment in both.
pub record Compared (net : Plan) (strategy : Tree) (name : LinkId) (link : Link) (situation schedule : List ℕ) (another : ℕ) : Type 0 where
  pub other : List ℕ
  pub other_schedule : List ℕ
  pub is_situation : IsSituation net other
  pub played : play strategy net other ≡ Some other_schedule
  pub lasts : slice_get other name.0 ≡ Some another
  pub elsewhere : DifferOnlyIn name situation other
  pub duration : ℕ
  pub is_duration : IsDuration link duration
  pub same_activation : moment_in schedule link.from ≡ moment_in other_schedule link.from
  pub completes : moment_in schedule link.to ≡ moment_in schedule link.from + duration
  pub other_completes : moment_in other_schedule link.to ≡ moment_in other_schedule link.from + another
  pub agree : (point : PointId) → moment_in schedule point < min (moment_in schedule link.to) (moment_in other_schedule link.to) → moment_in schedule point ≡ moment_in other_schedule point
  pub agree_back : (point : PointId) → moment_in other_schedule point < min (moment_in schedule link.to) (moment_in other_schedule link.to) → moment_in schedule point ≡ moment_in other_schedule point

-- a link's activation comes at one moment in two plays of which one agrees with the other before the sooner completion
activation_agrees : (a b d e : ℕ) → 1 ≤ d → 1 ≤ e → (a < min (a + d) (b + e) → a ≡ b) → (b < min (a + d) (b + e) → a ≡ b) → a ≡ b
activation_agrees a b d e d_positive e_positive agree agree_back =
    elim (cases_lt a (b + e)) [ inl sooner ↦ agree (omega arith) | inr later ↦ agree_back (omega arith) ]

-- a duration of a link is at least 1
pub at_least_1 : (net : Plan) (link : Link) (duration : ℕ) → IsLink net link → IsDuration link duration → 1 ≤ duration
at_least_1 net link duration sound fits =
    let positive = sound.positive in
    let low = fits.0 in
    omega (arith, ints, positive, low)

-- The plays of one strategy in two situations that differ only in a link, and the durations that the link takes in them.
record PlayedInBoth (net : Plan) (strategy : Tree) (name : LinkId) (link : Link) (situation other schedule other_schedule : List ℕ) (duration another : ℕ) : Type 0 where
  pub instant : IsInstant net
  pub declared : IsLinkOf net name link
  pub is_situation : IsSituation net situation
  pub is_other : IsSituation net other
  pub differ : DifferOnlyIn name situation other
  pub played : play strategy net situation ≡ Some schedule
  pub other_played : play strategy net other ≡ Some other_schedule
  pub lasts : slice_get situation name.0 ≡ Some duration
  pub other_lasts : slice_get other name.0 ≡ Some another
  pub is_duration : IsDuration link duration
  pub is_another : IsDuration link another

module _ (net : Plan) (strategy : Tree) (name : LinkId) (link : Link) (situation other schedule other_schedule : List ℕ) (duration another : ℕ)
    (both : PlayedInBoth net strategy name link situation other schedule other_schedule duration another) where
  agree : (point : PointId) → moment_in schedule point < min (moment_in schedule link.to) (moment_in other_schedule link.to) → moment_in schedule point ≡ moment_in other_schedule point
  agree = law_plays_agree net strategy name link situation other schedule other_schedule both.instant both.declared both.is_situation both.is_other both.differ both.played both.other_played

  agree_back : (point : PointId) → moment_in other_schedule point < min (moment_in schedule link.to) (moment_in other_schedule link.to) → moment_in schedule point ≡ moment_in other_schedule point
  agree_back point before =
      sym (law_plays_agree net strategy name link other situation other_schedule schedule both.instant both.declared both.is_other both.is_situation (λ k apart. sym (both.differ k apart)) both.other_played both.played point
      (omega (arith, before)))

  compared_with : Compared net strategy name link situation schedule another
  compared_with =
      let sound = link_sound net both.instant.sound name.0 link both.declared in
      let completes = law_completion_follows_activation net strategy situation schedule name link duration both.instant both.played both.declared both.lasts in
      let other_completes = law_completion_follows_activation net strategy other other_schedule name link another both.instant both.other_played both.declared both.other_lasts in
      let same_activation = activation_agrees (moment_in schedule link.from) (moment_in other_schedule link.from) duration another (at_least_1 net link duration sound both.is_duration)
      (at_least_1 net link another sound both.is_another) (λ before. agree link.from (omega (arith, before, completes, other_completes)))
      (λ before. agree_back link.from (omega (arith, before, completes, other_completes))) in
      record {
        other = other;
        other_schedule = other_schedule;
        is_situation = both.is_other;
        played = both.other_played;
        lasts = both.other_lasts;
        elsewhere = both.differ;
        duration = duration;
        is_duration = both.is_duration;
        same_activation = same_activation;
        completes = completes;
        other_completes = other_completes;
        agree = agree;
        agree_back = agree_back;
      }

pub compared : (net : Plan) (strategy : Tree) (name : LinkId) (link : Link) (situation schedule : List ℕ) (another : ℕ) → IsInstant net → Controls strategy net → IsLinkOf net name link
    → IsSituation net situation → play strategy net situation ≡ Some schedule → IsDuration link another → Compared net strategy name link situation schedule another
compared net strategy name link situation schedule another instant controls declared is_situation played fits =
    let (duration, lasts, is_duration) = duration_of net.links situation name.0 link is_situation declared in
    let other = set situation name.0 another in
    let is_other : IsSituation net other = with_duration net.links situation name.0 link another is_situation declared fits in
    let (other_schedule, other_played, satisfied) = controls other is_other in
    compared_with net strategy name link situation other schedule other_schedule duration another (record {
      instant = instant;
      declared = declared;
      is_situation = is_situation;
      is_other = is_other;
      differ = λ k apart. set_elsewhere situation name.0 another k apart;
      played = played;
      other_played = other_played;
      lasts = lasts;
      other_lasts = set_here situation name.0 another duration lasts;
      is_duration = is_duration;
      is_another = fits;
    })
