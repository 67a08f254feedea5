-- Each step of a board keeps its rule.
use Rattle.std.proofs.Common.{◌≡◌, ℕ, ◌+◌, ◌<◌, ◌≤◌, ◌≢◌, cond, List, [], ◌∷◌, ◌++◌, length, get_or, set, sym, refl, ap, ◌∙◌, subst, inl, inr, arith, eq-eqb, ne_eqb, length-append}
use Rattle.std.specs.Prelude.{min, if◌then◌else◌}
use Rattle.std.specs.List.{All}
use Rattle.std.proofs.lemmas.Bool.{cases_lt, cases_eq, lt-ltb, le-ltb}
use Rattle.std.proofs.lemmas.List.Elements.{All-nil, All-set, All-push, All-append}
use mathlib.Core.Option.{some}
use lib.ListN.{get_elem?}
use Rattle.atomic_table.proofs.Lists.{set_else}
use Rattle.shared_seats.specs.Standings.{total_of_live, OfLive}
use Rattle.shared_seats.specs.declared.standing.Standing.{Standing}
use Rattle.shared_seats.specs.declared.standing.Standing.TheVariants.{Live, Spent}
use Rattle.shared_seats.proofs.StandingLemmas.{all_at, total_set, total_snoc, total_at, total_none, total_zero}
use Rattle.work_board.specs.BoardRule.{times_drawn, once_below, has_number, IsSeat, next_drawer, BoardRule}
use Rattle.work_board.specs.Views.{split_from, split_off, drawn, joined_with}
use Rattle.work_board.specs.declared.view.Draw.{Draw}
use Rattle.work_board.specs.declared.view.Size.{Size}
use Rattle.work_board.specs.declared.view.View.{View}
use Rattle.work_board.proofs.DrawLemmas.{times_snoc, times_append, once_more}

-- what seats know stays true if there are more numbers of seats
drew_more : (next later : ℕ) → next ≤ later → (draws : List Draw) → All (λ (draw : Draw). draw.drawer < next) draws → All (λ (draw : Draw). draw.drawer < later) draws
drew_more next later more draws all k d lt = let here = all k d lt in omega arith

seat_more : (size : Size) (next later : ℕ) → next ≤ later → (view : View) → IsSeat size next view → IsSeat size later view
seat_more size next later more view seat = record {
  targets = seat.targets;
  heard_end_once = seat.heard_end_once;
  split_seats = seat.split_seats;
  numbered = (let before = seat.numbered in omega arith);
  drew = drew_more next later more view.held seat.drew;
}

standing_more : (size : Size) (next later : ℕ) → next ≤ later → (standing : Standing View) → OfLive (IsSeat size next) standing → OfLive (IsSeat size later) standing
standing_more size next later more (Live view) seat = seat_more size next later more view seat
standing_more size next later more Spent seat = seat

each_more : (size : Size) (next later : ℕ) → next ≤ later → (l : List (Standing View)) → All (OfLive (IsSeat size next)) l → All (OfLive (IsSeat size later)) l
each_more size next later more l all k d lt = standing_more size next later more (get_or l k d) (all k d lt)

module _ (size : Size) (number : ℕ) (before : List (Standing View)) (rule : BoardRule size number before) (seat : ℕ) (view : View) (at : get_elem? before seat ≡ some (Live view)) where
  seat_is : IsSeat size (next_drawer before) view
  seat_is = all_at (OfLive (IsSeat size (next_drawer before))) before seat (Live view) at rule.each

  -- a seat that has split, has joined, or may split is the first
  first_of_count : 0 < view.out + view.joined + view.to_split → view.drawer ≡ 0
  first_of_count some_there = elim (cases_eq view.drawer 0) [
    | inl first ↦ first
    | inr other ↦ let none = seat_is.split_seats other in let out = none.0 in let joined = none.1 in let to_split = none.2 in absurd (omega arith)
  ]

  first_counts : view.drawer ≡ 0 → has_number 0 view ≡ 1
  first_counts first = ap (λ b. cond {A = ℕ} b 1 0) (eq-eqb view.drawer 0 first)

  none_other_first : view.drawer ≡ 0 → total_of_live (has_number 0) (set before seat Spent) ≡ 0
  none_other_first first = let s = total_set (has_number 0) before seat (Live view) Spent at in let one = first_counts first in let all = rule.first in omega arith

  -- what only the first seat counts, all count
  pub all_of_first : (f : View → ℕ) → view.drawer ≡ 0 → ((other : View) → IsSeat size (next_drawer before) other → other.drawer ≢ 0 → f other ≡ 0) → total_of_live f before ≡ f view
  all_of_first f first zero_else =
      let s = total_set f before seat (Live view) Spent at in
      let others = All-set (OfLive (IsSeat size (next_drawer before))) before seat Spent tt rule.each in
      let rest = total_zero f (has_number 0) (set before seat Spent) (each_zero (set before seat Spent) others) (none_other_first first) in omega arith
    where
      standing_zero : (standing : Standing View) → OfLive (IsSeat size (next_drawer before)) standing → OfLive (λ other. has_number 0 other ≡ 0 → f other ≡ 0) standing
      standing_zero (Live other) is = λ none. zero_else other is (λ e. let one : has_number 0 other ≡ 1 = ap (λ b. cond {A = ℕ} b 1 0) (eq-eqb other.drawer 0 e) in omega arith)
      standing_zero Spent is = tt

      each_zero : (l : List (Standing View)) → All (OfLive (IsSeat size (next_drawer before))) l → All (OfLive (λ other. has_number 0 other ≡ 0 → f other ≡ 0)) l
      each_zero l all k d lt = standing_zero (get_or l k d) (all k d lt)

  -- no seat has a number yet that the next seats will have
  none_numbered : (drawer : ℕ) → next_drawer before ≤ drawer → total_of_live (has_number drawer) before ≡ 0
  none_numbered drawer later = total_none (has_number drawer) before (λ k d lt. unnumbered (get_or before k d) (rule.each k d lt))
    where
      unnumbered : (standing : Standing View) → OfLive (IsSeat size (next_drawer before)) standing → OfLive (λ other. has_number drawer other ≡ 0) standing
      unnumbered (Live other) is = ap (λ b. cond {A = ℕ} b 1 0) (ne_eqb other.drawer drawer (λ e. let less = is.numbered in omega arith))
      unnumbered Spent is = tt

  -- ---- a seat is split from another
  module _ (may : 0 < view.to_split) where
    abbrev after_split : List (Standing View)
    after_split = set before seat (Live (split_from view)) ++ Live (split_off view) ∷ []

    split_first : view.drawer ≡ 0
    split_first = first_of_count (omega arith)

    pub split_total : (f : View → ℕ) → total_of_live f after_split + f view ≡ total_of_live f before + f (split_from view) + f (split_off view)
    split_total f =
        let s = total_set f before seat (Live view) (Live (split_from view)) at in let t = total_snoc f (set before seat (Live (split_from view))) (Live (split_off view)) in omega arith

    split_next : total_of_live (λ other. other.out + other.joined) before ≡ view.out + view.joined
    split_next = all_of_first (λ other. other.out + other.joined) split_first (λ other is later. let none = is.split_seats later in let out = none.0 in let joined = none.1 in omega arith)

    split_number : total_of_live (λ other. other.out + other.joined) after_split ≡ total_of_live (λ other. other.out + other.joined) before + 1
    split_number = let s = split_total (λ other. other.out + other.joined) in omega arith

    split_apart : (drawer : ℕ) → total_of_live (has_number drawer) after_split ≤ 1
    split_apart drawer =
        let s = split_total (has_number drawer) in
        elim (cases_eq (view.out + view.joined + 1) drawer) [
          | inl same ↦
              let new : has_number drawer (split_off view) ≡ 1 = ap (λ b. cond {A = ℕ} b 1 0) (eq-eqb (view.out + view.joined + 1) drawer same) in
              let none = none_numbered drawer (let next = split_next in omega arith) in omega arith
          | inr other ↦
              let new : has_number drawer (split_off view) ≡ 0 = ap (λ b. cond {A = ℕ} b 1 0) (ne_eqb (view.out + view.joined + 1) drawer other) in
              let most = rule.apart drawer in omega arith
        ]

    split_each : All (OfLive (IsSeat size (next_drawer after_split))) after_split
    split_each =
        let more : next_drawer before ≤ next_drawer after_split = (let n = split_number in omega arith) in
        let later = seat_more size (next_drawer before) (next_drawer after_split) more view seat_is in
        All-push (OfLive (IsSeat size (next_drawer after_split))) (set before seat (Live (split_from view))) (Live (split_off view))
        (All-set (OfLive (IsSeat size (next_drawer after_split))) before seat (Live (split_from view))
        (record { targets = later.targets; heard_end_once = later.heard_end_once; split_seats = (λ other. absurd (other split_first)); numbered = later.numbered; drew = later.drew })
        (each_more size (next_drawer before) (next_drawer after_split) more before rule.each))
        (record {
          targets = later.targets;
          heard_end_once = omega arith;
          split_seats = (λ other. (refl, refl, refl));
          numbered = (let n = split_number in let next = split_next in omega arith);
          drew = All-nil (λ (draw : Draw). draw.drawer < next_drawer after_split);
        })

    pub split_keeps : BoardRule size number after_split
    split_keeps = record {
      once = (λ held. let s = split_total (λ other. times_drawn held other.held) in let all = rule.once held in omega arith);
      apart = split_apart;
      counted = (let s = split_total (λ other. length other.held + other.nones) in let all = rule.counted in omega arith);
      passed = (λ some. let s = split_total (λ other. other.nones) in rule.passed (omega arith));
      first = (
          let s = split_total (has_number 0) in let all = rule.first in
          let new : has_number 0 (split_off view) ≡ 0 = ap (λ b. cond {A = ℕ} b 1 0) (ne_eqb (view.out + view.joined + 1) 0 (λ e. omega arith)) in omega arith);
      others = (let s = split_total (λ _. 1) in let t = split_total (λ other. other.out) in let all = rule.others in omega arith);
      seats = (let s = split_total (λ other. other.out + other.joined + other.to_split) in let all = rule.seats in omega arith);
      each = split_each;
    }

  -- ---- a seat draws
  pub draw_total : (f : View → ℕ) (w : View) → total_of_live f (set before seat (Live w)) + f view ≡ total_of_live f before + f w
  draw_total f w = total_set f before seat (Live view) (Live w) at

  draw_each : (w : View) → (next_drawer (set before seat (Live w)) ≡ next_drawer before) → IsSeat size (next_drawer before) w
      → All (OfLive (IsSeat size (next_drawer (set before seat (Live w))))) (set before seat (Live w))
  draw_each w same is =
      let each = All-set (OfLive (IsSeat size (next_drawer before))) before seat (Live w) is rule.each in
      each_more size (next_drawer before) (next_drawer (set before seat (Live w))) (omega arith) (set before seat (Live w)) each

  -- the seat takes the number
  abbrev pub taken : View
  taken = record view { held = view.held ++ record { number = number; drawer = view.drawer } ∷ [] }

  taken_once : number < size.targets → (held : ℕ) → total_of_live (λ other. times_drawn held other.held) (set before seat (Live taken)) ≡ once_below held (min (number + 1) size.targets)
  taken_once below held =
      let s = draw_total (λ other. times_drawn held other.held) taken in
      let more = times_snoc held view.held record { number = number; drawer = view.drawer } in
      let all = rule.once held in
      let now : once_below held (min number size.targets) ≡ once_below held number = ap (once_below held) (omega arith) in
      let next : once_below held (min (number + 1) size.targets) ≡ once_below held (number + 1) = ap (once_below held) (omega arith) in
      let step = once_more held number in omega arith

  pub taken_keeps : number < size.targets → BoardRule size (number + 1) (set before seat (Live taken))
  taken_keeps below = record {
    once = taken_once below;
    apart = (λ drawer. let s = draw_total (has_number drawer) taken in let most = rule.apart drawer in omega arith);
    counted = (
        let s = draw_total (λ other. length other.held + other.nones) taken in let all = rule.counted in
        let longer = length-append view.held (record { number = number; drawer = view.drawer } ∷ []) in omega arith);
    passed = (λ some. let s = draw_total (λ other. other.nones) taken in let past = rule.passed (omega arith) in omega arith);
    first = (let s = draw_total (has_number 0) taken in let all = rule.first in omega arith);
    others = (let s = draw_total (λ _. 1) taken in let t = draw_total (λ other. other.out) taken in let all = rule.others in omega arith);
    seats = (let s = draw_total (λ other. other.out + other.joined + other.to_split) taken in let all = rule.seats in omega arith);
    each = draw_each taken (let s = draw_total (λ other. other.out + other.joined) taken in omega arith)
        (record {
          targets = seat_is.targets;
          heard_end_once = seat_is.heard_end_once;
          split_seats = seat_is.split_seats;
          numbered = seat_is.numbered;
          drew = All-push (λ (draw : Draw). draw.drawer < next_drawer before) view.held record { number = number; drawer = view.drawer } seat_is.drew seat_is.numbered;
        });
  }

  -- the seat draws when there is nothing left
  abbrev pub told : View
  told = record view { nones = view.nones + 1 }

  pub heard_end_keeps : size.targets ≤ number → view.nones ≡ 0 → BoardRule size (number + 1) (set before seat (Live told))
  heard_end_keeps past untold = record {
    once = (λ held.
        let s = draw_total (λ other. times_drawn held other.held) told in let all = rule.once held in
        let same : once_below held (min number size.targets) ≡ once_below held (min (number + 1) size.targets) = ap (once_below held) (omega arith) in omega arith);
    apart = (λ drawer. let s = draw_total (has_number drawer) told in let most = rule.apart drawer in omega arith);
    counted = (let s = draw_total (λ other. length other.held + other.nones) told in let all = rule.counted in omega arith);
    passed = (λ some. omega arith);
    first = (let s = draw_total (has_number 0) told in let all = rule.first in omega arith);
    others = (let s = draw_total (λ _. 1) told in let t = draw_total (λ other. other.out) told in let all = rule.others in omega arith);
    seats = (let s = draw_total (λ other. other.out + other.joined + other.to_split) told in let all = rule.seats in omega arith);
    each = draw_each told (let s = draw_total (λ other. other.out + other.joined) told in omega arith)
        (record { targets = seat_is.targets; heard_end_once = omega arith; split_seats = seat_is.split_seats; numbered = seat_is.numbered; drew = seat_is.drew });
  }

  -- what a draw makes of a seat is one of the two
  pub drawn_taken : number < size.targets → drawn view number ≡ taken
  drawn_taken below = ap (λ b. if b then taken else told) (lt-ltb number view.targets (let same = seat_is.targets in omega arith))

  pub drawn_heard_end : size.targets ≤ number → drawn view number ≡ told
  drawn_heard_end past = ap (λ b. if b then taken else told) (le-ltb number view.targets (let same = seat_is.targets in omega arith))

  pub draw_keeps : view.nones ≡ 0 → BoardRule size (number + 1) (set before seat (Live (drawn view number)))
  draw_keeps untold = elim (cases_lt number size.targets) [
    | inl below ↦ subst (λ (w : View). BoardRule size (number + 1) (set before seat (Live w))) (sym (drawn_taken below)) (taken_keeps below)
    | inr past ↦ subst (λ (w : View). BoardRule size (number + 1) (set before seat (Live w))) (sym (drawn_heard_end past)) (heard_end_keeps past untold)
  ]

  -- ---- a seat is joined into another
  module _ (other : ℕ) (joining : View) (there : get_elem? before other ≡ some (Live joining)) (apart : other ≢ seat) (some_out : 0 < view.out) where
    abbrev after_join : List (Standing View)
    after_join = set (set before seat (Live (joined_with view joining))) other Spent

    join_first : view.drawer ≡ 0
    join_first = first_of_count (omega arith)

    joining_is : IsSeat size (next_drawer before) joining
    joining_is = all_at (OfLive (IsSeat size (next_drawer before))) before other (Live joining) there rule.each

    joining_later : joining.drawer ≢ 0
    joining_later first =
        let none = none_other_first join_first in
        let most = total_at (has_number 0) (set before seat Spent) other (Live joining) (set_else before seat other Spent apart ∙ there) in
        let one : has_number 0 joining ≡ 1 = ap (λ b. cond {A = ℕ} b 1 0) (eq-eqb joining.drawer 0 first) in omega arith

    pub join_total : (f : View → ℕ) → total_of_live f after_join + f view + f joining ≡ total_of_live f before + f (joined_with view joining)
    join_total f =
        let s = total_set f before seat (Live view) (Live (joined_with view joining)) at in
        let t = total_set f (set before seat (Live (joined_with view joining))) other (Live joining) Spent (set_else before seat other (Live (joined_with view joining)) apart ∙ there) in omega arith

    join_next : next_drawer before ≡ next_drawer after_join
    join_next =
        let s = join_total (λ seat. seat.out + seat.joined) in let none = joining_is.split_seats joining_later in let out = none.0 in let joined = none.1 in omega arith

    join_each : All (OfLive (IsSeat size (next_drawer after_join))) after_join
    join_each =
        let none = joining_is.split_seats joining_later in let joined = none.1 in
        let once = seat_is.heard_end_once in let other_once = joining_is.heard_end_once in
        each_more size (next_drawer before) (next_drawer after_join) (let same = join_next in omega arith) after_join
        (All-set (OfLive (IsSeat size (next_drawer before))) (set before seat (Live (joined_with view joining))) other Spent tt
        (All-set (OfLive (IsSeat size (next_drawer before))) before seat (Live (joined_with view joining))
        (record {
          targets = seat_is.targets;
          heard_end_once = omega arith;
          split_seats = (λ later. absurd (later join_first));
          numbered = seat_is.numbered;
          drew = All-append (λ (draw : Draw). draw.drawer < next_drawer before) view.held joining.held seat_is.drew joining_is.drew;
        })
        rule.each))

    pub join_keeps : BoardRule size number after_join
    join_keeps =
        let none = joining_is.split_seats joining_later in let out = none.0 in let joined = none.1 in let to_split = none.2 in
        record {
          once = (λ held. let s = join_total (λ seat. times_drawn held seat.held) in let t = times_append held view.held joining.held in let all = rule.once held in omega arith);
          apart = (λ drawer. let s = join_total (has_number drawer) in let most = rule.apart drawer in omega arith);
          counted = (let s = join_total (λ seat. length seat.held + seat.nones) in let t = length-append view.held joining.held in let all = rule.counted in omega arith);
          passed = (λ some. let s = join_total (λ seat. seat.nones) in rule.passed (omega arith));
          first = (
              let s = join_total (has_number 0) in let all = rule.first in
              let zero_there : has_number 0 joining ≡ 0 = ap (λ b. cond {A = ℕ} b 1 0) (ne_eqb joining.drawer 0 joining_later) in omega arith);
          others = (let s = join_total (λ _. 1) in let t = join_total (λ seat. seat.out) in let all = rule.others in omega arith);
          seats = (let s = join_total (λ seat. seat.out + seat.joined + seat.to_split) in let all = rule.seats in omega arith);
          each = join_each;
        }
