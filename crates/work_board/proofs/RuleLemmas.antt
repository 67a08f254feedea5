-- Every history of a board keeps its rule, and what follows for its steps and its end.
use Rattle.std.proofs.Common.{◌≡◌, ℕ, ◌+◌, ◌<◌, ◌≤◌, cond, List, [], ◌∷◌, get_or, set, sym, refl, ap, subst, inl, inr, arith, eq-eqb, ne_eqb}
use Rattle.std.specs.Prelude.{min}
use Rattle.std.specs.List.{All}
use Rattle.std.proofs.lemmas.Bool.{cases_lt, cases_eq, le-ltb}
use Rattle.std.proofs.lemmas.List.Elements.{All-nil, All-cons}
use mathlib.Core.Option.{some}
use lib.ListN.{get_elem?}
use Rattle.shared_seats.specs.Standings.{total_of_live, OfLive}
use Rattle.shared_seats.specs.declared.standing.Standing.{Standing}
use Rattle.shared_seats.specs.declared.standing.Standing.TheVariants.{Live, Spent}
use Rattle.shared_seats.proofs.StandingLemmas.{total_set, total_at, total_plus, total_le, total_zero}
use Rattle.work_board.specs.BoardHistory.{BoardHistory, make, split, draw, join}
use Rattle.work_board.specs.BoardRule.{times_drawn, once_below, has_number, IsSeat, next_drawer, BoardRule, HistoriesKeepTheRule}
use Rattle.work_board.specs.Views.{first_view, drawn}
use Rattle.work_board.specs.declared.view.Draw.{Draw}
use Rattle.work_board.specs.declared.view.Size.{Size}
use Rattle.work_board.specs.declared.view.View.{View}
use Rattle.work_board.proofs.DrawLemmas.{all_of_times}
use Rattle.work_board.proofs.StepLemmas.{all_of_first, split_total, split_keeps, draw_total, drawn_heard_end, draw_keeps, join_total, join_keeps}

module _ (size : Size) where
  -- a board that was just made
  make_apart : (drawer : ℕ) → total_of_live (has_number drawer) (Live (first_view size) ∷ []) ≤ 1
  make_apart drawer = elim (cases_eq 0 drawer) [
    | inl same ↦ let one : has_number drawer (first_view size) ≡ 1 = ap (λ b. cond {A = ℕ} b 1 0) (eq-eqb 0 drawer same) in omega arith
    | inr other ↦ let none : has_number drawer (first_view size) ≡ 0 = ap (λ b. cond {A = ℕ} b 1 0) (ne_eqb 0 drawer other) in omega arith
  ]

  make_once : (held : ℕ) → 0 ≡ once_below held (min 0 size.targets)
  make_once held = sym (ap (λ b. cond {A = ℕ} b 1 0) (le-ltb held (min 0 size.targets) (omega arith)))

  make_keeps : 0 < size.seats → BoardRule size 0 (Live (first_view size) ∷ [])
  make_keeps seats = record {
    once = (λ held. make_once held);
    apart = make_apart;
    counted = refl;
    passed = (λ some. absurd (omega arith));
    first = refl;
    others = refl;
    seats = omega arith;
    each = All-cons (OfLive (IsSeat size 1)) (Live (first_view size)) []
        (record { targets = refl; heard_end_once = omega arith; split_seats = (λ other. absurd (other refl)); numbered = omega arith; drew = All-nil (λ (draw : Draw). draw.drawer < 1) })
        (All-nil (OfLive (IsSeat size 1)));
  }

  -- by the steps of the history
  pub keeps : 0 < size.seats → (number : ℕ) (standings : List (Standing View)) → BoardHistory size number standings → BoardRule size number standings
  keeps seats _ _ (make views is) = subst (BoardRule size 0) (sym is) (make_keeps seats)
  keeps seats _ _ (split number before after seat view history at may is) =
      subst (BoardRule size number) (sym is) (split_keeps size number before (keeps seats number before history) seat view at may)
  keeps seats _ _ (draw number next before after seat view history at untold one_more is) =
      subst (λ (n : ℕ). BoardRule size n after) (sym one_more) (subst (BoardRule size (number + 1)) (sym is) (draw_keeps size number before (keeps seats number before history) seat view at untold))
  keeps seats _ _ (join number before after seat other view joining history at there apart some_out is) =
      subst (BoardRule size number) (sym is) (join_keeps size number before (keeps seats number before history) seat view at other joining there apart some_out)

pub every_history_keeps : HistoriesKeepTheRule
every_history_keeps size number standings seats history = keeps size seats number standings history

-- ---- how far a board counts

module _ (size : Size) (seats : 0 < size.seats) where
  -- a draw raises the number by one: either it is below the count of targets, or there was nothing left once more
  draw_bounded : (number : ℕ) (before : List (Standing View)) (history : BoardHistory size number before) (seat : ℕ) (view : View) → get_elem? before seat ≡ some (Live view)
      → number ≤ size.targets + total_of_live (λ view. view.nones) before → number + 1 ≤ size.targets + total_of_live (λ view. view.nones) (set before seat (Live (drawn view number)))
  draw_bounded number before history seat view at bound =
      let rule = keeps size seats number before history in
      let s = draw_total size number before rule seat view at (λ view. view.nones) (drawn view number) in
      elim (cases_lt number size.targets) [
        | inl below ↦ omega arith
        | inr past ↦ let more : (drawn view number).nones ≡ view.nones + 1 = ap (λ (w : View). w.nones) (drawn_heard_end size number before rule seat view at past) in omega arith
      ]

  -- the number of a board is at most the count of targets, and how often there was nothing left
  bounded : (number : ℕ) (standings : List (Standing View)) → BoardHistory size number standings → number ≤ size.targets + total_of_live (λ view. view.nones) standings
  bounded _ _ (make views is) = omega arith
  bounded _ _ (split number before after seat view history at may is) =
      let before_bound = bounded number before history in
      let s = split_total size number before (keeps size seats number before history) seat view at may (λ view. view.nones) in
      subst (λ (l : List (Standing View)). number ≤ size.targets + total_of_live (λ view. view.nones) l) (sym is) (omega arith)
  bounded _ _ (draw number next before after seat view history at untold one_more is) =
      subst (λ (n : ℕ). n ≤ size.targets + total_of_live (λ view. view.nones) after) (sym one_more)
      (subst (λ (l : List (Standing View)). number + 1 ≤ size.targets + total_of_live (λ view. view.nones) l) (sym is) (draw_bounded number before history seat view at (bounded number before history)))
  bounded _ _ (join number before after seat other view joining history at there apart some_out is) =
      let before_bound = bounded number before history in
      let s = join_total size number before (keeps size seats number before history) seat view at other joining there apart some_out (λ view. view.nones) in
      subst (λ (l : List (Standing View)). number ≤ size.targets + total_of_live (λ view. view.nones) l) (sym is) (omega arith)

  heard_end_standing : (next : ℕ) (standing : Standing View) → OfLive (IsSeat size next) standing → OfLive (λ view. view.nones ≤ view.joined + 1) standing
  heard_end_standing next (Live view) is = is.heard_end_once
  heard_end_standing next Spent is = is

  spare_standing : (standing : Standing View) → OfLive (λ view. view.out + view.joined ≤ view.out + view.joined + view.to_split) standing
  spare_standing (Live view) = omega arith
  spare_standing Spent = tt

  -- the number of a board is at most the count of targets and the count of seats
  pub few : (number : ℕ) (standings : List (Standing View)) → BoardHistory size number standings → number ≤ size.targets + size.seats
  few number standings history =
      let rule = keeps size seats number standings history in
      let bound = bounded number standings history in
      let heard_end_at_most = total_le (λ view. view.nones) (λ view. view.joined + 1) standings (λ k d lt. heard_end_standing (next_drawer standings) (get_or standings k d) (rule.each k d lt)) in
      let parts = total_plus (λ view. view.joined) (λ _. 1) standings in
      let both = total_plus (λ view. view.out) (λ view. view.joined) standings in
      let spare = total_le (λ view. view.out + view.joined) (λ view. view.out + view.joined + view.to_split) standings (λ k d lt. spare_standing (get_or standings k d)) in
      let others = rule.others in let all = rule.seats in omega arith

below_of_once : (number bound : ℕ) → 0 < once_below number bound → number < bound
below_of_once number bound there = elim (cases_lt number bound) [
  | inl below ↦ below
  | inr above ↦ let none : once_below number bound ≡ 0 = ap (λ b. cond {A = ℕ} b 1 0) (le-ltb number bound above) in absurd (omega arith)
]

module _ (size : Size) (number : ℕ) (standings : List (Standing View)) (rule : BoardRule size number standings) (seat : ℕ) (view : View) (at : get_elem? standings seat ≡ some (Live view)) where
  -- the number of a board is above all that a seat holds
  pub above_held : All (λ (draw : Draw). draw.number < number) view.held
  above_held = all_of_times number view.held (λ held some.
      let most = total_at (λ other. times_drawn held other.held) standings seat (Live view) at in
      let all = rule.once held in
      let below = below_of_once held (min number size.targets) (omega arith) in omega arith)

  module _ (first : view.drawer ≡ 0) (out : view.out ≡ 0) (heard_end_once : 0 < view.nones) where
    zero_out : total_of_live (λ other. other.out) standings ≡ 0
    zero_out = let only = all_of_first size number standings rule seat view at (λ other. other.out) first (λ other is later. (is.split_seats later).0) in omega arith

    none_else : total_of_live (λ _. 1) (set standings seat Spent) ≡ 0
    none_else = let s = total_set (λ _. 1) standings seat (Live view) Spent at in let others = rule.others in let zero_there = zero_out in omega arith

    counts_nothing : (f : View → ℕ) (standing : Standing View) → OfLive (λ other. ◌≡◌ {A = ℕ} 1 0 → f other ≡ 0) standing
    counts_nothing f (Live other) = λ never. absurd (omega arith)
    counts_nothing f Spent = tt

    -- the first seat with no other out is the only one
    only_seat : (f : View → ℕ) → total_of_live f standings ≡ f view
    only_seat f =
        let s = total_set f standings seat (Live view) Spent at in
        let rest = total_zero f (λ _. 1) (set standings seat Spent) (λ k d lt. counts_nothing f (get_or (set standings seat Spent) k d)) none_else in omega arith

    -- and it holds each number below the count of targets once
    pub each_once : (held : ℕ) → times_drawn held view.held ≡ once_below held size.targets
    each_once held =
        let only = only_seat (λ other. times_drawn held other.held) in
        let nones = only_seat (λ other. other.nones) in
        let all = rule.once held in
        let past = rule.passed (omega arith) in
        let same : once_below held (min number size.targets) ≡ once_below held size.targets = ap (once_below held) (omega arith) in omega arith
