-- The steps of a board's word keep its rule, and what its end shows.
use Rattle.std.proofs.Common.{◌≡◌, ℕ, ◌+◌, ◌%◌, ◌^◌, ◌<◌, List, [], ◌∷◌, get_or, set, Bool, true, false, sym, refl, ap, subst, arith}
use Rattle.std.specs.Prelude.{if◌then◌else◌}
use Rattle.shared_seats.specs.Steps.{MayStep, MaySplit, MayJoin, IsLast}
use Rattle.shared_seats.specs.declared.standing.Standing.TheVariants.{Live}
use Rattle.work_board.specs.BoardHistory.{BoardHistory, make, split, draw, join}
use Rattle.work_board.specs.Boards.{EachOnce}
use Rattle.work_board.specs.Steps.{IsSize, IsReachedBy, IsDrawn}
use Rattle.work_board.specs.Views.{first_view, split_from, split_off, drawn, joined_with}
use Rattle.work_board.specs.declared.view.Size.{Size}
use Rattle.work_board.specs.declared.view.View.{View}
use Rattle.work_board.proofs.RuleLemmas.{few, above_held, each_once, every_history_keeps}

module _ (size : Size) where
  -- the word of a board that was just made
  pub opens : IsSize size → IsReachedBy size (0 ∷ []) (Live (first_view size) ∷ [])
  opens sized = record { sized = sized; number = 0; word = refl; history = make _ refl }

  -- a seat is split from another
  pub splits : (view : View) → 0 < view.to_split → MaySplit (IsReachedBy size) view (split_from view) (split_off view)
  splits view may words seats seat reached at = record { sized = reached.sized; number = reached.number; word = reached.word; history = split reached.number seats _ seat view reached.history at may refl }

  -- a draw leaves the count of seats that may be split
  if_same : (b : Bool) (taken told : View) → taken.to_split ≡ told.to_split → (if b then taken else told).to_split ≡ told.to_split
  if_same true taken told same = same
  if_same false taken told same = refl

  -- a draw: the word is at most the count of targets and 64, so it does not wrap
  pub draws : (view : View) → view.nones ≡ 0 → MayStep (IsReachedBy size) (λ (v : View). v.to_split) 0 (λ word. (word + 1) % 2 ^ 64) view (IsDrawn view)
  draws view untold words seats seat reached at small =
      let found : ℕ = get_or words 0 0 in
      let is : found ≡ reached.number = ap (λ (ws : List ℕ). get_or ws 0 0) reached.word in
      let most = few size reached.sized.some reached.number seats reached.history in
      let count = reached.sized.few in let targets = reached.sized.targets in
      let next : (found + 1) % 2 ^ 64 ≡ found + 1 = omega arith in
      let history : BoardHistory size found seats = subst (λ (n : ℕ). BoardHistory size n seats) (sym is) reached.history in (
        drawn view found,
        record {
          sized = reached.sized;
          number = (found + 1) % 2 ^ 64;
          word = ap (λ (ws : List ℕ). set ws 0 ((found + 1) % 2 ^ 64)) reached.word;
          history = draw found ((found + 1) % 2 ^ 64) seats _ seat view history at untold next refl;
        },
        if_same _ _ _ refl,
        record { above = above_held size found seats (every_history_keeps size found seats reached.sized.some history) seat view at; is = refl },
      )

  -- a seat is joined into another
  pub joins : (view joining : View) → 0 < view.out → MayJoin (IsReachedBy size) view joining (joined_with view joining)
  joins view joining some_out words seats seat other reached at there apart = record {
    sized = reached.sized;
    number = reached.number;
    word = reached.word;
    history = join reached.number seats _ seat other view joining reached.history at there apart some_out refl;
  }

  -- if the first seat, with no other out, drew when there was nothing left, it has each number once at the end
  pub closes : (view : View) (words : List ℕ) → IsLast (IsReachedBy size) view words → view.drawer ≡ 0 → view.out ≡ 0 → 0 < view.nones → EachOnce size.targets view.held
  closes view words last first out told =
      each_once size last.rule.number last.seats (every_history_keeps size last.rule.number last.seats last.rule.sized.some last.rule.history) last.seat view last.at first out told
