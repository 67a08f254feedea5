use Rattle.std.proofs.Common.{◌<◌, ℕ, List, ap, ◌∙◌, subst, sym}
use Rattle.std.specs.Mem.Slots.{slots_items}
use Rattle.work_board.specs.Boards.{BoardSeatSeen, EachOnce}
use Rattle.work_board.specs.declared.view.Draw.{Draw}
use Rattle.work_board.proofs.TableLemmas.{closes}
use Rattle.work_board.proofs.board.Board.close.Goals as goal

pub returns-clause-once : goal.returns-clause-once
returns-clause-once c =
    let same = c.seat.view_is in
    let last : EachOnce c.self.inside.words.key.targets c.seat.inside.shared.view.held =
    closes c.self.inside.words.key c.seat.inside.shared.view (slots_items c.close.result.words) c.close.ensures.last (ap (λ (s : BoardSeatSeen). s.view.drawer) same ∙ c.requires.first)
    (ap (λ (s : BoardSeatSeen). s.view.out) same ∙ c.requires.out) (subst (λ (s : BoardSeatSeen). 0 < s.view.nones) (sym same) c.requires.told) in
    subst (λ (p : ℕ × List Draw). EachOnce p.0 p.1) (λ i. ((c.self.view_is i).size.targets, ((same ∙ sym c.of-place.ensures) i).view.held)) last
