use Rattle.std.proofs.Common.{◌≡◌, ◌*◌, ◌<◌, ◌≤◌, ℕ, length}
use Rattle.tournament_queue.specs.Tournament.{at, AreFirstBut}
use Rattle.tournament_queue.proofs.firsts.find_above.Given as goal

abbrev pub decreases-loop-place : goal.decreases-loop-place
decreases-loop-place l = l.place

abbrev pub invariant-loop-place : goal.invariant-loop-place
invariant-loop-place l = record {
  some : 1 ≤ l.place;
  inside : l.place < length l.firsts;
  others : AreFirstBut l.place l.firsts;
  count : length l.firsts ≡ length l.initial.firsts;
  leaves : (leaf : ℕ) → length l.initial.firsts ≤ 2 * leaf → at l.firsts leaf ≡ at l.initial.firsts leaf;
}
