-- The draws of tasks: states one after another, and how great the numbers of a task are.
use Rattle.std.proofs.Common.{◌≡◌, ℕ, zero, suc, ◌+◌, ◌*◌, ◌/◌, ◌<◌, [], ◌∷◌, ◌++◌, length, get_or, ap, ◌∙◌, arith}
use Rattle.std.specs.List.{All, range_with_len}
use Rattle.std.proofs.lemmas.List.Elements.{All-map}
use Rattle.std.proofs.lemmas.List.FromFn.{map-range_with_len_more, length-map-range_with_len}
use Rattle.std.proofs.lemmas.Nat.{mod_below}
use Rattle.situation_player.specs.Generator.{next_state, state_after, drawn}
use Rattle.situation_player.specs.Tasks.{task_from, tasks_drawn, cut_drawn, IsSmall}

-- draws after draws
pub state_more : (start first second : ℕ) → state_after (state_after start first) second ≡ state_after start (second + first)
state_more start first zero = let same : first ≡ 0 + first = omega arith in ap (state_after start) same
state_more start first (suc second) = let same : suc (second + first) ≡ suc second + first = omega arith in ap next_state (state_more start first second) ∙ ap (state_after start) same

below : (state n : ℕ) → 0 < n → drawn state n < n
below state n some = mod_below (state / 65536) n some

pub task_small : (state : ℕ) → IsSmall (task_from state)
task_small state =
    let low = below (state_after state 1) 20 (omega arith) in
    let more = below (state_after state 2) 20 (omega arith) in
    record {
      low = omega arith;
      interval = omega arith;
      high = omega (arith, low, more);
      slack = below (state_after state 3) 10 (omega arith);
      early = below (state_after state 4) 20 (omega arith);
      late = below (state_after state 5) 5 (omega arith);
    }

pub tasks_small : (start count : ℕ) → All IsSmall (tasks_drawn start count)
tasks_small start count = All-map IsSmall (λ k. task_from (state_after start (5 * k))) (range_with_len 0 count) (λ k d inside. task_small (state_after start (5 * get_or (range_with_len 0 count) k d)))

pub cut_low : (start count : ℕ) → cut_drawn start count < 2
cut_low start count = below (state_after start (5 * count + 1)) 2 (omega arith)

-- one more task
pub tasks_more : (start count : ℕ) → tasks_drawn start (count + 1) ≡ tasks_drawn start count ++ task_from (state_after start (5 * count)) ∷ []
tasks_more start count = map-range_with_len_more (λ k. task_from (state_after start (5 * k))) 0 count count (omega arith)

pub states_more : (start count : ℕ) → state_after (state_after start (5 * count)) 5 ≡ state_after start (5 * (count + 1))
states_more start count =
    let same : 5 + 5 * count ≡ 5 * (count + 1) = omega arith in
    state_more start (5 * count) 5 ∙ ap (state_after start) same

pub cut_is : (start count : ℕ) → drawn (next_state (state_after start (5 * count))) 2 ≡ cut_drawn start count
cut_is start count = let same : suc (5 * count) ≡ 5 * count + 1 = omega arith in ap (λ (n : ℕ). drawn (state_after start n) 2) same

pub tasks_count : (start count : ℕ) → length (tasks_drawn start count) ≡ count
tasks_count start count = length-map-range_with_len (λ k. task_from (state_after start (5 * k))) 0 count
