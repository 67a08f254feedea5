-- There is capacity for the answer of a plan after its name.
use Rattle.std.proofs.Common.{◌≤◌, ℕ, ◌+◌, ◌*◌, ◌==◌, Bool, true, false, cond, List, [], ◌∷◌, ◌++◌, length, arith, length-append}
use Rattle.std.specs.List.{flat_map}
use Rattle.texts.specs.Lines.{whole_lines, whole_lines_after}
use Rattle.multiplexed_commands.specs.Alone.{MemberState, Runs, Idle}
use Rattle.multiplexed_commands.specs.NamedLines.{after_name, ended_line, named}
use Rattle.event_phase.specs.EventRuns.{EventRun}
use Rattle.fleet_command.specs.FleetStands.{said_capacity, stands_capacity}

ends_short : (line bytes : List ℕ) → length (flat_map ended_line (whole_lines_after line bytes)) ≤ length line + length bytes
ends_short line [] = omega arith
ends_short line (byte ∷ bytes) = by (byte == 10) (ends_short [] bytes) (ends_short (line ++ byte ∷ []) bytes)
  where
    by : (ends : Bool) → length (flat_map ended_line (whole_lines_after [] bytes)) ≤ 0 + length bytes → length (flat_map ended_line (whole_lines_after (line ++ byte ∷ []) bytes)) ≤ length (line ++ byte ∷ []) + length bytes
        → length (flat_map ended_line (cond ends (line ∷ whole_lines_after [] bytes) (whole_lines_after (line ++ byte ∷ []) bytes))) ≤ length line + length (byte ∷ bytes)
    by true here later =
        let all = length-append (ended_line line) (flat_map ended_line (whole_lines_after [] bytes)) in
        let one = length-append line (10 ∷ []) in
        omega (arith, here, all, one)
    by false here later = let one = length-append line (byte ∷ []) in omega (arith, later, one)

lines_short : (line bytes : List ℕ) → length (whole_lines_after line bytes) ≤ length bytes
lines_short line [] = omega arith
lines_short line (byte ∷ bytes) = by (byte == 10) (lines_short [] bytes) (lines_short (line ++ byte ∷ []) bytes)
  where
    by : (ends : Bool) → length (whole_lines_after [] bytes) ≤ length bytes → length (whole_lines_after (line ++ byte ∷ []) bytes) ≤ length bytes
        → length (cond ends (line ∷ whole_lines_after [] bytes) (whole_lines_after (line ++ byte ∷ []) bytes)) ≤ length (byte ∷ bytes)
    by true here later = omega (arith, here)
    by false here later = omega (arith, later)

-- a name of at most 32 bytes and a blank before each line
names_short : (name : List ℕ) (lines : List (List ℕ)) → length name ≤ 32 → length (flat_map (λ line. ended_line (after_name name line)) lines) ≤ 33 * length lines + length (flat_map ended_line lines)
names_short name [] short = omega arith
names_short name (line ∷ lines) short =
    let on = names_short name lines short in
    let all = length-append (ended_line (after_name name line)) (flat_map (λ l. ended_line (after_name name l)) lines) in
    let first = length-append (after_name name line) (10 ∷ []) in
    let named_so = length-append name (32 ∷ line) in
    let plain = length-append (ended_line line) (flat_map ended_line lines) in
    let one = length-append line (10 ∷ []) in
    omega (arith, on, all, first, named_so, plain, one, short)

pub named_short : (name put : List ℕ) → length name ≤ 32 → length (named name put) ≤ 34 * length put
unfolding whole_lines
named_short name put short =
    let most = names_short name (whole_lines put) short in
    let lines = lines_short [] put in
    let ends = ends_short [] put in
    omega (arith, most, lines, ends)

-- ---- what is said fits after a name
pub fits_named : (stands : MemberState EventRun) (name said : List ℕ) (spare_capacity capacity : ℕ) → length name ≤ 32 → length said ≤ said_capacity stands → stands_capacity stands ≤ spare_capacity → spare_capacity ≤ capacity
    → 256 ≤ capacity
    → length (named name said) + 1 ≤ capacity
fits_named (Runs event_run) name said spare_capacity capacity short fits least enough filled = let most = named_short name said short in omega (arith, most, fits, least, enough)
fits_named Idle name said spare_capacity capacity short fits least enough filled = let most = named_short name said short in omega (arith, most, fits, filled)
