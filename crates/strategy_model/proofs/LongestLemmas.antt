-- The situation in which every link takes its longest duration.
use Rattle.std.proofs.Common.{ℕ, ℤ, pos, negsuc, ◌≤ℤ◌, List, [], ◌∷◌, map, nat_abs, arith}
use Rattle.std.specs.List.{AllZip, AllByRecursion}
use Rattle.std.proofs.lemmas.Int.{ints}
use Rattle.std.proofs.lemmas.List.Elements.{recursion_from_All}
use Rattle.net_model.specs.Network.{Plan, IsPlan, IsLink}
use Rattle.net_model.specs.declared.part.Link.{Link}
use Rattle.strategy_model.specs.Situations.{IsSituation, IsDuration}

-- the longest durations
abbrev pub longest_of : List Link → List ℕ
longest_of links = map (λ (link : Link). nat_abs link.high) links

-- a number from 1 on is its own size
by_size : (low high : ℤ) → pos 1 ≤ℤ low → low ≤ℤ high → (low ≤ℤ pos (nat_abs high)) × (pos (nat_abs high) ≤ℤ high)
by_size low (pos n) positive interval = (interval, omega (arith, ints))
by_size low (negsuc n) positive interval = absurd (omega (arith, ints))

longest_is_duration : (net : Plan) (link : Link) → IsLink net link → IsDuration link (nat_abs link.high)
longest_is_duration net link sound = by_size link.low link.high sound.positive sound.interval

pub longest_are_durations : (net : Plan) (links : List Link) → AllByRecursion (IsLink net) links → AllZip IsDuration links (longest_of links)
longest_are_durations net [] sound = tt
longest_are_durations net (link ∷ links) sound = (longest_is_duration net link sound.0, longest_are_durations net links sound.1)

-- every network has a situation
pub longest_situation : (net : Plan) → IsPlan net → IsSituation net (longest_of net.links)
longest_situation net plan = longest_are_durations net net.links (recursion_from_All (IsLink net) net.links plan.links_sound)
