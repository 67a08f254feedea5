-- Situations by number are the situations of a network.
use Rattle.std.proofs.Common.{◌≡◌, ℕ, ℤ, pos, ◌+◌, ◌-◌, ◌*◌, ◌/◌, ◌%◌, ◌<◌, ◌≤◌, ◌≤ℤ◌, List, [], ◌∷◌, ◌++◌, length, drop, get_or, map, append_assoc, append-nil, refl, ap, sym, ◌∙◌, arith}
use Rattle.std.specs.Prelude.{unsigned_abs}
use Rattle.std.specs.List.{All, AllZip}
use Rattle.std.proofs.lemmas.Int.{ints}
use Rattle.std.proofs.lemmas.List.{drop_more, drop_all}
use Rattle.std.proofs.lemmas.List.Elements.{All-head, All-tail}
use Rattle.std.proofs.Math.Nat.{mod-eq_of_lt, div-eq_of_lt}
use Rattle.std.proofs.lemmas.Nat.{mod-mul-add, div-mul-add, mod_below}
use Rattle.net_model.specs.Network.{Plan, IsLink}
use Rattle.net_model.specs.declared.part.Link.{Link}
use Rattle.strategy_model.specs.Situations.{IsDuration}
use Rattle.situation_player.specs.Numbered.{shortest_of, longest_of, choices, numbered}
use Rattle.situation_player.specs.Laws.{SituationsHaveNumbers, NumbersAreSituations}

-- a link lasts from its shortest to its longest duration
sizes : (low high : ℤ) → pos 1 ≤ℤ low → low ≤ℤ high → unsigned_abs low ≤ unsigned_abs high
sizes low high positive interval = omega (arith, ints)

lasts : (low high : ℤ) (duration : ℕ) → pos 1 ≤ℤ low → low ≤ℤ high → unsigned_abs low ≤ duration → duration ≤ unsigned_abs high
    → (low ≤ℤ pos duration) × (pos duration ≤ℤ high)
lasts low high duration positive interval above below = (omega (arith, ints), omega (arith, ints))

lasted : (low high : ℤ) (duration : ℕ) → pos 1 ≤ℤ low → low ≤ℤ pos duration → pos duration ≤ℤ high
    → (unsigned_abs low ≤ duration) × (duration ≤ unsigned_abs high)
lasted low high duration positive above below = (omega (arith, ints), omega (arith, ints))

chosen : (low high number : ℕ) → low ≤ high → (low ≤ low + number % (high - low + 1)) × (low + number % (high - low + 1) ≤ high)
chosen low high number interval = let below = mod_below number (high - low + 1) (omega arith) in (omega arith, omega (arith, below))

pub numbered_fits : (links : List Link) (net : Plan) (number : ℕ) → All (IsLink net) links → AllZip IsDuration links (numbered number links)
numbered_fits [] net number sound = tt
numbered_fits (link ∷ links) net number sound =
    let is = All-head (IsLink net) link links sound in
    let within = chosen (shortest_of link) (longest_of link) number (sizes link.low link.high is.positive is.interval) in (
      lasts link.low link.high (shortest_of link + number % choices link) is.positive is.interval within.0 within.1,
      numbered_fits links net (number / choices link) (All-tail (IsLink net) link links sound),
    )

pub law_numbers_are_situations : NumbersAreSituations
law_numbers_are_situations net number plan = numbered_fits net.links net number plan.links_sound

-- the number 0 is that of the shortest durations
pub numbered_zero : (links : List Link) → numbered 0 links ≡ map shortest_of links
numbered_zero [] = refl
numbered_zero (link ∷ links) =
    let some : 0 < choices link = omega arith in
    let left : 0 % choices link ≡ 0 = mod-eq_of_lt some in
    let over : 0 / choices link ≡ 0 = div-eq_of_lt some in
    let here : shortest_of link + 0 % choices link ≡ shortest_of link = omega (arith, left) in
    ap (λ (d : ℕ). d ∷ numbered (0 / choices link) links) here ∙ ap (λ (n : ℕ). shortest_of link ∷ numbered n links) over
    ∙ ap (λ (ds : List ℕ). shortest_of link ∷ ds) (numbered_zero links)

pub longest_fits : (links : List Link) (net : Plan) → All (IsLink net) links → AllZip IsDuration links (map longest_of links)
longest_fits [] net sound = tt
longest_fits (link ∷ links) net sound =
    let is = All-head (IsLink net) link links sound in
    let within = sizes link.low link.high is.positive is.interval in
    (lasts link.low link.high (longest_of link) is.positive is.interval within (omega arith), longest_fits links net (All-tail (IsLink net) link links sound))

-- every situation has a number
number_of : (links : List Link) (net : Plan) (situation : List ℕ) → All (IsLink net) links → AllZip IsDuration links situation → (number : ℕ) × (numbered number links ≡ situation)
number_of [] net [] sound fits = (0, refl)
number_of [] net (duration ∷ situation) sound fits = absurd fits
number_of (link ∷ links) net [] sound fits = absurd fits
number_of (link ∷ links) net (duration ∷ situation) sound fits =
    let is = All-head (IsLink net) link links sound in
    let (above, below) = lasted link.low link.high duration is.positive fits.0.0 fits.0.1 in
    let rest = number_of links net situation (All-tail (IsLink net) link links sound) fits.1 in
    let number : ℕ = rest.0 * choices link + (duration - shortest_of link) in
    let left : number % choices link ≡ duration - shortest_of link = mod-mul-add rest.0 (choices link) (duration - shortest_of link) (omega (arith, above, below)) in
    let over : number / choices link ≡ rest.0 = div-mul-add rest.0 (choices link) (duration - shortest_of link) (omega (arith, above, below)) in
    let here : shortest_of link + number % choices link ≡ duration = omega (arith, left, above) in
    let later : numbered (number / choices link) links ≡ situation = ap (λ (n : ℕ). numbered n links) over ∙ rest.1 in
    (number, ap (λ (d : ℕ). d ∷ numbered (number / choices link) links) here ∙ ap (λ (ds : List ℕ). duration ∷ ds) later)

pub law_situations_have_numbers : SituationsHaveNumbers
law_situations_have_numbers net situation plan fits = number_of net.links net situation plan.links_sound fits

-- what is left of a number after one more link, and past the last one
pub numbered_more : (links : List Link) (k rest shortest count : ℕ) (d : Link) (so_far after whole : List ℕ) → k < length links → shortest ≡ shortest_of (get_or links k d) → count ≡ choices (get_or links k d)
    → after ≡ so_far ++ (shortest + rest % count) ∷ [] → so_far ++ numbered rest (drop k links) ≡ whole → after ++ numbered (rest / count) (drop (k + 1) links) ≡ whole
numbered_more links k rest shortest count d so_far after whole inside is_shortest is_count added so =
    let later = drop (k + 1) links in
    let here : (shortest + rest % count) ∷ numbered (rest / count) later ≡ numbered rest (drop k links) =
    ap (λ (n : ℕ). (n + rest % count) ∷ numbered (rest / count) later) is_shortest
    ∙ ap (λ (n : ℕ). (shortest_of (get_or links k d) + rest % n) ∷ numbered (rest / n) later) is_count
    ∙ ap (numbered rest) (sym (drop_more links k d inside)) in
    ap (λ (ds : List ℕ). ds ++ numbered (rest / count) later) added ∙ append_assoc so_far ((shortest + rest % count) ∷ []) (numbered (rest / count) later)
    ∙ ap (λ (ds : List ℕ). so_far ++ ds) here ∙ so

pub numbered_past : (links : List Link) (k rest : ℕ) (so_far whole : List ℕ) → length links ≤ k → so_far ++ numbered rest (drop k links) ≡ whole → so_far ≡ whole
numbered_past links k rest so_far whole past so =
    sym (append-nil so_far) ∙ ap (λ (ls : List Link). so_far ++ numbered rest ls) (sym (drop_all k links past)) ∙ so
