-- Situations by number: the number is read link by link, from the first on, in the base that is the count of the link's durations.
use Rattle.std.specs.Prelude.{ℕ, ◌+◌, ◌-◌, ◌/◌, ◌%◌, List, [], ◌∷◌, unsigned_abs}
use Rattle.net_model.specs.declared.part.Link.{Link}

-- the shortest and the longest duration of a link
abbrev pub shortest_of : Link → ℕ
shortest_of link = unsigned_abs link.low

abbrev pub longest_of : Link → ℕ
longest_of link = unsigned_abs link.high

-- how many durations a link may last
abbrev pub choices : Link → ℕ
choices link = longest_of link - shortest_of link + 1

-- the situation of a number: the first link lasts so much longer than its shortest duration as the number leaves over when it is divided
-- by the count of the link's durations; the quotient is the number for the links after it
abbrev pub numbered : ℕ → List Link → List ℕ
numbered number [] = []
numbered number (link ∷ links) = (shortest_of link + number % choices link) ∷ numbered (number / choices link) links
