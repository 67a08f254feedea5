-- Which situation of a network is played, as a word says it, and that situation.
use Rattle.std.specs.Prelude.{ℕ, ◌≤◌, List, map, codes, Option, Some, None, if◌then◌else◌}
use Rattle.std.specs.Fmt.{decimal}
use Rattle.std.specs.Option.{option_map}
use Rattle.std.specs.Str.{bytes_eq}
use Rattle.net_model.specs.Network.{Plan}
use Rattle.command_words.specs.Syntax.{Text}
use Rattle.situation_player.specs.Numbered.{numbered, longest_of, shortest_of}
use Rattle.command_contracts.specs.Counts.{number_within}
use Rattle.play_command.specs.declared.which_situation.WhichSituation.{WhichSituation}
use Rattle.play_command.specs.declared.which_situation.WhichSituation.TheVariants.{Longest, Shortest, Numbered}

-- the greatest number of a situation that a word may say
abbrev pub most_situation : ℕ
most_situation = 18446744073709551615

-- the situation that a word names
abbrev pub which_of : Text → Option WhichSituation
which_of word =
    if bytes_eq word (codes "longest") then Some Longest
    else (if bytes_eq word (codes "shortest") then Some Shortest
    else option_map (λ number. Numbered number) (number_within most_situation word))

-- the situation that the word names, if one is given
abbrev pub which_given : Option Text → Option WhichSituation
which_given None = None
which_given (Some word) = which_of word

-- the word that names a situation
abbrev pub situation_word : WhichSituation → Text
situation_word Longest = codes "longest"
situation_word Shortest = codes "shortest"
situation_word (Numbered number) = decimal number

-- a word can name it
abbrev pub CanBeNamed : WhichSituation → Type 0
CanBeNamed (Numbered number) = number ≤ most_situation
CanBeNamed which = Unit {0}

-- the situation of a network that is requested: the longest, the shortest, or that of a number
abbrev pub situation_of : WhichSituation → Plan → List ℕ
situation_of Longest net = map longest_of net.links
situation_of Shortest net = map shortest_of net.links
situation_of (Numbered number) net = numbered number net.links
