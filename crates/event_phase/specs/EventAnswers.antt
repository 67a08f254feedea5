-- The answers to events: acts, due moments, and why an event is refused.
use Rattle.std.specs.Prelude.{ℕ, List, [], ◌∷◌, codes, Option, Some, None}
use Rattle.std.specs.List.{flat_map}
use Rattle.std.specs.Fmt.{decimal}
use Rattle.texts.specs.PrintedLines.{printed_line}
use Rattle.net_model.specs.Limits.{most_moment}
use Rattle.net_model.specs.Network.{Plan, IsPoint}
use Rattle.net_model.specs.NetworkParts.{point_name}
use Rattle.net_model.specs.declared.ids.PointId.{PointId}
use Rattle.net_model.specs.declared.format.FormatKind.{FormatKind}
use Rattle.net_model.specs.declared.format.FormatKind.TheVariants.{NumberLimit}
use Rattle.execution_model.specs.declared.feed_answers.Act.{Act}
use Rattle.execution_model.specs.declared.feed_answers.Why.{Why}
use Rattle.execution_model.specs.declared.feed_answers.Why.TheVariants as why
use Rattle.common_answers.specs.Faults.{fault_line}
use Rattle.common_answers.specs.declared.faults.Fault.TheVariants.{Format}

-- the line of an act
abbrev pub act_line : Plan → Act → List ℕ
act_line net act = printed_line (codes "act" ∷ decimal act.moment ∷ point_name net.points act.point ∷ [])

-- the line of the next due moment
abbrev pub due_line : Option ℕ → List ℕ
due_line None = printed_line (codes "due" ∷ codes "none" ∷ [])
due_line (Some moment) = printed_line (codes "due" ∷ decimal moment ∷ [])

-- the line of an execution that is whole
abbrev pub complete_line : List ℕ
complete_line = printed_line (codes "complete" ∷ [])

-- the lines of acts
abbrev pub acts_text : Plan → List Act → List ℕ
acts_text net acts = flat_map (act_line net) acts

-- why an event is refused, in words
abbrev pub why_words : Plan → Why → List (List ℕ)
why_words net (why.NotLater last) = codes "not-later" ∷ decimal last ∷ []
why_words net (why.NotContingent point) = codes "not-contingent" ∷ point_name net.points point ∷ []
why_words net (why.Twice point moment) = codes "twice" ∷ point_name net.points point ∷ decimal moment ∷ []
why_words net (why.NotActive point) = codes "not-active" ∷ point_name net.points point ∷ []
why_words net (why.TooSoon point earliest) = codes "too-soon" ∷ point_name net.points point ∷ decimal earliest ∷ []
why_words net (why.Overdue point latest) = codes "overdue" ∷ point_name net.points point ∷ decimal latest ∷ []
why_words net why.MomentLimit = codes "moment" ∷ decimal most_moment ∷ []

-- the points that it names are points of the network
abbrev pub NamesPoints : Plan → Why → Type 0
NamesPoints net (why.NotLater last) = Unit {0}
NamesPoints net (why.NotContingent point) = IsPoint net point
NamesPoints net (why.Twice point moment) = IsPoint net point
NamesPoints net (why.NotActive point) = IsPoint net point
NamesPoints net (why.TooSoon point earliest) = IsPoint net point
NamesPoints net (why.Overdue point latest) = IsPoint net point
NamesPoints net why.MomentLimit = Unit {0}

-- an end with a contingent point that has not completed, in words
abbrev pub unfinished_words : Plan → PointId → List (List ℕ)
unfinished_words net point = codes "unfinished" ∷ point_name net.points point ∷ []

-- the line of an event that is refused
abbrev pub event_refusal_line : ℕ → List (List ℕ) → List ℕ
event_refusal_line number words = printed_line (codes "error" ∷ codes "event" ∷ decimal number ∷ words)

-- the line of the fault of a line of events: a number beyond its limit is a moment there
abbrev pub event_fault_line : ℕ → FormatKind → List ℕ
event_fault_line number NumberLimit = printed_line (codes "error" ∷ codes "limit" ∷ decimal number ∷ codes "moment" ∷ [])
event_fault_line number kind = fault_line (Format number kind)

-- how many bytes the line of an act takes at most
abbrev pub most_act : ℕ
most_act = 64
