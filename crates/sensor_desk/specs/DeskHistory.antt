-- The histories of a desk: posts and reads of any seats, in any order, over words of which each is written once. (Such words: Arvind,
-- Nikhil and Pingali 1989; written by a test of what stands: Plotkin 1989. What a desk has of them is this project's own choice.) A program
-- that has a thread for each sensor may rest on this: the first moment that is posted for a link stands for good, whoever posts it; each
-- post and each read gets what stood at its own step; an executor that follows is fed exactly what stands at its moment; and if the end
-- agrees after a complete execution, that is the execution of what the sensors posted.
use Rattle.std.specs.Prelude.{◌≡◌, ℕ, ◌<◌, List, [], ◌∷◌, ◌++◌, Option, Some, None, replicate, slice_set}
use Rattle.std.specs.List.{All, slice_index_or}
use Rattle.net_model.specs.declared.ids.LinkId.{LinkId}

-- what stands at a desk: for each link the moment that was posted first, if one was posted
abbrev pub Entries : Type 0
Entries = List (Option ℕ)

-- the moment that stands for a link
abbrev pub moment_at : Entries → LinkId → Option ℕ
moment_at entries link = slice_index_or entries link.0 None

-- a step of a seat at a link: the moment of a post, none for a read, and what it found
pub record DeskStep : Type 0 where
  pub seat : ℕ
  pub link : LinkId
  pub post_moment : Option ℕ
  pub found : Option ℕ

-- what stands for the link of a step after it: what stood, or the posted moment if nothing did
abbrev pub moment_standing_after : (found post_moment : Option ℕ) → Option ℕ
moment_standing_after (Some moment) post_moment = Some moment
moment_standing_after None post_moment = post_moment

-- what the seat of a step notes of the link, which is what stands for the link after it
abbrev pub noted_by : DeskStep → Option ℕ
noted_by step = moment_standing_after step.found step.post_moment

-- what stands at the desk after a step
abbrev pub stepped : Entries → DeskStep → Entries
stepped entries step = slice_set entries step.link.0 (noted_by step)

-- A history of steps at a desk of so many links, and what stands after it. At first nothing stands. Each step finds what stands for its
-- link; the moment of a post stands from then on if nothing stood, and a read changes nothing.
pub data DeskHistory (links : ℕ) : List DeskStep → Entries → Type 0 where
  opens : (entries : Entries) → entries ≡ replicate links None → DeskHistory links [] entries
  steps : (before later : List DeskStep) (entries after : Entries) (step : DeskStep) → DeskHistory links before entries
      → step.link.0 < links → step.found ≡ moment_at entries step.link → later ≡ before ++ step ∷ []
      → after ≡ stepped entries step → DeskHistory links later after

-- what a step noted of its link stands
abbrev pub StandsNoted : Entries → DeskStep → Type 0
StandsNoted entries step = (moment : ℕ) → noted_by step ≡ Some moment → moment_at entries step.link ≡ Some moment

-- what a seat has noted of a link stands for good, in every history
abbrev pub WhatIsNotedStands : Type 0
WhatIsNotedStands =
    (links : ℕ) (steps : List DeskStep) (entries : Entries) → DeskHistory links steps entries → All (StandsNoted entries) steps
