-- The plan text of a network.
use Rattle.std.specs.Prelude.{◌≡◌, ℕ, pos, ◌==◌, List, [], ◌∷◌, ◌++◌, map, length, Ok, if◌then◌else◌}
use Rattle.net_model.specs.Network.{Plan}
use Rattle.texts.specs.PrintedLines.{printed}
use Rattle.net_model.specs.declared.part.Part.{Part}
use Rattle.net_model.specs.NetworkParts.{parts_of}
use Rattle.net_model.specs.BuiltNetwork.{declared_net}
use Rattle.plan_format.specs.declared.read.Parts.{Parts}
use Rattle.plan_format.specs.declared.version.PlanVersion.TheVariants.{Two}
use Rattle.plan_format.specs.PlanGrammar.{ReadsPlan}
use Rattle.plan_format.specs.PlanParts.{part_words, delay_words, plan_header_words, end_words}

-- the line of a delay, if it is not 0
abbrev pub delay_lines : ℕ → List (List (List ℕ))
delay_lines delay = if delay == 0 then [] else delay_words delay ∷ []

-- the lines of a plan text of version 2 that states a delay and declares parts: the header, the delay, a line for each part, and `end`
abbrev pub plan_words : ℕ → List Part → List (List (List ℕ))
plan_words delay parts = plan_header_words Two ∷ (delay_lines delay ++ (map part_words parts ++ end_words ∷ []))

-- the plan text of a network: the header, its points, bounds and links, each list in its order, and `end`
unfoldable pub printed_plan : Plan → List ℕ
printed_plan net = printed (plan_words net.delay (parts_of net))

-- a text that reads back, whole, as the delay and the parts of the network
pub record ReadsBack (text : List ℕ) (net : Plan) : Type 0 where
  pub read : Parts
  pub said : ReadsPlan text read
  pub whole : read.used ≡ length text
  pub stated : read.delay ≡ pos net.delay
  pub same : declared_net net.delay read.parts ≡ Ok net
