-- Laws about the shown form.
use Rattle.std.specs.Prelude.{◌≡◌, ◌≤◌, ◌+◌}
use Rattle.net_model.specs.Network.{Plan, IsPlan, greatest}
use Rattle.net_model.specs.ShownForm.{shown_form}

-- the shown form of a sound network is sound
abbrev pub ShownFormsAreSound : Type 0
ShownFormsAreSound = (net : Plan) → IsPlan net → IsPlan (shown_form net)

-- its numbers exceed those of the network by the delay at most
abbrev pub ShownNumbersAreNear : Type 0
ShownNumbersAreNear = (net : Plan) → greatest (shown_form net) ≤ greatest net + net.delay

-- a network with a delay of 0 is its own shown form
abbrev pub ShownWithoutDelayIsSame : Type 0
ShownWithoutDelayIsSame = (net : Plan) → net.delay ≡ 0 → shown_form net ≡ net
