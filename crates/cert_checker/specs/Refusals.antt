-- What a refusal says of the line that is refused, or of the walk.
use Rattle.std.specs.Prelude.{◌≡◌, ℕ, pos, ◌-◌, ◌<◌, ◌≤ℤ◌, ◌<ℤ◌, List, [], Some, Ok, Err, take, slice_get, unsigned_abs}
use Rattle.net_model.specs.Limits.{most_weight}
use Rattle.net_model.specs.Network.{Plan}
use Rattle.cert_format.specs.declared.line.CertLine.{CertLine}
use Rattle.cert_checker.specs.Lines.{line_passes}
use Rattle.cert_checker.specs.Walk.{refusal, total_weight, walked, walk_passes}
use Rattle.cert_checker.specs.Judgement.{lines_pass}
use Rattle.cert_checker.specs.declared.judgement.CertFault.{CertFault}
use Rattle.cert_checker.specs.declared.judgement.CertFault.TheVariants.{TooLow, WalkBroken, WalkNotNegative, WeightRange, MissingBound, MissingLink}
use Rattle.cert_checker.specs.declared.judgement.CertFault.TheVariants.{OrderBroken, NotClosed}

-- what the fault of a rule line says of that line alone: its numbers are the line's weight and one above it; a weight is
-- beyond the limit; and no fault of a walk or of a table is one of a rule line
abbrev pub FaultSays : CertLine → CertFault → Type 0
FaultSays line (TooLow given least) = (given ≡ line.weight) × (given <ℤ least)
FaultSays line WeightRange = most_weight < unsigned_abs line.weight
FaultSays line WalkBroken = ⊥
FaultSays line (WalkNotNegative total) = ⊥
FaultSays line (MissingBound name) = ⊥
FaultSays line (MissingLink name) = ⊥
FaultSays line OrderBroken = ⊥
FaultSays line NotClosed = ⊥
FaultSays line others = Unit {0}

-- the first rule line that does not pass, at its number, by its own first test that fails
pub record IsRefusedLine (net : Plan) (lines : List CertLine) (number : ℕ) (why : CertFault) : Type 0 where
  pub line : CertLine
  pub here : slice_get lines (number - 1) ≡ Some line
  pub before : lines_pass net [] (take (number - 1) lines) ≡ Ok tt
  pub own : line_passes net (take (number - 1) lines) line ≡ Err why
  pub says : FaultSays line why

-- what the fault of a walk says of it: its number is the sum of the weights, which is not negative
abbrev pub WalkSays : List CertLine → List ℕ → CertFault → Type 0
WalkSays lines walk (WalkNotNegative total) = (total ≡ total_weight (walked lines walk)) × (pos 0 ≤ℤ total)
WalkSays lines walk others = Unit {0}

-- all rule lines pass, and the walk does not, at its number
pub record IsRefusedWalk (net : Plan) (lines : List CertLine) (walk : List ℕ) (number : ℕ) (why : CertFault) : Type 0 where
  pub before : lines_pass net [] lines ≡ Ok tt
  pub own : walk_passes lines walk ≡ Err (refusal number why)
  pub says : WalkSays lines walk why
