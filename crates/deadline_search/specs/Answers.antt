-- What is answered of the tightest deadline of a network, and how it is certified: each certificate speaks of the shown form of the network
-- with the bound of the goal, as that of a verdict does.
use Rattle.std.specs.Prelude.{ℕ, ℤ, pos, ◌-ℤ◌, ◌<ℤ◌, List, Result, Ok, Err}
use Rattle.net_model.specs.Network.{Plan}
use Rattle.net_model.specs.ShownForm.{shown_form}
use Rattle.net_model.specs.declared.ids.PointId.{PointId}
use Rattle.strategy_model.specs.Control.{IsControllable}
use Rattle.cert_format.specs.declared.certificate.Certificate.{Certificate}
use Rattle.refutation_certificates.specs.Refutations.{Refutes}
use Rattle.closure_certificates.specs.Certified.{Proves}
use Rattle.deadline_search.specs.Goals.{IsGoalName, with_goal}
use Rattle.deadline_search.specs.Deadlines.{IsDeadline, IsFull, IsTightest, highest, lowest}
use Rattle.deadline_search.specs.declared.goal.Goal.{Goal}
use Rattle.deadline_search.specs.declared.answer.Deadline.{Deadline}
use Rattle.deadline_search.specs.declared.answer.Deadline.TheVariants.{NotControllable, Never, Least, Floor}
use Rattle.deadline_search.specs.declared.answer.DeadlineFault.{DeadlineFault}
use Rattle.deadline_search.specs.declared.answer.DeadlineFault.TheVariants.{Full, OutOfMemory}

-- a certificate proves the network with the bound at a number controllable
abbrev pub ProvesAt : Plan → Goal → ℤ → Certificate → Type 0
ProvesAt net goal most cert = Proves (shown_form (with_goal net goal most)) cert

-- a certificate refutes the network with the bound at a number
abbrev pub RefutesAt : Plan → Goal → ℤ → Certificate → Type 0
RefutesAt net goal most cert = Refutes (shown_form (with_goal net goal most)) cert

-- no number is a deadline; the greatest one is refuted
pub record IsNever (net : Plan) (goal : Goal) (refutation : Certificate) : Type 0 where
  pub none : (most : ℤ) → ¬ IsDeadline net goal most
  pub refuted : RefutesAt net goal highest refutation

-- a number is the tightest deadline, and not the least that a plan may have; it is proved, and the one below it refuted
pub record IsLeastDeadline (net : Plan) (goal : Goal) (most : ℤ) (proof refutation : Certificate) : Type 0 where
  pub tightest : IsTightest net goal most
  pub above_lowest : lowest <ℤ most
  pub proved : ProvesAt net goal most proof
  pub refuted : RefutesAt net goal (most -ℤ pos 1) refutation

-- the least number that a plan may have is a deadline, and so the tightest; it is proved
pub record IsFloor (net : Plan) (goal : Goal) (proof : Certificate) : Type 0 where
  pub tightest : IsTightest net goal lowest
  pub proved : ProvesAt net goal lowest proof

-- the network is controllable, its goal between two points has the name that it is to have, and this is so of it
pub record HasGoal (net : Plan) (from to : PointId) (name : List ℕ) (Says : Goal → Type 0) : Type 0 where
  pub controllable : IsControllable net
  pub named : IsGoalName net name
  pub says : Says (record { name = name; from = from; to = to })

-- the answer for two points of a network: that it is not controllable, with the certificate that refutes it; or, of a controllable one,
-- that no number is a deadline, or the tightest deadline, each with its certificates
abbrev pub IsAnswerOf : Plan → (from to : PointId) → Deadline → Type 0
IsAnswerOf net from to (NotControllable refutation) = (¬ IsControllable net) × Refutes (shown_form net) refutation
IsAnswerOf net from to (Never name refutation) = HasGoal net from to name (λ goal. IsNever net goal refutation)
IsAnswerOf net from to (Least name most proof refutation) = HasGoal net from to name (λ goal. IsLeastDeadline net goal most proof refutation)
IsAnswerOf net from to (Floor name proof) = HasGoal net from to name (λ goal. IsFloor net goal proof)

-- what is answered, or that there is no capacity for the bound, exactly if there is none, unless memory ran out
abbrev pub Answers : Plan → (from to : PointId) → Result Deadline DeadlineFault → Type 0
Answers net from to (Ok deadline) = (¬ IsFull net) × IsAnswerOf net from to deadline
Answers net from to (Err Full) = IsFull net
Answers net from to (Err OutOfMemory) = Unit {0}
