-- The text of a judgement: accepted with its claim, or refused with the line, the word of the fault, and its numbers or its name.
use Rattle.std.specs.Prelude.{ℕ, List, ◌++◌, codes}
use Rattle.std.specs.Fmt.{decimal, signed_decimal}
use Rattle.cert_checker.specs.declared.judgement.Claim.{Claim}
use Rattle.cert_checker.specs.declared.judgement.Claim.TheVariants.{NotControllable, Controllable}
use Rattle.cert_checker.specs.declared.judgement.Judgement.{Judgement}
use Rattle.cert_checker.specs.declared.judgement.Judgement.TheVariants.{Accepted, Refused}
use Rattle.cert_checker.specs.declared.judgement.CertFault.{CertFault}
use Rattle.cert_checker.specs.declared.judgement.CertFault.TheVariants.{UnknownItem, Premise, RuleCondition, Ends, Label, TooLow, WalkBroken, WalkNotNegative}
use Rattle.cert_checker.specs.declared.judgement.CertFault.TheVariants.{WeightRange, MissingBound, MissingLink, OrderBroken, NotClosed}

abbrev pub fault_text : CertFault → List ℕ
fault_text UnknownItem = codes "unknown-item"
fault_text Premise = codes "premise"
fault_text RuleCondition = codes "rule-condition"
fault_text Ends = codes "ends"
fault_text Label = codes "label"
fault_text (TooLow given least) = codes "too-low " ++ signed_decimal given ++ codes " " ++ signed_decimal least
fault_text WalkBroken = codes "walk-broken"
fault_text (WalkNotNegative total) = codes "walk-not-negative " ++ signed_decimal total
fault_text WeightRange = codes "weight-range"
fault_text (MissingBound name) = codes "missing-base bound " ++ name
fault_text (MissingLink name) = codes "missing-base link " ++ name
fault_text OrderBroken = codes "order-broken"
fault_text NotClosed = codes "not-closed"

abbrev pub claim_text : Claim → List ℕ
claim_text NotControllable = codes "not controllable"
claim_text Controllable = codes "controllable"

abbrev pub judgement_text : Judgement → List ℕ
judgement_text (Accepted claim) = codes "accepted " ++ claim_text claim
judgement_text (Refused line why) = codes "refused " ++ decimal line ++ codes " " ++ fault_text why
