-- What holds of the certificates that refute a network.
use Rattle.std.specs.Prelude.{◌≡◌, ℕ, List}
use Rattle.net_model.specs.Network.{Plan, IsPlan}
use Rattle.net_model.specs.declared.ids.PointId.{PointId}
use Rattle.closure_model.specs.Derivations.{Support, StandsOn}
use Rattle.closure_model.specs.Orders.{IsCycle}
use Rattle.closure_model.specs.ReferenceRounds.{IsRefutationBy}
use Rattle.closure_model.specs.declared.derivation.NodeId.{NodeId}
use Rattle.cert_format.specs.CertificateWords.{HasWeights}
use Rattle.cert_checker.specs.Judgement.{judgement_of}
use Rattle.cert_checker.specs.declared.judgement.Judgement.TheVariants.{Accepted}
use Rattle.cert_checker.specs.declared.judgement.Claim.TheVariants.{NotControllable}
use Rattle.refutation_certificates.specs.Certificates.{certificate_of_nodes}

-- the certificate by the refutation of a network by a cycle of its table is accepted
abbrev pub RefutationsAreAccepted : Type 0
RefutationsAreAccepted =
    (net : Plan) (support : Support) (cycle : List PointId) (lines : List NodeId) (walk : List ℕ) → IsPlan net → StandsOn net support
    → IsCycle support.table cycle → IsRefutationBy support.nodes cycle lines walk
    → judgement_of net (certificate_of_nodes net support.nodes lines walk) ≡ Accepted NotControllable

-- its weights are within the limit of those that are printed
abbrev pub RefutationsHaveWeights : Type 0
RefutationsHaveWeights =
    (net : Plan) (support : Support) (lines : List NodeId) (walk : List ℕ) → IsPlan net → StandsOn net support
    → HasWeights (certificate_of_nodes net support.nodes lines walk)
