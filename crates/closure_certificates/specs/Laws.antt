-- What holds of the table proofs of networks.
use Rattle.std.specs.Prelude.{◌≡◌, List}
use Rattle.net_model.specs.Network.{Plan, IsPlan}
use Rattle.net_model.specs.declared.ids.PointId.{PointId}
use Rattle.closure_model.specs.Closure.{IsClosure}
use Rattle.closure_model.specs.Orders.{IsOrder}
use Rattle.closure_model.specs.Tables.{Graph}
use Rattle.cert_format.specs.CertificateWords.{HasWeights}
use Rattle.cert_checker.specs.Judgement.{judgement_of}
use Rattle.cert_checker.specs.declared.judgement.Judgement.TheVariants.{Accepted}
use Rattle.cert_checker.specs.declared.judgement.Claim.TheVariants.{Controllable}
use Rattle.closure_certificates.specs.TableProofs.{table_proof_of}

-- the table proof of a sound network by its closure and an order of its points is accepted
abbrev pub TableProofsAreAccepted : Type 0
TableProofsAreAccepted =
    (net : Plan) (table : Graph) (order : List PointId) → IsPlan net → IsClosure net table → IsOrder table order
    → judgement_of net (table_proof_of net table order) ≡ Accepted Controllable

-- its weights are within the limit of those that are printed
abbrev pub TableProofsHaveWeights : Type 0
TableProofsHaveWeights = (net : Plan) (table : Graph) (order : List PointId) → IsPlan net → IsClosure net table → HasWeights (table_proof_of net table order)
