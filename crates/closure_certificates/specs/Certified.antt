-- The certificate of a network: if it is controllable its table proof, by its closure and the order in which the points of that are placed, else that of its
-- refutation.
use Rattle.std.specs.Prelude.{◌≡◌, ◌⊎◌, List, None}
use Rattle.net_model.specs.Network.{Plan, IsPlan}
use Rattle.net_model.specs.declared.ids.PointId.{PointId}
use Rattle.strategy_model.specs.Control.{IsControllable}
use Rattle.closure_model.specs.Closure.{IsClosure}
use Rattle.closure_model.specs.Orders.{IsOrder, lowest_unplaced, placed_points}
use Rattle.closure_model.specs.Tables.{Graph}
use Rattle.cert_format.specs.CertificateWords.{HasWeights}
use Rattle.cert_format.specs.declared.certificate.Certificate.{Certificate}
use Rattle.cert_checker.specs.Judgement.{judgement_of}
use Rattle.cert_checker.specs.declared.judgement.Judgement.TheVariants.{Accepted}
use Rattle.cert_checker.specs.declared.judgement.Claim.TheVariants.{Controllable}
use Rattle.refutation_certificates.specs.Refutations.{Refutes}
use Rattle.closure_certificates.specs.TableProofs.{table_proof_of}

-- a certificate is that of the closure of a network, all of whose points are placed
pub record IsTableProofOf (net : Plan) (cert : Certificate) : Type 0 where
  pub table : Graph
  pub closure : IsClosure net table
  pub all_placed : lowest_unplaced table ≡ None
  pub is : cert ≡ table_proof_of net table (placed_points table)

-- a certificate proves a network controllable: some strategy controls it, the certificate is its table proof, the judge accepts it, and its
-- weights can be printed
pub record Proves (net : Plan) (cert : Certificate) : Type 0 where
  pub some : IsControllable net
  pub of : IsTableProofOf net cert
  pub accepted : judgement_of net cert ≡ Accepted Controllable
  pub weights : HasWeights cert

-- if a network is controllable, the table proof by its closure and the order in which the points of that are placed proves it so
abbrev pub TableProofsProve : Type 0
TableProofsProve =
    (net : Plan) (table : Graph) (order : List PointId) → IsPlan net → IsControllable net → IsClosure net table → IsOrder table order
    → order ≡ placed_points table → Proves net (table_proof_of net table order)

-- a certificate decides a network: it proves the network controllable, or it refutes it
abbrev pub Certifies : Plan → Certificate → Type 0
Certifies net cert = Proves net cert ⊎ Refutes net cert

-- a network has one certificate at most that decides it
abbrev pub CertificatesAreOne : Type 0
CertificatesAreOne = (net : Plan) (cert other : Certificate) → Certifies net cert → Certifies net other → cert ≡ other
