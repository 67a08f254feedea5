-- The certificate of a network: that of its refutation by the reference rounds from its base.
use Rattle.std.specs.Prelude.{◌≡◌, ℕ, List}
use Rattle.net_model.specs.Network.{Plan}
use Rattle.strategy_model.specs.Control.{IsControllable}
use Rattle.closure_model.specs.ReferenceRounds.{IsRefutationOf}
use Rattle.closure_model.specs.declared.derivation.Node.{Node}
use Rattle.closure_model.specs.declared.derivation.NodeId.{NodeId}
use Rattle.cert_format.specs.CertificateWords.{HasWeights}
use Rattle.cert_format.specs.declared.certificate.Certificate.{Certificate}
use Rattle.cert_checker.specs.Judgement.{judgement_of}
use Rattle.cert_checker.specs.declared.judgement.Judgement.TheVariants.{Accepted}
use Rattle.cert_checker.specs.declared.judgement.Claim.TheVariants.{NotControllable}
use Rattle.refutation_certificates.specs.Certificates.{certificate_of_nodes}

-- a certificate is that of the refutation of a network
pub record IsCertificateOf (net : Plan) (cert : Certificate) : Type 0 where
  pub nodes : List Node
  pub lines : List NodeId
  pub walk : List ℕ
  pub refutation : IsRefutationOf net nodes lines walk
  pub is : cert ≡ certificate_of_nodes net nodes lines walk

-- a certificate refutes a network: no strategy controls it, the certificate is that of its refutation, the judge accepts it, and its
-- weights can be printed
pub record Refutes (net : Plan) (cert : Certificate) : Type 0 where
  pub never : ¬ IsControllable net
  pub of : IsCertificateOf net cert
  pub accepted : judgement_of net cert ≡ Accepted NotControllable
  pub weights : HasWeights cert

-- a network has one certificate of its refutation at most
abbrev pub RefutationsAreOne : Type 0
RefutationsAreOne = (net : Plan) (cert other : Certificate) → IsCertificateOf net cert → IsCertificateOf net other → cert ≡ other
