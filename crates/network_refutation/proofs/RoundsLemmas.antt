-- What rounds from the base of a network come to.
use Rattle.std.proofs.Common.{◌≡◌, ℕ, List, Option, Some, None, Result, Ok, Err, inl, inr, refl, ap, subst}
use Rattle.std.specs.Prelude.{IfOk, IfSome}
use Rattle.std.specs.declared.alloc.AllocError.{AllocError}
use Rattle.net_model.specs.Network.{Plan, IsPlan}
use Rattle.net_model.specs.declared.ids.PointId.{PointId}
use Rattle.strategy_model.specs.Control.{IsControllable}
use Rattle.closure_model.specs.Closure.{IsClosure}
use Rattle.closure_model.specs.Derivations.{Support, base_support}
use Rattle.closure_model.specs.Orders.{IsCycle, IsOrder, placed_points}
use Rattle.closure_model.specs.ReferenceRound.{after_round}
use Rattle.closure_model.specs.ReferenceRounds.{Ending, looped, RoundsEnd, in_cycle, in_order, after_one}
use Rattle.closure_laws.specs.Laws.{StandingCyclesExclude}
use Rattle.parallel_rounds.specs.Propagated.{IsPropagated, OutcomeHolds, ending_of, rounds_of}
use Rattle.parallel_rounds.specs.declared.outcome.Outcome.{Outcome}
use Rattle.parallel_rounds.specs.declared.outcome.Outcome.TheVariants.{Closed, Looped}
use Rattle.cert_format.specs.CertificateWords.{HasWeights}
use Rattle.cert_format.specs.declared.certificate.Certificate.{Certificate}
use Rattle.cert_checker.specs.Judgement.{judgement_of}
use Rattle.cert_checker.specs.declared.judgement.Claim.TheVariants.{NotControllable}
use Rattle.cert_checker.specs.declared.judgement.Judgement.TheVariants.{Accepted}
use Rattle.refutation_certificates.specs.Certificates.{IsCertificateBy}
use Rattle.refutation_certificates.specs.Refutations.{Refutes}
use Rattle.closure_certificates.specs.Certified.{Certifies, Proves}
use Rattle.network_refutation.specs.PlacedEndings.{IsPlacedBy}

-- rounds that close have the order in which the points are placed
pub ends_placed : (net : Plan) (start after : Support) (rounds : ℕ) (ending : Ending) → RoundsEnd net start rounds after ending → IsPlacedBy after.table ending
ends_placed net start after rounds ending (in_cycle support first left) = tt
ends_placed net start after rounds ending (in_order support none closes) = refl
ends_placed net start after rounds ending (after_one support later n how none some more) = ends_placed net (after_round net support) later n how more

-- the certificate by the cycle in which rounds from the base end is that of the refutation of the network
pub refutes : (net : Plan) (after : Support) (rounds : ℕ) (cycle : List PointId) (cert : Certificate) → RoundsEnd net (base_support net) rounds after (looped cycle) → ¬ IsControllable net → IsCertificateBy net after.nodes cycle cert
    → judgement_of net cert ≡ Accepted NotControllable → HasWeights cert → Refutes net cert
refutes net after rounds cycle cert ends never by accepted weights = record {
  never = never;
  of = record {
    nodes = after.nodes;
    lines = by.lines;
    walk = by.walk;
    refutation = record {
      rounds = rounds;
      after = after;
      cycle = cycle;
      ends = ends;
      list = refl;
      by_cycle = by.refutation;
    };
    is = by.is;
  };
  accepted = accepted;
  weights = weights;
}

module _ (net : Plan) (after : Support) (outcome : Outcome) (propagated : IsPropagated net (base_support net) after outcome) where
  -- rounds that closed gave the closure, and the order in which the points of that are placed
  pub closed_well : (rounds : ℕ) (order : List PointId) → outcome ≡ Closed rounds order → IsClosure net after.table × IsOrder after.table order × (order ≡ placed_points after.table)
  closed_well rounds order is =
      let says = subst (OutcomeHolds net after) is propagated.says in
      (says.0, says.1, subst (λ (o : Outcome). IsPlacedBy after.table (ending_of o)) is (ends_placed net (base_support net) after (rounds_of outcome) (ending_of outcome) propagated.ends))

  pub looped_cycle : (rounds : ℕ) (cycle : List PointId) → outcome ≡ Looped rounds cycle → IsCycle after.table cycle
  looped_cycle rounds cycle is = subst (OutcomeHolds net after) is propagated.says

  -- the certificate by the cycle of others decides the network
  module _ (exclude : StandingCyclesExclude) (plan : IsPlan net) (no_delay : net.delay ≡ 0) (rounds : ℕ) (cycle : List PointId) (is : outcome ≡ Looped rounds cycle) where
    looped_certifies : (cert : Certificate) → IsCertificateBy net after.nodes cycle cert → judgement_of net cert ≡ Accepted NotControllable → HasWeights cert → Certifies net cert
    looped_certifies cert by accepted weights =
        let never : ¬ IsControllable net = exclude net after cycle (record { sound = plan; no_delay = no_delay }) propagated.stands (looped_cycle rounds cycle is) in
        let ends = subst (λ (ending : Ending). RoundsEnd net (base_support net) (rounds_of outcome) after ending) (ap ending_of is) propagated.ends in
        inr (refutes net after (rounds_of outcome) cycle cert ends never by accepted weights)

    pub looped_certifies_if_ok : (answer : Result Certificate AllocError) → IfOk answer (IsCertificateBy net after.nodes cycle) → IfOk answer (λ (cert : Certificate). judgement_of net cert ≡ Accepted NotControllable)
        → IfOk answer HasWeights → IfOk answer (Certifies net)
    looped_certifies_if_ok (Ok cert) by accepted weights = looped_certifies cert by accepted weights
    looped_certifies_if_ok (Err error) by accepted weights = tt

    -- so does one that was made if the store held what it takes
    pub looped_certifies_if_held : (answer : Result (Option Certificate) AllocError) → IfOk answer (λ (held : Option Certificate). IfSome held (IsCertificateBy net after.nodes cycle))
        → IfOk answer (λ (held : Option Certificate). IfSome held (λ (cert : Certificate). judgement_of net cert ≡ Accepted NotControllable)) → IfOk answer (λ (held : Option Certificate). IfSome held HasWeights)
        → IfOk answer (λ (held : Option Certificate). IfSome held (Certifies net))
    looped_certifies_if_held (Ok (Some cert)) by accepted weights = looped_certifies cert by accepted weights
    looped_certifies_if_held (Ok None) by accepted weights = tt
    looped_certifies_if_held (Err error) by accepted weights = tt

-- a table proof decides the network
pub proof_certifies : (net : Plan) (answer : Result Certificate AllocError) → IfOk answer (Proves net) → IfOk answer (Certifies net)
proof_certifies net (Ok cert) proves = inl proves
proof_certifies net (Err error) none = tt
