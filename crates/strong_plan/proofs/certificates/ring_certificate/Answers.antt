use Rattle.std.proofs.Common.{◌≡◌, ℕ, List, [], map, length, sym, subst, ◌∙◌}
use Rattle.net_model.specs.Network.{Plan, IsPlan}
use Rattle.net_model.specs.declared.part.Edge.{Edge}
use Rattle.cert_format.specs.declared.strong_cert.StrongLine.{StrongLine}
use Rattle.earliest_times.specs.History.{AreWithin}
use Rattle.earliest_times.specs.FirstLoops.{IsFirstLoop}
use Rattle.strong_plan.specs.Answers.{IsStrongRefutation, down_edge, names_at}
use Rattle.strong_plan.proofs.HeightLemmas.{down_within}
use Rattle.strong_plan.proofs.CertificateLemmas.{ring_refutes}
use Rattle.strong_plan.proofs.certificates.ring_certificate.Goals as goal

pub names-requires-clause-within : goal.names-requires-clause-within
names-requires-clause-within c =
    let net = c.args.net.now in
    subst (AreWithin (length net.points)) (sym c.requires.edges) (down_within net c.sound.ensures)

-- the certificate of these lists
made : (net : Plan) → IsPlan net → (edges : List Edge) (places : List ℕ) (by : List StrongLine) (ring : List (List ℕ)) → edges ≡ map down_edge net.links → IsFirstLoop (length net.points) edges places
    → by ≡ [] → ring ≡ names_at net edges places → IsStrongRefutation net (record { by = by; ring = ring })
made net plan edges places by ring edges_are loop none names =
    let first = ring_refutes net plan places (subst (λ (es : List Edge). IsFirstLoop (length net.points) es places) edges_are loop) in
    let second = subst (λ (es : List Edge). IsStrongRefutation net (record { by = []; ring = names_at net es places })) (sym edges_are) first in
    let third = subst (λ (ns : List (List ℕ)). IsStrongRefutation net (record { by = []; ring = ns })) (sym names) second in
    subst (λ (ls : List StrongLine). IsStrongRefutation net (record { by = ls; ring = ring })) (sym none) third

pub returns : goal.returns
returns c =
    made c.args.net.now c.sound.ensures c.args.edges.now c.args.places.now c.new-2.result c.new-3.result c.requires.edges c.requires.round (c.new-2.ensures ∙ c.new.ensures.items) (c.new-3.ensures ∙ c.in_ok-ring.ensures)
