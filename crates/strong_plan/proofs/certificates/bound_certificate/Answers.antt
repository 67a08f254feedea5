use Rattle.std.proofs.Common.{◌≡◌, ℕ, List, [], length, sym, subst, ◌∙◌}
use Rattle.net_model.specs.Network.{Plan, IsPlan}
use Rattle.net_model.specs.declared.part.Edge.{Edge}
use Rattle.cert_format.specs.declared.strong_cert.StrongLine.{StrongLine}
use Rattle.earliest_times.specs.FirstLoops.{IsFirstLoop}
use Rattle.strong_plan.specs.Numbers.{HasShownNumbers}
use Rattle.strong_plan.specs.Answers.{IsStrongRefutation, AreReduced, HasNoRing, lines_at}
use Rattle.strong_plan.proofs.EdgesLemmas.{edges_within, count}
use Rattle.strong_plan.proofs.CertificateLemmas.{bounds_refute}
use Rattle.strong_plan.proofs.certificates.bound_certificate.Goals as goal

pub lines-requires-clause-within : goal.lines-requires-clause-within
lines-requires-clause-within c = edges_within c.args.net.now c.sound.ensures c.args.edges.now c.requires.edges

pub lines-requires-clause-bounds : goal.lines-requires-clause-bounds
lines-requires-clause-bounds c = count c.args.net.now c.sound.ensures c.args.edges.now c.requires.edges

-- the certificate of these lists
made : (net : Plan) → IsPlan net → HasShownNumbers net → HasNoRing net → (edges : List Edge) (places : List ℕ) (by : List StrongLine) (ring : List (List ℕ)) → AreReduced net edges → IsFirstLoop (length net.points) edges places
    → by ≡ lines_at net edges places → ring ≡ [] → IsStrongRefutation net (record { by = by; ring = ring })
made net plan numbers no_ring edges places by ring are loop lines none =
    let first = bounds_refute net plan numbers no_ring edges are places loop in
    let second = subst (λ (ls : List StrongLine). IsStrongRefutation net (record { by = ls; ring = [] })) (sym lines) first in
    subst (λ (ns : List (List ℕ)). IsStrongRefutation net (record { by = by; ring = ns })) (sym none) second

pub returns : goal.returns
returns c =
    made c.args.net.now c.sound.ensures c.requires.numbers c.requires.no_ring c.args.edges.now c.args.places.now c.new.result c.new-3.result c.requires.edges c.requires.round (c.new.ensures ∙ c.in_ok-by.ensures) (c.new-3.ensures
    ∙ c.new-2.ensures.items)
