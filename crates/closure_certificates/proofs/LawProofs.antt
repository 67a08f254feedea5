-- The table proof of a network by its closure and an order of that is accepted, can be printed, and is one.
use Rattle.std.proofs.Common.{◌≡◌, ℕ, ◌+◌, ◌<◌, ◌≤◌, List, length, map, Ok, sym, ap, ◌∙◌, subst, arith, inl, inr}
use Rattle.std.specs.Prelude.{unsigned_abs}
use Rattle.std.specs.List.{All, Contains}
use Rattle.std.proofs.lemmas.List.Elements.{All-contains}
use Rattle.net_model.specs.Limits.{most_size}
use Rattle.net_model.specs.Network.{Plan, IsPlan, IsPoint}
use Rattle.net_model.specs.Edges.{IsEdge}
use Rattle.net_model.specs.declared.ids.PointId.{PointId}
use Rattle.net_model.specs.declared.part.Edge.{Edge}
use Rattle.closure_model.specs.Closure.{IsClosure}
use Rattle.closure_model.specs.Keys.{Shape}
use Rattle.closure_model.specs.Orders.{IsOrder, placed_points}
use Rattle.closure_model.specs.Tables.{Graph, edges_of}
use Rattle.closure_model.proofs.BaseLemmas.{all_contained}
use Rattle.closure_model.proofs.LawProofs.{law_closure_is_closed, law_closure_is_one}
use Rattle.closure_model.proofs.Lists.{Contains-map_from, each-from_contains}
use Rattle.closure_model.proofs.OrderStays.{law_ordered_tables_are_placed}
use Rattle.closure_model.proofs.TableLemmas.{listed_edge}
use Rattle.cert_format.specs.CertificateWords.{HasWeights, IsEntryWeight}
use Rattle.cert_format.specs.declared.certificate.Certificate.{Certificate}
use Rattle.cert_format.specs.declared.certificate.Certificate.TheVariants.{TableProof}
use Rattle.cert_format.specs.declared.entry.Entry.{Entry}
use Rattle.cert_checker.specs.Judgement.{judged, judgement_of}
use Rattle.cert_format.specs.JudgementForms.{◌>>=◌}
use Rattle.cert_checker.specs.Tables.{point_passes, entry_passes, read_each, base_stands, order_passes, none_refused, has_open_conclusion, ordered_passes, edges_pass, table_passes}
use Rattle.cert_checker.specs.declared.judgement.Claim.TheVariants.{Controllable}
use Rattle.cert_checker.specs.declared.judgement.Judgement.TheVariants.{Accepted}
use Rattle.cert_checker.specs.declared.judgement.CertFault.TheVariants.{NotClosed}
use Rattle.net_model.specs.NetworkParts.{point_name}
use Rattle.refutation_certificates.proofs.OneCertificate.{certificate_one}
use Rattle.refutation_certificates.proofs.RulesPass.{goes_on}
use Rattle.closure_certificates.specs.TableProofs.{entry_of, table_proof_of}
use Rattle.closure_certificates.specs.Laws.{TableProofsAreAccepted, TableProofsHaveWeights}
use Rattle.closure_certificates.specs.Certified.{IsTableProofOf, TableProofsProve, CertificatesAreOne}
use Rattle.closure_certificates.proofs.ClosureLemmas.{edge_is, edge_within}
use Rattle.closure_certificates.proofs.LineReadings.{read_back, point_read, entry_read, weight_kept}
use Rattle.closure_certificates.proofs.ClosureEdges.{base_there, none_open}
use Rattle.closure_certificates.proofs.OrderLines.{order_stands}

module _ (net : Plan) (table : Graph) (order : List PointId) (plan : IsPlan net) (closure : IsClosure net table) where
  abbrev edges : List Edge
  edges = edges_of table

  abbrev names : List (List ℕ)
  names = map (point_name net.points) order

  abbrev entries : List Entry
  entries = map (entry_of net) edges

  edge_sound : (edge : Edge) → Contains edges edge → IsEdge net edge
  edge_sound edge among = edge_is net table plan closure edge (listed_edge table edge among)

  weight_within : (edge : Edge) → Contains edges edge → unsigned_abs edge.weight ≤ most_size
  weight_within edge among = edge_within net table plan closure edge (listed_edge table edge among)

  module _ (is : IsOrder table order) where
    -- the points of an order are points of the network
    order_inside : (point : PointId) → Contains order point → IsPoint net point
    order_inside point among =
        subst (λ (s : Shape). point.0 < s.points) closure.for_network (All-contains (λ (p : PointId). p.0 < table.shape.points) order point is.points among)

    pub points_inside : All (IsPoint net) order
    points_inside = all_contained (IsPoint net) order order_inside

    passes : table_passes net names entries ≡ Ok tt
    unfolding table_passes
    passes =
        let closed = law_closure_is_closed net table closure in
        goes_on (read_each (point_passes net) 1 names) (λ points. read_each (entry_passes net) (length names + 1) entries >>= (λ es. edges_pass net points es)) order (Ok tt)
        (read_back (point_passes net) (point_name net.points) 1 order (each-from_contains (λ p. point_passes net (point_name net.points p) ≡ Ok p) order (λ p among. point_read net plan p (order_inside p among))))
        (goes_on (read_each (entry_passes net) (length names + 1) entries) (λ es. edges_pass net order es) edges (Ok tt)
        (read_back (entry_passes net) (entry_of net) (length names + 1) edges (each-from_contains (λ e. entry_passes net (entry_of net e) ≡ Ok e) edges (λ e among. entry_read net plan e (edge_sound e among) (weight_within e among))))
        (goes_on (base_stands net edges) (λ base. ordered_passes net order edges) tt (Ok tt) (base_there table net closed.1)
        (goes_on (order_passes net order edges) (λ descends. none_refused (length order + 1) NotClosed (has_open_conclusion net edges) edges) tt (Ok tt)
        (order_stands net table order closure.for_network is (λ edge among. let sound = edge_sound edge among in (sound.from_point, sound.to_point)))
        (none_open table net closed.0 (length order + 1)))))

pub law_table_proofs_are_accepted : TableProofsAreAccepted
law_table_proofs_are_accepted net table order plan closure is = ap (judged Controllable) (passes net table order plan closure is)

pub law_table_proofs_have_weights : TableProofsHaveWeights
law_table_proofs_have_weights net table order plan closure =
    all_contained IsEntryWeight (map (entry_of net) (edges_of table)) (λ entry among.
    let (edge, there, same) = Contains-map_from (entry_of net) (edges_of table) entry among in
    let within = weight_within net table order plan closure edge there in
    let kept = weight_kept net plan edge in
    subst IsEntryWeight same (small edge (entry_of net edge) kept within))
  where
    small : (edge : Edge) (entry : Entry) → entry.weight ≡ edge.weight → unsigned_abs edge.weight ≤ most_size → IsEntryWeight entry
    small edge entry kept within = let size = ap unsigned_abs kept in omega (arith, size, within)

pub law_table_proofs_prove : TableProofsProve
law_table_proofs_prove net table order plan some closure is placed = record {
  some = some;
  of = record { table = table; closure = closure; all_placed = law_ordered_tables_are_placed table order is; is = ap (table_proof_of net table) placed };
  accepted = law_table_proofs_are_accepted net table order plan closure is;
  weights = law_table_proofs_have_weights net table order plan closure;
}

table_proofs_are_one : (net : Plan) (cert other : Certificate) → IsTableProofOf net cert → IsTableProofOf net other → cert ≡ other
table_proofs_are_one net cert other one two =
    one.is ∙ (ap (λ (table : Graph). table_proof_of net table (placed_points table)) (law_closure_is_one net one.table two.table one.closure two.closure) ∙ sym two.is)

pub law_certificates_are_one : CertificatesAreOne
law_certificates_are_one net cert other (inl one) (inl two) = table_proofs_are_one net cert other one.of two.of
law_certificates_are_one net cert other (inr one) (inr two) = certificate_one net cert other one.of two.of
law_certificates_are_one net cert other (inl one) (inr two) = absurd (two.never one.some)
law_certificates_are_one net cert other (inr one) (inl two) = absurd (one.never two.some)

-- ---- what `table_proof` makes
module _ (net : Plan) (table : Graph) (order : List PointId) (plan : IsPlan net) (closure : IsClosure net table) (named : List (List ℕ)) (stated : List Entry) (are_names : named ≡ map (point_name net.points) order)
    (are_entries : stated ≡ map (entry_of net) (edges_of table)) where
  is_proof : TableProof named stated ≡ table_proof_of net table order
  is_proof = ap (λ (ns : List (List ℕ)). TableProof ns stated) are_names ∙ ap (TableProof (map (point_name net.points) order)) are_entries

  pub made_accepted : IsOrder table order → judgement_of net (TableProof named stated) ≡ Accepted Controllable
  made_accepted is = ap (judgement_of net) is_proof ∙ law_table_proofs_are_accepted net table order plan closure is

  pub made_weights : HasWeights (TableProof named stated)
  made_weights = subst HasWeights (sym is_proof) (law_table_proofs_have_weights net table order plan closure)
