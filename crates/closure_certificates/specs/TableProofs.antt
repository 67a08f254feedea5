-- The table proof of a network: the edges of its closure as entries, and the points in an order, with the names of the network.
use Rattle.std.specs.Prelude.{ℤ, List, Option, Some, None, map, refl}
use Rattle.net_model.specs.Network.{Plan}
use Rattle.net_model.specs.declared.ids.PointId.{PointId}
use Rattle.net_model.specs.declared.ids.LinkId.{LinkId}
use Rattle.net_model.specs.declared.part.Edge.{Edge}
use Rattle.closure_model.specs.Tables.{Graph, edges_of}
use Rattle.cert_format.specs.declared.certificate.Certificate.{Certificate}
use Rattle.cert_format.specs.declared.certificate.Certificate.TheVariants.{TableProof}
use Rattle.cert_format.specs.declared.entry.Entry.{Entry}
use Rattle.net_model.specs.NetworkParts.{point_name}
use Rattle.refutation_certificates.specs.Certificates.{link_name}

-- an edge of a label as an entry: an ordinary one by the names of its ends, a labelled one by those of the point in which it begins and
-- of its link
abbrev pub entry_with : Plan → (from to : PointId) → Option LinkId → ℤ → Entry
entry_with net from to None weight = record {
  from = point_name net.points from;
  to = Some (point_name net.points to);
  label = None;
  weight = weight;
  one_end = refl;
}
entry_with net from to (Some label) weight = record {
  from = point_name net.points from;
  to = None;
  label = Some (link_name net label);
  weight = weight;
  one_end = refl;
}

-- an edge as an entry
abbrev pub entry_of : Plan → Edge → Entry
entry_of net edge = entry_with net edge.from edge.to edge.label edge.weight

-- the table proof by a table and an order: the points in that order, and the edges of the table in the order of their keys
abbrev pub table_proof_of : Plan → Graph → List PointId → Certificate
table_proof_of net table order = TableProof (map (point_name net.points) order) (map (entry_of net) (edges_of table))
