-- An entry that is made of an edge, and the edges of the entries of a row.
use Rattle.std.proofs.Common.{◌≡◌, ℕ, ◌<◌, ℤ, false, true, List, length, map, get_or, Option, Some, None, refl, subst}
use Rattle.std.specs.List.{All, Contains}
use Rattle.std.proofs.lemmas.List.Elements.{All-contains, Contains-get_or}
use Rattle.net_model.specs.Network.{Plan}
use Rattle.net_model.specs.Edges.{IsEdge}
use Rattle.net_model.specs.declared.ids.PointId.{PointId}
use Rattle.net_model.specs.declared.ids.LinkId.{LinkId}
use Rattle.net_model.specs.declared.part.Edge.{Edge}
use Rattle.closure_model.proofs.Lists.{Contains-map}
use Rattle.cert_format.proofs.EdgeLemmas.{same_entry}
use Rattle.cert_format.specs.declared.entry.Entry.{Entry}
use Rattle.labelled_graph.specs.Entries.{edge_into}
use Rattle.labelled_graph.specs.declared.entry.Entry as graph
use Rattle.net_model.specs.NetworkParts.{point_name}
use Rattle.refutation_certificates.specs.Certificates.{link_name}
use Rattle.closure_certificates.specs.TableProofs.{entry_with}

module _ (net : Plan) (from to : PointId) (weight : ℤ) where
  pub ordinary_entry : (label : Option LinkId) (x y : List ℕ) (w : ℤ) (p : false ≡ false) → x ≡ point_name net.points from → y ≡ point_name net.points to → w ≡ weight → label ≡ None
      → (let e : Entry = record { from = x; to = Some y; label = None; weight = w; one_end = p } in e) ≡ entry_with net from to label weight
  ordinary_entry label x y w p begins ends weighs none =
      rw (begins, ends, weighs, none) (same_entry (point_name net.points from) (Some (point_name net.points to)) None weight p refl)

  pub labelled_entry : (label : Option LinkId) (name : LinkId) (x y : List ℕ) (w : ℤ) (p : true ≡ true) → x ≡ point_name net.points from → y ≡ link_name net name → w ≡ weight → label ≡ Some name
      → (let e : Entry = record { from = x; to = None; label = Some y; weight = w; one_end = p } in e) ≡ entry_with net from to label weight
  labelled_entry label name x y w p begins ends weighs some =
      rw (begins, ends, weighs, some) (same_entry (point_name net.points from) None (Some (link_name net name)) weight p refl)

pub row_edge : (net : Plan) (to : PointId) (entries : List graph.Entry) (row : List Edge) → map (edge_into to) entries ≡ row → All (IsEdge net) row → (k : ℕ) (d : graph.Entry) → k < length entries
    → IsEdge net (edge_into to (get_or entries k d))
row_edge net to entries row is all k d inside =
    All-contains (IsEdge net) row (edge_into to (get_or entries k d)) all (subst (λ (edges : List Edge). Contains edges (edge_into to (get_or entries k d))) is
    (Contains-map (edge_into to) entries (get_or entries k d) (Contains-get_or entries k d inside)))
