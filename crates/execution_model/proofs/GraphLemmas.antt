-- A forward closed table of derivable edges of a network is a sound table.
use Rattle.std.proofs.Common.{◌<◌, ◌≤◌, length, Option, Some, None, ap, sym, subst, ◌∙◌, arith}
use Rattle.std.specs.Prelude.{unsigned_abs}
use Rattle.std.specs.List.{All, Contains}
use Rattle.std.specs.Option.{option_map}
use Rattle.std.proofs.lemmas.List.{length-map}
use Rattle.std.proofs.lemmas.List.Elements.{All-contains}
use Rattle.std.proofs.lemmas.Option.{slice_get-map}
use Rattle.net_model.specs.Limits.{most_points, most_links, most_weight}
use Rattle.net_model.specs.Network.{Plan, IsPlan, IsLink}
use Rattle.net_model.specs.Edges.{IsEdge, IsLabelled}
use Rattle.net_model.specs.declared.ids.LinkId.{LinkId}
use Rattle.net_model.specs.declared.ids.PointId.{PointId}
use Rattle.net_model.specs.declared.part.Edge.{Edge}
use Rattle.net_model.specs.declared.part.Link.{Link}
use Rattle.net_model.proofs.NetworkLemmas.{greatest-le}
use Rattle.closure_model.specs.Closure.{IsForwardTable}
use Rattle.closure_model.specs.Keys.{Shape, IsKey, IsLabelAt, key_of, shape_of}
use Rattle.closure_model.specs.Tables.{Graph, HasEdge, IsGraph}
use Rattle.closure_model.proofs.BaseLemmas.{all_contained}
use Rattle.closure_model.proofs.LawProofs.{law_derivable_are_edges, law_derivable_are_bounded}
use Rattle.closure_model.proofs.Lists.{Contains-map_from}
use Rattle.execution_model.specs.Laws.{ForwardTablesAreGraphs}

module _ (net : Plan) (table : Graph) (plan : IsPlan net) (is : IsForwardTable net table) where
  abbrev shape : Shape
  shape = shape_of net

  key_is : (edge : Edge) → IsEdge net edge → IsKey shape (key_of edge)
  key_is edge is = record { to_point = is.to_point; from_point = is.from_point; labelled = labelled edge.label is.labelled }
    where
      labelled : (label : Option LinkId) → IsLabelled net edge label → IsLabelAt shape edge.to label
      labelled None known = tt
      labelled (Some label) (link, declared, ends) = slice_get-map (λ (l : Link). l.from) net.links label.0 ∙ (ap (option_map (λ (l : Link). l.from)) declared ∙ ap Some (sym ends))

  within : (edge : Edge) → HasEdge table edge → unsigned_abs edge.weight ≤ most_weight
  within edge has =
      let bounded = law_derivable_are_bounded net edge plan (is.derivable edge has) in
      let small = greatest-le net plan in
      omega (arith, bounded, small)

  begins_in : (point : PointId) → Contains shape.activations point → point.0 < shape.points
  begins_in point among =
      let (link, at, is) = Contains-map_from (λ (l : Link). l.from) net.links point among in
      subst (λ (p : PointId). p.0 < length net.points) is (All-contains (IsLink net) net.links link plan.links_sound at).from_point

  few : length shape.activations ≤ most_links
  few = let long = length-map net.links (λ (l : Link). l.from) in let links = plan.few_links in omega (arith, long, links)

  is_graph : IsGraph table
  is_graph =
      let fits = sym is.for_network in
      record {
        keys = λ edge has. subst (λ (s : Shape). IsKey s (key_of edge)) fits (key_is edge (law_derivable_are_edges net edge plan (is.derivable edge has)));
        weights = within;
        begins = subst (λ (s : Shape). All (λ (p : PointId). p.0 < s.points) s.activations) fits (all_contained (λ (p : PointId). p.0 < shape.points) shape.activations begins_in);
        few_points = subst (λ (s : Shape). s.points ≤ most_points) fits plan.few_points;
        few_links = subst (λ (s : Shape). length s.activations ≤ most_links) fits few;
      }

pub law_forward_tables_are_graphs : ForwardTablesAreGraphs
law_forward_tables_are_graphs net table plan is = is_graph net table plan is
