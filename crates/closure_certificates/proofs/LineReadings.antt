-- The lines of a table proof are read as the points of its order and the edges of its table.
use Rattle.std.proofs.Common.{◌≡◌, ℕ, ◌+◌, ◌≤◌, ℤ, true, List, [], ◌∷◌, map, Option, Some, None, Result, Ok, refl, ap, sym, ◌∙◌, arith}
use Rattle.std.specs.Prelude.{slice_get, unsigned_abs}
use Rattle.std.specs.List.{AllByRecursion}
use Rattle.std.specs.Option.{option_map, option_and_then}
use Rattle.std.proofs.lemmas.Bool.Decides.{nat_tests}
use Rattle.net_model.specs.Limits.{most_size}
use Rattle.net_model.specs.Network.{Plan, IsPlan, IsPoint, point_named, link_named as link_id}
use Rattle.net_model.specs.Edges.{IsEdge, IsLabelled}
use Rattle.net_model.specs.declared.ids.PointId.{PointId}
use Rattle.net_model.specs.declared.ids.LinkId.{LinkId}
use Rattle.net_model.specs.declared.part.Edge.{Edge}
use Rattle.net_model.specs.declared.part.Link.{Link}
use Rattle.cert_format.specs.declared.entry.Entry.{Entry}
use Rattle.cert_format.specs.JudgementForms.{◌>>=◌, there, unless}
use Rattle.cert_checker.specs.Lines.{in_range}
use Rattle.cert_checker.specs.Tables.{edge_of_entry, labelled_by, point_passes, entry_passes, at_line, read_each}
use Rattle.cert_checker.specs.declared.judgement.CertFault.{CertFault}
use Rattle.cert_checker.specs.declared.judgement.CertFault.TheVariants.{UnknownItem, WeightRange}
use Rattle.net_model.specs.NetworkParts.{point_name}
use Rattle.refutation_certificates.specs.Certificates.{link_name}
use Rattle.refutation_certificates.proofs.ItemNames.{named_point, link_known}
use Rattle.refutation_certificates.proofs.RulesPass.{goes_on, there_is, unless_is}
use Rattle.closure_certificates.specs.TableProofs.{entry_with, entry_of}

-- what was written of each item is read as that item
pub read_back : {A B : Type 0} (read : A → Result B CertFault) (write : B → A) (line : ℕ) (ys : List B) → AllByRecursion (λ y. read (write y) ≡ Ok y) ys → read_each read line (map write ys) ≡ Ok ys
read_back read write line [] each = refl
read_back read write line (y ∷ ys) (one, more) =
    goes_on (at_line line (read (write y))) (λ first. read_each read (line + 1) (map write ys) >>= (λ others. Ok (first ∷ others))) y (Ok (y ∷ ys)) (ap (at_line line) one)
    (goes_on (read_each read (line + 1) (map write ys)) (λ others. Ok (y ∷ others)) ys (Ok (y ∷ ys)) (read_back read write (line + 1) ys more) refl)

module _ (net : Plan) (plan : IsPlan net) where
  pub point_read : (point : PointId) → IsPoint net point → point_passes net (point_name net.points point) ≡ Ok point
  point_read point inside = there_is (point_named net (point_name net.points point)) UnknownItem point (named_point net plan point inside)

  -- the edge that an entry states
  stated : (from to : PointId) (label : Option LinkId) (weight : ℤ) (edge : Edge) → IsPoint net from → IsPoint net to → edge.to ≡ to → IsLabelled net edge label
      → edge_of_entry net (entry_with net from to label weight) ≡ Some (record { from = from; to = to; label = label; weight = weight })
  stated from to None weight edge from_point to_point ends labelled =
      ap (option_and_then (λ x. option_map (λ y. record { from = x; to = y; label = None; weight = weight }) (point_named net (point_name net.points to)))) (named_point net plan from from_point)
      ∙ ap (option_map (λ (y : PointId). let e : Edge = record { from = from; to = y; label = None; weight = weight } in e)) (named_point net plan to to_point)
  stated from to (Some label) weight edge from_point to_point ends (link, declared, begins) =
      let known = (link_known net plan label link declared).0 in
      let named = link_name net label in
      ap (option_and_then (λ (x : PointId). option_and_then (λ name. option_map (λ link. labelled_by (Some name) x link weight) (slice_get net.links name.0)) (link_id net named))) (named_point net plan from from_point)
      ∙ (ap (option_and_then (λ (name : LinkId). option_map (λ link. labelled_by (Some name) from link weight) (slice_get net.links name.0))) known
      ∙ (ap (option_map (λ (l : Link). labelled_by (Some label) from l weight)) declared
      ∙ ap (λ (end : PointId). let e : Edge = record { from = from; to = end; label = Some label; weight = weight } in Some e) (sym begins ∙ ends)))

  same_weight : (from to : PointId) (label : Option LinkId) (weight : ℤ) → (entry_with net from to label weight).weight ≡ weight
  same_weight from to None weight = refl
  same_weight from to (Some label) weight = refl

  within_range : (weight : ℤ) → unsigned_abs weight ≤ most_size → in_range weight ≡ true
  within_range weight within = grind (arith, nat_tests)

  pub entry_read : (edge : Edge) → IsEdge net edge → unsigned_abs edge.weight ≤ most_size → entry_passes net (entry_of net edge) ≡ Ok edge
  entry_read edge sound within =
      let entry : Entry = entry_of net edge in
      let in_it : in_range entry.weight ≡ true = ap in_range (same_weight edge.from edge.to edge.label edge.weight) ∙ within_range edge.weight within in
      goes_on (there (edge_of_entry net entry) UnknownItem) (λ e. unless (in_range entry.weight) WeightRange >>= (λ range. Ok e)) edge (Ok edge)
      (there_is (edge_of_entry net entry) UnknownItem edge (stated edge.from edge.to edge.label edge.weight edge sound.from_point sound.to_point refl sound.labelled))
      (goes_on (unless (in_range entry.weight) WeightRange) (λ range. Ok edge) tt (Ok edge) (unless_is (in_range entry.weight) WeightRange in_it) refl)

  pub weight_kept : (edge : Edge) → (entry_of net edge).weight ≡ edge.weight
  weight_kept edge = same_weight edge.from edge.to edge.label edge.weight
