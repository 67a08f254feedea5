-- The names of a certificate: the points, links and labels that they stand for.
use Rattle.std.proofs.Common.{◌≡◌, ℕ, ◌==◌, true, false, pos, List, [], get_or, Option, Some, None, is_some, position, refl, ap, sym, ◌∙◌, arith}
use Rattle.std.specs.Prelude.{slice_get, unwrap_or}
use Rattle.std.specs.Option.{option_map, option_map_or, option_and_then}
use Rattle.std.specs.Str.{bytes_eq}
use Rattle.std.proofs.lemmas.Bool.Decides.{nat_tests}
use Rattle.std.proofs.lemmas.Slice.Eq.{bytes_eq-Decides}
use Rattle.std.proofs.lemmas.List.Quantifiers.{position-Some}
use Rattle.net_model.specs.Network.{Plan, point_named, activation, link_named as link_id}
use Rattle.net_model.specs.declared.ids.PointId.{PointId}
use Rattle.net_model.specs.declared.ids.LinkId.{LinkId}
use Rattle.net_model.specs.declared.part.Edge.{Edge}
use Rattle.net_model.specs.declared.part.Link.{Link}
use Rattle.net_model.proofs.RuleLemmas.{some_is, two_steps}
use Rattle.cert_format.specs.declared.line.CertLine.{CertLine}
use Rattle.cert_checker.specs.Lines.{link_named, names_point, label_of, same_label_names, label_known}

pub same_bytes : (x y : List ℕ) → bytes_eq x y ≡ true → x ≡ y
same_bytes x y e = (bytes_eq-Decides x y).0 e

-- the point of a name, or the first
abbrev pub point_of : Plan → List ℕ → PointId
point_of net name = unwrap_or (point_named net name) (record { 0 = 0 })

-- the edge of a line
abbrev pub edge_of : Plan → CertLine → Edge
edge_of net line = record {
  from = point_of net line.from;
  to = point_of net line.to;
  label = option_and_then (link_id net) (label_of line);
  weight = line.weight;
}

pub point_of_known : (net : Plan) (name : List ℕ) (point : PointId) → point_named net name ≡ Some point → point_of net name ≡ point
point_of_known net name point e = ap (λ (o : Option PointId). unwrap_or o (record { 0 = 0 })) e

point_is : (o : Option PointId) (point : PointId) → option_map_or (λ (p : PointId). p.0 == point.0) o false ≡ true → o ≡ Some point
point_is None point e = absurd (cc)
point_is (Some p) point e =
    let same : p.0 ≡ point.0 = grind (arith, nat_tests) in
    ap (λ (n : ℕ). Some (record { 0 = n })) same

-- a point has the name that it is said to have
pub point_of_named : (net : Plan) (name : List ℕ) (point : PointId) → names_point net name point ≡ true → point_of net name ≡ point
point_of_named net name point e = point_of_known net name point (point_is (point_named net name) point e)

pub point_of_same : (net : Plan) (x y : List ℕ) → bytes_eq x y ≡ true → point_of net x ≡ point_of net y
point_of_same net x y e = ap (point_of net) (same_bytes x y e)

-- the link of a name and its number
pub link_known : (net : Plan) (name : List ℕ) (link : Link) → link_named net name ≡ Some link → (id : LinkId) × (link_id net name ≡ Some id) × (slice_get net.links id.0 ≡ Some link)
link_known net name link e =
    let (point, named, rest) = two_steps (λ (p : PointId). option_and_then (λ (l : LinkId). slice_get net.links l.0) (activation net p)) (point_named net name) link e in
    let (id, ends, declared) = two_steps (λ (l : LinkId). slice_get net.links l.0) (activation net point) link rest in
    (id, ap (option_and_then (activation net)) named ∙ ends, declared)

place_is : (o : Option ℕ) (point : PointId) → option_map {U = PointId} (λ (k : ℕ). record { 0 = k }) o ≡ Some point → o ≡ Some point.0
place_is None point e = absurd (cc)
place_is (Some k) point e = ap (option_map (λ (p : PointId). p.0)) e

link_place_is : (o : Option ℕ) (id : LinkId) → option_map {U = LinkId} (λ (k : ℕ). record { 0 = k }) o ≡ Some id → o ≡ Some id.0
link_place_is None id e = absurd (cc)
link_place_is (Some k) id e = ap (option_map (λ (l : LinkId). l.0)) e

-- the name that a point has
name_is : (net : Plan) (name : List ℕ) (point : PointId) → point_named net name ≡ Some point → name ≡ get_or net.points point.0 []
name_is net name point e =
    let found = position-Some (bytes_eq name) net.points point.0 [] (place_is (position (bytes_eq name) net.points) point e) in
    same_bytes name (get_or net.points point.0 []) found.1

-- the point in which a link ends
end_is : (net : Plan) (point : PointId) (id : LinkId) (d : Link) → activation net point ≡ Some id → (get_or net.links id.0 d).to.0 ≡ point.0
end_is net point id d e =
    let found = position-Some (λ (l : Link). l.to.0 == point.0) net.links id.0 d (link_place_is (position (λ (l : Link). l.to.0 == point.0) net.links) id e) in
    let ends = found.1 in
    grind (arith, nat_tests)

-- a link has one name
pub one_name : (net : Plan) (x y : List ℕ) (id : LinkId) → link_id net x ≡ Some id → link_id net y ≡ Some id → x ≡ y
one_name net x y id named_x named_y =
    let (p, at_x, ends_x) = two_steps (activation net) (point_named net x) id named_x in
    let (q, at_y, ends_y) = two_steps (activation net) (point_named net y) id named_y in
    let d : Link = record { from = p; low = pos 0; high = pos 0; to = p } in
    let same : p.0 ≡ q.0 = sym (end_is net p id d ends_x) ∙ end_is net q id d ends_y in
    name_is net x p at_x ∙ ap (λ k. get_or net.points k []) same ∙ sym (name_is net y q at_y)

-- the label of an edge
pub ordinary : (net : Plan) (line : CertLine) → label_of line ≡ None → (edge_of net line).label ≡ None
ordinary net line e = ap (option_and_then (link_id net)) e

pub labelled : (net : Plan) (line : CertLine) (name : List ℕ) (id : LinkId) → label_of line ≡ Some name → link_id net name ≡ Some id → (edge_of net line).label ≡ Some id
labelled net line name id e named = ap (option_and_then (link_id net)) e ∙ named

-- two labels that are the same, and there
pub both_labelled : (x y : Option (List ℕ)) → is_some y ≡ true → same_label_names x y ≡ true → (name : List ℕ) × (x ≡ Some name) × (y ≡ Some name)
both_labelled None None there same = absurd (cc)
both_labelled (Some x) None there same = absurd (cc)
both_labelled None (Some y) there same = absurd (cc)
both_labelled (Some x) (Some y) there same = (y, ap Some (same_bytes x y same), refl)

-- a label that is known is a link
pub label_is_link : (net : Plan) (label : Option (List ℕ)) (name : List ℕ) → label ≡ Some name → label_known net label ≡ true → (link : Link) × (link_named net name ≡ Some link)
label_is_link net label name e known =
    some_is (link_named net name) (sym (ap (label_known net) e) ∙ known)

pub bytes_same : (x y : List ℕ) → x ≡ y → bytes_eq x y ≡ true
bytes_same x y e = (bytes_eq-Decides x y).1 e
