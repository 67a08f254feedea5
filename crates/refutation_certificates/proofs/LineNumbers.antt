-- The number of a line by a binary search, and lists of lines that grow.
use Rattle.std.proofs.Common.{◌≡◌, ℕ, ◌+◌, ◌<◌, ◌≤◌, Bool, true, false, ltb, List, [], ◌∷◌, ◌++◌, length, take, map, get_or, Option, Some, is_some, ℤ, refl, ap, sym, ◌∙◌, subst, arith}
use Rattle.std.specs.List.{Contains, cons_option}
use Rattle.std.specs.List.Sorted.{IsPartitionPoint, IsNonDecreasingBy}
use Rattle.std.specs.Option.{option_map}
use Rattle.std.proofs.lemmas.Bool.Decides.{nat_tests}
use Rattle.std.proofs.lemmas.List.{take_more, map-append}
use Rattle.std.proofs.lemmas.List.Elements.{filter_map-append}
use Rattle.std.proofs.lemmas.Option.{slice_get_within, get_or_from_slice_get}
use Rattle.net_model.specs.Network.{Plan}
use Rattle.closure_model.specs.Derivations.{node_at}
use Rattle.closure_model.specs.ReferenceRounds.{line_of}
use Rattle.closure_model.specs.declared.derivation.Node.{Node}
use Rattle.closure_model.specs.declared.derivation.NodeId.{NodeId}
use Rattle.cert_format.specs.declared.line.CertLine.{CertLine}
use Rattle.cert_format.specs.Kind.{has_label}
use Rattle.cert_format.specs.declared.kind.LineKind.{LineKind}
use Rattle.cert_format.proofs.EdgeLemmas.{same_line}
use Rattle.net_model.specs.NetworkParts.{point_name}
use Rattle.refutation_certificates.specs.Certificates.{label_name, kind_of, only_if, is_there, rule_line_of_node, lines_among}
use Rattle.refutation_certificates.specs.RuleLines.{AreInOrderOfMaking}
use Rattle.refutation_certificates.proofs.Places.{place_of, place_there}

-- numbers that are in order do not descend
pub are_non_decreasing : (lines : List NodeId) → AreInOrderOfMaking lines → IsNonDecreasingBy (λ (line : NodeId). line.0) lines
are_non_decreasing lines in_order i j d before inside = by (ltb i j) refl
  where
    same : i ≡ j → (get_or lines i d).0 ≤ (get_or lines j d).0
    same is = let equal : (get_or lines i d).0 ≡ (get_or lines j d).0 = ap (λ (n : ℕ). (get_or lines n d).0) is in omega arith

    by : (b : Bool) → ltb i j ≡ b → (get_or lines i d).0 ≤ (get_or lines j d).0
    by true test =
        let after : i < j = grind (arith, nat_tests) in
        let less : (get_or lines i d).0 < (get_or lines j d).0 = in_order i j d after inside in
        omega arith
    by false test = let equal : i ≡ j = grind (arith, nat_tests) in same equal

-- where a search ends that goes past the lesser numbers, the line stands
pub searched_line : (lines : List NodeId) (id : NodeId) (place : ℕ) → AreInOrderOfMaking lines → Contains lines id → place ≤ length lines
    → IsPartitionPoint (λ (line : NodeId). ltb line.0 id.0 ≡ true) (λ (line : NodeId). ltb line.0 id.0 ≡ false) lines place → place + 1 ≡ line_of lines id
searched_line lines id place in_order there bound (lesser, others) =
    let j : ℕ = place_of lines id in
    let inside : j < length lines = slice_get_within lines j id (place_there lines id there) in
    let number : (get_or lines j id).0 ≡ id.0 = ap (λ (n : NodeId). n.0) (get_or_from_slice_get lines j id id (place_there lines id there)) in
    let not_before : j < place → ⊥ = λ before. below (get_or lines j id).0 id.0 number (lesser j id (omega arith) before) in
    let not_after : place < j → ⊥ = λ after.
    let less : (get_or lines place id).0 < (get_or lines j id).0 = in_order place j id after inside in
    above (get_or lines place id).0 id.0 (omega arith) (others place id (omega arith) (omega arith)) in
    let same : j ≡ place = omega (arith, not_before, not_after) in
    omega arith
  where
    below : (m n : ℕ) → m ≡ n → ltb m n ≡ true → ⊥
    below m n same test = grind (arith, nat_tests)

    above : (m n : ℕ) → m < n → ltb m n ≡ false → ⊥
    above m n less test = grind (arith, nat_tests)

-- one more line
pub lines_more : (net : Plan) (nodes : List Node) (all lines : List NodeId) (i : ℕ) (d : NodeId) (node : Node) → i < length lines → node_at nodes (get_or lines i d) ≡ Some node
    → lines_among net nodes all (take (i + 1) lines) ≡ lines_among net nodes all (take i lines) ++ rule_line_of_node net all node ∷ []
lines_more net nodes all lines i d node inside there =
    let one : lines_among net nodes all (get_or lines i d ∷ []) ≡ rule_line_of_node net all node ∷ [] = ap (λ (o : Option Node). cons_option (option_map (rule_line_of_node net all) o) []) there in
    ap (lines_among net nodes all) (take_more lines i d inside)
    ∙ (filter_map-append (λ (n : NodeId). option_map (rule_line_of_node net all) (node_at nodes n)) (take i lines) (get_or lines i d ∷ [])
    ∙ ap (λ (rest : List CertLine). lines_among net nodes all (take i lines) ++ rest) one)

pub images_more : {X Y : Type 0} (f : X → Y) (xs : List X) (i : ℕ) (d : X) → i < length xs → map f (take (i + 1) xs) ≡ map f (take i xs) ++ f (get_or xs i d) ∷ []
images_more f xs i d inside = ap (map f) (take_more xs i d inside) ∙ map-append f (take i xs) (get_or xs i d ∷ [])

made_line : (kind : LineKind) (from to : List ℕ) (label : Option (List ℕ)) (weight : ℤ) → is_some label ≡ has_label kind → CertLine
made_line kind from to label weight fits = record { kind = kind; from = from; to = to; label = label; weight = weight; labelled = fits }

-- the parts of a line are those of a node
pub record ArePartsOf (net : Plan) (lines : List NodeId) (node : Node) (kind : LineKind) (from to : List ℕ) (label : Option (List ℕ)) (weight : ℤ) : Type 0 where
  pub weight_is : weight ≡ node.edge.weight
  pub kind_is : kind ≡ kind_of net lines node.rule
  pub label_is : label ≡ only_if (has_label kind) (label_name net node.edge.label)
  pub from_is : from ≡ point_name net.points node.edge.from
  pub to_is : to ≡ point_name net.points node.edge.to

-- a line that was put together of the words of a node is its line
pub line_built : (net : Plan) (lines : List NodeId) (node : Node) (kind : LineKind) (from to : List ℕ) (label : Option (List ℕ)) (weight : ℤ) (p : is_some label ≡ has_label kind) → ArePartsOf net lines node kind from to label weight
    → (let l : CertLine = record { kind = kind; from = from; to = to; label = label; weight = weight; labelled = p } in l) ≡ rule_line_of_node net lines node
unfolding made_line
line_built net lines node kind from to label weight p are =
    let record { weight_is = is_weight; kind_is = is_kind; label_is = is_label; from_is = is_from; to_is = is_to } = are in
    let K : LineKind = kind_of net lines node.rule in
    let name : List ℕ = label_name net node.edge.label in
    let at_label : (r : is_some (only_if (has_label K) name) ≡ has_label K) → made_line K from to (only_if (has_label K) name) node.edge.weight r ≡ rule_line_of_node net lines node = λ r.
    ap (λ (f : List ℕ). made_line K f to (only_if (has_label K) name) node.edge.weight r) is_from ∙ (ap (λ (t : List ℕ). made_line K (point_name net.points node.edge.from) t (only_if (has_label K) name) node.edge.weight r) is_to
    ∙ same_line K (point_name net.points node.edge.from) (point_name net.points node.edge.to) (only_if (has_label K) name) node.edge.weight r (is_there (has_label K) name)) in
    let at_kind : (l : Option (List ℕ)) (q : is_some l ≡ has_label K) → l ≡ only_if (has_label K) name → made_line K from to l node.edge.weight q ≡ rule_line_of_node net lines node = λ l q e.
    subst (λ (m : Option (List ℕ)). (r : is_some m ≡ has_label K) → made_line K from to m node.edge.weight r ≡ rule_line_of_node net lines node) (sym e) at_label q in
    ap (λ (w : ℤ). made_line kind from to label w p) is_weight ∙ subst (λ (k : LineKind). (l : Option (List ℕ)) (q : is_some l ≡ has_label k) → l ≡ only_if (has_label k) name
    → made_line k from to l node.edge.weight q ≡ rule_line_of_node net lines node) (sym is_kind) at_kind label p is_label
