-- Documents of networks: they have no float, they do not nest deep, their text is that of their tokens, and it is read back.
use Rattle.std.proofs.Common.{◌≡◌, ℕ, ◌≤◌, List, [], ◌∷◌, map, false, ℤ, pos, negsuc, Some, refl, sym, ap, ◌∙◌, subst, arith}
use Rattle.std.specs.Str.{IsUtf8}
use Rattle.std.proofs.lemmas.Str.{is_utf8-from_IsUtf8}
use Rattle.json.specs.Layout.{pretty}
use Rattle.json.specs.Lex.{tokens}
use Rattle.net_model.specs.Network.{Plan, IsPlan, HasPlanNumbers}
use Rattle.net_model.specs.NetworkParts.{parts_of}
use Rattle.net_model.specs.declared.part.Bound.{Bound}
use Rattle.net_model.specs.declared.part.Link.{Link}
use Rattle.net_model.proofs.PartsLemmas.{parts_declare}
use Rattle.serde_json.specs.Data.{Data, string, depth, items_depth}
use Rattle.serde_json.specs.Find.{is_float, of_integer}
use Rattle.serde_json.specs.Read.{read}
use Rattle.serde_json.specs.View.{items_of}
use Rattle.serde_json.specs.Written.{IsInOrder, has_float, items_have_float}
use Rattle.serde_json.proofs.Texts.{tokens_from_order}
use Rattle.plan_json.specs.DocumentReading.{json_value}
use Rattle.plan_json.specs.DocumentText.{DocumentReadsBack, bound_data, document_of, document_text, link_data}
use Rattle.plan_json.proofs.BackLemmas.{document_back}

whole_is_no_float : (n : ℤ) → is_float (of_integer n) ≡ false
whole_is_no_float (pos n) = refl
whole_is_no_float (negsuc n) = refl

points_have_none : (points : List (List ℕ)) → items_have_float (items_of (map string points)) ≡ false
points_have_none [] = refl
points_have_none (point ∷ points) = points_have_none points

bounds_have_none : (points : List (List ℕ)) (bounds : List Bound) → items_have_float (items_of (map (bound_data points) bounds)) ≡ false
bounds_have_none points [] = refl
bounds_have_none points (bound ∷ bounds) = rw (whole_is_no_float bound.most) (bounds_have_none points bounds)

links_have_none : (points : List (List ℕ)) (links : List Link) → items_have_float (items_of (map (link_data points) links)) ≡ false
links_have_none points [] = refl
links_have_none points (link ∷ links) = rw (whole_is_no_float link.high, whole_is_no_float link.low) (links_have_none points links)

pub has_no_float : (net : Plan) → has_float (document_of net) ≡ false
has_no_float net = rw (whole_is_no_float (pos net.delay), bounds_have_none net.points net.bounds, links_have_none net.points net.links, points_have_none net.points) refl

points_are_flat : (points : List (List ℕ)) → items_depth (items_of (map string points)) ≤ 0
points_are_flat [] = omega arith
points_are_flat (point ∷ points) = let rest = points_are_flat points in omega arith

bounds_are_flat : (points : List (List ℕ)) (bounds : List Bound) → items_depth (items_of (map (bound_data points) bounds)) ≤ 1
bounds_are_flat points [] = omega arith
bounds_are_flat points (bound ∷ bounds) = let rest = bounds_are_flat points bounds in omega arith

links_are_flat : (points : List (List ℕ)) (links : List Link) → items_depth (items_of (map (link_data points) links)) ≤ 1
links_are_flat points [] = omega arith
links_are_flat points (link ∷ links) = let rest = links_are_flat points links in omega arith

pub is_flat : (net : Plan) → depth (document_of net) ≤ 127
is_flat net =
    let points = points_are_flat net.points in
    let bounds = bounds_are_flat net.points net.bounds in
    let links = links_are_flat net.points net.links in
    omega arith

-- the text in the pretty layout of a document is that of its tokens
pub text_is : (net : Plan) (document : Data) (text : List ℕ) → document ≡ document_of net → text ≡ pretty (tokens text) → IsInOrder text document → text ≡ document_text (document_of net)
text_is net document text is laid order = laid ∙ ap pretty (tokens_from_order text (document_of net) (subst (IsInOrder text) is order) (has_no_float net))

-- and is read as the document
value_is : (net : Plan) (document : Data) (text : List ℕ) → document ≡ document_of net → IsUtf8 text → (depth document ≤ 127 → read text ≡ Some document) → json_value text ≡ Some (document_of net)
value_is net document text is utf8 reads =
    let same : read text ≡ Some (document_of net) = reads (subst (λ d. depth d ≤ 127) (sym is) (is_flat net)) ∙ ap Some is in
    rw (is_utf8-from_IsUtf8 text utf8) same

-- which declares the network
pub reads_back : (net : Plan) (document : Data) (text : List ℕ) → IsPlan net → HasPlanNumbers net → document ≡ document_of net → IsUtf8 text → (depth document ≤ 127 → read text ≡ Some document) → DocumentReadsBack text net
reads_back net document text plan numbers is utf8 reads = record {
  plan = record { delay = net.delay; parts = parts_of net };
  said = rw (value_is net document text is utf8 reads) (ap Some (document_back net plan numbers));
  same = parts_declare net plan numbers;
}
