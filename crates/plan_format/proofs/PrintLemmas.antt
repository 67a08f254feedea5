-- The printed text of a network, piece by piece.
use Rattle.std.proofs.Common.{◌≡◌, ℕ, ◌<◌, ◌+◌, List, [], ◌∷◌, ◌++◌, length, take, get_or, map, sym, ap, ◌∙◌, append_assoc}
use Rattle.std.proofs.lemmas.List.{append-nil, flat_map_more, map-append, take_more}
use Rattle.std.proofs.lemmas.List.Concat.{flat_map-append}
use Rattle.std.specs.List.{flat_map}
use Rattle.net_model.specs.Network.{Plan}
use Rattle.texts.specs.PrintedLines.{printed_line, printed}
use Rattle.texts.proofs.PrintedLineLemmas.{flat_map-map}
use Rattle.net_model.specs.declared.part.Part.{Part}
use Rattle.net_model.specs.declared.part.Part.TheVariants.{Point}
use Rattle.net_model.specs.NetworkParts.{bound_part, link_part, parts_of}
use Rattle.plan_format.specs.declared.version.PlanVersion.TheVariants.{Two}
use Rattle.plan_format.specs.PlanParts.{part_words, plan_header_words, end_words}
use Rattle.plan_format.specs.PlanPrinting.{delay_lines, printed_plan}

-- the printed lines of parts
abbrev printed_parts : List Part → List ℕ
printed_parts parts = printed (map part_words parts)

printed_parts-append : (prefix back : List Part) → printed_parts (prefix ++ back) ≡ printed_parts prefix ++ printed_parts back
printed_parts-append prefix back =
    ap printed (map-append part_words prefix back) ∙ flat_map-append printed_line (map part_words prefix) (map part_words back)

printed_parts-map : {X : Type 0} (part : X → Part) (xs : List X) → printed_parts (map part xs) ≡ flat_map (λ x. printed_line (part_words (part x))) xs
printed_parts-map part xs =
    flat_map-map printed_line part_words (map part xs) ∙ flat_map-map (λ p. printed_line (part_words p)) part xs

regrouped : (h d a b c e : List ℕ) → ((((h ++ d) ++ a) ++ b) ++ c) ++ e ≡ h ++ (d ++ ((a ++ (b ++ c)) ++ (e ++ [])))
regrouped h d a b c e = simp (append_assoc, append-nil)

-- the pieces in the order in which they are written
pub printed_pieces : (net : Plan) → ((((([] ++ printed_line (plan_header_words Two)) ++ printed (delay_lines net.delay)) ++ flat_map (λ name. printed_line (part_words (Point name))) net.points) ++ flat_map
    (λ bound. printed_line (part_words (bound_part net.points bound))) net.bounds) ++ flat_map (λ link. printed_line (part_words (link_part net.points link))) net.links) ++ printed_line end_words ≡ printed_plan net
unfolding printed_plan
printed_pieces net =
    let header : List ℕ = printed_line (plan_header_words Two) in
    let stated : List ℕ = printed (delay_lines net.delay) in
    let end : List ℕ = printed_line end_words in
    let points : List Part = map Point net.points in
    let bounds : List Part = map (bound_part net.points) net.bounds in
    let links : List Part = map (link_part net.points) net.links in
    let a = printed_parts-map Point net.points in
    let b = printed_parts-map (bound_part net.points) net.bounds in
    let c = printed_parts-map (link_part net.points) net.links in
    let parts : printed_parts (parts_of net) ≡ printed_parts points ++ (printed_parts bounds ++ printed_parts links) = printed_parts-append points (bounds ++ links)
    ∙ ap (λ (rest : List ℕ). printed_parts points ++ rest) (printed_parts-append bounds links) in
    let last : printed (map part_words (parts_of net) ++ end_words ∷ []) ≡ printed_parts (parts_of net) ++ (end ++ []) = flat_map-append printed_line (map part_words (parts_of net)) (end_words ∷ []) in
    let rest : printed (delay_lines net.delay ++ (map part_words (parts_of net) ++ end_words ∷ [])) ≡ stated ++ (printed_parts (parts_of net) ++ (end ++ [])) =
    flat_map-append printed_line (delay_lines net.delay) (map part_words (parts_of net) ++ end_words ∷ []) ∙ ap (λ (text : List ℕ). stated ++ text) last in
    rw (← a, ← b, ← c)
    (regrouped header stated (printed_parts points) (printed_parts bounds) (printed_parts links) end
    ∙ (ap (λ (text : List ℕ). header ++ (stated ++ (text ++ (end ++ [])))) (sym parts)
    ∙ ap (λ (text : List ℕ). header ++ text) (sym rest)))

-- one printed line more
pub written_more : {A : Type 0} (print : A → List ℕ) (out : List ℕ) (all : List A) (i : ℕ) (one : A) → i < length all → one ≡ get_or all i one → (out ++ flat_map print (take i all)) ++ print one ≡ out ++ flat_map print (take (i + 1) all)
written_more print out all i one within same =
    let more : take i all ++ one ∷ [] ≡ take (i + 1) all = ap (λ last. take i all ++ last ∷ []) same ∙ sym (take_more all i one within) in
    flat_map_more print out (take i all) one ∙ ap (λ ls. out ++ flat_map print ls) more
