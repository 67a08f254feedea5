-- The printed text of a certificate, piece by piece.
use Rattle.std.proofs.Common.{◌≡◌, ℕ, ◌<◌, ◌+◌, List, [], ◌∷◌, ◌++◌, length, take, get_or, map, sym, ap, ◌∙◌, append_assoc}
use Rattle.std.proofs.lemmas.List.{append-nil, flat_map_more, take_more}
use Rattle.std.proofs.lemmas.List.Concat.{flat_map-append}
use Rattle.std.specs.List.{flat_map}
use Rattle.texts.specs.PrintedLines.{after_blank, printed_line, printed}
use Rattle.texts.proofs.PrintedLineLemmas.{flat_map-map}
use Rattle.cert_format.specs.declared.entry.Entry.{Entry}
use Rattle.cert_format.specs.declared.line.CertLine.{CertLine}
use Rattle.cert_format.specs.declared.certificate.Certificate.TheVariants.{Refutation, TableProof}
use Rattle.cert_format.specs.CertificateWords.{line_words, walk_words, order_words, entry_words, header_words, refutation_words, table_words, end_words, printed_certificate}

-- a rule line that was written word by word
pub rule_written : (out first from to weight : List ℕ) (operands label : List (List ℕ)) → ((((((out ++ first) ++ flat_map after_blank operands) ++ after_blank from) ++ after_blank to) ++ flat_map after_blank label) ++ after_blank
    weight) ++ 10 ∷ [] ≡ out ++ printed_line (first ∷ (operands ++ (from ∷ to ∷ (label ++ weight ∷ []))))
rule_written out first from to weight operands label =
    rw (flat_map-append after_blank operands (from ∷ to ∷ (label ++ weight ∷ [])), flat_map-append after_blank label (weight ∷ []))
    (simp (append_assoc, append-nil))

-- an entry that was written word by word
pub entry_written : (out first from weight : List ℕ) (to label : List (List ℕ)) → (((((out ++ first) ++ after_blank from) ++ flat_map after_blank to) ++ flat_map after_blank label) ++ after_blank weight) ++ 10 ∷ [] ≡ out ++ printed_line
    (first ∷ (from ∷ (to ++ (label ++ weight ∷ []))))
entry_written out first from weight to label =
    rw (flat_map-append after_blank to (label ++ weight ∷ []), flat_map-append after_blank label (weight ∷ []))
    (simp (append_assoc, append-nil))

-- the lines of a list, as they are written one after another
abbrev pub all_printed : {X : Type 0} → (X → List (List ℕ)) → List X → List ℕ
all_printed line xs = flat_map (λ x. printed_line (line x)) xs

-- printed lines after those of a list
pub printed_after : {X : Type 0} (line : X → List (List ℕ)) (xs : List X) (others : List (List (List ℕ))) → printed (map line xs ++ others) ≡ all_printed line xs ++ printed others
printed_after line xs others =
    flat_map-append printed_line (map line xs) others ∙ ap (λ prefix. prefix ++ printed others) (flat_map-map printed_line line xs)

-- five pieces, as they are written one after another
abbrev in_turn : List ℕ → List ℕ → List ℕ → List ℕ → List ℕ → List ℕ
in_turn header second rules walk end = (((([] ++ header) ++ second) ++ rules) ++ walk) ++ end

regrouped : (header second rules walk end : List ℕ) → in_turn header second rules walk end ≡ header ++ (second ++ (rules ++ (walk ++ (end ++ []))))
regrouped header second rules walk end = simp (append_assoc, append-nil)

-- the pieces in the order in which they are written, of two lists of lines
printed_two : {A B : Type 0} (second : List (List ℕ)) (spell : A → List (List ℕ)) (spells : B → List (List ℕ)) (xs : List A) (ys : List B)
    → in_turn (printed_line header_words) (printed_line second) (all_printed spell xs) (all_printed spells ys) (printed_line end_words) ≡ printed (header_words ∷ second ∷ (map spell xs ++ (map spells ys ++ end_words ∷ [])))
printed_two second spell spells xs ys =
    let header : List ℕ = printed_line header_words in
    let next : List ℕ = printed_line second in
    let firsts : List ℕ = all_printed spell xs in
    let others : List ℕ = all_printed spells ys in
    let last : List (List (List ℕ)) = end_words ∷ [] in
    regrouped header next firsts others (printed_line end_words)
    ∙ sym (ap (λ (rest : List ℕ). header ++ (next ++ rest)) (printed_after spell xs (map spells ys ++ last) ∙ ap (λ (rest : List ℕ). firsts ++ rest) (printed_after spells ys last)))

pub printed_pieces : (lines : List CertLine) (walk : List ℕ) → (((([] ++ printed_line header_words) ++ printed_line refutation_words) ++ flat_map (λ line. printed_line (line_words line)) lines) ++ flat_map
    (λ i. printed_line (walk_words i)) walk) ++ printed_line end_words ≡ printed_certificate (Refutation lines walk)
unfolding printed_certificate
printed_pieces lines walk = printed_two refutation_words line_words walk_words lines walk

pub printed_table : (order : List (List ℕ)) (entries : List Entry) → (((([] ++ printed_line header_words) ++ printed_line table_words) ++ flat_map (λ point. printed_line (order_words point)) order) ++ flat_map
    (λ entry. printed_line (entry_words entry)) entries) ++ printed_line end_words ≡ printed_certificate (TableProof order entries)
unfolding printed_certificate
printed_table order entries = printed_two table_words order_words entry_words order entries

-- one printed line more
pub written_more : {A : Type 0} (print : A → List ℕ) (out : List ℕ) (lines : List A) (i : ℕ) (line : A) → i < length lines → line ≡ get_or lines i line
    → (out ++ flat_map print (take i lines)) ++ print line ≡ out ++ flat_map print (take (i + 1) lines)
written_more print out lines i line within same =
    let more : take i lines ++ line ∷ [] ≡ take (i + 1) lines = ap (λ last. take i lines ++ last ∷ []) same ∙ sym (take_more lines i line within) in
    flat_map_more print out (take i lines) line ∙ ap (λ ls. out ++ flat_map print ls) more
