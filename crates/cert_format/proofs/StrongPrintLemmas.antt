-- The printed text of a strong certificate, piece by piece.
use Rattle.std.proofs.Common.{◌≡◌, ℕ, List, [], ◌∷◌, ◌++◌, map, sym, ap, ◌∙◌, append_assoc}
use Rattle.std.proofs.lemmas.List.{append-nil}
use Rattle.texts.specs.PrintedLines.{printed_line}
use Rattle.cert_format.specs.CertificateWords.{end_words}
use Rattle.cert_format.specs.StrongWords.{header_words, by_words, ring_words, printed_strong}
use Rattle.cert_format.specs.declared.strong_cert.StrongCert.{StrongCert}
use Rattle.cert_format.proofs.PrintLemmas.{all_printed, printed_after}

-- the pieces in the order in which they are written
pub printed_pieces : (cert : StrongCert) → ((([] ++ printed_line header_words) ++ all_printed by_words cert.by) ++ all_printed ring_words cert.ring) ++ printed_line end_words ≡ printed_strong cert
unfolding printed_strong
printed_pieces cert =
    let last : List (List (List ℕ)) = end_words ∷ [] in
    let header : List ℕ = printed_line header_words in
    let lines : List ℕ = all_printed by_words cert.by in
    let points : List ℕ = all_printed ring_words cert.ring in
    regrouped header lines points (printed_line end_words)
    ∙ sym (ap (λ (rest : List ℕ). header ++ rest) (printed_after by_words cert.by (map ring_words cert.ring ++ last) ∙ ap (λ (rest : List ℕ). lines ++ rest) (printed_after ring_words cert.ring last)))
  where
    regrouped : (header lines points end : List ℕ) → ((([] ++ header) ++ lines) ++ points) ++ end ≡ header ++ (lines ++ (points ++ (end ++ [])))
    regrouped header lines points end = simp (append_assoc, append-nil)
