-- The loop over the lines of a refutation.
use Rattle.std.proofs.Common.{◌≡◌, ℕ, ◌+◌, ◌<◌, List, [], ◌∷◌, ◌++◌, length, take, drop, get_or, Ok, ap, sym, ◌∙◌}
use Rattle.std.proofs.lemmas.List.{drop_more, take_more}
use Rattle.net_model.specs.Network.{Plan}
use Rattle.cert_format.specs.declared.line.CertLine.{CertLine}
use Rattle.cert_format.specs.JudgementForms.{◌>>=◌}
use Rattle.cert_checker.specs.Lines.{Passes, line_passes}
use Rattle.cert_checker.specs.Judgement.{at_number, lines_pass}

-- a line that passes leaves the others
pub goes_on : (net : Plan) (earlier : List CertLine) (line : CertLine) (lines : List CertLine) → line_passes net earlier line ≡ Ok tt → lines_pass net earlier (line ∷ lines) ≡ lines_pass net (earlier ++ line ∷ []) lines
goes_on net earlier line lines passes =
    ap (λ (p : Passes). at_number (length earlier + 1) p >>= (λ _. lines_pass net (earlier ++ line ∷ []) lines)) passes

-- one more line passes
pub lines_step : (net : Plan) (lines : List CertLine) (i : ℕ) (line : CertLine) → i < length lines → line ≡ get_or lines i line → line_passes net (take i lines) line ≡ Ok tt
    → lines_pass net (take (i + 1) lines) (drop (i + 1) lines) ≡ lines_pass net (take i lines) (drop i lines)
lines_step net lines i line within here passes =
    let left : drop i lines ≡ line ∷ drop (i + 1) lines = drop_more lines i line within ∙ ap (λ x. x ∷ drop (i + 1) lines) (sym here) in
    let taken : take (i + 1) lines ≡ take i lines ++ line ∷ [] = take_more lines i line within ∙ ap (λ x. take i lines ++ x ∷ []) (sym here) in
    ap (λ prefix. lines_pass net prefix (drop (i + 1) lines)) taken ∙ sym (goes_on net (take i lines) line (drop (i + 1) lines) passes) ∙ sym (ap (lines_pass net (take i lines)) left)
