-- A line read alone is read as in a text in which every line may come, so what is read of it is what it says, and its fault is its first.
use Rattle.std.proofs.Common.{◌≡◌, ◌≢◌, ℕ, true, false, cond, List, [], ◌∷◌, Option, None, Some, Result, Ok, Err, refl, sym, ap, ◌∙◌, subst}
use Rattle.std.specs.Option.{is_some}
use Rattle.std.specs.Result.{IfOk, IfErr, result_map_both}
use Rattle.texts.specs.Words.{is_remark, are_passed_over, words}
use Rattle.net_model.specs.Places.{Form, places_of, DepartsFrom}
use Rattle.net_model.specs.declared.format.FormatKind.{FormatKind}
use Rattle.net_model.specs.declared.format.WordFault.{WordFault}
use Rattle.net_model.specs.declared.format.WordFault.TheVariants as word
use Rattle.sectioned_texts.specs.FormFaults.{IsFaultAmong, unknown_word, departs}
use Rattle.sectioned_texts.specs.SectionedTexts.{SectionedText, IsLineIn, passed_over, begins}
use Rattle.sectioned_texts.specs.Reading.{refused_by, line_among, line_in}
use Rattle.sectioned_texts.specs.Spellings.{Spell}
use Rattle.sectioned_texts.specs.LawfulTexts.{HasLawfulLines}
use Rattle.sectioned_texts.proofs.LineLemmas.{one_word, line_read, line_said, line_says, line_err}
use Rattle.cert_format.specs.Keywords.{spelled, keyword_of}
use Rattle.cert_format.specs.LineForms.{form_of}
use Rattle.cert_format.specs.CertificateWords.{header_words}
use Rattle.cert_format.specs.CertificateGrammar.{CertificateProgress, certificate_spelling, certificate_lines, IsCertificateLine, IsCertificateFaultAlone, comes_after_header}
use Rattle.cert_format.specs.CertificateFormat.{cert_text}
use Rattle.cert_format.specs.declared.certificate.Certificate.{Certificate}
use Rattle.cert_format.specs.declared.keyword.Keyword.{Keyword}
use Rattle.cert_format.specs.declared.section.Section.{Section}
use Rattle.cert_format.specs.declared.section.Section.TheVariants as section
use Rattle.cert_format.specs.declared.read.CertText.{CertText}
use Rattle.cert_format.specs.declared.read.CertText.TheVariants as text
use Rattle.cert_format.proofs.LineLemmas.{text_word, first_word}
use Rattle.cert_format.proofs.TextLemmas.{certificate_lawful}

-- the text in which every line may come anywhere
abbrev free_lines : SectionedText Section Keyword CertText CertificateProgress Certificate
free_lines = record certificate_lines { admits = λ section first. true; opens = λ section. false }

free_lawful : HasLawfulLines free_lines
free_lawful =
    let lines = certificate_lawful.lines in
    record { found = lines.found; filled = lines.filled; said = lines.said; read = lines.read; blank = lines.blank; header = λ section line opens header. absurd (cc) }

not_refused : (read : Result CertText FormatKind) → read ≡ refused_by false read
not_refused (Ok said) = refl
not_refused (Err kind) = refl

alone_is : (line : List (List ℕ)) → cert_text line ≡ line_in free_lines section.Header line
unfolding cert_text line_in
alone_is [] = refl
alone_is (first ∷ others) =
    ap (λ (read : Result CertText FormatKind). cond (is_remark first) (Ok text.Blank) read) (not_refused (line_among certificate_lines (λ word. true) (keyword_of first) others))

alone_ok : (line : List (List ℕ)) (said : CertText) → cert_text line ≡ Ok said → Spell certificate_spelling said line
alone_ok line said read =
    line_says free_lines free_lawful section.Header said line (line_said free_lines free_lawful section.Header line said (sym (alone_is line) ∙ read))

alone_comes : (line : List (List ℕ)) (said : CertText) → Spell certificate_spelling said line → IsLineIn free_lines section.Header said line
alone_comes line text.Blank says = passed_over says refl
alone_comes line text.Header says = begins (text_word text.Header) _ refl says.0 says
alone_comes line text.Refutation says = begins (text_word text.Refutation) _ refl says.0 says
alone_comes line text.Table says = begins (text_word text.Table) _ refl says.0 says
alone_comes line (text.Line rule) says = begins (text_word (text.Line rule)) _ refl says.0 says
alone_comes line (text.Walk i) says = begins (text_word (text.Walk i)) _ refl says.0 says
alone_comes line (text.Order point) says = begins (text_word (text.Order point)) _ refl says.0 says
alone_comes line (text.Entry entry) says = begins (text_word (text.Entry entry)) _ refl says.0 says
alone_comes line text.End says = begins (text_word text.End) _ refl says.0 says

alone_read : (line : List (List ℕ)) (said : CertText) → Spell certificate_spelling said line → cert_text line ≡ Ok said
alone_read line said says = alone_is line ∙ line_read free_lines free_lawful section.Header said line (alone_comes line said says)

-- a line that begins as a header does begins with no word that comes after the header
among_by : (line : List (List ℕ)) (kind : FormatKind) (first : Keyword) (others : List (List ℕ)) (form : Option (Form CertText)) → form_of first ≡ form → line ≡ spelled first ∷ others → DepartsFrom (places_of form) others kind
    → IsFaultAmong spelled form_of comes_after_header line kind
among_by line kind first others (Some form) is same away =
    departs first others (ap is_some is) same (subst (λ (f : Option (Form CertText)). DepartsFrom (places_of f) others kind) (sym is) away)
among_by line kind first others None is same away =
    unknown_word (ap are_passed_over same ∙ (first_word first).filled)
    (λ next rest comes begins.
    let (one, _) = one_word certificate_lines (λ k. (first_word k).found) line first next others rest same begins in
    let wrong : false ≡ true = ap is_some (sym is ∙ ap form_of one) ∙ comes in
    cc) away

among : (line : List (List ℕ)) (kind : FormatKind) → IsFaultAmong spelled form_of (λ first. true) line kind → IsFaultAmong spelled form_of comes_after_header line kind
among line kind (unknown_word filled none is) = unknown_word filled (λ first others comes same. none first others refl same) is
among line kind (departs first others may same away) = among_by line kind first others (form_of first) refl same away

no_header : (line : List (List ℕ)) (kind : FormatKind) → cert_text line ≡ Err kind → line ≢ header_words
no_header line kind read =
    λ same. let wrong : Err kind ≡ Ok text.Header = sym read ∙ alone_read line text.Header (same, tt) in cc

-- the answer to a line read alone
abbrev pub answer_of : Result CertText FormatKind → Result CertText WordFault
answer_of read = result_map_both (λ read. read) (λ kind. word.Kind kind) read

grammar_by : (line : List ℕ) (read : Result CertText FormatKind) → cert_text (words line) ≡ read → IfOk (answer_of read) (λ said. IsCertificateLine said line)
grammar_by line (Ok said) is = alone_ok (words line) said is
grammar_by line (Err fault) is = tt

pub alone_grammar : (line : List ℕ) (answer : Result CertText WordFault) → answer ≡ answer_of (cert_text (words line)) → IfOk answer (λ said. IsCertificateLine said line)
alone_grammar line answer is =
    subst (λ (a : Result CertText WordFault). IfOk a (λ said. IsCertificateLine said line)) (sym is) (grammar_by line (cert_text (words line)) refl)

fault_by : (line : List ℕ) (read : Result CertText FormatKind) → cert_text (words line) ≡ read → IfErr (answer_of read) (IsCertificateFaultAlone line)
fault_by line (Ok said) is = tt
fault_by line (Err kind) is =
    (no_header (words line) kind is, among (words line) kind (line_err free_lines free_lawful section.Header (words line) kind (sym (alone_is (words line)) ∙ is)))

pub alone_fault : (line : List ℕ) (answer : Result CertText WordFault) → answer ≡ answer_of (cert_text (words line)) → IfErr answer (IsCertificateFaultAlone line)
alone_fault line answer is =
    subst (λ (a : Result CertText WordFault). IfErr a (IsCertificateFaultAlone line)) (sym is) (fault_by line (cert_text (words line)) refl)

pub alone_every : (line : List ℕ) (answer : Result CertText WordFault) (said : CertText) → answer ≡ answer_of (cert_text (words line)) → IsCertificateLine said line → answer ≡ Ok said
alone_every line answer said is says = is ∙ ap answer_of (alone_read (words line) said says)
