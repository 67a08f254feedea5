-- The text of a strong certificate keeps the laws of a text of lines in sections: what the lines of a certificate lead to is the certificate.
use Rattle.std.proofs.Common.{◌≡◌, ◌⊎◌, ℕ, true, IsTrue, List, [], ◌∷◌, ◌++◌, map, Result, Ok, Err, refl, sym, ap, ◌∙◌, subst, inl, inr}
use Rattle.std.specs.Result.{IfOk}
use Rattle.std.specs.List.{AllByRecursion}
use Rattle.std.proofs.lemmas.List.{append-nil}
use Rattle.std.proofs.lemmas.List.Elements.{recursion_from_All, All-weaker, All-from_recursion}
use Rattle.net_model.specs.Names.{is_name}
use Rattle.net_model.specs.declared.format.TextFault.{TextFault}
use Rattle.sectioned_texts.specs.LawfulTexts.{IsLawful}
use Rattle.sectioned_texts.proofs.ReadingLemmas.{grammar_read}
use Rattle.sectioned_texts.proofs.SpelledTexts.{Comes, SaidLead, MayEnd, SpellingLaws, along, all_spelled, lead_each, first_longer, second_longer, of_both, words_of_both}
use Rattle.sectioned_texts.proofs.SpellingLemmas.{spelled_lawful, printed_declares}
use Rattle.cert_format.specs.CertificateWords.{end_words}
use Rattle.cert_format.specs.StrongWords.{header_words, strong_words, printed_strong, OfOneKind, HasStrongWeight, HasStrongWeights, IsSpelledBy, IsSpelledStrong}
use Rattle.cert_format.specs.StrongGrammar.{StrongProgress, text_words, IsSpelledText, is_last, admits, opens, initial, advanced, strong_of, strong_spelling, strong_lines, IsStrongText, strong_text}
use Rattle.cert_format.specs.declared.strong_section.StrongSection.{StrongSection}
use Rattle.cert_format.specs.declared.strong_section.StrongSection.TheVariants as section
use Rattle.cert_format.specs.declared.strong_cert.StrongCert.{StrongCert}
use Rattle.cert_format.specs.declared.strong_cert.StrongLine.{StrongLine}
use Rattle.cert_format.specs.declared.strong_read.StrongTextLine.{StrongTextLine}
use Rattle.cert_format.specs.declared.strong_read.StrongTextLine.TheVariants as text
use Rattle.cert_format.proofs.StrongLineLemmas.{text_word, line_says, first_word, read_back}

-- lines of a strong certificate may come one after another, and lead from what was read to what is read with them
abbrev Leads : StrongProgress → List StrongTextLine → StrongProgress → Type 0
Leads = SaidLead strong_lines strong_spelling text_word

abbrev May : StrongSection → StrongTextLine → Type 0
May = Comes strong_lines strong_spelling text_word

abbrev MayEndIn : StrongProgress → Type 0
MayEndIn = MayEnd strong_lines strong_spelling text_word text.End

-- ---- the lines of a certificate before the last one
abbrev by_and_ring : List StrongLine → List (List ℕ) → List StrongTextLine
by_and_ring by ring = text.Header ∷ (map text.By by ++ map text.Ring ring)

abbrev lines_of : StrongCert → List StrongTextLine
lines_of cert = by_and_ring cert.by cert.ring

words_of_lines : (cert : StrongCert) → strong_words cert ≡ map text_words (lines_of cert) ++ end_words ∷ []
words_of_lines cert =
    ap (λ (ws : List (List (List ℕ))). header_words ∷ ws) (sym (words_of_both text.By text.Ring text_words cert.by cert.ring end_words))

-- ---- they lead to it
-- what was read, in a section
abbrev put : StrongSection → List StrongLine → List (List ℕ) → StrongProgress
put s by ring = record { section = s; by = by; ring = ring }

-- lines of one kind lead to what they are
abbrev LeadTo : List StrongLine → List (List ℕ) → Type 0
LeadTo by ring = (read : StrongProgress) × Leads initial (by_and_ring by ring) read × MayEndIn read × (strong_of (advanced read text.End) ≡ record { by = by; ring = ring })

by_leads : (line : StrongLine) (by : List StrongLine) → IsSpelledBy line → AllByRecursion IsSpelledBy by → LeadTo (line ∷ by) []
by_leads line by first spelled =
    let each : Leads (put section.By (line ∷ []) []) (map text.By by) (put section.By (line ∷ by) []) = lead_each strong_lines strong_spelling text_word text.By (λ ls. put section.By ls []) IsSpelledBy (λ before x. refl)
    (λ before x is. record { may = refl; goes = refl; spelled = is }) (line ∷ []) by spelled in (
      put section.By (line ∷ by) [],
      (
        record { may = refl; goes = refl; spelled = tt },
        subst (λ (ls : List StrongTextLine). Leads (put section.Lines [] []) ls (put section.By (line ∷ by) [])) (sym (append-nil (map text.By (line ∷ by)))) (record { may = refl; goes = refl; spelled = first }, each),
      ),
      refl,
      refl,
    )

ring_leads : (point : List ℕ) (ring : List (List ℕ)) → IsTrue (is_name point) → AllByRecursion (λ p. IsTrue (is_name p)) ring → LeadTo [] (point ∷ ring)
ring_leads point ring first named = (
  put section.Ring [] (point ∷ ring),
  (
    record { may = refl; goes = refl; spelled = tt },
    (
      record { may = refl; goes = refl; spelled = first },
      lead_each strong_lines strong_spelling text_word text.Ring (λ ps. put section.Ring [] ps) (λ p. IsTrue (is_name p)) (λ before x. refl) (λ before x is. record { may = refl; goes = refl; spelled = is }) (point ∷ []) ring named,
    ),
  ),
  refl,
  refl,
)

told_by : (by : List StrongLine) (ring : List (List ℕ)) → (by ≡ []) ⊎ (ring ≡ []) → AllByRecursion IsSpelledBy by → AllByRecursion (λ p. IsTrue (is_name p)) ring → LeadTo by ring
told_by [] [] one spelled named = (put section.Lines [] [], (record { may = refl; goes = refl; spelled = tt }, refl), refl, refl)
told_by (line ∷ by) [] one spelled named = by_leads line by spelled.0 spelled.1
told_by [] (point ∷ ring) one spelled named = ring_leads point ring named.0 named.1
told_by (line ∷ by) (point ∷ ring) (inl none) spelled named = absurd (cc)
told_by (line ∷ by) (point ∷ ring) (inr none) spelled named = absurd (cc)

told : (cert : StrongCert) → IsSpelledStrong cert → (read : StrongProgress) × Leads initial (lines_of cert) read × MayEndIn read × (strong_of (advanced read text.End) ≡ cert)
told cert spelled =
    told_by cert.by cert.ring spelled.of_one_kind (recursion_from_All IsSpelledBy cert.by spelled.by) (recursion_from_All (λ p. IsTrue (is_name p)) cert.ring spelled.ring)

-- ---- and no others do
-- the lines that lead to a section
abbrev so_far : StrongSection → StrongProgress → List StrongTextLine
so_far section.Header read = []
so_far others read = by_and_ring read.by read.ring

-- of what nothing was read yet
abbrev IsReached : StrongSection → StrongProgress → Type 0
IsReached section.By read = read.ring ≡ []
IsReached section.Ring read = read.by ≡ []
IsReached others read = (read.by ≡ []) × (read.ring ≡ [])

record IsSoFar (said : List StrongTextLine) (read : StrongProgress) : Type 0 where
  are : said ≡ so_far read.section read
  reached : IsReached read.section read

-- one line more
abbrev more : StrongTextLine → List StrongTextLine → List StrongTextLine
more said before = before ++ said ∷ []

by_more : (r : StrongProgress) (before : List StrongTextLine) (line : StrongLine) → before ≡ by_and_ring r.by r.ring → r.ring ≡ []
    → IsSoFar (before ++ text.By line ∷ []) (put section.By (r.by ++ line ∷ []) r.ring)
by_more r before line are none =
    record { are = ap (more (text.By line)) are ∙ ap (λ (ls : List StrongTextLine). text.Header ∷ ls) (first_longer text.By text.Ring r.by r.ring line none); reached = none }

ring_more : (r : StrongProgress) (before : List StrongTextLine) (point : List ℕ) → before ≡ by_and_ring r.by r.ring → r.by ≡ []
    → IsSoFar (before ++ text.Ring point ∷ []) (put section.Ring r.by (r.ring ++ point ∷ []))
ring_more r before point are none =
    record { are = ap (more (text.Ring point)) are ∙ ap (λ (ls : List StrongTextLine). text.Header ∷ ls) (second_longer text.By text.Ring r.by r.ring point); reached = none }

next : (said : StrongTextLine) (s : StrongSection) (r : StrongProgress) (before : List StrongTextLine) → before ≡ so_far s r → IsReached s r → May s said
    → IsSoFar (before ++ said ∷ []) (advanced (put s r.by r.ring) said)
next text.Blank s r before are reached comes = absurd comes.spelled
next text.End s r before are reached comes = absurd (let wrong = comes.goes in cc)
next text.Header section.Header r before are reached comes = record {
  are = ap (more text.Header) are ∙ ap (λ (ls : List StrongLine). by_and_ring ls []) (sym reached.0) ∙ ap (by_and_ring r.by) (sym reached.1);
  reached = reached;
}
next text.Header s r before are reached comes = absurd (let wrong = comes.may in cc)
next (text.By line) section.Lines r before are reached comes = by_more r before line are reached.1
next (text.By line) section.By r before are reached comes = by_more r before line are reached
next (text.By line) s r before are reached comes = absurd (let wrong = comes.may in cc)
next (text.Ring point) section.Lines r before are reached comes = ring_more r before point are reached.0
next (text.Ring point) section.Ring r before are reached comes = ring_more r before point are reached
next (text.Ring point) s r before are reached comes = absurd (let wrong = comes.may in cc)

ends_so : (s : StrongSection) (r : StrongProgress) → admits s (text_word text.End) ≡ true → IsReached s r → (so_far s r ≡ lines_of (strong_of r)) × OfOneKind (strong_of r)
ends_so section.Header r may reached = absurd (cc)
ends_so section.Lines r may reached = (refl, inl reached.0)
ends_so section.By r may reached = (refl, inr reached)
ends_so section.Ring r may reached = (refl, inl reached)

kept : (said : List StrongTextLine) (read : StrongProgress) → Leads initial said read → MayEndIn read → (said ≡ lines_of (strong_of read)) × IsSpelledStrong (strong_of read)
kept said read leads may =
    let is = along strong_lines strong_spelling text_word IsSoFar (λ before p t holds comes. next t p.section p before holds.are holds.reached comes) said [] initial read
    (record { are = refl; reached = (refl, refl) }) leads in
    let (same, one) = ends_so read.section read may is.reached in
    let (by, ring) = of_both text.By text.Ring IsSpelledText read.by read.ring
    (subst (AllByRecursion IsSpelledText) (is.are ∙ same) (all_spelled strong_lines strong_spelling text_word said initial read leads)).1 in
    (is.are ∙ same, record { of_one_kind = one; by = All-from_recursion IsSpelledBy read.by by; ring = All-from_recursion (λ p. IsTrue (is_name p)) read.ring ring })

-- ---- each prefix can be ended
can_end : (s : StrongSection) (r : StrongProgress) → (said : List StrongTextLine) × (to : StrongProgress) × Leads (put s r.by r.ring) said to × MayEndIn to
can_end section.Header r = (text.Header ∷ [], put section.Lines r.by r.ring, (record { may = refl; goes = refl; spelled = tt }, refl), refl)
can_end section.Lines r = ([], put section.Lines r.by r.ring, refl, refl)
can_end section.By r = ([], put section.By r.by r.ring, refl, refl)
can_end section.Ring r = ([], put section.Ring r.by r.ring, refl, refl)

header_comes : (s : StrongSection) (line : List (List ℕ)) → opens s ≡ true → line ≡ header_words → (said : StrongTextLine) × (line ≡ text_words said) × May s said
header_comes section.Header line first same = (text.Header, same, record { may = refl; goes = refl; spelled = tt })
header_comes s line first same = absurd (cc)

only_end : (said : StrongTextLine) → is_last said ≡ true → said ≡ text.End
only_end text.End last = refl
only_end others last = absurd (cc)

-- ---- the text is lawful
strong_laws : SpellingLaws strong_lines strong_spelling text_word
strong_laws = record {
  first = first_word;
  said = line_says;
  back = read_back;
  blank_words = refl;
  blank_stays = λ read. refl;
  blank_goes = refl;
  last = text.End;
  is_last = refl;
  only_last = only_end;
  last_words = refl;
  last_spelled = tt;
  header = header_comes;
  lines_of = lines_of;
  value_words = words_of_lines;
  told = told;
  kept = kept;
  can_end = λ read. can_end read.section read;
}

pub strong_lawful : IsLawful strong_lines
strong_lawful = spelled_lawful strong_lines strong_spelling text_word strong_laws

-- ---- texts
-- a printed certificate is a text of it
pub printed_is_text : (cert : StrongCert) → IsSpelledStrong cert → IsStrongText (printed_strong cert) cert
unfolding printed_strong
printed_is_text cert spelled = ([], printed_declares strong_lines strong_spelling text_word strong_laws cert spelled)

-- a printed certificate is read back
pub printed_read : (cert : StrongCert) → IsSpelledStrong cert → strong_text (printed_strong cert) ≡ Ok cert
unfolding strong_text
printed_read cert spelled = grammar_read strong_lines strong_lawful (printed_strong cert) cert (printed_is_text cert spelled)

-- the weights of an answer are within their limit, and its lines of one kind
pub answer_weights : (bytes : List ℕ) (answer : Result StrongCert TextFault) → IfOk answer (λ cert. IsStrongText bytes cert) → IfOk answer (λ cert. HasStrongWeights cert × OfOneKind cert)
answer_weights bytes (Ok cert) is =
    let spelled : IsSpelledStrong cert = is.1.spelled in
    (All-weaker IsSpelledBy HasStrongWeight (λ line has. has.weight) cert.by spelled.by, spelled.of_one_kind)
answer_weights bytes (Err fault) is = tt
