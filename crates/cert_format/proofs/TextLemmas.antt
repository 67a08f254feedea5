-- The text of a certificate keeps the laws of a text of lines in sections: what the lines of a certificate lead to is the certificate.
use Rattle.std.proofs.Common.{◌≡◌, ◌≢◌, ℕ, ◌≤◌, true, false, IsTrue, Option, None, Some, List, [], ◌∷◌, ◌++◌, map, Result, Ok, Err, refl, sym, ap, ◌∙◌, subst}
use Rattle.std.specs.Result.{IfOk}
use Rattle.std.specs.List.{AllByRecursion}
use Rattle.std.proofs.lemmas.List.Elements.{recursion_from_All, All-weaker, All-from_recursion}
use Rattle.net_model.specs.Names.{is_name}
use Rattle.net_model.specs.declared.format.TextFault.{TextFault}
use Rattle.sectioned_texts.specs.LawfulTexts.{IsLawful}
use Rattle.sectioned_texts.proofs.ReadingLemmas.{grammar_read}
use Rattle.sectioned_texts.proofs.SpelledTexts.{Comes, SaidLead, MayEnd, SpellingLaws, along, all_spelled, said_lead_on, lead_each, first_longer, second_longer, of_both, words_of_both}
use Rattle.sectioned_texts.proofs.SpellingLemmas.{spelled_lawful, printed_declares}
use Rattle.cert_format.specs.Limits.{most_line_number}
use Rattle.cert_format.specs.CertificateWords.{rule_word, entry_word, certificate_words, end_words, header_words, refutation_words, table_words, printed_certificate, IsSpelledLine, IsSpelledEntry, IsSpelled, HasWrittenWeight, IsEntryWeight, HasWeights}
use Rattle.cert_format.specs.CertificateGrammar.{CertificateProgress, text_words, IsSpelledText, is_last, admits, opens, initial, advanced, certificate_by, certificate_of, certificate_spelling, certificate_lines, IsCertificateText}
use Rattle.cert_format.specs.CertificateFormat.{certificate_text}
use Rattle.cert_format.specs.declared.kind.LineKind.{LineKind}
use Rattle.cert_format.specs.declared.kind.LineKind.TheVariants as kind
use Rattle.cert_format.specs.declared.entry.Entry.{Entry}
use Rattle.cert_format.specs.declared.line.CertLine.{CertLine}
use Rattle.cert_format.specs.declared.certificate.Certificate.{Certificate}
use Rattle.cert_format.specs.declared.certificate.Certificate.TheVariants.{Refutation, TableProof}
use Rattle.cert_format.specs.declared.read.CertText.{CertText}
use Rattle.cert_format.specs.declared.read.CertText.TheVariants as text
use Rattle.cert_format.specs.declared.section.Section.{Section}
use Rattle.cert_format.specs.declared.section.Section.TheVariants as section
use Rattle.cert_format.proofs.LineLemmas.{text_word, line_says, first_word, read_back}

-- lines of a certificate may come one after another, and lead from what was read to what is read with them
abbrev Leads : CertificateProgress → List CertText → CertificateProgress → Type 0
Leads = SaidLead certificate_lines certificate_spelling text_word

abbrev May : Section → CertText → Type 0
May = Comes certificate_lines certificate_spelling text_word

-- ---- the lines of a certificate before the last one
abbrev rules_and_walk : List CertLine → List ℕ → List CertText
rules_and_walk lines walk = text.Header ∷ text.Refutation ∷ (map text.Line lines ++ map text.Walk walk)

abbrev order_and_entries : List (List ℕ) → List Entry → List CertText
order_and_entries order entries = text.Header ∷ text.Table ∷ (map text.Order order ++ map text.Entry entries)

abbrev lines_of : Certificate → List CertText
lines_of (Refutation lines walk) = rules_and_walk lines walk
lines_of (TableProof order entries) = order_and_entries order entries

words_of_lines : (c : Certificate) → certificate_words c ≡ map text_words (lines_of c) ++ end_words ∷ []
words_of_lines (Refutation lines walk) =
    ap (λ (ws : List (List (List ℕ))). header_words ∷ refutation_words ∷ ws) (sym (words_of_both text.Line text.Walk text_words lines walk end_words))
words_of_lines (TableProof order entries) =
    ap (λ (ws : List (List (List ℕ))). header_words ∷ table_words ∷ ws) (sym (words_of_both text.Order text.Entry text_words order entries end_words))

spelled_by_lines : (c : Certificate) → AllByRecursion IsSpelledText (lines_of c) → IsSpelled c
spelled_by_lines (Refutation lines walk) all =
    let (rules, steps) = of_both text.Line text.Walk IsSpelledText lines walk all.1.1 in
    (All-from_recursion IsSpelledLine lines rules, All-from_recursion (λ i. i ≤ most_line_number) walk steps)
spelled_by_lines (TableProof order entries) all =
    let (points, rows) = of_both text.Order text.Entry IsSpelledText order entries all.1.1 in
    (All-from_recursion (λ point. IsTrue (is_name point)) order points, All-from_recursion IsSpelledEntry entries rows)

-- ---- they lead to it
-- what was read, in a section
abbrev put : Section → List CertLine → List ℕ → List (List ℕ) → List Entry → CertificateProgress
put s lines walk order entries = record { section = s; lines = lines; walk = walk; order = order; entries = entries }

rule_may : (k : LineKind) → admits section.Rules (rule_word k) ≡ true
rule_may (kind.Bound name) = refl
rule_may (kind.Link name) = refl
rule_may (kind.No i j) = refl
rule_may (kind.Up i j) = refl
rule_may (kind.Low name j) = refl
rule_may (kind.Cross name j) = refl
rule_may (kind.Drop j) = refl

entry_may : (label : Option (List ℕ)) → (admits section.Order (entry_word label) ≡ true) × (admits section.Entries (entry_word label) ≡ true)
entry_may None = (refl, refl)
entry_may (Some label) = (refl, refl)

lines_lead : (lines : List CertLine) → AllByRecursion IsSpelledLine lines → Leads (put section.Rules [] [] [] []) (map text.Line lines) (put section.Rules lines [] [] [])
lines_lead lines spelled =
    lead_each certificate_lines certificate_spelling text_word text.Line (λ ls. put section.Rules ls [] [] []) IsSpelledLine (λ before x. refl)
    (λ before x is. record { may = rule_may x.kind; goes = refl; spelled = is }) [] lines spelled

walk_leads : (lines : List CertLine) (walk : List ℕ) → AllByRecursion (λ i. i ≤ most_line_number) walk
    → (read : CertificateProgress) × Leads (put section.Rules lines [] [] []) (map text.Walk walk) read × (admits read.section (text_word text.End) ≡ true) × (certificate_of read ≡ Refutation lines walk)
walk_leads lines [] within = (put section.Rules lines [] [] [], refl, refl, refl)
walk_leads lines (i ∷ walk) within = (
  put section.Walk lines (i ∷ walk) [] [],
  (
    record { may = refl; goes = refl; spelled = within.0 },
    lead_each certificate_lines certificate_spelling text_word text.Walk (λ ws. put section.Walk lines ws [] []) (λ i. i ≤ most_line_number) (λ before x. refl) (λ before x is. record { may = refl; goes = refl; spelled = is }) (i ∷ []) walk within.1,
  ),
  refl,
  refl,
)

order_leads : (order : List (List ℕ)) → AllByRecursion (λ point. IsTrue (is_name point)) order → Leads (put section.Order [] [] [] []) (map text.Order order) (put section.Order [] [] order [])
order_leads order named =
    lead_each certificate_lines certificate_spelling text_word text.Order (λ ps. put section.Order [] [] ps []) (λ point. IsTrue (is_name point)) (λ before x. refl)
    (λ before x is. record { may = refl; goes = refl; spelled = is }) [] order named

entries_lead : (order : List (List ℕ)) (entries : List Entry) → AllByRecursion IsSpelledEntry entries
    → (read : CertificateProgress) × Leads (put section.Order [] [] order []) (map text.Entry entries) read × (admits read.section (text_word text.End) ≡ true) × (certificate_of read ≡ TableProof order entries)
entries_lead order [] spelled = (put section.Order [] [] order [], refl, refl, refl)
entries_lead order (e ∷ entries) spelled = (
  put section.Entries [] [] order (e ∷ entries),
  (
    record { may = (entry_may e.label).0; goes = refl; spelled = spelled.0 },
    lead_each certificate_lines certificate_spelling text_word text.Entry (λ es. put section.Entries [] [] order es) IsSpelledEntry (λ before x. refl)
        (λ before x is. record { may = (entry_may x.label).1; goes = refl; spelled = is }) (e ∷ []) entries spelled.1,
  ),
  refl,
  refl,
)

abbrev MayEndIn : CertificateProgress → Type 0
MayEndIn = MayEnd certificate_lines certificate_spelling text_word text.End

told : (c : Certificate) → IsSpelled c → (read : CertificateProgress) × Leads initial (lines_of c) read × MayEndIn read × (certificate_of (advanced read text.End) ≡ c)
told (Refutation lines walk) spelled =
    let (read, leads, may, is) = walk_leads lines walk (recursion_from_All (λ i. i ≤ most_line_number) walk spelled.1) in
    let all = said_lead_on certificate_lines certificate_spelling text_word (map text.Line lines) (map text.Walk walk) (put section.Rules [] [] [] []) (put section.Rules lines [] [] []) read
    (lines_lead lines (recursion_from_All IsSpelledLine lines spelled.0)) leads in
    (read, (record { may = refl; goes = refl; spelled = tt }, (record { may = refl; goes = refl; spelled = tt }, all)), may, is)
told (TableProof order entries) spelled =
    let (read, leads, may, is) = entries_lead order entries (recursion_from_All IsSpelledEntry entries spelled.1) in
    let all = said_lead_on certificate_lines certificate_spelling text_word (map text.Order order) (map text.Entry entries) (put section.Order [] [] [] []) (put section.Order [] [] order []) read
    (order_leads order (recursion_from_All (λ point. IsTrue (is_name point)) order spelled.0)) leads in
    (read, (record { may = refl; goes = refl; spelled = tt }, (record { may = refl; goes = refl; spelled = tt }, all)), may, is)

-- ---- and no others do
-- the lines that lead to a section
abbrev so_far : Section → CertificateProgress → List CertText
so_far section.Header read = []
so_far section.Kind read = text.Header ∷ []
so_far section.Rules read = rules_and_walk read.lines read.walk
so_far section.Walk read = rules_and_walk read.lines read.walk
so_far section.Order read = order_and_entries read.order read.entries
so_far section.Entries read = order_and_entries read.order read.entries

-- of what nothing was read yet
abbrev IsReached : Section → CertificateProgress → Type 0
IsReached section.Header read = (read.lines ≡ []) × (read.walk ≡ []) × (read.order ≡ []) × (read.entries ≡ [])
IsReached section.Kind read = (read.lines ≡ []) × (read.walk ≡ []) × (read.order ≡ []) × (read.entries ≡ [])
IsReached section.Rules read = read.walk ≡ []
IsReached section.Order read = read.entries ≡ []
IsReached others read = Unit {0}

record IsSoFar (said : List CertText) (read : CertificateProgress) : Type 0 where
  are : said ≡ so_far read.section read
  reached : IsReached read.section read

-- when no rule line may come, and when no entry
no_rule : (s : Section) (k : LineKind) → s ≢ section.Rules → admits s (rule_word k) ≡ false
no_rule section.Rules k other = absurd (other refl)
no_rule s (kind.Bound name) other = refl
no_rule s (kind.Link name) other = refl
no_rule s (kind.No i j) other = refl
no_rule s (kind.Up i j) other = refl
no_rule s (kind.Low name j) other = refl
no_rule s (kind.Cross name j) other = refl
no_rule s (kind.Drop j) other = refl

no_entry : (s : Section) (label : Option (List ℕ)) → s ≢ section.Order → s ≢ section.Entries → admits s (entry_word label) ≡ false
no_entry section.Order label other another = absurd (other refl)
no_entry section.Entries label other another = absurd (another refl)
no_entry s None other another = refl
no_entry s (Some label) other another = refl

refuted : {A : Type 0} (s : Section) (said : CertText) → admits s (text_word said) ≡ false → May s said → A
refuted s said none comes = absurd (let wrong : false ≡ true = sym none ∙ comes.may in cc)

-- one line more
abbrev more : CertText → List CertText → List CertText
more said before = before ++ said ∷ []

next : (said : CertText) (s : Section) (r : CertificateProgress) (before : List CertText) → before ≡ so_far s r → IsReached s r → May s said
    → IsSoFar (before ++ said ∷ []) (advanced (put s r.lines r.walk r.order r.entries) said)
next text.Blank s r before are reached comes = absurd comes.spelled
next text.End s r before are reached comes = absurd (let wrong = comes.goes in cc)
next text.Header section.Header r before are reached comes = record { are = ap (more text.Header) are; reached = reached }
next text.Header s r before are reached comes = absurd (let wrong = comes.may in cc)
next text.Refutation section.Kind r before are reached comes = record {
  are = ap (more text.Refutation) are ∙ ap (λ (ls : List CertLine). rules_and_walk ls []) (sym reached.0) ∙ ap (rules_and_walk r.lines) (sym reached.1);
  reached = reached.1;
}
next text.Refutation s r before are reached comes = absurd (let wrong = comes.may in cc)
next text.Table section.Kind r before are reached comes = record {
  are = ap (more text.Table) are ∙ ap (λ (ps : List (List ℕ)). order_and_entries ps []) (sym reached.2) ∙ ap (order_and_entries r.order) (sym reached.3);
  reached = reached.3;
}
next text.Table s r before are reached comes = absurd (let wrong = comes.may in cc)
next (text.Line line) section.Rules r before are reached comes = record {
  are = ap (more (text.Line line)) are ∙ ap (λ (ls : List CertText). text.Header ∷ text.Refutation ∷ ls) (first_longer text.Line text.Walk r.lines r.walk line reached);
  reached = reached;
}
next (text.Line line) s r before are reached comes = refuted s (text.Line line) (no_rule s line.kind (λ same. cc)) comes
next (text.Walk i) section.Rules r before are reached comes = record {
  are = ap (more (text.Walk i)) are ∙ ap (λ (ls : List CertText). text.Header ∷ text.Refutation ∷ ls) (second_longer text.Line text.Walk r.lines r.walk i);
  reached = tt;
}
next (text.Walk i) section.Walk r before are reached comes = record {
  are = ap (more (text.Walk i)) are ∙ ap (λ (ls : List CertText). text.Header ∷ text.Refutation ∷ ls) (second_longer text.Line text.Walk r.lines r.walk i);
  reached = tt;
}
next (text.Walk i) s r before are reached comes = absurd (let wrong = comes.may in cc)
next (text.Order point) section.Order r before are reached comes = record {
  are = ap (more (text.Order point)) are ∙ ap (λ (ls : List CertText). text.Header ∷ text.Table ∷ ls) (first_longer text.Order text.Entry r.order r.entries point reached);
  reached = reached;
}
next (text.Order point) s r before are reached comes = absurd (let wrong = comes.may in cc)
next (text.Entry entry) section.Order r before are reached comes = record {
  are = ap (more (text.Entry entry)) are ∙ ap (λ (ls : List CertText). text.Header ∷ text.Table ∷ ls) (second_longer text.Order text.Entry r.order r.entries entry);
  reached = tt;
}
next (text.Entry entry) section.Entries r before are reached comes = record {
  are = ap (more (text.Entry entry)) are ∙ ap (λ (ls : List CertText). text.Header ∷ text.Table ∷ ls) (second_longer text.Order text.Entry r.order r.entries entry);
  reached = tt;
}
next (text.Entry entry) s r before are reached comes = refuted s (text.Entry entry) (no_entry s entry.label (λ same. cc) (λ same. cc)) comes

ends_so : (s : Section) (r : CertificateProgress) → admits s (text_word text.End) ≡ true → so_far s r ≡ lines_of (certificate_by s r)
ends_so section.Header r may = absurd (cc)
ends_so section.Kind r may = absurd (cc)
ends_so section.Rules r may = refl
ends_so section.Walk r may = refl
ends_so section.Order r may = refl
ends_so section.Entries r may = refl

kept : (said : List CertText) (read : CertificateProgress) → Leads initial said read → MayEndIn read → (said ≡ lines_of (certificate_of read)) × IsSpelled (certificate_of read)
kept said read leads may =
    let is = along certificate_lines certificate_spelling text_word IsSoFar (λ before p t holds comes. next t p.section p before holds.are holds.reached comes) said [] initial read
    (record { are = refl; reached = (refl, refl, refl, refl) }) leads in
    let same : said ≡ lines_of (certificate_of read) = is.are ∙ ends_so read.section read may in
    (same, spelled_by_lines (certificate_of read) (subst (AllByRecursion IsSpelledText) same (all_spelled certificate_lines certificate_spelling text_word said initial read leads)))

-- ---- each prefix can be ended
can_end : (s : Section) (r : CertificateProgress) → (said : List CertText) × (to : CertificateProgress) × Leads (put s r.lines r.walk r.order r.entries) said to × MayEndIn to
can_end section.Header r = (
  text.Header ∷ text.Refutation ∷ [],
  put section.Rules r.lines r.walk r.order r.entries,
  (record { may = refl; goes = refl; spelled = tt }, (record { may = refl; goes = refl; spelled = tt }, refl)),
  refl,
)
can_end section.Kind r = (text.Refutation ∷ [], put section.Rules r.lines r.walk r.order r.entries, (record { may = refl; goes = refl; spelled = tt }, refl), refl)
can_end section.Rules r = ([], put section.Rules r.lines r.walk r.order r.entries, refl, refl)
can_end section.Walk r = ([], put section.Walk r.lines r.walk r.order r.entries, refl, refl)
can_end section.Order r = ([], put section.Order r.lines r.walk r.order r.entries, refl, refl)
can_end section.Entries r = ([], put section.Entries r.lines r.walk r.order r.entries, refl, refl)

header_comes : (s : Section) (line : List (List ℕ)) → opens s ≡ true → line ≡ header_words → (said : CertText) × (line ≡ text_words said) × May s said
header_comes section.Header line first same = (text.Header, same, record { may = refl; goes = refl; spelled = tt })
header_comes s line first same = absurd (cc)

only_end : (said : CertText) → is_last said ≡ true → said ≡ text.End
only_end text.End last = refl
only_end others last = absurd (cc)

-- ---- the text is lawful
certificate_laws : SpellingLaws certificate_lines certificate_spelling text_word
certificate_laws = record {
  first = first_word;
  said = line_says;
  back = read_back;
  blank_words = refl;
  blank_stays = λ read. refl;
  blank_goes = refl;
  last = text.End;
  is_last = refl;
  only_last = only_end;
  last_words = refl;
  last_spelled = tt;
  header = header_comes;
  lines_of = lines_of;
  value_words = words_of_lines;
  told = told;
  kept = kept;
  can_end = λ read. can_end read.section read;
}

pub certificate_lawful : IsLawful certificate_lines
certificate_lawful = spelled_lawful certificate_lines certificate_spelling text_word certificate_laws

-- ---- texts
-- a printed certificate is a text of it
pub printed_is_text : (c : Certificate) → IsSpelled c → IsCertificateText (printed_certificate c) c
unfolding printed_certificate
printed_is_text c spelled = ([], printed_declares certificate_lines certificate_spelling text_word certificate_laws c spelled)

-- a printed certificate is read back
pub printed_read : (c : Certificate) → IsSpelled c → certificate_text (printed_certificate c) ≡ Ok c
unfolding certificate_text
printed_read c spelled = grammar_read certificate_lines certificate_lawful (printed_certificate c) c (printed_is_text c spelled)

spelled_weights : (c : Certificate) → IsSpelled c → HasWeights c
spelled_weights (Refutation lines walk) spelled = All-weaker IsSpelledLine HasWrittenWeight (λ line is. is.weight) lines spelled.0
spelled_weights (TableProof order entries) spelled = All-weaker IsSpelledEntry IsEntryWeight (λ entry is. is.weight) entries spelled.1

-- the weights of an answer are within their limit
pub answer_weights : (bytes : List ℕ) (answer : Result Certificate TextFault) → IfOk answer (λ c. IsCertificateText bytes c) → IfOk answer (λ c. HasWeights c)
answer_weights bytes (Ok c) is = spelled_weights c is.1.spelled
answer_weights bytes (Err fault) is = tt
