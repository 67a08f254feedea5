-- A line of a certificate by its first word: what is read of it is what it says, and what is spelled is read back.
use Rattle.std.proofs.Common.{◌≡◌, ℕ, ℤ, ◌≤◌, List, [], ◌∷◌, ◌++◌, Option, None, Some, Ok, refl, ap, subst, arith, codes, unsigned_abs, IsTrue}
use Rattle.std.specs.Option.{IfSome}
use Rattle.std.specs.List.{AllByRecursion}
use Rattle.std.specs.Fmt.{decimal, signed_decimal}
use Rattle.texts.proofs.PrintedLineLemmas.{IsPrintable}
use Rattle.net_model.specs.Names.{is_name}
use Rattle.net_model.proofs.LineLemmas.{HaveLimits}
use Rattle.net_model.proofs.ReadWordLemmas.{name_read}
use Rattle.net_model.proofs.DecimalSpellingLemmas.{printable_name, printable_natural, printable_integer}
use Rattle.sectioned_texts.specs.Reading.{line_after}
use Rattle.sectioned_texts.specs.Spellings.{Spell}
use Rattle.sectioned_texts.proofs.FirstWordLemmas.{one_said, said_by}
use Rattle.sectioned_texts.proofs.SpelledTexts.{IsFirstWord, IsReadBack, plain_printable}
use Rattle.cert_format.specs.Limits.{most_written_weight, most_line_number}
use Rattle.cert_format.specs.Keywords.{spelled}
use Rattle.cert_format.specs.LineForms.{edge_places, labelled_places, bound_form, link_form, no_form, up_form, low_form, cross_form, drop_form, walk_form, order_form, edge_form, upper_form, lone_form}
use Rattle.cert_format.specs.CertificateWords.{rule_word, operand_words, label_words, entry_word, AreOperands}
use Rattle.cert_format.specs.CertificateGrammar.{IsSpelledText, certificate_spelling, certificate_lines}
use Rattle.cert_format.specs.declared.keyword.Keyword.{Keyword}
use Rattle.cert_format.specs.declared.keyword.Keyword.TheVariants as keyword
use Rattle.cert_format.specs.declared.kind.LineKind.{LineKind}
use Rattle.cert_format.specs.declared.kind.LineKind.TheVariants as kind
use Rattle.cert_format.specs.declared.read.CertText.{CertText}
use Rattle.cert_format.specs.declared.read.CertText.TheVariants as text
use Rattle.cert_format.proofs.WordLemmas.{number_read, rule_tail, edge_read, entry_tail, entry_read}

-- ---- what is read of a line is what it says
-- a first word and what follows it spell this
abbrev Says : Keyword → CertText → List (List ℕ) → Type 0
Says first said others = Spell certificate_spelling said (spelled first ∷ others)

header_says : (others : List (List ℕ)) (said : CertText) → line_after certificate_lines keyword.Certificate others ≡ Ok said → Says keyword.Certificate said others
header_says others said read =
    let (words, same) = one_said text.Header said others read in
    subst (λ (t : CertText). Says keyword.Certificate t others) same (ap (λ (ws : List (List ℕ)). codes "certificate" ∷ ws) words, tt)

edge_limits : HaveLimits edge_places
edge_limits = (tt, (tt, (omega arith, tt)))

labelled_limits : HaveLimits labelled_places
labelled_limits = (tt, edge_limits)

pub line_says : (first : Keyword) (others : List (List ℕ)) (said : CertText) → line_after certificate_lines first others ≡ Ok said → Says first said others
line_says keyword.Certificate others said read = header_says others said read
line_says keyword.Refutation others said read = said_by (lone_form text.Refutation) (Says keyword.Refutation) others said tt (λ v s. (refl, tt)) read
line_says keyword.Table others said read = said_by (lone_form text.Table) (Says keyword.Table) others said tt (λ v s. (refl, tt)) read
line_says keyword.Bound others said read = said_by bound_form (Says keyword.Bound) others said (tt, edge_limits)
    (λ v s. (refl, record { operands = s.0; from = s.1.0; to = s.1.1.0; label = tt; weight = s.1.1.1.0 })) read
line_says keyword.Link others said read = said_by link_form (Says keyword.Link) others said (tt, edge_limits)
    (λ v s. (refl, record { operands = s.0; from = s.1.0; to = s.1.1.0; label = tt; weight = s.1.1.1.0 })) read
line_says keyword.No others said read = said_by no_form (Says keyword.No) others said (omega arith, (omega arith, edge_limits))
    (λ v s. (refl, record { operands = (s.0, s.1.0); from = s.1.1.0; to = s.1.1.1.0; label = tt; weight = s.1.1.1.1.0 })) read
line_says keyword.Up others said read = said_by up_form (Says keyword.Up) others said (omega arith, (omega arith, labelled_limits))
    (λ v s. (refl, record { operands = (s.0, s.1.0); from = s.1.1.0; to = s.1.1.1.0; label = s.1.1.1.1.0; weight = s.1.1.1.1.1.0 })) read
line_says keyword.Low others said read = said_by low_form (Says keyword.Low) others said (tt, (omega arith, edge_limits))
    (λ v s. (refl, record { operands = (s.0, s.1.0); from = s.1.1.0; to = s.1.1.1.0; label = tt; weight = s.1.1.1.1.0 })) read
line_says keyword.Cross others said read = said_by cross_form (Says keyword.Cross) others said (tt, (omega arith, labelled_limits))
    (λ v s. (refl, record { operands = (s.0, s.1.0); from = s.1.1.0; to = s.1.1.1.0; label = s.1.1.1.1.0; weight = s.1.1.1.1.1.0 })) read
line_says keyword.Drop others said read = said_by drop_form (Says keyword.Drop) others said (omega arith, edge_limits)
    (λ v s. (refl, record { operands = s.0; from = s.1.0; to = s.1.1.0; label = tt; weight = s.1.1.1.0 })) read
line_says keyword.Walk others said read = said_by walk_form (Says keyword.Walk) others said (omega arith, tt) (λ v s. (refl, s.0)) read
line_says keyword.Order others said read = said_by order_form (Says keyword.Order) others said (tt, tt) (λ v s. (refl, s.0)) read
line_says keyword.Edge others said read = said_by edge_form (Says keyword.Edge) others said edge_limits (λ v s. (refl, record { from = s.0; to = s.1.0; label = tt; weight = s.1.1.0 })) read
line_says keyword.Upper others said read = said_by upper_form (Says keyword.Upper) others said edge_limits (λ v s. (refl, record { from = s.0; to = tt; label = s.1.0; weight = s.1.1.0 })) read
line_says keyword.End others said read = said_by (lone_form text.End) (Says keyword.End) others said tt (λ v s. (refl, tt)) read

-- ---- first words
pub first_word : (first : Keyword) → IsFirstWord certificate_lines first
first_word keyword.Certificate = record { found = refl; filled = refl; printable = plain_printable _ _ refl }
first_word keyword.Refutation = record { found = refl; filled = refl; printable = plain_printable _ _ refl }
first_word keyword.Table = record { found = refl; filled = refl; printable = plain_printable _ _ refl }
first_word keyword.Bound = record { found = refl; filled = refl; printable = plain_printable _ _ refl }
first_word keyword.Link = record { found = refl; filled = refl; printable = plain_printable _ _ refl }
first_word keyword.No = record { found = refl; filled = refl; printable = plain_printable _ _ refl }
first_word keyword.Up = record { found = refl; filled = refl; printable = plain_printable _ _ refl }
first_word keyword.Low = record { found = refl; filled = refl; printable = plain_printable _ _ refl }
first_word keyword.Cross = record { found = refl; filled = refl; printable = plain_printable _ _ refl }
first_word keyword.Drop = record { found = refl; filled = refl; printable = plain_printable _ _ refl }
first_word keyword.Walk = record { found = refl; filled = refl; printable = plain_printable _ _ refl }
first_word keyword.Order = record { found = refl; filled = refl; printable = plain_printable _ _ refl }
first_word keyword.Edge = record { found = refl; filled = refl; printable = plain_printable _ _ refl }
first_word keyword.Upper = record { found = refl; filled = refl; printable = plain_printable _ _ refl }
first_word keyword.End = record { found = refl; filled = refl; printable = plain_printable _ _ refl }

-- the first word of a line, by what it says
abbrev pub text_word : CertText → Keyword
text_word text.Blank = keyword.End
text_word text.Header = keyword.Certificate
text_word text.Refutation = keyword.Refutation
text_word text.Table = keyword.Table
text_word (text.Line line) = rule_word line.kind
text_word (text.Walk i) = keyword.Walk
text_word (text.Order point) = keyword.Order
text_word (text.Entry entry) = entry_word entry.label
text_word text.End = keyword.End

-- ---- what is spelled is read back
pub printable_one : IsPrintable (codes "1")
printable_one = plain_printable _ _ refl

printable_number : (n : ℕ) → n ≤ most_line_number → IsPrintable (decimal n)
printable_number n within = printable_natural n (omega arith)

pub printable_weight : (w : ℤ) → unsigned_abs w ≤ most_written_weight → IsPrintable (signed_decimal w)
printable_weight w within = printable_integer w (omega arith)

both : {A : Type 0} (Q : A → Type 0) (xs ys : List A) → AllByRecursion Q xs → AllByRecursion Q ys → AllByRecursion Q (xs ++ ys)
both Q [] ys first second = second
both Q (x ∷ xs) ys first second = (first.0, both Q xs ys first.1 second)

printable_operands : (k : LineKind) → AreOperands k → AllByRecursion IsPrintable (operand_words k)
printable_operands (kind.Bound name) ops = (printable_name name ops, tt)
printable_operands (kind.Link name) ops = (printable_name name ops, tt)
printable_operands (kind.No i j) ops = (printable_number i ops.0, (printable_number j ops.1, tt))
printable_operands (kind.Up i j) ops = (printable_number i ops.0, (printable_number j ops.1, tt))
printable_operands (kind.Low name j) ops = (printable_name name ops.0, (printable_number j ops.1, tt))
printable_operands (kind.Cross name j) ops = (printable_name name ops.0, (printable_number j ops.1, tt))
printable_operands (kind.Drop j) ops = (printable_number j ops, tt)

printable_label : (label : Option (List ℕ)) → IfSome label (λ l. IsTrue (is_name l)) → AllByRecursion IsPrintable (label_words label)
printable_label None named = tt
printable_label (Some label) named = (printable_name label named, tt)

pub read_back : (said : CertText) → IsSpelledText said → IsReadBack certificate_lines certificate_spelling text_word said
read_back text.Blank spelled = absurd spelled
read_back text.Header spelled = record { others = codes "1" ∷ []; words = refl; read = refl; printable = (printable_one, tt) }
read_back text.Refutation spelled = record { others = []; words = refl; read = refl; printable = tt }
read_back text.Table spelled = record { others = []; words = refl; read = refl; printable = tt }
read_back (text.Line line) spelled = record {
  others = rule_tail line.kind line.from line.to line.label line.weight;
  words = refl;
  read = edge_read line.kind line.from line.to line.label line.weight line.labelled spelled;
  printable = both IsPrintable (operand_words line.kind) _ (printable_operands line.kind spelled.operands)
      (printable_name line.from spelled.from, (printable_name line.to spelled.to, both IsPrintable (label_words line.label) _ (printable_label line.label spelled.label) (printable_weight line.weight spelled.weight, tt)));
}
read_back (text.Walk i) spelled = record { others = decimal i ∷ []; words = refl; read = rw (number_read i spelled) refl; printable = (printable_number i spelled, tt) }
read_back (text.Order point) spelled = record { others = point ∷ []; words = refl; read = rw (name_read point spelled) refl; printable = (printable_name point spelled, tt) }
read_back (text.Entry entry) spelled = record {
  others = entry_tail entry.from entry.to entry.label entry.weight;
  words = refl;
  read = entry_read entry.from entry.to entry.label entry.weight entry.one_end spelled;
  printable = (
    printable_name entry.from spelled.from,
    both IsPrintable (label_words entry.to) _ (printable_label entry.to spelled.to)
        (both IsPrintable (label_words entry.label) _ (printable_label entry.label spelled.label) (printable_weight entry.weight spelled.weight, tt)),
  );
}
read_back text.End spelled = record { others = []; words = refl; read = refl; printable = tt }
