-- The lines of a certificate that can be spelled are short, and there are no more of them than bytes.
use Rattle.std.proofs.Common.{◌≡◌, ℕ, ℤ, pos, negsuc, ◌+◌, ◌*◌, ◌≤◌, ◌==◌, ◌&&◌, true, List, [], ◌∷◌, ◌++◌, length, map, Option, None, Some, sym, ap, ◌∙◌, subst, suc, arith, append_assoc, IsTrue, unsigned_abs}
use Rattle.std.specs.Prelude.{nat_lt}
use Rattle.std.specs.Fmt.{decimal, signed_decimal}
use Rattle.std.specs.List.{flat_map, AllByRecursion, list_all}
use Rattle.std.specs.Option.{IfSome}
use Rattle.std.proofs.lemmas.Bool.{and_parts, cond_both}
use Rattle.std.proofs.lemmas.Bool.Decides.{nat_tests}
use Rattle.std.proofs.lemmas.Fmt.{length-decimal-le}
use Rattle.std.proofs.lemmas.List.{length-append, length-map}
use Rattle.std.proofs.lemmas.List.Elements.{recursion_from_All}
use Rattle.texts.specs.Limits.{most_line}
use Rattle.texts.specs.Lines.{lines, lines_after}
use Rattle.texts.specs.PrintedLines.{after_blank, joined, printed, printed_line}
use Rattle.texts.proofs.LineLemmas.{lines-nil, lines_is}
use Rattle.net_model.specs.Names.{is_letter, is_name, is_name_byte}
use Rattle.cert_format.specs.CertificateWords.{AreOperands, IsSpelled, IsSpelledEntry, IsSpelledLine, certificate_words, end_words, entry_word, entry_words, header_words, label_words}
use Rattle.cert_format.specs.CertificateWords.{line_words, operand_words, order_words, printed_certificate}
use Rattle.cert_format.specs.CertificateWords.{rule_word, walk_words}
use Rattle.cert_format.specs.Keywords.{spelled}
use Rattle.cert_format.specs.Limits.{most_line_number, most_written_weight}
use Rattle.cert_format.specs.declared.certificate.Certificate.{Certificate}
use Rattle.cert_format.specs.declared.certificate.Certificate.TheVariants.{Refutation, TableProof}
use Rattle.cert_format.specs.declared.entry.Entry.{Entry}
use Rattle.cert_format.specs.declared.kind.LineKind.{LineKind}
use Rattle.cert_format.specs.declared.kind.LineKind.TheVariants as kind
use Rattle.cert_format.specs.declared.line.CertLine.{CertLine}

-- ---- words
abbrev pub IsShort : List ℕ → Type 0
IsShort word = length word ≤ 32

short_rule : (k : LineKind) → IsShort (spelled (rule_word k))
short_rule (kind.Bound name) = omega arith
short_rule (kind.Link name) = omega arith
short_rule (kind.No i j) = omega arith
short_rule (kind.Up i j) = omega arith
short_rule (kind.Low name j) = omega arith
short_rule (kind.Cross name j) = omega arith
short_rule (kind.Drop j) = omega arith

short_entry_word : (label : Option (List ℕ)) → IsShort (spelled (entry_word label))
short_entry_word None = omega arith
short_entry_word (Some label) = omega arith

few_by : (few : ℕ) → nat_lt few 32 ≡ true → few + 1 ≤ 32
few_by few is = grind (arith, nat_tests)

pub short_name : (name : List ℕ) → is_name name ≡ true → IsShort name
unfolding is_name
short_name [] named = absurd (cc)
short_name (byte ∷ bytes) named =
    let parts = and_parts (is_letter byte && list_all is_name_byte bytes) (nat_lt (length bytes) 32) named in
    let few = few_by (length bytes) parts.1 in
    omega (arith, few)

pub short_number : (n : ℕ) → n ≤ most_line_number → IsShort (decimal n)
short_number n within = let short = length-decimal-le 20 n (omega arith) (omega (arith, within)) (omega (arith, within)) in omega (arith, short)

pub short_weight : (w : ℤ) → unsigned_abs w ≤ most_written_weight → IsShort (signed_decimal w)
short_weight (pos n) within = short_number n (omega (arith, within))
short_weight (negsuc n) within = let short = length-decimal-le 20 (suc n) (omega arith) (omega (arith, within)) (omega (arith, within)) in omega (arith, short)

-- ---- lines of words
-- a line of at most seven short words
abbrev pub IsShortLine : List (List ℕ) → Type 0
IsShortLine words = AllByRecursion IsShort words × (length words ≤ 7)

blanks_short : (others : List (List ℕ)) → AllByRecursion IsShort others → length (flat_map after_blank others) ≤ 33 * length others
blanks_short [] short = omega arith
blanks_short (word ∷ others) short =
    let on = blanks_short others short.1 in
    let size = length-append (after_blank word) (flat_map after_blank others) in
    omega (arith, on, size, short.0)

joined_short : (words : List (List ℕ)) → IsShortLine words → length (joined words) ≤ most_line
joined_short [] short = omega arith
joined_short (first ∷ others) (short, few) =
    let on = blanks_short others short.1 in
    let size = length-append first (flat_map after_blank others) in
    omega (arith, on, size, short.0, few)

pub both : {A : Type 0} (P : A → Type 0) (one other : List A) → AllByRecursion P one → AllByRecursion P other → AllByRecursion P (one ++ other)
both P [] other first second = second
both P (x ∷ one) other first second = (first.0, both P one other first.1 second)

short_operands : (k : LineKind) → AreOperands k → AllByRecursion IsShort (operand_words k) × (length (operand_words k) ≤ 2)
short_operands (kind.Bound name) ops = ((short_name name ops, tt), omega arith)
short_operands (kind.Link name) ops = ((short_name name ops, tt), omega arith)
short_operands (kind.No i j) ops = ((short_number i ops.0, (short_number j ops.1, tt)), omega arith)
short_operands (kind.Up i j) ops = ((short_number i ops.0, (short_number j ops.1, tt)), omega arith)
short_operands (kind.Low name j) ops = ((short_name name ops.0, (short_number j ops.1, tt)), omega arith)
short_operands (kind.Cross name j) ops = ((short_name name ops.0, (short_number j ops.1, tt)), omega arith)
short_operands (kind.Drop j) ops = ((short_number j ops, tt), omega arith)

short_label : (label : Option (List ℕ)) → IfSome label (λ l. IsTrue (is_name l)) → AllByRecursion IsShort (label_words label) × (length (label_words label) ≤ 1)
short_label None named = (tt, omega arith)
short_label (Some label) named = ((short_name label named, tt), omega arith)

short_line : (line : CertLine) → IsSpelledLine line → IsShortLine (line_words line)
short_line line spells =
    let ops = short_operands line.kind spells.operands in
    let label = short_label line.label spells.label in
    let last : List (List ℕ) = label_words line.label ++ signed_decimal line.weight ∷ [] in
    let one = length-append (operand_words line.kind) (line.from ∷ line.to ∷ last) in
    let two = length-append (label_words line.label) (signed_decimal line.weight ∷ []) in (
      (
        short_rule line.kind,
        both IsShort (operand_words line.kind) (line.from ∷ line.to ∷ last) ops.0
            (short_name line.from spells.from, (short_name line.to spells.to, both IsShort (label_words line.label) (signed_decimal line.weight ∷ []) label.0 (short_weight line.weight spells.weight, tt))),
      ),
      omega (arith, ops.1, label.1, one, two),
    )

short_walk : (i : ℕ) → i ≤ most_line_number → IsShortLine (walk_words i)
short_walk i within = ((omega arith, (short_number i within, tt)), omega arith)

short_order : (point : List ℕ) → IsTrue (is_name point) → IsShortLine (order_words point)
short_order point named = ((omega arith, (short_name point named, tt)), omega arith)

short_entry : (entry : Entry) → IsSpelledEntry entry → IsShortLine (entry_words entry)
short_entry entry spells =
    let to = short_label entry.to spells.to in
    let label = short_label entry.label spells.label in
    let last : List (List ℕ) = label_words entry.label ++ signed_decimal entry.weight ∷ [] in
    let one = length-append (label_words entry.to) last in
    let two = length-append (label_words entry.label) (signed_decimal entry.weight ∷ []) in (
      (
        short_entry_word entry.label,
        (
          short_name entry.from spells.from,
          both IsShort (label_words entry.to) last to.0 (both IsShort (label_words entry.label) (signed_decimal entry.weight ∷ []) label.0 (short_weight entry.weight spells.weight, tt)),
        ),
      ),
      omega (arith, to.1, label.1, one, two),
    )

-- ---- the lines of a certificate
pub short_each : {A : Type 0} (words : A → List (List ℕ)) (P : A → Type 0) → ((x : A) → P x → IsShortLine (words x)) → (xs : List A) → AllByRecursion P xs → AllByRecursion IsShortLine (map words xs)
short_each words P short [] all = tt
short_each words P short (x ∷ xs) all = (short x all.0, short_each words P short xs all.1)

short_header : IsShortLine header_words
short_header = ((omega arith, (omega arith, tt)), omega arith)

pub short_end : AllByRecursion IsShortLine (end_words ∷ [])
short_end = (((omega arith, tt), omega arith), tt)

all_short : (cert : Certificate) → IsSpelled cert → AllByRecursion IsShortLine (certificate_words cert)
all_short (Refutation rules walk) spells =
    let steps = short_each walk_words (λ i. i ≤ most_line_number) short_walk walk (recursion_from_All (λ i. i ≤ most_line_number) walk spells.1) in
    let first = short_each line_words IsSpelledLine short_line rules (recursion_from_All IsSpelledLine rules spells.0) in
    (short_header, (((omega arith, tt), omega arith), both IsShortLine (map line_words rules) _ first (both IsShortLine (map walk_words walk) (end_words ∷ []) steps short_end)))
all_short (TableProof order entries) spells =
    let rows = short_each entry_words IsSpelledEntry short_entry entries (recursion_from_All IsSpelledEntry entries spells.1) in
    let first = short_each order_words (λ point. IsTrue (is_name point)) short_order order (recursion_from_All (λ point. IsTrue (is_name point)) order spells.0) in
    (short_header, (((omega arith, tt), omega arith), both IsShortLine (map order_words order) _ first (both IsShortLine (map entry_words entries) (end_words ∷ []) rows short_end)))

-- ---- as they are read
abbrev pub AreShort : List (List ℕ) → Type 0
AreShort text = AllByRecursion (λ line. length line ≤ most_line) text

short_after : (line bytes rest : List ℕ) → length line + length bytes ≤ most_line → AreShort (lines_after [] rest) → AreShort (lines_after line (bytes ++ 10 ∷ rest))
short_after line [] rest few short = (omega (arith, few), short)
short_after line (byte ∷ bytes) rest few short =
    let longer = length-append line (byte ∷ []) in
    cond_both (byte == 10) (line ∷ lines_after [] (bytes ++ 10 ∷ rest)) (lines_after (line ++ byte ∷ []) (bytes ++ 10 ∷ rest)) (λ (ls : List (List ℕ)). AreShort ls)
    (λ ends. (omega (arith, few), short_after [] bytes rest (omega (arith, few)) short))
    (λ other. short_after (line ++ byte ∷ []) bytes rest (omega (arith, few, longer)) short)

pub lines_short : (text : List (List (List ℕ))) → AllByRecursion IsShortLine text → AreShort (lines (printed text))
lines_short [] short = subst AreShort (sym lines-nil) tt
lines_short (line ∷ text) short =
    let split : printed (line ∷ text) ≡ joined line ++ 10 ∷ printed text = append_assoc (joined line) (10 ∷ []) (printed text) in
    let on = subst AreShort (sym (lines_is (printed text))) (lines_short text short.1) in
    let few = joined_short line short.0 in
    subst AreShort (lines_is (joined line ++ 10 ∷ printed text) ∙ ap (λ (bytes : List ℕ). lines bytes) (sym split)) (short_after [] (joined line) (printed text) (omega (arith, few)) on)

pub certificate_lines_short : (cert : Certificate) → IsSpelled cert → AllByRecursion (λ line. length line ≤ most_line) (lines (printed_certificate cert))
unfolding printed_certificate
certificate_lines_short cert spells = lines_short (certificate_words cert) (all_short cert spells)

-- ---- how many there are
many_printed : (text : List (List (List ℕ))) → length text ≤ length (printed text)
many_printed [] = omega arith
many_printed (line ∷ text) =
    let on = many_printed text in
    let size = length-append (printed_line line) (printed text) in
    let end = length-append (joined line) (10 ∷ []) in
    omega (arith, on, size, end)

-- how many rule lines a certificate has
abbrev pub rule_lines : Certificate → ℕ
rule_lines (Refutation rules walk) = length rules
rule_lines (TableProof order entries) = 0

pub rule_lines_few : (cert : Certificate) → rule_lines cert ≤ length (printed_certificate cert)
unfolding printed_certificate
rule_lines_few (Refutation rules walk) =
    let many = many_printed (certificate_words (Refutation rules walk)) in
    let size = length-append (map line_words rules) (map walk_words walk ++ end_words ∷ []) in
    let count = length-map rules line_words in
    omega (arith, many, size, count)
rule_lines_few (TableProof order entries) = omega arith
