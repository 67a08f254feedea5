-- A line of a strong certificate by its first word: what is read of it is what it says, and what is spelled is read back.
use Rattle.std.proofs.Common.{◌≡◌, ℕ, List, [], ◌∷◌, Ok, refl, ap, subst, arith, codes}
use Rattle.std.specs.Fmt.{signed_decimal}
use Rattle.net_model.proofs.ReadWordLemmas.{name_read}
use Rattle.net_model.proofs.DecimalSpellingLemmas.{printable_name}
use Rattle.sectioned_texts.specs.Reading.{line_after}
use Rattle.sectioned_texts.specs.Spellings.{Spell}
use Rattle.sectioned_texts.proofs.FirstWordLemmas.{one_said, said_by}
use Rattle.sectioned_texts.proofs.SpelledTexts.{IsFirstWord, IsReadBack, plain_printable}
use Rattle.cert_format.specs.StrongForms.{spelled, by_form, ring_form, end_form}
use Rattle.cert_format.specs.StrongGrammar.{IsSpelledText, strong_spelling, strong_lines}
use Rattle.cert_format.specs.declared.strong_word.StrongWord.{StrongWord}
use Rattle.cert_format.specs.declared.strong_word.StrongWord.TheVariants as word
use Rattle.cert_format.specs.declared.strong_read.StrongTextLine.{StrongTextLine}
use Rattle.cert_format.specs.declared.strong_read.StrongTextLine.TheVariants as text
use Rattle.cert_format.proofs.WordLemmas.{weight_read}
use Rattle.cert_format.proofs.LineLemmas.{printable_one, printable_weight}

-- a first word and what follows it spell this
abbrev Says : StrongWord → StrongTextLine → List (List ℕ) → Type 0
Says first said others = Spell strong_spelling said (spelled first ∷ others)

header_says : (others : List (List ℕ)) (said : StrongTextLine) → line_after strong_lines word.Strong others ≡ Ok said → Says word.Strong said others
header_says others said read =
    let (words, same) = one_said text.Header said others read in
    subst (λ (t : StrongTextLine). Says word.Strong t others) same (ap (λ (ws : List (List ℕ)). codes "strong" ∷ ws) words, tt)

pub line_says : (first : StrongWord) (others : List (List ℕ)) (said : StrongTextLine) → line_after strong_lines first others ≡ Ok said → Says first said others
line_says word.Strong others said read = header_says others said read
line_says word.By others said read = said_by by_form (Says word.By) others said (tt, (tt, (tt, (omega arith, tt))))
    (λ v s. (refl, record { bound = s.0; from = s.1.0; to = s.1.1.0; weight = s.1.1.1.0 })) read
line_says word.Ring others said read = said_by ring_form (Says word.Ring) others said (tt, tt) (λ v s. (refl, s.0)) read
line_says word.End others said read = said_by end_form (Says word.End) others said tt (λ v s. (refl, tt)) read

pub first_word : (first : StrongWord) → IsFirstWord strong_lines first
first_word word.Strong = record { found = refl; filled = refl; printable = plain_printable _ _ refl }
first_word word.By = record { found = refl; filled = refl; printable = plain_printable _ _ refl }
first_word word.Ring = record { found = refl; filled = refl; printable = plain_printable _ _ refl }
first_word word.End = record { found = refl; filled = refl; printable = plain_printable _ _ refl }

-- the first word of a line, by what it says
abbrev pub text_word : StrongTextLine → StrongWord
text_word text.Blank = word.End
text_word text.Header = word.Strong
text_word (text.By line) = word.By
text_word (text.Ring point) = word.Ring
text_word text.End = word.End

pub read_back : (said : StrongTextLine) → IsSpelledText said → IsReadBack strong_lines strong_spelling text_word said
read_back text.Blank spelled = absurd spelled
read_back text.Header spelled = record { others = codes "1" ∷ []; words = refl; read = refl; printable = (printable_one, tt) }
read_back (text.By line) spelled = record {
  others = line.bound ∷ line.from ∷ line.to ∷ signed_decimal line.weight ∷ [];
  words = refl;
  read = rw (name_read line.bound spelled.bound, name_read line.from spelled.from, name_read line.to spelled.to, weight_read line.weight spelled.weight) refl;
  printable = (printable_name line.bound spelled.bound, (printable_name line.from spelled.from, (printable_name line.to spelled.to, (printable_weight line.weight spelled.weight, tt))));
}
read_back (text.Ring point) spelled = record { others = point ∷ []; words = refl; read = rw (name_read point spelled) refl; printable = (printable_name point spelled, tt) }
read_back text.End spelled = record { others = []; words = refl; read = refl; printable = tt }
