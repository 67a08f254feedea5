-- The first words of the lines of a certificate.
use Rattle.std.specs.Prelude.{ℕ, Bool, true, false, List, [], ◌∷◌, Option, codes, find}
use Rattle.std.specs.Str.{bytes_eq}
use Rattle.cert_format.specs.declared.keyword.Keyword.{Keyword}
use Rattle.cert_format.specs.declared.keyword.Keyword.TheVariants.{Certificate, Refutation, Table, Bound, Link, No, Up, Low, Cross, Drop, Walk, Order, Edge}
use Rattle.cert_format.specs.declared.keyword.Keyword.TheVariants.{Upper, End}

-- how a first word is written
abbrev pub spelled : Keyword → List ℕ
spelled Certificate = codes "certificate"
spelled Refutation = codes "refutation"
spelled Table = codes "table"
spelled Bound = codes "bound"
spelled Link = codes "link"
spelled No = codes "no"
spelled Up = codes "up"
spelled Low = codes "low"
spelled Cross = codes "cross"
spelled Drop = codes "drop"
spelled Walk = codes "walk"
spelled Order = codes "order"
spelled Edge = codes "edge"
spelled Upper = codes "upper"
spelled End = codes "end"

-- all first words
abbrev pub keywords : List Keyword
keywords = Certificate ∷ Refutation ∷ Table ∷ Bound ∷ Link ∷ No ∷ Up ∷ Low ∷ Cross ∷ Drop ∷ Walk ∷ Order ∷ Edge ∷ Upper ∷ End ∷ []

-- the first word that a word is
abbrev pub keyword_of : List ℕ → Option Keyword
keyword_of word = find (λ keyword. bytes_eq word (spelled keyword)) keywords

-- the first words of the lines of a refutation after its second one
abbrev pub is_of_refutation : Keyword → Bool
is_of_refutation Certificate = false
is_of_refutation Refutation = false
is_of_refutation Table = false
is_of_refutation Order = false
is_of_refutation Edge = false
is_of_refutation Upper = false
is_of_refutation others = true

-- the first words of the lines of a table proof after its second one
abbrev pub is_of_table : Keyword → Bool
is_of_table Order = true
is_of_table Edge = true
is_of_table Upper = true
is_of_table End = true
is_of_table others = false
