-- The first words of the lines of a strong certificate, and the forms of these lines after them.
use Rattle.std.specs.Prelude.{ℕ, List, [], ◌∷◌, Option, None, Some, codes, find}
use Rattle.std.specs.Str.{bytes_eq}
use Rattle.net_model.specs.Places.{of_name, Form}
use Rattle.cert_format.specs.LineForms.{of_weight}
use Rattle.cert_format.specs.declared.strong_read.StrongTextLine.{StrongTextLine}
use Rattle.cert_format.specs.declared.strong_read.StrongTextLine.TheVariants as text
use Rattle.cert_format.specs.declared.strong_word.StrongWord.{StrongWord}
use Rattle.cert_format.specs.declared.strong_word.StrongWord.TheVariants.{Strong, By, Ring, End}

-- how a first word is written
abbrev pub spelled : StrongWord → List ℕ
spelled Strong = codes "strong"
spelled By = codes "by"
spelled Ring = codes "ring"
spelled End = codes "end"

-- all first words
abbrev pub first_words : List StrongWord
first_words = Strong ∷ By ∷ Ring ∷ End ∷ []

-- the first word that a word is
abbrev pub strong_word_of : List ℕ → Option StrongWord
strong_word_of word = find (λ first. bytes_eq word (spelled first)) first_words

-- BOUND FROM TO W, and POINT
abbrev pub by_form : Form StrongTextLine
by_form = record {
  places = of_name ∷ of_name ∷ of_name ∷ of_weight ∷ [];
  make = λ bound from to weight. text.By (record { bound = bound; from = from; to = to; weight = weight });
}

abbrev pub ring_form : Form StrongTextLine
ring_form = record { places = of_name ∷ []; make = text.Ring }

abbrev pub end_form : Form StrongTextLine
end_form = record { places = []; make = text.End }

-- the form of a line after its first word; a line that begins with `strong` is the header or none
abbrev pub form_of : StrongWord → Option (Form StrongTextLine)
form_of Strong = None
form_of By = Some by_form
form_of Ring = Some ring_form
form_of End = Some end_form
